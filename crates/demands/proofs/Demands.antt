-- The three demands, sentence by sentence, as theorems on what the calls promise (`specs/Calls.antt`). Nothing here says how a call works: the
-- theorems cite the definitions of documents 01 and 02 alone. A list of bytes that a call is lent is a list of numbers below 256 (`Bytes`).
use Prim.Native.Nat.{ℕ, ◌+◌, ◌*◌, ◌/◌, ◌<◌, ◌≤◌}
use mathlib.Core.Path.{◌≡◌, refl, sym, ap, ap₂, ◌∙◌, subst}
use mathlib.Core.Bool.{Bool, false, true≢false}
use mathlib.Core.Logic.{◌⊎◌, inl, inr, ◌↔◌}
use mathlib.Core.List.{List, [], ◌++◌, map}
use native.Mathlib.Omega.{arith}
use borrow.Author.Tests.{eqb-true, eq-eqb, leb-true, le-leb}
use lib.Dec.{eqb, leb}
use lib.ListN.{length, get_or}
use Rattle.field.specs.Field.{◌⊕◌}
use Rattle.field.specs.Bytes.{Bytes, over}
use Rattle.field.specs.Row.{row}
use Rattle.field.proofs.Xor.{add_self}
use Rattle.field.proofs.Powers.{sum_zero}
use Rattle.field.proofs.Cases.{zero_or_not, same_or_not}
use Rattle.points.specs.Points.{points, parity_sum}
use Rattle.points.proofs.Distinct.{points_distinct}
use Rattle.stripe.specs.declared.Shape.{Shape}
use Rattle.stripe.specs.Shape.{shape_refusal, most_rows, columns, stripe_length}
use Rattle.stripe.specs.Stripe.{by_points, across, row_at, check_sum, parity_byte, parity, data_of, parity_of, Codeword, Ascending, Agree, plain_runs}
use Rattle.stripe.specs.Column.{lent_refusal}
use Rattle.coding.specs.Encode.{encoded}
use Rattle.checking.specs.Check.{first_wrong, FirstDisagreement}
use Rattle.lost.specs.Positions.{positions}
use Rattle.mending.specs.Mend.{mend_refusal}
use Rattle.plan.specs.declared.Span.{Span}
use Rattle.plan.specs.Plan.{fold_refusal, columns_read, bytes_read, plan, summed, wide_shape}
use Rattle.plan.specs.Cost.{columns_needed, bandwidth_needed}
use Rattle.fold.specs.Fold.{fold_of, fold_verdict, fold_filled, cut_out, wide_data, wide_stripe, disagreement}
use Rattle.record.specs.Layout.{record_of, survivors, restored}
use Rattle.writing.specs.Writing.{Written, LaidOut}
use Rattle.record.specs.Reading.{Got, shape_read, first_of, unless, count_of, lost_listed, columns_filled, positions_filled}
use Rattle.record.specs.Reading.{stripe_refusal, content_refusal, read_refusal}
use Rattle.record.specs.Reading.{got_of}
use Rattle.writing.specs.Writing.{write_refusal}
use Rattle.answer.specs.Answer.{Answer, described}
use Rattle.text.specs.Text.{text_room}
use Rattle.shelf.specs.Shelf.{shape_of, spans_refusal, spans_filled}
use Rattle.shelf.specs.Records.{read_number, numbers_of}
use Rattle.demands.specs.Calls.{PlanColumnsWritten, PlanColumnsSum, PlanBytesWritten, PlanBytesSum}
use Rattle.demands.specs.Calls.{Names, Encodes, Mends, Folds, PlanRefuses, PlanColumns, PlanBytes, PlanSpans, Column, Reads, Writes, MendsRecord, Prints}
use Rattle.demands.specs.Calls.{encode_table, mend_table, plan_table, fold_table, spans_table, read_table, write_table, RecordJudged, mended_answer}
use Rattle.demands.specs.Calls.{refused_answer, text_with}
use Rattle.demands.specs.Calls.{Checks, ReadsRecord, WritesRecord, check_table, read_record_table}
use Rattle.stripe.proofs.Allowed.{allowed, few_by_rows, many_by_points, points_fit, prepared_by_rows}
use Rattle.stripe.proofs.Places.{parity_at, parity_below, parity_from, plain_parity}
use Rattle.stripe.proofs.Codewords.{codeword_checks, encoded_codeword}
use Rattle.equations.proofs.Codes.{determined, completed}
use Rattle.stripe.proofs.Lent.{lent, column_empty, column_refused, column_past}
use Rattle.mending.proofs.Outcome.{mended-one, counts_for_nothing}
use Rattle.plan.proofs.Foldable.{foldable, prepared_b}
use Rattle.plan.proofs.Counted.{columns_counted, bytes_counted}
use Rattle.plan.proofs.Costs.{plain_columns, plain_bytes, prepared_bytes}
use Rattle.plan.proofs.Refusals.{no_columns, no_bytes, no_columns_written, no_bytes_written}
use Rattle.fold.proofs.Cut.{cut_length}
use Rattle.fold.proofs.Shows.{named_few, folded_parity, one_shows}
use Rattle.fold.proofs.Pointed.{stale_shows}
use Rattle.record.proofs.Refusals.{first_zero, skip, end, stripe_lawful}
use Rattle.record.proofs.Accepted.{unless-zero}
use Rattle.writing.proofs.Inverse.{accepts, accepts_no_other, count_back, filled_back, bytes_back}
use Rattle.demands.proofs.Contracts.{AllMet, all_met}
use Rattle.demands.proofs.Answers.{done, left, got_number, written_number, Outcome, passed}
use Rattle.demands.proofs.Mended.{record_judged, laid_shape, laid_lost, laid_described}
use Rattle.demands.proofs.Runs.{in_run}
use Rattle.demands.proofs.Sums.{points_here, from_parity, new_sums}
use Rattle.demands.proofs.Named.{names_parity, parity_named_lem}
use Rattle.demands.proofs.Tables.{encode_table_lem, mend_table_lem, plan_table_lem, fold_table_lem, spans_table_lem, read_table_lem, write_table_lem}
use Rattle.demands.proofs.Tables.{check_table_lem, read_record_table_lem}
use Rattle.demands.proofs.Checked.{both_stay, first_left, codeword_0, other_8}
use Rattle.demands.proofs.Recorded.{lent_read, as_read, number_read, numbers_read}

-- ---- Demand 1
-- "Every entry point takes all numbers and bytes as they come, ends, and answers or refuses exactly as document 01's table and order say. A refusal
-- changes no lent byte."

-- Every entry point meets its contract: for all that it is lent a run of it is safe and ends. In `Contracts.antt`: none asks anything of its caller
-- (`encode_asks_nothing` and so on), and what each promises is the relation cited below (`encode_promises` and so on).
pub demand_1_ends : {M : Type 1} → AllMet M
demand_1_ends = all_met

-- It answers the first refusal of its table, else 0; and where it refuses, what was lent stays.
module _ (k r t l : ℕ) where
  abbrev asked : Shape
  asked = shape_of k r t l

  pub demand_1_encode : (ds ps : List ℕ) (v : ℕ) (ps' : List ℕ) → Encodes k r t l ds ps v ps'
      → (v ≡ first_of (encode_table asked (length ds) (length ps))) × ((v ≡ 0 → ⊥) → ps' ≡ ps)
  unfolding encoded
  demand_1_encode ds ps v ps' p = (
    p.0 ∙ encode_table_lem asked (length ds) (length ps),
    λ h. p.1 ∙ left (lent_refusal asked (length ds) (length ps)) (parity asked ds) ps (λ z. h (p.0 ∙ z)),
  )

  -- the check: with 8 the two numbers are the first parity column and place that disagree, with any other answer they stay
  pub demand_1_check : (ds ps : List ℕ) (x y v x' y' : ℕ) → Checks k r t l ds ps x y v x' y'
      → (v ≡ first_of (check_table asked ds ps))
      × ((v ≡ 8 → FirstDisagreement asked ds ps x' y')
      × ((v ≡ 8 → ⊥) → (x' ≡ x) × (y' ≡ y)))
  demand_1_check ds ps x y v x' y' p = (
    p.0 ∙ check_table_lem asked ds ps,
    (
      λ e. first_left asked ds ps x y x' y' p.1.0 p.1.1 (sym p.0 ∙ e),
      λ h. let stay = both_stay (first_wrong asked ds ps) x y (λ e. h (p.0 ∙ e)) in (p.1.0 ∙ stay.0, p.1.1 ∙ stay.1),
    ),
  )

  -- mending: 8 comes last, and demand 2 says when
  pub demand_1_mend : (xs ls : List ℕ) (v : ℕ) (xs' : List ℕ) → Mends k r t l xs ls v xs'
      → ((first_of (mend_table asked (length xs) ls) ≡ 0 → ⊥) → v ≡ first_of (mend_table asked (length xs) ls))
      × ((first_of (mend_table asked (length xs) ls) ≡ 0 → (v ≡ 0) ⊎ (v ≡ 8))
      × ((v ≡ 0 → ⊥) → xs' ≡ xs))
  demand_1_mend xs ls v xs' p = (
    λ h. (p.refused (λ z. h (sym e ∙ z))).0 ∙ e,
    (λ z. answered (p.judged (e ∙ z)), λ h. go (zero_or_not (mend_refusal asked (length xs) ls)) h),
  )
    where
      e : mend_refusal asked (length xs) ls ≡ first_of (mend_table asked (length xs) ls)
      e = mend_table_lem asked (length xs) ls

      answered : Outcome asked xs ls v xs' → (v ≡ 0) ⊎ (v ≡ 8)
      answered (inl a) = inl a.0
      answered (inr a) = inr a.0

      stays : Outcome asked xs ls v xs' → (v ≡ 0 → ⊥) → xs' ≡ xs
      stays (inl a) h = absurd (h a.0)
      stays (inr a) h = a.1.0

      go : (mend_refusal asked (length xs) ls ≡ 0) ⊎ (mend_refusal asked (length xs) ls ≡ 0 → ⊥) → (v ≡ 0 → ⊥) → xs' ≡ xs
      go (inl z) h = stays (p.judged z) h
      go (inr n) h = (p.refused n).1

  module _ (n f : ℕ) where
    pub demand_1_fold : (xs ps : List ℕ) (v : ℕ) (ps' : List ℕ) → Folds k r t l n f xs ps v ps'
        → (v ≡ first_of (fold_table asked n f (length xs) (length ps))) × ((v ≡ 0 → ⊥) → ps' ≡ ps)
    unfolding fold_filled
    demand_1_fold xs ps v ps' p = (
      p.0 ∙ fold_table_lem asked n f (length xs) (length ps),
      λ h. p.1 ∙ left (fold_verdict asked n f (length xs) (length ps)) _ ps (λ z. h (p.0 ∙ z)),
    )

    pub demand_1_plan_refusal : (v : ℕ) → PlanRefuses k r t l n f v → v ≡ first_of (plan_table asked n f [])
    demand_1_plan_refusal v p = p ∙ plan_table_lem asked n f

    -- the counts of a refused plan are 0
    pub demand_1_plan_counts : (v w : ℕ) → PlanColumns k r t l n f v → PlanBytes k r t l n f w → (first_of (plan_table asked n f []) ≡ 0 → ⊥)
        → (v ≡ 0) × (w ≡ 0)
    unfolding columns_read bytes_read
    demand_1_plan_counts v w p q h =
        let refused : fold_refusal asked n f ≡ 0 → ⊥ = λ z. h (sym (plan_table_lem asked n f) ∙ z) in
        (p ∙ left (fold_refusal asked n f) _ 0 refused, q ∙ left (fold_refusal asked n f) _ 0 refused)

    -- so are those of what it would write, and the sums
    pub demand_1_plan_written : (v w x y : ℕ) → PlanColumnsWritten k r t l n f v → PlanColumnsSum k r t l n f w
        → PlanBytesWritten k r t l n f x → PlanBytesSum k r t l n f y → (first_of (plan_table asked n f []) ≡ 0 → ⊥)
        → (v ≡ 0) × ((w ≡ 0) × ((x ≡ 0) × (y ≡ 0)))
    demand_1_plan_written v w x y p q a b h =
        let refused : fold_refusal asked n f ≡ 0 → ⊥ = λ z. h (sym (plan_table_lem asked n f) ∙ z) in (
          p ∙ sym (no_columns_written asked n f refused),
          (
            q ∙ sym (ap₂ ◌+◌ (no_columns asked n f refused) (no_columns_written asked n f refused)),
            (a ∙ sym (no_bytes_written asked n f refused), b ∙ sym (ap₂ ◌+◌ (no_bytes asked n f refused) (no_bytes_written asked n f refused))),
          ),
        )

    pub demand_1_plan_spans : (xs : List Span) (v : ℕ) (xs' : List Span) → PlanSpans k r t l n f xs v xs'
        → (v ≡ first_of (spans_table asked n f (length xs))) × ((v ≡ 0 → ⊥) → xs' ≡ xs)
    unfolding spans_filled
    demand_1_plan_spans xs v xs' p = (
      p.0 ∙ spans_table_lem asked n f (length xs),
      λ h. p.1 ∙ left (spans_refusal asked n f (length xs)) _ xs (λ z. h (p.0 ∙ z)),
    )

-- the column question: an empty part exactly for 1, 2, 5 or a position not below n
pub demand_1_column : (s : Shape) (ds ps : List ℕ) (c : ℕ) (v : List ℕ) → Column s ds ps c v
    → (v ≡ []) ↔ ((first_of (encode_table s (length ds) (length ps)) ≡ 0 → ⊥) ⊎ (columns s ≤ c))
demand_1_column s ds ps c v p =
    (λ e. empty e (zero_or_not (lent_refusal s (length ds) (length ps))), refused (zero_or_not (lent_refusal s (length ds) (length ps))))
  where
    e : lent_refusal s (length ds) (length ps) ≡ first_of (encode_table s (length ds) (length ps))
    e = encode_table_lem s (length ds) (length ps)

    empty : v ≡ [] → (lent_refusal s (length ds) (length ps) ≡ 0) ⊎ (lent_refusal s (length ds) (length ps) ≡ 0 → ⊥)
        → (first_of (encode_table s (length ds) (length ps)) ≡ 0 → ⊥) ⊎ (columns s ≤ c)
    empty g (inl z) = inr (column_empty s ds ps c (sym p ∙ g) z)
    empty g (inr n) = inl (λ z. n (e ∙ z))

    refused : (lent_refusal s (length ds) (length ps) ≡ 0) ⊎ (lent_refusal s (length ds) (length ps) ≡ 0 → ⊥)
        → (first_of (encode_table s (length ds) (length ps)) ≡ 0 → ⊥) ⊎ (columns s ≤ c) → v ≡ []
    refused (inr n) w = p ∙ column_refused s ds ps c n
    refused (inl z) (inl h) = absurd (h (sym e ∙ z))
    refused (inl z) (inr h) = p ∙ column_past s ds ps c z h

-- reading and writing a record
pub demand_1_read : (bs xs es : List ℕ) (v : Got) (xs' es' : List ℕ) → Reads bs xs es v xs' es'
    → (v.number ≡ first_of (read_table bs (length xs) (length es))) × ((v.number ≡ 0 → ⊥) → (xs' ≡ xs) × (es' ≡ es))
demand_1_read bs xs es v xs' es' p =
    let refusal = read_refusal bs (length xs) (length es) in
    let number : v.number ≡ refusal = got_number bs xs es v xs' es' p in (
      number ∙ read_table_lem bs (length xs) (length es),
      λ h. (p.1.0 ∙ left refusal _ xs (λ z. h (number ∙ z)), p.1.1 ∙ left refusal _ es (λ z. h (number ∙ z))),
    )

pub demand_1_write : (s : Shape) (xs es out : List ℕ) (v : Written) (out' : List ℕ) → Writes s xs es out v out'
    → (v.number ≡ first_of (write_table s xs es (length out))) × ((v.number ≡ 0 → ⊥) → out' ≡ out)
demand_1_write s xs es out v out' p =
    let refusal = write_refusal s xs es (length out) in
    let number : v.number ≡ refusal = written_number s xs es out v out' p in
    (number ∙ write_table_lem s xs es (length out), λ h. p.1 ∙ left refusal _ out (λ z. h (number ∙ z)))

-- the same for C; the five numbers and the record's length are written with 0 alone
pub demand_1_read_record : (bs xs es ns : List ℕ) (v : ℕ) (xs' es' ns' : List ℕ) → ReadsRecord bs xs es ns v xs' es' ns'
    → (v ≡ first_of (read_record_table bs (length xs) (length es) (length ns))) × ((v ≡ 0 → ⊥) → (xs' ≡ xs) × ((es' ≡ es) × (ns' ≡ ns)))
demand_1_read_record bs xs es ns v xs' es' ns' p =
    let number = read_number bs xs es ns in (
      p.0 ∙ read_record_table_lem bs xs es ns,
      λ h.
          let refused : number ≡ 0 → ⊥ = λ z. h (p.0 ∙ z) in
          (p.1.0 ∙ left number _ xs refused, (p.1.1.0 ∙ left number _ es refused, p.1.1.1 ∙ left number _ ns refused)),
    )

pub demand_1_write_record : (k r t l : ℕ) (xs es out : List ℕ) (n v : ℕ) (out' : List ℕ) (n' : ℕ) → WritesRecord k r t l xs es out n v out' n'
    → (v ≡ first_of (write_table (shape_of k r t l) xs es (length out))) × ((v ≡ 0 → ⊥) → (out' ≡ out) × (n' ≡ n))
demand_1_write_record k r t l xs es out n v out' n' p =
    let refusal = write_refusal (shape_of k r t l) xs es (length out) in (
      p.0 ∙ write_table_lem (shape_of k r t l) xs es (length out),
      λ h. (p.1.0 ∙ left refusal _ out (λ z. h (p.0 ∙ z)), p.1.1 ∙ left refusal _ n (λ z. h (p.0 ∙ z))),
    )

-- A record mended: the number is the first of reading's table, else 7, 8 or 0 as the stripe read is mended (`RecordJudged`). With 0 the shape and the
-- number of lost columns are reported, and the mended stripe and the lost positions stand at the fronts of the buffer and the list; what follows
-- stays. A refusal reports zeros and leaves both.
pub demand_1_mend_record : (bs xs es : List ℕ) (v : Answer) (xs' es' : List ℕ) → MendsRecord bs xs es v xs' es'
    → (ys : List ℕ)
    × (RecordJudged bs (length xs) (length es) v.number ys
    × ((v.number ≡ 0 → (v ≡ mended_answer bs) × ((xs' ≡ over xs 0 ys) × (es' ≡ over es 0 (lost_listed bs))))
    × ((v.number ≡ 0 → ⊥) → (v ≡ refused_answer v.number) × ((xs' ≡ xs) × (es' ≡ es)))))
demand_1_mend_record bs xs es v xs' es' p = (
  p.bytes,
  (
    record_judged bs (length xs) (length es) v.number p.bytes p.outcome,
    (
      λ z. (
        p.reported ∙ done v.number (mended_answer bs) (refused_answer v.number) z,
        (
          p.stripe ∙ done v.number _ xs z,
          p.list ∙ done v.number _ es z,
        ),
      ),
      λ h. (
        p.reported ∙ left v.number (mended_answer bs) (refused_answer v.number) h,
        (p.stripe ∙ left v.number _ xs h, p.list ∙ left v.number _ es h),
      ),
    ),
  ),
)

-- What such a record describes is what is laid out: the shape, the lost positions, and the bytes of every surviving column.
pub demand_1_described : (bs : List ℕ) (w : LaidOut bs)
    → (shape_read bs ≡ w.shape) × ((lost_listed bs ≡ w.lost) × Agree w.shape w.lost w.stripe (described bs))
demand_1_described bs w = (laid_shape bs w, (laid_lost bs w, laid_described bs w))

-- The program's text: with room for 140,000 bytes the text of the record's outcome stands at the front, the answer is its length, and what follows
-- stays. With less room the answer is 0, and all stays.
pub demand_1_answer : (bs out : List ℕ) (v : ℕ) (out' : List ℕ) → Prints bs out v out'
    → (length out < text_room → (v ≡ 0) × (out' ≡ out))
    × (text_room ≤ length out
    → (n : ℕ)
    × ((ys : List ℕ)
    × (RecordJudged bs 65536 258 n ys × ((v ≡ length (text_with bs n ys)) × (out' ≡ over out 0 (text_with bs n ys))))))
demand_1_answer bs out v out' p = (
  p.cramped,
  λ h.
      let f = p.roomy h in
      let t = f.program in (
        t.number,
        (
          t.bytes,
          (
            record_judged bs 65536 258 t.number t.bytes t.outcome,
            (
              f.long ∙ ap length t.lines,
              f.bytes ∙ ap (over out 0) t.lines,
            ),
          ),
        ),
      ),
)

-- ---- Demand 2
-- "Parity is the published merge-regime code over GF(256), with piggybacks in prepared stripes. At most r lost columns are mended to the only codeword
-- that agrees with every survivor, and refused as disagreeing exactly when there is none. What lay in the lost columns counts for nothing. Records
-- follow the stated layout."

-- What encoding fills in is the parity, and with the data it is a codeword.
pub demand_2_parity : (k r t l : ℕ) (ds ps : List ℕ) (v : ℕ) (ps' : List ℕ) → Encodes k r t l ds ps v ps' → v ≡ 0
    → ps' ≡ parity (shape_of k r t l) ds
unfolding encoded
demand_2_parity k r t l ds ps v ps' p z =
    p.1 ∙ done (lent_refusal (shape_of k r t l) (length ds) (length ps)) (parity (shape_of k r t l) ds) ps (sym p.0 ∙ z)

pub demand_2_codeword : (k r t l : ℕ) (ds ps : List ℕ) (v : ℕ) (ps' : List ℕ) → Bytes ds → Encodes k r t l ds ps v ps' → v ≡ 0
    → Codeword (shape_of k r t l) (ds ++ ps')
demand_2_codeword k r t l ds ps v ps' b p z =
    subst (λ (qs : List ℕ). Codeword (shape_of k r t l) (ds ++ qs)) (sym (demand_2_parity k r t l ds ps v ps' p z))
    (encoded_codeword (shape_of k r t l) ds b (lent (shape_of k r t l) (length ds) (length ps) (sym p.0 ∙ z)).data_long)

-- Where numbers and lengths are in order the check answers 0 for a codeword and 8 for any other stripe; elsewhere it answers neither.
pub demand_2_check : (k r t l : ℕ) (ds ps : List ℕ) (x y v x' y' : ℕ) → Bytes ds → Bytes ps → Checks k r t l ds ps x y v x' y'
    → ((v ≡ 0) ↔ ((first_of (encode_table (shape_of k r t l) (length ds) (length ps)) ≡ 0) × Codeword (shape_of k r t l) (ds ++ ps)))
    × ((v ≡ 8) ↔ ((first_of (encode_table (shape_of k r t l) (length ds) (length ps)) ≡ 0) × (Codeword (shape_of k r t l) (ds ++ ps) → ⊥)))
demand_2_check k r t l ds ps x y v x' y' bd bp p =
    let zero = codeword_0 (shape_of k r t l) ds ps bd bp in
    let eight = other_8 (shape_of k r t l) ds ps bd bp in
    ((λ e. zero.0 (sym p.0 ∙ e), λ w. p.0 ∙ zero.1 w), (λ e. eight.0 (sym p.0 ∙ e), λ w. p.0 ∙ eight.1 w))

-- In a plain stripe with r up to 3 parity column i holds at each place row i of the data bytes there: the sum over c of g^(c*i) times the byte of
-- column c.
pub demand_2_plain : (s : Shape) → shape_refusal s ≡ 0 → s.r ≤ most_rows → s.t ≡ 0 → (ds : List ℕ) (i p : ℕ) → i < s.r → p < s.l
    → get_or (parity s ds) (i * s.l + p) 0 ≡ row i (across ds s.l p 0 s.k)
unfolding row_at
demand_2_plain s h few plain ds i p hi hp = parity_at s ds i p hi hp ∙ plain_parity s ds i p (allowed s h) (few_by_rows s few) plain hp

-- In a prepared stripe parity column i, run j, holds row i of run j if j < r; if j >= r, row i of run j plus row j of run i.
module _ (s : Shape) (h : shape_refusal s ≡ 0) (prepared : s.t ≡ 0 → ⊥) (ds : List ℕ) (i j e : ℕ) (hi : i < s.r) (hj : j < s.t) (he : e < s.l / s.t) where
  by_rows : by_points s ≡ false
  by_rows = prepared_by_rows s (allowed s h) (omega arith)

  pub demand_2_prepared : j < plain_runs s
      → get_or (parity s ds) (i * s.l + (j * (s.l / s.t) + e)) 0 ≡ row i (across ds s.l (j * (s.l / s.t) + e) 0 s.k)
  unfolding row_at
  demand_2_prepared low =
      let at = in_run s h prepared j e hj he in
      parity_at s ds i _ hi at.inside ∙ parity_below s ds i _ by_rows (subst (λ (x : ℕ). x < plain_runs s) (sym at.run) low)

  pub demand_2_piggyback : plain_runs s ≤ j
      → get_or (parity s ds) (i * s.l + (j * (s.l / s.t) + e)) 0
      ≡ row i (across ds s.l (j * (s.l / s.t) + e) 0 s.k) ⊕ row j (across ds s.l (i * (s.l / s.t) + e) 0 s.k)
  unfolding row_at
  demand_2_piggyback high =
      let at = in_run s h prepared j e hj he in
      parity_at s ds i _ hi at.inside ∙ parity_from s ds i _ by_rows (subst (λ (x : ℕ). plain_runs s ≤ x) (sym at.run) high)
      ∙ ap (λ (x : ℕ). row_at s ds i (j * (s.l / s.t) + e) ⊕ x) (ap₂ (row_at s ds) at.run (ap₂ (λ (w b : ℕ). i * w + b) at.width at.byte))

-- With r above 3 (document 02, request 6) data column i has the point g^i, parity column j the point g^(254-j) (`points`), and a stripe of bytes is a
-- codeword exactly when at each place p, for every u below r, the sum over all positions of point^u times byte is zero (`check_sum`).
pub demand_2_codeword_equations : (s : Shape) → shape_refusal s ≡ 0 → most_rows < s.r → (xs : List ℕ) → Bytes xs → length xs ≡ stripe_length s
    → Codeword s xs ↔ ((p u : ℕ) → p < s.l → u < s.r → check_sum s xs p u ≡ 0)
demand_2_codeword_equations s h above xs b long =
    let here = many_by_points s above (allowed s h).parity_most in (
      λ w. w.sums here,
      λ zeros. record { bytes = b; long = long; exact = λ rows. absurd (true≢false (sym here ∙ rows)); sums = λ e. zeros },
    )

-- All these sums are zero for the data followed by what encoding fills in.
pub demand_2_equations : (k r t l : ℕ) (ds ps : List ℕ) (v : ℕ) (ps' : List ℕ) → Bytes ds → Encodes k r t l ds ps v ps' → v ≡ 0 → most_rows < r
    → (p u : ℕ) → p < l → u < r → check_sum (shape_of k r t l) (ds ++ ps') p u ≡ 0
demand_2_equations k r t l ds ps v ps' b p z above =
    let passed = (lent (shape_of k r t l) (length ds) (length ps) (sym p.0 ∙ z)).shape in
    (demand_2_codeword k r t l ds ps v ps' b p z).sums (many_by_points (shape_of k r t l) above (allowed (shape_of k r t l) passed).parity_most)

-- No two positions have the same point, since k+r is at most 255.
pub demand_2_points_distinct : (s : Shape) → shape_refusal s ≡ 0 → most_rows < s.r → (c d : ℕ) → c < columns s → d < columns s
    → get_or (points s.k s.r) c 0 ≡ get_or (points s.k s.r) d 0 → c ≡ d
demand_2_points_distinct s h above =
    points_distinct s.k s.r (points_fit s (allowed s h) (many_by_points s above (allowed s h).parity_most))

-- Any k columns of a codeword determine it, and any bytes in any k columns belong to one: for every allowed shape, r from 1 to 16.
pub demand_2_determined : (s : Shape) → shape_refusal s ≡ 0 → (es : List ℕ) → Ascending 0 (columns s) es → length es ≤ s.r
    → (xs ys : List ℕ) → Codeword s xs → Codeword s ys → Agree s es xs ys → xs ≡ ys
demand_2_determined = determined

pub demand_2_completed : (s : Shape) → shape_refusal s ≡ 0 → (es : List ℕ) → Ascending 0 (columns s) es → length es ≡ s.r
    → (xs : List ℕ) → Bytes xs → length xs ≡ stripe_length s → (ys : List ℕ) × (Codeword s ys × Agree s es xs ys)
demand_2_completed = completed

module _ (k r t l : ℕ) (xs ls : List ℕ) where
  -- Where mending answers 0, the stripe is a codeword that agrees with every survivor, and the only one.
  pub demand_2_mended : (v : ℕ) (xs' : List ℕ) → Mends k r t l xs ls v xs' → v ≡ 0
      → Codeword (shape_of k r t l) xs'
      × (Agree (shape_of k r t l) (positions ls) xs xs'
      × ((zs : List ℕ) → Codeword (shape_of k r t l) zs → Agree (shape_of k r t l) (positions ls) xs zs → zs ≡ xs'))
  demand_2_mended v xs' p z = go (p.judged none)
    where
      none : mend_refusal (shape_of k r t l) (length xs) ls ≡ 0
      none = passed (shape_of k r t l) xs ls v xs' p z

      go : Outcome (shape_of k r t l) xs ls v xs'
          → Codeword (shape_of k r t l) xs'
          × (Agree (shape_of k r t l) (positions ls) xs xs'
          × ((zs : List ℕ) → Codeword (shape_of k r t l) zs → Agree (shape_of k r t l) (positions ls) xs zs → zs ≡ xs'))
      go (inl a) = (
        a.1.codeword,
        (
          a.1.agrees,
          λ zs u g.
              (mended-one (shape_of k r t l) ls xs 0 v zs xs'
              record { refused = λ n. absurd (n none); judged = λ _. inl (refl, record { codeword = u; agrees = g }) } p).1,
        ),
      )
      go (inr a) = absurd (omega (arith, a.0))

  -- Where nothing else is refused it answers 8 exactly when no codeword agrees with every survivor.
  pub demand_2_disagrees : (v : ℕ) (xs' : List ℕ) → Mends k r t l xs ls v xs' → first_of (mend_table (shape_of k r t l) (length xs) ls) ≡ 0
      → (v ≡ 8) ↔ ((zs : List ℕ) → Codeword (shape_of k r t l) zs → Agree (shape_of k r t l) (positions ls) xs zs → ⊥)
  demand_2_disagrees v xs' p z = go (p.judged (mend_table_lem (shape_of k r t l) (length xs) ls ∙ z))
    where
      go : Outcome (shape_of k r t l) xs ls v xs'
          → (v ≡ 8) ↔ ((zs : List ℕ) → Codeword (shape_of k r t l) zs → Agree (shape_of k r t l) (positions ls) xs zs → ⊥)
      go (inl a) = (λ e. absurd (omega (arith, a.0)), λ n. absurd (n xs' a.1.codeword a.1.agrees))
      go (inr a) = (λ e zs u g. a.1.1 zs record { codeword = u; agrees = g }, λ n. a.0)

  -- Two calls that differ only in what the lost columns held give the same answer and, where it is no refusal, the same bytes.
  pub demand_2_lost_count_for_nothing : (ys : List ℕ) (v w : ℕ) (xs' ys' : List ℕ) → Mends k r t l xs ls v xs' → Mends k r t l ys ls w ys'
      → length xs ≡ length ys → Agree (shape_of k r t l) (positions ls) xs ys → (v ≡ w) × (v ≡ 0 → xs' ≡ ys')
  demand_2_lost_count_for_nothing ys v w xs' ys' p q e g = counts_for_nothing (shape_of k r t l) ls xs ys v w xs' ys' e g p q

-- A record is accepted exactly when its bytes have the stated layout, at most 65,536 of them, and the buffer and the list have the stated lengths.
pub demand_2_record_accepted : (bs xs es : List ℕ) (v : Got) (xs' es' : List ℕ) → Bytes bs → Reads bs xs es v xs' es'
    → (v.number ≡ 0) ↔ (LaidOut bs × ((length bs ≤ 65536) × ((length xs ≡ 65536) × (length es ≡ 258))))
unfolding read_refusal
demand_2_record_accepted bs xs es v xs' es' b p = (
  λ z.
      let own = first_zero (unless (leb (length bs) 65536) 5) _ (sym number ∙ z) in
      let buffer = first_zero (unless (eqb (length xs) 65536) 5) _ own.1 in
      let list = first_zero (unless (eqb (length es) 258) 5) _ buffer.1 in (
        accepts_no_other bs b (first_zero (content_refusal bs) [] list.1).0,
        (
          leb-true _ _ (unless-zero _ 5 (omega arith) own.0),
          (eqb-true _ _ (unless-zero _ 5 (omega arith) buffer.0), eqb-true _ _ (unless-zero _ 5 (omega arith) list.0)),
        ),
      ),
  λ w.
      number
      ∙ sym (skip (content_refusal bs) [] (accepts bs w.0)
      ∙ skip (unless (eqb (length es) 258) 5) _ (ap (λ (c : Bool). unless c 5) (eq-eqb _ _ w.1.1.1))
      ∙ skip (unless (eqb (length xs) 65536) 5) _ (ap (λ (c : Bool). unless c 5) (eq-eqb _ _ w.1.1.0))
      ∙ skip (unless (leb (length bs) 65536) 5) _ (ap (λ (c : Bool). unless c 5) (le-leb _ _ w.1.0))) ∙ sym end,
)
  where
    number : v.number ≡ read_refusal bs (length xs) (length es)
    number = got_number bs xs es v xs' es' p

-- What is then read is what is laid out: the shape, the number of lost columns, their positions at the front of the list, and the surviving columns in
-- their places; lost columns and the rest of both stay.
pub demand_2_record_read : (bs xs ls : List ℕ) (v : Got) (xs' ls' : List ℕ) → Reads bs xs ls v xs' ls' → v.number ≡ 0 → length xs ≡ 65536 → (w : LaidOut bs)
    → (v.shape ≡ w.shape)
    × ((v.lost ≡ length w.lost)
    × ((ls' ≡ over ls 0 w.lost)
    × (Agree w.shape w.lost w.stripe xs'
    × (xs' ≡ restored w.shape.l w.lost 0 (columns w.shape) (survivors w.shape.l w.lost 0 (columns w.shape) w.stripe) xs))))
demand_2_record_read bs xs ls v xs' ls' p z long w = (
  ap (λ (g : Got). g.shape) got ∙ laid_shape bs w,
  (
    ap (λ (g : Got). g.lost) got ∙ count,
    (
      p.1.1 ∙ done refusal (positions_filled bs ls) ls none ∙ ap (over ls 0) (laid_lost bs w),
      (
        subst (Agree w.shape w.lost w.stripe) (sym bytes)
            (bytes_back w.shape w.lost w.stripe xs lawful w.ascending w.exact (omega (arith, w.short))),
        bytes ∙ filled_back w.shape w.lost w.stripe lawful w.ascending w.exact xs,
      ),
    ),
  ),
)
  where
    refusal : ℕ
    refusal = read_refusal bs (length xs) (length ls)

    none : refusal ≡ 0
    none = sym (got_number bs xs ls v xs' ls' p) ∙ z

    got : v ≡ record { number = 0; shape = shape_read bs; lost = count_of bs }
    got = p.0 ∙ done refusal _ _ none

    lawful : stripe_refusal w.shape ≡ 0
    lawful = sym (stripe_lawful w.shape w.allowed w.short)

    count : count_of bs ≡ length w.lost
    count = ap (λ (b : List ℕ). count_of b) w.bytes ∙ count_back w.shape w.lost w.stripe lawful w.ascending w.exact

    bytes : xs' ≡ columns_filled (record_of w.shape w.lost w.stripe) xs
    bytes = p.1.0 ∙ done refusal (columns_filled bs xs) xs none ∙ ap (λ (b : List ℕ). columns_filled b xs) w.bytes

-- Writing puts the record of the stripe at the front of the output, reports its length, and leaves what follows.
pub demand_2_record_written : (s : Shape) (xs es out : List ℕ) (v : Written) (out' : List ℕ) → Writes s xs es out v out' → v.number ≡ 0
    → (v.length ≡ length (record_of s es xs)) × (out' ≡ over out 0 (record_of s es xs))
demand_2_record_written s xs es out v out' p z =
    let refusal = write_refusal s xs es (length out) in
    let none : refusal ≡ 0 = sym (written_number s xs es out v out' p) ∙ z in
    (ap (λ (g : Written). g.length) (p.0 ∙ done refusal _ _ none), p.1 ∙ done refusal _ out none)

-- The same of the calls for C. Reading wants room for five numbers too, and puts k, r, t, L and how many columns are lost there.
pub demand_2_read_record_accepted : (bs xs es ns : List ℕ) (v : ℕ) (xs' es' ns' : List ℕ) → Bytes bs → ReadsRecord bs xs es ns v xs' es' ns'
    → (v ≡ 0) ↔ ((length ns ≡ 5) × (LaidOut bs × ((length bs ≤ 65536) × ((length xs ≡ 65536) × (length es ≡ 258)))))
demand_2_read_record_accepted bs xs es ns v xs' es' ns' b p = (
  λ z. let five = (lent_read bs xs es ns (sym p.0 ∙ z)).0 in (five, (accepted five).0 (sym (number five) ∙ z)),
  λ w. number w.0 ∙ (accepted w.0).1 w.1,
)
  where
    got : Got
    got = got_of bs (length xs) (length es)

    number : length ns ≡ 5 → v ≡ got.number
    number five = number_read bs xs es ns five v xs' es' ns' p

    accepted : length ns ≡ 5 → (got.number ≡ 0) ↔ (LaidOut bs × ((length bs ≤ 65536) × ((length xs ≡ 65536) × (length es ≡ 258))))
    accepted five = demand_2_record_accepted bs xs es got xs' es' b (as_read bs xs es ns five v xs' es' ns' p)

pub demand_2_read_record : (bs xs es ns : List ℕ) (v : ℕ) (xs' es' ns' : List ℕ) → ReadsRecord bs xs es ns v xs' es' ns' → v ≡ 0 → (w : LaidOut bs)
    → (ns' ≡ numbers_of w.shape (length w.lost))
    × ((es' ≡ over es 0 w.lost)
    × (Agree w.shape w.lost w.stripe xs'
    × (xs' ≡ restored w.shape.l w.lost 0 (columns w.shape) (survivors w.shape.l w.lost 0 (columns w.shape) w.stripe) xs)))
demand_2_read_record bs xs es ns v xs' es' ns' p z w =
    let lent = lent_read bs xs es ns (sym p.0 ∙ z) in
    let reads = as_read bs xs es ns lent.0 v xs' es' ns' p in
    let number = number_read bs xs es ns lent.0 v xs' es' ns' p in
    let told = demand_2_record_read bs xs es _ xs' es' reads (sym number ∙ z) lent.1 w in
    (numbers_read bs xs es ns lent.0 v xs' es' ns' p z ∙ ap₂ numbers_of told.0 told.1.0, told.1.1)

pub demand_2_write_record : (k r t l : ℕ) (xs es out : List ℕ) (n v : ℕ) (out' : List ℕ) (n' : ℕ) → WritesRecord k r t l xs es out n v out' n' → v ≡ 0
    → (n' ≡ length (record_of (shape_of k r t l) es xs)) × (out' ≡ over out 0 (record_of (shape_of k r t l) es xs))
demand_2_write_record k r t l xs es out n v out' n' p z =
    let refusal = write_refusal (shape_of k r t l) xs es (length out) in
    (p.1.1 ∙ done refusal _ n (sym p.0 ∙ z), p.1.0 ∙ done refusal _ out (sym p.0 ∙ z))

-- ---- Demand 3
-- "A fold that is handed only the bytes its plan names gives the very parity of all the data in order; the plan's volume is the published cost; a
-- single stripe that disagrees in a parity byte which the plan names makes the wide stripe no codeword."

-- The list that the caller is given is the plan, and its records after the last span stay.
pub demand_3_plan : (k r t l n f : ℕ) (xs : List Span) (v : ℕ) (xs' : List Span) → PlanSpans k r t l n f xs v xs' → v ≡ 0
    → xs' ≡ over xs 0 (plan (shape_of k r t l) n f)
unfolding spans_filled
demand_3_plan k r t l n f xs v xs' p z = p.1 ∙ done (spans_refusal (shape_of k r t l) n f (length xs)) _ xs (sym p.0 ∙ z)

module _ (k r t l f : ℕ) (zss : List (List ℕ)) (planned : PlanRefuses k r t l (length zss) f 0) where
  abbrev old : Shape
  old = shape_of k r t l

  abbrev n : ℕ
  n = length zss

  abbrev wide : Shape
  wide = wide_shape old n f

  -- the bytes that the plan names of these stripes, joined in its order
  abbrev named : List ℕ
  named = cut_out old zss (plan old n f)

  folded : (ps : List ℕ) (v : ℕ) (ps' : List ℕ) → ((x : ℕ) → x < n → length (get_or zss x []) ≡ stripe_length old) → length ps ≡ f * l
      → Folds k r t l n f named ps v ps' → (v ≡ 0) × (ps' ≡ fold_of old n f named)
  unfolding fold_filled fold_verdict
  folded ps v ps' long room p =
      let none : fold_verdict old n f (length named) (length ps) ≡ 0
      = simp (eq-eqb _ _ (sym planned), eq-eqb _ _ (cut_length old f zss (sym planned) long), eq-eqb _ _ room) in
      (p.0 ∙ none, p.1 ∙ done (fold_verdict old n f (length named) (length ps)) (fold_of old n f named) ps none)

  -- The stripes being codewords, the fold of what the plan names of them is the parity, by definition, of all their data in order.
  pub demand_3_parity : ((x : ℕ) → x < n → Codeword old (get_or zss x [])) → (ps : List ℕ) → length ps ≡ f * l
      → (v : ℕ) (ps' : List ℕ) → Folds k r t l n f named ps v ps' → (v ≡ 0) × (ps' ≡ parity wide (wide_data old zss))
  demand_3_parity codewords ps room v ps' p =
      let q = folded ps v ps' (λ x h. (codewords x h).long) room p in (q.0, q.1 ∙ folded_parity old f zss (sym planned) codewords)

  -- With r above 3 and k >= r, for all bytes, codewords or not: at each place p, for every u below r, sum u of the new parity is the sum over the
  -- stripes x of g^(k*x*u) times sum u of stripe x's old parity, which is row k*u of these.
  pub demand_3_sums : most_rows < r → r ≤ k → ((x : ℕ) → x < n → length (get_or zss x []) ≡ stripe_length old) → (ps : List ℕ) → length ps ≡ f * l
      → (v : ℕ) (ps' : List ℕ) → Folds k r t l n f named ps v ps'
      → (v ≡ 0)
      × ((p u : ℕ) → p < l → u < r
      → parity_sum u (across ps' l p 0 r) ≡ row (k * u) (map (λ zs. parity_sum u (across (parity_of old zs) l p 0 r)) zss))
  demand_3_sums above enough long ps room v ps' q =
      let a = folded ps v ps' long room q in (
        a.0,
        λ p u hp hu.
            ap (λ (qs : List ℕ). parity_sum u (across qs l p 0 r)) a.1 ∙ new_sums old f zss (sym planned) above enough long p u hp hu,
      )

  -- One stripe disagrees with its own parity in a byte that the plan names, and every other agrees with its own in all parity bytes that the plan
  -- names: the wide stripe is no codeword.
  pub demand_3_stale_shows : ((x : ℕ) → x < n → length (get_or zss x []) ≡ stripe_length old)
      → (x : ℕ) → Bytes (get_or zss x [])
      → ((y : ℕ) → y < n → (y ≡ x → ⊥) → (i p : ℕ) → Names old n f y (k + i) p
      → get_or (get_or zss y []) ((k + i) * l + p) 0 ≡ parity_byte old (data_of old (get_or zss y [])) i p)
      → (i p : ℕ) → Names old n f x (k + i) p
      → (get_or (get_or zss x []) ((k + i) * l + p) 0 ≡ parity_byte old (data_of old (get_or zss x [])) i p → ⊥)
      → (ps : List ℕ) → length ps ≡ f * l → (v : ℕ) (ps' : List ℕ) → Folds k r t l n f named ps v ps'
      → Codeword wide (wide_data old zss ++ ps') → ⊥
  unfolding wide_stripe disagreement
  demand_3_stale_shows long x bytes others i p names wrong ps room v ps' q w =
      let at = names_parity old n f x i p names in
      one_shows old f zss (sym planned) long x at.0 bytes
      (λ y h ne j o hj ho.
      ap (λ (b : ℕ). b ⊕ parity_byte old (data_of old (get_or zss y [])) j o) (others y h ne j o (parity_named_lem old n f y j o (sym planned) h hj ho))
      ∙ add_self (parity_byte old (data_of old (get_or zss y [])) j o))
      i p at.1.0 at.1.1
      (λ e. wrong (sum_zero _ _ e)) (subst (λ (qs : List ℕ). Codeword wide (wide_data old zss ++ qs)) (folded ps v ps' long room q).1 w)

  -- So too where all others are codewords.
  pub demand_3_stale_shows_codewords : ((x : ℕ) → x < n → length (get_or zss x []) ≡ stripe_length old)
      → (x : ℕ) → Bytes (get_or zss x []) → ((y : ℕ) → y < n → (y ≡ x → ⊥) → Codeword old (get_or zss y []))
      → (i p : ℕ) → Names old n f x (k + i) p
      → (get_or (get_or zss x []) ((k + i) * l + p) 0 ≡ parity_byte old (data_of old (get_or zss x [])) i p → ⊥)
      → (ps : List ℕ) → length ps ≡ f * l → (v : ℕ) (ps' : List ℕ) → Folds k r t l n f named ps v ps'
      → Codeword wide (wide_data old zss ++ ps') → ⊥
  demand_3_stale_shows_codewords long x bytes others =
      demand_3_stale_shows long x bytes
      (λ y h ne j o names.
      let at = names_parity old n f y j o names in
      codeword_checks old (get_or zss y []) (others y h ne) j o
      (omega (arith, at.1.0, named_few old f (foldable old n f (sym planned)).kinds)) at.1.1)

  -- With r above 3 and k >= r, where the plan names all parity columns: one stripe is no codeword and all others are, and the wide stripe is none.
  pub demand_3_stale_stripe_shows : most_rows < r → r ≤ k → (x : ℕ) → x < n → Bytes (get_or zss x []) → length (get_or zss x []) ≡ stripe_length old
      → (Codeword old (get_or zss x []) → ⊥) → ((y : ℕ) → y < n → (y ≡ x → ⊥) → Codeword old (get_or zss y []))
      → (ps : List ℕ) → length ps ≡ f * l → (v : ℕ) (ps' : List ℕ) → Folds k r t l n f named ps v ps'
      → Codeword wide (wide_data old zss ++ ps') → ⊥
  unfolding wide_stripe
  demand_3_stale_stripe_shows above enough x within bytes whole stale others ps room v ps' q w =
      stale_shows old f zss (sym planned) long (points_here old n f (sym planned) above) (from_parity old n f (sym planned) above enough) x within others
      bytes stale (subst (λ (qs : List ℕ). Codeword wide (wide_data old zss ++ qs)) (folded ps v ps' long room q).1 w)
    where
      long : (y : ℕ) → y < n → length (get_or zss y []) ≡ stripe_length old
      long y h = go (same_or_not y x)
        where
          go : (y ≡ x) ⊎ (y ≡ x → ⊥) → length (get_or zss y []) ≡ stripe_length old
          go (inl e) = subst (λ (i : ℕ). length (get_or zss i []) ≡ stripe_length old) (sym e) whole
          go (inr ne) = (others y h ne).long

  -- The volume reported is the length of what the fold is handed, and the summed length of the plan's spans.
  pub demand_3_volume : ((x : ℕ) → x < n → length (get_or zss x []) ≡ stripe_length old) → (v : ℕ) → PlanBytes k r t l n f v
      → (v ≡ length named) × (v ≡ summed (plan old n f))
  demand_3_volume long v p = (p ∙ sym (cut_length old f zss (sym planned) long), p ∙ sym (bytes_counted old n f))

-- The columns reported are the spans of the plan: one span per column read.
pub demand_3_columns : (k r t l n f v : ℕ) → PlanColumns k r t l n f v → v ≡ length (plan (shape_of k r t l) n f)
demand_3_columns k r t l n f v p = p ∙ sym (columns_counted (shape_of k r t l) n f)

-- The published cost. Plain stripes: 003, Theorem 12, in columns, and L bytes to a column. With r above 3, where f = r, these are the N*r parity columns
-- if k >= r, else the N*k data columns.
pub demand_3_cost_plain : (k r l n f : ℕ) → PlanRefuses k r 0 l n f 0 → (v w : ℕ) → PlanColumns k r 0 l n f v → PlanBytes k r 0 l n f w
    → (v ≡ columns_needed n k r f) × (w ≡ columns_needed n k r f * l)
demand_3_cost_plain k r l n f planned v w p q =
    (p ∙ plain_columns (shape_of k r 0 l) n f (sym planned) refl, q ∙ plain_bytes (shape_of k r 0 l) n f (sym planned) refl)

-- Prepared stripes: the reading part of 002, formula (1), in columns of L bytes, both sides times f so that no fraction is left.
pub demand_3_cost_prepared : (k r t l n f : ℕ) → PlanRefuses k r t l n f 0 → (t ≡ 0 → ⊥) → (w : ℕ) → PlanBytes k r t l n f w
    → w * f ≡ bandwidth_needed n k r f * l
demand_3_cost_prepared k r t l n f planned prepared w q =
    let b = prepared_b (shape_of k r t l) n f (sym planned) prepared in
    ap (λ (x : ℕ). x * f) q ∙ prepared_bytes (shape_of k r t l) n f (sym planned) b
