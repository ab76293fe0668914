-- What each call promises, as a relation between what it is lent, its answer and what it leaves; and document 01's table for each, in its
-- order: a refusal stands beside the condition that it is given without, and the answer is the first that is given, else 0.
use Rattle.std.specs.Prelude.{ℕ, ◌+◌, ◌-◌, ◌*◌, ◌%◌, ◌<◌, ◌≤◌, ◌≡◌, Bool, cond, ◌&&◌, ◌⊎◌, List, [], ◌∷◌, ◌++◌, leb, eqb, length}
use Rattle.stripe.specs.declared.Shape.{Shape}
use Rattle.stripe.specs.Shape.{data_allowed, parity_allowed, points_allowed, mark_allowed, length_allowed, no_shape}
use Rattle.stripe.specs.Shape.{columns, data_length, parity_length, stripe_length}
use Rattle.stripe.specs.Stripe.{parity, ascending}
use Rattle.stripe.specs.Column.{column_of}
use Rattle.coding.specs.Encode.{encode_refusal, encoded}
use Rattle.checking.specs.Compare.{agree}
use Rattle.checking.specs.Check.{number_of, first_wrong}
use Rattle.lost.specs.Positions.{positions}
use Rattle.mending.specs.Mend.{Restored, Mended}
use Rattle.plan.specs.declared.Span.{Span}
use Rattle.plan.specs.Plan.{stripes_allowed, new_allowed, fold_refusal, plan, span_at, columns_read, bytes_read}
use Rattle.plan.specs.Plan.{columns_written, bytes_written, access_cost, conversion_bandwidth}
use Rattle.fold.specs.Fold.{fold_verdict, fold_filled}
use Rattle.number.specs.Number.{number_refusal, next_of}
use Rattle.record.specs.Layout.{record_of}
use Rattle.record.specs.Reading.{Got, shape_read, first_of, unless, first_number, second_number, third_number, fourth_number, count_number}
use Rattle.record.specs.Reading.{count_of, lost_listed, columns_start, positions_refusal, columns_refusal, got_of, stripe_read, lost_read}
use Rattle.writing.specs.Writing.{Written, written_of, out_written}
use Rattle.answer.specs.Answer.{Answer, described, Answered, Printed}
use Rattle.text.specs.Text.{stripe_text, refusal_text}
use Rattle.shelf.specs.Shelf.{shape_of, spans_refusal, spans_filled}
use Rattle.shelf.specs.Check.{column_left, place_left}
use Rattle.shelf.specs.Records.{read_number, stripe_left, lost_left, numbers_left, write_number, length_left}

-- ---- the calls

-- `shelf_encode` with k, r, t, L, the data ds and a parity ps: it answers v and leaves the parity ps'
abbrev pub Encodes : ℕ → ℕ → ℕ → ℕ → List ℕ → List ℕ → ℕ → List ℕ → Type 0
Encodes k r t l ds ps v ps' = (v ≡ encode_refusal (shape_of k r t l) (length ds) (length ps)) × (ps' ≡ encoded (shape_of k r t l) ds ps)

-- `shelf_check` with the data ds, the parity ps and the numbers x and y: it answers v and leaves the numbers x' and y'
abbrev pub Checks : ℕ → ℕ → ℕ → ℕ → List ℕ → List ℕ → ℕ → ℕ → ℕ → ℕ → ℕ → Type 0
Checks k r t l ds ps x y v x' y' =
    (v ≡ number_of (first_wrong (shape_of k r t l) ds ps))
    × ((x' ≡ column_left (first_wrong (shape_of k r t l) ds ps) x) × (y' ≡ place_left (first_wrong (shape_of k r t l) ds ps) y))

-- `shelf_mend` with the stripe xs and the lost positions ls, as pairs of bytes: it answers v and leaves the stripe xs'
abbrev pub Mends : ℕ → ℕ → ℕ → ℕ → List ℕ → List ℕ → ℕ → List ℕ → Type 0
Mends k r t l xs ls v xs' = Mended (shape_of k r t l) ls xs v xs'

-- `shelf_fold` of n stripes to f parity columns, with the bytes read xs and a parity ps: it answers v and leaves the parity ps'
abbrev pub Folds : ℕ → ℕ → ℕ → ℕ → ℕ → ℕ → List ℕ → List ℕ → ℕ → List ℕ → Type 0
Folds k r t l n f xs ps v ps' =
    (v ≡ fold_verdict (shape_of k r t l) n f (length xs) (length ps)) × (ps' ≡ fold_filled (shape_of k r t l) n f xs ps)

-- `shelf_plan_refusal`, `shelf_plan_columns_read` and `shelf_plan_bytes_read` answer v; of the two counts v is the number
abbrev pub PlanRefuses : ℕ → ℕ → ℕ → ℕ → ℕ → ℕ → ℕ → Type 0
PlanRefuses k r t l n f v = v ≡ fold_refusal (shape_of k r t l) n f

abbrev pub PlanColumns : ℕ → ℕ → ℕ → ℕ → ℕ → ℕ → ℕ → Type 0
PlanColumns k r t l n f v = v ≡ columns_read (shape_of k r t l) n f

abbrev pub PlanBytes : ℕ → ℕ → ℕ → ℕ → ℕ → ℕ → ℕ → Type 0
PlanBytes k r t l n f v = v ≡ bytes_read (shape_of k r t l) n f

-- `shelf_plan_columns_written`, `shelf_plan_columns_sum`, `shelf_plan_bytes_written` and `shelf_plan_bytes_sum` answer the number v
abbrev pub PlanColumnsWritten : ℕ → ℕ → ℕ → ℕ → ℕ → ℕ → ℕ → Type 0
PlanColumnsWritten k r t l n f v = v ≡ columns_written (shape_of k r t l) n f

abbrev pub PlanColumnsSum : ℕ → ℕ → ℕ → ℕ → ℕ → ℕ → ℕ → Type 0
PlanColumnsSum k r t l n f v = v ≡ access_cost (shape_of k r t l) n f

abbrev pub PlanBytesWritten : ℕ → ℕ → ℕ → ℕ → ℕ → ℕ → ℕ → Type 0
PlanBytesWritten k r t l n f v = v ≡ bytes_written (shape_of k r t l) n f

abbrev pub PlanBytesSum : ℕ → ℕ → ℕ → ℕ → ℕ → ℕ → ℕ → Type 0
PlanBytesSum k r t l n f v = v ≡ conversion_bandwidth (shape_of k r t l) n f

-- `shelf_plan_spans` with the list xs: it answers v and leaves the list xs'
abbrev pub PlanSpans : ℕ → ℕ → ℕ → ℕ → ℕ → ℕ → List Span → ℕ → List Span → Type 0
PlanSpans k r t l n f xs v xs' = (v ≡ spans_refusal (shape_of k r t l) n f (length xs)) × (xs' ≡ spans_filled (shape_of k r t l) n f xs)

-- `column` with the data ds, the parity ps and a position c: it answers the part v
abbrev pub Column : Shape → List ℕ → List ℕ → ℕ → List ℕ → Type 0
Column s ds ps c v = v ≡ column_of s ds ps c

-- `read_record` with the record bs, the buffer xs and the list es: it answers v and leaves xs' and es'
abbrev pub Reads : List ℕ → List ℕ → List ℕ → Got → List ℕ → List ℕ → Type 0
Reads bs xs es v xs' es' =
    (v ≡ got_of bs (length xs) (length es)) × ((xs' ≡ stripe_read bs xs (length es)) × (es' ≡ lost_read bs (length xs) es))

-- `write_record` with the stripe xs, the lost positions es and the output out: it answers v and leaves out'
abbrev pub Writes : Shape → List ℕ → List ℕ → List ℕ → Written → List ℕ → Type 0
Writes s xs es out v out' = (v ≡ written_of s xs es (length out)) × (out' ≡ out_written s xs es out)

-- `shelf_read_record` with the record bs, the buffer xs, the list es and the numbers ns: it answers v and leaves xs', es' and ns'
abbrev pub ReadsRecord : List ℕ → List ℕ → List ℕ → List ℕ → ℕ → List ℕ → List ℕ → List ℕ → Type 0
ReadsRecord bs xs es ns v xs' es' ns' =
    (v ≡ read_number bs xs es ns)
    × ((xs' ≡ stripe_left bs xs es ns) × ((es' ≡ lost_left bs xs es ns) × (ns' ≡ numbers_left bs xs es ns)))

-- `shelf_write_record` with the stripe xs, the lost positions es, the output out and the number n: it answers v and leaves out' and n'
abbrev pub WritesRecord : ℕ → ℕ → ℕ → ℕ → List ℕ → List ℕ → List ℕ → ℕ → ℕ → List ℕ → ℕ → Type 0
WritesRecord k r t l xs es out n v out' n' =
    (v ≡ write_number (shape_of k r t l) xs es out)
    × ((out' ≡ out_written (shape_of k r t l) xs es out) × (n' ≡ length_left (shape_of k r t l) xs es out n))

-- `mend_record` with the record bs, the buffer xs and the list es: it answers v and leaves xs' and es'
abbrev pub MendsRecord : List ℕ → List ℕ → List ℕ → Answer → List ℕ → List ℕ → Type 0
MendsRecord bs xs es v xs' es' = Answered bs xs es v xs' es'

-- `answer` with the record bs and the output out: it answers v and leaves out'
abbrev pub Prints : List ℕ → List ℕ → ℕ → List ℕ → Type 0
Prints bs out v out' = Printed bs out v out'

-- ---- document 01's table, which document 02, request 6, extends to r above 3

-- k, r and t are allowed: where r is above 3, only with t = 0 and k+r at most 255 (document 02, request 6)
abbrev pub numbers_allowed : Shape → Bool
numbers_allowed s = data_allowed s.k && parity_allowed s.r && points_allowed s.k s.r && mark_allowed s.k s.r s.t

-- encoding and the column question, lent d data bytes and p parity bytes
abbrev pub encode_table : Shape → ℕ → ℕ → List ℕ
encode_table s d p =
    unless (numbers_allowed s) 1
    ∷ unless (length_allowed s.t s.l) 2
    ∷ unless (eqb d (data_length s) && eqb p (parity_length s)) 5
    ∷ []

-- the check of the data ds and the parity ps: encoding's table, then 8 where the parity is not that of the data
abbrev pub check_table : Shape → List ℕ → List ℕ → List ℕ
check_table s ds ps = encode_table s (length ds) (length ps) ++ (unless (agree ps (parity s ds)) 8 ∷ [])

-- mending, lent d bytes and the list ls; what is 8 depends on the bytes
abbrev pub mend_table : Shape → ℕ → List ℕ → List ℕ
mend_table s d ls =
    unless (numbers_allowed s) 1
    ∷ unless (length_allowed s.t s.l) 2
    ∷ unless (eqb d (stripe_length s) && eqb (length ls % 2) 0) 5
    ∷ unless (ascending 0 (columns s) (positions ls)) 6
    ∷ unless (leb (length (positions ls)) s.r) 7
    ∷ []

-- a plan, and what comes after it
abbrev pub plan_table : Shape → ℕ → ℕ → List ℕ → List ℕ
plan_table s n f after =
    unless (numbers_allowed s) 1
    ∷ unless (length_allowed s.t s.l) 2
    ∷ unless (stripes_allowed s.k s.r n) 3
    ∷ unless (new_allowed s.r s.t f) 4
    ∷ after

-- a fold, lent a bytes to read and b to fill
abbrev pub fold_table : Shape → ℕ → ℕ → ℕ → ℕ → List ℕ
fold_table s n f a b = plan_table s n f (unless (eqb a (bytes_read s n f) && eqb b (f * s.l)) 5 ∷ [])

-- the list of spans, with room for so many
abbrev pub spans_table : Shape → ℕ → ℕ → ℕ → List ℕ
spans_table s n f room = plan_table s n f (unless (leb (columns_read s n f) room) 5 ∷ [])

-- writing a record of the stripe xs whose columns es are lost, with so much room; 6 comes before 5 for the record's own length and the
-- output
abbrev pub write_table : Shape → List ℕ → List ℕ → ℕ → List ℕ
write_table s xs es room =
    unless (numbers_allowed s) 1
    ∷ unless (length_allowed s.t s.l) 2
    ∷ unless (leb (stripe_length s) 65536) 5
    ∷ unless (eqb (length xs) (stripe_length s)) 5
    ∷ unless (ascending 0 (columns s) es) 6
    ∷ unless (leb (length (record_of s es xs)) 65536) 5
    ∷ unless (leb (length (record_of s es xs)) room) 5
    ∷ []

-- reading a record bs, front to back, with a lent buffer and a list of these lengths: 5; each number as it comes (9); after the fourth 1, 2
-- and 5; then the lost count and the positions (9, and 6 as soon as seen); then 9 or 10 for the columns
abbrev pub read_table : List ℕ → ℕ → ℕ → List ℕ
read_table bs a b =
    unless (leb (length bs) 65536) 5
    ∷ unless (eqb a 65536) 5
    ∷ unless (eqb b 258) 5
    ∷ number_refusal (first_number bs)
    ∷ number_refusal (second_number bs)
    ∷ number_refusal (third_number bs)
    ∷ number_refusal (fourth_number bs)
    ∷ unless (numbers_allowed (shape_read bs)) 1
    ∷ unless (length_allowed (shape_read bs).t (shape_read bs).l) 2
    ∷ unless (leb (stripe_length (shape_read bs)) 65536) 5
    ∷ number_refusal (count_number bs)
    ∷ unless (leb (count_of bs) (columns (shape_read bs))) 6
    ∷ positions_refusal bs (columns (shape_read bs)) (count_of bs) 0 (next_of (count_number bs))
    ∷ columns_refusal (length bs - columns_start bs) ((columns (shape_read bs) - count_of bs) * (shape_read bs).l)
    ∷ []

-- reading a record for C, with room for c numbers: 5 for these too, first
abbrev pub read_record_table : List ℕ → ℕ → ℕ → ℕ → List ℕ
read_record_table bs a b c = unless (eqb c 5) 5 ∷ read_table bs a b

-- ---- a record mended

-- the number n of a record that is read with a lent buffer and a list of these lengths, and the stripe ys that it is mended to: first
-- reading's table; then 7 for more than r lost columns; then 8 where no codeword agrees with every survivor, else 0 and ys is such a
-- codeword
pub record RecordJudged (bs : List ℕ) (a b n : ℕ) (ys : List ℕ) : Type 0 where
  pub unread : (first_of (read_table bs a b) ≡ 0 → ⊥) → n ≡ first_of (read_table bs a b)
  pub many : first_of (read_table bs a b) ≡ 0 → (shape_read bs).r < count_of bs → n ≡ 7
  pub few : first_of (read_table bs a b) ≡ 0 → count_of bs ≤ (shape_read bs).r
      → ((n ≡ 0) × Restored (shape_read bs) (lost_listed bs) (described bs) ys)
      ⊎ ((n ≡ 8) × ((zs : List ℕ) → Restored (shape_read bs) (lost_listed bs) (described bs) zs → ⊥))

-- the answer with the number 0: the shape and the number of lost columns
abbrev pub mended_answer : List ℕ → Answer
mended_answer bs = record { number = 0; shape = shape_read bs; lost = count_of bs }

-- the answer with a refusal: zeros
abbrev pub refused_answer : ℕ → Answer
refused_answer n = record { number = n; shape = no_shape; lost = 0 }

-- the text that is printed with the number n: the mended stripe ys, or the refusal alone
abbrev pub text_with : List ℕ → ℕ → List ℕ → List ℕ
text_with bs n ys = cond (eqb n 0) (stripe_text (shape_read bs) (lost_listed bs) ys) (refusal_text n)

-- ---- what a plan names

-- the plan names the byte at place p of the column at position c of stripe x
pub record Names (s : Shape) (n f x c p : ℕ) : Type 0 where
  pub span : ℕ
  pub planned : span < length (plan s n f)
  pub stripe : (span_at s n f span).stripe ≡ x
  pub position : (span_at s n f span).position ≡ c
  pub from : (span_at s n f span).first ≤ p
  pub upto : p < (span_at s n f span).first + (span_at s n f span).length
