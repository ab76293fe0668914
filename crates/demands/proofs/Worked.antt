-- All starred examples hold: most by computing both sides from the definitions; that no codeword agrees with the stale stripe's
-- survivors, since the only stripe that could, the mended one, has another last byte. Our own hold too, the folds step by step.
use mathlib.Core.Path.{◌≡◌, refl, ap, ◌∙◌}
use mathlib.Core.Bool.{Bool, true, false, true≢false, ◌&&◌}
use mathlib.Core.Logic.{inl, inr}
use mathlib.Core.List.{List, [], ◌∷◌}
use Prim.Native.Nat.{ℕ, zero, suc, ◌+◌, ◌*◌, ◌<◌}
use native.Mathlib.Omega.{arith}
use lib.Dec.{T, ltb, ltb→lt, lit<, lit≤}
use lib.ListN.{get_or}
use Rattle.field.specs.Field.{◌⊕◌, ◌⊗◌, doubled, shifted, power, gpow, inverse_of}
use Rattle.field.specs.Bytes.{Bytes, tabulate}
use Rattle.field.specs.Row.{row, row_from}
use Rattle.field.specs.Solve.{moment, apart, cleared, solve}
use Rattle.stripe.specs.Shape.{shape_refusal}
use Rattle.stripe.specs.Stripe.{by_points, across, row_at, run_length, piggyback, parity_byte, parity, among, Ascending, ascending, Codeword, Agree}
use Rattle.stripe.proofs.Survivors.{count_true, first_row, row_step}
use Rattle.stripe.proofs.Lost.{lost_data}
use Rattle.stripe.proofs.Errors.{points, errors, mended, patched}
use Rattle.stripe.proofs.Word.{word_errors, word_mended}
use Rattle.stripe.proofs.Mended.{word_below, wanted, word_at, data_mended, stripe_mended}
use Rattle.stripe.proofs.Determined.{mendable}
use Rattle.stripe.proofs.Codewords.{codeword_of}
use Rattle.lost.specs.Positions.{positions, list_refusal}
use Rattle.mending.specs.Mend.{mend_refusal, Mended}
use Rattle.plan.specs.Plan.{fold_refusal, kind_of, column_spans, kind_spans, spans_from, plan, columns_each, bytes_each, columns_read, bytes_read}
use Rattle.plan.specs.Plan.{columns_written, bytes_written}
use Rattle.equations.specs.Whole.{fold_columns}
use Rattle.fold.specs.Fold.{fold_by_rows, fold_by_points, read_parity, read_row, run_share, share, fold_byte, fold_stripes, fold_of, named, cut_out}
use Rattle.points.specs.Folding.{joined, parts}
use Rattle.number.specs.Number.{groups, groups_at}
use Rattle.record.specs.Reading.{first_of, head_refusal, content_refusal, positions_refusal, after_positions, stripe_refusal, read_refusal}
use Rattle.demands.specs.Worked.{shape, stale, accepted, Holds, AllHold, worked, points_pair, narrow_pair, ours, bills}
use Rattle.demands.proofs.Points.{one, two, narrow_one, narrow_two, folded, parity_columns, folded_columns}

unfoldable pub small : List ℕ → Bool
small [] = true
small (x ∷ xs) = ltb x 256 && small xs

both : (a b : Bool) → T (a && b) → T a × T b
both true b t = (tt, t)
both false b t = absurd t

pub bytes : (xs : List ℕ) → T (small xs) → Bytes xs
unfolding small
bytes [] t i = lit< tt
bytes (x ∷ xs) t zero = ltb→lt x 256 (both (ltb x 256) (small xs) t).0
bytes (x ∷ xs) t (suc i) = bytes xs (both (ltb x 256) (small xs) t).1 i

stale_bytes : Bytes stale
unfolding small
stale_bytes = bytes stale tt

lost_one : Ascending 0 6 (0 ∷ [])
unfolding Ascending
lost_one = (lit≤ tt, lit< tt, tt)

shape_allowed : shape_refusal (shape 4 2 0 1) ≡ 0
unfolding shape_refusal
shape_allowed = refl

by_rows : by_points (shape 4 2 0 1) ≡ false
unfolding by_points
by_rows = refl

-- what the stale stripe would be mended to, its first column lost
stale_mended : get_or (stripe_mended (shape 4 2 0 1) (0 ∷ []) stale) 5 0 ≡ 0x25
unfolding stripe_mended data_mended word_at wanted word_below word_mended word_errors errors mended patched points lost_data count_true first_row row_step
    solve moment apart cleared inverse_of across row_at run_length piggyback by_points parity_byte parity among tabulate row row_from gpow power ◌⊗◌ shifted
    doubled ◌⊕◌
stale_mended = refl

stale_disagrees : (ys : List ℕ) → Codeword (shape 4 2 0 1) ys → Agree (shape 4 2 0 1) (0 ∷ []) stale ys → ⊥
unfolding among
stale_disagrees ys u v =
    let agree = (mendable (shape 4 2 0 1) by_rows shape_allowed (0 ∷ []) lost_one (lit≤ tt) stale stale_bytes).0 (ys, (u, v)) in
    let e : 0x29 ≡ get_or (stripe_mended (shape 4 2 0 1) (0 ∷ []) stale) 5 0 = agree 5 0 (lit< tt) (lit< tt) refl in
    omega (arith, e, stale_mended)

-- position 0 lost: refused 8, and the bytes stay
stale_refused : Mended (shape 4 2 0 1) (0 ∷ 0 ∷ []) stale 8 stale
unfolding mend_refusal shape_refusal list_refusal ascending positions
stale_refused =
    record {
      refused = λ n. absurd (n refl);
      judged = λ z. inr (refl, (refl, λ zs w. stale_disagrees zs w.codeword w.agrees));
    }

accepted_codeword : Codeword (shape 4 2 0 1) accepted
unfolding small by_points parity parity_byte piggyback run_length row_at across tabulate row row_from gpow power ◌⊗◌ shifted doubled ◌⊕◌
accepted_codeword = codeword_of (shape 4 2 0 1) accepted (bytes accepted tt) refl refl

accepted_agrees : Agree (shape 4 2 0 1) (0 ∷ 3 ∷ []) stale accepted
unfolding among
accepted_agrees c zero hc hp out = column c hc out
  where
    column : (c : ℕ) → c < 6 → among c (0 ∷ 3 ∷ []) ≡ false → get_or stale (c * 1 + 0) 0 ≡ get_or accepted (c * 1 + 0) 0
    column zero h out = absurd (true≢false out)
    column (suc zero) h out = refl
    column (suc (suc zero)) h out = refl
    column (suc (suc (suc zero))) h out = absurd (true≢false out)
    column (suc (suc (suc (suc zero)))) h out = refl
    column (suc (suc (suc (suc (suc zero))))) h out = refl
    column (suc (suc (suc (suc (suc (suc c)))))) h out = absurd (omega arith)
accepted_agrees c (suc p) hc hp out = absurd (omega arith)

-- positions 0 and 3 lost: mended
stale_accepted : Mended (shape 4 2 0 1) (0 ∷ 0 ∷ 3 ∷ 0 ∷ []) stale 0 accepted
unfolding mend_refusal shape_refusal list_refusal ascending positions
stale_accepted =
    record {
      refused = λ n. absurd (n refl);
      judged = λ z. inl (refl, record { codeword = accepted_codeword; agrees = accepted_agrees });
    }

pub worked_hold : AllHold worked
unfolding worked AllHold Holds ◌⊗◌ shifted doubled ◌⊕◌ gpow power by_points parity parity_byte piggyback run_length row_at across tabulate row row_from groups
    groups_at first_of head_refusal content_refusal positions_refusal after_positions stripe_refusal
    read_refusal shape_refusal fold_refusal kind_of column_spans
    kind_spans spans_from plan columns_each bytes_each columns_read bytes_read read_parity read_row
    run_share share fold_byte fold_by_rows fold_stripes parts fold_of
    named cut_out
worked_hold = (
  refl,
  (
    refl,
    (
      refl,
      (
        refl,
        (
          refl,
          (
            refl,
            (
              (refl, refl, refl),
              (
                (refl, refl, refl),
                ((refl, refl, refl), (stale_refused, (stale_accepted, (refl, (refl, (refl, tt)))))),
              ),
            ),
          ),
        ),
      ),
    ),
  ),
)

-- ---- our own

encoded : parity (shape 4 4 0 1) (0x01 ∷ 0x02 ∷ 0x03 ∷ 0x04 ∷ []) ≡ 0x60 ∷ 0x9B ∷ 0x1C ∷ 0xE3 ∷ []
unfolding across
encoded = parity_columns 4 (0x01 ∷ 0x02 ∷ 0x03 ∷ 0x04 ∷ []) 0x60 0x9B 0x1C 0xE3 one

-- with k >= r the parity columns are read, and the new ones have their sums
columns_read_lem : cut_out (shape 4 4 0 1) points_pair (plan (shape 4 4 0 1) 2 4) ≡ 0x60 ∷ 0x9B ∷ 0x1C ∷ 0xE3 ∷ 0x77 ∷ 0x00 ∷ 0x4B ∷ 0x30 ∷ []
unfolding cut_out named plan fold_refusal shape_refusal spans_from kind_spans column_spans kind_of
columns_read_lem = refl

columns_folded : fold_of (shape 4 4 0 1) 2 4 (0x60 ∷ 0x9B ∷ 0x1C ∷ 0xE3 ∷ 0x77 ∷ 0x00 ∷ 0x4B ∷ 0x30 ∷ [])
    ≡ fold_columns 4 4 1 ((0x60 ∷ 0x9B ∷ 0x1C ∷ 0xE3 ∷ []) ∷ (0x77 ∷ 0x00 ∷ 0x4B ∷ 0x30 ∷ []) ∷ [])
unfolding fold_of fold_stripes fold_by_points kind_of bytes_each by_points parts
columns_folded = refl

from_columns : fold_of (shape 4 4 0 1) 2 4 (cut_out (shape 4 4 0 1) points_pair (plan (shape 4 4 0 1) 2 4)) ≡ 0x7C ∷ 0x16 ∷ 0xAB ∷ 0xC9 ∷ []
unfolding across
from_columns = ap (fold_of (shape 4 4 0 1) 2 4) columns_read_lem ∙ columns_folded ∙ folded_columns 4 _ 0x7C 0x16 0xAB 0xC9 folded

-- with k < r the data are read, and the new parity is theirs
data_read : cut_out (shape 2 4 0 1) narrow_pair (plan (shape 2 4 0 1) 2 4) ≡ 0x01 ∷ 0x02 ∷ 0x03 ∷ 0x04 ∷ []
unfolding cut_out named plan fold_refusal shape_refusal spans_from kind_spans column_spans kind_of
data_read = refl

data_folded : fold_of (shape 2 4 0 1) 2 4 (0x01 ∷ 0x02 ∷ 0x03 ∷ 0x04 ∷ []) ≡ parity (shape 4 4 0 1) (0x01 ∷ 0x02 ∷ 0x03 ∷ 0x04 ∷ [])
unfolding fold_of fold_stripes fold_by_points kind_of bytes_each by_points parts joined
data_folded = refl

from_data : fold_of (shape 2 4 0 1) 2 4 (cut_out (shape 2 4 0 1) narrow_pair (plan (shape 2 4 0 1) 2 4)) ≡ 0x60 ∷ 0x9B ∷ 0x1C ∷ 0xE3 ∷ []
from_data = ap (fold_of (shape 2 4 0 1) 2 4) data_read ∙ data_folded ∙ encoded

pub ours_hold : AllHold ours
unfolding ours AllHold Holds across fold_refusal shape_refusal kind_of columns_each bytes_each columns_read bytes_read
ours_hold = (
  encoded,
  (
    parity_columns 4 (0x05 ∷ 0x06 ∷ 0x07 ∷ 0x08 ∷ []) 0x77 0x00 0x4B 0x30 two,
    (
      parity_columns 2 (0x01 ∷ 0x02 ∷ []) 0xC9 0x98 0xC1 0x93 narrow_one,
      (parity_columns 2 (0x03 ∷ 0x04 ∷ []) 0x80 0x1B 0xE7 0x7B narrow_two, ((from_columns, refl, refl), ((from_data, refl, refl), tt))),
    ),
  ),
)

pub bills_hold : AllHold bills
unfolding bills AllHold Holds fold_refusal shape_refusal kind_of columns_each bytes_each columns_read bytes_read columns_written bytes_written
bills_hold = (
  ((refl, refl, refl), (refl, refl, refl)),
  (
    ((refl, refl, refl), (refl, refl, refl)),
    (
      ((refl, refl, refl), (refl, refl, refl)),
      (((refl, refl, refl), (refl, refl, refl)), (((refl, refl, refl), (refl, refl, refl)), tt)),
    ),
  ),
)
