-- Where a step is of kind C and the fold at once of kind A, stale parity shows at once and not in two sittings: computed on the smallest stripes.
use mathlib.Core.Path.{◌≡◌, refl, sym, ap, ◌∙◌}
use mathlib.Core.List.{List, [], ◌∷◌}
use Prim.Native.Nat.{ℕ}
use native.Mathlib.Omega.{arith}
use lib.ListN.{get_or}
use Rattle.field.specs.Field.{◌⊕◌, ◌⊗◌, doubled, shifted, power, gpow}
use Rattle.field.specs.Bytes.{tabulate}
use Rattle.field.specs.Row.{row, row_from}
use Rattle.points.specs.Folding.{joined, parts}
use Rattle.stripe.specs.Shape.{shape_refusal}
use Rattle.stripe.specs.Stripe.{across, by_points}
use Rattle.plan.specs.declared.Kind.TheVariants.{A, C}
use Rattle.plan.specs.Plan.{fold_refusal, kind_of, column_spans, kind_spans, spans_from, plan, bytes_each, wide_shape}
use Rattle.fold.specs.Fold.{share, fold_byte, fold_by_rows, fold_stripes, fold_of, wide_data, named, cut_out, wide_stripe}
use Rattle.sittings.specs.Sittings.{halves, in_two, at_once}
use Rattle.sittings.specs.Stale.{two_rows, stale_second, one_row, stale_first}

-- A, then C, against A at once: f = 1, then f = 2
pub second_allowed : (fold_refusal two_rows 2 1 ≡ 0) × (fold_refusal (wide_shape two_rows 2 1) 2 2 ≡ 0) × (fold_refusal two_rows 4 2 ≡ 0)
unfolding fold_refusal shape_refusal
second_allowed = (refl, refl, refl)

pub second_kinds : (kind_of two_rows 1 ≡ A) × (kind_of (wide_shape two_rows 2 1) 2 ≡ C) × (kind_of two_rows 2 ≡ A)
unfolding kind_of
second_kinds = (refl, refl, refl)

pub second_at_once : at_once two_rows 4 2 stale_second ≡ 0 ∷ 0 ∷ 0 ∷ 0 ∷ 0 ∷ 0 ∷ 0 ∷ 0 ∷ 0x00 ∷ 0x01 ∷ []
unfolding at_once joined wide_stripe wide_data fold_of fold_stripes fold_by_rows fold_byte share parts named cut_out plan spans_from kind_spans column_spans
    bytes_each kind_of by_points fold_refusal shape_refusal across tabulate row row_from gpow power ◌⊗◌ shifted doubled ◌⊕◌
second_at_once = refl

pub second_in_two : in_two two_rows 2 1 2 2 stale_second ≡ 0 ∷ 0 ∷ 0 ∷ 0 ∷ 0 ∷ 0 ∷ 0 ∷ 0 ∷ 0x00 ∷ 0x00 ∷ []
unfolding in_two halves joined wide_stripe wide_data fold_of fold_stripes fold_by_rows fold_byte share
    parts named cut_out plan spans_from kind_spans column_spans
    bytes_each kind_of by_points fold_refusal shape_refusal across tabulate row row_from gpow power ◌⊗◌ shifted doubled ◌⊕◌
second_in_two = refl

pub second_apart : in_two two_rows 2 1 2 2 stale_second ≡ at_once two_rows 4 2 stale_second → ⊥
second_apart e = let h : ◌≡◌ {A = ℕ} 0 1 = ap (λ (xs : List ℕ). get_or xs 9 0) (sym second_in_two ∙ e ∙ second_at_once) in omega arith

-- C, then A, against A at once: f = 2, then f = 1
pub first_allowed : (fold_refusal one_row 2 2 ≡ 0) × (fold_refusal (wide_shape one_row 2 2) 2 1 ≡ 0) × (fold_refusal one_row 4 1 ≡ 0)
unfolding fold_refusal shape_refusal
first_allowed = (refl, refl, refl)

pub first_kinds : (kind_of one_row 2 ≡ C) × (kind_of (wide_shape one_row 2 2) 1 ≡ A) × (kind_of one_row 1 ≡ A)
unfolding kind_of
first_kinds = (refl, refl, refl)

pub first_at_once : at_once one_row 4 1 stale_first ≡ 0 ∷ 0 ∷ 0 ∷ 0 ∷ 0 ∷ 0 ∷ 0 ∷ 0 ∷ 0x01 ∷ []
unfolding at_once joined wide_stripe wide_data fold_of fold_stripes fold_by_rows fold_byte share parts named cut_out plan spans_from kind_spans column_spans
    bytes_each kind_of by_points fold_refusal shape_refusal across tabulate row row_from gpow power ◌⊗◌ shifted doubled ◌⊕◌
first_at_once = refl

pub first_in_two : in_two one_row 2 2 2 1 stale_first ≡ 0 ∷ 0 ∷ 0 ∷ 0 ∷ 0 ∷ 0 ∷ 0 ∷ 0 ∷ 0x00 ∷ []
unfolding in_two halves joined wide_stripe wide_data fold_of fold_stripes fold_by_rows fold_byte share
    parts named cut_out plan spans_from kind_spans column_spans
    bytes_each kind_of by_points fold_refusal shape_refusal across tabulate row row_from gpow power ◌⊗◌ shifted doubled ◌⊕◌
first_in_two = refl

pub first_apart : in_two one_row 2 2 2 1 stale_first ≡ at_once one_row 4 1 stale_first → ⊥
first_apart e = let h : ◌≡◌ {A = ℕ} 0 1 = ap (λ (xs : List ℕ). get_or xs 8 0) (sym first_in_two ∙ e ∙ first_at_once) in omega arith

-- The same stripes without a step of kind C, as `Same.a-a` has it: both times f = 2, and the stale byte shows.
pub second_shows : in_two two_rows 2 2 2 2 stale_second ≡ at_once two_rows 4 2 stale_second
unfolding in_two at_once halves joined wide_stripe wide_data fold_of fold_stripes fold_by_rows fold_byte
    share parts named cut_out plan spans_from kind_spans column_spans
    bytes_each kind_of by_points fold_refusal shape_refusal across tabulate row row_from gpow power ◌⊗◌ shifted doubled ◌⊕◌
second_shows = refl
