-- The smaller record holds the same positions, where there are no more than it has room for; so it is ready where the other is.
use Prim.Native.Nat.{ℕ, ◌≤◌, ◌<◌}
use mathlib.Core.Path.{◌≡◌, sym, ◌∙◌, subst}
use native.Mathlib.Nat.{mul-le-mul}
use native.Mathlib.Omega.{arith}
use mathlib.Core.List.{List}
use lib.ListN.{length, get_or}
use lib.Seq.{get_or-take, length-take-le, ext_get_or}
use Rattle.stripe.specs.declared.Shape.{Shape}
use Rattle.stripe.specs.Shape.{shape_refusal, most_rows, most_rows_length, columns, parity_length}
use Rattle.stripe.specs.Stripe.{Ascending}
use Rattle.stripe.proofs.Allowed.{allowed, few_by_rows, rows_most}
use Rattle.lost.specs.declared.Lost.{Lost}
use Rattle.lost.specs.Lost.{lost_list, capacity}
use Rattle.mending.specs.declared.few.Few.{Few}
use Rattle.mending.specs.Few.{few_list}
use Rattle.mending.specs.Restore.{Ready, ReadyRows}

-- the first positions of a record, and its number
abbrev pub FirstOf : Lost → Few → Type 0
FirstOf w f =
    (length f.at ≡ most_rows) × ((f.count ≡ w.count) × ((v : ℕ) → v < most_rows → get_or f.at v 0 ≡ get_or w.at v 0))

module _ (w : Lost) (f : Few) (first : FirstOf w f) (room : length w.at ≡ capacity) (most : w.count ≤ most_rows) where
  pub few_list_lem : few_list f ≡ lost_list w
  few_list_lem =
      ext_get_or 0 (few_list f) (lost_list w) (long_few ∙ first.1.0 ∙ sym long_lost)
      (λ v h. let l : v < f.count = subst (λ (n : ℕ). v < n) long_few h in
      get_or-take f.count f.at v 0 l ∙ first.1.1 v (omega (arith, first.1.0)) ∙ sym (get_or-take w.count w.at v 0 (omega (arith, first.1.0))))
    where
      long_few : length (few_list f) ≡ f.count
      long_few = length-take-le f.count f.at (omega (arith, first.0, first.1.0))

      long_lost : length (lost_list w) ≡ w.count
      long_lost = length-take-le w.count w.at (omega (arith, room))

pub ready_rows : (s : Shape) (w : Lost) (f : Few) → FirstOf w f → Ready s w → s.r ≤ most_rows → ReadyRows s f
ready_rows s w f first ready few =
    record {
      shape = ready.shape;
      rows = few_by_rows s few;
      room = first.0;
      few = omega (arith, first.1.0, ready.few);
      ascend = subst (Ascending 0 (columns s)) (sym (few_list_lem w f first ready.room (omega (arith, ready.few)))) ready.ascend;
    }

-- r rows fit the longest scratch
pub rows_fit_lem : (s : Shape) (w : Few) → ReadyRows s w → parity_length s ≤ most_rows_length
rows_fit_lem s w h = let f = allowed s h.shape in mul-le-mul (rows_most s f h.rows) f.length_most

-- the record of no position
pub none_ready : (s : Shape) (at : List ℕ) → shape_refusal s ≡ 0 → s.r ≤ most_rows → length at ≡ most_rows → ReadyRows s record { at = at; count = 0 }
unfolding Ascending
none_ready s at h few room = record { shape = h; rows = few_by_rows s few; room = room; few = omega arith; ascend = tt }
