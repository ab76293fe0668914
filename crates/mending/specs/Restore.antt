-- A record that nothing is refused of, and what restoring leaves.
use Rattle.std.specs.Prelude.{ℕ, ◌≤◌, ◌≡◌, false, ◌⊎◌, List, length}
use Rattle.stripe.specs.declared.Shape.{Shape}
use Rattle.stripe.specs.Shape.{shape_refusal, columns, most_rows}
use Rattle.stripe.specs.Stripe.{by_points, Ascending}
use Rattle.lost.specs.declared.Lost.{Lost}
use Rattle.lost.specs.Lost.{lost_list, capacity}
use Rattle.mending.specs.declared.few.Few.{Few}
use Rattle.mending.specs.Few.{few_list}
use Rattle.mending.specs.Mend.{Restored}

pub record Ready (s : Shape) (w : Lost) : Type 0 where
  pub shape : shape_refusal s ≡ 0
  pub room : length w.at ≡ capacity
  pub few : w.count ≤ s.r
  pub ascend : Ascending 0 (columns s) (lost_list w)

-- the same of a stripe by rows
pub record ReadyRows (s : Shape) (w : Few) : Type 0 where
  pub shape : shape_refusal s ≡ 0
  pub rows : by_points s ≡ false
  pub room : length w.at ≡ most_rows
  pub few : w.count ≤ s.r
  pub ascend : Ascending 0 (columns s) (few_list w)

abbrev pub Restores : Shape → List ℕ → List ℕ → ℕ → List ℕ → Type 0
Restores s es xs v ys = ((v ≡ 0) × Restored s es xs ys) ⊎ ((v ≡ 8) × ((ys ≡ xs) × ((zs : List ℕ) → Restored s es xs zs → ⊥)))
