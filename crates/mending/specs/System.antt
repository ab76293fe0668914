-- What is solved: the lost data columns are the unknowns, and rows that survive the equations.
use Rattle.std.specs.Prelude.{ℕ, ◌+◌, ◌-◌, ◌*◌, ◌≤◌, ◌<◌, ◌≡◌, true, false, ◌⊎◌, List, [], ◌∷◌, length, get_or, take}
use Rattle.stripe.specs.declared.Shape.{Shape}
use Rattle.stripe.specs.Shape.{columns, most_rows}
use Rattle.stripe.specs.Stripe.{by_points, runs, among, Ascending, plain_runs}
use Rattle.stripe.proofs.Survivors.{first_row, row_step}
use Rattle.stripe.proofs.Lost.{lost_data, row_lost}
use Rattle.mending.specs.declared.system.System.{System}
use Rattle.mending.specs.Few.{few_list}

-- positions counted from x on
unfoldable pub less : ℕ → List ℕ → List ℕ
less x [] = []
less x (i ∷ is) = (i - x) ∷ less x is

-- the lost positions, and the lost data columns
abbrev pub lost_in : System → List ℕ
lost_in p = few_list p.lost

abbrev pub gone : Shape → System → List ℕ
gone s p = lost_data s.k (lost_in p)

-- there is room for the lost data columns, whose positions are counted from x on in row j
abbrev pub Counted : System → ℕ → ℕ → Type 0
Counted p x j =
    (length p.lost.at ≡ most_rows)
    × ((p.count ≤ most_rows)
    × ((j < most_rows) × ((v : ℕ) → v < p.count → (x ≤ get_or p.lost.at v 0) × (get_or p.lost.at v 0 < 256))))

-- row j is solved by; is not
abbrev pub Solver : System → ℕ → Type 0
Solver p j = (v : ℕ) × ((v < p.count) × (p.first + p.step * v ≡ j))

abbrev pub Other : System → ℕ → Type 0
Other p j = Solver p j → ⊥

-- where positions are counted from: 0, or in a plain stripe, where the e lost data columns are all n that are lost, the first of them, i
abbrev pub PivotOf : ℕ → ℕ → ℕ → ℕ → ℕ → Type 0
PivotOf t e n i x = (x ≡ 0) ⊎ ((t ≡ 0) × ((0 < e) × ((e ≡ n) × (x ≡ i))))

-- the stripe is by rows; the columns are the lost ones and the rows the first that survive; positions
-- are counted from 0 on unless the stripe is plain and no row is lost
pub record Posed (s : Shape) (p : System) : Type 0 where
  pub rows : by_points s ≡ false
  pub room : length p.lost.at ≡ most_rows
  pub few : p.lost.count ≤ most_rows
  pub ascend : Ascending 0 (columns s) (lost_in p)
  pub fits : length (lost_in p) ≤ s.r
  pub many : p.count ≤ p.lost.count
  pub front : take p.count p.lost.at ≡ gone s p
  pub first_is : p.first ≡ first_row (row_lost s.k (lost_in p))
  pub step_is : p.step ≡ row_step (row_lost s.k (lost_in p))
  pub pivot_below : (v : ℕ) → v < p.count → p.pivot ≤ get_or p.lost.at v 0
  pub pivot_plain : plain_runs s < runs s → p.pivot ≡ 0
  pub pivot_whole : (j : ℕ) → among (s.k + j) (lost_in p) ≡ true → p.pivot ≡ 0
  pub pivot_apart : (p.pivot ≡ 0) ⊎ ((s.t ≡ 0) × (p.pivot < s.k))
