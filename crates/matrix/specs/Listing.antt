-- What the functions for one row share: lists of the columns whose constant has a bit, and the sums of those columns.
use Rattle.std.specs.Prelude.{ℕ, ◌+◌, ◌*◌, ◌%◌, ◌<◌, ◌≤◌, ◌≡◌, List, length, get_or}
use Rattle.field.specs.Field.{times}
use Rattle.matrix.specs.Sums.{sum_to, halved, Among}

-- n numbers stand in ls from `at` on: of the first m of cs those whose place has the bit, in turn
pub record Listed (bit : ℕ → ℕ) (cs : List ℕ) (m at n : ℕ) (ls : List ℕ) : Type 0 where
  pub few : n ≤ m
  pub among : (j : ℕ) → j < n → Among cs m (get_or ls (at + j) 0)
  pub sum : (x : ℕ → ℕ) → sum_to n (λ j. x (get_or ls (at + j) 0)) ≡ sum_to m (λ i. times (bit i) (x (get_or cs i 0)))

-- the lists of the columns cs by the first bits of their constants, 256 apart, and how long they are
pub record Lists (ws cs : List ℕ) (bits : ℕ) (ns ls : List ℕ) : Type 0 where
  pub at : (b : ℕ) → b < bits → Listed (λ i. halved b (get_or ws i 0) % 2) cs (length cs) (b * 256) (get_or ns b 0) ls

-- w bytes of each of the n columns that are listed from `at` on lie in xs
abbrev pub ListedInside : List ℕ → ℕ → ℕ → List ℕ → ℕ → ℕ → ℕ → Type 0
ListedInside xs from stride ls at n w = (j : ℕ) → j < n → from + get_or ls (at + j) 0 * stride + w ≤ length xs

abbrev pub AllInside : List ℕ → ℕ → ℕ → List ℕ → List ℕ → ℕ → Type 0
AllInside xs from stride ns ls w = (b : ℕ) → b < 8 → (get_or ns b 0 ≤ 255) × ListedInside xs from stride ls (b * 256) (get_or ns b 0) w

-- the columns that are listed from `at` on, at place q, added
abbrev pub listed : List ℕ → ℕ → ℕ → List ℕ → ℕ → ℕ → ℕ → ℕ
listed xs from stride ls at n q = sum_to n (λ j. get_or xs (from + get_or ls (at + j) 0 * stride + q) 0)
