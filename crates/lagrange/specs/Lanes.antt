-- Blocks of sixteen lanes: what the steps on the way to the weights leave in them.
use Rattle.std.specs.Prelude.{ℕ, ◌+◌, ◌*◌, ◌<◌, ◌≡◌, List, length, get_or}
use Rattle.field.specs.Field.{◌⊗◌, inverse_of}
use Rattle.points.specs.Lagrange.{away, others, lagrange}

-- lane q of row v
abbrev pub lane : List ℕ → ℕ → ℕ → ℕ
lane rows v q = get_or rows (v * 16 + q) 0

-- each of the first n rows is its constant, in every lane
pub record Spread (cs : List ℕ) (n : ℕ) (rows : List ℕ) : Type 0 where
  pub long : length rows ≡ 256
  pub at : (v q : ℕ) → v < n → q < 16 → lane rows v q ≡ get_or cs v 0

-- row v is multiplied by ps, lane by lane; the others stay
pub record RowTimes (v : ℕ) (ps rows rows' : List ℕ) : Type 0 where
  pub long : length rows' ≡ length rows
  pub own : (q : ℕ) → q < 16 → lane rows' v q ≡ lane rows v q ⊗ get_or ps q 0
  pub other : (u q : ℕ) → (u ≡ v → ⊥) → q < 16 → lane rows' u q ≡ lane rows u q

-- row v is Lagrange's polynomial of point v, at each lane
pub record Polynomials (bs ys rows : List ℕ) : Type 0 where
  pub long : length rows ≡ 256
  pub at : (v q : ℕ) → v < length bs → q < 16 → lane rows v q ≡ lagrange bs v (get_or ys q 0)

-- constant v: the inverse of what point v is apart from the others
pub record Constants (bs cs : List ℕ) : Type 0 where
  pub long : length cs ≡ 16
  pub at : (v : ℕ) → v < length bs → get_or cs v 0 ≡ inverse_of (away (others bs v) (get_or bs v 0))

-- the weights of the first n points of ys stand in out
pub record Filled (bs ys : List ℕ) (n : ℕ) (out : List ℕ) : Type 0 where
  pub long : length out ≡ length bs * length ys
  pub at : (v c : ℕ) → v < length bs → c < n → get_or out (v * length ys + c) 0 ≡ lagrange bs v (get_or ys c 0)

-- lane v is what point v is apart from the others
pub record ApartFromOthers (bs ps : List ℕ) : Type 0 where
  pub long : length ps ≡ 16
  pub at : (v : ℕ) → v < length bs → get_or ps v 0 ≡ away (others bs v) (get_or bs v 0)

-- the first w lanes of each of r rows stand from `at` on in rows of m bytes; before them nothing is changed
pub record Laid (rows : List ℕ) (r m at w : ℕ) (out out' : List ℕ) : Type 0 where
  pub long : length out' ≡ length out
  pub own : (v q : ℕ) → v < r → q < w → get_or out' (v * m + (at + q)) 0 ≡ lane rows v q
  pub before : (v c : ℕ) → c < at → get_or out' (v * m + c) 0 ≡ get_or out (v * m + c) 0
