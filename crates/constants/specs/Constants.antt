-- The constants of stripes given by check equations, as rows of a matrix, and what a buffer holds that they were filled into: what it
-- held, where the numbers do not fit.
use Rattle.std.specs.Prelude.{ℕ, ◌+◌, ◌*◌, cond, ◌&&◌, List, leb}
use Rattle.points.specs.Points.{data_points, parity_points, points}
use Rattle.points.specs.Mending.{entries}
use Rattle.points.specs.Folding.{fold_points}
use Rattle.lagrange.specs.Weights.{weights_of, weighed}

-- the most constants: of 16 columns that are made from 239 others
abbrev pub most_constants : ℕ
most_constants = 16 * 239

-- what each of k data bytes counts in each of r parity bytes
unfoldable pub encoding_of : ℕ → ℕ → List ℕ
encoding_of k r = weights_of (parity_points r) (data_points k)

-- what each byte of the old parities of n stripes counts in each of r bytes of the new
unfoldable pub folding_of : ℕ → ℕ → ℕ → List ℕ
folding_of k r n = weights_of (parity_points r) (fold_points k r n)

-- what each byte at positions cs counts in each byte at positions is
unfoldable pub mending_of : ℕ → ℕ → List ℕ → List ℕ → List ℕ
mending_of k r is cs = weights_of (entries (points k r) is) (entries (points k r) cs)

unfoldable pub encodes : ℕ → ℕ → List ℕ → List ℕ
encodes k r out = cond (leb (k + r) 255) (weighed (parity_points r) (data_points k) out) out

unfoldable pub folds : ℕ → ℕ → ℕ → List ℕ → List ℕ
folds k r n out = cond (leb k 255 && leb r 16 && leb n 255 && leb (n * r) 255) (weighed (parity_points r) (fold_points k r n) out) out

unfoldable pub mends : ℕ → ℕ → List ℕ → List ℕ → List ℕ → List ℕ
mends k r is cs out = cond (leb (k + r) 255) (weighed (entries (points k r) is) (entries (points k r) cs) out) out
