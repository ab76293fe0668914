-- The weights of bytes at given points in the bytes at others, as rows of a matrix.
use Rattle.std.specs.Prelude.{ℕ, ◌*◌, ◌/◌, ◌%◌, Bool, cond, ◌&&◌, List, leb, eqb, length, get_or}
use Rattle.field.specs.Bytes.{tabulate}
use Rattle.points.specs.Lagrange.{lagrange}

-- at most 16 rows of at most 255 weights, and c bytes are these
unfoldable pub weights_fit : ℕ → ℕ → ℕ → Bool
weights_fit r m c = leb r 16 && leb m 255 && eqb c (r * m)

-- row v, at place c: Lagrange's polynomial of point v of bs, at point c of ys
unfoldable pub weights_of : List ℕ → List ℕ → List ℕ
weights_of bs ys =
    tabulate (length bs * length ys) (λ n. lagrange bs (n / length ys) (get_or ys (n % length ys) 0))

-- what a buffer holds that they were filled into: what it held, where they do not fit
unfoldable pub weighed : List ℕ → List ℕ → List ℕ → List ℕ
weighed bs ys out = cond (weights_fit (length bs) (length ys) (length out)) (weights_of bs ys) out
