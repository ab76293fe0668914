-- Mending as it is computed: of the columns that survive the first k are the sources. Each lost column, and each further survivor, is
-- a sum over them with weights that depend on the points alone; a further survivor is a spare, by which the sources are judged.
use Rattle.std.specs.Prelude.{ℕ, zero, suc, ◌+◌, ◌*◌, cond, List, [], ◌∷◌, ◌++◌, map, get_or, take, drop}
use Rattle.stripe.specs.Stripe.{among}
use Rattle.points.specs.Points.{points}
use Rattle.points.specs.Mending.{entries}
use Rattle.points.specs.Lagrange.{dot, lagrange}

-- of the m positions from c on those that do not stand in the list
unfoldable pub survivors : ℕ → ℕ → List ℕ → List ℕ
survivors c zero es = []
survivors c (suc m) es = cond (among c es) (survivors (suc c) m es) (c ∷ survivors (suc c) m es)

-- the first k that survive, and the others
unfoldable pub sources : ℕ → ℕ → List ℕ → List ℕ
sources k r es = take k (survivors 0 (k + r) es)

unfoldable pub spares : ℕ → ℕ → List ℕ → List ℕ
spares k r es = drop k (survivors 0 (k + r) es)

-- the positions that are computed: the lost ones, then the spares
unfoldable pub computed : ℕ → ℕ → List ℕ → List ℕ
computed k r es = es ++ spares k r es

-- the byte at place p of number v of them, from the sources
unfoldable pub computed_byte : ℕ → ℕ → ℕ → List ℕ → List ℕ → ℕ → ℕ → ℕ
computed_byte k r l es xs v p =
    dot (map (lagrange (entries (points k r) (computed k r es)) v) (entries (points k r) (sources k r es)))
    (map (λ c. get_or xs (c * l + p) 0) (sources k r es))
