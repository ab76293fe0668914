-- `columns_fit` meets its contract: all columns fit where the one with the greatest number does.
use Prim.Native.Nat.{ℕ, ◌+◌, ◌*◌}
use mathlib.Core.Path.{ap, ◌∙◌}
use lib.Dec.{leb}
use Rattle.matrix.proofs.Shape.{greatest_fits}
use Rattle.matrix.proofs.columns_fit.Goals as goal

pub returns : goal.returns
returns c =
    let a = c.args in
    c.ends_within.ensures ∙ ap (λ (x : ℕ). leb (a.from + x * a.stride + a.count) a.b) c.from.ensures
    ∙ greatest_fits _ _ _ _ _ _ c.greatest.ensures
