-- `bytes_at` meets its contract: the part is copied over zeros.
use Prim.Native.Nat.{ℕ}
use mathlib.Core.Path.{ap, ◌∙◌}
use native.Mathlib.Omega.{arith}
use lib.ListN.{length, length-replicate}
use Rattle.lanes.proofs.Onto.{onto-length}
use Rattle.lanes.proofs.Parts.{copied}
use Rattle.syndromes.proofs.apart.bytes_at.Goals as goal

pub returns : goal.returns
returns c =
    let a = c.args in
    let is = c.copy.ensures in
    let long = length-replicate {A = ℕ} 64 0 in
    (ap length is ∙ onto-length (λ (x y : ℕ). y) _ _ ∙ long, copied _ _ _ a.at 64 c.requires (omega (arith, long)) is)
