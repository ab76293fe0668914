-- `lanes::all_zero` meets its contract: the or of all bytes is 0 exactly where each is.
use mathlib.Core.Path.{◌≡◌, ap, ◌∙◌}
use lib.Bits.{bit_or}
use lib.Dec.{eqb}
use borrow.Author.Rules.{rules}
use Prim.Native.Nat.{ℕ}
use Rattle.std.specs.List.{fold}
use Rattle.lanes.proofs.Zero.{zero_or}
use Rattle.lanes.proofs.all_zero.Goals as goal

pub returns : goal.returns
returns c =
    let e : c.fold.result ≡ fold bit_or 0 c.args.a.now = search rules in
    ap (λ (z : ℕ). eqb z 0) e ∙ zero_or c.args.a.now
