-- `add_piggybacks` meets its contract: the columns before i are parity, the others are rows.
use mathlib.Core.Path.{refl, ap, ◌∙◌}
use native.Mathlib.Nat.{le_refl}
use native.Mathlib.Omega.{arith}
use lib.ListN.{length}
use Rattle.coding.specs.Encode.{encode_refusal}
use Rattle.coding.proofs.Piggyback.{half_start, half_turn}
use Rattle.coding.proofs.encode.add_piggybacks.Goals as goal

pub loop-i-init : goal.loop-i-init
loop-i-init c =
    (refl, c.requires.0, half_start _ _ _ c.requires.1.1)

pub add_runs-requires : goal.add_runs-requires
add_runs-requires c =
    let at = c.loop-i in
    (at.invariant.1, (c.requires.1.0, (c.loop-i-test.true, at.invariant.2.left at.i (le_refl _) c.loop-i-test.true)))

pub loop-i-preserved : goal.loop-i-preserved
loop-i-preserved c =
    let at = c.loop-i in
    let f = c.add_runs.ensures in (
      f.1.long ∙ at.invariant.0,
      ap (encode_refusal c.args.s (length c.args.«data».now)) f.1.long ∙ at.invariant.1,
      half_turn c.args.s _ _ _ at.i f.0 f.1 at.invariant.2,
    )

pub returns : goal.returns
returns c = λ i less. c.loop-i.invariant.2.done i (omega arith)
