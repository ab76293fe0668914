-- The bytes before the place are written.
use native.Mathlib.Omega.{arith}
use Prim.Native.Nat.{ℕ}
use mathlib.Core.Path.{ap, ◌∙◌}
use mathlib.Core.List.{List}
use Rattle.field.specs.Bytes.{over}
use Rattle.text.specs.Text.{hex}
use Rattle.field.proofs.Over.{over_none}
use Rattle.text.proofs.Pieces.{take_whole, hex-length, hex_turn}
use Rattle.text.proofs.put.put_hex.Goals as goal

pub loop-b-init : goal.loop-b-init
unfolding hex
loop-b-init c = (omega arith, over_none _ _)

pub put_pair-next-requires : goal.put_pair-next-requires
put_pair-next-requires c = omega (arith, hex-length c.args.bytes.now)

pub loop-b-preserved : goal.loop-b-preserved
loop-b-preserved c =
    let a = c.args in (
      omega (arith, c.put_pair-next.ensures.value),
      hex_turn a.out.now a.bytes.now c.loop-b.out _ a.at c.loop-b.next c.loop-b.b-index (omega arith) c.loop-b.invariant.0
          c.loop-b.invariant.1 c.put_pair-next.ensures.out_after c.requires,
    )

pub returns : goal.returns
returns c =
    let a = c.args in
    let w = take_whole a.bytes.now c.loop-b.b-index (omega arith) in
    record {
      value = omega (arith, hex-length a.bytes.now);
      out_after = c.loop-b.invariant.1 ∙ ap (λ (xs : List ℕ). over a.out.now a.at (hex xs)) w;
    }
