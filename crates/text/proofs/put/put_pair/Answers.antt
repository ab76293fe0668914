-- The high digit, then the low one.
use Prim.Native.Nat.{ℕ, ◌/◌, ◌%◌}
use mathlib.Core.Path.{sym, ap, ◌∙◌}
use mathlib.Core.List.{[], ◌∷◌}
use native.Mathlib.Omega.{arith}
use Rattle.field.specs.Bytes.{over}
use Rattle.text.specs.Text.{hex_digit}
use Rattle.field.proofs.Over.{over_on}
use Rattle.text.proofs.Pieces.{hex-one}
use Rattle.text.proofs.put.put_pair.Goals as goal

pub returns : goal.returns
returns c = let b = c.args.b in
    let first = c.put_byte-next.ensures in
    let second = c.put_byte.ensures in
    let high =
    ap (λ (d : ℕ). over c.args.out.now c.args.at (d ∷ [])) c.hex_digit.ensures in
    let mid = c.put_byte-next in
    let low = ap (λ (d : ℕ). over mid.new.out mid.result (d ∷ [])) c.hex_digit-2.ensures in
    record {
      value = omega arith;
      out_after = over_on c.args.out.now _ _ c.args.at _ (hex_digit (b / 16) ∷ []) (hex_digit (b % 16) ∷ []) (first.out_after ∙ high) first.value
          (second.out_after ∙ low) (omega (arith, c.requires))
          ∙ ap (over c.args.out.now c.args.at) (sym (hex-one b));
    }
