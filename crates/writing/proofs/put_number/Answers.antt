-- `put_number` meets its contract: there is room, so all bytes are placed.
use mathlib.Core.Path.{sym, ap, ◌∙◌}
use Prim.Native.Nat.{ℕ, ◌+◌}
use native.Mathlib.Omega.{arith}
use Rattle.number.specs.Number.{written}
use Rattle.number.proofs.Placed.{all_placed}
use Rattle.writing.proofs.put_number.Goals as goal

pub overflow_add-result : goal.overflow_add-result
overflow_add-result c =
    let a = c.args in
    omega (
      arith,
      (all_placed a.out.now a.at (written a.value) c.requires).0,
      c.write_number.ensures.value,
    )

pub returns : goal.returns
returns c = let a = c.args in
    let p = all_placed a.out.now a.at (written a.value) c.requires in
    let w = c.write_number.ensures in
    record { value = ap (λ (n : ℕ). a.at + n) (w.value ∙ sym p.0); out_after = w.out_after ∙ sym p.1 }
