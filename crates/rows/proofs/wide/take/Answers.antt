-- `take` meets its contract: the slot's block has the column and two other blocks added, and is put back.
use Prim.Native.Nat.{ℕ, ◌+◌, ◌*◌, ◌<◌}
use mathlib.Core.Path.{◌≡◌, ap, ◌∙◌}
use native.Mathlib.Omega.{arith}
use lib.ListN.{get_or}
use Rattle.rows.specs.Remainder.{slot}
use Rattle.rows.proofs.Ring.{slot_small, taken}
use Rattle.rows.proofs.wide.take.Goals as goal

pub overflow_mul-after : goal.overflow_mul-after
overflow_mul-after c = omega (arith, slot_small _ _ _ c.after.ensures)

pub last-a-requires : goal.last-a-requires
last-a-requires c = (omega (arith, slot_small _ _ _ c.after.ensures), omega arith)

pub overflow_mul-after-2 : goal.overflow_mul-after-2
overflow_mul-after-2 c = omega (arith, slot_small _ _ _ c.after-2.ensures)

pub last-b-requires : goal.last-b-requires
last-b-requires c = (omega (arith, slot_small _ _ _ c.after-2.ensures), omega arith)

pub returns : goal.returns
returns c =
    let w = c.args.w.now in
    let y = c.last-y in
    let a = c.last-a in
    let b = c.last-b in
    let a_at : (q : ℕ) → q < 64 → get_or a.result q 0 ≡ get_or w (slot c.args.s 10 * 64 + q) 0 =
    λ q h. a.ensures q h ∙ ap (λ (x : ℕ). get_or w (x * 64 + q) 0) c.after.ensures in
    let b_at : (q : ℕ) → q < 64 → get_or b.result q 0 ≡ get_or w (slot c.args.s 13 * 64 + q) 0 =
    λ q h. b.ensures q h ∙ ap (λ (x : ℕ). get_or w (x * 64 + q) 0) c.after-2.ensures in
    taken c.args.s w _ _ _ _ (omega arith) (omega arith) (omega (arith, a)) (omega (arith, b)) y.ensures a_at b_at _ _ _ _
    c.add.ensures c.add-2.ensures c.add-3.ensures c.put.ensures
