-- `further` meets its contract: the row is put back multiplied, and so are the differences.
use Prim.Native.Nat.{ℕ, ◌<◌}
use mathlib.Core.Path.{◌≡◌, ap, ◌∙◌}
use native.Mathlib.Omega.{arith}
use lib.ListN.{length, get_or}
use borrow.Author.Rules.{rules}
use Rattle.field.specs.Field.{◌⊕◌, ◌⊗◌}
use Rattle.lagrange.proofs.Lanes.{product_at, row_onto, row_times}
use Rattle.lagrange.proofs.further.Goals as goal

pub returns : goal.returns
returns c = let by = c.apart-d in
    let a = c.args in
    let p = a.p.now in
    let long : length p ≡ 16 = search rules in
    let put = row_onto a.v a.rows.now _ (omega (arith, c.requires, c.told-rows)) (λ (x y : ℕ). x ⊗ y) p long c.multiply.ensures in
    let made : (q : ℕ) → q < 16 → get_or c.multiply-2.new.a q 0 ≡ (get_or a.y.now q 0 ⊕ a.b) ⊗ get_or p q 0 =
    λ q h. product_at by.result p _ by.ensures.0 long c.multiply-2.ensures q h
    ∙ ap (λ (x : ℕ). x ⊗ get_or p q 0) (by.ensures.1 q h) in
    record { row_times = row_times p a.v put; result_len = (search rules, made) }
