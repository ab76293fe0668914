-- `listed_row` meets its contract: Horner's rule over the bits from b on.
use Prim.Native.Nat.{ℕ, ◌*◌, ◌-◌}
use mathlib.Core.Path.{ap₂, sym, ◌∙◌}
use native.Mathlib.Omega.{arith}
use lib.ListN.{get_or}
use Rattle.field.specs.Field.{◌⊕◌, ◌⊗◌}
use Rattle.matrix.specs.Listing.{listed}
use Rattle.matrix.proofs.Horner.{fall_none, fall_turn, fall_done}
use Rattle.matrix.proofs.Parts.{get_or_zeros}
use Rattle.matrix.proofs.one.listed_row.Goals as goal

pub loop-b-init : goal.loop-b-init
loop-b-init c = λ q h. get_or_zeros 64 q ∙ sym (fall_none 8 _)

pub add_listed-requires : goal.add_listed-requires
add_listed-requires c =
    let e = c.from.ensures in
    let at = c.loop-b in
    let h = c.requires.1.1.1 (at.b - 1) (omega arith) in
    (omega (arith, c.requires.0, h.0, e), (c.requires.1.1.0, λ j l. h.1 j (omega (arith, l, e))))

pub loop-b-preserved : goal.loop-b-preserved
loop-b-preserved c =
    let e = c.from.ensures in
    let at = c.loop-b in
    let a = c.args in
    let f : ℕ → ℕ → ℕ → ℕ = λ d n q. listed a.columns.now a.from a.stride a.ls.now (d * 256) n q in
    λ q h. c.add_listed.ensures q h ∙ ap₂ (λ (x n : ℕ). 2 ⊗ x ⊕ f (at.b - 1) n q) (at.invariant q h) e
    ∙ fall_turn at.b (λ d. f d (get_or a.ns.now d 0) q) (omega arith) (omega arith)

pub returns : goal.returns
returns c = λ q h. c.loop-b.invariant q h ∙ fall_done c.loop-b.b _ (omega arith)
