-- `mix_part` meets its contract: the bytes read stand in a block before any is written.
use native.Mathlib.Omega.{arith}
use borrow.Author.Rules.{rules}
use Rattle.field.specs.Bytes.{Bytes}
use Prim.Native.Nat.{◌+◌, ◌-◌}
use mathlib.Core.Path.{◌∙◌}
use Rattle.products.proofs.Mixing.{disjoint_is, within_same, within_places, within_block}
use Rattle.products.proofs.Halving.{block_bytes, by_rest, by_one}
use Rattle.products.proofs.within.mix_part.Goals as goal

pub overflow_add-e : goal.overflow_add-e
overflow_add-e c = let h = disjoint_is c.requires.0 in omega (arith, h.second)

pub slice_bounds-copy-end-2 : goal.slice_bounds-copy-end-2
slice_bounds-copy-end-2 c = let h = disjoint_is c.requires.0 in omega (arith, h.second)

pub overflow_add-f : goal.overflow_add-f
overflow_add-f c = let h = disjoint_is c.requires.0 in omega (arith, h.first)

pub slice_bounds-add-end : goal.slice_bounds-add-end
slice_bounds-add-end c = let h = disjoint_is c.requires.0 in omega (arith, h.first)

pub returns-then-k-eq1 : goal.returns-then-k-eq1
returns-then-k-eq1 c =
    let h = disjoint_is c.requires.0 in
    let k = c.by_doubling-k in
    let bytes : Bytes c.args.a.now = λ i. search rules in
    let block = block_bytes c.args.from (c.args.from + c.args.n - c.args.from) c.args.a.now _ bytes c.copy.ensures in
    let one = c.if-k-eq1.true in
    let is = c.add.ensures ∙ by_one c.args.c k.result _ _ _ one block k.ensures in
    within_same (within_block _ _ _ _ c.args.a.now _ _ h c.requires.1 c.copy.ensures is) (within_places _ _ _ _ _ h)

pub slice_bounds-scale_add-end : goal.slice_bounds-scale_add-end
slice_bounds-scale_add-end c = let h = disjoint_is c.requires.0 in omega (arith, h.first)

pub returns : goal.returns
returns c =
    let h = disjoint_is c.requires.0 in
    let k = c.by_doubling-k in
    let is = c.scale_add.ensures ∙ by_rest c.args.c k.result _ _ _ k.ensures in
    within_same (within_block _ _ _ _ c.args.a.now _ _ h c.requires.1 c.copy.ensures is) (within_places _ _ _ _ _ h)
