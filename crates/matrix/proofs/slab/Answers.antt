-- `slab` meets its contract: at the places below `at` the columns of the slab are in.
use Prim.Native.Nat.{◌+◌, ◌/◌}
use mathlib.Core.Path.{refl}
use native.Mathlib.Omega.{arith}
use Rattle.field.specs.Bytes.{Bytes}
use Rattle.matrix.specs.Sums.{Inside, AllNumbers}
use Rattle.matrix.proofs.Blocks.{Edge, part_inside, all_small, edge_start, edge_turn, edge_done, rowed_same}
use borrow.Author.Rules.{rules}
use Rattle.matrix.proofs.slab.Goals as goal
use Rattle.matrix.proofs.slab.Goals.{After-min-w, After-rows_block}

-- what is taken lies in the columns
inside : (c : After-min-w) → let a = c.args in
    Inside a.columns.now a.cs.now (a.from + c.loop-at.at) a.stride c.min-w.result
inside c =
    let a = c.args in
    part_inside a.columns.now a.cs.now a.from a.stride a.count c.loop-at.at _ (omega arith) c.requires.1.1.1.1.1.0

pub loop-at-init : goal.loop-at-init
loop-at-init c = (search rules, c.all_numbers.ensures, edge_start _ _ _ _ _ _ _ _ _ _ c.requires.1.1.1.1.1.1.1)

pub overflow_add-from : goal.overflow_add-from
overflow_add-from c = omega (arith, inside (goal.at.overflow_add-from c).After-min-w 0 (omega arith))

pub tables-requires : goal.tables-requires
tables-requires c =
    let lies = inside (goal.at.tables-requires c).After-min-w in
    (omega arith, (omega arith, (omega arith, (omega arith, λ i less. omega (arith, lies i less)))))

pub rows_block-requires : goal.rows_block-requires
rows_block-requires c =
    let zero = c.tables.ensures.zero (omega arith) in
    let small = all_small _ _ _ _ _ _ c.loop-at.invariant.1 in
    let all : AllNumbers c.all_numbers.new.es c.args.rows c.div_ceil.result = λ s hs b hb g hg. small s hs b hb g (omega arith) in
    (omega arith, (omega arith, (omega arith, (omega arith, (omega arith, (omega arith, (omega arith, (omega arith, (zero, all)))))))))

-- the columns are in below the end of this block
turned : (c : After-rows_block) → let a = c.args in
    Edge a.matrix.now a.cs.now a.columns.now a.from a.stride a.count a.rows (a.i + a.n) a.i (c.loop-at.at + c.min-w.result) c.rows_block.new.out
turned c =
    let bytes : Bytes c.args.columns.now = λ i. (c.shared_slice_known-3-1.given i).fits in
    let made = rowed_same _ _ _ ((c.args.n + 3) / 4) _ _ _ _ _ _ _ (omega arith) c.rows_block.ensures in
    edge_turn _ _ _ _ _ _ _ c.args.i c.args.n _ _ _ _ c.loop-at.at _ _ _ bytes c.loop-at.invariant.1 refl (omega arith) c.tables.ensures.groups made
    c.loop-at.invariant.2

pub loop-at-preserved : goal.loop-at-preserved
loop-at-preserved c = (omega arith, c.loop-at.invariant.1, turned (goal.at.loop-at-preserved c).After-rows_block)

pub returns : goal.returns
returns c = edge_done _ _ _ _ _ _ _ _ _ _ _ (omega arith) c.loop-at.invariant.2
