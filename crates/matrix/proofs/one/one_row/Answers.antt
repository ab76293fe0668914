-- `one_row` meets its contract: at the places below `at` the row is there.
use Prim.Native.Nat.{◌+◌, ◌≤◌}
use mathlib.Core.Path.{refl}
use native.Mathlib.Omega.{arith}
use borrow.Author.Rules.{rules}
use Rattle.field.specs.Bytes.{Bytes}
use Rattle.matrix.proofs.Listing.{RowBelow, lists_inside, row_more, row_all}
use Rattle.matrix.proofs.one.one_row.Goals as goal
use Rattle.matrix.proofs.one.one_row.Goals.{After-put}

pub loop-at-init : goal.loop-at-init
loop-at-init c = (search rules, c.lists.ensures, record { at = λ p h. absurd (omega arith) })

pub overflow_add-from : goal.overflow_add-from
overflow_add-from c = omega (arith, c.requires.1.1.1.0 0 c.requires.0)

pub listed_row-y-requires : goal.listed_row-y-requires
listed_row-y-requires c =
    let at = c.loop-at.at in
    let fits : at + c.min-w.result ≤ c.args.count = omega arith in
    let a = c.args in
    let lists = lists_inside a.weights.now a.cs.now a.columns.now a.from a.stride a.count c.requires.1.0 _ _ c.loop-at.invariant.1 in
    let all = lists at _ fits c.requires.1.1.1.0 in
    (omega arith, (omega arith, (omega arith, λ b l. ((all b l).0, λ j less. omega (arith, (all b l).1 j less)))))

-- the row is there below the end of this block
turned : (c : After-put) → let a = c.args in
    RowBelow a.weights.now a.cs.now a.columns.now a.from a.stride (c.loop-at.at + c.min-w.result) c.put.new.out
turned c =
    let at = c.loop-at in
    let bytes : Bytes c.args.columns.now = λ i. (c.shared_slice_known-3-1.given i).fits in
    row_more _ _ _ _ _ c.args.count c.requires.1.0 _ _ at.invariant.1 at.at _ _ _ _ _ bytes (omega arith) refl c.listed_row-y.ensures
    c.put.ensures at.invariant.2

pub loop-at-preserved : goal.loop-at-preserved
loop-at-preserved c = (omega arith, c.loop-at.invariant.1, turned (goal.at.loop-at-preserved c).After-put)

pub returns : goal.returns
returns c = row_all _ _ _ _ _ _ _ _ (omega arith) c.loop-at.invariant.2
