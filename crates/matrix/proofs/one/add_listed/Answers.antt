-- `add_listed` meets its contract: the first j columns of the list are in.
use Prim.Native.Nat.{ℕ, ◌+◌, ◌*◌, ◌≤◌}
use mathlib.Core.Path.{◌≡◌, sym, ap, subst}
use native.Mathlib.Omega.{arith}
use lib.ListN.{length, get_or}
use borrow.Author.Rules.{rules}
use Rattle.matrix.proofs.Listing.{added_start, added_turn, added_done}
use Rattle.matrix.proofs.one.add_listed.Goals as goal
use Rattle.matrix.proofs.one.add_listed.Goals.{After-from}

pub loop-j-init : goal.loop-j-init
loop-j-init c = added_start _ _ _ _ _ _ _

-- what is taken lies in the columns
inside : (c : After-from) → let a = c.args in
    a.from + c.from.result * a.stride + a.w ≤ length a.columns.now
inside c =
    subst (λ (x : ℕ). c.args.from + x * c.args.stride + c.args.w ≤ length c.args.columns.now) (sym c.from.ensures)
    (c.requires.1.1 c.loop-j.j c.loop-j-test.true)

pub overflow_mul-from : goal.overflow_mul-from
overflow_mul-from c = omega (arith, inside c)

pub overflow_add-from : goal.overflow_add-from
overflow_add-from c = omega (arith, inside c)

pub block-d-requires : goal.block-d-requires
block-d-requires c = (inside c, search rules)

pub loop-j-preserved : goal.loop-j-preserved
loop-j-preserved c =
    let a = c.args in
    let at = c.loop-j in
    let o = a.from + c.from.result * a.stride in
    let is : o ≡ a.from + get_or a.ls.now (a.at + at.j) 0 * a.stride = ap (λ (x : ℕ). a.from + x * a.stride) c.from.ensures in
    let read = c.block-d.ensures in
    let turn = added_turn a.columns.now a.ls.now a.from a.stride a.at a.w at.j o in
    turn _ _ _ _ c.requires.1.0 (omega arith) (omega arith) is read at.invariant c.add.ensures

pub returns : goal.returns
returns c =
    let a = c.args in
    let twice = c.double_add.ensures in
    added_done a.columns.now a.ls.now a.from a.stride a.at a.w a.n c.loop-j.j _ _ _
    c.requires.1.0 (omega arith) (omega arith) twice c.loop-j.invariant
