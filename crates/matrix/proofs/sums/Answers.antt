-- `sums` meets its contract: the sums of the first j columns are there.
use Prim.Native.Nat.{ℕ, ◌+◌, ◌*◌, ◌<◌, ◌≤◌}
use mathlib.Core.Path.{◌≡◌, sym, ap, subst, ◌∙◌}
use native.Mathlib.Omega.{arith}
use lib.ListN.{length, get_or}
use Rattle.matrix.proofs.Parts.{summed_start, summed_turn, summed_done, power_next}
use Rattle.matrix.proofs.Groups.{pow_small}
use borrow.Author.Rules.{rules}
use Rattle.matrix.proofs.sums.Goals as goal
use Rattle.matrix.proofs.sums.Goals.{After-from}

pub loop-j-init : goal.loop-j-init
loop-j-init c = (search rules, summed_start _ _ _ _ _ _ _ (omega arith) _ _ c.put.ensures)

-- column j lies in the columns
inside : (c : After-from) → let a = c.args in a.from + c.from.result * a.stride + a.w ≤ length a.columns.now
inside c =
    let at = c.loop-j in
    subst (λ (x : ℕ). c.args.from + x * c.args.stride + c.args.w ≤ length c.args.columns.now) (sym c.from.ensures)
    (c.requires.1.1.1.1.1 (c.args.i + at.j) (omega (arith, c.requires.1.1.1.0, c.loop-j-test.true)))

pub overflow_mul-from : goal.overflow_mul-from
overflow_mul-from c = omega (arith, inside c)

pub overflow_add-from : goal.overflow_add-from
overflow_add-from c = omega (arith, inside c)

pub block-d-requires : goal.block-d-requires
block-d-requires c = (inside c, search rules)

pub widen-requires : goal.widen-requires
widen-requires c =
    let at = c.loop-j in
    let h = c.requires in
    (omega arith, (h.1.0, omega (arith, at.invariant.0, pow_small at.j (omega arith))))

pub overflow_mul-have : goal.overflow_mul-have
overflow_mul-have c =
    let at = c.loop-j in
    omega (arith, at.invariant.0, pow_small at.j (omega arith))

pub loop-j-preserved : goal.loop-j-preserved
loop-j-preserved c =
    let at = c.loop-j in
    let a = c.args in
    let is : a.from + c.from.result * a.stride ≡ a.from + get_or a.cs.now (a.i + at.j) 0 * a.stride =
    ap (λ (x : ℕ). a.from + x * a.stride) c.from.ensures in
    let read = c.block-d.ensures in
    let wide = c.widen.ensures in
    let less : at.j < 4 = omega (arith, c.requires.1.1.0, c.loop-j-test.true) in
    let turn = summed_turn _ _ _ _ _ _ _ c.requires.1.1.1.1.0 at.j at.have _ _ _ _ at.invariant.0 less at.invariant.1 in
    (power_next _ _ at.invariant.0, turn (λ q h. read q h ∙ ap (λ (x : ℕ). get_or a.columns.now (x + q) 0) is) wide)

pub returns : goal.returns
returns c = summed_done _ _ _ _ _ _ _ (omega arith) _ _ _ _ _ (omega arith) c.put.ensures c.loop-j.invariant.1
