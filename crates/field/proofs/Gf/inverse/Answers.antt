-- `Gf::inverse` meets its contract: of zero it is zero, and of any other byte Euclid's algorithm runs to the inverse.
use mathlib.Core.Path.{sym, ap, ◌∙◌, subst}
use Prim.Native.Nat.{ℕ, ◌+◌, ◌*◌, ◌/◌, ◌<◌}
use native.Mathlib.Nat.{lt_trans}
use native.Mathlib.Omega.{arith}
use borrow.Author.Rules.{rules}
use Rattle.field.specs.Field.{inverse_of, polynomial}
use Rattle.field.proofs.Mul.{inverse_zero}
use Rattle.field.proofs.Euclid.{Runs, runs_start, runs_turn, runs_done, rest_less}
use Rattle.field.proofs.Gf.inverse.Invariants.{high}
use Rattle.field.proofs.Gf.inverse.Goals as goal

pub returns-then-self-eq0 : goal.returns-then-self-eq0
returns-then-self-eq0 c = c.if-self-eq0.true ∙ sym (ap inverse_of c.if-self-eq0.true ∙ inverse_zero)

pub loop-v-init : goal.loop-v-init
loop-v-init c =
    let a = c.from.result in
    let h : a < 256 = search rules in
    let p : 0 < a = search rules in
    let start = subst (λ (x : ℕ). Runs x (polynomial * 65536) (a * 65536 + 1)) (sym (high a)) (runs_start a p h) in
    (search rules, (omega arith, subst (λ (g : ℕ). Runs ((a * 65536 + 1) / 65536) (g * 65536) (a * 65536 + 1)) (sym c.from-u.ensures) start))

pub loop-v-smaller : goal.loop-v-smaller
loop-v-smaller c =
    let l = c.loop-v in rest_less l.v l.u _ (search rules) l.invariant.1.0 l.invariant.0 c.rest-w.ensures

pub loop-v-preserved : goal.loop-v-preserved
loop-v-preserved c =
    let l = c.loop-v in
    (l.invariant.1.0, (lt_trans (loop-v-smaller c) l.invariant.1.0, runs_turn _ l.u l.v _ c.loop-v-test.true l.invariant.1.1 c.rest-w.ensures))

pub returns : goal.returns
returns c =
    let l = c.loop-v in
    let a = c.from.result in
    let h : a < 256 = search rules in
    let p : 0 < a = search rules in
    runs_done a l.u l.v p h (search rules) (subst (λ (x : ℕ). Runs x l.u l.v) (high a) l.invariant.1.1)
    ∙ ap inverse_of c.from.ensures
