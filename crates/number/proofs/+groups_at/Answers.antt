-- `groups_at` meets its contract: each return is one case of `groups_at`, and what is left of five groups is below 2^28.
use Prim.Native.Nat.{ℕ, ◌+◌, ◌-◌}
use mathlib.Core.Path.{◌≡◌, sym, ap, ◌∙◌}
use native.Mathlib.Omega.{arith}
use Rattle.number.specs.Number.{Value, onto, groups_at}
use Rattle.number.proofs.Groups.{at_none, at_end, at_last, at_more, onto-zero, onto_more, left_small}
use Rattle.number.proofs.Reported.{flaw_handed_on, flaw_onto}
use Rattle.number.proofs.+groups_at.Goals as goal
use Rattle.number.proofs.+groups_at.Goals.{Else-b-lt128}

pub returns-then-m-eq0 : goal.returns-then-m-eq0
returns-then-m-eq0 t c = at_none c.args.m c.args.s.now c.args.at c.if-m-eq0.true

pub returns-then-s-at : goal.returns-then-s-at
returns-then-s-at t c = at_end c.args.m c.args.s.now c.args.at c.if-m-eq0.false c.if-s-at.true

pub returns-then-b-lt128 : goal.returns-then-b-lt128
returns-then-b-lt128 t c =
    let a = c.args in
    ap (λ (b : ℕ). Value b (a.at + 1)) c.from-b.ensures ∙ at_last a.m a.s.now a.at c.if-m-eq0.false c.if-s-at.false (omega arith)

-- what stands there has a group more than what follows
more : (t : ℕ) (c : Else-b-lt128 t) → let a = c.args in onto (c.from-b.result - 128) (groups_at (a.m - 1) a.s.now (a.at + 1)) ≡ groups_at a.m a.s.now a.at
more t c =
    let a = c.args in
    ap (λ (b : ℕ). onto (b - 128) (groups_at (a.m - 1) a.s.now (a.at + 1))) c.from-b.ensures
    ∙ at_more a.m a.s.now a.at c.if-m-eq0.false c.if-s-at.false (omega arith)

pub returns-in_err-rest : goal.returns-in_err-rest
returns-in_err-rest t c =
    let e = c.in_err-rest.field-0.0 in
    let d = c.from-b.result - 128 in
    flaw_handed_on _ e c.from_residual.ensures.1 ∙ flaw_onto d e ∙ ap (onto d) c.in_err-rest.ensures ∙ more t (goal.at.returns-in_err-rest t c).Else-b-lt128

pub returns-then-rest-eq0 : goal.returns-then-rest-eq0
returns-then-rest-eq0 t c =
    onto-zero (c.from-b.result - 128) _ _ _ c.in_ok-rest.ensures c.if-rest-eq0.true ∙ more t (goal.at.returns-then-rest-eq0 t c).Else-b-lt128

pub overflow_mul-result : goal.overflow_mul-result
overflow_mul-result t c =
    let a = c.args in
    omega (arith, left_small a.m a.s.now a.at _ _ (λ i. (c.type_inv.s i).fits) c.if-m-eq0.false c.requires (sym c.in_ok-rest.ensures))

pub overflow_add-result : goal.overflow_add-result
overflow_add-result t c =
    let a = c.args in
    omega (
      arith,
      left_small a.m a.s.now a.at _ _ (λ i. (c.type_inv.s i).fits) c.if-m-eq0.false c.requires (sym c.in_ok-rest.ensures),
      c.type_inv.s a.at,
    )

pub returns : goal.returns
returns t c = onto_more (c.from-b.result - 128) _ _ _ c.in_ok-rest.ensures c.if-rest-eq0.false ∙ more t (goal.at.returns t c).Else-b-lt128
