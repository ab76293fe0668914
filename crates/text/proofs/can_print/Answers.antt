-- Each test decides one part of the definition.
use mathlib.Core.Path.{◌≡◌, sym, ◌∙◌}
use native.Mathlib.Omega.{arith}
use borrow.Author.Tests.{eq-eqb, ne_eqb, le-leb, lt-leb}
use Rattle.stripe.proofs.Allowed.{allowed}
use Rattle.stripe.proofs.Refused.{is_refused, is_accepted}
use Rattle.stripe.specs.Shape.{shape_refusal, stripe_length}
use Rattle.text.specs.Text.{printable}
use Rattle.text.proofs.can_print.Goals as goal
use Rattle.text.proofs.can_print.Goals.{Else-is_err}

shaped : (c : Else-is_err) → shape_refusal c.args.s ≡ 0
shaped c = sym c.refusal.ensures ∙ is_accepted _ c.if-is_err.ensures.value

pub returns-then-is_err : goal.returns-then-is_err
unfolding printable
returns-then-is_err c =
    simp (ne_eqb (shape_refusal c.args.s) 0 (λ z. is_refused _ c.if-is_err.ensures.value (c.refusal.ensures ∙ z)))

pub overflow_add-s : goal.overflow_add-s
overflow_add-s c = omega (arith, (allowed c.args.s (shaped (goal.at.overflow_add-s c).Else-is_err)).columns_most)

pub overflow_mul-s : goal.overflow_mul-s
overflow_mul-s c = omega (arith, (allowed c.args.s (shaped (goal.at.overflow_mul-s c).Else-is_err)).stripe-length)

pub returns-then-n-s : goal.returns-then-n-s
unfolding printable
returns-then-n-s c =
    let d = eq-eqb (shape_refusal c.args.s) 0 (shaped (goal.at.returns-then-n-s c).Else-is_err) in
    simp (d, ne_eqb c.args.n (stripe_length c.args.s) c.if-n-s.true)

pub returns-then-n-le65536 : goal.returns-then-n-le65536
unfolding printable
returns-then-n-le65536 c =
    let d = eq-eqb (shape_refusal c.args.s) 0 (shaped (goal.at.returns-then-n-le65536 c).Else-is_err) in
    simp (d, eq-eqb c.args.n (stripe_length c.args.s) c.if-n-s.false, le-leb c.args.n 65536 c.if-n-le65536.true)

pub returns-else-n-le65536 : goal.returns-else-n-le65536
unfolding printable
returns-else-n-le65536 c =
    let d = eq-eqb (shape_refusal c.args.s) 0 (shaped (goal.at.returns-else-n-le65536 c).Else-is_err) in
    simp (d, eq-eqb c.args.n (stripe_length c.args.s) c.if-n-s.false, lt-leb c.args.n 65536 c.if-n-le65536.false)
