-- The first line, then the lines of the columns; or nothing.
use mathlib.Core.Path.{◌≡◌, sym, ◌∙◌}
use mathlib.Core.Bool.{true}
use native.Mathlib.Omega.{arith}
use Prim.Native.Nat.{◌+◌, ◌≤◌}
use lib.ListN.{length, length-append}
use Rattle.stripe.proofs.Allowed.{allowed}
use Rattle.stripe.specs.Shape.{columns}
use Rattle.text.specs.Text.{first_line, column_lines, stripe_text, printable, stripe_printed}
use Rattle.field.proofs.Over.{over_on}
use Rattle.text.proofs.Printed.{none_put, text_put, unprintable, printable_says, printed, text_fits}
use Rattle.text.proofs.write_text.Goals as goal
use Rattle.text.proofs.write_text.Goals.{Else-not-can_print}

can : (c : Else-not-can_print) → printable c.args.s (length c.args.stripe.now) (length c.args.out.now) ≡ true
can c = sym c.can_print.ensures ∙ c.if-not-can_print.false

-- both parts of the text fit
fits : (c : Else-not-can_print) → length (first_line c.args.s) + length (column_lines c.args.s.l c.args.lost.now 0 (columns c.args.s) c.args.stripe.now)
    ≤ length c.args.out.now
unfolding stripe_text
fits c =
    let a = c.args in
    omega (
      arith,
      text_fits a.s a.lost.now a.stripe.now (length a.out.now) (can c),
      length-append (first_line a.s) (column_lines a.s.l a.lost.now 0 (columns a.s) a.stripe.now),
    )

pub returns-then-not-can_print : goal.returns-then-not-can_print
returns-then-not-can_print c = let a = c.args in
    let n = length a.out.now in
    let both = none_put a.out.now (stripe_printed a.s a.lost.now a.stripe.now n)
    (unprintable a.s a.lost.now a.stripe.now n (sym c.can_print.ensures ∙ c.if-not-can_print.true)) in
    record { value = both.0; out_after = both.1 }

pub put_first-next-requires : goal.put_first-next-requires
put_first-next-requires c = omega (arith, fits (goal.at.put_first-next-requires c).Else-not-can_print)

pub overflow_add-n : goal.overflow_add-n
overflow_add-n c =
    omega (arith, (allowed c.args.s (printable_says c.args.s _ _ (can (goal.at.overflow_add-n c).Else-not-can_print)).shaped).columns_most)

pub put_lines-requires : goal.put_lines-requires
put_lines-requires c =
    let e = (goal.at.put_lines-requires c).Else-not-can_print in
    (omega (arith, (printable_says c.args.s _ _ (can e)).whole), omega (arith, fits e, c.put_first-next.ensures.value))

pub returns : goal.returns
unfolding stripe_text
returns c = let a = c.args in
    let e = (goal.at.returns c).Else-not-can_print in
    let v = c.put_first-next in
    let w = c.put_lines in
    let xs = first_line a.s in
    let ys = column_lines a.s.l a.lost.now 0 (columns a.s) a.stripe.now in
    let both = text_put a.out.now _ (stripe_printed a.s a.lost.now a.stripe.now (length a.out.now)) (stripe_text a.s a.lost.now a.stripe.now) _
    (printed a.s a.lost.now a.stripe.now (length a.out.now) (can e)) (
      omega (arith, length-append xs ys, v.ensures.value, w.ensures.value),
      over_on a.out.now v.new.out w.new.out 0 v.result xs ys v.ensures.out_after v.ensures.value w.ensures.out_after (omega (arith, fits e)),
    ) in
    record { value = both.0; out_after = both.1 }
