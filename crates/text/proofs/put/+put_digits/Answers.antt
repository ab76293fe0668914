-- The digits before the last, then the last; a digit fewer is left at each call.
use native.Mathlib.Omega.{arith}
use borrow.Author.Rules.{rules}
use Rattle.field.proofs.Over.{over_long}
use Rattle.text.proofs.Pieces.{last_length, more_length, none_put, last_put, more_put}
use Rattle.text.proofs.put.+put_digits.Goals as goal

pub returns-then-m-eq0 : goal.returns-then-m-eq0
returns-then-m-eq0 t c =
    let a = c.args in
    let both = none_put a.out.now a.at a.m a.n c.if-m-eq0.true in
    record { value = both.0; out_after = both.1 }

pub put_byte-requires : goal.put_byte-requires
put_byte-requires t c =
    let a = c.args in
    omega (arith, last_length a.m a.n c.if-m-eq0.false c.if-n-lt10.true, c.requires.1)

pub returns-then-n-lt10 : goal.returns-then-n-lt10
returns-then-n-lt10 t c =
    let a = c.args in
    let put = c.put_byte in
    let both = last_put a.out.now _ a.at _ a.m a.n c.if-m-eq0.false c.if-n-lt10.true put.ensures.value put.ensures.out_after in
    record { value = both.0; out_after = both.1 }

pub put_digits-next-requires : goal.put_digits-next-requires
put_digits-next-requires t c =
    let a = c.args in (
      search rules,
      (
        search rules,
        omega (arith, more_length a.m a.n c.if-m-eq0.false c.if-n-lt10.false, c.requires.1),
      ),
    )

pub put_byte-requires-2 : goal.put_byte-requires-2
put_byte-requires-2 t c =
    let a = c.args in
    let d = c.put_digits-next.ensures in
    let e = more_length a.m a.n c.if-m-eq0.false c.if-n-lt10.false in
    omega (arith, d.value, over_long a.out.now _ a.at _ d.out_after (omega (arith, e, c.requires.1)), e, c.requires.1)

pub returns : goal.returns
returns t c =
    let a = c.args in
    let d = c.put_digits-next.ensures in
    let both = more_put a.out.now _ _ a.at _ _ a.m a.n c.if-m-eq0.false c.if-n-lt10.false c.requires.1 d.value d.out_after
    c.put_byte-2.ensures.value c.put_byte-2.ensures.out_after in
    record { value = both.0; out_after = both.1 }
