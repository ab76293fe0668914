-- `ends_within` meets its contract: what the first column leaves of the bytes bounds the stride.
use native.Mathlib.Omega.{arith}
use Rattle.matrix.proofs.Shape.{none_fits, first_fits, some_fits}
use Rattle.matrix.proofs.ends_within.Goals as goal

pub returns-then-b-count : goal.returns-then-b-count
returns-then-b-count c = let a = c.args in none_fits a.c a.b a.from a.stride a.count (omega (arith, c.if-b-count.true))

pub returns-then-b-count-2 : goal.returns-then-b-count-2
returns-then-b-count-2 c =
    let a = c.args in
    none_fits a.c a.b a.from a.stride a.count (omega (arith, c.if-b-count.false, c.if-b-count-2.true))

pub returns-then-c-lt1 : goal.returns-then-c-lt1
returns-then-c-lt1 c = first_fits _ _ _ _ _ c.if-b-count.false c.if-b-count-2.false c.if-c-lt1.true

pub returns : goal.returns
returns c = some_fits _ _ _ _ _ c.if-b-count.false c.if-b-count-2.false c.if-c-lt1.false
