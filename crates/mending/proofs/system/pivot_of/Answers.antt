-- `pivot_of` meets its contract.
use mathlib.Core.Path.{refl}
use mathlib.Core.Logic.{inl, inr}
use native.Mathlib.Omega.{arith}
use Rattle.mending.proofs.system.pivot_of.Goals as goal

pub returns-then-t-ne0 : goal.returns-then-t-ne0
returns-then-t-ne0 c = inl refl

pub returns-then-count-all : goal.returns-then-count-all
returns-then-count-all c = inl refl

pub returns-then-count-eq0 : goal.returns-then-count-eq0
returns-then-count-eq0 c = inl refl

pub returns : goal.returns
returns c = inr (c.if-t-ne0.false, (omega (arith, c.if-count-eq0.false), (c.if-count-all.false, refl)))
