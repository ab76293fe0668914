-- `are_disjoint` meets its contract, in each of its cases.
use mathlib.Core.Path.{sym}
use mathlib.Core.Logic.{inl}
use native.Mathlib.Omega.{arith}
use Rattle.products.proofs.Mixing.{disjoint_yes, disjoint_no, disjoint_last}
use Rattle.products.proofs.within.are_disjoint.Goals as goal

pub returns-then-len-n : goal.returns-then-len-n
returns-then-len-n c = sym (disjoint_no (λ h. omega (arith, h.first)))

pub returns-then-last-to : goal.returns-then-last-to
returns-then-last-to c = sym (disjoint_no (λ h. omega (arith, h.first)))

pub returns-then-last-from : goal.returns-then-last-from
returns-then-last-from c = sym (disjoint_no (λ h. omega (arith, h.second)))

pub returns-then-to-n : goal.returns-then-to-n
returns-then-to-n c = sym (disjoint_yes (record { first = omega arith; second = omega arith; clear = inl (omega arith) }))

pub returns : goal.returns
returns c = disjoint_last _ _ _ _ (omega arith) (omega arith) (omega arith)
