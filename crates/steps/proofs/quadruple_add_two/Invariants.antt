-- `quadruple_add_two` meets its contract: after q turns the q first places are done.
use Prim.Native.Nat.{ℕ}
use Rattle.field.specs.Field.{◌⊕◌, ◌⊗◌}
use Rattle.lanes.specs.Lanes.{both}
use Rattle.lanes.proofs.Onto.{Turned}
use Rattle.steps.proofs.quadruple_add_two.Given as goal

abbrev pub lower : ℕ → ℕ → ℕ
lower y z = 4 ⊗ y ⊕ z

abbrev pub invariant-loop-q : goal.invariant-loop-q
invariant-loop-q l = Turned (λ (x w : ℕ). 16 ⊗ x ⊕ w) l.initial.a (both lower l.d l.e) l.a l.q
