-- `mix_blocks` meets its contract: after b turns the b first blocks are done.
use Prim.Native.Nat.{ℕ, ◌*◌}
use Rattle.field.specs.Field.{◌⊕◌, ◌⊗◌}
use Rattle.products.proofs.Mixing.{Within}
use Rattle.products.proofs.within.mix_blocks.Given as goal

abbrev pub invariant-loop-b : goal.invariant-loop-b
invariant-loop-b g l = Within (λ (x y : ℕ). x ⊕ l.c ⊗ y) l.to l.from (l.b * g.row.N) l.initial.a l.a
