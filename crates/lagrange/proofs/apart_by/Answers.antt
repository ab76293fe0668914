-- `apart_by` meets its contract: each lane is what the closure makes of its number.
use Prim.Native.Nat.{ℕ, ◌+◌}
use lib.ListN.{get_or}
use borrow.Author.Rules.{rules}
use Rattle.field.specs.Field.{◌⊕◌}
use Rattle.lagrange.proofs.Made.{entries_made}
use Rattle.lagrange.proofs.apart_by.Goals as goal

pub returns : goal.returns
unfolding ◌⊕◌
returns c =
    let z = c.args.z.now in
    let made = c.from_fn.ensures.items in
    (made.long, entries_made _ _ (λ (q : ℕ). get_or z q 0 ⊕ get_or z (q + c.args.s) 0) (λ i r f k. search rules) c.from_fn.result 16 made)
