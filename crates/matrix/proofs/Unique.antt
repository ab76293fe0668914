-- Any two outcomes that the contract of `apply` allows are equal.
use mathlib.Core.Path.{◌≡◌, sym, ◌∙◌}
use contract.Lifetimes.{Lfts}
use borrow.Fn.World.{ArgsD, ResD}
use denote.Triple.Clauses.{AtExit}
use Rattle.matrix.specs.contracts.apply as apply
use Rattle.matrix.proofs.apply.Reads as apply-reads

pub apply_unique : (κs : Lfts 4) (a : ArgsD apply.signature κs) (r r' : ResD apply.signature κs) (s s' : AtExit apply.ended κs)
    → apply-reads.Post κs a r s → apply-reads.Post κs a r' s' → s.1.1.1.1.1.1.1.0.now ≡ s'.1.1.1.1.1.1.1.0.now
apply_unique κs a r r' s s' p q = p ∙ sym q
