-- Any two outcomes that the contract of `weights` allows are equal.
use mathlib.Core.Path.{◌≡◌, sym, ◌∙◌}
use contract.Lifetimes.{Lfts}
use borrow.Fn.World.{ArgsD, ResD}
use denote.Triple.Clauses.{AtExit}
use Rattle.lagrange.specs.contracts.weights as weights
use Rattle.lagrange.proofs.weights.Reads as weights-reads

pub weights_unique : (κs : Lfts 3) (a : ArgsD weights.signature κs) (r r' : ResD weights.signature κs) (s s' : AtExit weights.ended κs)
    → weights-reads.Post κs a r s → weights-reads.Post κs a r' s' → s.1.1.0.now ≡ s'.1.1.0.now
weights_unique κs a r r' s s' p q = p ∙ sym q
