-- Any two outcomes that a contract allows are equal: what the list that is written holds.
use mathlib.Core.Path.{◌≡◌, sym, ◌∙◌}
use contract.Lifetimes.{Lfts}
use borrow.Fn.World.{ArgsD, ResD}
use denote.Triple.Clauses.{AtExit}
use Rattle.weights.specs.contracts.weighted as weighted
use Rattle.weights.proofs.weighted.Reads as weighted-reads

pub weighted_unique : (κs : Lfts 2) (a : ArgsD weighted.signature κs) (r r' : ResD weighted.signature κs) (s s' : AtExit weighted.ended κs)
    → weighted-reads.Post κs a r s → weighted-reads.Post κs a r' s' → s.0.now ≡ s'.0.now
weighted_unique κs a r r' s s' p q = p ∙ sym q
