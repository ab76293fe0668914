-- Any two outcomes that the contract allows are equal.
use mathlib.Core.Path.{◌≡◌, sym, ◌∙◌}
use contract.Lifetimes.{Lfts}
use borrow.Fn.World.{ArgsD, ResD}
use denote.Triple.Clauses.{AtExit}
use Rattle.checking.proofs.Where.{reported_same}
use Rattle.checking.specs.contracts.first_wrong as first-wrong
use Rattle.checking.proofs.first_wrong.Reads as first-wrong-reads

pub first_wrong_unique : (κs : Lfts 2) (a : ArgsD first-wrong.signature κs) (r r' : ResD first-wrong.signature κs)
    (s s' : AtExit first-wrong.ended κs) → first-wrong-reads.Post κs a r s → first-wrong-reads.Post κs a r' s' → r ≡ r'
first_wrong_unique κs a r r' s s' p q = reported_same r r' (p ∙ sym q)
