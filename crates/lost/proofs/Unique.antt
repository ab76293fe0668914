-- Any two outcomes that a contract of this crate allows for the same arguments are equal.
use mathlib.Core.Path.{◌≡◌, refl, sym, ◌∙◌}
use contract.Lifetimes.{Lfts}
use borrow.Fn.World.{ArgsD, ResD}
use denote.Triple.Clauses.{AtExit}
use Rattle.stripe.proofs.Refused.{same_answer}
use Rattle.lost.specs.contracts.list_refusal as list-refusal
use Rattle.lost.proofs.list_refusal.Reads as list-refusal-reads
use Rattle.lost.specs.contracts.lost_of as lost-of
use Rattle.lost.proofs.lost_of.Reads as lost-of-reads

pub list_refusal_unique : (κs : Lfts 1) (a : ArgsD list-refusal.signature κs) (r r' : ResD list-refusal.signature κs)
    (s s' : AtExit list-refusal.ended κs) → list-refusal-reads.Post κs a r s → list-refusal-reads.Post κs a r' s' → r ≡ r'
list_refusal_unique κs a r r' s s' p q = same_answer r r' (p ∙ sym q) (λ x y e f. refl)

pub lost_of_unique : (κs : Lfts 1) (a : ArgsD lost-of.signature κs) (r r' : ResD lost-of.signature κs)
    (s s' : AtExit lost-of.ended κs) → lost-of-reads.Post κs a r s → lost-of-reads.Post κs a r' s' → r ≡ r'
lost_of_unique κs a r r' s s' p q = p ∙ sym q
