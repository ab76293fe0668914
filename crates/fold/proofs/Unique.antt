-- Any two outcomes that a contract of this crate allows for the same arguments are equal.
use mathlib.Core.Path.{◌≡◌, refl, sym, ◌∙◌}
use contract.Lifetimes.{Lfts}
use borrow.Fn.World.{ArgsD, ResD}
use denote.Triple.Clauses.{AtExit}
use Rattle.stripe.proofs.Refused.{same_answer}
use Rattle.fold.specs.contracts.fold as fold-call
use Rattle.fold.proofs.fold.Reads as fold-call-reads

pub fold_unique : (κs : Lfts 2) (a : ArgsD fold-call.signature κs) (r r' : ResD fold-call.signature κs) (s s' : AtExit fold-call.ended κs)
    → fold-call-reads.Post κs a r s → fold-call-reads.Post κs a r' s' → (r ≡ r') × (s.1.1.1.1.0.now ≡ s'.1.1.1.1.0.now)
fold_unique κs a r r' s s' p q = (same_answer r r' (p.0 ∙ sym q.0) (λ x y e f. refl), p.1 ∙ sym q.1)
