-- Any two outcomes that the contract of `mend` allows for the same arguments are equal: the answer, and the bytes that are left.
use mathlib.Core.Path.{◌≡◌, refl}
use contract.Lifetimes.{Lfts}
use borrow.Fn.World.{ArgsD, ResD}
use denote.Triple.Clauses.{AtExit}
use Rattle.stripe.specs.Refusal.{refusal_of}
use Rattle.stripe.proofs.Refused.{same_answer}
use Rattle.mending.proofs.Outcome.{mended-one}
use Rattle.mending.specs.contracts.mend as mend
use Rattle.mending.proofs.mend.Reads as mend-reads

pub mend_unique : (κs : Lfts 2) (a : ArgsD mend.signature κs) (r r' : ResD mend.signature κs) (s s' : AtExit mend.ended κs)
    → mend-reads.Post κs a r s → mend-reads.Post κs a r' s' → (r ≡ r') × (s.1.0.now ≡ s'.1.0.now)
mend_unique κs a r r' s s' p q =
    let one = mended-one _ _ _ (refusal_of r) (refusal_of r') _ _ p q in
    (same_answer r r' one.0 (λ x y e f. refl), one.1)
