-- Any two outcomes that the contract of `repair` allows for the same arguments are equal: the answer, and the bytes that are left.
use mathlib.Core.Path.{◌≡◌, refl}
use contract.Lifetimes.{Lfts}
use borrow.Fn.World.{ArgsD, ResD}
use denote.Triple.Clauses.{AtExit}
use Rattle.stripe.specs.Refusal.{refusal_of}
use Rattle.stripe.proofs.Refused.{same_answer}
use Rattle.repair.proofs.Outcome.{repaired_one}
use Rattle.repair.specs.contracts.repair as repair
use Rattle.repair.proofs.repair.Reads as repair-reads

pub repair_unique : (κs : Lfts 2) (a : ArgsD repair.signature κs) (r r' : ResD repair.signature κs) (s s' : AtExit repair.ended κs)
    → repair-reads.Post κs a r s → repair-reads.Post κs a r' s' → (r ≡ r') × (s.1.1.1.1.0.now ≡ s'.1.1.1.1.0.now)
repair_unique κs a r r' s s' p q =
    let one = repaired_one _ _ _ _ _ (refusal_of r) (refusal_of r') _ _ p q in
    (same_answer r r' one.0 (λ x y e f. refl), one.1)
