-- Any two outcomes that a contract of this crate allows are equal: what is returned, and what lent memory holds.
use mathlib.Core.Path.{◌≡◌, refl, sym, ◌∙◌}
use contract.Lifetimes.{Lfts}
use borrow.Fn.World.{ArgsD, ResD}
use denote.Triple.Clauses.{AtExit}
use Rattle.stripe.proofs.Refused.{same_answer}
use Rattle.record.proofs.Filling.{same_reported}
use Rattle.record.specs.contracts.read.stripe_refusal as stripe-refusal
use Rattle.record.proofs.read.stripe_refusal.Reads as stripe-refusal-reads
use Rattle.record.specs.contracts.read.read_record as read-record
use Rattle.record.proofs.read.read_record.Reads as read-record-reads

pub stripe_refusal_unique : (κs : Lfts 0) (a : ArgsD stripe-refusal.signature κs) (r r' : ResD stripe-refusal.signature κs)
    (s s' : AtExit stripe-refusal.ended κs)
    → stripe-refusal-reads.Post κs a r s → stripe-refusal-reads.Post κs a r' s' → r ≡ r'
stripe_refusal_unique κs a r r' s s' p q = same_answer r r' (p ∙ sym q) (λ x y e f. refl)

pub read_record_unique : (κs : Lfts 3) (a : ArgsD read-record.signature κs) (r r' : ResD read-record.signature κs) (s s' : AtExit read-record.ended κs)
    → read-record-reads.Post κs a r s → read-record-reads.Post κs a r' s'
    → (r ≡ r') × ((s.1.0.now ≡ s'.1.0.now) × (s.1.1.0.now ≡ s'.1.1.0.now))
read_record_unique κs a r r' s s' p q = (same_reported r r' (p.0 ∙ sym q.0), (p.1.0 ∙ sym q.1.0, p.1.1 ∙ sym q.1.1))
