-- Any two outcomes that a contract of this crate allows are equal: what is returned, and what lent memory holds.
use mathlib.Core.Path.{◌≡◌, refl, sym, ap, ◌∙◌}
use contract.Lifetimes.{Lfts}
use borrow.Fn.World.{ArgsD, ResD}
use denote.Triple.Clauses.{AtExit}
use Rattle.std.specs.declared.result.Result.TheVariants.{Err}
use Rattle.stripe.specs.Refusal.{refusal_number}
use Rattle.stripe.proofs.Refused.{same_answer}
use Rattle.number.specs.Number.{reported, number_refusal}
use Rattle.number.proofs.Reported.{same_reported, flaw_refused}
use Rattle.number.specs.contracts.read_number as read_number
use Rattle.number.proofs.read_number.Reads as read-number-reads
use Rattle.number.specs.contracts.number_refusal as number-refusal
use Rattle.number.proofs.number_refusal.Reads as number-refusal-reads
use Rattle.number.specs.contracts.RefusalFromFlaw.from as refusal-from
use Rattle.number.proofs.RefusalFromFlaw.from.Reads as refusal-from-reads
use Rattle.number.specs.contracts.number_length as number-length
use Rattle.number.proofs.number_length.Reads as number-length-reads
use Rattle.number.specs.contracts.write_number as write-number
use Rattle.number.proofs.write_number.Reads as write-number-reads

pub read_number_unique : (κs : Lfts 1) (a : ArgsD read_number.signature κs) (r r' : ResD read_number.signature κs) (s s' : AtExit read_number.ended κs)
    → read-number-reads.Post κs a r s → read-number-reads.Post κs a r' s' → r ≡ r'
read_number_unique κs a r r' s s' p q = same_reported r r' (p ∙ sym q)

pub number_refusal_unique : (κs : Lfts 0) (a : ArgsD number-refusal.signature κs) (r r' : ResD number-refusal.signature κs)
    (s s' : AtExit number-refusal.ended κs)
    → number-refusal-reads.Post κs a r s → number-refusal-reads.Post κs a r' s' → r ≡ r'
number_refusal_unique κs a r r' s s' p q = same_answer r r' (p ∙ sym q) (λ x y e f. refl)

pub refusal_from_unique : (κs : Lfts 0) (a : ArgsD refusal-from.signature κs) (r r' : ResD refusal-from.signature κs) (s s' : AtExit refusal-from.ended κs)
    → refusal-from-reads.Post κs a r s → refusal-from-reads.Post κs a r' s' → r ≡ r'
refusal_from_unique κs a r r' s s' p q = p ∙ sym q

-- what `?` makes of a flaw has the number for which `number_refusal` refuses it
pub flaw_refused_alike : (κs : Lfts 0) (a : ArgsD refusal-from.signature κs) (r : ResD refusal-from.signature κs) (s : AtExit refusal-from.ended κs)
    → refusal-from-reads.Post κs a r s → refusal_number r ≡ number_refusal (reported (Err a.0))
flaw_refused_alike κs a r s p = ap refusal_number p ∙ flaw_refused a.0 (reported (Err a.0)) refl

pub number_length_unique : (κs : Lfts 0) (a : ArgsD number-length.signature κs) (r r' : ResD number-length.signature κs) (s s' : AtExit number-length.ended κs)
    → number-length-reads.Post κs a r s → number-length-reads.Post κs a r' s' → r ≡ r'
number_length_unique κs a r r' s s' p q = p ∙ sym q

pub write_number_unique : (κs : Lfts 1) (a : ArgsD write-number.signature κs) (r r' : ResD write-number.signature κs) (s s' : AtExit write-number.ended κs)
    → write-number-reads.Post κs a r s → write-number-reads.Post κs a r' s' → (r ≡ r') × (s.1.0.now ≡ s'.1.0.now)
write_number_unique κs a r r' s s' p q = (p.0 ∙ sym q.0, p.1 ∙ sym q.1)
