-- Any two outcomes that a contract of this crate allows for the same arguments are equal: the answer and the bytes that are left.
use mathlib.Core.Path.{◌≡◌}
use contract.Lifetimes.{Lfts}
use borrow.Fn.World.{ArgsD, ResD}
use denote.Triple.Clauses.{AtExit}
use Rattle.record.specs.Reading.{reported}
use Rattle.record.proofs.Filling.{same_reported}
use Rattle.answer.proofs.Outcome.{answered_one, printed_one}
use Rattle.answer.specs.contracts.answer as answer
use Rattle.answer.proofs.answer.Reads as answer-reads
use Rattle.answer.specs.contracts.mended.mend_record as mend-record
use Rattle.answer.proofs.mended.mend_record.Reads as mend-record-reads

pub mend_record_unique : (κs : Lfts 3) (a : ArgsD mend-record.signature κs) (r r' : ResD mend-record.signature κs) (s s' : AtExit mend-record.ended κs)
    → mend-record-reads.Post κs a r s → mend-record-reads.Post κs a r' s'
    → (r ≡ r') × ((s.1.0.now ≡ s'.1.0.now) × (s.1.1.0.now ≡ s'.1.1.0.now))
mend_record_unique κs a r r' s s' p q =
    let o = answered_one _ _ _ (reported r) (reported r') _ _ _ _ p q in (same_reported r r' o.0, o.1)

pub answer_unique : (κs : Lfts 2) (a : ArgsD answer.signature κs) (r r' : ResD answer.signature κs) (s s' : AtExit answer.ended κs)
    → answer-reads.Post κs a r s → answer-reads.Post κs a r' s' → (r ≡ r') × (s.1.0.now ≡ s'.1.0.now)
answer_unique κs a r r' s s' p q = printed_one _ _ r r' _ _ p q
