-- Any two outcomes that a contract of this crate allows are equal: what is returned, and what lent memory holds.
use mathlib.Core.Path.{◌≡◌, sym, ◌∙◌}
use contract.Lifetimes.{Lfts}
use borrow.Fn.World.{ArgsD, ResD}
use denote.Triple.Clauses.{AtExit}
use Rattle.writing.proofs.Putting.{same_reported}
use Rattle.writing.specs.contracts.write_record as write-record
use Rattle.writing.proofs.write_record.Reads as write-record-reads

pub write_record_unique : (κs : Lfts 3) (a : ArgsD write-record.signature κs) (r r' : ResD write-record.signature κs) (s s' : AtExit write-record.ended κs)
    → write-record-reads.Post κs a r s → write-record-reads.Post κs a r' s' → (r ≡ r') × (s.1.1.1.0.now ≡ s'.1.1.1.0.now)
write_record_unique κs a r r' s s' p q = (same_reported r r' (p.0 ∙ sym q.0), p.1 ∙ sym q.1)
