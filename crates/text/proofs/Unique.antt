-- Any two outcomes that a contract of this crate allows for the same arguments are equal: the answer and the bytes that are left.
use mathlib.Core.Path.{◌≡◌, sym, ◌∙◌}
use contract.Lifetimes.{Lfts}
use borrow.Fn.World.{ArgsD, ResD}
use denote.Triple.Clauses.{AtExit}
use Rattle.text.specs.contracts.write_text as write-text
use Rattle.text.proofs.write_text.Reads as write-text-reads
use Rattle.text.specs.contracts.write_refusal as write-refusal
use Rattle.text.proofs.write_refusal.Reads as write-refusal-reads

pub write_text_unique : (κs : Lfts 3) (a : ArgsD write-text.signature κs) (r r' : ResD write-text.signature κs) (s s' : AtExit write-text.ended κs)
    → write-text-reads.Post κs a r s → write-text-reads.Post κs a r' s' → (r ≡ r') × (s.1.1.1.0.now ≡ s'.1.1.1.0.now)
write_text_unique κs a r r' s s' p q = (p.0 ∙ sym q.0, p.1 ∙ sym q.1)

pub write_refusal_unique : (κs : Lfts 1) (a : ArgsD write-refusal.signature κs) (r r' : ResD write-refusal.signature κs) (s s' : AtExit write-refusal.ended κs)
    → write-refusal-reads.Post κs a r s → write-refusal-reads.Post κs a r' s' → (r ≡ r') × (s.1.0.now ≡ s'.1.0.now)
write_refusal_unique κs a r r' s s' p q = (p.0 ∙ sym q.0, p.1 ∙ sym q.1)
