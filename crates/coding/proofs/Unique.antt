-- Any two outcomes that a contract of this crate allows are equal.
use mathlib.Core.Path.{◌≡◌, refl, sym, ◌∙◌}
use contract.Lifetimes.{Lfts}
use borrow.Fn.World.{ArgsD, ResD}
use denote.Triple.Clauses.{AtExit}
use Rattle.stripe.proofs.Refused.{same_answer}
use Rattle.coding.specs.contracts.encode.encode as encode
use Rattle.coding.proofs.encode.encode.Reads as encode-reads
use Rattle.coding.specs.contracts.encode.encode_by_rows as encode-by-rows
use Rattle.coding.proofs.encode.encode_by_rows.Reads as encode-by-rows-reads

pub encode_unique : (κs : Lfts 2) (a : ArgsD encode.signature κs) (r r' : ResD encode.signature κs) (s s' : AtExit encode.ended κs)
    → encode-reads.Post κs a r s → encode-reads.Post κs a r' s' → (r ≡ r') × (s.1.1.0.now ≡ s'.1.1.0.now)
encode_unique κs a r r' s s' p q = (same_answer r r' (p.0 ∙ sym q.0) (λ x y e f. refl), p.1 ∙ sym q.1)

pub encode_by_rows_unique : (κs : Lfts 2) (a : ArgsD encode-by-rows.signature κs) (r r' : ResD encode-by-rows.signature κs)
    → (s s' : AtExit encode-by-rows.ended κs)
    → encode-by-rows-reads.Post κs a r s → encode-by-rows-reads.Post κs a r' s' → s.1.1.0.now ≡ s'.1.1.0.now
encode_by_rows_unique κs a r r' s s' p q = p ∙ sym q
