-- Any two outcomes that a contract of this crate allows for the same arguments are equal.
use mathlib.Core.Path.{◌≡◌, refl, sym, ◌∙◌}
use contract.Lifetimes.{Lfts}
use borrow.Fn.World.{ArgsD, ResD}
use denote.Triple.Clauses.{AtExit}
use Rattle.stripe.proofs.Refused.{same_answer}
use Rattle.plan.specs.contracts.fold_refusal as fold-refusal
use Rattle.plan.proofs.fold_refusal.Reads as fold-refusal-reads
use Rattle.plan.specs.contracts.kind_of as kind-of
use Rattle.plan.proofs.kind_of.Reads as kind-of-reads
use Rattle.plan.specs.contracts.span_at as span-at
use Rattle.plan.proofs.span_at.Reads as span-at-reads
use Rattle.plan.specs.contracts.wide_shape as wide-shape
use Rattle.plan.proofs.wide_shape.Reads as wide-shape-reads
use Rattle.plan.specs.declared.counts.Columns.{Columns}
use Rattle.plan.specs.declared.counts.Bytes.{Bytes}
use Rattle.plan.specs.contracts.counts.columns_read as columns_read_lem
use Rattle.plan.proofs.counts.columns_read.Reads as columns-read-reads
use Rattle.plan.specs.contracts.counts.bytes_read as bytes_read_lem
use Rattle.plan.proofs.counts.bytes_read.Reads as bytes-read-reads
use Rattle.plan.specs.contracts.counts.bill_of as bill-of
use Rattle.plan.proofs.counts.bill_of.Reads as bill-of-reads
use Rattle.plan.specs.contracts.counts.Columns.plus as columns-plus
use Rattle.plan.proofs.counts.Columns.plus.Reads as columns-plus-reads
use Rattle.plan.specs.contracts.counts.Columns.number as columns-number
use Rattle.plan.proofs.counts.Columns.number.Reads as columns-number-reads
use Rattle.plan.specs.contracts.counts.Bytes.plus as bytes-plus
use Rattle.plan.proofs.counts.Bytes.plus.Reads as bytes-plus-reads
use Rattle.plan.specs.contracts.counts.Bytes.is as bytes-is
use Rattle.plan.proofs.counts.Bytes.is.Reads as bytes-is-reads

pub fold_refusal_unique : (κs : Lfts 0) (a : ArgsD fold-refusal.signature κs) (r r' : ResD fold-refusal.signature κs) (s s' : AtExit fold-refusal.ended κs)
    → fold-refusal-reads.Post κs a r s → fold-refusal-reads.Post κs a r' s' → r ≡ r'
fold_refusal_unique κs a r r' s s' p q = same_answer r r' (p ∙ sym q) (λ x y e f. refl)

pub kind_of_unique : (κs : Lfts 0) (a : ArgsD kind-of.signature κs) (r r' : ResD kind-of.signature κs) (s s' : AtExit kind-of.ended κs)
    → kind-of-reads.Post κs a r s → kind-of-reads.Post κs a r' s' → r ≡ r'
kind_of_unique κs a r r' s s' p q = p ∙ sym q

pub span_at_unique : (κs : Lfts 0) (a : ArgsD span-at.signature κs) (r r' : ResD span-at.signature κs) (s s' : AtExit span-at.ended κs)
    → span-at-reads.Post κs a r s → span-at-reads.Post κs a r' s' → r ≡ r'
span_at_unique κs a r r' s s' p q = p ∙ sym q

pub wide_shape_unique : (κs : Lfts 0) (a : ArgsD wide-shape.signature κs) (r r' : ResD wide-shape.signature κs) (s s' : AtExit wide-shape.ended κs)
    → wide-shape-reads.Post κs a r s → wide-shape-reads.Post κs a r' s' → r ≡ r'
wide_shape_unique κs a r r' s s' p q = p ∙ sym q

-- a count is told by its number
pub same_columns : (a b : Columns) → a.0 ≡ b.0 → a ≡ b
same_columns a b e i = record { 0 = e i }

pub same_bytes : (a b : Bytes) → a.0 ≡ b.0 → a ≡ b
same_bytes a b e i = record { 0 = e i }

pub columns_read_unique : (κs : Lfts 0) (a : ArgsD columns_read_lem.signature κs) (r r' : ResD columns_read_lem.signature κs)
    (s s' : AtExit columns_read_lem.ended κs)
    → columns-read-reads.Post κs a r s → columns-read-reads.Post κs a r' s' → r ≡ r'
columns_read_unique κs a r r' s s' p q = same_columns r r' (p ∙ sym q)

pub bytes_read_unique : (κs : Lfts 0) (a : ArgsD bytes_read_lem.signature κs) (r r' : ResD bytes_read_lem.signature κs) (s s' : AtExit bytes_read_lem.ended κs)
    → bytes-read-reads.Post κs a r s → bytes-read-reads.Post κs a r' s' → r ≡ r'
bytes_read_unique κs a r r' s s' p q = same_bytes r r' (p ∙ sym q)

pub bill_of_unique : (κs : Lfts 0) (a : ArgsD bill-of.signature κs) (r r' : ResD bill-of.signature κs) (s s' : AtExit bill-of.ended κs)
    → bill-of-reads.Post κs a r s → bill-of-reads.Post κs a r' s' → r ≡ r'
bill_of_unique κs a r r' s s' p q = p ∙ sym q

pub columns_plus_unique : (κs : Lfts 0) (a : ArgsD columns-plus.signature κs) (r r' : ResD columns-plus.signature κs) (s s' : AtExit columns-plus.ended κs)
    → columns-plus-reads.Post κs a r s → columns-plus-reads.Post κs a r' s' → r ≡ r'
columns_plus_unique κs a r r' s s' p q = same_columns r r' (p ∙ sym q)

pub columns_number_unique : (κs : Lfts 0) (a : ArgsD columns-number.signature κs) (r r' : ResD columns-number.signature κs)
    (s s' : AtExit columns-number.ended κs)
    → columns-number-reads.Post κs a r s → columns-number-reads.Post κs a r' s' → r ≡ r'
columns_number_unique κs a r r' s s' p q = p ∙ sym q

pub bytes_plus_unique : (κs : Lfts 0) (a : ArgsD bytes-plus.signature κs) (r r' : ResD bytes-plus.signature κs) (s s' : AtExit bytes-plus.ended κs)
    → bytes-plus-reads.Post κs a r s → bytes-plus-reads.Post κs a r' s' → r ≡ r'
bytes_plus_unique κs a r r' s s' p q = same_bytes r r' (p ∙ sym q)

pub bytes_is_unique : (κs : Lfts 0) (a : ArgsD bytes-is.signature κs) (r r' : ResD bytes-is.signature κs) (s s' : AtExit bytes-is.ended κs)
    → bytes-is-reads.Post κs a r s → bytes-is-reads.Post κs a r' s' → r ≡ r'
bytes_is_unique κs a r r' s s' p q = p ∙ sym q
