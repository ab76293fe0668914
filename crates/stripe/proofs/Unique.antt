-- Any two outcomes that a contract of this crate allows for the same arguments are equal.
use mathlib.Core.Path.{◌≡◌, refl, sym, ◌∙◌}
use contract.Lifetimes.{Lfts}
use borrow.Fn.World.{ArgsD, ResD}
use denote.Triple.Clauses.{AtExit}
use Rattle.stripe.specs.declared.Shape.{Shape}
use Rattle.stripe.proofs.Refused.{same_answer}
use Rattle.stripe.specs.contracts.Shape.new as shape-new
use Rattle.stripe.proofs.Shape.new.Reads as shape-new-reads
use Rattle.stripe.specs.contracts.Shape.refusal as shape-refusal
use Rattle.stripe.proofs.Shape.refusal.Reads as shape-refusal-reads
use Rattle.stripe.specs.contracts.Shape.runs as shape-runs
use Rattle.stripe.proofs.Shape.runs.Reads as shape-runs-reads
use Rattle.stripe.specs.contracts.Shape.run_length as shape-run-length
use Rattle.stripe.proofs.Shape.run_length.Reads as shape-run-length-reads
use Rattle.stripe.specs.contracts.column.lent_refusal as lent-refusal
use Rattle.stripe.proofs.column.lent_refusal.Reads as lent-refusal-reads
use Rattle.stripe.specs.contracts.column.column as column
use Rattle.stripe.proofs.column.column.Reads as column-reads
use Rattle.stripe.specs.contracts.refusal.U32FromRefusal.from as u32-from
use Rattle.stripe.proofs.refusal.U32FromRefusal.from.Reads as u32-from-reads
use Rattle.stripe.specs.contracts.is_lost as is_lost
use Rattle.stripe.proofs.is_lost.Reads as is-lost-reads

-- a shape is told by its four numbers
pub same_shape : (s s' : Shape) → s.k ≡ s'.k → s.r ≡ s'.r → s.t ≡ s'.t → s.l ≡ s'.l → s ≡ s'
same_shape s s' e f g h i = record { k = e i; r = f i; t = g i; l = h i }

pub shape_new_unique : (κs : Lfts 0) (a : ArgsD shape-new.signature κs) (r r' : ResD shape-new.signature κs)
    (s s' : AtExit shape-new.ended κs) → shape-new-reads.Post κs a r s → shape-new-reads.Post κs a r' s' → r ≡ r'
shape_new_unique κs a r r' s s' p q =
    same_shape r r' (p.0 ∙ sym q.0) (p.1.0 ∙ sym q.1.0) (p.1.1.0 ∙ sym q.1.1.0) (p.1.1.1 ∙ sym q.1.1.1)

pub shape_refusal_unique : (κs : Lfts 0) (a : ArgsD shape-refusal.signature κs) (r r' : ResD shape-refusal.signature κs)
    (s s' : AtExit shape-refusal.ended κs) → shape-refusal-reads.Post κs a r s → shape-refusal-reads.Post κs a r' s' → r ≡ r'
shape_refusal_unique κs a r r' s s' p q = same_answer r r' (p ∙ sym q) (λ x y e f. refl)

pub shape_runs_unique : (κs : Lfts 0) (a : ArgsD shape-runs.signature κs) (r r' : ResD shape-runs.signature κs)
    (s s' : AtExit shape-runs.ended κs) → shape-runs-reads.Post κs a r s → shape-runs-reads.Post κs a r' s' → r ≡ r'
shape_runs_unique κs a r r' s s' p q = p ∙ sym q

pub shape_run_length_unique : (κs : Lfts 0) (a : ArgsD shape-run-length.signature κs) (r r' : ResD shape-run-length.signature κs)
    (s s' : AtExit shape-run-length.ended κs) → shape-run-length-reads.Post κs a r s → shape-run-length-reads.Post κs a r' s' → r ≡ r'
shape_run_length_unique κs a r r' s s' p q = p ∙ sym q

pub lent_refusal_unique : (κs : Lfts 0) (a : ArgsD lent-refusal.signature κs) (r r' : ResD lent-refusal.signature κs)
    (s s' : AtExit lent-refusal.ended κs) → lent-refusal-reads.Post κs a r s → lent-refusal-reads.Post κs a r' s' → r ≡ r'
lent_refusal_unique κs a r r' s s' p q = same_answer r r' (p ∙ sym q) (λ x y e f. refl)

pub u32_from_unique : (κs : Lfts 0) (a : ArgsD u32-from.signature κs) (r r' : ResD u32-from.signature κs) (s s' : AtExit u32-from.ended κs)
    → u32-from-reads.Post κs a r s → u32-from-reads.Post κs a r' s' → r ≡ r'
u32_from_unique κs a r r' s s' p q = p ∙ sym q

pub column_unique : (κs : Lfts 1) (a : ArgsD column.signature κs) (r r' : ResD column.signature κs) (s s' : AtExit column.ended κs)
    → column-reads.Post κs a r s → column-reads.Post κs a r' s' → r.now ≡ r'.now
column_unique κs a r r' s s' p q = p ∙ sym q

pub is_lost_unique : (κs : Lfts 1) (a : ArgsD is_lost.signature κs) (r r' : ResD is_lost.signature κs) (s s' : AtExit is_lost.ended κs)
    → is-lost-reads.Post κs a r s → is-lost-reads.Post κs a r' s' → r ≡ r'
is_lost_unique κs a r r' s s' p q = p ∙ sym q
