-- Any two outcomes that a contract of this crate allows for the same arguments are equal: the number, and what the lent memory holds.
use Prim.Native.Nat.{ℕ}
use mathlib.Core.Path.{◌≡◌, refl, sym, ◌∙◌}
use mathlib.Core.List.{List}
use seplogic.Ra.Ura.{Ura}
use base.Logic.{SProp}
use prog.Memory.{Memory}
use prog.Routine.{Routine}
use types.Logic.{Logic}
use contract.Monad.{Fun, fact}
use contract.Lifetimes.{Lfts}
use borrow.Fn.World.{ArgsD, ResD}
use denote.Triple.Clauses.{AtExit}
use Rattle.mending.proofs.Outcome.{mended-one}
use Rattle.stripe.specs.declared.Shape.{Shape}
use Rattle.plan.specs.declared.Span.{Span}
use Rattle.plan.proofs.Unique.{same_columns, same_bytes}
use Rattle.shelf.specs.Shelf.{shape_of, Planned}
use Rattle.shelf.specs.contracts.shelf_encode as shelf-encode
use Rattle.shelf.proofs.shelf_encode.Reads as shelf-encode-reads
use Rattle.shelf.specs.contracts.shelf_mend as shelf-mend
use Rattle.shelf.proofs.shelf_mend.Reads as shelf-mend-reads
use Rattle.shelf.specs.contracts.shelf_fold as shelf-fold
use Rattle.shelf.proofs.shelf_fold.Reads as shelf-fold-reads
use Rattle.shelf.specs.contracts.shelf_plan_refusal as shelf-plan-refusal
use Rattle.shelf.proofs.shelf_plan_refusal.Reads as shelf-plan-refusal-reads
use Rattle.shelf.specs.contracts.shelf_plan_columns_read as shelf-plan-columns-read
use Rattle.shelf.proofs.shelf_plan_columns_read.Reads as shelf-plan-columns-read-reads
use Rattle.shelf.specs.contracts.shelf_plan_bytes_read as shelf-plan-bytes-read
use Rattle.shelf.proofs.shelf_plan_bytes_read.Reads as shelf-plan-bytes-read-reads
use Rattle.shelf.specs.contracts.shelf_plan_columns_written as shelf-plan-columns-written
use Rattle.shelf.proofs.shelf_plan_columns_written.Reads as shelf-plan-columns-written-reads
use Rattle.shelf.specs.contracts.shelf_plan_columns_sum as shelf-plan-columns-sum
use Rattle.shelf.proofs.shelf_plan_columns_sum.Reads as shelf-plan-columns-sum-reads
use Rattle.shelf.specs.contracts.shelf_plan_bytes_written as shelf-plan-bytes-written
use Rattle.shelf.proofs.shelf_plan_bytes_written.Reads as shelf-plan-bytes-written-reads
use Rattle.shelf.specs.contracts.shelf_plan_bytes_sum as shelf-plan-bytes-sum
use Rattle.shelf.proofs.shelf_plan_bytes_sum.Reads as shelf-plan-bytes-sum-reads
use Rattle.shelf.specs.contracts.shelf_plan_spans as shelf-plan-spans
use Rattle.shelf.specs.contracts.check.shelf_check as shelf-check
use Rattle.shelf.proofs.check.shelf_check.Reads as shelf-check-reads
use Rattle.shelf.specs.contracts.records.shelf_read_record as shelf-read-record
use Rattle.shelf.proofs.records.shelf_read_record.Reads as shelf-read-record-reads
use Rattle.shelf.specs.contracts.records.shelf_write_record as shelf-write-record
use Rattle.shelf.proofs.records.shelf_write_record.Reads as shelf-write-record-reads

pub shelf_encode_unique : (κs : Lfts 2) (a : ArgsD shelf-encode.signature κs) (r r' : ResD shelf-encode.signature κs)
    (s s' : AtExit shelf-encode.ended κs) → shelf-encode-reads.Post κs a r s → shelf-encode-reads.Post κs a r' s'
    → (r ≡ r') × (s.1.1.1.1.1.0.now ≡ s'.1.1.1.1.1.0.now)
shelf_encode_unique κs a r r' s s' p q = (p.0 ∙ sym q.0, p.1 ∙ sym q.1)

pub shelf_fold_unique : (κs : Lfts 2) (a : ArgsD shelf-fold.signature κs) (r r' : ResD shelf-fold.signature κs)
    (s s' : AtExit shelf-fold.ended κs) → shelf-fold-reads.Post κs a r s → shelf-fold-reads.Post κs a r' s'
    → (r ≡ r') × (s.1.1.1.1.1.1.1.0.now ≡ s'.1.1.1.1.1.1.1.0.now)
shelf_fold_unique κs a r r' s s' p q = (p.0 ∙ sym q.0, p.1 ∙ sym q.1)

pub shelf_plan_refusal_unique : (κs : Lfts 0) (a : ArgsD shelf-plan-refusal.signature κs) (r r' : ResD shelf-plan-refusal.signature κs)
    (s s' : AtExit shelf-plan-refusal.ended κs) → shelf-plan-refusal-reads.Post κs a r s → shelf-plan-refusal-reads.Post κs a r' s' → r ≡ r'
shelf_plan_refusal_unique κs a r r' s s' p q = p ∙ sym q

pub shelf_plan_columns_read_unique : (κs : Lfts 0) (a : ArgsD shelf-plan-columns-read.signature κs) (r r' : ResD shelf-plan-columns-read.signature κs)
    (s s' : AtExit shelf-plan-columns-read.ended κs) → shelf-plan-columns-read-reads.Post κs a r s → shelf-plan-columns-read-reads.Post κs a r' s' → r ≡ r'
shelf_plan_columns_read_unique κs a r r' s s' p q = same_columns r r' (p ∙ sym q)

pub shelf_plan_bytes_read_unique : (κs : Lfts 0) (a : ArgsD shelf-plan-bytes-read.signature κs) (r r' : ResD shelf-plan-bytes-read.signature κs)
    (s s' : AtExit shelf-plan-bytes-read.ended κs) → shelf-plan-bytes-read-reads.Post κs a r s → shelf-plan-bytes-read-reads.Post κs a r' s' → r ≡ r'
shelf_plan_bytes_read_unique κs a r r' s s' p q = same_bytes r r' (p ∙ sym q)

pub shelf_plan_columns_written_unique : (κs : Lfts 0) (a : ArgsD shelf-plan-columns-written.signature κs) (r r' : ResD shelf-plan-columns-written.signature κs)
    (s s' : AtExit shelf-plan-columns-written.ended κs)
    → shelf-plan-columns-written-reads.Post κs a r s → shelf-plan-columns-written-reads.Post κs a r' s' → r ≡ r'
shelf_plan_columns_written_unique κs a r r' s s' p q = same_columns r r' (p ∙ sym q)

pub shelf_plan_columns_sum_unique : (κs : Lfts 0) (a : ArgsD shelf-plan-columns-sum.signature κs) (r r' : ResD shelf-plan-columns-sum.signature κs)
    (s s' : AtExit shelf-plan-columns-sum.ended κs)
    → shelf-plan-columns-sum-reads.Post κs a r s → shelf-plan-columns-sum-reads.Post κs a r' s' → r ≡ r'
shelf_plan_columns_sum_unique κs a r r' s s' p q = same_columns r r' (p ∙ sym q)

pub shelf_plan_bytes_written_unique : (κs : Lfts 0) (a : ArgsD shelf-plan-bytes-written.signature κs) (r r' : ResD shelf-plan-bytes-written.signature κs)
    (s s' : AtExit shelf-plan-bytes-written.ended κs)
    → shelf-plan-bytes-written-reads.Post κs a r s → shelf-plan-bytes-written-reads.Post κs a r' s' → r ≡ r'
shelf_plan_bytes_written_unique κs a r r' s s' p q = same_bytes r r' (p ∙ sym q)

pub shelf_plan_bytes_sum_unique : (κs : Lfts 0) (a : ArgsD shelf-plan-bytes-sum.signature κs) (r r' : ResD shelf-plan-bytes-sum.signature κs)
    (s s' : AtExit shelf-plan-bytes-sum.ended κs)
    → shelf-plan-bytes-sum-reads.Post κs a r s → shelf-plan-bytes-sum-reads.Post κs a r' s' → r ≡ r'
shelf_plan_bytes_sum_unique κs a r r' s s' p q = same_bytes r r' (p ∙ sym q)

pub shelf_mend_unique : (κs : Lfts 2) (a : ArgsD shelf-mend.signature κs) (r r' : ResD shelf-mend.signature κs)
    (s s' : AtExit shelf-mend.ended κs) → shelf-mend-reads.Post κs a r s → shelf-mend-reads.Post κs a r' s'
    → (r ≡ r') × (s.1.1.1.1.0.now ≡ s'.1.1.1.1.0.now)
shelf_mend_unique κs a r r' s s' p q = mended-one _ _ _ r r' _ _ p q

pub shelf_check_unique : (κs : Lfts 4) (a : ArgsD shelf-check.signature κs) (r r' : ResD shelf-check.signature κs)
    (s s' : AtExit shelf-check.ended κs) → shelf-check-reads.Post κs a r s → shelf-check-reads.Post κs a r' s'
    → (r ≡ r') × ((s.1.1.1.1.1.1.0.now ≡ s'.1.1.1.1.1.1.0.now) × (s.1.1.1.1.1.1.1.0.now ≡ s'.1.1.1.1.1.1.1.0.now))
shelf_check_unique κs a r r' s s' p q = (p.0 ∙ sym q.0, (p.1.0 ∙ sym q.1.0, p.1.1 ∙ sym q.1.1))

pub shelf_read_record_unique : (κs : Lfts 4) (a : ArgsD shelf-read-record.signature κs) (r r' : ResD shelf-read-record.signature κs)
    (s s' : AtExit shelf-read-record.ended κs) → shelf-read-record-reads.Post κs a r s → shelf-read-record-reads.Post κs a r' s'
    → (r ≡ r')
    × ((s.1.0.now ≡ s'.1.0.now) × ((s.1.1.0.now ≡ s'.1.1.0.now) × (s.1.1.1.0.now ≡ s'.1.1.1.0.now)))
shelf_read_record_unique κs a r r' s s' p q =
    (p.0 ∙ sym q.0, (p.1.0 ∙ sym q.1.0, (p.1.1.0 ∙ sym q.1.1.0, p.1.1.1 ∙ sym q.1.1.1)))

pub shelf_write_record_unique : (κs : Lfts 4) (a : ArgsD shelf-write-record.signature κs) (r r' : ResD shelf-write-record.signature κs)
    (s s' : AtExit shelf-write-record.ended κs) → shelf-write-record-reads.Post κs a r s → shelf-write-record-reads.Post κs a r' s'
    → (r ≡ r') × ((s.1.1.1.1.1.1.0.now ≡ s'.1.1.1.1.1.1.0.now) × (s.1.1.1.1.1.1.1.0.now ≡ s'.1.1.1.1.1.1.1.0.now))
shelf_write_record_unique κs a r r' s s' p q = (p.0 ∙ sym q.0, (p.1.0 ∙ sym q.1.0, p.1.1 ∙ sym q.1.1))

-- `shelf_plan_spans` is proved by hand and has no `Reads`: its clause is `Planned`, by computation
pub shelf_plan_spans_clause : {M : Type 1} {𝓤 : Ura M} (𝓛 : Logic 𝓤) (mem : Memory → SProp 𝓤) (run : Routine → Fun 𝓤) (κs : Lfts 1)
    (a : ArgsD shelf-plan-spans.signature κs) (v : ResD shelf-plan-spans.signature κs) (s : AtExit shelf-plan-spans.ended κs)
    → (shelf-plan-spans.clauses 𝓛 mem run κs a).ensures tt v s
    ≡ fact 𝓤
    (Planned (shape_of a.0 a.1.0 a.1.1.0 a.1.1.1.0) a.1.1.1.1.0 a.1.1.1.1.1.0 a.1.1.1.1.1.1.0.now v
    s.1.1.1.1.1.1.0.now)
shelf_plan_spans_clause 𝓛 mem run κs a v s = refl

pub shelf_plan_spans_unique : (s : Shape) (n f : ℕ) (xs : List Span) (v v' : ℕ) (ys ys' : List Span) → Planned s n f xs v ys → Planned s n f xs v' ys'
    → (v ≡ v') × (ys ≡ ys')
shelf_plan_spans_unique s n f xs v v' ys ys' p q = (p.0 ∙ sym q.0, p.1 ∙ sym q.1)
