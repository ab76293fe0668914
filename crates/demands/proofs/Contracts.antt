-- The calls' contracts. Each function meets its own, so that a run of it is safe and ends (the logic is one of total correctness); none asks anything
-- of its caller; and what each promises is the relation of `specs/Calls.antt`, by computation.
use mathlib.Core.Path.{◌≡◌, refl}
use seplogic.Ra.Ura.{Ura}
use base.Logic.{SProp, emp}
use prog.Memory.{Memory}
use prog.Routine.{Routine}
use types.Logic.{Logic}
use contract.Monad.{Fun, fact}
use contract.Lifetimes.{Lfts}
use borrow.Fn.World.{ArgsD, ResD}
use denote.Triple.Clauses.{AtExit}
use Rattle.record.specs.Reading as reading
use Rattle.writing.specs.Writing as writing
use Rattle.demands.specs.Calls.{Encodes, Mends, Folds, PlanRefuses, PlanColumns, PlanBytes, PlanSpans, Column, Reads, Writes, MendsRecord, Prints}
use Rattle.demands.specs.Calls.{Checks, ReadsRecord, WritesRecord, PlanColumnsWritten, PlanColumnsSum, PlanBytesWritten, PlanBytesSum}
use Rattle.shelf.specs.contracts.shelf_encode as encode
use Rattle.shelf.proofs.shelf_encode.Statement as encode-statement
use Rattle.shelf.proofs.shelf_encode.Met as encode-met
use Rattle.shelf.proofs.shelf_encode.Reads as encode-reads
use Rattle.shelf.specs.contracts.check.shelf_check as check
use Rattle.shelf.proofs.check.shelf_check.Statement as check-statement
use Rattle.shelf.proofs.check.shelf_check.Met as check-met
use Rattle.shelf.proofs.check.shelf_check.Reads as check-reads
use Rattle.shelf.specs.contracts.shelf_mend as mend
use Rattle.shelf.proofs.shelf_mend.Statement as mend-statement
use Rattle.shelf.proofs.shelf_mend.Met as mend-met
use Rattle.shelf.proofs.shelf_mend.Reads as mend-reads
use Rattle.shelf.specs.contracts.shelf_fold as fold
use Rattle.shelf.proofs.shelf_fold.Statement as fold-statement
use Rattle.shelf.proofs.shelf_fold.Met as fold-met
use Rattle.shelf.proofs.shelf_fold.Reads as fold-reads
use Rattle.shelf.specs.contracts.shelf_plan_refusal as plan-refusal
use Rattle.shelf.proofs.shelf_plan_refusal.Statement as plan-refusal-statement
use Rattle.shelf.proofs.shelf_plan_refusal.Met as plan-refusal-met
use Rattle.shelf.proofs.shelf_plan_refusal.Reads as plan-refusal-reads
use Rattle.shelf.specs.contracts.shelf_plan_columns_read as plan-columns
use Rattle.shelf.proofs.shelf_plan_columns_read.Statement as plan-columns-statement
use Rattle.shelf.proofs.shelf_plan_columns_read.Met as plan-columns-met
use Rattle.shelf.proofs.shelf_plan_columns_read.Reads as plan-columns-reads
use Rattle.shelf.specs.contracts.shelf_plan_bytes_read as plan-bytes
use Rattle.shelf.proofs.shelf_plan_bytes_read.Statement as plan-bytes-statement
use Rattle.shelf.proofs.shelf_plan_bytes_read.Met as plan-bytes-met
use Rattle.shelf.proofs.shelf_plan_bytes_read.Reads as plan-bytes-reads
use Rattle.shelf.specs.contracts.shelf_plan_columns_written as plan-columns-written
use Rattle.shelf.proofs.shelf_plan_columns_written.Statement as plan-columns-written-statement
use Rattle.shelf.proofs.shelf_plan_columns_written.Met as plan-columns-written-met
use Rattle.shelf.proofs.shelf_plan_columns_written.Reads as plan-columns-written-reads
use Rattle.shelf.specs.contracts.shelf_plan_columns_sum as plan-columns-sum
use Rattle.shelf.proofs.shelf_plan_columns_sum.Statement as plan-columns-sum-statement
use Rattle.shelf.proofs.shelf_plan_columns_sum.Met as plan-columns-sum-met
use Rattle.shelf.proofs.shelf_plan_columns_sum.Reads as plan-columns-sum-reads
use Rattle.shelf.specs.contracts.shelf_plan_bytes_written as plan-bytes-written
use Rattle.shelf.proofs.shelf_plan_bytes_written.Statement as plan-bytes-written-statement
use Rattle.shelf.proofs.shelf_plan_bytes_written.Met as plan-bytes-written-met
use Rattle.shelf.proofs.shelf_plan_bytes_written.Reads as plan-bytes-written-reads
use Rattle.shelf.specs.contracts.shelf_plan_bytes_sum as plan-bytes-sum
use Rattle.shelf.proofs.shelf_plan_bytes_sum.Statement as plan-bytes-sum-statement
use Rattle.shelf.proofs.shelf_plan_bytes_sum.Met as plan-bytes-sum-met
use Rattle.shelf.proofs.shelf_plan_bytes_sum.Reads as plan-bytes-sum-reads
use Rattle.shelf.specs.contracts.shelf_plan_spans as plan-spans
use Rattle.shelf.proofs.shelf_plan_spans.Statement as plan-spans-statement
use Rattle.shelf.proofs.shelf_plan_spans.Met as plan-spans-met
use Rattle.stripe.specs.contracts.column.column as column
use Rattle.stripe.proofs.column.column.Statement as column-statement
use Rattle.stripe.proofs.column.column.Met as column-met
use Rattle.stripe.proofs.column.column.Reads as column-reads
use Rattle.record.specs.contracts.read.read_record as read
use Rattle.record.proofs.read.read_record.Statement as read-statement
use Rattle.record.proofs.read.read_record.Met as read-met
use Rattle.record.proofs.read.read_record.Reads as read-reads
use Rattle.writing.specs.contracts.write_record as write
use Rattle.writing.proofs.write_record.Statement as write-statement
use Rattle.writing.proofs.write_record.Met as write-met
use Rattle.writing.proofs.write_record.Reads as write-reads
use Rattle.shelf.specs.contracts.records.shelf_read_record as read-record
use Rattle.shelf.proofs.records.shelf_read_record.Statement as read-record-statement
use Rattle.shelf.proofs.records.shelf_read_record.Met as read-record-met
use Rattle.shelf.proofs.records.shelf_read_record.Reads as read-record-reads
use Rattle.shelf.specs.contracts.records.shelf_write_record as write-record
use Rattle.shelf.proofs.records.shelf_write_record.Statement as write-record-statement
use Rattle.shelf.proofs.records.shelf_write_record.Met as write-record-met
use Rattle.shelf.proofs.records.shelf_write_record.Reads as write-record-reads
use Rattle.answer.specs.contracts.mended.mend_record as mend-record
use Rattle.answer.proofs.mended.mend_record.Statement as mend-record-statement
use Rattle.answer.proofs.mended.mend_record.Met as mend-record-met
use Rattle.answer.proofs.mended.mend_record.Reads as mend-record-reads
use Rattle.answer.specs.contracts.answer as answer
use Rattle.answer.proofs.answer.Statement as answer-statement
use Rattle.answer.proofs.answer.Met as answer-met
use Rattle.answer.proofs.answer.Reads as answer-reads

-- ---- each meets its contract

-- the contracts of all calls are met
abbrev pub AllMet : Type 1 → Type 2
AllMet M =
    encode-statement.statement M
    × check-statement.statement M
    × mend-statement.statement M
    × fold-statement.statement M
    × plan-refusal-statement.statement M
    × plan-columns-statement.statement M
    × plan-bytes-statement.statement M
    × plan-columns-written-statement.statement M
    × plan-columns-sum-statement.statement M
    × plan-bytes-written-statement.statement M
    × plan-bytes-sum-statement.statement M
    × plan-spans-statement.statement M
    × column-statement.statement M
    × read-statement.statement M
    × write-statement.statement M
    × read-record-statement.statement M
    × write-record-statement.statement M
    × mend-record-statement.statement M
    × answer-statement.statement M

pub all_met : {M : Type 1} → AllMet M
all_met = (
  encode-met.met,
  check-met.met,
  mend-met.met,
  fold-met.met,
  plan-refusal-met.met,
  plan-columns-met.met,
  plan-bytes-met.met,
  plan-columns-written-met.met,
  plan-columns-sum-met.met,
  plan-bytes-written-met.met,
  plan-bytes-sum-met.met,
  plan-spans-met.met,
  column-met.met,
  read-met.met,
  write-met.met,
  read-record-met.met,
  write-record-met.met,
  mend-record-met.met,
  answer-met.met,
)

-- ---- none asks anything

module _ {M : Type 1} {𝓤 : Ura M} (𝓛 : Logic 𝓤) (mem : Memory → SProp 𝓤) (run : Routine → Fun 𝓤) where
  pub encode_asks_nothing : (κs : Lfts 2) (a : ArgsD encode.signature κs) → (encode.clauses 𝓛 mem run κs a).requires tt ≡ emp 𝓤
  encode_asks_nothing κs a = refl

  pub check_asks_nothing : (κs : Lfts 4) (a : ArgsD check.signature κs) → (check.clauses 𝓛 mem run κs a).requires tt ≡ emp 𝓤
  check_asks_nothing κs a = refl

  pub mend_asks_nothing : (κs : Lfts 2) (a : ArgsD mend.signature κs) → (mend.clauses 𝓛 mem run κs a).requires tt ≡ emp 𝓤
  mend_asks_nothing κs a = refl

  pub fold_asks_nothing : (κs : Lfts 2) (a : ArgsD fold.signature κs) → (fold.clauses 𝓛 mem run κs a).requires tt ≡ emp 𝓤
  fold_asks_nothing κs a = refl

  pub plan_refusal_asks_nothing : (κs : Lfts 0) (a : ArgsD plan-refusal.signature κs) → (plan-refusal.clauses 𝓛 mem run κs a).requires tt ≡ emp 𝓤
  plan_refusal_asks_nothing κs a = refl

  pub plan_columns_asks_nothing : (κs : Lfts 0) (a : ArgsD plan-columns.signature κs) → (plan-columns.clauses 𝓛 mem run κs a).requires tt ≡ emp 𝓤
  plan_columns_asks_nothing κs a = refl

  pub plan_bytes_asks_nothing : (κs : Lfts 0) (a : ArgsD plan-bytes.signature κs) → (plan-bytes.clauses 𝓛 mem run κs a).requires tt ≡ emp 𝓤
  plan_bytes_asks_nothing κs a = refl

  pub plan_columns_written_asks_nothing : (κs : Lfts 0) (a : ArgsD plan-columns-written.signature κs)
      → (plan-columns-written.clauses 𝓛 mem run κs a).requires tt ≡ emp 𝓤
  plan_columns_written_asks_nothing κs a = refl

  pub plan_columns_sum_asks_nothing : (κs : Lfts 0) (a : ArgsD plan-columns-sum.signature κs)
      → (plan-columns-sum.clauses 𝓛 mem run κs a).requires tt ≡ emp 𝓤
  plan_columns_sum_asks_nothing κs a = refl

  pub plan_bytes_written_asks_nothing : (κs : Lfts 0) (a : ArgsD plan-bytes-written.signature κs)
      → (plan-bytes-written.clauses 𝓛 mem run κs a).requires tt ≡ emp 𝓤
  plan_bytes_written_asks_nothing κs a = refl

  pub plan_bytes_sum_asks_nothing : (κs : Lfts 0) (a : ArgsD plan-bytes-sum.signature κs)
      → (plan-bytes-sum.clauses 𝓛 mem run κs a).requires tt ≡ emp 𝓤
  plan_bytes_sum_asks_nothing κs a = refl

  pub plan_spans_asks_nothing : (κs : Lfts 1) (a : ArgsD plan-spans.signature κs) → (plan-spans.clauses 𝓛 mem run κs a).requires tt ≡ emp 𝓤
  plan_spans_asks_nothing κs a = refl

  pub column_asks_nothing : (κs : Lfts 1) (a : ArgsD column.signature κs) → (column.clauses 𝓛 mem run κs a).requires tt ≡ emp 𝓤
  column_asks_nothing κs a = refl

  pub read_asks_nothing : (κs : Lfts 3) (a : ArgsD read.signature κs) → (read.clauses 𝓛 mem run κs a).requires tt ≡ emp 𝓤
  read_asks_nothing κs a = refl

  pub write_asks_nothing : (κs : Lfts 3) (a : ArgsD write.signature κs) → (write.clauses 𝓛 mem run κs a).requires tt ≡ emp 𝓤
  write_asks_nothing κs a = refl

  pub read_record_asks_nothing : (κs : Lfts 4) (a : ArgsD read-record.signature κs) → (read-record.clauses 𝓛 mem run κs a).requires tt ≡ emp 𝓤
  read_record_asks_nothing κs a = refl

  pub write_record_asks_nothing : (κs : Lfts 4) (a : ArgsD write-record.signature κs) → (write-record.clauses 𝓛 mem run κs a).requires tt ≡ emp 𝓤
  write_record_asks_nothing κs a = refl

  pub mend_record_asks_nothing : (κs : Lfts 3) (a : ArgsD mend-record.signature κs) → (mend-record.clauses 𝓛 mem run κs a).requires tt ≡ emp 𝓤
  mend_record_asks_nothing κs a = refl

  pub answer_asks_nothing : (κs : Lfts 2) (a : ArgsD answer.signature κs) → (answer.clauses 𝓛 mem run κs a).requires tt ≡ emp 𝓤
  answer_asks_nothing κs a = refl

-- ---- what each promises

pub encode_promises : (κs : Lfts 2) (a : ArgsD encode.signature κs) (v : ResD encode.signature κs) (s : AtExit encode.ended κs)
    → encode-reads.Post κs a v s
    ≡ Encodes a.0 a.1.0 a.1.1.0 a.1.1.1.0 a.1.1.1.1.0.now a.1.1.1.1.1.0.now v s.1.1.1.1.1.0.now
encode_promises κs a v s = refl

pub check_promises : (κs : Lfts 4) (a : ArgsD check.signature κs) (v : ResD check.signature κs) (s : AtExit check.ended κs)
    → check-reads.Post κs a v s
    ≡ Checks a.0 a.1.0 a.1.1.0 a.1.1.1.0 a.1.1.1.1.0.now a.1.1.1.1.1.0.now a.1.1.1.1.1.1.0.now
    a.1.1.1.1.1.1.1.0.now v s.1.1.1.1.1.1.0.now s.1.1.1.1.1.1.1.0.now
check_promises κs a v s = refl

pub mend_promises : (κs : Lfts 2) (a : ArgsD mend.signature κs) (v : ResD mend.signature κs) (s : AtExit mend.ended κs)
    → mend-reads.Post κs a v s
    ≡ Mends a.0 a.1.0 a.1.1.0 a.1.1.1.0 a.1.1.1.1.0.now a.1.1.1.1.1.0.now v s.1.1.1.1.0.now
mend_promises κs a v s = refl

pub fold_promises : (κs : Lfts 2) (a : ArgsD fold.signature κs) (v : ResD fold.signature κs) (s : AtExit fold.ended κs)
    → fold-reads.Post κs a v s ≡ Folds a.0 a.1.0 a.1.1.0 a.1.1.1.0 a.1.1.1.1.0 a.1.1.1.1.1.0 a.1.1.1.1.1.1.0.now
    a.1.1.1.1.1.1.1.0.now v s.1.1.1.1.1.1.1.0.now
fold_promises κs a v s = refl

pub plan_refusal_promises : (κs : Lfts 0) (a : ArgsD plan-refusal.signature κs) (v : ResD plan-refusal.signature κs) (s : AtExit plan-refusal.ended κs)
    → plan-refusal-reads.Post κs a v s ≡ PlanRefuses a.0 a.1.0 a.1.1.0 a.1.1.1.0 a.1.1.1.1.0 a.1.1.1.1.1.0 v
plan_refusal_promises κs a v s = refl

pub plan_columns_promises : (κs : Lfts 0) (a : ArgsD plan-columns.signature κs) (v : ResD plan-columns.signature κs) (s : AtExit plan-columns.ended κs)
    → plan-columns-reads.Post κs a v s ≡ PlanColumns a.0 a.1.0 a.1.1.0 a.1.1.1.0 a.1.1.1.1.0 a.1.1.1.1.1.0 v.0
plan_columns_promises κs a v s = refl

pub plan_bytes_promises : (κs : Lfts 0) (a : ArgsD plan-bytes.signature κs) (v : ResD plan-bytes.signature κs) (s : AtExit plan-bytes.ended κs)
    → plan-bytes-reads.Post κs a v s ≡ PlanBytes a.0 a.1.0 a.1.1.0 a.1.1.1.0 a.1.1.1.1.0 a.1.1.1.1.1.0 v.0
plan_bytes_promises κs a v s = refl

pub plan_columns_written_promises : (κs : Lfts 0) (a : ArgsD plan-columns-written.signature κs) (v : ResD plan-columns-written.signature κs)
    (s : AtExit plan-columns-written.ended κs)
    → plan-columns-written-reads.Post κs a v s
    ≡ PlanColumnsWritten a.0 a.1.0 a.1.1.0 a.1.1.1.0 a.1.1.1.1.0 a.1.1.1.1.1.0 v.0
plan_columns_written_promises κs a v s = refl

pub plan_columns_sum_promises : (κs : Lfts 0) (a : ArgsD plan-columns-sum.signature κs) (v : ResD plan-columns-sum.signature κs)
    (s : AtExit plan-columns-sum.ended κs)
    → plan-columns-sum-reads.Post κs a v s
    ≡ PlanColumnsSum a.0 a.1.0 a.1.1.0 a.1.1.1.0 a.1.1.1.1.0 a.1.1.1.1.1.0 v.0
plan_columns_sum_promises κs a v s = refl

pub plan_bytes_written_promises : (κs : Lfts 0) (a : ArgsD plan-bytes-written.signature κs) (v : ResD plan-bytes-written.signature κs)
    (s : AtExit plan-bytes-written.ended κs)
    → plan-bytes-written-reads.Post κs a v s
    ≡ PlanBytesWritten a.0 a.1.0 a.1.1.0 a.1.1.1.0 a.1.1.1.1.0 a.1.1.1.1.1.0 v.0
plan_bytes_written_promises κs a v s = refl

pub plan_bytes_sum_promises : (κs : Lfts 0) (a : ArgsD plan-bytes-sum.signature κs) (v : ResD plan-bytes-sum.signature κs)
    (s : AtExit plan-bytes-sum.ended κs)
    → plan-bytes-sum-reads.Post κs a v s
    ≡ PlanBytesSum a.0 a.1.0 a.1.1.0 a.1.1.1.0 a.1.1.1.1.0 a.1.1.1.1.1.0 v.0
plan_bytes_sum_promises κs a v s = refl

pub column_promises : (κs : Lfts 1) (a : ArgsD column.signature κs) (v : ResD column.signature κs) (s : AtExit column.ended κs)
    → column-reads.Post κs a v s ≡ Column a.0 a.1.0.now a.1.1.0.now a.1.1.1.0 v.now
column_promises κs a v s = refl

pub read_promises : (κs : Lfts 3) (a : ArgsD read.signature κs) (v : ResD read.signature κs) (s : AtExit read.ended κs)
    → read-reads.Post κs a v s ≡ Reads a.0.now a.1.0.now a.1.1.0.now (reading.reported v) s.1.0.now s.1.1.0.now
read_promises κs a v s = refl

pub write_promises : (κs : Lfts 3) (a : ArgsD write.signature κs) (v : ResD write.signature κs) (s : AtExit write.ended κs)
    → write-reads.Post κs a v s ≡ Writes a.0 a.1.0.now a.1.1.0.now a.1.1.1.0.now (writing.reported v) s.1.1.1.0.now
write_promises κs a v s = refl

pub read_record_promises : (κs : Lfts 4) (a : ArgsD read-record.signature κs) (v : ResD read-record.signature κs) (s : AtExit read-record.ended κs)
    → read-record-reads.Post κs a v s
    ≡ ReadsRecord a.0.now a.1.0.now a.1.1.0.now a.1.1.1.0.now v s.1.0.now s.1.1.0.now s.1.1.1.0.now
read_record_promises κs a v s = refl

pub write_record_promises : (κs : Lfts 4) (a : ArgsD write-record.signature κs) (v : ResD write-record.signature κs) (s : AtExit write-record.ended κs)
    → write-record-reads.Post κs a v s
    ≡ WritesRecord a.0 a.1.0 a.1.1.0 a.1.1.1.0 a.1.1.1.1.0.now a.1.1.1.1.1.0.now a.1.1.1.1.1.1.0.now
    a.1.1.1.1.1.1.1.0.now v s.1.1.1.1.1.1.0.now s.1.1.1.1.1.1.1.0.now
write_record_promises κs a v s = refl

pub mend_record_promises : (κs : Lfts 3) (a : ArgsD mend-record.signature κs) (v : ResD mend-record.signature κs) (s : AtExit mend-record.ended κs)
    → mend-record-reads.Post κs a v s ≡ MendsRecord a.0.now a.1.0.now a.1.1.0.now (reading.reported v) s.1.0.now s.1.1.0.now
mend_record_promises κs a v s = refl

pub answer_promises : (κs : Lfts 2) (a : ArgsD answer.signature κs) (v : ResD answer.signature κs) (s : AtExit answer.ended κs)
    → answer-reads.Post κs a v s ≡ Prints a.0.now a.1.0.now v s.1.0.now
answer_promises κs a v s = refl

-- `shelf_plan_spans` is proved by hand and has no `Reads`
pub plan_spans_promises : {M : Type 1} {𝓤 : Ura M} (𝓛 : Logic 𝓤) (mem : Memory → SProp 𝓤) (run : Routine → Fun 𝓤) (κs : Lfts 1)
    (a : ArgsD plan-spans.signature κs) (v : ResD plan-spans.signature κs) (s : AtExit plan-spans.ended κs)
    → (plan-spans.clauses 𝓛 mem run κs a).ensures tt v s ≡ fact 𝓤 (PlanSpans a.0 a.1.0 a.1.1.0 a.1.1.1.0 a.1.1.1.1.0
    a.1.1.1.1.1.0 a.1.1.1.1.1.1.0.now v s.1.1.1.1.1.1.0.now)
plan_spans_promises 𝓛 mem run κs a v s = refl
