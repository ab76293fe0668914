-- A record read for C: with five numbers to fill the call is `read_record`.
use Prim.Native.Nat.{ℕ}
use mathlib.Core.Path.{◌≡◌, refl, sym, ap, ◌∙◌}
use mathlib.Core.Bool.{cond}
use mathlib.Core.List.{List}
use native.Mathlib.Omega.{arith}
use borrow.Author.Tests.{eq-eqb, eqb-true}
use lib.Dec.{eqb}
use lib.ListN.{length}
use Rattle.record.specs.Reading.{Got, unless, columns_filled, positions_filled, read_refusal, got_of}
use Rattle.record.proofs.Refusals.{first_zero}
use Rattle.record.proofs.Accepted.{unless-zero}
use Rattle.shelf.specs.Records.{read_number, numbers_of}
use Rattle.demands.specs.Calls.{Reads, ReadsRecord}
use Rattle.demands.proofs.Answers.{done, got_number}
use Rattle.demands.proofs.Tables.{read_record_table_lem}

module _ (bs xs es ns : List ℕ) where
  abbrev got : Got
  got = got_of bs (length xs) (length es)

  -- what is answered with 0 was lent five numbers and the buffer
  pub lent_read : read_number bs xs es ns ≡ 0 → (length ns ≡ 5) × (length xs ≡ 65536)
  lent_read z =
      let numbers = first_zero (unless (eqb (length ns) 5) 5) _ (sym (read_record_table_lem bs xs es ns) ∙ z) in
      let buffer = first_zero _ _ (first_zero _ _ numbers.1).1 in
      (eqb-true _ _ (unless-zero _ 5 (omega arith) numbers.0), eqb-true _ _ (unless-zero _ 5 (omega arith) buffer.0))

  module _ (five : length ns ≡ 5) (v : ℕ) (xs' es' ns' : List ℕ) (p : ReadsRecord bs xs es ns v xs' es' ns') where
    same : read_number bs xs es ns ≡ read_refusal bs (length xs) (length es)
    unfolding read_number
    same = simp (eq-eqb _ _ five)

    pub as_read : Reads bs xs es got xs' es'
    as_read = (
      refl,
      (
        p.1.0 ∙ ap (λ (n : ℕ). cond (eqb n 0) (columns_filled bs xs) xs) same,
        p.1.1.0 ∙ ap (λ (n : ℕ). cond (eqb n 0) (positions_filled bs es) es) same,
      ),
    )

    pub number_read : v ≡ got.number
    number_read = p.0 ∙ same ∙ sym (got_number bs xs es got xs' es' as_read)

    pub numbers_read : v ≡ 0 → ns' ≡ numbers_of got.shape got.lost
    numbers_read z =
        p.1.1.1 ∙ done (read_number bs xs es ns) _ ns (sym p.0 ∙ z)
        ∙ sym (ap (λ (g : Got). numbers_of g.shape g.lost) (done (read_refusal bs (length xs) (length es)) _ _ (sym same ∙ sym p.0 ∙ z)))
