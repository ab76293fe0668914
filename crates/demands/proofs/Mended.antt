-- A record mended, by document 01's tables: of a record that reads well the shape, the length and the list are in order, so that mending refuses
-- 7 or 8 alone. And what such a record describes, in the words of its layout.
use Prim.Native.Nat.{ℕ, ◌+◌, ◌*◌, ◌/◌, ◌%◌, ◌<◌, ◌≤◌}
use mathlib.Core.Path.{◌≡◌, sym, ap, ◌∙◌, subst}
use mathlib.Core.Bool.{true}
use mathlib.Core.Logic.{◌⊎◌, inl, inr}
use mathlib.Core.List.{List}
use native.Mathlib.Omega.{arith}
use borrow.Author.Tests.{eq-eqb}
use lib.ListN.{length, get_or, take, drop}
use lib.Seq.{length-take-le, get_or-take}
use Rattle.stripe.specs.declared.Shape.{Shape}
use Rattle.stripe.specs.Shape.{columns, stripe_length}
use Rattle.stripe.specs.Stripe.{ascending, Agree}
use Rattle.stripe.proofs.Places.{place_lt}
use Rattle.stripe.proofs.Ascending.{ascending_so}
use Rattle.lost.specs.Positions.{positions, list_refusal}
use Rattle.lost.proofs.Listed.{too_many, list_passes}
use Rattle.mending.specs.Mend.{mend_refusal, Restored, Mended}
use Rattle.writing.specs.Writing.{LaidOut}
use Rattle.number.specs.Number.{next_of}
use Rattle.record.specs.Reading.{shape_read, first_of, count_number, count_of, lost_listed, columns_start, columns_filled, read_refusal, stripe_refusal}
use Rattle.record.proofs.Accepted.{Accepted}
use Rattle.record.proofs.Listing.{positions-length}
use Rattle.record.proofs.Exactly.{columns_enough}
use Rattle.record.proofs.Refusals.{stripe_lawful}
use Rattle.writing.proofs.Inverse.{restored-length, shape_back, lost_back, bytes_back}
use Rattle.answer.specs.Answer.{pairs, blank_stripe, described, RecordMended}
use Rattle.answer.proofs.Pairs.{pairs-length, positions_pairs}
use Rattle.answer.proofs.Reading.{blank_long, read_says, read_shaped}
use Rattle.demands.specs.Calls.{read_table, RecordJudged}
use Rattle.demands.proofs.Tables.{read_table_lem}

-- ---- a record that reads well

module _ (bs : List ℕ) (a b : ℕ) (z : read_refusal bs a b ≡ 0) where
  says : Accepted bs
  says = read_says bs a b z

  described_long : length (described bs) ≡ stripe_length (shape_read bs)
  described_long =
      length-take-le (stripe_length (shape_read bs)) (columns_filled bs blank_stripe)
      (omega (
        arith,
        restored-length (shape_read bs).l 0 (columns (shape_read bs)) (lost_listed bs) (drop (columns_start bs) bs) blank_stripe
            (omega (arith, says.stripe_short, blank_long)) (omega (arith, columns_enough bs says)),
        says.stripe_short,
        blank_long,
      ))

  even : length (pairs (lost_listed bs)) % 2 ≡ 0
  even = omega (arith, pairs-length (lost_listed bs))

  half : length (pairs (lost_listed bs)) / 2 ≡ count_of bs
  half = omega (arith, pairs-length (lost_listed bs), positions-length bs (count_of bs) (next_of (count_number bs)))

  ascend : ascending 0 (columns (shape_read bs)) (positions (pairs (lost_listed bs))) ≡ true
  ascend =
      ap (ascending 0 (columns (shape_read bs))) (positions_pairs (lost_listed bs)) ∙ ascending_so 0 (columns (shape_read bs)) (lost_listed bs) says.ascending

  -- what mending refuses of it is the list's length
  list_alone : mend_refusal (shape_read bs) (length (described bs)) (pairs (lost_listed bs))
      ≡ list_refusal (columns (shape_read bs)) (shape_read bs).r (pairs (lost_listed bs))
  unfolding mend_refusal
  list_alone = simp (eq-eqb _ _ (read_shaped bs a b z), eq-eqb _ _ described_long)

  many_lost : (shape_read bs).r < count_of bs → mend_refusal (shape_read bs) (length (described bs)) (pairs (lost_listed bs)) ≡ 7
  many_lost h = list_alone ∙ too_many (columns (shape_read bs)) (shape_read bs).r (pairs (lost_listed bs)) even ascend (omega (arith, half))

  few_lost : count_of bs ≤ (shape_read bs).r → mend_refusal (shape_read bs) (length (described bs)) (pairs (lost_listed bs)) ≡ 0
  few_lost h = list_alone ∙ list_passes (columns (shape_read bs)) (shape_read bs).r (pairs (lost_listed bs)) even ascend (omega (arith, half))

  module _ (n : ℕ) (ys : List ℕ) (m : Mended (shape_read bs) (pairs (lost_listed bs)) (described bs) n ys) where
    mended_many : (shape_read bs).r < count_of bs → n ≡ 7
    mended_many h = let e = many_lost h in (m.refused (λ o. absurd (omega (arith, e)))).0 ∙ e

    abbrev Told : List ℕ → Type 0
    Told es =
        ((n ≡ 0) × Restored (shape_read bs) es (described bs) ys) ⊎ ((n ≡ 8) × ((zs : List ℕ) → Restored (shape_read bs) es (described bs) zs → ⊥))

    mended_few : count_of bs ≤ (shape_read bs).r → Told (lost_listed bs)
    mended_few h = subst Told (positions_pairs (lost_listed bs)) (go (m.judged (few_lost h)))
      where
        go : ((n ≡ 0) × Restored (shape_read bs) (positions (pairs (lost_listed bs))) (described bs) ys)
            ⊎ ((n ≡ 8) × ((ys ≡ described bs) × ((zs : List ℕ) → Restored (shape_read bs) (positions (pairs (lost_listed bs))) (described bs) zs → ⊥)))
            → Told (positions (pairs (lost_listed bs)))
        go (inl o) = inl o
        go (inr o) = inr (o.0, o.1.1)

-- the outcome of a record by the tables
pub record_judged : (bs : List ℕ) (a b n : ℕ) (ys : List ℕ) → RecordMended bs a b n ys → RecordJudged bs a b n ys
record_judged bs a b n ys m =
    record {
      unread = λ h. (m.unread (λ z. h (sym e ∙ z))).0 ∙ e;
      many = λ z h. mended_many bs a b (e ∙ z) n ys (m.read_whole (e ∙ z)) h;
      few = λ z h. mended_few bs a b (e ∙ z) n ys (m.read_whole (e ∙ z)) h;
    }
  where
    e : read_refusal bs a b ≡ first_of (read_table bs a b)
    e = read_table_lem bs a b

-- ---- what is laid out

module _ (bs : List ℕ) (w : LaidOut bs) where
  lawful : stripe_refusal w.shape ≡ 0
  lawful = sym (stripe_lawful w.shape w.allowed w.short)

  pub laid_shape : shape_read bs ≡ w.shape
  laid_shape = ap (λ (b : List ℕ). shape_read b) w.bytes ∙ sym (shape_back w.shape w.lost w.stripe lawful w.ascending w.exact)

  pub laid_lost : lost_listed bs ≡ w.lost
  laid_lost = ap (λ (b : List ℕ). lost_listed b) w.bytes ∙ lost_back w.shape w.lost w.stripe lawful w.ascending w.exact

  pub laid_described : Agree w.shape w.lost w.stripe (described bs)
  laid_described c p hc hp k =
      bytes_back w.shape w.lost w.stripe blank_stripe lawful w.ascending w.exact (omega (arith, w.short, blank_long)) c p hc hp k
      ∙ ap (λ (b : List ℕ). get_or (columns_filled b blank_stripe) (c * w.shape.l + p) 0) (sym w.bytes)
      ∙ sym (get_or-take (stripe_length w.shape) (columns_filled bs blank_stripe) (c * w.shape.l + p) 0 (place_lt hc hp))
      ∙ ap (λ (s : Shape). get_or (take (stripe_length s) (columns_filled bs blank_stripe)) (c * w.shape.l + p) 0) (sym laid_shape)
