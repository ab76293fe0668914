-- The stripe mended at every place: the only codeword that can agree with the survivors, and one exactly when the sums that were not solved
-- by agree; with r columns lost always.
use mathlib.Core.Path.{◌≡◌, refl, sym, ap, ◌∙◌, subst}
use mathlib.Core.Logic.{◌↔◌}
use mathlib.Core.List.{List}
use Prim.Native.Nat.{ℕ, ◌+◌, ◌*◌, ◌<◌, ◌≤◌}
use native.Mathlib.Omega.{arith}
use lib.ListN.{length}
use Rattle.field.specs.Bytes.{Bytes}
use Rattle.stripe.specs.Stripe.{across, Ascending}
use Rattle.stripe.proofs.Places.{across-length, across_first, across_bytes}
use Rattle.points.specs.Points.{points, sum_at}
use Rattle.points.specs.Mending.{Word, Positions, AgreeOff, Consistent, mended}
use Rattle.points.proofs.Distinct.{points-length, points_bytes, points_apart}
use Rattle.points.proofs.Mended as over
use Rattle.points.proofs.Determined as one
use Rattle.equations.specs.Whole.{sum_of, Codeword, Agree, stripe_mended, Mendable}
use Rattle.equations.proofs.Lost.{ascending_positions, among_kept, kept_among}
use Rattle.equations.proofs.Columns.{columns-length, columns_bytes, columns_across, told_across}

module _ (k r l : ℕ) (fits : k + r ≤ 255) (es : List ℕ) (asc : Ascending 0 (k + r) es) where
  lost : Positions (k + r) es
  lost = ascending_positions 0 (k + r) es asc

  lost_points : Positions (length (points k r)) es
  lost_points = subst (λ (n : ℕ). Positions n es) (sym (points-length k r)) lost

  -- the word at place p
  abbrev word : List ℕ → ℕ → List ℕ
  word xs p = across xs l p 0 (k + r)

  word_long : (xs : List ℕ) (p : ℕ) → length (word xs p) ≡ length (points k r)
  word_long xs p = across-length xs l p 0 (k + r) ∙ sym (points-length k r)

  mended_long : (xs : List ℕ) (p : ℕ) → length (mended (points k r) es (word xs p)) ≡ k + r
  mended_long xs p =
      over.mended-length (points k r) (points_bytes k r) (points_apart k r fits) es lost_points (word xs p) (word_long xs p) ∙ points-length k r

  mended_across : (xs : List ℕ) (p : ℕ) → p < l → word (stripe_mended k r l es xs) p ≡ mended (points k r) es (word xs p)
  unfolding stripe_mended
  mended_across xs p hp = columns_across (k + r) l _ p hp (mended_long xs p)

  agree_words : (xs ys : List ℕ) → Agree (k + r) l es xs ys → (p : ℕ) → p < l → AgreeOff (k + r) es (word xs p) (word ys p)
  agree_words xs ys h p hp c hc kept =
      across_first xs l p (k + r) c hc ∙ h c p hc hp (kept_among c es kept) ∙ sym (across_first ys l p (k + r) c hc)

  words_agree : (xs ys : List ℕ) → ((p : ℕ) → p < l → AgreeOff (k + r) es (word xs p) (word ys p)) → Agree (k + r) l es xs ys
  words_agree xs ys h c p hc hp m =
      sym (across_first xs l p (k + r) c hc) ∙ h p hp c hc (among_kept c es m) ∙ across_first ys l p (k + r) c hc

  module _ (xs : List ℕ) (b : Bytes xs) where
    word_bytes : (p : ℕ) → Bytes (word xs p)
    word_bytes p = across_bytes xs l p 0 (k + r) b

    pub mended-length : length (stripe_mended k r l es xs) ≡ (k + r) * l
    unfolding stripe_mended
    mended-length = columns-length (k + r) l _

    pub mended_bytes : Bytes (stripe_mended k r l es xs)
    unfolding stripe_mended
    mended_bytes =
        columns_bytes (k + r) l _
        (λ p. over.mended_bytes (points k r) (points_bytes k r) (points_apart k r fits) es lost_points (word xs p) (word_long xs p) (word_bytes p))

    -- what survives stays
    pub mended_agrees : Agree (k + r) l es xs (stripe_mended k r l es xs)
    mended_agrees =
        words_agree xs (stripe_mended k r l es xs)
        (λ p hp.
        subst (λ (ys : List ℕ). AgreeOff (k + r) es (word xs p) ys) (sym (mended_across xs p hp))
        (subst (λ (n : ℕ). AgreeOff n es (word xs p) (mended (points k r) es (word xs p))) (points-length k r)
        (over.mended_agrees (points k r) (points_bytes k r) (points_apart k r fits) es lost_points (word xs p) (word_long xs p))))

    -- it is a codeword exactly when the sums that were not solved by agree
    pub mended_codeword : Codeword k r l (stripe_mended k r l es xs) ↔ Mendable k r l es xs
    unfolding sum_of
    mended_codeword = (
      λ w p hp s few m.
          (place p).0
          (record {
            bytes = over.mended_bytes (points k r) (points_bytes k r) (points_apart k r fits) es lost_points (word xs p) (word_long xs p) (word_bytes p);
            long = over.mended-length (points k r) (points_bytes k r) (points_apart k r fits) es lost_points (word xs p) (word_long xs p);
            zero_sums = λ u hu. ap (λ (ys : List ℕ). sum_at (points k r) ys u) (sym (mended_across xs p hp)) ∙ w.zero_sums p u hp hu;
          })
          s few m,
      λ c.
          record {
            bytes = mended_bytes;
            long = mended-length;
            zero_sums = λ p s hp hs. ap (λ (ys : List ℕ). sum_at (points k r) ys s) (mended_across xs p hp) ∙ ((place p).1 (c p hp)).zero_sums s hs;
          },
    )
      where
        place : (p : ℕ) → Word (points k r) r (mended (points k r) es (across xs l p 0 (k + r))) ↔ Consistent (points k r) r es (across xs l p 0 (k + r))
        place p = over.mended_word_lem (points k r) (points_bytes k r) (points_apart k r fits) es lost_points r (word xs p) (word_bytes p) (word_long xs p)

    -- and with r columns lost always
    pub mended_full : length es ≡ r → Codeword k r l (stripe_mended k r l es xs)
    mended_full full = mended_codeword.1 (λ p hp s few m. absurd (none s few m))
      where
        none : (s : ℕ) → length es ≤ s → s < r → ⊥
        none s few m = omega arith

  word_of : (ys : List ℕ) → Codeword k r l ys → (p : ℕ) → p < l → Word (points k r) r (word ys p)
  unfolding sum_of
  word_of ys w p hp =
      record { bytes = across_bytes ys l p 0 (k + r) w.bytes; long = word_long ys p; zero_sums = λ s hs. w.zero_sums p s hp hs }

  module _ (few : length es ≤ r) where
    -- a codeword that agrees with the survivors is the mended stripe
    pub mended_only : (xs ys : List ℕ) → Bytes xs → Codeword k r l ys → Agree (k + r) l es xs ys → ys ≡ stripe_mended k r l es xs
    mended_only xs ys b w agree = told_across (k + r) l ys _ w.long (mended-length xs b) same
      where
        same : (p : ℕ) → p < l → across ys l p 0 (k + r) ≡ across (stripe_mended k r l es xs) l p 0 (k + r)
        same p hp =
            one.mended_only k r fits es lost few (across xs l p 0 (k + r)) (across ys l p 0 (k + r)) (across_bytes xs l p 0 (k + r) b)
            (across-length xs l p 0 (k + r)) (word_of ys w p hp) (agree_words xs ys agree p hp)
            ∙ sym (mended_across xs p hp)

    -- any k columns determine a codeword
    pub determined : (xs ys : List ℕ) → Codeword k r l xs → Codeword k r l ys → Agree (k + r) l es xs ys → xs ≡ ys
    determined xs ys w z agree = mended_only xs xs w.bytes w (λ c p hc hp m. refl) ∙ sym (mended_only xs ys w.bytes z agree)

    -- a codeword agrees with the survivors exactly when the sums that were not solved by agree
    pub mendable : (xs : List ℕ) → Bytes xs → ((ys : List ℕ) × (Codeword k r l ys × Agree (k + r) l es xs ys)) ↔ Mendable k r l es xs
    mendable xs b = (
      λ q. (mended_codeword xs b).0 (subst (Codeword k r l) (mended_only xs q.0 b q.1.0 q.1.1) q.1.0),
      λ c. (stripe_mended k r l es xs, ((mended_codeword xs b).1 c, mended_agrees xs b)),
    )

  -- any k columns are those of a codeword
  pub completed : length es ≡ r → (xs : List ℕ) → Bytes xs → (ys : List ℕ) × (Codeword k r l ys × Agree (k + r) l es xs ys)
  completed full xs b = (stripe_mended k r l es xs, (mended_full xs b full, mended_agrees xs b))

  -- what the lost columns held does not matter
  pub mended_same : (xs ys : List ℕ) → Bytes xs → Bytes ys → Agree (k + r) l es xs ys → stripe_mended k r l es xs ≡ stripe_mended k r l es ys
  mended_same xs ys bx by agree = told_across (k + r) l _ _ (mended-length xs bx) (mended-length ys by) same
    where
      same : (p : ℕ) → p < l → across (stripe_mended k r l es xs) l p 0 (k + r) ≡ across (stripe_mended k r l es ys) l p 0 (k + r)
      same p hp =
          mended_across xs p hp
          ∙ over.mended_same (points k r) (points_bytes k r) (points_apart k r fits) es lost_points (word xs p) (word ys p) (word_bytes xs bx p)
          (word_bytes ys by p) (word_long xs p) (word_long ys p)
          (subst (λ (n : ℕ). AgreeOff n es (word xs p) (word ys p)) (sym (points-length k r)) (agree_words xs ys agree p hp))
          ∙ sym (mended_across ys p hp)
