-- Folding whole stripes from their parity alone, place by place.
use mathlib.Core.Path.{◌≡◌, refl, sym, ap, ap₂, ◌∙◌, subst}
use mathlib.Core.List.{List, [], ◌∷◌, ◌++◌, map}
use Prim.Native.Nat.{ℕ, zero, suc, ◌+◌, ◌*◌, ◌<◌, ◌≤◌}
use native.Mathlib.Nat.{zero-mul, suc-mul, add-mul, mul_assoc, not-suc-le-zero, le_of_suc-le-suc}
use native.Mathlib.Omega.{arith}
use lib.Dec.{lit<}
use lib.ListN.{length, get_or, take, drop, length-append, length-map}
use lib.Seq.{length-take-le, take_at, drop_at}
use Rattle.field.specs.Bytes.{Bytes}
use Rattle.field.specs.Row.{row}
use Rattle.field.proofs.Bytes.{take_bytes, append_bytes}
use Rattle.stripe.specs.Stripe.{across}
use Rattle.stripe.proofs.Places.{across-length, across-take}
use Rattle.points.specs.Points.{check_sum}
use Rattle.points.specs.Folding.{fold_parity, Stripe, Long, Sound, Each, joined, parities}
use Rattle.points.specs.Folding.{wide_data as wideBytes, wide_stripe as wideWord}
use Rattle.points.proofs.Joined.{joined_length, map_joined}
use Rattle.points.proofs.Folded.{each_at, fold_length, fold_bytes, wide_sum, wide_sound, sound_shows_at}
use Rattle.points.proofs.Folded.{two_sittings as sittings-at}
use Rattle.equations.specs.Whole.{sum_of, Codeword, parity, fold_columns, wide_data, wide_stripe}
use Rattle.equations.proofs.Columns.{columns-length, columns_bytes, columns_across, sum_of_parts, told_across, codeword_parity}
use Rattle.stripe.proofs.Codewords.{across_both}

-- ---- the fold at a place

pub fold_columns-length : (k r l : ℕ) (pss : List (List ℕ)) → length (fold_columns k r l pss) ≡ r * l
unfolding fold_columns
fold_columns-length k r l pss = columns-length r l _

pub fold_columns_bytes : (k r l : ℕ) (pss : List (List ℕ)) → Bytes (fold_columns k r l pss)
unfolding fold_columns
fold_columns_bytes k r l pss = columns_bytes r l _ (λ p. fold_bytes k r _)

pub fold_columns_across : (k r l : ℕ) (pss : List (List ℕ)) (p : ℕ) → p < l
    → across (fold_columns k r l pss) l p 0 r ≡ fold_parity k r (map (λ ps. across ps l p 0 r) pss)
unfolding fold_columns
fold_columns_across k r l pss p hp = columns_across r l _ p hp (fold_length k r _)

-- ---- joined data at a place

across_front : (ds rest : List ℕ) (l p k : ℕ) → p < l → length ds ≡ k * l → across (ds ++ rest) l p 0 k ≡ across ds l p 0 k
across_front ds rest l p k hp e =
    sym (across-take (ds ++ rest) l p k hp) ∙ ap (λ (xs : List ℕ). across xs l p 0 k) (take_at ds rest (k * l) e)

across_none : (xs : List ℕ) (l p : ℕ) → across xs l p 0 0 ≡ []
unfolding across
across_none xs l p = refl

pub joined_across : (k l p : ℕ) (dss : List (List ℕ)) → p < l → Each (λ ds. length ds ≡ k * l) dss
    → across (joined dss) l p 0 (length dss * k) ≡ joined (map (λ ds. across ds l p 0 k) dss)
unfolding joined Each
joined_across k l p [] hp h = ap (λ (n : ℕ). across [] l p 0 n) (zero-mul k) ∙ across_none [] l p
joined_across k l p (ds ∷ dss) hp h =
    ap (λ (n : ℕ). across (ds ++ joined dss) l p 0 n) (omega (arith, suc-mul (length dss) k))
    ∙ across_both (ds ++ joined dss) k (length dss * k) l p
    ∙ ap₂ ◌++◌ (across_front ds (joined dss) l p k hp h.0)
    (ap (λ (xs : List ℕ). across xs l p 0 (length dss * k)) (drop_at ds (joined dss) (k * l) h.0) ∙ joined_across k l p dss hp h.1)

-- ---- whole stripes at a place

module _ (k r l : ℕ) where
  -- each stripe's data bytes and parity bytes at place p
  abbrev at : ℕ → List (List ℕ) → List Stripe
  at p zss = map (λ zs. (across zs l p 0 k, across (drop (k * l) zs) l p 0 r)) zss

  at_long : (p : ℕ) (zss : List (List ℕ)) → Each (Long k) (at p zss)
  unfolding Each
  at_long p [] = tt
  at_long p (zs ∷ zss) = (across-length zs l p 0 k, at_long p zss)

  at_parities : (p : ℕ) (zss : List (List ℕ)) → map (λ ps. across ps l p 0 r) (map (λ zs. drop (k * l) zs) zss) ≡ parities (at p zss)
  unfolding parities
  at_parities p [] = refl
  at_parities p (zs ∷ zss) = ap (λ (pss : List (List ℕ)). across (drop (k * l) zs) l p 0 r ∷ pss) (at_parities p zss)

  abbrev Whole : List ℕ → Type 0
  Whole zs = length zs ≡ (k + r) * l

  data_long : (zss : List (List ℕ)) → Each Whole zss → Each (λ ds. length ds ≡ k * l) (map (λ zs. take (k * l) zs) zss)
  unfolding Each
  data_long [] h = tt
  data_long (zs ∷ zss) h = (length-take-le (k * l) zs (omega (arith, h.0, add-mul k r l)), data_long zss h.1)

  at_data : (p : ℕ) (zss : List (List ℕ)) → p < l → joined (map (λ ds. across ds l p 0 k) (map (λ zs. take (k * l) zs) zss)) ≡ wideBytes (at p zss)
  unfolding wideBytes joined
  at_data p [] hp = refl
  at_data p (zs ∷ zss) hp = ap₂ ◌++◌ (across-take zs l p k hp) (at_data p zss hp)

  wide_data-length : (zss : List (List ℕ)) → Each Whole zss → length (wide_data k l zss) ≡ length zss * k * l
  unfolding wide_data
  wide_data-length zss h =
      joined_length (k * l) (map (λ zs. take (k * l) zs) zss) (each_at (λ ds. length ds ≡ k * l) [] _ (data_long zss h))
      ∙ ap (λ (n : ℕ). n * (k * l)) (length-map zss (λ zs. take (k * l) zs)) ∙ sym (mul_assoc (length zss) k l)

  wide_data_across : (p : ℕ) (zss : List (List ℕ)) → p < l → Each Whole zss → across (wide_data k l zss) l p 0 (length zss * k) ≡ wideBytes (at p zss)
  unfolding wide_data
  wide_data_across p zss hp h =
      ap (λ (n : ℕ). across (joined (map (λ zs. take (k * l) zs) zss)) l p 0 (n * k)) (sym (length-map zss (λ zs. take (k * l) zs)))
      ∙ joined_across k l p (map (λ zs. take (k * l) zs) zss) hp (data_long zss h) ∙ at_data p zss hp

  -- the wide stripe at place p is the wide word of the stripes there
  wide_at : (p s : ℕ) (zss : List (List ℕ)) → p < l → Each Whole zss
      → sum_of (length zss * k) r l (wide_stripe k r l zss) p s ≡ check_sum s (wideWord k r (at p zss)).0 (wideWord k r (at p zss)).1
  unfolding wide_stripe wideWord
  wide_at p s zss hp h =
      sum_of_parts (length zss * k) r l (wide_data k l zss ++ folded) p s
      ∙ ap₂ (check_sum s)
      (across_front (wide_data k l zss) folded l p (length zss * k) hp (wide_data-length zss h) ∙ wide_data_across p zss hp h)
      (ap (λ (xs : List ℕ). across xs l p 0 r) (drop_at (wide_data k l zss) folded (length zss * k * l) (wide_data-length zss h))
      ∙ fold_columns_across k r l (map (λ zs. drop (k * l) zs) zss) p hp ∙ ap (fold_parity k r) (at_parities p zss))
    where
      folded : List ℕ
      folded = fold_columns k r l (map (λ zs. drop (k * l) zs) zss)

  at_sums : (p s : ℕ) (zss : List (List ℕ)) → map (λ z. check_sum s z.0 z.1) (at p zss) ≡ map (λ zs. sum_of k r l zs p s) zss
  at_sums p s [] = refl
  at_sums p s (zs ∷ zss) = ap₂ (λ (x : ℕ) (xs : List ℕ). x ∷ xs) (sym (sum_of_parts k r l zs p s)) (at_sums p s zss)

  at_one : (p : ℕ) (zss : List (List ℕ)) (i : ℕ) → i < length zss
      → get_or (at p zss) i ([], []) ≡ (across (get_or zss i []) l p 0 k, across (drop (k * l) (get_or zss i [])) l p 0 r)
  at_one p [] i h = absurd (not-suc-le-zero h)
  at_one p (zs ∷ zss) zero h = refl
  at_one p (zs ∷ zss) (suc i) h = at_one p zss i (le_of_suc-le-suc h)

  at_sound : (p : ℕ) (zs : List ℕ) → Codeword k r l zs → p < l → Sound r (across zs l p 0 k, across (drop (k * l) zs) l p 0 r)
  at_sound p zs w hp s hs = sym (sum_of_parts k r l zs p s) ∙ w.zero_sums p s hp hs

  all_sound : (p : ℕ) (zss : List (List ℕ)) → p < l → Each (Codeword k r l) zss → Each (Sound r) (at p zss)
  unfolding Each
  all_sound p [] hp h = tt
  all_sound p (zs ∷ zss) hp h = (at_sound p zs h.0 hp, all_sound p zss hp h.1)

  all_whole : (zss : List (List ℕ)) → Each (Codeword k r l) zss → Each Whole zss
  unfolding Each
  all_whole [] h = tt
  all_whole (zs ∷ zss) h = (h.0.long, all_whole zss h.1)

  all_bytes : (zss : List (List ℕ)) → Each (Codeword k r l) zss → Each Bytes zss
  unfolding Each
  all_bytes [] h = tt
  all_bytes (zs ∷ zss) h = (h.0.bytes, all_bytes zss h.1)

  data_bytes : (zss : List (List ℕ)) → Each Bytes zss → Bytes (joined (map (λ zs. take (k * l) zs) zss))
  unfolding Each joined
  data_bytes [] h v = lit< tt
  data_bytes (zs ∷ zss) h v = append_bytes (take (k * l) zs) _ (take_bytes (k * l) zs h.0) (data_bytes zss h.1) v

  pub wide_bytes : (zss : List (List ℕ)) → Each Bytes zss → Bytes (wide_stripe k r l zss)
  unfolding wide_stripe wide_data
  wide_bytes zss h = append_bytes (joined (map (λ zs. take (k * l) zs) zss)) _ (data_bytes zss h) (fold_columns_bytes k r l _)

  pub wide_length : (zss : List (List ℕ)) → Each Whole zss → length (wide_stripe k r l zss) ≡ (length zss * k + r) * l
  unfolding wide_stripe
  wide_length zss h =
      length-append (wide_data k l zss) _ ∙ ap₂ ◌+◌ (wide_data-length zss h) (fold_columns-length k r l _) ∙ sym (add-mul (length zss * k) r l)

  module _ (r-most : r ≤ 255) where
    -- for all bytes: sum s of the wide stripe at a place, from that of each stripe
    pub wide_sums : (zss : List (List ℕ)) → Each Whole zss → (p s : ℕ) → p < l → s < r
        → sum_of (length zss * k) r l (wide_stripe k r l zss) p s ≡ row (k * s) (map (λ zs. sum_of k r l zs p s) zss)
    wide_sums zss h p s hp hs =
        wide_at p s zss hp h ∙ wide_sum k r (at p zss) r-most (at_long p zss) s hs ∙ ap (row (k * s)) (at_sums p s zss)

    -- the wide stripe of codewords is a codeword
    pub wide_codeword : (zss : List (List ℕ)) → Each (Codeword k r l) zss → Codeword (length zss * k) r l (wide_stripe k r l zss)
    wide_codeword zss h =
        record {
          bytes = wide_bytes zss (all_bytes zss h);
          long = wide_length zss (all_whole zss h);
          zero_sums = λ p s hp hs. wide_at p s zss hp (all_whole zss h) ∙ wide_sound k r (at p zss) r-most (at_long p zss) (all_sound p zss hp h) s hs;
        }

    -- the fold is the parity of all data
    pub fold_exact : (zss : List (List ℕ)) → Each (Codeword k r l) zss
        → fold_columns k r l (map (λ zs. drop (k * l) zs) zss) ≡ parity (length zss * k) r l (wide_data k l zss)
    unfolding wide_stripe
    fold_exact zss h =
        sym (drop_at (wide_data k l zss) folded (length zss * k * l) (wide_data-length zss (all_whole zss h)))
        ∙ (codeword_parity (length zss * k) r l r-most (wide_stripe k r l zss) (wide_bytes zss (all_bytes zss h)) (wide_length zss (all_whole zss h))).0
        (wide_codeword zss h)
        ∙ ap (parity (length zss * k) r l) (take_at (wide_data k l zss) folded (length zss * k * l) (wide_data-length zss (all_whole zss h)))
      where
        folded : List ℕ
        folded = fold_columns k r l (map (λ zs. drop (k * l) zs) zss)

    -- a stale stripe among codewords shows: the wide stripe is no codeword
    pub stale_shows : (zss : List (List ℕ)) (i : ℕ) → i < length zss → Each Bytes zss → Each Whole zss
        → ((j : ℕ) → j < length zss → (j ≡ i → ⊥) → Codeword k r l (get_or zss j []))
        → (Codeword k r l (get_or zss i []) → ⊥) → Codeword (length zss * k) r l (wide_stripe k r l zss) → ⊥
    stale_shows zss i inside b h others stale wide =
        stale
        (record {
          bytes = each_at Bytes [] zss b i inside;
          long = each_at Whole [] zss h i inside;
          zero_sums = λ p s hp hs.
              sum_of_parts k r l (get_or zss i []) p s
              ∙ subst (Sound r) (at_one p zss i inside)
              (sound_shows_at k r (at p zss) i (subst (λ (n : ℕ). i < n) (sym (length-map zss _)) inside) r-most (at_long p zss)
              (λ j m n.
              let m' : j < length zss = subst (λ (x : ℕ). j < x) (length-map zss _) m in
              subst (Sound r) (sym (at_one p zss j m')) (at_sound p (get_or zss j []) (others j m' n) hp))
              (λ u hu. sym (wide_at p u zss hp h) ∙ wide.zero_sums p u hp hu))
              s hs;
        })

-- ---- two sittings

groups : (f : List ℕ → List ℕ) (n : ℕ) (psss : List (List (List ℕ))) → Each (λ pss. length pss ≡ n) psss → Each (λ pss. length pss ≡ n) (map (map f) psss)
unfolding Each
groups f n [] w = tt
groups f n (pss ∷ psss) w = (length-map pss f ∙ w.0, groups f n psss w.1)

-- n stripes of each group folded, then the groups: for all bytes this is the fold of all stripes at once
pub two_sittings : (k r l n : ℕ) (psss : List (List (List ℕ))) → r ≤ 255 → Each (λ pss. length pss ≡ n) psss
    → fold_columns (n * k) r l (map (fold_columns k r l) psss) ≡ fold_columns k r l (joined psss)
two_sittings k r l n psss h e =
    told_across r l _ _ (fold_columns-length (n * k) r l _) (fold_columns-length k r l _)
    (λ p hp.
    fold_columns_across (n * k) r l (map (fold_columns k r l) psss) p hp
    ∙ ap (fold_parity (n * k) r) (inner p hp psss)
    ∙ sittings-at k r n (map (map (λ ps. across ps l p 0 r)) psss) h (groups (λ ps. across ps l p 0 r) n psss e)
    ∙ ap (fold_parity k r) (sym (map_joined (λ ps. across ps l p 0 r) psss))
    ∙ sym (fold_columns_across k r l (joined psss) p hp))
  where
    inner : (p : ℕ) → p < l → (gss : List (List (List ℕ)))
        → map (λ ps. across ps l p 0 r) (map (fold_columns k r l) gss) ≡ map (fold_parity k r) (map (map (λ ps. across ps l p 0 r)) gss)
    inner p hp [] = refl
    inner p hp (pss ∷ gss) = ap₂ (λ (x : List ℕ) (y : List (List ℕ)). x ∷ y) (fold_columns_across k r l pss p hp) (inner p hp gss)
