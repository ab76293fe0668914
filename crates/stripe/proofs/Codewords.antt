-- Codewords by their bytes. By rows a codeword's parity is that of its data; by check equations that says the same as all sums being zero.
use mathlib.Core.Path.{◌≡◌, refl, sym, ap, ap₂, ◌∙◌, subst}
use mathlib.Core.Bool.{Bool, true, false}
use mathlib.Core.List.{List, ◌∷◌, ◌++◌}
use Prim.Native.Nat.{ℕ, zero, suc, ◌+◌, ◌*◌, ◌<◌, ◌≤◌}
use native.Mathlib.Nat.{zero-add, suc-add}
use native.Mathlib.Omega.{arith}
use lib.ListN.{length, get_or, drop, length-append, take-append-drop}
use lib.Seq.{ext_get_or, get_or-drop, take_at, drop_at}
use Rattle.field.specs.Bytes.{Bytes}
use Rattle.field.proofs.Bytes.{append_bytes, drop_bytes}
use Rattle.points.specs.Points.{points, sum_at, check_sum as wordSum, parity_of as solvedParity}
use Rattle.points.proofs.Parity.{parity-length as solved-length, parity_checked, parity_only, word_sum}
use Rattle.stripe.specs.declared.Shape.{Shape}
use Rattle.stripe.specs.Shape.{data_length, stripe_length}
use Rattle.stripe.specs.Stripe.{across, by_points, check_sum, parity_byte, parity, data_of, parity_of, Codeword}
use Rattle.stripe.proofs.Allowed.{by_points_many}
use Rattle.stripe.proofs.Places.{across-length, across_first, across_bytes, across-take, parity-length, parity_at, parity_bytes, parity_exact}
use Rattle.stripe.proofs.Places.{parity_by_points, parity_of_at, parity_of-length}

-- ---- the bytes at a place: those of the data columns, then those of the parity columns

across_parts : (xs : List ℕ) (l p o k r : ℕ) → across xs l p o (k + r) ≡ across xs l p o k ++ across xs l p (o + k * l) r
unfolding across
across_parts xs l p o zero r = ap₂ (λ (n m : ℕ). across xs l p n m) (omega arith) (zero-add r)
across_parts xs l p o (suc k) r =
    ap (λ (m : ℕ). across xs l p o m) (suc-add k r)
    ∙ ap (λ (ys : List ℕ). get_or xs (o + p) 0 ∷ ys)
    (across_parts xs l p (o + l) k r ∙ ap (λ (n : ℕ). across xs l p (o + l) k ++ across xs l p n r) (omega arith))

across-drop : (xs : List ℕ) (l p d o m : ℕ) → across xs l p (d + o) m ≡ across (drop d xs) l p o m
unfolding across
across-drop xs l p d o zero = refl
across-drop xs l p d o (suc m) =
    ap₂ ◌∷◌ (ap (λ (n : ℕ). get_or xs n 0) (omega arith) ∙ sym (get_or-drop d xs (o + p) 0))
    (ap (λ (n : ℕ). across xs l p n m) (omega arith) ∙ across-drop xs l p d (o + l) m)

pub across_both : (xs : List ℕ) (k r l p : ℕ) → across xs l p 0 (k + r) ≡ across xs l p 0 k ++ across (drop (k * l) xs) l p 0 r
across_both xs k r l p =
    across_parts xs l p 0 k r ∙ ap (λ (ys : List ℕ). across xs l p 0 k ++ ys) (ap (λ (n : ℕ). across xs l p n r) (omega arith) ∙ across-drop xs l p (k * l) 0 r)

-- so a sum at a place is that of the data bytes and of the parity bytes there
pub sum_of_parts : (s : Shape) (xs : List ℕ) (p u : ℕ)
    → check_sum s xs p u ≡ wordSum u (across xs s.l p 0 s.k) (across (parity_of s xs) s.l p 0 s.r)
unfolding check_sum
sum_of_parts s xs p u =
    ap (λ (ys : List ℕ). sum_at (points s.k s.r) ys u) (across_both xs s.k s.r s.l p)
    ∙ word_sum s.k s.r (across xs s.l p 0 s.k) (across (parity_of s xs) s.l p 0 s.r) u (across-length xs s.l p 0 s.k)
    (across-length (parity_of s xs) s.l p 0 s.r)

-- ---- by check equations

module _ (s : Shape) (points_here : by_points s ≡ true) where
  few : s.r ≤ 255
  few = let h = (by_points_many s points_here).1 in omega arith

  -- the parity bytes at a place of the parity of data
  parity_word : (ds : List ℕ) (p : ℕ) → p < s.l → across (parity s ds) s.l p 0 s.r ≡ solvedParity s.r (across ds s.l p 0 s.k)
  parity_word ds p hp =
      ext_get_or 0 _ _ (across-length (parity s ds) s.l p 0 s.r ∙ sym (solved-length s.r _))
      (λ i m.
      let hi : i < s.r = subst (λ (n : ℕ). i < n) (across-length (parity s ds) s.l p 0 s.r) m in
      across_first (parity s ds) s.l p s.r i hi ∙ parity_at s ds i p hi hp ∙ parity_by_points s ds i p points_here)

  -- parity that is exact makes the sums zero
  exact_sums : (xs : List ℕ) → parity_of s xs ≡ parity s (data_of s xs) → (p u : ℕ) → p < s.l → u < s.r → check_sum s xs p u ≡ 0
  exact_sums xs e p u hp hu =
      sum_of_parts s xs p u
      ∙ ap (wordSum u (across xs s.l p 0 s.k))
      (ap (λ (ps : List ℕ). across ps s.l p 0 s.r) e ∙ parity_word (data_of s xs) p hp
      ∙ ap (solvedParity s.r) (across-take xs s.l p s.k hp))
      ∙ parity_checked s.r (across xs s.l p 0 s.k) few u hu

  -- and sums that are zero say that it is exact
  sums_exact : (xs : List ℕ) → Bytes xs → length xs ≡ stripe_length s → ((p u : ℕ) → p < s.l → u < s.r → check_sum s xs p u ≡ 0)
      → parity_of s xs ≡ parity s (data_of s xs)
  sums_exact xs b long zeros = parity_exact s (data_of s xs) (parity_of s xs) (parity_of-length s xs long) at
    where
      word : (p : ℕ) → p < s.l → across (parity_of s xs) s.l p 0 s.r ≡ solvedParity s.r (across xs s.l p 0 s.k)
      word p hp =
          parity_only s.r (across xs s.l p 0 s.k) (across (parity_of s xs) s.l p 0 s.r) few
          (across_bytes (parity_of s xs) s.l p 0 s.r (drop_bytes (data_length s) xs b)) (across-length (parity_of s xs) s.l p 0 s.r)
          (λ u hu. sym (sum_of_parts s xs p u) ∙ zeros p u hp hu)

      at : (i p : ℕ) → i < s.r → p < s.l → get_or (parity_of s xs) (i * s.l + p) 0 ≡ parity_byte s (data_of s xs) i p
      at i p hi hp =
          sym (across_first (parity_of s xs) s.l p s.r i hi)
          ∙ ap (λ (ps : List ℕ). get_or ps i 0) (word p hp ∙ ap (solvedParity s.r) (sym (across-take xs s.l p s.k hp)))
          ∙ sym (parity_by_points s (data_of s xs) i p points_here)

-- ---- any codeword

-- each parity byte is what the data say
abbrev pub Checks : Shape → List ℕ → Type 0
Checks s xs = (i p : ℕ) → i < s.r → p < s.l → get_or xs ((s.k + i) * s.l + p) 0 ≡ parity_byte s (data_of s xs) i p

-- what a codeword is made of, and what it says of its parity: all else about codewords comes from these two
pub codeword_of : (s : Shape) (xs : List ℕ) → Bytes xs → length xs ≡ stripe_length s → parity_of s xs ≡ parity s (data_of s xs) → Codeword s xs
codeword_of s xs b e h = record { bytes = b; long = e; exact = λ r. h; sums = λ r. exact_sums s r xs h }

pub codeword_parity : (s : Shape) (xs : List ℕ) → Codeword s xs → parity_of s xs ≡ parity s (data_of s xs)
codeword_parity s xs w = go (by_points s) refl
  where
    go : (b : Bool) → by_points s ≡ b → parity_of s xs ≡ parity s (data_of s xs)
    go false e = w.exact e
    go true e = sums_exact s e xs w.bytes w.long (w.sums e)

pub codeword_checks : (s : Shape) (xs : List ℕ) → Codeword s xs → Checks s xs
codeword_checks s xs w i p hi hp =
    sym (parity_of_at s xs i p)
    ∙ ap (λ (ps : List ℕ). get_or ps (i * s.l + p) 0) (codeword_parity s xs w)
    ∙ parity_at s (data_of s xs) i p hi hp

pub checks_codeword : (s : Shape) (xs : List ℕ) → Bytes xs → length xs ≡ stripe_length s → Checks s xs → Codeword s xs
checks_codeword s xs b e h =
    codeword_of s xs b e
    (parity_exact s (data_of s xs) (parity_of s xs) (parity_of-length s xs e) (λ i p hi hp. parity_of_at s xs i p ∙ h i p hi hp))

-- ---- data followed by their parity

pub encoded_data : (s : Shape) (ds ps : List ℕ) → length ds ≡ data_length s → data_of s (ds ++ ps) ≡ ds
encoded_data s ds ps e = take_at ds ps (data_length s) e

pub encoded_parity : (s : Shape) (ds ps : List ℕ) → length ds ≡ data_length s → parity_of s (ds ++ ps) ≡ ps
encoded_parity s ds ps e = drop_at ds ps (data_length s) e

pub joined_codeword : (s : Shape) (ds ps : List ℕ) → Bytes ds → Bytes ps → length ds ≡ data_length s → ps ≡ parity s ds → Codeword s (ds ++ ps)
joined_codeword s ds ps bd bp e h =
    codeword_of s (ds ++ ps) (append_bytes ds ps bd bp)
    (length-append ds ps ∙ ap₂ ◌+◌ e (ap length h ∙ parity-length s ds) ∙ omega arith)
    (encoded_parity s ds ps e ∙ h ∙ ap (parity s) (sym (encoded_data s ds ps e)))

pub codeword_joined : (s : Shape) (ds ps : List ℕ) → length ds ≡ data_length s → Codeword s (ds ++ ps) → ps ≡ parity s ds
codeword_joined s ds ps e w =
    sym (encoded_parity s ds ps e) ∙ codeword_parity s (ds ++ ps) w ∙ ap (parity s) (encoded_data s ds ps e)

pub encoded_codeword : (s : Shape) (ds : List ℕ) → Bytes ds → length ds ≡ data_length s → Codeword s (ds ++ parity s ds)
encoded_codeword s ds b e = joined_codeword s ds (parity s ds) b (parity_bytes s ds) e refl

-- a codeword is its data followed by their parity
pub codeword_encoded : (s : Shape) (xs : List ℕ) → Codeword s xs → xs ≡ data_of s xs ++ parity s (data_of s xs)
codeword_encoded s xs w =
    sym (take-append-drop (data_length s) xs) ∙ ap (λ (ps : List ℕ). data_of s xs ++ ps) (codeword_parity s xs w)
