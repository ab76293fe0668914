-- Two lists compared: what a loop has left to compare is the two lists from place q on. Two lists of one length agree and are equal, or
-- their first difference is within them.
use Prim.Native.Nat.{ℕ, zero, suc, ◌+◌, ◌<◌, ◌≤◌, min}
use mathlib.Core.Path.{◌≡◌, refl, sym, ap, ◌∙◌}
use mathlib.Core.Bool.{Bool, true, false, cond, not, true≢false, ◌&&◌, and_assoc, and-true}
use mathlib.Core.List.{List, [], ◌∷◌}
use mathlib.Core.Logic.{◌⊎◌, inl, inr}
use native.Mathlib.Nat.{suc_inj, suc-ne-zero, le_of_suc-le-suc, not-suc-le-zero}
use native.Mathlib.Omega.{arith}
use lib.Bits.{bit_or, bit_xor, xor_self}
use lib.Dec.{eqb, ltb}
use lib.ListN.{length, get_or}
use Rattle.std.specs.List.{fold, zip, position, prefix_len}
use Rattle.std.specs.Option.{unwrap_or}
use Rattle.std.proofs.Common.{Some, None}
use Rattle.std.proofs.lemmas.List.Sums.{prefix_len-le-length}
use Rattle.std.proofs.lemmas.Slice.Zip.{length-zip}
use borrow.Author.Tests.{eqb-true, eqb-false, eq-eqb, ne_eqb, ltb-false}
use Rattle.field.specs.Field.{◌⊕◌}
use Rattle.field.proofs.Powers.{sum_zero}
use Rattle.field.proofs.Cases.{below_or_from, and_left, and_right}
use Rattle.lanes.proofs.Zero.{or_eqb}
use Rattle.checking.specs.Compare.{agree, first_difference}

-- ---- bytes that are equal

xor_zero : (x y : ℕ) → bit_xor x y ≡ 0 → x ≡ y
unfolding ◌⊕◌
xor_zero x y e = sum_zero x y e

xor_eqb : (x y : ℕ) → eqb (bit_xor x y) 0 ≡ eqb x y
xor_eqb x y = by (eqb x y) refl
  where
    by : (b : Bool) → eqb x y ≡ b → eqb (bit_xor x y) 0 ≡ b
    by true e = eq-eqb (bit_xor x y) 0 (ap (λ (z : ℕ). bit_xor x z) (sym (eqb-true x y e)) ∙ xor_self x)
    by false e = ne_eqb (bit_xor x y) 0 (λ z. true≢false (sym (eq-eqb x y (xor_zero x y z)) ∙ e))

-- ---- whether they agree

-- the bits in which they differ, gathered over all places, are none exactly where they agree
pub fold_agree : (xs ys : List ℕ) (z : ℕ) → eqb (fold (λ z p. bit_or z (bit_xor p.0 p.1)) z (zip xs ys)) 0 ≡ eqb z 0 && agree xs ys
unfolding agree
fold_agree [] ys z = sym (and-true (eqb z 0))
fold_agree (x ∷ xs) [] z = sym (and-true (eqb z 0))
fold_agree (x ∷ xs) (y ∷ ys) z =
    fold_agree xs ys (bit_or z (bit_xor x y))
    ∙ ap (λ (b : Bool). b && agree xs ys) (or_eqb z (bit_xor x y) ∙ ap (λ (b : Bool). eqb z 0 && b) (xor_eqb x y))
    ∙ and_assoc (eqb z 0) (eqb x y) (agree xs ys)

-- ---- the first difference

-- the places before the first that differs, or to the end of the shorter
first_prefix : (xs ys : List ℕ) → prefix_len (λ p. not (not (eqb p.0 p.1))) (zip xs ys) ≡ first_difference xs ys
unfolding first_difference
first_prefix [] ys = refl
first_prefix (x ∷ xs) [] = refl
first_prefix (x ∷ xs) (y ∷ ys) = ap (λ (n : ℕ). cond (not (not (eqb x y))) (1 + n) 0) (first_prefix xs ys) ∙ step (eqb x y) (first_difference xs ys)
  where
    step : (b : Bool) (f : ℕ) → cond (not (not b)) (1 + f) 0 ≡ cond b (suc f) 0
    step true f = omega arith
    step false f = refl

pub first_position : (xs ys : List ℕ) → unwrap_or (position (λ p. not (eqb p.0 p.1)) (zip xs ys)) (min (length xs) (length ys)) ≡ first_difference xs ys
first_position xs ys =
    found _ (length (zip xs ys)) _ (prefix_len-le-length (λ p. not (not (eqb p.0 p.1))) (zip xs ys)) (length-zip xs ys) ∙ first_prefix xs ys
  where
    found : (n m k : ℕ) → n ≤ m → m ≡ k → unwrap_or (cond (ltb n m) (Some n) None) k ≡ n
    found n m k h e = go (ltb n m) refl
      where
        go : (b : Bool) → ltb n m ≡ b → unwrap_or (cond b (Some n) None) k ≡ n
        go true l = refl
        go false l = omega (arith, ltb-false n m l)

-- ---- two lists that agree, or do not

pub agree_equal : (xs ys : List ℕ) → length xs ≡ length ys → agree xs ys ≡ true → xs ≡ ys
unfolding agree
agree_equal [] [] e h = refl
agree_equal [] (y ∷ ys) e h = absurd (suc-ne-zero _ (sym e))
agree_equal (x ∷ xs) [] e h = absurd (suc-ne-zero _ e)
agree_equal (x ∷ xs) (y ∷ ys) e h =
    ap (λ (z : ℕ). z ∷ xs) (eqb-true x y (and_left (eqb x y) (agree xs ys) h))
    ∙ ap (λ (zs : List ℕ). y ∷ zs) (agree_equal xs ys (suc_inj e) (and_right (eqb x y) (agree xs ys) h))

pub first_self : (xs : List ℕ) → first_difference xs xs ≡ length xs
unfolding first_difference
first_self [] = refl
first_self (x ∷ xs) = ap (λ (b : Bool). cond b (suc (first_difference xs xs)) 0) (eq-eqb x x refl) ∙ ap suc (first_self xs)

first_step : (x y f n : ℕ) (b : Bool) → eqb x y && b ≡ false → (b ≡ false → f < n) → cond (eqb x y) (suc f) 0 < suc n
first_step x y f n b e h = go (eqb x y) e
  where
    go : (c : Bool) → c && b ≡ false → cond c (suc f) 0 < suc n
    go true e = omega (arith, h e)
    go false e = omega arith

pub first_within : (xs ys : List ℕ) → agree xs ys ≡ false → first_difference xs ys < length xs
unfolding agree first_difference
first_within [] ys e = absurd (suc-ne-zero 0 (ap (λ (b : Bool). cond b 1 0) e))
first_within (x ∷ xs) [] e = absurd (suc-ne-zero 0 (ap (λ (b : Bool). cond b 1 0) e))
first_within (x ∷ xs) (y ∷ ys) e = first_step x y _ _ (agree xs ys) e (λ h. first_within xs ys h)

-- at the first difference the two differ, and before it they agree
differ_step : (x y f : ℕ) (xs ys : List ℕ) (b : Bool) → eqb x y && b ≡ false → (b ≡ false → get_or xs f 0 ≡ get_or ys f 0 → ⊥)
    → get_or (x ∷ xs) (cond (eqb x y) (suc f) 0) 0 ≡ get_or (y ∷ ys) (cond (eqb x y) (suc f) 0) 0 → ⊥
differ_step x y f xs ys b e h = go (eqb x y) refl e
  where
    go : (c : Bool) → eqb x y ≡ c → c && b ≡ false → get_or (x ∷ xs) (cond c (suc f) 0) 0 ≡ get_or (y ∷ ys) (cond c (suc f) 0) 0 → ⊥
    go true w e g = h e g
    go false w e g = eqb-false x y w g

pub first_differs : (xs ys : List ℕ) → agree xs ys ≡ false → get_or xs (first_difference xs ys) 0 ≡ get_or ys (first_difference xs ys) 0 → ⊥
unfolding agree first_difference
first_differs [] ys e = absurd (suc-ne-zero 0 (ap (λ (b : Bool). cond b 1 0) e))
first_differs (x ∷ xs) [] e = absurd (suc-ne-zero 0 (ap (λ (b : Bool). cond b 1 0) e))
first_differs (x ∷ xs) (y ∷ ys) e = differ_step x y _ xs ys (agree xs ys) e (λ h. first_differs xs ys h)

before_step : (x y f : ℕ) (xs ys : List ℕ) → ((q : ℕ) → q < f → get_or xs q 0 ≡ get_or ys q 0) → (q : ℕ) → q < cond (eqb x y) (suc f) 0
    → get_or (x ∷ xs) q 0 ≡ get_or (y ∷ ys) q 0
before_step x y f xs ys h = go (eqb x y) refl
  where
    go : (c : Bool) → eqb x y ≡ c → (q : ℕ) → q < cond c (suc f) 0 → get_or (x ∷ xs) q 0 ≡ get_or (y ∷ ys) q 0
    go true e zero l = eqb-true x y e
    go true e (suc q) l = h q (le_of_suc-le-suc l)
    go false e q l = absurd (not-suc-le-zero l)

pub first_before : (xs ys : List ℕ) (q : ℕ) → q < first_difference xs ys → get_or xs q 0 ≡ get_or ys q 0
unfolding first_difference
first_before [] ys q l = absurd (not-suc-le-zero l)
first_before (x ∷ xs) [] q l = absurd (not-suc-le-zero l)
first_before (x ∷ xs) (y ∷ ys) q l = before_step x y _ xs ys (λ p h. first_before xs ys p h) q l

-- ---- two lists of one length

module _ (xs ys : List ℕ) (long : length xs ≡ length ys) where
  pub agree_first : agree xs ys ≡ true → first_difference xs ys ≡ length xs
  agree_first e = ap (first_difference xs) (sym (agree_equal xs ys long e)) ∙ first_self xs

  pub first_most : first_difference xs ys ≤ length xs
  first_most = go (agree xs ys) refl
    where
      go : (b : Bool) → agree xs ys ≡ b → first_difference xs ys ≤ length xs
      go true e = omega (arith, agree_first e)
      go false e = omega (arith, first_within xs ys e)

  -- which is past the last place exactly where the two agree
  pub first_agree : eqb (first_difference xs ys) (length xs) ≡ agree xs ys
  first_agree = go (agree xs ys) refl
    where
      go : (b : Bool) → agree xs ys ≡ b → eqb (first_difference xs ys) (length xs) ≡ b
      go true e = eq-eqb (first_difference xs ys) (length xs) (agree_first e)
      go false e = ne_eqb (first_difference xs ys) (length xs) (λ z. omega (arith, first_within xs ys e))

  pub differs_within : first_difference xs ys < length xs → get_or xs (first_difference xs ys) 0 ≡ get_or ys (first_difference xs ys) 0 → ⊥
  differs_within h = go (agree xs ys) refl
    where
      go : (b : Bool) → agree xs ys ≡ b → get_or xs (first_difference xs ys) 0 ≡ get_or ys (first_difference xs ys) 0 → ⊥
      go true e = λ _. omega (arith, agree_first e)
      go false e = first_differs xs ys e

  -- where the two differ, or end, and before which they agree, is the first difference
  pub first_unique : (b : ℕ) → b ≤ length xs → (b < length xs → get_or xs b 0 ≡ get_or ys b 0 → ⊥)
      → ((x : ℕ) → x < b → get_or xs x 0 ≡ get_or ys x 0) → b ≡ first_difference xs ys
  first_unique b most differs before = go (below_or_from (first_difference xs ys) b) (below_or_from b (first_difference xs ys))
    where
      go : (first_difference xs ys < b) ⊎ (b ≤ first_difference xs ys) → (b < first_difference xs ys) ⊎ (first_difference xs ys ≤ b)
          → b ≡ first_difference xs ys
      go (inl h) o = absurd (differs_within (omega arith) (before (first_difference xs ys) h))
      go (inr h) (inl g) = absurd (differs (omega (arith, first_most)) (first_before xs ys b g))
      go (inr h) (inr g) = omega arith
