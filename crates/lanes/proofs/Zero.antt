-- Whether every byte is zero: asked by the or of all of them, and place by place.
use mathlib.Core.Path.{◌≡◌, refl, sym, ap, ◌∙◌}
use mathlib.Core.Bool.{Bool, true, false, true≢false, ◌&&◌, and_assoc, and-true}
use mathlib.Core.List.{List, [], ◌∷◌}
use Prim.Native.Nat.{ℕ, zero, suc, ◌<◌}
use native.Mathlib.Omega.{arith}
use lib.Bits.{bit_or, or_add_and, and_le_r, or_zero_l}
use lib.Dec.{eqb, eqb-suc-zero}
use lib.ListN.{length, get_or}
use Rattle.std.specs.List.{fold}
use borrow.Author.Tests.{eqb-true, eq-eqb, ne_eqb}
use Rattle.field.proofs.Cases.{and_left, and_right}
use Rattle.lanes.specs.Lanes.{all_zero}

-- ---- two tests at once

pub or_eqb : (z w : ℕ) → eqb (bit_or z w) 0 ≡ eqb z 0 && eqb w 0
or_eqb zero w = ap (λ (x : ℕ). eqb x 0) (or_zero_l w)
or_eqb (suc z) w =
    ne_eqb (bit_or (suc z) w) 0 (λ e. omega (arith, or_add_and (suc z) w, and_le_r (suc z) w)) ∙ sym (ap (λ (b : Bool). b && eqb w 0) (eqb-suc-zero z))

-- ---- the or of all bytes

zero_or_from : (z : ℕ) (xs : List ℕ) → eqb (fold bit_or z xs) 0 ≡ eqb z 0 && all_zero xs
unfolding all_zero
zero_or_from z [] = sym (and-true (eqb z 0))
zero_or_from z (x ∷ xs) =
    zero_or_from (bit_or z x) xs ∙ ap (λ (b : Bool). b && all_zero xs) (or_eqb z x) ∙ and_assoc (eqb z 0) (eqb x 0) (all_zero xs)

pub zero_or : (xs : List ℕ) → eqb (fold bit_or 0 xs) 0 ≡ all_zero xs
zero_or xs = zero_or_from 0 xs

-- ---- every byte, place by place

pub zero_at : (xs : List ℕ) → all_zero xs ≡ true → (i : ℕ) → get_or xs i 0 ≡ 0
unfolding all_zero
zero_at [] e i = refl
zero_at (x ∷ xs) e zero = eqb-true x 0 (and_left (eqb x 0) (all_zero xs) e)
zero_at (x ∷ xs) e (suc i) = zero_at xs (and_right (eqb x 0) (all_zero xs) e) i

pub zero_all : (xs : List ℕ) → ((i : ℕ) → i < length xs → get_or xs i 0 ≡ 0) → all_zero xs ≡ true
unfolding all_zero
zero_all [] h = refl
zero_all (x ∷ xs) h = ap (λ (b : Bool). b && all_zero xs) (eq-eqb x 0 (h 0 (omega arith))) ∙ zero_all xs (λ i l. h (suc i) (omega arith))

pub zero_not : (xs : List ℕ) → all_zero xs ≡ false → ((i : ℕ) → i < length xs → get_or xs i 0 ≡ 0) → ⊥
zero_not xs e h = true≢false (sym (zero_all xs h) ∙ e)
