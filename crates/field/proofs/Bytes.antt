-- Lists of bytes by their places.
use mathlib.Core.Path.{◌≡◌, refl, sym, ap, subst}
use mathlib.Core.List.{List, [], ◌∷◌, ◌++◌}
use Prim.Native.Nat.{ℕ, zero, suc, ◌+◌, ◌<◌}
use native.Mathlib.Nat.{le_of_suc-le-suc, not-suc-le-zero, suc_inj, suc-ne-zero}
use lib.Dec.{lit<}
use lib.ListN.{length, get_or, take, drop}
use lib.Seq.{get_or-drop}
use Rattle.field.specs.Field.{◌⊕◌}
use Rattle.field.specs.Bytes.{Bytes, tabulate, ◌⊞◌}
use Rattle.field.proofs.Xor.{zero-add, add-lt}

pub tabulate-length : (n : ℕ) (f : ℕ → ℕ) → length (tabulate n f) ≡ n
unfolding tabulate
tabulate-length zero f = refl
tabulate-length (suc n) f = ap suc (tabulate-length n (λ i. f (suc i)))

pub tabulate_at : (n : ℕ) (f : ℕ → ℕ) (i : ℕ) → i < n → get_or (tabulate n f) i 0 ≡ f i
unfolding tabulate
tabulate_at zero f i l = absurd (not-suc-le-zero l)
tabulate_at (suc n) f zero l = refl
tabulate_at (suc n) f (suc i) l = tabulate_at n (λ k. f (suc k)) i (le_of_suc-le-suc l)

pub tabulate_bytes : (n : ℕ) (f : ℕ → ℕ) → ((i : ℕ) → f i < 256) → Bytes (tabulate n f)
unfolding tabulate
tabulate_bytes zero f h i = lit< tt
tabulate_bytes (suc n) f h zero = h 0
tabulate_bytes (suc n) f h (suc i) = tabulate_bytes n (λ k. f (suc k)) (λ k. h (suc k)) i

pub add-length : (xs ys : List ℕ) → length xs ≡ length ys → length (xs ⊞ ys) ≡ length xs
unfolding ◌⊞◌
add-length [] ys e = refl
add-length (x ∷ xs) [] e = absurd (suc-ne-zero (length xs) e)
add-length (x ∷ xs) (y ∷ ys) e = ap suc (add-length xs ys (suc_inj e))

pub add_at : (xs ys : List ℕ) (i : ℕ) → length xs ≡ length ys → get_or (xs ⊞ ys) i 0 ≡ get_or xs i 0 ⊕ get_or ys i 0
unfolding ◌⊞◌
add_at [] [] i e = sym (zero-add 0)
add_at [] (y ∷ ys) i e = absurd (suc-ne-zero (length ys) (sym e))
add_at (x ∷ xs) [] i e = absurd (suc-ne-zero (length xs) e)
add_at (x ∷ xs) (y ∷ ys) zero e = refl
add_at (x ∷ xs) (y ∷ ys) (suc i) e = add_at xs ys i (suc_inj e)

pub add_bytes : (xs ys : List ℕ) → Bytes xs → Bytes ys → Bytes (xs ⊞ ys)
unfolding ◌⊞◌
add_bytes [] ys hx hy i = lit< tt
add_bytes (x ∷ xs) [] hx hy i = lit< tt
add_bytes (x ∷ xs) (y ∷ ys) hx hy zero = add-lt 8 x y (hx 0) (hy 0)
add_bytes (x ∷ xs) (y ∷ ys) hx hy (suc i) = add_bytes xs ys (λ k. hx (suc k)) (λ k. hy (suc k)) i

-- ---- bytes of two lists, and of a part of one

pub append_bytes : (xs ys : List ℕ) → Bytes xs → Bytes ys → Bytes (xs ++ ys)
append_bytes [] ys hx hy i = hy i
append_bytes (x ∷ xs) ys hx hy zero = hx 0
append_bytes (x ∷ xs) ys hx hy (suc i) = append_bytes xs ys (λ k. hx (suc k)) hy i

pub take_bytes : (n : ℕ) (xs : List ℕ) → Bytes xs → Bytes (take n xs)
take_bytes zero xs h i = lit< tt
take_bytes (suc n) [] h i = lit< tt
take_bytes (suc n) (x ∷ xs) h zero = h 0
take_bytes (suc n) (x ∷ xs) h (suc i) = take_bytes n xs (λ k. h (suc k)) i

pub drop_bytes : (n : ℕ) (xs : List ℕ) → Bytes xs → Bytes (drop n xs)
drop_bytes n xs h i = subst (λ (x : ℕ). x < 256) (sym (get_or-drop n xs i 0)) (h (n + i))
