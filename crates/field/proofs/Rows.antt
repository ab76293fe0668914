-- The laws of rows. Assumes nothing.
use mathlib.Core.Path.{◌≡◌, refl, sym, ap, ap₂, ◌∙◌}
use mathlib.Core.List.{List, [], ◌∷◌, ◌++◌}
use Prim.Native.Nat.{ℕ, zero, suc, ◌+◌, ◌*◌, ◌<◌}
use native.Mathlib.Nat.{add-zero as ℕ-add-zero, zero-add as ℕ-zero-add, zero-mul as ℕ-zero-mul, one-mul as ℕ-one-mul}
use native.Mathlib.Nat.{le_of_suc-le-suc, not-suc-le-zero, add-suc, suc-add, add-mul as ℕ-add-mul, suc_inj, suc-ne-zero}
use lib.ListN.{length, get_or, set}
use Rattle.field.specs.Field.{◌⊕◌, ◌⊗◌, gpow}
use Rattle.field.specs.Bytes.{◌⊞◌, Bytes}
use Rattle.field.specs.Row.{row_from, row}
use lib.Dec.{lit<}
use Rattle.field.specs.Solve.{eval}
use Rattle.field.proofs.Xor.{add_assoc, add-lt, add-zero, zero-add, sums}
use Rattle.field.proofs.Mul.{mul-lt, mul-zero, mul-add, mul_assoc, one-mul, gpow-add, gpow-zero}

-- a row that starts n places later is g^(n j) times the row
pub row_shift : (j n i : ℕ) (ms : List ℕ) → row_from j (n + i) ms ≡ gpow (n * j) ⊗ row_from j i ms
unfolding row_from
row_shift j n i [] = sym (mul-zero (gpow (n * j)))
row_shift j n i (m ∷ ms) =
    ap₂ (λ (x y : ℕ). x ⊗ m ⊕ y) (ap gpow (ℕ-add-mul n i j) ∙ gpow-add (n * j) (i * j))
    (ap (λ (k : ℕ). row_from j k ms) (sym (add-suc n i)) ∙ row_shift j n (suc i) ms)
    ∙ simp (mul-add, mul_assoc)

pub row-append : (j i : ℕ) (xs ys : List ℕ) → row_from j i (xs ++ ys) ≡ row_from j i xs ⊕ row_from j (length xs + i) ys
unfolding row_from
row-append j i [] ys = sym (zero-add (row_from j (0 + i) ys) ∙ ap (λ (k : ℕ). row_from j k ys) (ℕ-zero-add i))
row-append j i (x ∷ xs) ys =
    ap (λ (r : ℕ). gpow (i * j) ⊗ x ⊕ r)
    (row-append j (suc i) xs ys ∙ ap (λ (k : ℕ). row_from j (suc i) xs ⊕ row_from j k ys) (add-suc (length xs) i ∙ sym (suc-add (length xs) i)))
    ∙ sym (add_assoc (gpow (i * j) ⊗ x) (row_from j (suc i) xs) (row_from j (suc (length xs) + i) ys))

-- a row of two parts
pub row_parts : (j : ℕ) (xs ys : List ℕ) → row j (xs ++ ys) ≡ row j xs ⊕ gpow (length xs * j) ⊗ row j ys
unfolding row
row_parts j xs ys = row-append j 0 xs ys ∙ ap (λ (x : ℕ). row_from j 0 xs ⊕ x) (row_shift j (length xs) 0 ys)

add_step : (p x y r s : ℕ) → p ⊗ (x ⊕ y) ⊕ (r ⊕ s) ≡ p ⊗ x ⊕ r ⊕ (p ⊗ y ⊕ s)
add_step p x y r s = simp (mul-add, sums)

-- a row of a sum
row_from-add : (j i : ℕ) (xs ys : List ℕ) → length xs ≡ length ys → row_from j i (xs ⊞ ys) ≡ row_from j i xs ⊕ row_from j i ys
unfolding row_from ◌⊞◌
row_from-add j i [] [] e = sym (zero-add 0)
row_from-add j i [] (y ∷ ys) e = absurd (suc-ne-zero (length ys) (sym e))
row_from-add j i (x ∷ xs) [] e = absurd (suc-ne-zero (length xs) e)
row_from-add j i (x ∷ xs) (y ∷ ys) e =
    ap (λ (r : ℕ). gpow (i * j) ⊗ (x ⊕ y) ⊕ r) (row_from-add j (suc i) xs ys (suc_inj e))
    ∙ add_step (gpow (i * j)) x y (row_from j (suc i) xs) (row_from j (suc i) ys)

pub row-add : (j : ℕ) (xs ys : List ℕ) → length xs ≡ length ys → row j (xs ⊞ ys) ≡ row j xs ⊕ row j ys
unfolding row
row-add j xs ys e = row_from-add j 0 xs ys e

set_step : (p m v r : ℕ) → p ⊗ v ⊕ r ≡ p ⊗ m ⊕ r ⊕ p ⊗ (m ⊕ v)
set_step p m v r = simp (mul-add, sums)

-- one element changed
row_from-set : (j i : ℕ) (ms : List ℕ) (k v : ℕ) → k < length ms
    → row_from j i (set ms k v) ≡ row_from j i ms ⊕ gpow ((i + k) * j) ⊗ (get_or ms k 0 ⊕ v)
unfolding row_from
row_from-set j i [] k v h = absurd (not-suc-le-zero h)
row_from-set j i (m ∷ ms) zero v h =
    set_step (gpow (i * j)) m v (row_from j (suc i) ms)
    ∙ ap (λ (n : ℕ). gpow (i * j) ⊗ m ⊕ row_from j (suc i) ms ⊕ gpow (n * j) ⊗ (m ⊕ v)) (sym (ℕ-add-zero i))
row_from-set j i (m ∷ ms) (suc k) v h =
    ap (λ (r : ℕ). gpow (i * j) ⊗ m ⊕ r)
    (row_from-set j (suc i) ms k v (le_of_suc-le-suc h)
    ∙ ap (λ (n : ℕ). row_from j (suc i) ms ⊕ gpow (n * j) ⊗ (get_or ms k 0 ⊕ v)) (suc-add i k ∙ sym (add-suc i k)))
    ∙ sym (add_assoc (gpow (i * j) ⊗ m) (row_from j (suc i) ms) (gpow ((i + suc k) * j) ⊗ (get_or ms k 0 ⊕ v)))

pub row-set : (j : ℕ) (ms : List ℕ) (k v : ℕ) → k < length ms → row j (set ms k v) ≡ row j ms ⊕ gpow (k * j) ⊗ (get_or ms k 0 ⊕ v)
unfolding row
row-set j ms k v h =
    row_from-set j 0 ms k v h ∙ ap (λ (n : ℕ). row j ms ⊕ gpow (n * j) ⊗ (get_or ms k 0 ⊕ v)) (ℕ-zero-add k)

-- ---- one byte in front: Horner's rule

pub row-nil : (j : ℕ) → row j [] ≡ 0
unfolding row row_from
row-nil j = refl

pub row_cons : (j m : ℕ) (ms : List ℕ) → m < 256 → row j (m ∷ ms) ≡ m ⊕ gpow j ⊗ row j ms
unfolding row row_from
row_cons j m ms h =
    ap₂ ◌⊕◌ (ap (λ (x : ℕ). x ⊗ m) (ap gpow (ℕ-zero-mul j) ∙ gpow-zero) ∙ one-mul m h)
    (row_shift j 1 0 ms ∙ ap (λ (x : ℕ). gpow x ⊗ row_from j 0 ms) (ℕ-one-mul j))

pub row_one : (j m : ℕ) → m < 256 → row j (m ∷ []) ≡ m
row_one j m h = row_cons j m [] h ∙ ap (λ (x : ℕ). m ⊕ gpow j ⊗ x) (row-nil j) ∙ ap (λ (x : ℕ). m ⊕ x) (mul-zero (gpow j)) ∙ add-zero m

row_from-lt : (j i : ℕ) (ms : List ℕ) → row_from j i ms < 256
unfolding row_from
row_from-lt j i [] = lit< tt
row_from-lt j i (m ∷ ms) = add-lt 8 _ _ (mul-lt (gpow (i * j)) m) (row_from-lt j (suc i) ms)

pub row_lt : (j : ℕ) (ms : List ℕ) → row j ms < 256
unfolding row
row_lt j ms = row_from-lt j 0 ms

-- a row is the value of the polynomial with these coefficients at g^j
pub row_eval : (j : ℕ) (ms : List ℕ) → Bytes ms → row j ms ≡ eval ms (gpow j)
unfolding eval
row_eval j [] h = row-nil j
row_eval j (m ∷ ms) h = row_cons j m ms (h 0) ∙ ap (λ (x : ℕ). m ⊕ gpow j ⊗ x) (row_eval j ms (λ i. h (suc i)))
