-- The remainder law. Bytes are the coefficients of a polynomial, which is divided by x^14 + x^4 + x + 1. One byte more before them multiplies the
-- remainder by x and adds the byte: what goes past x^13 comes back as x^4 + x + 1, which is x^14 at 1, g and g^2. So rows 0, 1 and 2 of the remainder,
-- fourteen bytes, are those of all bytes.
use mathlib.Core.Path.{◌≡◌, refl, sym, ap, ap₂, ◌∙◌}
use mathlib.Core.List.{List, [], ◌∷◌, ◌++◌}
use Prim.Native.Nat.{ℕ, zero, suc, ◌*◌, ◌<◌}
use native.Mathlib.Omega.{arith}
use lib.Dec.{lit<}
use lib.ListN.{get_or}
use Rattle.field.specs.Field.{◌⊕◌, ◌⊗◌, gpow, power, shifted, doubled}
use Rattle.field.specs.Bytes.{Bytes}
use Rattle.field.specs.Row.{row, row_from}
use Rattle.field.proofs.Xor.{add-lt, sums}
use Rattle.field.proofs.Mul.{mul-add, add-mul, mul_assoc, one-mul}
use Rattle.field.proofs.Rows.{row_cons, row_parts, row_one}
use Rattle.stripe.specs.Shape.{most_rows}

-- the quotient's coefficient before those in qs: the byte d, and what comes back here of the coefficients 14, 10 and 13 places on
unfoldable pub next : ℕ → List ℕ → ℕ
next d qs = get_or qs 13 0 ⊕ d ⊕ get_or qs 9 0 ⊕ get_or qs 12 0

-- the quotient of the bytes, as if fourteen more stood before them
unfoldable pub quotient : List ℕ → List ℕ
quotient [] = []
quotient (d ∷ ds) = next d (quotient ds) ∷ quotient ds

-- the remainder, of which the first four bytes are the coefficients there less what came back of others
unfoldable pub remainder : List ℕ → List ℕ
remainder qs =
    (get_or qs 0 0 ⊕ get_or qs 10 0 ⊕ get_or qs 13 0) ∷ (get_or qs 1 0 ⊕ get_or qs 11 0) ∷ (get_or qs 2 0 ⊕ get_or qs 12 0) ∷ (get_or qs 3 0 ⊕ get_or qs 13 0)
    ∷ get_or qs 4 0 ∷ get_or qs 5 0 ∷ get_or qs 6 0 ∷ get_or qs 7 0 ∷ get_or qs 8 0 ∷ get_or qs 9 0 ∷ get_or qs 10 0 ∷ get_or qs 11 0 ∷ get_or qs 12 0
    ∷ get_or qs 13 0 ∷ []

-- ---- bytes

next_lt : (d : ℕ) (qs : List ℕ) → d < 256 → Bytes qs → next d qs < 256
unfolding next
next_lt d qs h b = add-lt 8 _ _ (add-lt 8 _ _ (add-lt 8 _ _ (b 13) h) (b 9)) (b 12)

pub quotient_bytes : (ds : List ℕ) → Bytes ds → Bytes (quotient ds)
unfolding quotient
quotient_bytes [] h i = lit< tt
quotient_bytes (d ∷ ds) h zero = next_lt d (quotient ds) (h 0) (quotient_bytes ds (λ i. h (suc i)))
quotient_bytes (d ∷ ds) h (suc i) = quotient_bytes ds (λ n. h (suc n)) i

-- ---- x^14 at 1, g and g^2

fourteenth : (j : ℕ) → j < most_rows
    → gpow j ⊗ (gpow j ⊗ (gpow j ⊗ (gpow j ⊗ (gpow j ⊗ gpow (9 * j))))) ≡ gpow j ⊗ (gpow j ⊗ (gpow j ⊗ gpow j)) ⊕ gpow j ⊕ 1
unfolding gpow power ◌⊗◌ shifted doubled ◌⊕◌
fourteenth zero h = refl
fourteenth (suc zero) h = refl
fourteenth (suc (suc zero)) h = refl
fourteenth (suc (suc (suc j))) h = absurd (omega arith)

comes_back : (x c t : ℕ) → t < 256 → x ⊗ (x ⊗ (x ⊗ (x ⊗ (x ⊗ c)))) ≡ x ⊗ (x ⊗ (x ⊗ x)) ⊕ x ⊕ 1
    → x ⊗ (x ⊗ (x ⊗ (x ⊗ (x ⊗ (c ⊗ t))))) ≡ x ⊗ (x ⊗ (x ⊗ (x ⊗ t))) ⊕ x ⊗ t ⊕ t
comes_back x c t h e =
    sym (simp (mul_assoc))
    ∙ ap (λ (y : ℕ). y ⊗ t) e
    ∙ add-mul (x ⊗ (x ⊗ (x ⊗ x)) ⊕ x) 1 t
    ∙ ap₂ ◌⊕◌ (add-mul (x ⊗ (x ⊗ (x ⊗ x))) x t ∙ ap (λ (y : ℕ). y ⊕ x ⊗ t) (simp (mul_assoc))) (one-mul t h)

-- ---- one byte more

algebra : (x a b c e f t w d : ℕ) → x ⊗ (x ⊗ (x ⊗ (x ⊗ (x ⊗ w)))) ≡ x ⊗ (x ⊗ (x ⊗ (x ⊗ t))) ⊕ x ⊗ t ⊕ t
    → d ⊕ t ⊕ x ⊗ (a ⊕ x ⊗ (b ⊕ x ⊗ (c ⊕ x ⊗ (e ⊕ x ⊗ f)))) ≡ d ⊕ x ⊗ (a ⊕ t ⊕ x ⊗ (b ⊕ x ⊗ (c ⊕ x ⊗ (e ⊕ t ⊕ x ⊗ (f ⊕ w)))))
algebra x a b c e f t w d h = simp (mul-add, h, sums)

head_of : (d t a b : ℕ) → t ⊕ d ⊕ a ⊕ b ⊕ a ⊕ b ≡ d ⊕ t
head_of d t a b = simp (sums)

-- the five first bytes by Horner's rule
horner : (j a b c d e : ℕ) (ms : List ℕ) → a < 256 → b < 256 → c < 256 → d < 256 → e < 256
    → row j (a ∷ b ∷ c ∷ d ∷ e ∷ ms) ≡ a ⊕ gpow j ⊗ (b ⊕ gpow j ⊗ (c ⊕ gpow j ⊗ (d ⊕ gpow j ⊗ (e ⊕ gpow j ⊗ row j ms))))
horner j a b c d e ms ha hb hc hd he =
    row_cons j a _ ha
    ∙ ap (λ (x : ℕ). a ⊕ gpow j ⊗ x) (row_cons j b _ hb
    ∙ ap (λ (x : ℕ). b ⊕ gpow j ⊗ x) (row_cons j c _ hc
    ∙ ap (λ (x : ℕ). c ⊕ gpow j ⊗ x) (row_cons j d _ hd
    ∙ ap (λ (x : ℕ). d ⊕ gpow j ⊗ x) (row_cons j e ms he))))

horner4 : (j a b c d : ℕ) (ms : List ℕ) → a < 256 → b < 256 → c < 256 → d < 256
    → row j (a ∷ b ∷ c ∷ d ∷ ms) ≡ a ⊕ gpow j ⊗ (b ⊕ gpow j ⊗ (c ⊕ gpow j ⊗ (d ⊕ gpow j ⊗ row j ms)))
horner4 j a b c d ms ha hb hc hd =
    row_cons j a _ ha
    ∙ ap (λ (x : ℕ). a ⊕ gpow j ⊗ x) (row_cons j b _ hb
    ∙ ap (λ (x : ℕ). b ⊕ gpow j ⊗ x) (row_cons j c _ hc
    ∙ ap (λ (x : ℕ). c ⊕ gpow j ⊗ x) (row_cons j d ms hd)))

module _ (j d : ℕ) (qs : List ℕ) (hj : j < most_rows) (hd : d < 256) (b : Bytes qs) where
  abbrev at : ℕ → ℕ
  at m = get_or qs m 0

  -- bytes 4 to 12
  abbrev middle : List ℕ
  middle = at 4 ∷ at 5 ∷ at 6 ∷ at 7 ∷ at 8 ∷ at 9 ∷ at 10 ∷ at 11 ∷ at 12 ∷ []

  lt : (m n : ℕ) → at m ⊕ at n < 256
  lt m n = add-lt 8 _ _ (b m) (b n)

  whole : row j (remainder qs)
      ≡ at 0 ⊕ at 10 ⊕ at 13 ⊕ gpow j ⊗ (at 1 ⊕ at 11 ⊕ gpow j ⊗ (at 2 ⊕ at 12 ⊕ gpow j ⊗ (at 3 ⊕ at 13
      ⊕ gpow j ⊗ (row j middle ⊕ gpow (9 * j) ⊗ at 13))))
  unfolding remainder
  whole =
      horner4 j _ _ _ _ (middle ++ (at 13 ∷ [])) (add-lt 8 _ _ (lt 0 10) (b 13)) (lt 1 11) (lt 2 12) (lt 3 13)
      ∙ ap (λ (x : ℕ). at 0 ⊕ at 10 ⊕ at 13 ⊕ gpow j ⊗ (at 1 ⊕ at 11 ⊕ gpow j ⊗ (at 2 ⊕ at 12 ⊕ gpow j ⊗ (at 3 ⊕ at 13 ⊕ gpow j ⊗ x))))
      (row_parts j middle (at 13 ∷ []) ∙ ap (λ (x : ℕ). row j middle ⊕ gpow (9 * j) ⊗ x) (row_one j (at 13) (b 13)))

  more : row j (remainder (next d qs ∷ qs))
      ≡ d ⊕ at 13 ⊕ gpow j ⊗ (at 0 ⊕ at 10 ⊕ gpow j ⊗ (at 1 ⊕ at 11 ⊕ gpow j ⊗ (at 2 ⊕ at 12 ⊕ gpow j ⊗ (at 3 ⊕ gpow j ⊗ row j middle))))
  unfolding remainder next
  more =
      horner j _ _ _ _ _ middle (add-lt 8 _ _ (add-lt 8 _ _ (next_lt d qs hd b) (b 9)) (b 12)) (lt 0 10) (lt 1 11) (lt 2 12) (b 3)
      ∙ ap (λ (x : ℕ). x ⊕ gpow j ⊗ (at 0 ⊕ at 10 ⊕ gpow j ⊗ (at 1 ⊕ at 11 ⊕ gpow j ⊗ (at 2 ⊕ at 12 ⊕ gpow j ⊗ (at 3 ⊕ gpow j ⊗ row j middle)))))
      (head_of d (at 13) (at 9) (at 12))

  pub one_more : row j (remainder (next d qs ∷ qs)) ≡ d ⊕ gpow j ⊗ row j (remainder qs)
  one_more =
      more
      ∙ algebra (gpow j) (at 0 ⊕ at 10) (at 1 ⊕ at 11) (at 2 ⊕ at 12) (at 3) (row j middle) (at 13) (gpow (9 * j) ⊗ at 13) d
      (comes_back (gpow j) (gpow (9 * j)) (at 13) (b 13) (fourteenth j hj))
      ∙ ap (λ (x : ℕ). d ⊕ gpow j ⊗ x) (sym whole)

none : (j : ℕ) → j < most_rows → row j (remainder []) ≡ row j []
unfolding row row_from remainder gpow power ◌⊗◌ shifted doubled ◌⊕◌
none zero h = refl
none (suc zero) h = refl
none (suc (suc zero)) h = refl
none (suc (suc (suc j))) h = absurd (omega arith)

-- rows 0, 1 and 2 of the remainder are those of the bytes
pub remainder_rows : (j : ℕ) (ds : List ℕ) → j < most_rows → Bytes ds → row j (remainder (quotient ds)) ≡ row j ds
unfolding quotient
remainder_rows j [] h b = none j h
remainder_rows j (d ∷ ds) h b =
    one_more j d (quotient ds) h (b 0) (quotient_bytes ds (λ i. b (suc i)))
    ∙ ap (λ (x : ℕ). d ⊕ gpow j ⊗ x) (remainder_rows j ds h (λ i. b (suc i)))
    ∙ sym (row_cons j d ds (b 0))
