-- A factor that is halved as often as the bytes are doubled: the products stay.
use mathlib.Core.Path.{◌≡◌, refl, sym, ap, ap₂, subst, ◌∙◌}
use mathlib.Core.Bool.{Bool}
use mathlib.Core.List.{List, [], ◌∷◌}
use Prim.Native.Nat.{ℕ, zero, suc, ◌*◌, ◌<◌}
use native.Mathlib.Nat.{suc_inj, suc-ne-zero}
use native.Mathlib.Omega.{arith}
use lib.Dec.{eqb, eqb→eq, lit<}
use lib.ListN.{length, get_or, take, drop, replicate, length-replicate, get_or-replicate}
use Rattle.field.specs.Field.{◌⊕◌, ◌⊗◌, doubled, shifted}
use Rattle.field.specs.Bytes.{Bytes}
use Rattle.field.proofs.Xor.{add-zero, add-lt}
use Rattle.field.proofs.Bytes.{take_bytes, drop_bytes}
use Rattle.field.proofs.Mul.{mul-lt, mul_assoc, one-mul}
use Rattle.field.proofs.Below.{below}
use Rattle.lanes.specs.Lanes.{onto}
use Rattle.lanes.proofs.Onto.{onto-length, onto_at}
use Rattle.products.specs.Within.{Halved}

-- ---- bytes

onto_bytes : (f : ℕ → ℕ → ℕ) → ((x y : ℕ) → x < 256 → y < 256 → f x y < 256) → (xs ys : List ℕ) → Bytes xs → Bytes ys → Bytes (onto f xs ys)
unfolding onto
onto_bytes f h [] ys bx by i = bx i
onto_bytes f h (x ∷ xs) [] bx by i = bx i
onto_bytes f h (x ∷ xs) (y ∷ ys) bx by zero = h x y (bx 0) (by 0)
onto_bytes f h (x ∷ xs) (y ∷ ys) bx by (suc i) = onto_bytes f h xs ys (λ j. bx (suc j)) (λ j. by (suc j)) i

zero_bytes : (n : ℕ) → Bytes (replicate n 0)
zero_bytes zero i = lit< tt
zero_bytes (suc n) zero = lit< tt
zero_bytes (suc n) (suc i) = zero_bytes n i

-- a block of bytes that were copied
pub block_bytes : (b n : ℕ) (xs ts : List ℕ) → Bytes xs → ts ≡ onto (λ (x y : ℕ). y) (replicate 64 0) (take n (drop b xs)) → Bytes ts
block_bytes b n xs ts h is =
    subst Bytes (sym is) (onto_bytes _ (λ x y k l. l) (replicate 64 0) (take n (drop b xs)) (zero_bytes 64) (take_bytes n (drop b xs) (drop_bytes b xs h)))

-- ---- the loop

twice_ok : ℕ → Bool
twice_ok x = eqb (x ⊗ 2) (x * 2)

-- what needs no reduction is doubled as a number
twice : (x : ℕ) → x < 128 → x ⊗ 2 ≡ x * 2
unfolding twice_ok ◌⊗◌ shifted doubled ◌⊕◌
twice x h = eqb→eq (x ⊗ 2) (x * 2) (below twice_ok 128 tt x h)

pub halved_start : (c : ℕ) (xs : List ℕ) → Halved c c xs xs
halved_start c xs = record { long = refl; bytes = λ h. h; same = λ q l. refl }

pub halved_turn : (c k h : ℕ) (xs ys zs : List ℕ) → k ≡ h * 2 → h < 128 → length ys ≡ 64 → Halved c k xs ys
    → zs ≡ onto (λ (x y : ℕ). 2 ⊗ x ⊕ y) ys (replicate 64 0) → Halved c h xs zs
halved_turn c k h xs ys zs ek low wide t is = record { long = ap length is ∙ onto-length _ ys (replicate 64 0) ∙ t.long; bytes = bytes; same = same }
  where
    bytes : Bytes xs → Bytes zs
    bytes b = subst Bytes (sym is) (onto_bytes _ (λ x y k l. add-lt 8 (2 ⊗ x) y (mul-lt 2 x) l) ys (replicate 64 0) (t.bytes b) (zero_bytes 64))

    at : (q : ℕ) → q < length xs → get_or zs q 0 ≡ 2 ⊗ get_or ys q 0
    at q l =
        ap (λ (u : List ℕ). get_or u q 0) is
        ∙ onto_at _ ys (replicate 64 0) q (omega (arith, t.long)) (omega (arith, length-replicate {A = ℕ} 64 0, t.long))
        ∙ ap (λ (x : ℕ). 2 ⊗ get_or ys q 0 ⊕ x) (get_or-replicate 64 q 0 0 (omega (arith, t.long)))
        ∙ add-zero (2 ⊗ get_or ys q 0)

    same : (q : ℕ) → q < length xs → h ⊗ get_or zs q 0 ≡ c ⊗ get_or xs q 0
    same q l =
        ap (λ (x : ℕ). h ⊗ x) (at q l) ∙ sym (mul_assoc h 2 (get_or ys q 0)) ∙ ap (λ (x : ℕ). x ⊗ get_or ys q 0) (twice h low ∙ sym ek) ∙ t.same q l

-- ---- what is added

onto_like : (f g : ℕ → ℕ → ℕ) (xs us ts : List ℕ) → length us ≡ length ts
    → ((x q : ℕ) → q < length ts → f x (get_or us q 0) ≡ g x (get_or ts q 0)) → onto f xs us ≡ onto g xs ts
unfolding onto
onto_like f g [] us ts e h = refl
onto_like f g (x ∷ xs) [] [] e h = refl
onto_like f g (x ∷ xs) [] (t ∷ ts) e h = absurd (suc-ne-zero (length ts) (sym e))
onto_like f g (x ∷ xs) (u ∷ us) [] e h = absurd (suc-ne-zero (length us) e)
onto_like f g (x ∷ xs) (u ∷ us) (t ∷ ts) e h =
    ap₂ (λ (y : ℕ) (l : List ℕ). y ∷ l) (h x 0 (omega arith)) (onto_like f g xs us ts (suc_inj e) (λ y q l. h y (suc q) (omega arith)))

-- by the factor that is left
pub by_rest : (c k : ℕ) (xs ts us : List ℕ) → Halved c k ts us → onto (λ (x y : ℕ). x ⊕ k ⊗ y) xs us ≡ onto (λ (x y : ℕ). x ⊕ c ⊗ y) xs ts
by_rest c k xs ts us t = onto_like _ _ xs us ts t.long (λ x q l. ap (λ (y : ℕ). x ⊕ y) (t.same q l))

-- where that is 1, as they are
pub by_one : (c k : ℕ) (xs ts us : List ℕ) → k ≡ 1 → Bytes ts → Halved c k ts us → onto (λ (x y : ℕ). x ⊕ y) xs us ≡ onto (λ (x y : ℕ). x ⊕ c ⊗ y) xs ts
by_one c k xs ts us e b t = onto_like _ _ xs us ts t.long (λ x q l. ap (λ (y : ℕ). x ⊕ y) (plain q l))
  where
    plain : (q : ℕ) → q < length ts → get_or us q 0 ≡ c ⊗ get_or ts q 0
    plain q l = sym (one-mul (get_or us q 0) (t.bytes b q)) ∙ ap (λ (y : ℕ). y ⊗ get_or us q 0) (sym e) ∙ t.same q l
