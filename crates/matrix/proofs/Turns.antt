-- The turns of the loops over groups and over bits.
use mathlib.Core.Path.{◌≡◌, sym, ap, ap₂, ◌∙◌, subst}
use mathlib.Core.List.{List}
use mathlib.Core.Logic.{◌⊎◌, inl, inr}
use Prim.Native.Nat.{ℕ, zero, suc, ◌+◌, ◌-◌, ◌*◌, ◌<◌, ◌≤◌}
use native.Mathlib.Numerals.{add-one}
use native.Mathlib.Omega.{arith}
use lib.ListN.{length, get_or, take, drop}
use Rattle.field.specs.Field.{◌⊕◌, ◌⊗◌}
use Rattle.field.proofs.Xor.{add_assoc, sums}
use Rattle.field.proofs.Cases.{below_or_from}
use Rattle.lanes.specs.Lanes.{onto}
use Rattle.lanes.proofs.Onto.{onto_at}
use Rattle.lanes.proofs.Parts.{part_length, part_at}
use Rattle.matrix.specs.Sums.{sum_to, index, in_group, Summed, GroupIn, GroupsIn, ZeroFirst, picked}
use Rattle.matrix.proofs.Horner.{sum_none, sum_more}
use Rattle.matrix.proofs.Groups.{index_small, group_most}

-- ---- tables

module _ (xs cs : List ℕ) (from stride w : ℕ) where
  pub groups_turn : (i n g k : ℕ) (t u : List ℕ) → w ≤ 64 → k ≡ in_group n g → GroupsIn xs cs from stride w i n g t
      → Summed xs cs from stride w (i + g * 4) g k t u → GroupsIn xs cs from stride w i n (g + 1) u
  groups_turn i n g k t u few e h s d less = go (below_or_from d g)
    where
      go : (d < g) ⊎ (g ≤ d) → GroupIn xs cs from stride w (i + d * 4) d (in_group n d) u
      go (inl a) = λ f hf q b.
          s.rest ((d * 16 + index (in_group n d) f) * 64 + q) (inl (omega (arith, index_small (in_group n d) f (group_most n d).0 hf)))
          ∙ h d a f hf q b
      go (inr a) =
          let same : g ≡ d = omega arith in
          subst (λ (x : ℕ). GroupIn xs cs from stride w (i + x * 4) x (in_group n x) u) same
          (subst (λ (x : ℕ). GroupIn xs cs from stride w (i + g * 4) g x u) e s.sums)

  -- the sum of no column
  pub zero_turn : (i g k : ℕ) (t u : List ℕ) → (0 < g → ZeroFirst t) → Summed xs cs from stride w i g k t u → ZeroFirst u
  zero_turn i zero k t u h s q less = let place : q ≡ 0 * 1024 + q = omega arith in ap (λ (x : ℕ). get_or u x 0) place ∙ s.zero q less
  zero_turn i (suc g) k t u h s q less = s.rest q (inl (omega arith)) ∙ h (omega arith) q less

-- ---- one bit

cancel : (a b : ℕ) → a ≡ a ⊕ (b ⊕ (0 ⊕ b))
cancel a b = simp sums

cancel_done : (a b c : ℕ) → a ⊕ b ⊕ (b ⊕ c) ≡ a ⊕ c
cancel_done a b c = simp sums

-- y holds what y₀ did, which has the sum of group 0, with the other sums of the first g groups
pub record Gathered (t es : List ℕ) (row g : ℕ) (y₀ y : List ℕ) : Type 0 where
  pub at : (q : ℕ) → q < 64 → get_or y q 0 ≡ get_or y₀ q 0 ⊕ (get_or t ((0 * 16 + get_or es (row + 0 * 8) 0) * 64 + q) 0 ⊕ picked t es row g q)

module _ (t es : List ℕ) (row : ℕ) where
  -- place q of the sum of group g
  abbrev term : ℕ → ℕ → ℕ
  term q g = get_or t ((g * 16 + get_or es (row + g * 8) 0) * 64 + q) 0

  pub bit_start : (y : List ℕ) → Gathered t es row 1 y y
  bit_start y = record { at = at }
    where
      at : (q : ℕ) → q < 64 → get_or y q 0 ≡ get_or y q 0 ⊕ (term q 0 ⊕ picked t es row 1 q)
      at q h =
          let one : picked t es row 1 q ≡ 0 ⊕ term q 0 = sum_more 0 (term q) ∙ ap (λ (x : ℕ). x ⊕ term q 0) (sum_none (term q)) in
          cancel (get_or y q 0) (term q 0) ∙ ap (λ (x : ℕ). get_or y q 0 ⊕ (term q 0 ⊕ x)) (sym one)

  pub bit_turn : (g o : ℕ) (y₀ y z : List ℕ) → length y ≡ 64 → o ≡ (g * 16 + get_or es (row + g * 8) 0) * 64 → o + 64 ≤ length t
      → Gathered t es row g y₀ y → z ≡ onto (λ (x y : ℕ). x ⊕ y) y (take (o + 64 - o) (drop o t)) → Gathered t es row (g + 1) y₀ z
  bit_turn g o y₀ y z long e fits h is = record { at = at }
    where
      at : (q : ℕ) → q < 64 → get_or z q 0 ≡ get_or y₀ q 0 ⊕ (term q 0 ⊕ picked t es row (g + 1) q)
      at q l =
          ap (λ (x : List ℕ). get_or x q 0) is ∙ onto_at (λ (x y : ℕ). x ⊕ y) y _ q (omega arith) (omega (arith, part_length t o 64 fits))
          ∙ ap₂ ◌⊕◌ (h.at q l) (part_at t o 64 q l ∙ ap (λ (x : ℕ). get_or t (x + q) 0) e)
          ∙ add_assoc (get_or y₀ q 0) (term q 0 ⊕ picked t es row g q) (term q g)
          ∙ ap (λ (x : ℕ). get_or y₀ q 0 ⊕ x) (add_assoc (term q 0) (picked t es row g q) (term q g)
          ∙ ap (λ (x : ℕ). term q 0 ⊕ x) (sym (sum_more g (term q)) ∙ ap (λ (x : ℕ). sum_to x (term q)) (sym (add-one g))))

  pub bit_done : (n g o : ℕ) (y₀ y₁ y : List ℕ) → length y₀ ≡ 64 → g ≡ n → o ≡ get_or es row 0 * 64 → o + 64 ≤ length t
      → y₁ ≡ onto (λ (x y : ℕ). 2 ⊗ x ⊕ y) y₀ (take (o + 64 - o) (drop o t))
      → Gathered t es row g y₁ y → (q : ℕ) → q < 64 → get_or y q 0 ≡ 2 ⊗ get_or y₀ q 0 ⊕ picked t es row n q
  bit_done n g o y₀ y₁ y long same e fits is h q l =
      h.at q l
      ∙ ap (λ (x : ℕ). x ⊕ (term q 0 ⊕ picked t es row g q)) first
      ∙ cancel_done (2 ⊗ get_or y₀ q 0) (term q 0) (picked t es row g q)
      ∙ ap (λ (x : ℕ). 2 ⊗ get_or y₀ q 0 ⊕ picked t es row x q) same
    where
      place : o + q ≡ (0 * 16 + get_or es (row + 0 * 8) 0) * 64 + q
      place =
          let r : row + 0 * 8 ≡ row = omega arith in
          let f : get_or es (row + 0 * 8) 0 ≡ get_or es row 0 = ap (λ (x : ℕ). get_or es x 0) r in
          omega arith

      first : get_or y₁ q 0 ≡ 2 ⊗ get_or y₀ q 0 ⊕ term q 0
      first =
          ap (λ (x : List ℕ). get_or x q 0) is
          ∙ onto_at (λ (x y : ℕ). 2 ⊗ x ⊕ y) y₀ _ q (omega arith) (omega (arith, part_length t o 64 fits))
          ∙ ap (λ (x : ℕ). 2 ⊗ get_or y₀ q 0 ⊕ x) (part_at t o 64 q l ∙ ap (λ (x : ℕ). get_or t x 0) place)
