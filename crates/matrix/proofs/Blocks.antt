-- The rows of a block, and the blocks of a slab of columns.
use mathlib.Core.Path.{◌≡◌, refl, sym, ap, ap₂, ◌∙◌, subst}
use mathlib.Core.Bool.{Bool, true, false, cond}
use mathlib.Core.List.{List}
use mathlib.Core.Logic.{◌⊎◌, inl, inr, ⊎_elim}
use Prim.Native.Nat.{ℕ, ◌+◌, ◌-◌, ◌*◌, ◌/◌, ◌%◌, ◌<◌, ◌≤◌}
use native.Mathlib.Nat.{mul-le-mul_right, suc-mul, not-suc-le-zero}
use native.Mathlib.Omega.{arith}
use Rattle.std.specs.Prelude.{min}
use lib.Dec.{eqb}
use lib.ListN.{length, get_or}
use borrow.Author.Tests.{eq-eqb, ne_eqb}
use Rattle.field.specs.Field.{◌⊕◌, ◌⊗◌, times}
use Rattle.field.specs.Bytes.{Bytes}
use Rattle.field.proofs.Xor.{zero-add, digit}
use Rattle.field.proofs.Cases.{below_or_from, zero_or_not}
use Rattle.matrix.specs.Sums.{sum_to, halved, in_group, Inside, Part, GroupsIn, picked, row_value, AllNumbers, RowNumbered, AllNumbered, Rowed, up_to, Held}
use Rattle.matrix.proofs.Horner.{sum_same, sum_append, sum_none, fall_products}
use Rattle.matrix.proofs.Groups.{groups_sum, group_most, index_small}

-- ---- a block of one row

pub part_fresh : (fresh : Bool) (xs b ys : List ℕ) (at w : ℕ) → fresh ≡ true → Part (λ (x y : ℕ). y) xs at w b ys
    → Part (λ (x y : ℕ). cond fresh 0 x ⊕ y) xs at w b ys
part_fresh fresh xs b ys at w e h =
    record {
      long = h.long;
      inside = λ q l. h.inside q l ∙ sym (ap (λ (t : Bool). cond t 0 (get_or xs (at + q) 0) ⊕ get_or b q 0) e ∙ zero-add (get_or b q 0));
      outside = h.outside;
    }

pub part_later : (fresh : Bool) (xs b ys : List ℕ) (at w : ℕ) → fresh ≡ false → Part (λ (x y : ℕ). x ⊕ y) xs at w b ys
    → Part (λ (x y : ℕ). cond fresh 0 x ⊕ y) xs at w b ys
part_later fresh xs b ys at w e h =
    record {
      long = h.long;
      inside = λ q l. h.inside q l ∙ sym (ap (λ (t : Bool). cond t 0 (get_or xs (at + q) 0) ⊕ get_or b q 0) e);
      outside = h.outside;
    }

-- ---- the rows of a block

pub rowed_start : (t es : List ℕ) (groups : ℕ) (fresh : Bool) (count at w : ℕ) (ps : List ℕ) → Rowed t es groups fresh count at w 0 ps ps
rowed_start t es groups fresh count at w ps =
    record { long = refl; on = λ s q h k. absurd (not-suc-le-zero h); off = λ s p h k. refl }

pub rowed_turn : (t es : List ℕ) (groups : ℕ) (fresh : Bool) (count at w s : ℕ) (y ps qs rs : List ℕ) → at + w ≤ count → w ≤ 64
    → Rowed t es groups fresh count at w s ps qs → ((q : ℕ) → q < 64 → get_or y q 0 ≡ row_value t es (s * 64) groups q)
    → Part (λ (x y : ℕ). cond fresh 0 x ⊕ y) qs (s * count + at) w y rs → Rowed t es groups fresh count at w (s + 1) ps rs
rowed_turn t es groups fresh count at w s y ps qs rs fits few h value put =
    record { long = put.long ∙ h.long; on = on; off = off }
  where
    on : (r q : ℕ) → r < s + 1 → q < w → get_or rs (r * count + at + q) 0 ≡ cond fresh 0 (get_or ps (r * count + at + q) 0) ⊕ row_value t es (r * 64) groups q
    on r q less k = ⊎_elim old new (below_or_from r s)
      where
        old : r < s → get_or rs (r * count + at + q) 0 ≡ cond fresh 0 (get_or ps (r * count + at + q) 0) ⊕ row_value t es (r * 64) groups q
        old a = put.outside (r * count + at + q) (inl (omega (arith, mul-le-mul_right count a, suc-mul r count))) ∙ h.on r q a k

        here : get_or rs (s * count + at + q) 0 ≡ cond fresh 0 (get_or ps (s * count + at + q) 0) ⊕ row_value t es (s * 64) groups q
        here =
            let place : s * count + (at + q) ≡ s * count + at + q = omega arith in
            put.inside q k
            ∙ ap₂ (λ (x z : ℕ). cond fresh 0 x ⊕ z)
            (ap (λ (x : ℕ). get_or qs x 0) (sym place) ∙ h.off s (at + q) (omega arith) (inl (omega arith)) ∙ ap (λ (x : ℕ). get_or ps x 0) place)
            (value q (omega arith))

        new : s ≤ r → get_or rs (r * count + at + q) 0 ≡ cond fresh 0 (get_or ps (r * count + at + q) 0) ⊕ row_value t es (r * 64) groups q
        new a =
            let same : s ≡ r = omega arith in
            subst (λ (x : ℕ). get_or rs (x * count + at + q) 0 ≡ cond fresh 0 (get_or ps (x * count + at + q) 0) ⊕ row_value t es (x * 64) groups q) same here

    apart : (r p : ℕ) → p < count → (s + 1 ≤ r) ⊎ ((p < at) ⊎ (at + w ≤ p)) → (r * count + p < s * count + at) ⊎ (s * count + at + w ≤ r * count + p)
    apart r p k (inl a) = inr (omega (arith, mul-le-mul_right count a, suc-mul s count))
    apart r p k (inr b) = go b (below_or_from r s)
      where
        go : (p < at) ⊎ (at + w ≤ p) → (r < s) ⊎ (s ≤ r) → (r * count + p < s * count + at) ⊎ (s * count + at + w ≤ r * count + p)
        go c (inl a) = inl (omega (arith, mul-le-mul_right count a, suc-mul r count))
        go c (inr a) = other c (below_or_from s r)
          where
            other : (p < at) ⊎ (at + w ≤ p) → (s < r) ⊎ (r ≤ s) → (r * count + p < s * count + at) ⊎ (s * count + at + w ≤ r * count + p)
            other d (inl e) = inr (omega (arith, mul-le-mul_right count e, suc-mul s count))
            other (inl d) (inr e) = let same : r * count ≡ s * count = ap (λ (x : ℕ). x * count) (omega arith) in inl (omega arith)
            other (inr d) (inr e) = let same : r * count ≡ s * count = ap (λ (x : ℕ). x * count) (omega arith) in inr (omega arith)

    before : (r p : ℕ) → (s + 1 ≤ r) ⊎ ((p < at) ⊎ (at + w ≤ p)) → (s ≤ r) ⊎ ((p < at) ⊎ (at + w ≤ p))
    before r p (inl a) = inl (omega arith)
    before r p (inr a) = inr a

    off : (r p : ℕ) → p < count → (s + 1 ≤ r) ⊎ ((p < at) ⊎ (at + w ≤ p)) → get_or rs (r * count + p) 0 ≡ get_or ps (r * count + p) 0
    off r p k a = put.outside (r * count + p) (apart r p k a) ∙ h.off r p k (before r p a)

pub rowed_done : (t es : List ℕ) (groups : ℕ) (fresh : Bool) (count at w s rows : ℕ) (ps qs : List ℕ) → s ≡ rows → Rowed t es groups fresh count at w s ps qs
    → Rowed t es groups fresh count at w rows ps qs
rowed_done t es groups fresh count at w s rows ps qs e h = subst (λ (x : ℕ). Rowed t es groups fresh count at w x ps qs) e h

-- of as many groups
pub rowed_same : (t es : List ℕ) (g k : ℕ) (fresh : Bool) (count at w rows : ℕ) (ps qs : List ℕ) → g ≡ k → Rowed t es g fresh count at w rows ps qs
    → Rowed t es k fresh count at w rows ps qs
rowed_same t es g k fresh count at w rows ps qs e h = subst (λ (x : ℕ). Rowed t es x fresh count at w rows ps qs) e h

-- ---- what a row is

-- the numbers are those of sums
pub all_small : (ms : List ℕ) (m i n rows : ℕ) (es : List ℕ) → AllNumbered ms m i n rows es → AllNumbers es rows ((n + 3) / 4)
all_small ms m i n rows es h s hs b hb g hg =
    subst (λ (x : ℕ). x < 16) (sym (h.at s hs g b hg hb)) (index_small (in_group n g) _ (group_most n g).0 (λ j. digit _))

row_value_lem : (xs cs : List ℕ) (from stride w i n row q : ℕ) (c : ℕ → ℕ) (t es : List ℕ) → Bytes xs → q < w
    → RowNumbered c row n ((n + 3) / 4) es → GroupsIn xs cs from stride w i n ((n + 3) / 4) t
    → row_value t es row ((n + 3) / 4) q ≡ sum_to n (λ j. c j ⊗ get_or xs (from + get_or cs (i + j) 0 * stride + q) 0)
unfolding row_value
row_value_lem xs cs from stride w i n row q c t es bytes k numbered groups = fall_products n c (λ j. byte (i + j)) _ (λ j. bytes _) bit
  where
    byte : ℕ → ℕ
    byte j = get_or xs (from + get_or cs j 0 * stride + q) 0

    bit : (d : ℕ) → d < 8 → picked t es (row + d) ((n + 3) / 4) q ≡ sum_to n (λ j. times (halved d (c j) % 2) (byte (i + j)))
    bit d hd =
        sum_same ((n + 3) / 4) _ _ one ∙ groups_sum n (λ j. times (halved d (c j) % 2) (byte (i + j)))
      where
        one : (g : ℕ) → g < (n + 3) / 4
            → get_or t ((g * 16 + get_or es (row + d + g * 8) 0) * 64 + q) 0
            ≡ sum_to (in_group n g) (λ j. times (halved d (c (g * 4 + j)) % 2) (byte (i + (g * 4 + j))))
        one g hg =
            ap (λ (x : ℕ). get_or t ((g * 16 + x) * 64 + q) 0) (numbered g d hg hd)
            ∙ groups g hg (λ j. halved d (c (g * 4 + j)) % 2) (λ j. digit (halved d (c (g * 4 + j)))) q k
            ∙ sum_same (in_group n g) _ _ (λ j z. ap (λ (x : ℕ). times (halved d (c (g * 4 + j)) % 2) (byte x)) (omega arith))

-- ---- the blocks of a slab

-- ps holds n columns of each row at the places below e, and i columns from there on, where i is not 0
pub record Edge (ms cs xs : List ℕ) (from stride count rows n i e : ℕ) (ps : List ℕ) : Type 0 where
  pub below : (s p : ℕ) → s < rows → p < e → p < count → get_or ps (s * count + p) 0 ≡ up_to ms cs xs from stride n s p
  pub above : (s p : ℕ) → s < rows → e ≤ p → p < count → 0 < i → get_or ps (s * count + p) 0 ≡ up_to ms cs xs from stride i s p

module _ (ms cs xs : List ℕ) (from stride count rows i n : ℕ) where
  pub edge_start : (ps : List ℕ) → Held ms cs xs from stride count rows i ps → Edge ms cs xs from stride count rows (i + n) i 0 ps
  edge_start ps h = record { below = λ s p a b. absurd (not-suc-le-zero b); above = λ s p a b k z. h.at s p a k z }

  pub edge_done : (e : ℕ) (ps : List ℕ) → count ≤ e → Edge ms cs xs from stride count rows (i + n) i e ps
      → Held ms cs xs from stride count rows (i + n) ps
  edge_done e ps a h = record { at = λ s p hs hp z. h.below s p hs (omega arith) hp }

  pub edge_turn : (es t ps qs : List ℕ) (at w e : ℕ) (fresh : Bool) → Bytes xs → AllNumbered ms (length cs) i n rows es
      → fresh ≡ eqb i 0 → at + w ≡ min e count
      → GroupsIn xs cs (from + at) stride w i n ((n + 3) / 4) t → Rowed t es ((n + 3) / 4) fresh count at w rows ps qs
      → Edge ms cs xs from stride count rows (i + n) i at ps → Edge ms cs xs from stride count rows (i + n) i e qs
  edge_turn es t ps qs at w e fresh bytes numbered is ends groups made h =
      record { below = below; above = λ s p hs a k z. made.off s p k (inr (inr (omega arith))) ∙ h.above s p hs (omega arith) k z }
    where
      term : ℕ → ℕ → ℕ → ℕ
      term s p j = get_or ms (s * length cs + j) 0 ⊗ get_or xs (from + get_or cs j 0 * stride + p) 0

      value : (s q : ℕ) → s < rows → q < w → row_value t es (s * 64) ((n + 3) / 4) q ≡ sum_to n (λ j. term s (at + q) (i + j))
      value s q hs k =
          row_value_lem xs cs (from + at) stride w i n (s * 64) q (λ j. get_or ms (s * length cs + i + j) 0) t es bytes k (numbered.at s hs) groups
          ∙ sum_same n _ _ (λ j z. ap₂ (λ (x y : ℕ). get_or ms x 0 ⊗ get_or xs y 0) (omega arith) (omega arith))

      before : (s q : ℕ) → s < rows → q < w → cond fresh 0 (get_or ps (s * count + at + q) 0) ≡ sum_to i (term s (at + q))
      before s q hs k = ⊎_elim none some (zero_or_not i)
        where
          none : i ≡ 0 → cond fresh 0 (get_or ps (s * count + at + q) 0) ≡ sum_to i (term s (at + q))
          none z =
              ap (λ (b : Bool). cond b 0 (get_or ps (s * count + at + q) 0)) (is ∙ eq-eqb i 0 z)
              ∙ sym (ap (λ (x : ℕ). sum_to x (term s (at + q))) z ∙ sum_none (term s (at + q)))

          some : (i ≡ 0 → ⊥) → cond fresh 0 (get_or ps (s * count + at + q) 0) ≡ sum_to i (term s (at + q))
          some z =
              let place : s * count + at + q ≡ s * count + (at + q) = omega arith in
              let pos : 0 < i = omega arith in
              ap (λ (b : Bool). cond b 0 (get_or ps (s * count + at + q) 0)) (is ∙ ne_eqb i 0 z)
              ∙ ap (λ (x : ℕ). get_or ps x 0) place ∙ h.above s (at + q) hs (omega arith) (omega arith) pos

      inside : (s q : ℕ) → s < rows → q < w → get_or qs (s * count + (at + q)) 0 ≡ up_to ms cs xs from stride (i + n) s (at + q)
      inside s q hs k =
          let place : s * count + (at + q) ≡ s * count + at + q = omega arith in
          ap (λ (x : ℕ). get_or qs x 0) place ∙ made.on s q hs k ∙ ap₂ ◌⊕◌ (before s q hs k) (value s q hs k)
          ∙ sym (sum_append i n (term s (at + q)))

      below : (s p : ℕ) → s < rows → p < e → p < count → get_or qs (s * count + p) 0 ≡ up_to ms cs xs from stride (i + n) s p
      below s p hs a k = ⊎_elim old new (below_or_from p at)
        where
          old : p < at → get_or qs (s * count + p) 0 ≡ up_to ms cs xs from stride (i + n) s p
          old b = made.off s p k (inr (inl b)) ∙ h.below s p hs b k

          new : at ≤ p → get_or qs (s * count + p) 0 ≡ up_to ms cs xs from stride (i + n) s p
          new b =
              let place : at + (p - at) ≡ p = omega arith in
              subst (λ (x : ℕ). get_or qs (s * count + x) 0 ≡ up_to ms cs xs from stride (i + n) s x) place (inside s (p - at) hs (omega arith))

module _ (ms cs xs : List ℕ) (from stride count rows : ℕ) (ps : List ℕ) where
  -- no columns yet
  pub held_none : Held ms cs xs from stride count rows 0 ps
  held_none = record { at = λ s p hs hp z. absurd (not-suc-le-zero z) }

  pub held_done : (i n : ℕ) → i ≡ n → Held ms cs xs from stride count rows i ps → Held ms cs xs from stride count rows n ps
  held_done i n e h = subst (λ (x : ℕ). Held ms cs xs from stride count rows x ps) e h

-- ---- what is taken lies in the columns

pub part_inside : (xs cs : List ℕ) (from stride count at w : ℕ) → at + w ≤ count → Inside xs cs from stride count → Inside xs cs (from + at) stride w
part_inside xs cs from stride count at w fits inside i less = omega (arith, inside i less)
