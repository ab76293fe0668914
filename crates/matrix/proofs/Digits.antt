-- The numbers of sums: bit by bit, group by group, row by row.
use mathlib.Core.Path.{◌≡◌, refl, sym, ap, ap₂, ◌∙◌, subst}
use mathlib.Core.Bool.{Bool}
use mathlib.Core.List.{List}
use mathlib.Core.Logic.{◌⊎◌, inl, inr}
use Prim.Native.Nat.{ℕ, zero, suc, ◌+◌, ◌-◌, ◌*◌, ◌/◌, ◌%◌, ◌<◌, ◌≤◌}
use native.Mathlib.Numerals.{add-one}
use native.Mathlib.Omega.{arith}
use lib.Bits.{bit_and, and_le_r}
use lib.Dec.{eqb, eqb→eq}
use lib.ListN.{length, get_or, set, length-set}
use lib.Seq.{get_or-set_same, get_or-set_other}
use Rattle.field.proofs.Below.{below}
use Rattle.field.proofs.Cases.{below_or_from}
use Rattle.field.proofs.Xor.{digit}
use Rattle.matrix.specs.Sums.{index, side_by_side, halved, in_group, Numbered, RowNumbered, RowMade, AllNumbered}
use Rattle.matrix.proofs.Groups.{index_same, index_small}

halved-zero : (b : ℕ) → halved b 0 ≡ 0
unfolding halved
halved-zero zero = refl
halved-zero (suc b) = ap (λ (x : ℕ). x / 2) (halved-zero b)

pub halved_none : (x : ℕ) → x ≡ halved 0 x
unfolding halved
halved_none x = refl

pub halved_more : (b c x : ℕ) → x ≡ halved b c → x / 2 ≡ halved (b + 1) c
unfolding halved
halved_more b c x e = ap (λ (y : ℕ). y / 2) e ∙ ap (λ (n : ℕ). halved n c) (sym (add-one b))

-- ---- bytes side by side

side_same : (n b : ℕ) (f g : ℕ → ℕ) → ((d : ℕ) → f d ≡ g d) → side_by_side n b f ≡ side_by_side n b g
unfolding side_by_side
side_same zero b f g h = refl
side_same (suc n) b f g h = ap₂ (λ (x y : ℕ). x + y * 256) (h b) (side_same n (suc b) f g h)

-- four numbers, whose bytes are added
side_four : (n b : ℕ) (f g h k : ℕ → ℕ)
    → side_by_side n b f + side_by_side n b g * 2 + side_by_side n b h * 4 + side_by_side n b k * 8 ≡ side_by_side n b (λ d. f d + g d * 2 + h d * 4 + k d * 8)
unfolding side_by_side
side_four zero b f g h k = refl
side_four (suc n) b f g h k = omega (arith, side_four n (suc b) f g h k)

pub bits_added : (p q r s x y z v : ℕ) → p ≡ side_by_side 8 0 (λ b. halved b x % 2) → q ≡ side_by_side 8 0 (λ b. halved b y % 2)
    → r ≡ side_by_side 8 0 (λ b. halved b z % 2) → s ≡ side_by_side 8 0 (λ b. halved b v % 2)
    → p + q * 2 + r * 4 + s * 8 ≡ side_by_side 8 0 (λ b. halved b x % 2 + halved b y % 2 * 2 + halved b z % 2 * 4 + halved b v % 2 * 8)
bits_added p q r s x y z v ep eq er es =
    ap₂ ◌+◌ (ap₂ ◌+◌ (ap₂ (λ (a b : ℕ). a + b * 2) ep eq) (ap (λ (a : ℕ). a * 4) er)) (ap (λ (a : ℕ). a * 8) es) ∙ side_four 8 0 _ _ _ _

-- the lowest byte, and the others
side_first : (n b p : ℕ) (f : ℕ → ℕ) → f b < 256 → p ≡ side_by_side (suc n) b f → (p % 256 ≡ f b) × (p / 256 ≡ side_by_side n (suc b) f)
unfolding side_by_side
side_first n b p f h e = (omega arith, omega arith)

-- a byte by the factor and the masks, and bit by bit
abbrev pub spread_of : ℕ → ℕ
spread_of w = bit_and ((bit_and (w * 0x0101_0101_0101_0101) 0x8040_2010_0804_0201 + 0x0040_6070_787c_7e7f) / 128) 0x0101_0101_0101_0101

pub spread_most : (w : ℕ) → spread_of w ≤ 0x0101_0101_0101_0101
spread_most w = and_le_r ((bit_and (w * 0x0101_0101_0101_0101) 0x8040_2010_0804_0201 + 0x0040_6070_787c_7e7f) / 128) 0x0101_0101_0101_0101

spread_ok : ℕ → Bool
spread_ok w = eqb (spread_of w) (side_by_side 8 0 (λ b. halved b w % 2))

pub spread_bits : (w : ℕ) → w < 256 → spread_of w ≡ side_by_side 8 0 (λ b. halved b w % 2)
unfolding spread_ok side_by_side halved
spread_bits w h = eqb→eq (spread_of w) (side_by_side 8 0 (λ b. halved b w % 2)) (below spread_ok 256 tt w h)

-- weight j of n: that of f, or 0 past them
abbrev pub WeightIs : (ℕ → ℕ) → ℕ → ℕ → ℕ → Type 0
WeightIs f n j x = (j < n → x ≡ f j) × (n ≤ j → x ≡ 0)

module _ (f : ℕ → ℕ) (x y z v b : ℕ) where
  abbrev bit : ℕ → ℕ
  bit c = halved b c % 2

  gone : (c : ℕ) → c ≡ 0 → bit c ≡ 0
  gone c e = ap bit e ∙ ap (λ (k : ℕ). k % 2) (halved-zero b)

  pub bits_index : (n : ℕ) → n ≤ 4 → WeightIs f n 0 x → WeightIs f n 1 y → WeightIs f n 2 z → WeightIs f n 3 v
      → bit x + bit y * 2 + bit z * 4 + bit v * 8 ≡ index n (λ j. bit (f j))
  unfolding index
  bits_index zero h px py pz pv =
      omega (arith, gone x (px.1 (omega arith)), gone y (py.1 (omega arith)), gone z (pz.1 (omega arith)), gone v (pv.1 (omega arith)))
  bits_index (suc zero) h px py pz pv =
      omega (arith, ap bit (px.0 (omega arith)), gone y (py.1 (omega arith)), gone z (pz.1 (omega arith)), gone v (pv.1 (omega arith)))
  bits_index (suc (suc zero)) h px py pz pv =
      omega (arith, ap bit (px.0 (omega arith)), ap bit (py.0 (omega arith)), gone z (pz.1 (omega arith)), gone v (pv.1 (omega arith)))
  bits_index (suc (suc (suc zero))) h px py pz pv =
      omega (arith, ap bit (px.0 (omega arith)), ap bit (py.0 (omega arith)), ap bit (pz.0 (omega arith)), gone v (pv.1 (omega arith)))
  bits_index (suc (suc (suc (suc zero)))) h px py pz pv =
      omega (arith, ap bit (px.0 (omega arith)), ap bit (py.0 (omega arith)), ap bit (pz.0 (omega arith)), ap bit (pv.0 (omega arith)))
  bits_index (suc (suc (suc (suc (suc n))))) h px py pz pv = omega arith

-- ---- the eight bits of a group

-- the numbers of n weights, from bit b on, side by side
abbrev pub Left : (ℕ → ℕ) → ℕ → ℕ → ℕ → Type 0
Left f n b p = p ≡ side_by_side (8 - b) b (λ d. index n (λ j. halved d (f j) % 2))

pub left_start : (f : ℕ → ℕ) (n p x y z v : ℕ) → n ≤ 4 → WeightIs f n 0 x → WeightIs f n 1 y → WeightIs f n 2 z → WeightIs f n 3 v
    → p ≡ side_by_side 8 0 (λ b. halved b x % 2 + halved b y % 2 * 2 + halved b z % 2 * 4 + halved b v % 2 * 8) → Left f n 0 p
left_start f n p x y z v h px py pz pv e = e ∙ side_same 8 0 _ _ (λ d. bits_index f x y z v d n h px py pz pv)

pub left_turn : (f : ℕ → ℕ) (n b p : ℕ) → n ≤ 4 → b < 8 → Left f n b p
    → (p % 256 ≡ index n (λ j. halved b (f j) % 2)) × Left f n (b + 1) (p / 256)
left_turn f n b p h l e = (both.0, both.1 ∙ ap₂ (λ (k d : ℕ). side_by_side k d number) (omega arith) (sym (add-one b)))
  where
    number : ℕ → ℕ
    number d = index n (λ j. halved d (f j) % 2)

    small : number b < 256
    small = omega (arith, index_small n (λ j. halved b (f j) % 2) h (λ j. digit (halved b (f j))))

    both : (p % 256 ≡ number b) × (p / 256 ≡ side_by_side (7 - b) (suc b) number)
    both = side_first (7 - b) b p number small (e ∙ ap (λ (k : ℕ). side_by_side k b number) (omega arith))

pub numbered_start : (f : ℕ → ℕ) (at n : ℕ) (es : List ℕ) → Numbered f at n 0 es es
numbered_start f at n es = record { long = refl; on = λ b h. omega arith; off = λ i h. refl }

pub numbered_turn : (f : ℕ → ℕ) (at n b v : ℕ) (ds es : List ℕ) → at + b < length es → Numbered f at n b ds es
    → v ≡ index n (λ j. halved b (f j) % 2) → Numbered f at n (b + 1) ds (set es (at + b) v)
numbered_turn f at n b v ds es fits h is =
    record { long = length-set es (at + b) v ∙ h.long; on = on; off = off }
  where
    on : (d : ℕ) → d < b + 1 → get_or (set es (at + b) v) (at + d) 0 ≡ index n (λ j. halved d (f j) % 2)
    on d less = go (below_or_from d b)
      where
        go : (d < b) ⊎ (b ≤ d) → get_or (set es (at + b) v) (at + d) 0 ≡ index n (λ j. halved d (f j) % 2)
        go (inl a) = get_or-set_other es (at + b) (at + d) v 0 (λ e. omega arith) ∙ h.on d a
        go (inr a) =
            let same : d ≡ b = omega arith in
            ap (λ (x : ℕ). get_or (set es (at + b) v) (at + x) 0) same ∙ get_or-set_same es (at + b) v 0 fits ∙ is
            ∙ ap (λ (x : ℕ). index n (λ j. halved x (f j) % 2)) (sym same)

    off : (i : ℕ) → (i < at) ⊎ (at + (b + 1) ≤ i) → get_or (set es (at + b) v) i 0 ≡ get_or ds i 0
    off i (inl a) = get_or-set_other es (at + b) i v 0 (λ e. omega arith) ∙ h.off i (inl a)
    off i (inr a) = get_or-set_other es (at + b) i v 0 (λ e. omega arith) ∙ h.off i (inr (omega arith))

pub numbered_done : (f : ℕ → ℕ) (at n b : ℕ) (ds es : List ℕ) → b ≡ 8 → Numbered f at n b ds es → Numbered f at n 8 ds es
numbered_done f at n b ds es e h = subst (λ (x : ℕ). Numbered f at n x ds es) e h

-- ---- the groups of a row

pub row_turn : (ms : List ℕ) (from row n g k : ℕ) (ds es : List ℕ) → k ≡ in_group n g
    → RowNumbered (λ j. get_or ms (from + j) 0) row n g ds → Numbered (λ j. get_or ms (from + g * 4 + j) 0) (row + g * 8) k 8 ds es
    → RowNumbered (λ j. get_or ms (from + j) 0) row n (g + 1) es
row_turn ms from row n g k ds es e h w i b less hb = go (below_or_from i g)
  where
    go : (i < g) ⊎ (g ≤ i) → get_or es (row + b + i * 8) 0 ≡ index (in_group n i) (λ j. halved b (get_or ms (from + (i * 4 + j)) 0) % 2)
    go (inl a) = w.off (row + b + i * 8) (inl (omega arith)) ∙ h i b a hb
    go (inr a) =
        let same : i ≡ g = omega arith in
        ap (λ (x : ℕ). get_or es x 0) (omega arith) ∙ w.on b hb
        ∙ ap (λ (x : ℕ). index x (λ j. halved b (get_or ms (from + g * 4 + j) 0) % 2)) e
        ∙ index_same (in_group n g) _ _ (λ j l. ap (λ (x : ℕ). halved b (get_or ms x 0) % 2) (omega arith))
        ∙ ap (λ (x : ℕ). index (in_group n x) (λ j. halved b (get_or ms (from + (x * 4 + j)) 0) % 2)) (sym same)

pub row_before : (f : ℕ → ℕ) (row g n : ℕ) (ds es : List ℕ) → Numbered f (row + g * 8) n 8 ds es → (i : ℕ) → i < row → get_or es i 0 ≡ get_or ds i 0
row_before f row g n ds es w i h = w.off i (inl (omega arith))

-- ---- the rows

pub all_turn : (ms : List ℕ) (m i n s : ℕ) (ds es : List ℕ) → n ≤ 28 → AllNumbered ms m i n s ds
    → RowMade (λ j. get_or ms (s * m + i + j) 0) (s * 64) n ((n + 3) / 4) ds es → AllNumbered ms m i n (s + 1) es
all_turn ms m i n s ds es few h w = record { at = λ r less. go r less (below_or_from r s) }
  where
    go : (r : ℕ) → r < s + 1 → (r < s) ⊎ (s ≤ r) → RowNumbered (λ j. get_or ms (r * m + i + j) 0) (r * 64) n ((n + 3) / 4) es
    go r less (inl a) = λ g b hg hb. w.before (r * 64 + b + g * 8) (omega arith) ∙ h.at r a g b hg hb
    go r less (inr a) =
        let same : s ≡ r = omega arith in
        subst (λ (x : ℕ). RowNumbered (λ j. get_or ms (x * m + i + j) 0) (x * 64) n ((n + 3) / 4) es) same w.on
