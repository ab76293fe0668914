-- Horner's rule upwards: a byte that, times g^(j*i), is the parity and row j of the i first columns gets the next column added and is
-- divided by g^j. With the row of the columns from x on that makes what the row lacks, over the weight of column x.
use mathlib.Core.Path.{◌≡◌, refl, sym, ap, ap₂, ◌∙◌, subst}
use mathlib.Core.Bool.{false}
use mathlib.Core.List.{List, ◌∷◌, ◌++◌}
use mathlib.Core.Logic.{◌⊎◌, inl, inr, ⊎_elim}
use Prim.Native.Nat.{ℕ, zero, suc, ◌+◌, ◌*◌, ◌-◌, ◌<◌, ◌≤◌}
use native.Mathlib.Nat.{mul-le-mul_right, suc-mul, add-mul as ℕ-add-mul, not-suc-le-zero, le_of_suc-le-suc, mul_comm as ℕ-mul-comm}
use native.Mathlib.Omega.{arith}
use lib.Dec.{lit<}
use lib.ListN.{length, get_or, take, drop, length-take, length-drop}
use lib.Seq.{get_or-drop}
use borrow.Author.Tests.{le-leb, eq-eqb}
use borrow.Rule.Slice.PartMut.{put_mid}
use Rattle.field.specs.Field.{◌⊕◌, ◌⊗◌, gpow, power, shifted, doubled}
use Rattle.field.specs.Bytes.{Bytes}
use Rattle.field.specs.Row.{row}
use Rattle.field.proofs.Xor.{add-zero, add_assoc, sums}
use Rattle.field.proofs.Mul.{mul-add, mul_assoc, mul-one, one-mul, gpow-zero, gpow-add, gpow-lt}
use Rattle.field.proofs.Rows.{row-nil, row_parts, row_one}
use Rattle.field.proofs.Cases.{below_or_from}
use Rattle.lanes.specs.Lanes.{onto}
use Rattle.lanes.proofs.Onto.{onto_at, onto-length}
use Rattle.lanes.proofs.Parts.{part_length, part_at, back_length, back_inside, back_outside}
use Rattle.stripe.specs.declared.Shape.{Shape}
use Rattle.stripe.specs.Shape.{shape_refusal, most_data, most_rows, most_parity, most_length}
use Rattle.stripe.specs.Stripe.{across, by_points, row_at, parity}
use Rattle.stripe.specs.Column.{lent_refusal}
use Rattle.stripe.proofs.Allowed.{allowed, few_by_rows}
use Rattle.stripe.proofs.Lent.{lent_both}
use Rattle.stripe.proofs.Places.{across-length, across-take, parity_at, parity-length, plain_parity}
use Rattle.coding.specs.Encode.{encoded_by_rows}
use Rattle.coding.proofs.Encoded.{encoded_done, encoded_by_rows_lem}
use Rattle.syndromes.specs.Apart.{Apart, Parted, Places, BelowIn, Plus, RowTo, RowsTo}

-- ---- columns in two parts

across_parts : (xs : List ℕ) (l p o m n : ℕ) → across xs l p o (m + n) ≡ across xs l p o m ++ across xs l p (o + m * l) n
unfolding across
across_parts xs l p o zero n =
    let from : o ≡ o + 0 * l = omega arith in
    let all : 0 + n ≡ n = omega arith in
    ap₂ (across xs l p) from all
across_parts xs l p o (suc m) n =
    let more : suc m + n ≡ suc (m + n) = omega arith in
    ap (across xs l p o) more
    ∙ ap (λ (ys : List ℕ). get_or xs (o + p) 0 ∷ ys) (across_parts xs l p (o + l) m n
    ∙ ap (λ (z : ℕ). across xs l p (o + l) m ++ across xs l p z n) (omega arith))

-- row j of the columns before x and of those from x on
row_all : (xs : List ℕ) (l p j x k : ℕ) → x ≤ k
    → row j (across xs l p 0 k) ≡ row j (across xs l p 0 x) ⊕ gpow (j * x) ⊗ row j (across xs l p (x * l) (k - x))
row_all xs l p j x k h =
    let all : k ≡ x + (k - x) = omega arith in
    ap (λ (n : ℕ). row j (across xs l p 0 n)) all ∙ ap (row j) (across_parts xs l p 0 x (k - x))
    ∙ row_parts j (across xs l p 0 x) (across xs l p (0 + x * l) (k - x))
    ∙ ap₂ (λ (e o : ℕ). row j (across xs l p 0 x) ⊕ gpow e ⊗ row j (across xs l p o (k - x)))
    (ap (λ (n : ℕ). n * j) (across-length xs l p 0 x) ∙ ℕ-mul-comm x j) (omega arith)

-- row j of one column more
row_after : (xs : List ℕ) (l p j i : ℕ) → Bytes xs
    → row j (across xs l p 0 (i + 1)) ≡ row j (across xs l p 0 i) ⊕ gpow (j * i) ⊗ get_or xs (i * l + p) 0
unfolding across
row_after xs l p j i b =
    let last : i + 1 - i ≡ 1 = omega arith in
    row_all xs l p j i (i + 1) (omega arith)
    ∙ ap (λ (n : ℕ). row j (across xs l p 0 i) ⊕ gpow (j * i) ⊗ row j (across xs l p (i * l) n)) last
    ∙ ap (λ (z : ℕ). row j (across xs l p 0 i) ⊕ gpow (j * i) ⊗ z) (row_one j (get_or xs (i * l + p) 0) (b (i * l + p)))

-- ---- the step upwards

-- f divides the sum of the two by g^j
abbrev pub Back : ℕ → (ℕ → ℕ → ℕ) → Type 0
Back j f = (c x y : ℕ) → c < 256 → c ⊗ gpow j ⊗ f x y ≡ c ⊗ (x ⊕ y)

undone : (j u c z : ℕ) → gpow j ⊗ u ≡ 1 → c < 256 → c ⊗ gpow j ⊗ (u ⊗ z) ≡ c ⊗ z
undone j u c z e h =
    sym (mul_assoc (c ⊗ gpow j) u z) ∙ ap (λ (w : ℕ). w ⊗ z) (mul_assoc c (gpow j) u ∙ ap (λ (w : ℕ). c ⊗ w) e ∙ mul-one c h)

pub back_0 : Back 0 (λ (x y : ℕ). x ⊕ y)
back_0 c x y h = ap (λ (z : ℕ). z ⊗ (x ⊕ y)) (ap (λ (z : ℕ). c ⊗ z) gpow-zero ∙ mul-one c h)

half_of_one : gpow 1 ⊗ 142 ≡ 1
unfolding gpow power ◌⊗◌ shifted doubled ◌⊕◌
half_of_one = refl

quarter_of_one : gpow 2 ⊗ 71 ≡ 1
unfolding gpow power ◌⊗◌ shifted doubled ◌⊕◌
quarter_of_one = refl

pub back_1 : Back 1 (λ (x y : ℕ). 142 ⊗ (x ⊕ y))
back_1 c x y h = undone 1 142 c (x ⊕ y) half_of_one h

pub back_2 : Back 2 (λ (x y : ℕ). 71 ⊗ (x ⊕ y))
back_2 c x y h = undone 2 71 c (x ⊕ y) quarter_of_one h

one_more : (j i c m p r : ℕ) (f : ℕ → ℕ → ℕ) → Back j f → gpow (j * i) ⊗ c ≡ p ⊕ r
    → gpow (j * (i + 1)) ⊗ f c m ≡ p ⊕ (r ⊕ gpow (j * i) ⊗ m)
one_more j i c m p r f back e =
    let weight : j * (i + 1) ≡ j * i + j = omega arith in
    ap (λ (z : ℕ). z ⊗ f c m) (ap gpow weight ∙ gpow-add (j * i) j) ∙ back (gpow (j * i)) c m (gpow-lt (j * i))
    ∙ mul-add (gpow (j * i)) c m ∙ ap (λ (z : ℕ). z ⊕ gpow (j * i) ⊗ m) e ∙ add_assoc p r (gpow (j * i) ⊗ m)

-- ---- the columns before x, one after another

-- the places of a column before x end within the stripe
pub column_within : (xs : List ℕ) (k l r x from i : ℕ) → Places xs k l r x from → i < x → i * l + from + 64 ≤ length xs
column_within xs k l r x from i h less =
    let c : (suc i + 1) * l ≤ (k + r) * l = mul-le-mul_right l (omega (arith, h.within, h.some)) in
    omega (arith, h.long, h.fits, c)

pub places_at : {xs : List ℕ} {k l r x n : ℕ} (from : ℕ) → Parted xs k l r x n → from + 64 ≤ l → Places xs k l r x from
places_at from h fits = record { long = omega (arith, h.long); within = omega (arith, h.within); fits = fits; some = h.some; most = h.most }

-- the same places of fewer parity columns
pub places_less : {xs : List ℕ} {k l r x from : ℕ} (s : ℕ) → 2 ≤ s → s ≤ r → Places xs k l r x from → Places xs k l s x from
places_less {xs} {k} {l} {r} {x} {from} s some fewer h =
    let c : (k + s) * l ≤ (k + r) * l = mul-le-mul_right l (omega arith) in
    record { long = omega (arith, h.long, c); within = h.within; fits = h.fits; some = some; most = omega (arith, h.most) }

-- a of w bytes is as in `BelowIn`, of the i first columns
pub record Risen (xs : List ℕ) (k l from n w j i : ℕ) (a : List ℕ) : Type 0 where
  pub long : length a ≡ w
  pub at : BelowIn xs k l i from n j a

pub start : (xs : List ℕ) (k l from n w j at : ℕ) (a : List ℕ) → Bytes xs → at ≡ (k + j) * l + from → length a ≡ w
    → ((q : ℕ) → q < n → get_or a q 0 ≡ get_or xs (at + q) 0) → Risen xs k l from n w j 0 a
unfolding across
start xs k l from n w j at a b e long is =
    record {
      long = long;
      at = λ q h.
          let place : at + q ≡ (k + j) * l + (from + q) = omega arith in
          let first : j * 0 ≡ 0 = omega arith in
          ap₂ (λ (c y : ℕ). c ⊗ y) (ap gpow first ∙ gpow-zero) (is q h ∙ ap (λ (i : ℕ). get_or xs i 0) place)
          ∙ one-mul _ (b ((k + j) * l + (from + q))) ∙ sym (ap (λ (z : ℕ). get_or xs ((k + j) * l + (from + q)) 0 ⊕ z) (row-nil j) ∙ add-zero _);
    }

pub turn : (xs : List ℕ) (k l from n w j i : ℕ) (a b : List ℕ) (f : ℕ → ℕ → ℕ) → Back j f → Bytes xs → n ≤ w → i * l + from + n ≤ length xs
    → Risen xs k l from n w j i a → b ≡ onto f a (take (i * l + from + n - (i * l + from)) (drop (i * l + from) xs)) → Risen xs k l from n w j (i + 1) b
turn xs k l from n w j i a b f back bytes nw fits h is =
    record { long = ap length is ∙ onto-length f a d ∙ h.long; at = at }
  where
    o : ℕ
    o = i * l + from

    d : List ℕ
    d = take (o + n - o) (drop o xs)

    at : BelowIn xs k l (i + 1) from n j b
    at q p =
        ap (λ (y : ℕ). gpow (j * (i + 1)) ⊗ y)
        (ap (λ (y : List ℕ). get_or y q 0) is ∙ onto_at f a d q (omega (arith, h.long)) (omega (arith, part_length xs o n fits))
        ∙ ap (f (get_or a q 0)) (part_at xs o n q p ∙ ap (λ (z : ℕ). get_or xs z 0) (omega arith)))
        ∙ one_more j i (get_or a q 0) (get_or xs (i * l + (from + q)) 0) _ _ f back (h.at q p)
        ∙ ap (λ (z : ℕ). get_or xs ((k + j) * l + (from + q)) 0 ⊕ z) (sym (row_after xs l (from + q) j i bytes))

pub done : (xs : List ℕ) (k l from n w j i x : ℕ) (a : List ℕ) → i ≤ x → x ≤ i → Risen xs k l from n w j i a → BelowIn xs k l x from n j a
done xs k l from n w j i x a h g r =
    let same : i ≡ x = omega arith in
    subst (λ (z : ℕ). BelowIn xs k l z from n j a) same r.at

-- ---- blocks added to the rows of the columns from x on

-- what the sum of a part and a block leaves of the whole
pub plus_block : (xs b ys : List ℕ) (at n : ℕ) → at + n ≤ length xs → n ≤ length b
    → ys ≡ onto (λ (x y : ℕ). x ⊕ y) (take (at + n - at) (drop at xs)) b → Plus xs at n b (put_mid at (at + n - at) xs ys)
plus_block xs b ys at n fits long is =
    record {
      long = back_length xs ys at n ys_long fits;
      inside = λ q h. back_inside xs ys at n ys_long fits q h ∙ ap (λ (l : List ℕ). get_or l q 0) is
          ∙ onto_at (λ (x y : ℕ). x ⊕ y) _ b q (omega (arith, part_length xs at n fits)) (omega arith)
          ∙ ap (λ (y : ℕ). y ⊕ get_or b q 0) (part_at xs at n q h);
      outside = back_outside xs ys at n ys_long fits;
    }
  where
    ys_long : length ys ≡ n
    ys_long = ap length is ∙ onto-length (λ (x y : ℕ). x ⊕ y) _ b ∙ part_length xs at n fits

pub plus_by : (xs : List ℕ) (at n m : ℕ) (b ys : List ℕ) → n ≡ m → Plus xs at m b ys → Plus xs at n b ys
plus_by xs at n m b ys same h = subst (λ (z : ℕ). Plus xs at z b ys) (sym same) h

-- row j has room for a block
pub block_room : {l r n len : ℕ} (from j : ℕ) → j < r → n ≤ 64 → from + 64 ≤ l → len ≡ r * l → j * l + from + n ≤ len
block_room {l} {r} from j less few fits long = omega (arith, mul-le-mul_right l less, suc-mul j l)

turned : (u p r : ℕ) → u ⊕ (p ⊕ r) ≡ p ⊕ (r ⊕ u)
turned u p r = simp sums

module _ (xs : List ℕ) (k l x from n : ℕ) (fits : from + n ≤ l) (within : x ≤ k) where
  -- the block of its own row
  own : (j at : ℕ) (ts b us : List ℕ) → at ≡ j * l + from → Plus ts at n b us → BelowIn xs k l x from n j b
      → RowTo xs k l x from j ts → RowTo xs k l x (from + n) j us
  own j at ts b us a plus below h =
      record {
        done = λ p less lp. ⊎_elim (old p lp) (new p less lp) (below_or_from p from);
        left = λ p past lp. plus.outside (j * l + p) (inr (omega arith)) ∙ h.left p (omega arith) lp;
      }
    where
      Lacks : ℕ → Type 0
      Lacks p = gpow (j * x) ⊗ get_or us (j * l + p) 0 ≡ get_or xs ((k + j) * l + p) 0 ⊕ row j (across xs l p 0 k)

      old : (p : ℕ) → p < l → p < from → Lacks p
      old p lp g = ap (λ (z : ℕ). gpow (j * x) ⊗ z) (plus.outside (j * l + p) (inl (omega arith))) ∙ h.done p g lp

      new : (p : ℕ) → p < from + n → p < l → from ≤ p → Lacks p
      new p less lp g =
          let place : j * l + p ≡ at + (p - from) = omega arith in
          let byte : from + (p - from) ≡ p = omega arith in
          let upper : ℕ = row j (across xs l p (x * l) (k - x)) in
          ap (λ (z : ℕ). gpow (j * x) ⊗ z)
          (ap (λ (i : ℕ). get_or us i 0) place ∙ plus.inside (p - from) (omega arith)
          ∙ ap (λ (z : ℕ). z ⊕ get_or b (p - from) 0) (ap (λ (i : ℕ). get_or ts i 0) (sym place) ∙ h.left p g lp))
          ∙ mul-add (gpow (j * x)) upper (get_or b (p - from) 0)
          ∙ ap (λ (z : ℕ). gpow (j * x) ⊗ upper ⊕ z) (below (p - from) (omega arith)
          ∙ ap (λ (i : ℕ). get_or xs ((k + j) * l + i) 0 ⊕ row j (across xs l i 0 x)) byte)
          ∙ turned (gpow (j * x) ⊗ upper) (get_or xs ((k + j) * l + p) 0) (row j (across xs l p 0 x))
          ∙ ap (λ (z : ℕ). get_or xs ((k + j) * l + p) 0 ⊕ z) (sym (row_all xs l p j x k within))

  -- the block of another row i leaves row j
  beside : (i j at p : ℕ) (ts b us : List ℕ) → (j < i) ⊎ (i < j) → at ≡ i * l + from → p < l → Plus ts at n b us
      → get_or us (j * l + p) 0 ≡ get_or ts (j * l + p) 0
  beside i j at p ts b us (inl d) a less plus = plus.outside (j * l + p) (inl (omega (arith, mul-le-mul_right l d, suc-mul j l)))
  beside i j at p ts b us (inr d) a less plus = plus.outside (j * l + p) (inr (omega (arith, mul-le-mul_right l d, suc-mul i l)))

  other : (i j at e : ℕ) (ts b us : List ℕ) → (j < i) ⊎ (i < j) → at ≡ i * l + from → Plus ts at n b us
      → RowTo xs k l x e j ts → RowTo xs k l x e j us
  other i j at e ts b us d a plus h =
      record {
        done = λ p less lp. ap (λ (z : ℕ). gpow (j * x) ⊗ z) (beside i j at p ts b us d a lp plus) ∙ h.done p less lp;
        left = λ p past lp. beside i j at p ts b us d a lp plus ∙ h.left p past lp;
      }

  module _ (r : ℕ) where
    pub added_rows : (ts us vs b c : List ℕ) → BelowIn xs k l x from n 0 b → BelowIn xs k l x from n 1 c → Plus ts from n b us → Plus us (l + from) n c vs
        → RowsTo xs k l r x from from ts → RowsTo xs k l r x (from + n) from vs
    added_rows ts us vs b c r0 r1 plus0 plus1 h = record { long = plus1.long ∙ plus0.long ∙ h.long; first = first; last = last }
      where
        past0 : (j : ℕ) → 0 < j → RowTo xs k l x from j ts → RowTo xs k l x from j us
        past0 j more = other 0 j from from ts b us (inr more) (omega arith) plus0

        first : (j : ℕ) → j < 2 → RowTo xs k l x (from + n) j vs
        first zero less =
            other 1 0 (l + from) (from + n) us c vs (inl (lit< tt)) (omega arith) plus1 (own 0 from ts b us (omega arith) plus0 r0 (h.first 0 (lit< tt)))
        first (suc zero) less = own 1 (l + from) us c vs (omega arith) plus1 r1 (past0 1 (lit< tt) (h.first 1 (lit< tt)))
        first (suc (suc j)) less = absurd (not-suc-le-zero (le_of_suc-le-suc (le_of_suc-le-suc less)))

        last : (j : ℕ) → 2 ≤ j → j < r → RowTo xs k l x from j vs
        last j two less = other 1 j (l + from) from us c vs (inr (omega arith)) (omega arith) plus1 (past0 j (omega arith) (h.last j two less))

    pub added_row2 : (e : ℕ) (ts us b : List ℕ) → r ≡ 3 → BelowIn xs k l x from n 2 b → Plus ts (l + l + from) n b us
        → RowsTo xs k l r x e from ts → RowsTo xs k l r x e (from + n) us
    added_row2 e ts us b three r2 plus h = record { long = plus.long ∙ h.long; first = first; last = last }
      where
        first : (j : ℕ) → j < 2 → RowTo xs k l x e j us
        first j less = other 2 j (l + l + from) e ts b us (inl less) (omega arith) plus (h.first j less)

        last : (j : ℕ) → 2 ≤ j → j < r → RowTo xs k l x (from + n) j us
        last j two less =
            let same : 2 ≡ j = omega arith in
            subst (λ (z : ℕ). RowTo xs k l x (from + n) z us) same (own 2 (l + l + from) ts b us (omega arith) plus r2 (h.last 2 (omega arith) (omega arith)))

-- the same to a number, and of a list, that are the same
pub rows_by : {xs : List ℕ} {k l r x e f : ℕ} {ts us : List ℕ} → f ≡ e → ts ≡ us → RowsTo xs k l r x f f us → RowsTo xs k l r x e e ts
rows_by {xs} {k} {l} {r} {x} {e} {f} {ts} {us} end same h =
    subst (λ (z : ℕ). RowsTo xs k l r x z z ts) end (subst (RowsTo xs k l r x f f) (sym same) h)

-- at all places
pub apart_done : (xs : List ℕ) (k l r x : ℕ) (ts : List ℕ) → RowsTo xs k l r x l l ts → Apart xs k l r x ts
apart_done xs k l r x ts h =
    record {
      long = h.long;
      at = λ j p less lp. ⊎_elim (λ d. (h.first j d).done p lp lp) (λ d. (h.last j d less).done p lp lp) (below_or_from j 2);
    }

-- ---- the columns from x on, encoded

across-drop : (xs : List ℕ) (l p a o m : ℕ) → across (drop a xs) l p o m ≡ across xs l p (a + o) m
unfolding across
across-drop xs l p a o zero = refl
across-drop xs l p a o (suc m) =
    ap₂ ◌∷◌ (get_or-drop a xs (o + p) 0 ∙ ap (λ (i : ℕ). get_or xs i 0) (omega arith))
    (across-drop xs l p a (o + l) m ∙ ap (λ (z : ℕ). across xs l p z m) (omega arith))

across_part : (xs : List ℕ) (l p a m n : ℕ) → p < l → n ≡ m * l → across (take n (drop a xs)) l p 0 m ≡ across xs l p a m
across_part xs l p a m n h e =
    ap (λ (z : ℕ). across (take z (drop a xs)) l p 0 m) e ∙ across-take (drop a xs) l p m h ∙ across-drop xs l p a 0 m
    ∙ ap (λ (z : ℕ). across xs l p z m) (omega arith)

plain_allowed : (s : Shape) → 1 ≤ s.k → s.k ≤ most_data → 1 ≤ s.r → s.r ≤ most_rows → s.t ≡ 0 → 1 ≤ s.l → s.l ≤ most_length → shape_refusal s ≡ 0
unfolding shape_refusal
plain_allowed s k1 k2 r1 r2 t l1 l2 =
    let most : s.r ≤ most_parity = omega arith in
    simp (le-leb _ _ k1, le-leb _ _ k2, le-leb _ _ r1, le-leb _ _ r2, le-leb _ _ most, le-leb _ _ l1, le-leb _ _ l2, eq-eqb _ _ t)

module _ (s : Shape) (xs os ps : List ℕ) (k l r x : ℕ) (h : Parted xs k l r x (length os)) (ek : s.k ≡ k - x) (er : s.r ≡ r)
    (et : s.t ≡ 0) (el : s.l ≡ l) where
  abbrev upper : List ℕ
  upper = take (k * l - x * l) (drop (x * l) xs)

  upper_within : x * l ≤ k * l
  upper_within = mul-le-mul_right l (omega (arith, h.within))

  upper_width : k * l - x * l ≡ (k - x) * l
  upper_width =
      let all : (x + (k - x)) * l ≡ k * l = ap (λ (z : ℕ). z * l) (omega (arith, h.within)) in
      omega (arith, all, ℕ-add-mul x (k - x) l)

  upper_long : length upper ≡ k * l - x * l
  upper_long = simp (length-take, length-drop) (omega (arith, h.long, upper_within))

  few : s.r ≤ most_rows
  few = omega (arith, h.most)

  rows : by_points s ≡ false
  rows = few_by_rows s few

  passed : shape_refusal s ≡ 0
  passed =
      plain_allowed s (omega (arith, h.within)) (omega (arith, h.wide)) (omega (arith, h.some)) few et
      (omega (arith, h.length_some)) (omega (arith, h.length_most))

  refused : lent_refusal s (length upper) (length os) ≡ 0
  refused =
      lent_both s (length upper) (length os) passed (upper_long ∙ upper_width ∙ sym (ap₂ ◌*◌ ek el)) (h.room ∙ sym (ap₂ ◌*◌ er el))

  pub encoded_upper : ps ≡ encoded_by_rows s upper os → RowsTo xs k l r x 0 0 ps
  unfolding row_at
  encoded_upper is =
      record {
        long = ap length exact ∙ parity-length s upper ∙ ap₂ ◌*◌ er el;
        first = λ j d. each j (omega (arith, h.some));
        last = λ j d. each j;
      }
    where
      exact : ps ≡ parity s upper
      exact = is ∙ encoded_by_rows_lem s upper os few ∙ sym (encoded_done s upper os refused)

      each : (j : ℕ) → j < r → RowTo xs k l x 0 j ps
      each j less =
          record {
            done = λ p none lp. absurd (not-suc-le-zero none);
            left = λ p past lp.
                let lp' : p < s.l = omega arith in
                ap₂ (λ (qs : List ℕ) (z : ℕ). get_or qs (j * z + p) 0) exact (sym el)
                ∙ parity_at s upper j p (omega arith) lp' ∙ plain_parity s upper j p (allowed s passed) rows et lp'
                ∙ ap₂ (λ (z m : ℕ). row j (across upper z p 0 m)) el ek
                ∙ ap (row j) (across_part xs l p (x * l) (k - x) (k * l - x * l) lp upper_width);
          }
