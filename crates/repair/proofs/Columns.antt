-- Columns of a stripe and rows of a window: what a loop over the columns leaves of either, column by column.
use Prim.Native.Nat.{ℕ, ◌+◌, ◌-◌, ◌*◌, ◌<◌, ◌≤◌}
use mathlib.Core.Path.{◌≡◌, refl, ap, ap₂, ◌∙◌, subst}
use mathlib.Core.Logic.{◌⊎◌, inl, inr, ⊎_elim}
use mathlib.Core.List.{List}
use native.Mathlib.Nat.{not-suc-le-zero, mul-le-mul_right, add-mul}
use native.Mathlib.Omega.{arith}
use lib.ListN.{length, get_or}
use borrow.Rule.Slice.PartMut.{mid_of, put_mid}
use Rattle.field.specs.Field.{◌⊕◌}
use Rattle.field.proofs.Cases.{below_or_from}
use Rattle.lanes.specs.Lanes.{onto}
use Rattle.lanes.proofs.Parts.{part_length, part_at, back_length, back_inside, back_outside}
use Rattle.stripe.proofs.Places.{place_lt, column_inside}
use Rattle.matrix.specs.Sums.{Part}
use Rattle.matrix.proofs.Parts.{part_onto}
use Rattle.repair.specs.Windows.{column_byte, Distinct, NoneOf, Put, Added}

-- a place of another column, or outside the n places from a on, is none of these places of column i
place_off : (c i p a n l : ℕ) → p < l → a + n ≤ l → (c ≡ i → ⊥) ⊎ ((p < a) ⊎ (a + n ≤ p)) → (c * l + p < i * l + a) ⊎ (i * l + a + n ≤ c * l + p)
place_off c i p a n l hp ha o = go (below_or_from c i) (below_or_from i c) o
  where
    go : (c < i) ⊎ (i ≤ c) → (i < c) ⊎ (c ≤ i) → (c ≡ i → ⊥) ⊎ ((p < a) ⊎ (a + n ≤ p)) → (c * l + p < i * l + a) ⊎ (i * l + a + n ≤ c * l + p)
    go (inl h) k o = inl (omega (arith, mul-le-mul_right l h, add-mul c 1 l))
    go (inr h) (inl k) o = inr (omega (arith, mul-le-mul_right l k, add-mul i 1 l))
    go (inr h) (inr k) (inl n) = absurd (n (omega arith))
    go (inr h) (inr k) (inr (inl m)) = let e : c * l ≡ i * l = ap (λ (x : ℕ). x * l) (omega arith) in inl (omega arith)
    go (inr h) (inr k) (inr (inr m)) = let e : c * l ≡ i * l = ap (λ (x : ℕ). x * l) (omega arith) in inr (omega arith)

-- ---- columns added to rows

pub added_start : (ts : List ℕ) (l at n : ℕ) (zs xs : List ℕ) → Added ts 0 l at n zs xs xs
added_start ts l at n zs xs = record { long = refl; own = λ v q h k. absurd (not-suc-le-zero h); rest = λ i h. refl }

-- one row more
pub added_turn : (ts : List ℕ) (l at n : ℕ) (zs xs ys part : List ℕ) (v : ℕ) → v < length ts → length xs ≡ length ts * n
    → get_or ts v 0 * l + at + n ≤ length zs → Added ts v l at n zs xs ys
    → part ≡ onto (λ (x y : ℕ). x ⊕ y) (mid_of (v * n) (v * n + n - v * n) ys)
    (mid_of (get_or ts v 0 * l + at) (get_or ts v 0 * l + at + n - (get_or ts v 0 * l + at)) zs)
    → Added ts (v + 1) l at n zs xs (put_mid (v * n) (v * n + n - v * n) ys part)
added_turn ts l at n zs xs ys part v hv long ends h is = record { long = p.long ∙ h.long; own = own; rest = rest }
  where
    o : ℕ
    o = get_or ts v 0 * l + at

    new : List ℕ
    new = put_mid (v * n) (v * n + n - v * n) ys part

    p : Part (λ (x y : ℕ). x ⊕ y) ys (v * n) n (mid_of o (o + n - o) zs) (put_mid (v * n) (v * n + n - v * n) ys part)
    p =
        part_onto (λ (x y : ℕ). x ⊕ y) ys (mid_of o (o + n - o) zs) part (v * n) n (omega (arith, column_inside v (length ts) n hv, h.long))
        (omega (arith, part_length zs o n ends)) is

    own : (u q : ℕ) → u < v + 1 → q < n → get_or new (u * n + q) 0 ≡ get_or xs (u * n + q) 0 ⊕ column_byte ts zs l u (at + q)
    own u q hu hq = ⊎_elim old this (below_or_from u v)
      where
        old : u < v → get_or new (u * n + q) 0 ≡ get_or xs (u * n + q) 0 ⊕ column_byte ts zs l u (at + q)
        old k = p.outside (u * n + q) (inl (place_lt k hq)) ∙ h.own u q k hq

        here : get_or new (v * n + q) 0 ≡ get_or xs (v * n + q) 0 ⊕ column_byte ts zs l v (at + q)
        here =
            p.inside q hq
            ∙ ap₂ (λ (x y : ℕ). x ⊕ y) (h.rest (v * n + q) (omega arith))
            (part_at zs o n q hq ∙ ap (λ (i : ℕ). get_or zs i 0) (omega arith))

        this : v ≤ u → get_or new (u * n + q) 0 ≡ get_or xs (u * n + q) 0 ⊕ column_byte ts zs l u (at + q)
        this k =
            let same : v ≡ u = omega arith in
            subst (λ (w : ℕ). get_or new (w * n + q) 0 ≡ get_or xs (w * n + q) 0 ⊕ column_byte ts zs l w (at + q)) same here

    rest : (i : ℕ) → (v + 1) * n ≤ i → get_or new i 0 ≡ get_or xs i 0
    rest i k = p.outside i (inr (omega (arith, add-mul v 1 n))) ∙ h.rest i (omega (arith, add-mul v 1 n))

pub added_done : (ts : List ℕ) (l at n : ℕ) (zs xs ys : List ℕ) (v : ℕ) → v ≡ length ts → Added ts v l at n zs xs ys
    → Added ts (length ts) l at n zs xs ys
added_done ts l at n zs xs ys v e h = subst (λ (m : ℕ). Added ts m l at n zs xs ys) e h

-- ---- rows put into columns

pub put_start : (f : ℕ → ℕ → ℕ) (ts : List ℕ) (l a b : ℕ) (xs : List ℕ) → Put f ts 0 l a b xs xs
put_start f ts l a b xs = record { long = refl; own = λ v p h k m. absurd (not-suc-le-zero h); other = λ c p h k. refl }

-- one column more
pub put_turn : (rs ts : List ℕ) (l at n : ℕ) (xs ys part : List ℕ) (v : ℕ) → v < length ts → Distinct ts → at + n ≤ l → length rs ≡ length ts * n
    → get_or ts v 0 * l + at + n ≤ length xs → Put (λ u p. get_or rs (u * n + (p - at)) 0) ts v l at (at + n) xs ys
    → part ≡ mid_of (v * n) (v * n + n - v * n) rs
    → Put (λ u p. get_or rs (u * n + (p - at)) 0) ts (v + 1) l at (at + n) xs
    (put_mid (get_or ts v 0 * l + at) (get_or ts v 0 * l + at + n - (get_or ts v 0 * l + at)) ys part)
put_turn rs ts l at n xs ys part v hv apart ends long fits h is = record { long = p.long ∙ h.long; own = own; other = other }
  where
    o : ℕ
    o = get_or ts v 0 * l + at

    new : List ℕ
    new = put_mid o (o + n - o) ys part

    inside : v * n + n ≤ length rs
    inside = omega (arith, column_inside v (length ts) n hv)

    part_long : length part ≡ n
    part_long = ap length is ∙ part_length rs (v * n) n inside

    p : Part (λ (x y : ℕ). y) ys o n (mid_of (v * n) (v * n + n - v * n) rs) (put_mid o (o + n - o) ys part)
    p =
        let long_enough : o + n ≤ length ys = omega (arith, h.long) in
        record {
          long = back_length ys part o n part_long long_enough;
          inside = λ q k. back_inside ys part o n part_long long_enough q k ∙ ap (λ (xs : List ℕ). get_or xs q 0) is;
          outside = back_outside ys part o n part_long long_enough;
        }

    own : (u q : ℕ) → u < v + 1 → at ≤ q → q < at + n → column_byte ts new l u q ≡ get_or rs (u * n + (q - at)) 0
    own u q hu from to = ⊎_elim old this (below_or_from u v)
      where
        old : u < v → column_byte ts new l u q ≡ get_or rs (u * n + (q - at)) 0
        old k =
            p.outside (get_or ts u 0 * l + q) (place_off (get_or ts u 0) (get_or ts v 0) q at n l (omega arith) ends (inl (apart u v k hv)))
            ∙ h.own u q k from to

        here : column_byte ts new l v q ≡ get_or rs (v * n + (q - at)) 0
        here =
            ap (λ (i : ℕ). get_or new i 0) (omega arith) ∙ p.inside (q - at) (omega arith) ∙ part_at rs (v * n) n (q - at) (omega arith)

        this : v ≤ u → column_byte ts new l u q ≡ get_or rs (u * n + (q - at)) 0
        this k = let same : v ≡ u = omega arith in subst (λ (w : ℕ). column_byte ts new l w q ≡ get_or rs (w * n + (q - at)) 0) same here

    other : (c q : ℕ) → q < l → NoneOf ts (v + 1) c ⊎ ((q < at) ⊎ (at + n ≤ q)) → get_or new (c * l + q) 0 ≡ get_or xs (c * l + q) 0
    other c q hq w = p.outside (c * l + q) (place_off c (get_or ts v 0) q at n l hq ends (here w)) ∙ h.other c q hq (before w)
      where
        here : NoneOf ts (v + 1) c ⊎ ((q < at) ⊎ (at + n ≤ q)) → (c ≡ get_or ts v 0 → ⊥) ⊎ ((q < at) ⊎ (at + n ≤ q))
        here (inl k) = inl (k v (omega arith))
        here (inr k) = inr k

        before : NoneOf ts (v + 1) c ⊎ ((q < at) ⊎ (at + n ≤ q)) → NoneOf ts v c ⊎ ((q < at) ⊎ (at + n ≤ q))
        before (inl k) = inl (λ u m. k u (omega arith))
        before (inr k) = inr k

pub put_done : (f : ℕ → ℕ → ℕ) (ts : List ℕ) (l a b : ℕ) (xs ys : List ℕ) (v : ℕ) → v ≡ length ts → Put f ts v l a b xs ys
    → Put f ts (length ts) l a b xs ys
put_done f ts l a b xs ys v e h = subst (λ (m : ℕ). Put f ts m l a b xs ys) e h
