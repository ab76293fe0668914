-- f of two bytes of one list, stored at places that lie apart from those read, a part after the other.
use mathlib.Core.Path.{◌≡◌, refl, sym, ap, ap₂, ◌∙◌, subst}
use mathlib.Core.Bool.{Bool, true, false, cond, true≢false, ◌&&◌, ◌||◌}
use mathlib.Core.List.{List, ◌++◌}
use mathlib.Core.Logic.{◌⊎◌, inl, inr}
use Prim.Native.Nat.{ℕ, ◌+◌, ◌-◌, ◌*◌, ◌/◌, ◌<◌, ◌≤◌}
use native.Mathlib.Nat.{zero-mul, mul-le-mul_left, div-mul-le_self}
use native.Mathlib.Omega.{arith}
use lib.Dec.{leb, ltb}
use lib.ListN.{length, get_or, take, drop, replicate, length-drop, length-append, length-replicate, get_or-append}
use lib.Seq.{length-take-le, get_or-take, get_or-drop, get_or-append-add, ext_get_or}
use borrow.Author.Tests.{ltb-true, ltb-false, leb-true, le-leb}
use Rattle.lanes.specs.Lanes.{onto}
use borrow.Rule.Slice.PartMut.{put_mid}
use Rattle.products.specs.Within.{disjoint, within}
use Rattle.lanes.proofs.Onto.{onto-length, onto_at, onto_past}
use Rattle.lanes.proofs.Parts.{part_length, part_at, back_length, back_inside, back_outside}

-- ---- n places from a on, and n from b on, of len

pub record Disjoint (a b n len : ℕ) : Type 0 where
  pub first : a + n ≤ len
  pub second : b + n ≤ len
  pub clear : (a + n ≤ b) ⊎ (b + n ≤ a)

pub disjoint_yes : {a b n len : ℕ} → Disjoint a b n len → disjoint a b n len ≡ true
unfolding disjoint
disjoint_yes {a} {b} {n} {len} h = all _ _ _ _ (le-leb (a + n) len h.first) (le-leb (b + n) len h.second) (either h.clear)
  where
    either : (a + n ≤ b) ⊎ (b + n ≤ a) → (leb (a + n) b ≡ true) ⊎ (leb (b + n) a ≡ true)
    either (inl l) = inl (le-leb (a + n) b l)
    either (inr l) = inr (le-leb (b + n) a l)

    all : (x y z w : Bool) → x ≡ true → y ≡ true → (z ≡ true) ⊎ (w ≡ true) → (x && y && (z || w)) ≡ true
    all true true true w ex ey ez = refl
    all true true false true ex ey ez = refl
    all true true false false ex ey (inl e) = e
    all true true false false ex ey (inr e) = e
    all true false z w ex ey ez = ey
    all false y z w ex ey ez = ex

pub disjoint_is : {a b n len : ℕ} → disjoint a b n len ≡ true → Disjoint a b n len
unfolding disjoint
disjoint_is {a} {b} {n} {len} h = all _ _ _ _ refl refl refl refl h
  where
    all : (x y z w : Bool) → leb (a + n) len ≡ x → leb (b + n) len ≡ y → leb (a + n) b ≡ z → leb (b + n) a ≡ w → (x && y && (z || w)) ≡ true
        → Disjoint a b n len
    all true true true w ex ey ez ew h = record { first = leb-true (a + n) len ex; second = leb-true (b + n) len ey; clear = inl (leb-true (a + n) b ez) }
    all true true false true ex ey ez ew h = record { first = leb-true (a + n) len ex; second = leb-true (b + n) len ey; clear = inr (leb-true (b + n) a ew) }
    all true true false false ex ey ez ew h = absurd (true≢false (sym h))
    all true false z w ex ey ez ew h = absurd (true≢false (sym h))
    all false y z w ex ey ez ew h = absurd (true≢false (sym h))

pub disjoint_no : {a b n len : ℕ} → (Disjoint a b n len → ⊥) → disjoint a b n len ≡ false
disjoint_no {a} {b} {n} {len} h = go (disjoint a b n len) refl
  where
    go : (t : Bool) → disjoint a b n len ≡ t → t ≡ false
    go true e = absurd (h (disjoint_is e))
    go false e = refl

-- where neither list is too short and the first does not end before the second, the second must end before the first
pub disjoint_last : (a b n len : ℕ) → a + n ≤ len → b + n ≤ len → b < a + n → leb (b + n) a ≡ disjoint a b n len
disjoint_last a b n len ha hb h = go (leb (b + n) a) refl
  where
    later : (a + n ≤ b) ⊎ (b + n ≤ a) → b + n ≤ a
    later (inl l) = absurd (omega arith)
    later (inr l) = l

    go : (t : Bool) → leb (b + n) a ≡ t → t ≡ disjoint a b n len
    go true e = sym (disjoint_yes (record { first = ha; second = hb; clear = inr (leb-true (b + n) a e) }))
    go false e = sym (disjoint_no (λ w. true≢false (sym (le-leb (b + n) a (later w.clear)) ∙ e)))

-- ---- the loop

-- ys is xs with f of the bytes at the n places from a on and at those from b on
pub record Within (f : ℕ → ℕ → ℕ) (a b n : ℕ) (xs ys : List ℕ) : Type 0 where
  pub long : length ys ≡ length xs
  pub on : (q : ℕ) → q < n → get_or ys (a + q) 0 ≡ f (get_or xs (a + q) 0) (get_or xs (b + q) 0)
  pub off : (i : ℕ) → (i < a) ⊎ (a + n ≤ i) → get_or ys i 0 ≡ get_or xs i 0

pub within_start : (f : ℕ → ℕ → ℕ) (a b : ℕ) (xs : List ℕ) → Within f a b 0 xs xs
within_start f a b xs = record { long = refl; on = λ q l. absurd (omega arith); off = λ i h. refl }

-- q places, and the next k
within_more : {f : ℕ → ℕ → ℕ} {a b q k : ℕ} {xs ys zs : List ℕ} → Disjoint a b (q + k) (length xs) → Within f a b q xs ys
    → Within f (a + q) (b + q) k ys zs → Within f a b (q + k) xs zs
within_more {f} {a} {b} {q} {k} {xs} {ys} {zs} h s t = record { long = t.long ∙ s.long; on = λ i m. on i m (ltb i q) refl; off = off }
  where
    unread : (i : ℕ) → i < k → (a + (q + k) ≤ b) ⊎ (b + (q + k) ≤ a) → (b + q + i < a) ⊎ (a + q ≤ b + q + i)
    unread i m (inl l) = inr (omega arith)
    unread i m (inr l) = inl (omega arith)

    on : (i : ℕ) → i < q + k → (c : Bool) → ltb i q ≡ c → get_or zs (a + i) 0 ≡ f (get_or xs (a + i) 0) (get_or xs (b + i) 0)
    on i m true e = let l : i < q = ltb-true i q e in t.off (a + i) (inl (omega arith)) ∙ s.on i l
    on i m false e =
        let l : q ≤ i = ltb-false i q e in
        let less : i - q < k = omega arith in
        let at : a + q + (i - q) ≡ a + i = omega arith in
        let read : b + q + (i - q) ≡ b + i = omega arith in
        ap (λ (j : ℕ). get_or zs j 0) (sym at) ∙ t.on (i - q) less
        ∙ ap₂ f (s.off (a + q + (i - q)) (inr (omega arith)) ∙ ap (λ (j : ℕ). get_or xs j 0) at)
        (s.off (b + q + (i - q)) (unread (i - q) less h.clear) ∙ ap (λ (j : ℕ). get_or xs j 0) read)

    early : (i : ℕ) → (i < a) ⊎ (a + (q + k) ≤ i) → (i < a + q) ⊎ (a + q + k ≤ i)
    early i (inl l) = inl (omega arith)
    early i (inr l) = inr (omega arith)

    late : (i : ℕ) → (i < a) ⊎ (a + (q + k) ≤ i) → (i < a) ⊎ (a + q ≤ i)
    late i (inl l) = inl l
    late i (inr l) = inr (omega arith)

    off : (i : ℕ) → (i < a) ⊎ (a + (q + k) ≤ i) → get_or zs i 0 ≡ get_or xs i 0
    off i l = t.off i (early i l) ∙ s.off i (late i l)

-- the next k places of those that are apart
disjoint_next : {a b m len : ℕ} (q k : ℕ) → q + k ≤ m → Disjoint a b m len → Disjoint (a + q) (b + q) k len
disjoint_next {a} {b} {m} {len} q k l h = record { first = omega (arith, h.first); second = omega (arith, h.second); clear = go h.clear }
  where
    go : (a + m ≤ b) ⊎ (b + m ≤ a) → (a + q + k ≤ b + q) ⊎ (b + q + k ≤ a + q)
    go (inl e) = inl (omega arith)
    go (inr e) = inr (omega arith)

-- fewer places
pub disjoint_less : {a b m len : ℕ} (n : ℕ) → n ≤ m → Disjoint a b m len → Disjoint a b n len
disjoint_less {a} {b} {m} {len} n l h = record { first = omega (arith, h.first); second = omega (arith, h.second); clear = go h.clear }
  where
    go : (a + m ≤ b) ⊎ (b + m ≤ a) → (a + n ≤ b) ⊎ (b + n ≤ a)
    go (inl e) = inl (omega arith)
    go (inr e) = inr (omega arith)

-- the n bytes from b on, copied into a block ts, and f of those from a on and of the block put back
pub within_block : (f : ℕ → ℕ → ℕ) (a b n : ℕ) (xs ts ws : List ℕ) → Disjoint a b n (length xs) → n ≤ 64
    → ts ≡ onto (λ (x y : ℕ). y) (replicate 64 0) (take (b + n - b) (drop b xs)) → ws ≡ onto f (take (a + n - a) (drop a xs)) ts
    → Within f a b n xs (put_mid a (a + n - a) xs ws)
within_block f a b n xs ts ws h few block is =
    record {
      long = back_length xs ws a n ws_long h.first;
      on = λ q l. back_inside xs ws a n ws_long h.first q l ∙ ap (λ (u : List ℕ). get_or u q 0) is
          ∙ onto_at f _ ts q (omega (arith, part_length xs a n h.first)) (omega (arith, ts_long))
          ∙ ap₂ f (part_at xs a n q l) (ts_at q l);
      off = back_outside xs ws a n ws_long h.first;
    }
  where
    ts_long : length ts ≡ 64
    ts_long = ap length block ∙ onto-length _ (replicate 64 0) _ ∙ length-replicate {A = ℕ} 64 0

    ts_at : (q : ℕ) → q < n → get_or ts q 0 ≡ get_or xs (b + q) 0
    ts_at q l =
        ap (λ (u : List ℕ). get_or u q 0) block
        ∙ onto_at _ (replicate 64 0) _ q (omega (arith, length-replicate {A = ℕ} 64 0)) (omega (arith, part_length xs b n h.second))
        ∙ part_at xs b n q l

    ws_long : length ws ≡ n
    ws_long = ap length is ∙ onto-length f _ ts ∙ part_length xs a n h.first

-- what the definition leaves
landed : (f : ℕ → ℕ → ℕ) (a b n : ℕ) (xs : List ℕ) → a + n ≤ length xs → b + n ≤ length xs
    → Within f a b n xs (take a xs ++ onto f (drop a xs) (take n (drop b xs)))
landed f a b n xs ha hb = record { long = long; on = on; off = off }
  where
    rest : List ℕ
    rest = onto f (drop a xs) (take n (drop b xs))

    head : length (take a xs) ≡ a
    head = length-take-le a xs (omega arith)

    tail : length (drop b xs) ≡ length xs - b
    tail = length-drop b xs

    taken : length (take n (drop b xs)) ≡ n
    taken = length-take-le n (drop b xs) (omega (arith, tail))

    rest_long : length rest ≡ length xs - a
    rest_long = onto-length f (drop a xs) (take n (drop b xs)) ∙ length-drop a xs

    long : length (take a xs ++ rest) ≡ length xs
    long = let e = length-append (take a xs) rest in omega (arith, e, head, rest_long)

    after : (j : ℕ) → get_or (take a xs ++ rest) (a + j) 0 ≡ get_or rest j 0
    after j = ap (λ (m : ℕ). get_or (take a xs ++ rest) (m + j) 0) (sym head) ∙ get_or-append-add (take a xs) rest j 0

    on : (q : ℕ) → q < n → get_or (take a xs ++ rest) (a + q) 0 ≡ f (get_or xs (a + q) 0) (get_or xs (b + q) 0)
    on q l =
        after q ∙ onto_at f (drop a xs) (take n (drop b xs)) q (omega (arith, length-drop a xs)) (omega (arith, taken))
        ∙ ap₂ f (get_or-drop a xs q 0) (get_or-take n (drop b xs) q 0 l ∙ get_or-drop b xs q 0)

    off : (i : ℕ) → (i < a) ⊎ (a + n ≤ i) → get_or (take a xs ++ rest) i 0 ≡ get_or xs i 0
    off i (inl l) = get_or-append (take a xs) rest 0 i (omega (arith, head)) ∙ get_or-take a xs i 0 l
    off i (inr l) =
        let place : a + (i - a) ≡ i = omega arith in
        ap (λ (m : ℕ). get_or (take a xs ++ rest) m 0) (sym place) ∙ after (i - a)
        ∙ onto_past f (drop a xs) (take n (drop b xs)) (i - a) (omega (arith, taken)) ∙ get_or-drop a xs (i - a) 0
        ∙ ap (λ (m : ℕ). get_or xs m 0) place

pub within_same : {f : ℕ → ℕ → ℕ} {a b n : ℕ} {xs ys zs : List ℕ} → Within f a b n xs ys → Within f a b n xs zs → ys ≡ zs
within_same {f} {a} {b} {n} {xs} {ys} {zs} y z = ext_get_or 0 ys zs (y.long ∙ sym z.long) (λ i l. at i (ltb i a) refl (ltb i (a + n)) refl)
  where
    outside : (i : ℕ) → (i < a) ⊎ (a + n ≤ i) → get_or ys i 0 ≡ get_or zs i 0
    outside i h = y.off i h ∙ sym (z.off i h)

    at : (i : ℕ) (c : Bool) → ltb i a ≡ c → (d : Bool) → ltb i (a + n) ≡ d → get_or ys i 0 ≡ get_or zs i 0
    at i true h d k = outside i (inl (ltb-true i a h))
    at i false h false k = outside i (inr (ltb-false i (a + n) k))
    at i false h true k =
        let l : a ≤ i = ltb-false i a h in
        let m : i < a + n = ltb-true i (a + n) k in
        let place : a + (i - a) ≡ i = omega arith in
        ap (λ (m : ℕ). get_or ys m 0) (sym place) ∙ y.on (i - a) (omega arith) ∙ sym (z.on (i - a) (omega arith)) ∙ ap (λ (m : ℕ). get_or zs m 0) place

-- the bytes from a on and from b on are all there, and apart
pub within_places : (f : ℕ → ℕ → ℕ) (a b n : ℕ) (xs : List ℕ) → Disjoint a b n (length xs) → Within f a b n xs (within f a b n xs)
unfolding within
within_places f a b n xs h = go (disjoint a b n (length xs)) (disjoint_yes h)
  where
    go : (t : Bool) → t ≡ true → Within f a b n xs (cond t (take a xs ++ onto f (drop a xs) (take n (drop b xs))) xs)
    go true e = landed f a b n xs h.first h.second
    go false e = absurd (true≢false (sym e))

-- a list that is so
pub within_made : {f : ℕ → ℕ → ℕ} {a b n : ℕ} {xs ys : List ℕ} → Disjoint a b n (length xs) → ys ≡ within f a b n xs → Within f a b n xs ys
within_made {f} {a} {b} {n} {xs} {ys} h e = subst (Within f a b n xs) (sym e) (within_places f a b n xs h)

-- they are not
pub within_nothing : (f : ℕ → ℕ → ℕ) (a b n : ℕ) (xs : List ℕ) → disjoint a b n (length xs) ≡ false → within f a b n xs ≡ xs
unfolding within
within_nothing f a b n xs h = ap (λ (t : Bool). cond t (take a xs ++ onto f (drop a xs) (take n (drop b xs))) xs) h

-- the next k of m places that are apart may be taken
pub part_ready : {a b m len : ℕ} (q k : ℕ) (ys : List ℕ) → Disjoint a b m len → q + k ≤ m → length ys ≡ len → disjoint (a + q) (b + q) k (length ys) ≡ true
part_ready {a} {b} {m} {len} q k ys h l long = ap (disjoint (a + q) (b + q) k) long ∙ disjoint_yes (disjoint_next q k l h)

-- and are
pub within_part : {f : ℕ → ℕ → ℕ} {a b m q : ℕ} {xs ys zs : List ℕ} (k : ℕ) → Disjoint a b m (length xs) → q + k ≤ m → Within f a b q xs ys
    → zs ≡ within f (a + q) (b + q) k ys → Within f a b (q + k) xs zs
within_part {f} {a} {b} {m} {q} {xs} {ys} {zs} k h l t is =
    within_more (disjoint_less (q + k) l h) t (within_made (disjoint_is (part_ready q k ys h l t.long)) is)

-- q of m places that are apart, and the next k
pub within_two : {f : ℕ → ℕ → ℕ} {a b m : ℕ} {xs ys zs : List ℕ} (q k : ℕ) → Disjoint a b m (length xs) → q + k ≤ m → ys ≡ within f a b q xs
    → zs ≡ within f (a + q) (b + q) k ys → Within f a b (q + k) xs zs
within_two {f} {a} {b} {m} {xs} {ys} {zs} q k h l first next = within_part k h l (within_made (disjoint_less q (omega arith) h) first) next

-- n places done are all of them
pub within_done : {f : ℕ → ℕ → ℕ} {a b q : ℕ} {xs zs : List ℕ} (n : ℕ) → Disjoint a b n (length xs) → q ≡ n → Within f a b q xs zs → zs ≡ within f a b n xs
within_done {f} {a} {b} {q} {xs} {zs} n h e t = within_same (subst (λ (m : ℕ). Within f a b m xs zs) e t) (within_places f a b n xs h)

-- ---- blocks of k of n places, b of them

pub block_fits : (b k n : ℕ) → b < n / k → b * k + k ≤ n
block_fits b k n h = omega (arith, mul-le-mul_left k h, div-mul-le_self n k)

pub blocks_fit : (k n : ℕ) → n / k * k ≤ n
blocks_fit k n = div-mul-le_self n k

pub blocks_start : (f : ℕ → ℕ → ℕ) (a b k : ℕ) (xs : List ℕ) → Within f a b (0 * k) xs xs
blocks_start f a b k xs = subst (λ (m : ℕ). Within f a b m xs xs) (sym (zero-mul k)) (within_start f a b xs)

pub blocks_turn : {f : ℕ → ℕ → ℕ} {a b i n : ℕ} {xs ys zs : List ℕ} (k : ℕ) → Disjoint a b n (length xs) → i < n / k → Within f a b (i * k) xs ys
    → zs ≡ within f (a + i * k) (b + i * k) k ys → Within f a b ((i + 1) * k) xs zs
blocks_turn {f} {a} {b} {i} {n} {xs} {ys} {zs} k h l t is =
    let next : i * k + k ≡ (i + 1) * k = omega arith in
    subst (λ (m : ℕ). Within f a b m xs zs) next (within_part k h (block_fits i k n l) t is)
