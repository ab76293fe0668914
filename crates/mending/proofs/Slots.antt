-- Slots: what each turn of the loops over them adds, and why they solve the sums at every place.
use Prim.Native.Nat.{ℕ, zero, suc, ◌+◌, ◌*◌, ◌-◌, ◌≤◌, ◌<◌}
use mathlib.Core.Path.{◌≡◌, refl, sym, ap, ap₂, subst, ◌∙◌}
use mathlib.Core.List.{List, [], ◌∷◌, map}
use mathlib.Core.Logic.{◌⊎◌, inl, inr}
use native.Mathlib.Nat.{le_of_suc-le-suc, not-suc-le-zero, suc_inj, suc-ne-zero, mul-le-mul_right, add-mul}
use native.Mathlib.Numerals.{add-one}
use native.Mathlib.Omega.{arith}
use lib.Dec.{lit<}
use lib.ListN.{length, get_or, take, drop, length-drop, length-map}
use lib.Seq.{get_or-take, ext_get_or, length-take-le, take_all}
use borrow.Rule.Slice.PartMut.{put_mid}
use Rattle.field.specs.Field.{◌⊕◌, ◌⊗◌, inverse_of}
use Rattle.field.specs.Bytes.{Bytes}
use Rattle.field.specs.Solve.{solve, moment, apart, cleared}
use Rattle.field.proofs.Xor.{add-zero, sums}
use Rattle.field.proofs.Mul.{mul_assoc, one-mul, power_zero, inverse_unique}
use Rattle.field.proofs.Solve.{solve_same, solve_bytes, solve-length, apart-length}
use Rattle.field.proofs.Cases.{below_or_from}
use Rattle.lanes.proofs.Onto.{map_at}
use Rattle.lanes.proofs.Parts.{part_length, part_at, back_length, back_inside, back_outside}
use Rattle.stripe.specs.Shape.{most_rows}
use Rattle.products.proofs.Mixing.{Disjoint, Within}
use Rattle.mending.specs.Slots.{slots_at, weighted, Outside, Sources, Gathered, Spaced, OffSlots, Cleared, SetApart, First, Solved}

-- ---- one slot onto another

-- a slot that is none of the sources is apart from each
pub sources_disjoint : {e a b d n len : ℕ} → Sources e a b d n len → (v : ℕ) → v < e → Disjoint a (b + v * d) n len
sources_disjoint {e} {a} {b} {d} {n} {len} s v h = record { first = s.target; second = s.source v h; clear = go (below_or_from (b + v * d) a) }
  where
    low : b + v * d < a → (a < b + v * d + n) ⊎ (b + v * d + n ≤ a) → (a + n ≤ b + v * d) ⊎ (b + v * d + n ≤ a)
    low l (inr m) = inr m
    low l (inl m) = absurd (never (s.apart v (a - (b + v * d)) h (omega arith)))
      where
        never : Outside a n (b + v * d + (a - (b + v * d))) → ⊥
        never (inl k) = omega arith
        never (inr k) = omega arith

    high : a ≤ b + v * d → (0 < n) ⊎ (n ≤ 0) → (a + n ≤ b + v * d) ⊎ (b + v * d + n ≤ a)
    high l (inr m) = inl (omega arith)
    high l (inl m) = inl (past (s.apart v 0 h m))
      where
        past : Outside a n (b + v * d + 0) → a + n ≤ b + v * d
        past (inl k) = absurd (omega arith)
        past (inr k) = omega arith

    go : (b + v * d < a) ⊎ (a ≤ b + v * d) → (a + n ≤ b + v * d) ⊎ (b + v * d + n ≤ a)
    go (inl l) = low l (below_or_from a (b + v * d + n))
    go (inr l) = high l (below_or_from 0 n)

pub disjoint_as : (a b n len len' : ℕ) → len ≡ len' → Disjoint a b n len → Disjoint a b n len'
disjoint_as a b n len len' e h = subst (Disjoint a b n) e h

-- ---- weighted sums

pub weighted_same : (ws : List ℕ) (f g : ℕ → ℕ) → ((v : ℕ) → v < length ws → f v ≡ g v) → weighted ws f ≡ weighted ws g
unfolding weighted
weighted_same [] f g h = refl
weighted_same (w ∷ ws) f g h =
    ap₂ (λ (x y : ℕ). w ⊗ x ⊕ y) (h 0 (omega arith)) (weighted_same ws (λ v. f (suc v)) (λ v. g (suc v)) (λ v l. h (suc v) (omega arith)))

weighted_past : (ws : List ℕ) (f : ℕ → ℕ) (v : ℕ) → length ws ≤ v → weighted (drop v ws) f ≡ 0
unfolding weighted
weighted_past [] f zero h = refl
weighted_past [] f (suc v) h = refl
weighted_past (w ∷ ws) f zero h = absurd (omega arith)
weighted_past (w ∷ ws) f (suc v) h = weighted_past ws f v (omega arith)

weighted-cons : (ws : List ℕ) (f : ℕ → ℕ) (v : ℕ) → v < length ws → weighted (drop v ws) f ≡ get_or ws v 0 ⊗ f 0 ⊕ weighted (drop (suc v) ws) (λ u. f (suc u))
unfolding weighted
weighted-cons [] f v h = absurd (omega arith)
weighted-cons (w ∷ ws) f zero h = refl
weighted-cons (w ∷ ws) f (suc v) h = weighted-cons ws f v (omega arith)

-- ys holds, beside what xs held, the slots from number v on by their weights
pub record Gathering (ws : List ℕ) (a b d n : ℕ) (xs ys : List ℕ) (v : ℕ) : Type 0 where
  pub long : length ys ≡ length xs
  pub on : (q : ℕ) → q < n → get_or ys (a + q) 0 ≡ get_or xs (a + q) 0 ⊕ weighted (drop v ws) (λ u. slots_at xs b d q (v + u))
  pub off : (i : ℕ) → Outside a n i → get_or ys i 0 ≡ get_or xs i 0

pub gathering_start : (ws : List ℕ) (a b d n : ℕ) (xs : List ℕ) → Gathering ws a b d n xs xs (length ws)
gathering_start ws a b d n xs =
    record {
      long = refl;
      on = λ q l. sym (ap (λ (x : ℕ). get_or xs (a + q) 0 ⊕ x) (weighted_past ws _ (length ws) (omega arith)) ∙ add-zero _);
      off = λ i h. refl;
    }

regroup : (a w x y : ℕ) → a ⊕ y ⊕ w ⊗ x ≡ a ⊕ (w ⊗ x ⊕ y)
regroup a w x y = simp sums

pub gathering_turn : (ws : List ℕ) (a b d n : ℕ) (xs ys zs : List ℕ) (m v len : ℕ) → m ≡ v + 1 → v < length ws → Sources (length ws) a b d n len
    → Gathering ws a b d n xs ys m → Within (λ (x y : ℕ). x ⊕ get_or ws v 0 ⊗ y) a (b + v * d) n ys zs → Gathering ws a b d n xs zs v
gathering_turn ws a b d n xs ys zs m v len em hv s t x =
    record { long = x.long ∙ t.long; on = on; off = λ i h. x.off i h ∙ t.off i h }
  where
    on : (q : ℕ) → q < n → get_or zs (a + q) 0 ≡ get_or xs (a + q) 0 ⊕ weighted (drop v ws) (λ u. slots_at xs b d q (v + u))
    on q l =
        x.on q l
        ∙ ap₂ (λ (y z : ℕ). y ⊕ get_or ws v 0 ⊗ z) (t.on q l) (t.off (b + v * d + q) (s.apart v q hv l))
        ∙ regroup (get_or xs (a + q) 0) (get_or ws v 0) (slots_at xs b d q v) _
        ∙ ap₂ (λ (y z : ℕ). get_or xs (a + q) 0 ⊕ (get_or ws v 0 ⊗ y ⊕ z)) (ap (slots_at xs b d q) (omega arith))
        (ap (λ (k : ℕ). weighted (drop k ws) (λ u. slots_at xs b d q (m + u))) (em ∙ add-one v)
        ∙ weighted_same (drop (suc v) ws) (λ u. slots_at xs b d q (m + u)) (λ u. slots_at xs b d q (v + suc u)) (λ u h. ap (slots_at xs b d q) (omega arith)))
        ∙ ap (λ (y : ℕ). get_or xs (a + q) 0 ⊕ y) (sym (weighted-cons ws (λ u. slots_at xs b d q (v + u)) v hv))

pub gathering_done : (ws : List ℕ) (a b d n : ℕ) (xs ys : List ℕ) (v : ℕ) → v ≤ 0 → Gathering ws a b d n xs ys v → Gathered ws a b d n xs ys
gathering_done ws a b d n xs ys zero h t =
    record {
      long = t.long;
      on = λ q l.
          t.on q l ∙ ap (λ (x : ℕ). get_or xs (a + q) 0 ⊕ x) (weighted_same ws _ (slots_at xs b d q) (λ u m. ap (slots_at xs b d q) (omega arith)));
      off = t.off;
    }
gathering_done ws a b d n xs ys (suc v) h t = absurd (omega arith)

-- ---- slots apart

-- a place of one slot stands outside another
pub slot_off : (a d n u v q : ℕ) → (u ≡ v → ⊥) → q < n → n ≤ d → Outside (a + v * d) n (a + u * d + q)
slot_off a d n u v q ne h k = go (below_or_from u v)
  where
    go : (u < v) ⊎ (v ≤ u) → Outside (a + v * d) n (a + u * d + q)
    go (inl l) = inl (omega (arith, mul-le-mul_right d l, add-mul u 1 d))
    go (inr l) = inr (omega (arith, mul-le-mul_right d (later v u ne l), add-mul v 1 d))
      where
        later : (v u : ℕ) → (u ≡ v → ⊥) → v ≤ u → v < u
        later v u ne l = pick (below_or_from v u)
          where
            pick : (v < u) ⊎ (u ≤ v) → v < u
            pick (inl m) = m
            pick (inr m) = absurd (ne (omega arith))

-- ---- clearing

-- the slots from number u on have c times the slot before added
pub record Clearing (c e a d n : ℕ) (xs ys : List ℕ) (u : ℕ) : Type 0 where
  pub long : length ys ≡ length xs
  pub next : (q v : ℕ) → q < n → u ≤ v + 1 → v + 1 < e → slots_at ys a d q (v + 1) ≡ slots_at xs a d q (v + 1) ⊕ c ⊗ slots_at xs a d q v
  pub off : (i : ℕ) → OffSlots u e a d n i → get_or ys i 0 ≡ get_or xs i 0

pub clearing_start : (c e a d n : ℕ) (xs : List ℕ) → Clearing c e a d n xs xs e
clearing_start c e a d n xs = record { long = refl; next = λ q v hq h k. absurd (omega arith); off = λ i h. refl }

pub clearing_turn : (c e a d n : ℕ) (xs ys zs : List ℕ) (m u : ℕ) → m ≡ u + 1 → 0 < u → u < e → n ≤ d → Clearing c e a d n xs ys m
    → Within (λ (x y : ℕ). x ⊕ c ⊗ y) (a + u * d) (a + u * d - d) n ys zs → Clearing c e a d n xs zs u
clearing_turn c e a d n xs ys zs m u em hu he wide t x =
    record { long = x.long ∙ t.long; next = next; off = off }
  where
    off : (i : ℕ) → OffSlots u e a d n i → get_or zs i 0 ≡ get_or xs i 0
    off i h = x.off i (h u (omega arith) he) ∙ t.off i (λ v l k. h v (omega arith) k)

    -- slots below number m are as they were
    before : (q v : ℕ) → q < n → v < m → slots_at ys a d q v ≡ slots_at xs a d q v
    before q v hq l = t.off (a + v * d + q) (λ w k g. slot_off a d n v w q (λ y. omega arith) hq wide)

    next : (q v : ℕ) → q < n → u ≤ v + 1 → v + 1 < e → slots_at zs a d q (v + 1) ≡ slots_at xs a d q (v + 1) ⊕ c ⊗ slots_at xs a d q v
    next q v hq l k = go (below_or_from u (v + 1))
      where
        go : (u < v + 1) ⊎ (v + 1 ≤ u) → slots_at zs a d q (v + 1) ≡ slots_at xs a d q (v + 1) ⊕ c ⊗ slots_at xs a d q v
        go (inl g) = x.off (a + (v + 1) * d + q) (slot_off a d n (v + 1) u q (λ y. omega arith) hq wide) ∙ t.next q v hq (omega arith) k
        go (inr g) =
            let w : u ≡ v + 1 = omega arith in
            let here : a + u * d - d ≡ a + v * d = omega (arith, ap (λ (y : ℕ). y * d) w, add-mul v 1 d) in
            ap (slots_at zs a d q) (sym w) ∙ x.on q hq
            ∙ ap₂ (λ (y z : ℕ). y ⊕ c ⊗ z) (before q u hq (omega arith) ∙ ap (slots_at xs a d q) w)
            (ap (λ (y : ℕ). get_or ys (y + q) 0) here ∙ before q v hq (omega arith))

pub clearing_done : (c e a d n : ℕ) (xs ys : List ℕ) (u : ℕ) → u ≤ 1 → 1 ≤ u → Clearing c e a d n xs ys u → Cleared c e a d n xs ys
clearing_done c e a d n xs ys u h k t =
    record {
      long = t.long;
      next = λ q v hq l. t.next q v hq (omega arith) l;
      off = λ i g. t.off i (λ v l m. g v (omega arith) m);
    }

-- ---- the first value

-- a list from a place on
pub rest : (xs : List ℕ) (a : ℕ) → take (length xs - a) (drop a xs) ≡ drop a xs
rest xs a = take_all (length xs - a) (drop a xs) (omega (arith, length-drop a xs))

first_gathered : (ws : List ℕ) (a d n : ℕ) (xs us : List ℕ) → Gathered (take (length ws - 1) (drop 1 ws)) a (a + d) d n xs us → (q : ℕ) → q < n
    → get_or us (a + q) 0 ≡ get_or xs (a + q) 0 ⊕ weighted (drop 1 ws) (slots_at xs (a + d) d q)
first_gathered ws a d n xs us g q h = g.on q h ∙ ap (λ (l : List ℕ). get_or xs (a + q) 0 ⊕ weighted l (slots_at xs (a + d) d q)) (rest ws 1)

-- the first weight is 1
pub first_one : (ws : List ℕ) (a d n : ℕ) (xs us : List ℕ) → Bytes us → get_or ws 0 0 ≡ 1 → Gathered (take (length ws - 1) (drop 1 ws)) a (a + d) d n xs us
    → First ws a d n xs us
first_one ws a d n xs us bytes e g =
    record {
      long = g.long;
      first = λ q h. sym (one-mul _ (bytes (a + q))) ∙ ap₂ ◌⊗◌ (inverse_one ∙ ap inverse_of (sym e)) (first_gathered ws a d n xs us g q h);
      others = g.off;
    }
  where
    inverse_one : 1 ≡ inverse_of 1
    inverse_one = inverse_unique 1 1 (lit< tt) (lit< tt) (lit< tt) (one-mul 1 (lit< tt))

pub first_made : (ws : List ℕ) (a d n i : ℕ) (xs us zs : List ℕ) → a + n ≤ length us → Gathered (take (length ws - 1) (drop 1 ws)) a (a + d) d n xs us
    → i ≡ inverse_of (get_or ws 0 0) → zs ≡ map (λ (x : ℕ). i ⊗ x) (take (a + n - a) (drop a us)) → First ws a d n xs (put_mid a (a + n - a) us zs)
first_made ws a d n i xs us zs fits g ei ez =
    record { long = back_length us zs a n long fits ∙ g.long; first = first; others = λ j h. back_outside us zs a n long fits j h ∙ g.off j h }
  where
    part : List ℕ
    part = take (a + n - a) (drop a us)

    long : length zs ≡ n
    long = ap length ez ∙ length-map part (λ (x : ℕ). i ⊗ x) ∙ part_length us a n fits

    first : (q : ℕ) → q < n
        → get_or (put_mid a (a + n - a) us zs) (a + q) 0 ≡ inverse_of (get_or ws 0 0) ⊗ (get_or xs (a + q) 0 ⊕ weighted (drop 1 ws) (slots_at xs (a + d) d q))
    first q h =
        back_inside us zs a n long fits q h ∙ ap (λ (l : List ℕ). get_or l q 0) ez ∙ map_at (λ (x : ℕ). i ⊗ x) part q (omega (arith, part_length us a n fits))
        ∙ ap₂ ◌⊗◌ ei (part_at us a n q h ∙ first_gathered ws a d n xs us g q h)

-- ---- the step of solving

apart_at : (a : ℕ) (bs ws : List ℕ) (v : ℕ) → v < length bs → length bs ≡ length ws → get_or (apart a bs ws) v 0 ≡ get_or ws v 0 ⊗ (get_or bs v 0 ⊕ a)
unfolding apart
apart_at a [] ws v h e = absurd (not-suc-le-zero h)
apart_at a (b ∷ bs) [] v h e = absurd (suc-ne-zero (length bs) e)
apart_at a (b ∷ bs) (w ∷ ws) zero h e = refl
apart_at a (b ∷ bs) (w ∷ ws) (suc v) h e = apart_at a bs ws v (le_of_suc-le-suc h) (suc_inj e)

-- by their weights the values are their first sum
weighted_moment : (bs ws cs : List ℕ) (f : ℕ → ℕ) → length bs ≡ length ws → length bs ≡ length cs → Bytes cs
    → ((v : ℕ) → v < length bs → f v ≡ get_or cs v 0) → weighted ws f ≡ moment bs ws cs 0
unfolding weighted moment
weighted_moment [] [] cs f e g b h = refl
weighted_moment [] (w ∷ ws) cs f e g b h = absurd (suc-ne-zero (length ws) (sym e))
weighted_moment (p ∷ bs) [] cs f e g b h = absurd (suc-ne-zero (length bs) e)
weighted_moment (p ∷ bs) (w ∷ ws) [] f e g b h = absurd (suc-ne-zero (length bs) g)
weighted_moment (p ∷ bs) (w ∷ ws) (c ∷ cs) f e g b h =
    ap₂ (λ (x y : ℕ). w ⊗ x ⊕ y) (h 0 (omega arith))
    (weighted_moment bs ws cs (λ v. f (suc v)) (suc_inj e) (suc_inj g) (λ i. b (suc i)) (λ v l. h (suc v) (omega arith)))
    ∙ ap (λ (x : ℕ). x ⊕ moment bs ws cs 0)
    (sym (ap (λ (x : ℕ). w ⊗ x ⊗ c) (power_zero p) ∙ mul_assoc w 1 c ∙ ap (λ (x : ℕ). w ⊗ x) (one-mul c (b 0))))

-- the slots of a buffer from the second on
later_slot : (a d q v : ℕ) → a + d + v * d + q ≡ a + (v + 1) * d + q
later_slot a d q v = omega (arith, add-mul v 1 d)

module _ (b w : ℕ) (bs ws : List ℕ) (a d n : ℕ) (xs ys ap' us out : List ℕ) (same : length bs ≡ length ws) (few : length bs ≤ 2) (wide : n ≤ d)
    (c : Cleared b (suc (length bs)) a d n xs ys) (ap-is : SetApart (b ∷ bs) (w ∷ ws) ap')
    (s : Solved bs (take (length bs) ap') (a + d) d n ys us) (f : First (w ∷ ws) a d n us out) where
  weights_are : take (length bs) ap' ≡ apart b bs ws
  weights_are =
      ext_get_or 0 _ _ (length-take-le (length bs) ap' (omega (arith, ap-is.long)) ∙ apart-length b bs ws same)
      (λ v h. at v (subst (λ (z : ℕ). v < z) (length-take-le (length bs) ap' (omega (arith, ap-is.long))) h))
    where
      at : (v : ℕ) → v < length bs → get_or (take (length bs) ap') v 0 ≡ get_or (apart b bs ws) v 0
      at v h =
          get_or-take (length bs) ap' v 0 h ∙ ap-is.at v (omega arith)
          ∙ ap (λ (n : ℕ). get_or (w ∷ ws) n 0 ⊗ (get_or (b ∷ bs) n 0 ⊕ b)) (add-one v) ∙ sym (apart_at b bs ws v h same)

  sums_are : (q : ℕ) → q < n → (u : ℕ) → u < length bs → slots_at ys (a + d) d q u ≡ cleared b (slots_at xs a d q) u
  unfolding cleared
  sums_are q hq u hu =
      ap (λ (z : ℕ). get_or ys z 0) (later_slot a d q u) ∙ c.next q u hq (omega arith)
      ∙ ap (λ (z : ℕ). slots_at xs a d q z ⊕ b ⊗ slots_at xs a d q u) (add-one u)

  abbrev values : ℕ → List ℕ
  values q = solve bs (apart b bs ws) (cleared b (slots_at xs a d q))

  values_are : (q v : ℕ) → q < n → v < length bs → slots_at us (a + d) d q v ≡ get_or (values q) v 0
  values_are q v hq hv =
      s.at q v hq hv
      ∙ ap (λ (l : List ℕ). get_or l v 0)
      (ap (λ (l : List ℕ). solve bs l (slots_at ys (a + d) d q)) weights_are
      ∙ solve_same bs (apart b bs ws) (slots_at ys (a + d) d q) (cleared b (slots_at xs a d q)) (sums_are q hq))

  -- the first slot is as it was
  first_kept : (q : ℕ) → q < n → get_or us (a + q) 0 ≡ slots_at xs a d q 0
  first_kept q hq =
      s.off (a + q) (λ v l h. inl (omega arith))
      ∙ ap (λ (z : ℕ). get_or ys z 0) (omega arith)
      ∙ c.off (a + 0 * d + q) (λ v l h. slot_off a d n 0 v q (λ y. omega arith) hq wide)

  first_is : (q : ℕ) → q < n → get_or out (a + q) 0 ≡ inverse_of w ⊗ (slots_at xs a d q 0 ⊕ moment bs ws (values q) 0)
  first_is q hq =
      f.first q hq
      ∙ ap₂ (λ (x y : ℕ). inverse_of w ⊗ (x ⊕ y)) (first_kept q hq)
      (weighted_moment bs ws (values q) (slots_at us (a + d) d q) same
      (sym (solve-length bs (apart b bs ws) (cleared b (slots_at xs a d q)) (apart-length b bs ws same)))
      (solve_bytes bs (apart b bs ws) (cleared b (slots_at xs a d q)))
      (λ v hv. values_are q v hq hv))

  pub solved_step : Solved (b ∷ bs) (w ∷ ws) a d n xs out
  unfolding solve
  solved_step = record { long = f.long ∙ s.long ∙ c.long; at = at; off = off }
    where
      at : (q v : ℕ) → q < n → v < suc (length bs) → slots_at out a d q v ≡ get_or (solve (b ∷ bs) (w ∷ ws) (slots_at xs a d q)) v 0
      at q zero hq hv = ap (λ (n : ℕ). get_or out n 0) (omega arith) ∙ first_is q hq
      at q (suc v) hq hv =
          ap (λ (z : ℕ). slots_at out a d q z) (sym (add-one v))
          ∙ f.others (a + (v + 1) * d + q) (inr (omega (arith, add-mul v 1 d)))
          ∙ ap (λ (z : ℕ). get_or us z 0) (sym (later_slot a d q v)) ∙ values_are q v hq (le_of_suc-le-suc hv)

      off : (i : ℕ) → OffSlots 0 (suc (length bs)) a d n i → get_or out i 0 ≡ get_or xs i 0
      off i h =
          f.others i (subst (λ (z : ℕ). Outside z n i) (omega arith) (h 0 (omega arith) (omega arith)))
          ∙ s.off i (λ v l k. subst (λ (z : ℕ). Outside z n i) (omega (arith, add-mul v 1 d)) (h (v + 1) (omega arith) (omega arith)))
          ∙ c.off i (λ v l k. h v (omega arith) k)

-- a list but its first entry
pub rest_long : (xs : List ℕ) → length xs - 1 ≡ length (take (length xs - 1) (drop 1 xs))
rest_long xs = sym (ap length (rest xs 1) ∙ length-drop 1 xs)

-- no points, no values
pub solved_none : (bs ws : List ℕ) (a d n : ℕ) (xs : List ℕ) → length bs ≡ 0 → Solved bs ws a d n xs xs
solved_none bs ws a d n xs h = record { long = refl; at = λ q v hq hv. absurd (omega arith); off = λ i g. refl }

less_one : (n : ℕ) → suc n - 1 ≡ n
less_one n = omega arith

pub solved_turn : (bs ws : List ℕ) (a d n : ℕ) (xs ys ap' us out : List ℕ) → (length bs ≡ 0 → ⊥) → length ws ≡ length bs → length bs ≤ most_rows → n ≤ d
    → Cleared (get_or bs 0 0) (length bs) a d n xs ys → SetApart bs ws ap'
    → Solved (take (length bs - 1) (drop 1 bs)) (take (length bs - 1) ap') (a + d) d n ys us
    → First ws a d n us out → Solved bs ws a d n xs out
solved_turn [] ws a d n xs ys ap' us out some e few wide c p s f = absurd (some refl)
solved_turn (b ∷ bs) [] a d n xs ys ap' us out some e few wide c p s f = absurd (suc-ne-zero (length bs) (sym e))
solved_turn (b ∷ bs) (w ∷ ws) a d n xs ys ap' us out some e few wide c p s f =
    solved_step b w bs ws a d n xs ys ap' us out (sym (suc_inj e)) (le_of_suc-le-suc few) wide c p
    (subst (λ (l : List ℕ). Solved l (take (length bs) ap') (a + d) d n ys us) (take_all (length bs) bs (omega arith))
    (subst (λ (k : ℕ). Solved (take k bs) (take k ap') (a + d) d n ys us) (less_one (length bs)) s))
    f

-- one point at most: there is nothing to clear, and there are no others
pub solved_last : (bs ws : List ℕ) (a d n : ℕ) (xs out : List ℕ) → (length bs ≡ 0 → ⊥) → length ws ≡ length bs → length bs ≤ 1 → n ≤ d
    → First ws a d n xs out → Solved bs ws a d n xs out
solved_last bs ws a d n xs out some e one wide f =
    solved_turn bs ws a d n xs xs (0 ∷ 0 ∷ 0 ∷ []) xs out some e (omega (arith, one)) wide
    (record { long = refl; next = λ q v hq h. absurd (omega arith); off = λ i h. refl })
    (record { long = refl; at = λ v h. absurd (omega arith) })
    (solved_none _ _ _ _ _ _ (omega (arith, rest_long bs)))
    f

-- ---- what the functions ask of each other

pub first_sources : (e a d n len : ℕ) → Spaced e a d n len → 0 < e → Sources (e - 1) a (a + d) d n len
first_sources e a d n len s h =
    record {
      few = omega (arith, s.few);
      small = s.small;
      target = omega (arith, s.room 0 h);
      source = λ v l. omega (arith, s.room (v + 1) (omega arith), add-mul v 1 d);
      apart = λ v q l k. inr (omega (arith, s.wide));
    }

pub spaced_as : (e e' a d n len len' : ℕ) → e ≡ e' → len ≡ len' → Spaced e a d n len → Spaced e' a d n len'
spaced_as e e' a d n len len' p q s =
    subst (λ (x : ℕ). Spaced x a d n len') p (subst (λ (x : ℕ). Spaced e a d n x) q s)

pub sources_as : (e e' a b d n len : ℕ) → e ≡ e' → Sources e a b d n len → Sources e' a b d n len
sources_as e e' a b d n len p s = subst (λ (x : ℕ). Sources x a b d n len) p s
