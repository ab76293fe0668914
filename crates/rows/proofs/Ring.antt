-- The ring of slots: slot m after slot s holds coefficient m of the quotient of the columns taken in so far, at each of 64 places. Taking in the
-- column before them overwrites the coefficient that is needed no more.
use mathlib.Core.Path.{◌≡◌, refl, sym, ap, ap₂, ◌∙◌}
use mathlib.Core.List.{List, ◌∷◌}
use mathlib.Core.Logic.{◌⊎◌, inl, inr, ⊎_elim}
use Prim.Native.Nat.{ℕ, zero, suc, ◌+◌, ◌*◌, ◌-◌, ◌%◌, ◌<◌, ◌≤◌}
use native.Mathlib.Nat.{mod-lt}
use native.Mathlib.Omega.{arith}
use lib.Dec.{lit<}
use lib.ListN.{length, get_or, take, drop, replicate, length-replicate}
use Rattle.field.specs.Field.{◌⊕◌}
use Rattle.field.specs.Bytes.{Bytes}
use Rattle.field.specs.Row.{row}
use Rattle.field.proofs.Cases.{below_or_from}
use Rattle.lanes.specs.Lanes.{onto}
use Rattle.lanes.proofs.Onto.{onto_at, onto_past, onto-length}
use Rattle.lanes.proofs.Parts.{part_length, part_at, copied}
use Rattle.stripe.specs.Stripe.{across}
use Rattle.stripe.specs.Shape.{most_rows}
use Rattle.stripe.proofs.Places.{across_bytes}
use Rattle.rows.specs.Rows.{RowIn, Put}
use Rattle.rows.specs.Remainder.{slot, Taken, Settled}
use Rattle.rows.proofs.Remainder.{next, quotient, remainder, remainder_rows}

abbrev xor : ℕ → ℕ → ℕ
xor x y = x ⊕ y

-- ---- slots

slot_lt : (s m : ℕ) → slot s m < 14
unfolding slot
slot_lt s m = mod-lt (s + m) (lit< tt)

pub slot_small : (v s m : ℕ) → v ≡ slot s m → v < 14
slot_small v s m e = omega (arith, slot_lt s m)

pub slot_near : (s m : ℕ) → s + m < 14 → s + m ≡ slot s m
unfolding slot
slot_near s m h = omega arith

pub slot_round : (s m : ℕ) → s < 14 → m < 14 → 14 ≤ s + m → s + m - 14 ≡ slot s m
unfolding slot
slot_round s m hs hm h = omega arith

pub slot_of : (s i : ℕ) → 0 < i → s ≡ i % 14 → slot s 13 ≡ (i - 1) % 14
unfolding slot
slot_of s i h e = omega arith

slot-zero : (s : ℕ) → s < 14 → slot s 0 ≡ s
unfolding slot
slot-zero s h = omega arith

slot_before : (s m : ℕ) → m < 13 → slot (slot s 13) (suc m) ≡ slot s m
unfolding slot
slot_before s m h = omega arith

slot_apart : (s m : ℕ) → m < 13 → slot s 13 ≤ slot s m → slot s 13 < slot s m
unfolding slot
slot_apart s m h g = omega arith

slot_other : (s m : ℕ) → m < 13 → (slot s m < slot s 13) ⊎ (slot s 13 < slot s m)
slot_other s m h = ⊎_elim inl (λ g. inr (slot_apart s m h g)) (below_or_from (slot s m) (slot s 13))

-- ---- one step

module _ (s : ℕ) (w d y a b : List ℕ) (y-long : length y ≡ 64) (d_long : length d ≡ 64) (a-long : length a ≡ 64) (b-long : length b ≡ 64)
    (y-at : (q : ℕ) → q < 64 → get_or y q 0 ≡ get_or w (s * 64 + q) 0) (a_at : (q : ℕ) → q < 64 → get_or a q 0 ≡ get_or w (slot s 10 * 64 + q) 0)
    (b_at : (q : ℕ) → q < 64 → get_or b q 0 ≡ get_or w (slot s 13 * 64 + q) 0) where
  abbrev with_d : List ℕ
  with_d = onto (λ (x y : ℕ). x ⊕ y) y d

  abbrev with_a : List ℕ
  with_a = onto (λ (x y : ℕ). x ⊕ y) with_d a

  d_length : length with_d ≡ 64
  d_length = onto-length xor y d ∙ y-long

  a_length : length with_a ≡ 64
  a_length = onto-length xor with_d a ∙ d_length

  sum_at_lem : (q : ℕ) → q < 64
      → get_or (onto (λ (x y : ℕ). x ⊕ y) with_a b) q 0 ≡ get_or w (s * 64 + q) 0 ⊕ get_or d q 0 ⊕ get_or w
      (slot s 10 * 64 + q) 0 ⊕ get_or w (slot s 13 * 64 + q) 0
  sum_at_lem q h =
      onto_at xor with_a b q (omega (arith, a_length)) (omega (arith, b-long))
      ∙ ap₂ xor (onto_at xor with_d a q (omega (arith, d_length)) (omega (arith, a-long))
      ∙ ap₂ xor (onto_at xor y d q (omega (arith, y-long)) (omega (arith, d_long)) ∙ ap (λ (x : ℕ). x ⊕ get_or d q 0) (y-at q h)) (a_at q h)) (b_at q h)

  pub taken : (e f g v : List ℕ) → e ≡ with_d → f ≡ onto (λ (x y : ℕ). x ⊕ y) e a → g ≡ onto (λ (x y : ℕ). x ⊕ y) f b → Put w (s * 64) 64 g v
      → Taken s d w v
  taken e f g v ie jf kg put =
      record {
        own = λ q h. put.inside q h
            ∙ ap (λ (l : List ℕ). get_or l q 0) (kg ∙ ap (λ (l : List ℕ). onto xor l b) (jf ∙ ap (λ (l : List ℕ). onto xor l a) ie))
            ∙ sum_at_lem q h;
        others = put.outside;
        long = put.long;
      }

-- ---- the end

module _ (w t u v : List ℕ) (long : length w ≡ 896) (is : t ≡ onto (λ (x y : ℕ). y) (replicate 256 0) (take (896 - 640) (drop 640 w)))
    (iu : u ≡ onto (λ (x y : ℕ). x ⊕ y) w t) (iv : v ≡ onto (λ (x y : ℕ). x ⊕ y) u (take (256 - 192) (drop 192 t))) where
  t_long : length t ≡ 256
  t_long = ap length is ∙ onto-length (λ (x y : ℕ). y) (replicate 256 0) _ ∙ length-replicate {A = ℕ} 256 0

  t_at : (i : ℕ) → i < 256 → get_or t i 0 ≡ get_or w (640 + i) 0
  t_at i h = copied w (replicate 256 0) t 640 256 (omega (arith, long)) (omega (arith, length-replicate {A = ℕ} 256 0)) is i h

  u_long : length u ≡ 896
  u_long = ap length iu ∙ onto-length xor w t ∙ long

  end_long : length (take (256 - 192) (drop 192 t)) ≡ 64
  end_long = part_length t 192 64 (omega (arith, t_long))

  u_at : (i : ℕ) → i < 256 → get_or u i 0 ≡ get_or w i 0 ⊕ get_or w (640 + i) 0
  u_at i h =
      ap (λ (l : List ℕ). get_or l i 0) iu ∙ onto_at xor w t i (omega (arith, long)) (omega (arith, t_long)) ∙ ap (λ (x : ℕ). get_or w i 0 ⊕ x) (t_at i h)

  past : (i : ℕ) → 64 ≤ i → get_or v i 0 ≡ get_or u i 0
  past i h = ap (λ (l : List ℕ). get_or l i 0) iv ∙ onto_past xor u _ i (omega (arith, end_long))

  pub settled : Settled w v
  settled =
      record {
        first = λ q h. ap (λ (l : List ℕ). get_or l q 0) iv ∙ onto_at xor u _ q (omega (arith, u_long)) (omega (arith, end_long))
            ∙ ap₂ xor (u_at q (omega arith)) (part_at t 192 64 q h ∙ t_at (192 + q) (omega arith) ∙ ap (λ (i : ℕ). get_or w i 0) (omega arith));
        second = λ i h g. past i h ∙ u_at i g;
        others = λ i h. past i (omega arith) ∙ ap (λ (l : List ℕ). get_or l i 0) iu ∙ onto_past xor w t i (omega (arith, t_long));
      }

-- ---- the loop

-- w holds the last coefficients of the quotient of the n columns from o on, from slot s on, at the 64 places from `from` on
abbrev pub Window : List ℕ → ℕ → ℕ → ℕ → ℕ → ℕ → List ℕ → Type 0
Window xs l from o n s w = (q m : ℕ) → q < 64 → m < 14 → get_or w (slot s m * 64 + q) 0 ≡ get_or (quotient (across xs l (from + q) o n)) m 0

zeros : (n q : ℕ) → ◌≡◌ {A = ℕ} (get_or (replicate n 0) q 0) 0
zeros zero q = refl
zeros (suc n) zero = refl
zeros (suc n) (suc q) = zeros n q

nothing : (xs : List ℕ) (l p o m : ℕ) → get_or (quotient (across xs l p o 0)) m 0 ≡ 0
unfolding quotient across
nothing xs l p o m = refl

pub start : (xs : List ℕ) (l from o n s : ℕ) → n ≡ 0 → Window xs l from o n s (replicate 896 0)
start xs l from o n s e q m hq hm =
    zeros 896 (slot s m * 64 + q) ∙ sym (ap (λ (x : ℕ). get_or (quotient (across xs l (from + q) o x)) m 0) e ∙ nothing xs l (from + q) o m)

module _ (xs : List ℕ) (l from u o n z s s' : ℕ) (w v d : List ℕ) (back : o ≡ u + l) (e : z ≡ suc n) (es : s' ≡ slot s 13) (t : Taken s' d w v)
    (d-at : (q : ℕ) → q < 64 → get_or d q 0 ≡ get_or xs (u + from + q) 0) (h : Window xs l from o n s w) where
  abbrev before : ℕ → List ℕ
  before q = quotient (across xs l (from + q) o n)

  quotient_is : (q : ℕ) → quotient (across xs l (from + q) u z) ≡ next (get_or xs (u + (from + q)) 0) (before q) ∷ before q
  unfolding across quotient
  quotient_is q =
      ap (λ (x : ℕ). quotient (across xs l (from + q) u x)) e
      ∙ ap (λ (x : ℕ). next (get_or xs (u + (from + q)) 0) (quotient (across xs l (from + q) x n)) ∷ quotient (across xs l (from + q) x n)) (sym back)

  in_slot : (q m p : ℕ) → q < 64 → m < 14 → p ≡ slot s m → get_or w (p * 64 + q) 0 ≡ get_or (before q) m 0
  in_slot q m p hq hm ep = ap (λ (x : ℕ). get_or w (x * 64 + q) 0) ep ∙ h q m hq hm

  fresh : (q : ℕ) → q < 64 → get_or v (s' * 64 + q) 0 ≡ next (get_or xs (u + (from + q)) 0) (before q)
  unfolding next
  fresh q hq =
      t.own q hq
      ∙ ap₂ xor (ap₂ xor (ap₂ xor (in_slot q 13 s' hq (lit< tt) es) (d-at q hq ∙ ap (λ (x : ℕ). get_or xs x 0) (omega arith)))
      (in_slot q 9 _ hq (lit< tt) (ap (λ (x : ℕ). slot x 10) es ∙ slot_before s 9 (lit< tt))))
      (in_slot q 12 _ hq (lit< tt) (ap (λ (x : ℕ). slot x 13) es ∙ slot_before s 12 (lit< tt)))

  kept : (q m : ℕ) → q < 64 → m < 13 → get_or v (slot s m * 64 + q) 0 ≡ get_or (before q) m 0
  kept q m hq hm = t.others (slot s m * 64 + q) (⊎_elim (λ g. inl (omega arith)) (λ g. inr (omega arith)) (slot_other s m hm)) ∙ h q m hq (omega arith)

  pub turn : Window xs l from u z s' v
  turn q zero hq hm =
      ap (λ (x : ℕ). get_or v (x * 64 + q) 0) (slot-zero s' (omega (arith, slot_lt s 13))) ∙ fresh q hq
      ∙ sym (ap (λ (qs : List ℕ). get_or qs 0 0) (quotient_is q))
  turn q (suc m) hq hm =
      ap (λ (x : ℕ). get_or v (x * 64 + q) 0) (ap (λ (x : ℕ). slot x (suc m)) es ∙ slot_before s m (omega arith)) ∙ kept q m hq (omega arith)
      ∙ sym (ap (λ (qs : List ℕ). get_or qs (suc m) 0) (quotient_is q))

-- ---- the rows

module _ (w v qs : List ℕ) (q : ℕ) (hq : q < 64) (st : Settled w v) (at : (m : ℕ) → m < 14 → get_or w (m * 64 + q) 0 ≡ get_or qs m 0) where
  head : get_or v (0 + q) 0 ≡ get_or qs 0 0 ⊕ get_or qs 10 0 ⊕ get_or qs 13 0
  head =
      ap (λ (i : ℕ). get_or v i 0) (omega arith) ∙ st.first q hq
      ∙ ap₂ xor (ap₂ xor (ap (λ (i : ℕ). get_or w i 0) (omega arith) ∙ at 0 (lit< tt)) (at 10 (lit< tt))) (at 13 (lit< tt))

  with_ten : (m p : ℕ) → p ≡ m * 64 + q → 1 ≤ m → m < 4 → get_or v p 0 ≡ get_or qs m 0 ⊕ get_or qs (m + 10) 0
  with_ten m p e h g =
      ap (λ (i : ℕ). get_or v i 0) e ∙ st.second (m * 64 + q) (omega arith) (omega arith)
      ∙ ap₂ xor (at m (omega arith)) (ap (λ (i : ℕ). get_or w i 0) (omega arith) ∙ at (m + 10) (omega arith))

  same : (m p : ℕ) → p ≡ m * 64 + q → 4 ≤ m → m < 14 → get_or v p 0 ≡ get_or qs m 0
  same m p e h g = ap (λ (i : ℕ). get_or v i 0) e ∙ st.others (m * 64 + q) (omega arith) ∙ at m g

  columns : across v 64 (0 + q) 0 14 ≡ remainder qs
  unfolding across remainder
  columns =
      ap₂ ◌∷◌ (ap (λ (i : ℕ). get_or v i 0) (omega arith) ∙ head)
      (ap₂ ◌∷◌ (with_ten 1 _ (omega arith) (omega arith) (omega arith))
      (ap₂ ◌∷◌ (with_ten 2 _ (omega arith) (omega arith) (omega arith))
      (ap₂ ◌∷◌ (with_ten 3 _ (omega arith) (omega arith) (omega arith))
      (ap₂ ◌∷◌ (same 4 _ (omega arith) (omega arith) (omega arith))
      (ap₂ ◌∷◌ (same 5 _ (omega arith) (omega arith) (omega arith))
      (ap₂ ◌∷◌ (same 6 _ (omega arith) (omega arith) (omega arith))
      (ap₂ ◌∷◌ (same 7 _ (omega arith) (omega arith) (omega arith))
      (ap₂ ◌∷◌ (same 8 _ (omega arith) (omega arith) (omega arith))
      (ap₂ ◌∷◌ (same 9 _ (omega arith) (omega arith) (omega arith))
      (ap₂ ◌∷◌ (same 10 _ (omega arith) (omega arith) (omega arith))
      (ap₂ ◌∷◌ (same 11 _ (omega arith) (omega arith) (omega arith))
      (ap₂ ◌∷◌ (same 12 _ (omega arith) (omega arith) (omega arith))
      (ap₂ ◌∷◌ (same 13 _ (omega arith) (omega arith) (omega arith)) refl)))))))))))))

done : (xs : List ℕ) (k l from j o n s : ℕ) (w v b : List ℕ) → j < most_rows → Bytes xs → o ≡ 0 → n ≡ k → s ≡ 0 → Window xs l from o n s w → Settled w v
    → RowIn v 14 64 0 64 j b → RowIn xs k l from 64 j b
done xs k l from j o n s w v b hj bytes eo en es h st r q hq =
    r q hq ∙ ap (row j) (columns w v (quotient (across xs l (from + q) o n)) q hq st at)
    ∙ remainder_rows j (across xs l (from + q) o n) hj (across_bytes xs l (from + q) o n bytes)
    ∙ ap₂ (λ (x y : ℕ). row j (across xs l (from + q) x y)) eo en
  where
    at : (m : ℕ) → m < 14 → get_or w (m * 64 + q) 0 ≡ get_or (quotient (across xs l (from + q) o n)) m 0
    at m hm =
        let none : m ≡ 0 + m = omega arith in
        ap (λ (x : ℕ). get_or w (x * 64 + q) 0) (none ∙ slot_near 0 m (omega arith) ∙ ap (λ (x : ℕ). slot x m) (sym es)) ∙ h q m hq hm

pub done3 : (xs : List ℕ) (k l from o n s : ℕ) (w v a b c : List ℕ) → Bytes xs → o ≡ 0 → n ≡ k → s ≡ 0 → Window xs l from o n s w → Settled w v
    → RowIn v 14 64 0 64 0 a × (RowIn v 14 64 0 64 1 b × RowIn v 14 64 0 64 2 c)
    → RowIn xs k l from 64 0 a × (RowIn xs k l from 64 1 b × RowIn xs k l from 64 2 c)
done3 xs k l from o n s w v a b c bytes eo en es h st r = (
  done xs k l from 0 o n s w v a (lit< tt) bytes eo en es h st r.0,
  (
    done xs k l from 1 o n s w v b (lit< tt) bytes eo en es h st r.1.0,
    done xs k l from 2 o n s w v c (lit< tt) bytes eo en es h st r.1.1,
  ),
)
