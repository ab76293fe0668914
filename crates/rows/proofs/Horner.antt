-- Horner's rule over columns, from the last to the first: a block that held row j of the columns from o on holds, after one step
-- with the column before, row j of one column more.
use mathlib.Core.Path.{◌≡◌, refl, sym, ap, ap₂, ◌∙◌}
use mathlib.Core.Bool.{Bool, cond}
use mathlib.Core.List.{List}
use Prim.Native.Nat.{ℕ, zero, suc, ◌+◌, ◌*◌, ◌-◌, ◌<◌, ◌≤◌}
use native.Mathlib.Omega.{arith}
use native.Mathlib.Nat.{mul-le-mul_right, zero-mul}
use lib.Dec.{ltb}
use borrow.Author.Tests.{lt-ltb, le-ltb}
use lib.ListN.{length, get_or, take, drop}
use Rattle.field.specs.Field.{◌⊕◌, ◌⊗◌, gpow, power, shifted, doubled}
use Rattle.field.specs.Bytes.{Bytes}
use Rattle.field.specs.Row.{row}
use Rattle.field.proofs.Xor.{add_comm, add_assoc}
use Rattle.field.proofs.Mul.{one-mul, mul-add, mul_assoc, gpow-zero}
use Rattle.field.proofs.Rows.{row_cons, row_lt, row_one}
use Rattle.lanes.specs.Lanes.{onto, both}
use Rattle.lanes.proofs.Onto.{onto_at, onto-length, both_at, both_long}
use Rattle.stripe.specs.Stripe.{across}
use Rattle.stripe.specs.Shape.{most_rows}
use Rattle.rows.specs.Rows.{step_of, RowIn}
use Rattle.lanes.proofs.Parts.{part_length, part_at}

-- a step of row j: g^j times the first and the second
abbrev pub Step : ℕ → (ℕ → ℕ → ℕ) → Type 0
Step j f = (x y : ℕ) → x < 256 → f x y ≡ gpow j ⊗ x ⊕ y

pub step_0 : Step 0 (λ (x y : ℕ). x ⊕ y)
step_0 x y h = ap (λ (z : ℕ). z ⊕ y) (sym (ap (λ (z : ℕ). z ⊗ x) gpow-zero ∙ one-mul x h))

pub step_1 : Step 1 (λ (x y : ℕ). 2 ⊗ x ⊕ y)
unfolding gpow power ◌⊗◌ shifted doubled ◌⊕◌
step_1 x y h = refl

pub step_2 : Step 2 (λ (x y : ℕ). 4 ⊗ x ⊕ y)
unfolding gpow power ◌⊗◌ shifted doubled ◌⊕◌
step_2 x y h = refl

-- the steps of the source
pub step_add : (j : ℕ) → j < 1 → (λ (x y : ℕ). x ⊕ y) ≡ step_of j
unfolding step_of
step_add j h = sym (ap {B = ℕ → ℕ → ℕ} (λ (b : Bool) (x y : ℕ). cond b (x ⊕ y) (cond (ltb j 2) (2 ⊗ x ⊕ y) (4 ⊗ x ⊕ y))) (lt-ltb j 1 h))

pub step_double : (j : ℕ) → 1 ≤ j → j < 2 → (λ (x y : ℕ). 2 ⊗ x ⊕ y) ≡ step_of j
unfolding step_of
step_double j h k =
    sym (ap {B = ℕ → ℕ → ℕ} (λ (b : Bool) (x y : ℕ). cond b (x ⊕ y) (cond (ltb j 2) (2 ⊗ x ⊕ y) (4 ⊗ x ⊕ y))) (le-ltb j 1 h)
    ∙ ap {B = ℕ → ℕ → ℕ} (λ (b : Bool) (x y : ℕ). cond b (2 ⊗ x ⊕ y) (4 ⊗ x ⊕ y)) (lt-ltb j 2 k))

pub step_quadruple : (j : ℕ) → 2 ≤ j → (λ (x y : ℕ). 4 ⊗ x ⊕ y) ≡ step_of j
unfolding step_of
step_quadruple j h =
    sym (ap {B = ℕ → ℕ → ℕ} (λ (b : Bool) (x y : ℕ). cond b (x ⊕ y) (cond (ltb j 2) (2 ⊗ x ⊕ y) (4 ⊗ x ⊕ y))) (le-ltb j 1 (omega arith))
    ∙ ap {B = ℕ → ℕ → ℕ} (λ (b : Bool) (x y : ℕ). cond b (2 ⊗ x ⊕ y) (4 ⊗ x ⊕ y)) (le-ltb j 2 h))

pub step_right : (j : ℕ) → j < most_rows → Step j (step_of j)
unfolding step_of
step_right zero h x y l = step_0 x y l
step_right (suc zero) h x y l = step_1 x y l
step_right (suc (suc zero)) h x y l = step_2 x y l
step_right (suc (suc (suc j))) h x y l = absurd (omega arith)

-- where a column starts, and the one after it
pub column_next : (x y l : ℕ) → y ≡ x + 1 → y * l ≡ x * l + l
column_next x y l e = ap (λ (z : ℕ). z * l) e ∙ omega arith

pub column_none : (x l : ℕ) → x ≡ 0 → x * l ≡ 0
column_none x l e = ap (λ (z : ℕ). z * l) e ∙ zero-mul l

-- column x of k lies in their bytes
pub column_fits : (len k l x : ℕ) → len ≡ k * l → x < k → x * l + l ≤ len
column_fits len k l x e h = omega (arith, mul-le-mul_right l h)

-- a of w bytes holds row j of the m columns from o on, at the n places from `from` on
pub record Held (xs : List ℕ) (l from n w j o m : ℕ) (a : List ℕ) : Type 0 where
  pub long : length a ≡ w
  pub at : (q : ℕ) → q < n → get_or a q 0 ≡ row j (across xs l (from + q) o m)

-- a list that holds the bytes of one column
pub first : (xs : List ℕ) (l from n w j o m : ℕ) (a : List ℕ) → Bytes xs → length a ≡ w → m ≡ 1 → ((q : ℕ) → q < n → get_or a q 0 ≡ get_or xs (o + from + q) 0)
    → Held xs l from n w j o m a
unfolding across
first xs l from n w j o m a b long e h =
    record {
      long = long;
      at =
          λ q p. h q p
          ∙ ap (λ (x : ℕ). get_or xs x 0) (omega arith)
          ∙ sym (ap (λ (x : ℕ). row j (across xs l (from + q) o x)) e ∙ row_one j _ (b (o + (from + q))));
    }

-- one column more: the column at u, before those from o on
one_more : (xs : List ℕ) (l p j u o m z : ℕ) → Bytes xs → o ≡ u + l → z ≡ suc m
    → gpow j ⊗ row j (across xs l p o m) ⊕ get_or xs (u + p) 0 ≡ row j (across xs l p u z)
unfolding across
one_more xs l p j u o m z b back e =
    add_comm _ _
    ∙ ap (λ (x : ℕ). get_or xs (u + p) 0 ⊕ gpow j ⊗ row j (across xs l p x m)) back
    ∙ sym (row_cons j (get_or xs (u + p) 0) (across xs l p (u + l) m) (b (u + p)))
    ∙ ap (λ (x : ℕ). row j (across xs l p u x)) (sym e)

pub turn : (xs : List ℕ) (l from n w j u o s m z : ℕ) (a b : List ℕ) (f : ℕ → ℕ → ℕ) → Step j f → Bytes xs → n ≤ w → o ≡ u + l → s ≡ u + from
    → s + n ≤ length xs → z ≡ suc m → Held xs l from n w j o m a → b ≡ onto f a (take (s + n - s) (drop s xs)) → Held xs l from n w j u z b
turn xs l from n w j u o s m z a b f st bytes nw back here fits e h is =
    record { long = ap length is ∙ onto-length f a d ∙ h.long; at = at }
  where
    d : List ℕ
    d = take (s + n - s) (drop s xs)

    at : (q : ℕ) → q < n → get_or b q 0 ≡ row j (across xs l (from + q) u z)
    at q p =
        ap (λ (x : List ℕ). get_or x q 0) is
        ∙ onto_at f a d q (omega (arith, h.long)) (omega (arith, part_length xs s n fits))
        ∙ ap₂ f (h.at q p) (part_at xs s n q p ∙ ap (λ (x : ℕ). get_or xs x 0) (omega arith))
        ∙ st _ _ (row_lt j (across xs l (from + q) o m))
        ∙ one_more xs l (from + q) j u o m z bytes back e

-- two columns more of row 2 at once
four_four : 4 ⊗ 4 ≡ 16
unfolding ◌⊗◌ shifted doubled ◌⊕◌
four_four = refl

two_steps : (x y z : ℕ) → 16 ⊗ x ⊕ (4 ⊗ y ⊕ z) ≡ 4 ⊗ (4 ⊗ x ⊕ y) ⊕ z
two_steps x y z =
    sym (add_assoc (16 ⊗ x) (4 ⊗ y) z)
    ∙ ap (λ (w : ℕ). w ⊗ x ⊕ 4 ⊗ y ⊕ z) (sym four_four)
    ∙ ap (λ (w : ℕ). w ⊕ 4 ⊗ y ⊕ z) (mul_assoc 4 4 x)
    ∙ ap (λ (w : ℕ). w ⊕ z) (sym (mul-add 4 (4 ⊗ x) y))

pub turn_two : (xs : List ℕ) (l from n w v u o s t m z : ℕ) (a b : List ℕ) → Bytes xs → n ≤ w → o ≡ u + l → u ≡ v + l → s ≡ u + from → t ≡ v + from
    → s + n ≤ length xs → z ≡ suc (suc m) → Held xs l from n w 2 o m a
    → b ≡ onto (λ (x y : ℕ). 16 ⊗ x ⊕ y) a (both (λ (x y : ℕ). 4 ⊗ x ⊕ y) (take (s + n - s) (drop s xs)) (take (t + n - t) (drop t xs)))
    → Held xs l from n w 2 v z b
turn_two xs l from n w v u o s t m z a b bytes nw back back' here there fits e h is =
    record { long = ap length is ∙ onto-length (λ (x y : ℕ). 16 ⊗ x ⊕ y) a _ ∙ h.long; at = at }
  where
    d : List ℕ
    d = take (s + n - s) (drop s xs)

    f : List ℕ
    f = take (t + n - t) (drop t xs)

    d_long : length d ≡ n
    d_long = part_length xs s n fits

    f_long : length f ≡ n
    f_long = part_length xs t n (omega arith)

    at : (q : ℕ) → q < n → get_or b q 0 ≡ row 2 (across xs l (from + q) v z)
    at q p =
        ap (λ (x : List ℕ). get_or x q 0) is
        ∙ onto_at (λ (x y : ℕ). 16 ⊗ x ⊕ y) a _ q (omega (arith, h.long))
        (omega (arith, both_long (λ (x y : ℕ). 4 ⊗ x ⊕ y) d f n (omega (arith, d_long)) (omega (arith, f_long))))
        ∙ ap₂ (λ (x y : ℕ). 16 ⊗ x ⊕ y) (h.at q p)
        (both_at (λ (x y : ℕ). 4 ⊗ x ⊕ y) d f q (omega (arith, d_long)) (omega (arith, f_long))
        ∙ ap₂ (λ (x y : ℕ). 4 ⊗ x ⊕ y) (part_at xs s n q p ∙ ap (λ (x : ℕ). get_or xs x 0) (omega arith))
        (part_at xs t n q p ∙ ap (λ (x : ℕ). get_or xs x 0) (omega arith)))
        ∙ two_steps (row 2 (across xs l (from + q) o m)) (get_or xs (u + (from + q)) 0) (get_or xs (v + (from + q)) 0)
        ∙ ap (λ (x : ℕ). 4 ⊗ x ⊕ get_or xs (v + (from + q)) 0) (step_2 _ _ (row_lt 2 _) ∙ one_more xs l (from + q) 2 u o m (suc m) bytes back refl)
        ∙ step_2 _ _ (row_lt 2 _)
        ∙ one_more xs l (from + q) 2 v u (suc m) z bytes back' e

pub done : (xs : List ℕ) (k l from n w j i o m : ℕ) (a : List ℕ) → i ≤ 0 → o ≡ i * l → m ≡ k - i → Held xs l from n w j o m a
    → RowIn xs k l from n j a
done xs k l from n w j i o m a h d e r q p =
    let first : o ≡ 0 = d ∙ ap (λ (x : ℕ). x * l) (omega arith) ∙ zero-mul l in
    let all : m ≡ k = omega arith in
    r.at q p ∙ ap₂ (λ (x y : ℕ). row j (across xs l (from + q) x y)) first all

-- ---- rows 0, 1 and 2 of a block together

pub record Held3 (xs : List ℕ) (l from o m : ℕ) (a b c : List ℕ) : Type 0 where
  pub row0 : Held xs l from 64 64 0 o m a
  pub row1 : Held xs l from 64 64 1 o m b
  pub row2 : Held xs l from 64 64 2 o m c

-- the 64 bytes from s on
abbrev block : List ℕ → ℕ → List ℕ
block xs s = take (s + 64 - s) (drop s xs)

pub first3 : (xs : List ℕ) (l from o m : ℕ) (a : List ℕ) → Bytes xs → length a ≡ 64 → m ≡ 1 → ((q : ℕ) → q < 64 → get_or a q 0 ≡ get_or xs (o + from + q) 0)
    → Held3 xs l from o m a a a
first3 xs l from o m a b long e h =
    record { row0 = first xs l from 64 64 0 o m a b long e h; row1 = first xs l from 64 64 1 o m a b long e h; row2 = first xs l from 64 64 2 o m a b long e h }

pub done3 : (xs : List ℕ) (k l from i o m : ℕ) (a b c : List ℕ) → i ≤ 0 → o ≡ i * l → m ≡ k - i → Held3 xs l from o m a b c
    → RowIn xs k l from 64 0 a × (RowIn xs k l from 64 1 b × RowIn xs k l from 64 2 c)
done3 xs k l from i o m a b c z d e h =
    (done xs k l from 64 64 0 i o m a z d e h.row0, (done xs k l from 64 64 1 i o m b z d e h.row1, done xs k l from 64 64 2 i o m c z d e h.row2))

module _ (xs : List ℕ) (l from u o s m : ℕ) (a b c a' b' c' : List ℕ) (bytes : Bytes xs) (back : o ≡ u + l) (here : s ≡ u + from)
    (fits : s + 64 ≤ length xs) (h : Held3 xs l from o m a b c) where
  pub turn3 : (z : ℕ) → z ≡ suc m
      → (a' ≡ onto (λ (x y : ℕ). x ⊕ y) a (block xs s))
      × ((b' ≡ onto (λ (x y : ℕ). 2 ⊗ x ⊕ y) b (block xs s)) × (c' ≡ onto (λ (x y : ℕ). 4 ⊗ x ⊕ y) c (block xs s)))
      → Held3 xs l from u z a' b' c'
  turn3 z e w =
      record {
        row0 = turn xs l from 64 64 0 u o s m z a a' (λ (x y : ℕ). x ⊕ y) step_0 bytes (omega arith) back here fits e h.row0 w.0;
        row1 = turn xs l from 64 64 1 u o s m z b b' (λ (x y : ℕ). 2 ⊗ x ⊕ y) step_1 bytes (omega arith) back here fits e h.row1 w.1.0;
        row2 = turn xs l from 64 64 2 u o s m z c c' (λ (x y : ℕ). 4 ⊗ x ⊕ y) step_2 bytes (omega arith) back here fits e h.row2 w.1.1;
      }

  -- two columns more
  pub turn3_two : (v t z : ℕ) → u ≡ v + l → t ≡ v + from → z ≡ suc (suc m)
      → (a' ≡ onto (λ (x y : ℕ). x ⊕ y) (onto (λ (x y : ℕ). x ⊕ y) a (block xs s)) (block xs t))
      × ((b' ≡ onto (λ (x y : ℕ). 2 ⊗ x ⊕ y) (onto (λ (x y : ℕ). 2 ⊗ x ⊕ y) b (block xs s)) (block xs t))
      × (c' ≡ onto (λ (x y : ℕ). 16 ⊗ x ⊕ y) c (both (λ (x y : ℕ). 4 ⊗ x ⊕ y) (block xs s) (block xs t))))
      → Held3 xs l from v z a' b' c'
  turn3_two v t z back' there e w =
      record {
        row0 = turn xs l from 64 64 0 v u t (suc m) z _ a' (λ (x y : ℕ). x ⊕ y) step_0 bytes (omega arith) back' there (omega arith) e
            (turn xs l from 64 64 0 u o s m (suc m) a _ (λ (x y : ℕ). x ⊕ y) step_0 bytes (omega arith) back here fits refl h.row0 refl) w.0;
        row1 = turn xs l from 64 64 1 v u t (suc m) z _ b' (λ (x y : ℕ). 2 ⊗ x ⊕ y) step_1 bytes (omega arith) back' there (omega arith) e
            (turn xs l from 64 64 1 u o s m (suc m) b _ (λ (x y : ℕ). 2 ⊗ x ⊕ y) step_1 bytes (omega arith) back here fits refl h.row1 refl) w.1.0;
        row2 = turn_two xs l from 64 64 v u o s t m z c c' bytes (omega arith) back back' here there fits e h.row2 w.1.1;
      }
