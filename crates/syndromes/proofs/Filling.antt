-- What is filled in are the syndromes: of a plain stripe each row lacks what `Apart` says, since its parity is rows; of any stripe
-- the encoding of its data and its parity columns add up to them, and each row times the inverse of its weight is the row over it.
use mathlib.Core.Path.{◌≡◌, refl, sym, ap, ap₂, ◌∙◌, subst}
use mathlib.Core.Bool.{false}
use mathlib.Core.List.{List, map}
use mathlib.Core.Logic.{◌⊎◌, inl, inr, ⊎_elim}
use Prim.Native.Nat.{ℕ, ◌+◌, ◌-◌, ◌*◌, ◌<◌, ◌≤◌}
use native.Mathlib.Nat.{mul-le-mul_right, add-mul as ℕ-add-mul}
use native.Mathlib.Omega.{arith}
use lib.ListN.{length, get_or, take, drop, length-drop, length-map}
use lib.Seq.{take_all}
use borrow.Rule.Slice.PartMut.{put_mid}
use Rattle.field.specs.Field.{◌⊕◌, ◌⊗◌, gpow, inverse_of}
use Rattle.field.specs.Bytes.{Bytes}
use Rattle.field.proofs.Xor.{add_comm}
use Rattle.field.proofs.Mul.{one-mul, gpow-zero, gpow_pos, gpow-lt}
use Rattle.field.proofs.Solve.{undo}
use Rattle.field.proofs.Cases.{below_or_from}
use Rattle.lanes.specs.Lanes.{onto}
use Rattle.lanes.proofs.Onto.{onto_at, onto-length}
use Rattle.lanes.proofs.Onto.{map_at}
use Rattle.lanes.proofs.Parts.{part_length, part_at, back_length, back_inside, back_outside}
use Rattle.stripe.specs.declared.Shape.{Shape}
use Rattle.stripe.specs.Shape.{shape_refusal, data_length, parity_length, stripe_length, most_data, most_rows}
use Rattle.stripe.specs.Stripe.{by_points, parity_byte, parity, data_of, parity_of}
use Rattle.stripe.proofs.Allowed.{allowed, rows_most}
use Rattle.stripe.proofs.Lent.{lent_both}
use Rattle.stripe.proofs.Places.{place_lt, parity_at, parity-length, plain_parity, row_at_stripe, parity_of_at, parity_of-length, data_of-length}
use Rattle.coding.specs.Encode.{encoded_by_rows}
use Rattle.coding.proofs.Encoded.{encoded_done, encoded_by_rows_lem}
use Rattle.syndromes.specs.Apart.{Apart, Parted}
use Rattle.syndromes.specs.Syndromes.{Lent, Syndromes, InBlocks, Divided}

-- ---- a plain stripe

-- a column that is not the first is set apart in a plain stripe, and is one of its data columns
pub set_apart : (s : Shape) (x d p : ℕ) → Lent s x d p → 0 < x → (s.t ≡ 0) × (x < s.k)
set_apart s x d p h later = go h.apart
  where
    go : (x ≡ 0) ⊎ ((s.t ≡ 0) × (x < s.k)) → (s.t ≡ 0) × (x < s.k)
    go (inl e) = absurd (omega (arith, later, e))
    go (inr e) = e

pub parted : (s : Shape) (x : ℕ) (xs : List ℕ) (p : ℕ) → Lent s x (length xs) p → InBlocks s x → Parted xs s.k s.l s.r x p
parted s x xs p h b =
    let a = allowed s h.shape in
    record {
      long = h.long;
      room = h.room;
      some = b.rows;
      most = rows_most s a h.rows;
      within = (set_apart s x _ _ h b.later).1;
      wide = a.data_most;
      length_some = b.long;
      length_most = a.length_most;
    }

pub plain_lacks : (s : Shape) (x : ℕ) (xs ys : List ℕ) → shape_refusal s ≡ 0 → by_points s ≡ false → s.t ≡ 0 → Bytes ys
    → Apart xs s.k s.l s.r x ys → Syndromes s x xs ys
plain_lacks s x xs ys h rows plain b a =
    record {
      bytes = b;
      long = a.long;
      at = λ j y hj hy. a.at j y hj hy
          ∙ ap (λ (z : ℕ). get_or xs ((s.k + j) * s.l + y) 0 ⊕ z)
          (sym (plain_parity s (data_of s xs) j y (allowed s h) rows plain hy ∙ row_at_stripe s xs j y hy));
    }

-- ---- any stripe

-- the part from the data on is all the rest
pub rest : (s : Shape) (xs : List ℕ) → length xs ≡ stripe_length s → take (length xs - data_length s) (parity_of s xs) ≡ parity_of s xs
rest s xs e = take_all (length xs - data_length s) (parity_of s xs) (omega (arith, length-drop (data_length s) xs))

-- each row has the weight 1 at column 0
weight_one : (j z : ℕ) → z < 256 → gpow (j * 0) ⊗ z ≡ z
weight_one j z h =
    let none : j * 0 ≡ 0 = omega arith in
    ap (λ (w : ℕ). w ⊗ z) (ap gpow none ∙ gpow-zero) ∙ one-mul z h

pub whole_lacks : (s : Shape) (xs os es ys : List ℕ) → Lent s 0 (length xs) (length os) → Bytes ys → es ≡ encoded_by_rows s (data_of s xs) os
    → ys ≡ onto (λ (x y : ℕ). x ⊕ y) es (parity_of s xs) → Syndromes s 0 xs ys
whole_lacks s xs os es ys h b ee ey = record { bytes = b; long = ap length ey ∙ onto-length _ es (parity_of s xs) ∙ long; at = at }
  where
    is : es ≡ parity s (data_of s xs)
    is =
        ee ∙ encoded_by_rows_lem s (data_of s xs) os (rows_most s (allowed s h.shape) h.rows)
        ∙ sym (encoded_done s (data_of s xs) os (lent_both s (length (data_of s xs)) (length os) h.shape (data_of-length s xs h.long) h.room))

    long : length es ≡ parity_length s
    long = ap length is ∙ parity-length s (data_of s xs)

    at : (j y : ℕ) → j < s.r → y < s.l
        → gpow (j * 0) ⊗ get_or ys (j * s.l + y) 0 ≡ get_or xs ((s.k + j) * s.l + y) 0 ⊕ parity_byte s (data_of s xs) j y
    at j y hj hy =
        weight_one j (get_or ys (j * s.l + y) 0) (b _)
        ∙ ap (λ (l : List ℕ). get_or l (j * s.l + y) 0) ey
        ∙ onto_at _ es (parity_of s xs) (j * s.l + y) (subst (λ (z : ℕ). j * s.l + y < z) (sym long) (place_lt hj hy))
        (subst (λ (z : ℕ). j * s.l + y < z) (sym (parity_of-length s xs h.long)) (place_lt hj hy))
        ∙ ap₂ ◌⊕◌ (ap (λ (l : List ℕ). get_or l (j * s.l + y) 0) is ∙ parity_at s (data_of s xs) j y hj hy) (parity_of_at s xs j y)
        ∙ add_comm _ _

pub first_lent : (s : Shape) (x d p : ℕ) → Lent s x d p → Lent s 0 d p
first_lent s x d p h = record { shape = h.shape; rows = h.rows; long = h.long; room = h.room; apart = inl refl }

-- ---- rows over their weights

-- the rows before e are over their weights of column x, and the others as they were
pub record DividedTo (l r x e : ℕ) (ys zs : List ℕ) : Type 0 where
  pub long : length zs ≡ length ys
  pub done : (j y : ℕ) → j < e → y < l → gpow (j * x) ⊗ get_or zs (j * l + y) 0 ≡ get_or ys (j * l + y) 0
  pub left : (j y : ℕ) → e ≤ j → y < l → get_or zs (j * l + y) 0 ≡ get_or ys (j * l + y) 0

pub divided_0 : (l r x : ℕ) (ys : List ℕ) → x ≡ 0 → Bytes ys → Divided l r x ys ys
divided_0 l r x ys e b =
    record { long = refl; at = λ j y hj hy. ap (λ (z : ℕ). gpow (j * z) ⊗ get_or ys (j * l + y) 0) e ∙ weight_one j _ (b (j * l + y)) }

pub divide_start : (l r x : ℕ) (ys : List ℕ) → Bytes ys → DividedTo l r x 1 ys ys
divide_start l r x ys b = record { long = refl; done = done; left = λ j y h k. refl }
  where
    done : (j y : ℕ) → j < 1 → y < l → gpow (j * x) ⊗ get_or ys (j * l + y) 0 ≡ get_or ys (j * l + y) 0
    done j y h k =
        let first : j ≡ 0 = omega arith in
        let none : 0 * x ≡ 0 * 0 = omega arith in
        ap (λ (i : ℕ). gpow (i * x) ⊗ get_or ys (j * l + y) 0) first ∙ ap (λ (w : ℕ). gpow w ⊗ get_or ys (j * l + y) 0) none
        ∙ weight_one 0 _ (b (j * l + y))

module _ (l r x j c : ℕ) (ys zs ws : List ℕ) (h : DividedTo l r x j ys zs) (bytes : Bytes zs) (fits : j * l + l ≤ length zs)
    (weight : c ≡ inverse_of (gpow (j * x)))
    (is : ws ≡ map (λ (x : ℕ). c ⊗ x) (take (j * l + l - j * l) (drop (j * l) zs))) where
  ws_long : length ws ≡ l
  ws_long = ap length is ∙ length-map (take (j * l + l - j * l) (drop (j * l) zs)) _ ∙ part_length zs (j * l) l fits

  ws_at : (q : ℕ) → q < l → get_or ws q 0 ≡ c ⊗ get_or zs (j * l + q) 0
  ws_at q k =
      ap (λ (u : List ℕ). get_or u q 0) is ∙ map_at _ (take (j * l + l - j * l) (drop (j * l) zs)) q (omega (arith, k, part_length zs (j * l) l fits))
      ∙ ap (λ (u : ℕ). c ⊗ u) (part_at zs (j * l) l q k)

  pub divide_turn : DividedTo l r x (j + 1) ys (put_mid (j * l) (j * l + l - j * l) zs ws)
  divide_turn = record { long = back_length zs ws (j * l) l ws_long fits ∙ h.long; done = done; left = left }
    where
      done : (i y : ℕ) → i < j + 1 → y < l
          → gpow (i * x) ⊗ get_or (put_mid (j * l) (j * l + l - j * l) zs ws) (i * l + y) 0 ≡ get_or ys (i * l + y) 0
      done i y less k = ⊎_elim old new (below_or_from i j)
        where
          old : i < j → gpow (i * x) ⊗ get_or (put_mid (j * l) (j * l + l - j * l) zs ws) (i * l + y) 0 ≡ get_or ys (i * l + y) 0
          old e = ap (λ (z : ℕ). gpow (i * x) ⊗ z) (back_outside zs ws (j * l) l ws_long fits (i * l + y) (inl (place_lt e k))) ∙ h.done i y e k

          new : j ≤ i → gpow (i * x) ⊗ get_or (put_mid (j * l) (j * l + l - j * l) zs ws) (i * l + y) 0 ≡ get_or ys (i * l + y) 0
          new e =
              subst (λ (m : ℕ). gpow (m * x) ⊗ get_or (put_mid (j * l) (j * l + l - j * l) zs ws) (m * l + y) 0 ≡ get_or ys (m * l + y) 0)
              (omega (arith, less, e))
              (ap (λ (z : ℕ). gpow (j * x) ⊗ z) (back_inside zs ws (j * l) l ws_long fits y k ∙ ws_at y k ∙ ap (λ (w : ℕ). w ⊗ get_or zs (j * l + y) 0) weight)
              ∙ undo (gpow (j * x)) (get_or zs (j * l + y) 0) (gpow_pos (j * x)) (gpow-lt (j * x)) (bytes (j * l + y))
              ∙ h.left j y (omega arith) k)

      left : (i y : ℕ) → j + 1 ≤ i → y < l → get_or (put_mid (j * l) (j * l + l - j * l) zs ws) (i * l + y) 0 ≡ get_or ys (i * l + y) 0
      left i y e k =
          back_outside zs ws (j * l) l ws_long fits (i * l + y) (inr (omega (arith, mul-le-mul_right l e, ℕ-add-mul j 1 l)))
          ∙ h.left i y (omega (arith, e)) k

pub divide_done : (l r x j : ℕ) (ys zs : List ℕ) → r ≤ j → DividedTo l r x j ys zs → Divided l r x ys zs
divide_done l r x j ys zs e h = record { long = h.long; at = λ i y less k. h.done i y (omega (arith, e, less)) k }

-- the exponents of the weights are small
pub weights_small : (s : Shape) (x d p : ℕ) → Lent s x d p → s.r * x ≤ most_rows * most_data
weights_small s x d p h =
    let a = allowed s h.shape in
    let few : x ≤ most_data = go h.apart in
    omega (arith, mul-le-mul_right x (rows_most s a h.rows), few)
  where
    go : (x ≡ 0) ⊎ ((s.t ≡ 0) × (x < s.k)) → x ≤ most_data
    go (inl e) = omega arith
    go (inr e) = omega (arith, e.1, (allowed s h.shape).data_most)

-- the syndromes, each row over its weight of column x
pub divided_lacks : (s : Shape) (x : ℕ) (xs ys zs : List ℕ) → Syndromes s 0 xs ys → Bytes zs → Divided s.l s.r x ys zs → Syndromes s x xs zs
divided_lacks s x xs ys zs h b d =
    record {
      bytes = b;
      long = d.long ∙ h.long;
      at = λ j y hj hy. d.at j y hj hy ∙ sym (weight_one j _ (h.bytes (j * s.l + y))) ∙ h.at j y hj hy;
    }
