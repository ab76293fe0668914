-- Each lost column with what it lacks added: the data are the mended words, and the lost rows what they say.
use Prim.Native.Nat.{ℕ, ◌+◌, ◌*◌, ◌-◌, ◌≤◌, ◌<◌}
use mathlib.Core.Path.{◌≡◌, refl, sym, ap, ap₂, subst, ◌∙◌}
use mathlib.Core.Bool.{Bool, true, false, cond, true≢false}
use mathlib.Core.Logic.{◌⊎◌, inl, inr}
use mathlib.Core.List.{List}
use native.Mathlib.Omega.{arith}
use native.Mathlib.Nat.{mul-le-mul_right, add-mul}
use lib.ListN.{length, get_or, take, drop}
use lib.Seq.{get_or-take, length-take-le, ext_get_or}
use borrow.Author.Tests.{lt-ltb, le-ltb}
use borrow.Rule.Slice.PartMut.{put_mid}
use Rattle.field.specs.Field.{◌⊕◌}
use Rattle.field.specs.Bytes.{Bytes}
use Rattle.field.specs.Row.{row}
use Rattle.field.proofs.Cases.{below_or_from}
use Rattle.lanes.specs.Lanes.{onto}
use Rattle.lanes.proofs.Onto.{onto-length, onto_at}
use Rattle.lanes.proofs.Parts.{part_length, part_at, back_length, back_inside, back_outside}
use Rattle.stripe.specs.declared.Shape.{Shape}
use Rattle.stripe.specs.Shape.{columns, parity_length, stripe_length, most_columns, most_length, most_rows_length}
use Rattle.stripe.specs.Stripe.{among}
use Rattle.stripe.proofs.Allowed.{Allowed}
use Rattle.stripe.proofs.Places.{across-length, across_first}
use Rattle.stripe.proofs.Survivors.{first_row, row_step}
use Rattle.stripe.proofs.Lost.{row_lost, ascending_at, lost_data_among}
use Rattle.stripe.proofs.Word.{word_mended, word_mended_agrees, word_mended_own}
use Rattle.stripe.proofs.Mended.{data_at, check_at, wanted, word_at, word_length}
use Rattle.mending.specs.declared.system.System.{System}
use Rattle.mending.specs.Slots.{Outside}
use Rattle.mending.specs.System.{lost_in, gone, Other, Posed}
use Rattle.mending.specs.Scratch.{row_byte, slot_row, MendedBelow, SettledBelow}
use Rattle.mending.proofs.Posed.{ascending_apart, among_index, among_each, by_one}
use Rattle.mending.proofs.Posed.{few_rows, rows_length, count_is, spread, row_below, position_is, position_below}
use Rattle.mending.proofs.Runs.{place_off, word_is}

module _ (s : Shape) (f : Allowed s) (p : System) (w : Posed s p) where
  many : length (lost_in p) ≡ p.lost.count
  many = length-take-le p.lost.count p.lost.at (omega (arith, w.room, w.few))

  lost_at : (v : ℕ) → v < p.lost.count → get_or (lost_in p) v 0 ≡ get_or p.lost.at v 0
  lost_at v h = get_or-take p.lost.count p.lost.at v 0 h

  pub lost_position : (v : ℕ) → v < p.lost.count → get_or p.lost.at v 0 < columns s
  lost_position v h = subst (λ (x : ℕ). x < columns s) (lost_at v h) (ascending_at v 0 (columns s) (lost_in p) w.ascend (omega (arith, many))).1

  lost_apart : (u v : ℕ) → u < v → v < p.lost.count → get_or p.lost.at u 0 < get_or p.lost.at v 0
  lost_apart u v h k =
      omega (arith, ascending_apart u v 0 (columns s) (lost_in p) w.ascend h (omega (arith, many)), lost_at u (omega arith), lost_at v k)

  lost_among : (v : ℕ) → v < p.lost.count → among (get_or p.lost.at v 0) (lost_in p) ≡ true
  lost_among v h = go (among (get_or p.lost.at v 0) (lost_in p)) refl
    where
      go : (b : Bool) → among (get_or p.lost.at v 0) (lost_in p) ≡ b → among (get_or p.lost.at v 0) (lost_in p) ≡ true
      go true e = e
      go false e = absurd (among_each (get_or p.lost.at v 0) (lost_in p) v e (omega (arith, many)) (sym (lost_at v h)))

  -- the positions after the data columns are rows
  pub row_position : (v : ℕ) → v < p.lost.count → p.count ≤ v → s.k ≤ get_or p.lost.at v 0
  row_position v h from = go (below_or_from (get_or p.lost.at v 0) s.k)
    where
      go : (get_or p.lost.at v 0 < s.k) ⊎ (s.k ≤ get_or p.lost.at v 0) → s.k ≤ get_or p.lost.at v 0
      go (inr l) = l
      go (inl l) =
          let i : (u : ℕ) × ((u < length (gone s p)) × (get_or p.lost.at v 0 ≡ get_or (gone s p) u 0)) =
          among_index (get_or p.lost.at v 0) (gone s p) (lost_data_among s.k (get_or p.lost.at v 0) (lost_in p) l ∙ lost_among v h) in
          let u : i.0 < p.count = omega (arith, i.1.0, count_is s f p w) in
          absurd (omega (arith, i.1.1, position_is s f p w i.0 u, lost_apart i.0 v (omega arith) h))

  slot_data : (v i : ℕ) → v < p.count → slot_row s p v i ≡ p.first + p.step * v
  slot_data v i h = ap (λ (b : Bool). cond b (p.first + p.step * v) (i - s.k)) (lt-ltb v p.count h)

  slot_parity : (v i : ℕ) → p.count ≤ v → slot_row s p v i ≡ i - s.k
  slot_parity v i h = ap (λ (b : Bool). cond b (p.first + p.step * v) (i - s.k)) (le-ltb v p.count h)

  pub slot_below : (v : ℕ) → v < p.lost.count → slot_row s p v (get_or p.lost.at v 0) < s.r
  slot_below v h = go (below_or_from v p.count)
    where
      go : (v < p.count) ⊎ (p.count ≤ v) → slot_row s p v (get_or p.lost.at v 0) < s.r
      go (inl l) = subst (λ (x : ℕ). x < s.r) (sym (slot_data v (get_or p.lost.at v 0) l)) (row_below s f p w v l)
      go (inr l) =
          subst (λ (x : ℕ). x < s.r) (sym (slot_parity v (get_or p.lost.at v 0) l)) (omega (arith, lost_position v h, row_position v h l))

  -- ---- column by column

  pub added_start : (slots xs : List ℕ) → MendedBelow s p 0 slots xs xs
  added_start slots xs = record { long = refl; own = λ v y h. absurd (omega arith); other = λ c y hy h. refl }

  pub column_ends : (i : ℕ) → i < columns s → i * s.l + s.l ≤ stripe_length s
  column_ends i h = omega (arith, mul-le-mul_right s.l h, add-mul i 1 s.l)

  pub slot_ends : (j : ℕ) → j < s.r → j * s.l + s.l ≤ parity_length s
  slot_ends j h = omega (arith, mul-le-mul_right s.l h, add-mul j 1 s.l)

  pub added_turn : (v j : ℕ) (slots xs ys d : List ℕ) → v < p.lost.count → length xs ≡ stripe_length s → length slots ≡ parity_length s
      → MendedBelow s p v slots xs ys
      → j ≡ slot_row s p v (get_or p.lost.at v 0)
      → d ≡ onto (λ (x y : ℕ). x ⊕ y) (take (get_or p.lost.at v 0 * s.l + s.l - get_or p.lost.at v 0 * s.l) (drop (get_or p.lost.at v 0 * s.l) ys))
      (take (j * s.l + s.l - j * s.l) (drop (j * s.l) slots))
      → MendedBelow s p (v + 1) slots xs (put_mid (get_or p.lost.at v 0 * s.l) (get_or p.lost.at v 0 * s.l + s.l - get_or p.lost.at v 0 * s.l) ys d)
  added_turn v j slots xs ys d hv lx ls t ej ed = record { long = back_length ys d a s.l d_long a_fits ∙ t.long; own = own; other = other }
    where
      i : ℕ
      i = get_or p.lost.at v 0

      a : ℕ
      a = i * s.l

      zs : List ℕ
      zs = put_mid a (a + s.l - a) ys d

      a_fits : a + s.l ≤ length ys
      a_fits = omega (arith, column_ends i (lost_position v hv), t.long)

      j_fits : j * s.l + s.l ≤ length slots
      j_fits = omega (arith, slot_ends j (subst (λ (x : ℕ). x < s.r) (sym ej) (slot_below v hv)))

      d_long : length d ≡ s.l
      d_long = ap length ed ∙ onto-length _ (take (a + s.l - a) (drop a ys)) _ ∙ part_length ys a s.l a_fits

      kept : (c y : ℕ) → (c ≡ i → ⊥) → y < s.l → row_byte s zs c y ≡ row_byte s ys c y
      kept c y n hy =
          back_outside ys d a s.l d_long a_fits (c * s.l + y)
          (subst (λ (x : ℕ). Outside x s.l (c * s.l + y)) (omega arith) (place_off c i y 0 s.l s.l hy (omega arith) (inl n)))

      changed : (y : ℕ) → y < s.l → row_byte s zs i y ≡ row_byte s ys i y ⊕ row_byte s slots j y
      changed y hy =
          back_inside ys d a s.l d_long a_fits y hy ∙ ap (λ (l : List ℕ). get_or l y 0) ed
          ∙ onto_at _ (take (a + s.l - a) (drop a ys)) (take (j * s.l + s.l - j * s.l) (drop (j * s.l) slots)) y
          (omega (arith, part_length ys a s.l a_fits)) (omega (arith, part_length slots (j * s.l) s.l j_fits))
          ∙ ap₂ ◌⊕◌ (part_at ys a s.l y hy) (part_at slots (j * s.l) s.l y hy)

      own : (u y : ℕ) → u < v + 1 → y < s.l
          → row_byte s zs (get_or p.lost.at u 0) y ≡ row_byte s xs (get_or p.lost.at u 0) y ⊕ row_byte s slots (slot_row s p u (get_or p.lost.at u 0)) y
      own u y hu hy = go (below_or_from u v)
        where
          go : (u < v) ⊎ (v ≤ u)
              → row_byte s zs (get_or p.lost.at u 0) y ≡ row_byte s xs (get_or p.lost.at u 0) y ⊕ row_byte s slots (slot_row s p u (get_or p.lost.at u 0)) y
          go (inl l) = kept (get_or p.lost.at u 0) y (λ e. omega (arith, e, lost_apart u v l hv)) hy ∙ t.own u y l hy
          go (inr l) =
              let e : u ≡ v = omega arith in
              subst (λ (x : ℕ). row_byte s zs (get_or p.lost.at x 0) y
              ≡ row_byte s xs (get_or p.lost.at x 0) y ⊕ row_byte s slots (slot_row s p x (get_or p.lost.at x 0)) y) (sym e)
              (changed y hy
              ∙ ap₂ (λ (x z : ℕ). x ⊕ row_byte s slots z y) (t.other i y hy (λ x hx q. omega (arith, q, lost_apart x v hx hv))) ej)

      other : (c y : ℕ) → y < s.l → ((u : ℕ) → u < v + 1 → c ≡ get_or p.lost.at u 0 → ⊥) → row_byte s zs c y ≡ row_byte s xs c y
      other c y hy h = kept c y (h v (omega arith)) hy ∙ t.other c y hy (λ u l. h u (omega arith))

  -- ---- all columns

  module _ (slots xs ys : List ℕ) (bytes : Bytes slots) (t : SettledBelow s p xs s.r slots) (a : MendedBelow s p p.lost.count slots xs ys) where
    -- a column that survives stays
    pub added_kept : (c y : ℕ) → y < s.l → among c (lost_in p) ≡ false → row_byte s ys c y ≡ row_byte s xs c y
    added_kept c y hy m = a.other c y hy (λ v hv e. among_each c (lost_in p) v m (omega (arith, many)) (e ∙ sym (lost_at v hv)))

    word_byte : (c y : ℕ) → c < s.k → y < s.l → row_byte s ys c y ≡ get_or (word_at s (lost_in p) xs y) c 0
    word_byte c y hc hy = go (among c (gone s p)) refl ∙ ap (λ (l : List ℕ). get_or l c 0) (sym (word_is s (lost_in p) xs y))
      where
        before : row_byte s xs c y ≡ get_or (data_at s xs y) c 0
        before = sym (across_first xs s.l y s.k c hc)

        go : (b : Bool) → among c (gone s p) ≡ b → row_byte s ys c y ≡ get_or (word_mended s.k (lost_in p) (data_at s xs y) (wanted s (lost_in p) xs y)) c 0
        go false e =
            let m : among c (lost_in p) ≡ false = sym (lost_data_among s.k c (lost_in p) hc) ∙ e in
            added_kept c y hy m ∙ before
            ∙ word_mended_agrees s.k s.r (lost_in p) f.data_most (few_rows s f p w) w.ascend w.fits (data_at s xs y)
            (across-length xs s.l y 0 s.k)
            (wanted s (lost_in p) xs y) c hc m
        go true e =
            let i : (v : ℕ) × ((v < length (gone s p)) × (c ≡ get_or (gone s p) v 0)) = among_index c (gone s p) e in
            let hv : i.0 < p.count = omega (arith, i.1.0, count_is s f p w) in
            let here : c ≡ get_or p.lost.at i.0 0 = i.1.1 ∙ sym (position_is s f p w i.0 hv) in
            ap (λ (x : ℕ). row_byte s ys x y) here ∙ a.own i.0 y (omega (arith, w.many)) hy
            ∙ ap₂ ◌⊕◌ (ap (λ (x : ℕ). row_byte s xs x y) (sym here) ∙ before ∙ ap (λ (x : ℕ). get_or (data_at s xs y) x 0) i.1.1)
            (ap (λ (x : ℕ). row_byte s slots x y) (slot_data i.0 _ hv) ∙ t.errors y hy i.0 hv)
            ∙ sym (word_mended_own s.k s.r (lost_in p) f.data_most (few_rows s f p w) w.ascend w.fits (data_at s xs y)
            (across-length xs s.l y 0 s.k)
            (wanted s (lost_in p) xs y) i.0 i.1.0)
            ∙ ap (λ (x : ℕ). get_or (word_mended s.k (lost_in p) (data_at s xs y) (wanted s (lost_in p) xs y)) x 0) (sym i.1.1)

    pub added_word : (y : ℕ) → y < s.l → data_at s ys y ≡ word_at s (lost_in p) xs y
    added_word y hy =
        ext_get_or 0 _ _ (across-length ys s.l y 0 s.k ∙ sym (word_length s (lost_in p) xs y))
        (λ c h. byte c (subst (λ (z : ℕ). c < z) (across-length ys s.l y 0 s.k) h))
      where
        byte : (c : ℕ) → c < s.k → get_or (data_at s ys y) c 0 ≡ get_or (word_at s (lost_in p) xs y) c 0
        byte c hc = across_first ys s.l y s.k c hc ∙ word_byte c y hc hy

    -- a lost row
    pub added_row : (j y : ℕ) → j < s.r → y < s.l → among (s.k + j) (lost_in p) ≡ true
        → row_byte s ys (s.k + j) y ≡ check_at s xs y j ⊕ (wanted s (lost_in p) xs y j ⊕ row j (word_at s (lost_in p) xs y))
    added_row j y hj hy m =
        let i : (v : ℕ) × ((v < length (lost_in p)) × (s.k + j ≡ get_or (lost_in p) v 0)) = among_index (s.k + j) (lost_in p) m in
        let hv : i.0 < p.lost.count = omega (arith, i.1.0, many) in
        let here : s.k + j ≡ get_or p.lost.at i.0 0 = i.1.1 ∙ lost_at i.0 hv in
        let from : p.count ≤ i.0 = after i.0 here in
        ap (λ (x : ℕ). row_byte s ys x y) here ∙ a.own i.0 y hv hy
        ∙ ap₂ ◌⊕◌ (ap (λ (x : ℕ). row_byte s xs x y) (sym here))
        (ap (λ (x : ℕ). row_byte s slots x y) (slot_parity i.0 _ from ∙ omega (arith, here))
        ∙ sym (by_one j p.pivot _ (w.pivot_whole j m) (bytes _)) ∙ t.done j y hj hj other hy)
      where
        after : (v : ℕ) → s.k + j ≡ get_or p.lost.at v 0 → p.count ≤ v
        after v e = go (below_or_from v p.count)
          where
            go : (v < p.count) ⊎ (p.count ≤ v) → p.count ≤ v
            go (inl l) = absurd (omega (arith, e, position_below s f p w v l))
            go (inr l) = l

        -- a row solved by survives
        other : Other p j
        other k =
            let e : j ≡ first_row (row_lost s.k (lost_in p)) + row_step (row_lost s.k (lost_in p)) * k.0 =
            sym k.1.1 ∙ ap₂ (λ (x z : ℕ). x + z * k.0) w.first_is w.step_is in
            true≢false (sym m ∙ ap (λ (x : ℕ). among (s.k + x) (lost_in p)) e ∙ ((spread s f p w).survive k.0 (omega (arith, k.1.0, count_is s f p w))).1)

-- the sizes of what is written
pub record WriteSizes (s : Shape) (i : ℕ) : Type 0 where
  pub column : i * s.l + s.l ≤ stripe_length s
  pub most : stripe_length s ≤ most_columns * most_length
  pub small : parity_length s ≤ most_rows_length

pub write_sizes : (s : Shape) (f : Allowed s) (p : System) → Posed s p → (v : ℕ) → v < p.lost.count → WriteSizes s (get_or p.lost.at v 0)
write_sizes s f p w v h =
    record { column = column_ends s f p w (get_or p.lost.at v 0) (lost_position s f p w v h); most = f.stripe-length; small = rows_length s f p w }
