-- Kind A by rows, a wide row at a time: a column more is a step of Horner's rule; all columns at once are a row of weights times them; and these rows are
-- the fold's answer.
use mathlib.Core.Path.{◌≡◌, refl, sym, ap, ap₂, ◌∙◌, subst}
use mathlib.Core.Bool.{Bool, cond}
use mathlib.Core.List.{List, [], ◌∷◌, map}
use mathlib.Core.Logic.{◌⊎◌, inl, inr}
use Prim.Native.Nat.{ℕ, zero, suc, ◌+◌, ◌-◌, ◌*◌, ◌%◌, ◌<◌, ◌≤◌}
use native.Mathlib.Nat.{mul-le-mul}
use native.Mathlib.Omega.{arith}
use lib.Dec.{eqb}
use lib.ListN.{length, get_or, take, drop}
use lib.Seq.{get_or-take, get_or-drop}
use borrow.Author.Tests.{eq-eqb, ne_eqb}
use borrow.Rule.Slice.PartMut.{put_mid}
use Rattle.field.specs.Field.{◌⊕◌, ◌⊗◌, gpow}
use Rattle.field.specs.Bytes.{Bytes, tabulate}
use Rattle.field.specs.Row.{row_from, row}
use Rattle.field.proofs.Xor.{zero-add, add_comm}
use Rattle.field.proofs.Rows.{row_cons, row_one}
use Rattle.field.proofs.Bytes.{tabulate-length, tabulate_at}
use Rattle.field.proofs.Cases.{below_or_from}
use Rattle.points.specs.Lagrange.{dot}
use Rattle.points.specs.Folding.{parts}
use Rattle.lanes.proofs.Parts.{part_length, back_length, back_inside, back_outside}
use Rattle.stripe.specs.declared.Shape.{Shape}
use Rattle.stripe.specs.Stripe.{across}
use Rattle.stripe.proofs.Places.{column_inside, by_places, across-length, place_lt}
use Rattle.matrix.specs.Matrix.{row_of, bytes_at, applied, becomes}
use Rattle.matrix.proofs.Shape.{Lengths, fit_lengths, applied-length, applied_place, becomes_fits}
use Rattle.constants.proofs.Points.{tabulated}
use Rattle.constants.proofs.Applied.{bytes_in_order, order_small}
use Rattle.plan.specs.declared.Kind.{Kind}
use Rattle.plan.specs.declared.Kind.TheVariants.{A}
use Rattle.plan.specs.Plan.{kind_of, bytes_each}
use Rattle.plan.proofs.Foldable.{Foldable, foldable}
use Rattle.plan.proofs.Costs.{bytes_read_lem}
use Rattle.fold.specs.Fold.{fold_byte, fold_of}
use Rattle.fold.specs.Shares.{ReadsPlain, InColumns, columns_row, stays, stepped}
use Rattle.fold.proofs.Laws.{share_a, fold_sum_lem, fold_at, fold_length}
use Rattle.fold.proofs.Stepped.{step_long, step_at}
use Rattle.fold.proofs.Sums.{across_none}

-- ---- a row, by its places

module _ (e : ℕ) (xs : List ℕ) (from stride n count : ℕ) where
  row_exact : (ys : List ℕ) → length ys ≡ count → ((p : ℕ) → p < count → get_or ys p 0 ≡ row e (across xs stride p from n))
      → ys ≡ columns_row e xs from stride n count
  unfolding columns_row
  row_exact ys long at = tabulated (λ p. row e (across xs stride p from n)) count ys long at

  row-length : length (columns_row e xs from stride n count) ≡ count
  unfolding columns_row
  row-length = tabulate-length count _

  row_place : (p : ℕ) → p < count → get_or (columns_row e xs from stride n count) p 0 ≡ row e (across xs stride p from n)
  unfolding columns_row
  row_place p h = tabulate_at count _ p h

-- ---- a column at a time

across_next : (xs : List ℕ) (l p o m n : ℕ) → n ≡ suc m → across xs l p o n ≡ get_or xs (o + p) 0 ∷ across xs l p (o + l) m
unfolding across
across_next xs l p o m n h = ap (across xs l p o) h

-- ys is the row of the columns from number i on; of none it is anything
pub record RowFrom (e : ℕ) (xs : List ℕ) (from stride n count i : ℕ) (ys : List ℕ) : Type 0 where
  pub long : length ys ≡ count
  pub at : i < n → (p : ℕ) → p < count → get_or ys p 0 ≡ row e (across xs stride p (from + i * stride) (n - i))

module _ (e : ℕ) (xs : List ℕ) (bytes : Bytes xs) (from stride n count : ℕ) where
  pub steps_start : (i : ℕ) (ys : List ℕ) → i ≡ n → length ys ≡ count → RowFrom e xs from stride n count i ys
  steps_start i ys same long = record { long = long; at = λ h. absurd (omega arith) }

  pub steps_done : (i : ℕ) (ys : List ℕ) → 1 ≤ n → i ≤ 0 → RowFrom e xs from stride n count i ys → ys ≡ columns_row e xs from stride n count
  steps_done i ys some h w =
      let none : i ≡ 0 = omega arith in
      let first : from + i * stride ≡ from = ap (λ (x : ℕ). from + x * stride) none ∙ omega arith in
      let all : n - i ≡ n = omega arith in
      row_exact e xs from stride n count ys w.long
      (λ p l. w.at (omega arith) p l ∙ ap₂ (λ (o m : ℕ). row e (across xs stride p o m)) first all)

  module _ (i : ℕ) (h : i < n) (ys zs : List ℕ) (w : RowFrom e xs from stride n count (i + 1) ys) (inside : from + i * stride + length ys ≤ length xs)
      (is : zs ≡ stepped (eqb i (n - 1)) e ys xs (from + i * stride)) where
    abbrev own : ℕ → ℕ
    own p = get_or xs (from + i * stride + p) 0

    abbrev others : ℕ → List ℕ
    others p = across xs stride p (from + (i + 1) * stride) (n - (i + 1))

    steps_row : (p : ℕ) → row e (across xs stride p (from + i * stride) (n - i)) ≡ row e (own p ∷ others p)
    steps_row p =
        let next : from + i * stride + stride ≡ from + (i + 1) * stride = omega arith in
        ap (row e)
        (across_next xs stride p (from + i * stride) (n - (i + 1)) (n - i) (omega arith)
        ∙ ap (λ (o : ℕ). own p ∷ across xs stride p o (n - (i + 1))) next)

    step_first : (x p : ℕ) → n ≤ i + 1 → stays (eqb i (n - 1)) e x ⊕ own p ≡ row e (own p ∷ others p)
    unfolding stays
    step_first x p last =
        ap (λ (b : Bool). cond b 0 (gpow e ⊗ x) ⊕ own p) (eq-eqb i (n - 1) (omega arith)) ∙ zero-add (own p)
        ∙ sym (ap (λ (ms : List ℕ). row e (own p ∷ ms)) (across_none xs stride p _ _ (omega arith)) ∙ row_one e (own p) (bytes _))

    step_other : (x p : ℕ) → i + 1 < n → x ≡ row e (others p) → stays (eqb i (n - 1)) e x ⊕ own p ≡ row e (own p ∷ others p)
    unfolding stays
    step_other x p more was =
        ap (λ (b : Bool). cond b 0 (gpow e ⊗ x) ⊕ own p) (ne_eqb i (n - 1) (λ same. omega arith)) ∙ add_comm (gpow e ⊗ x) (own p)
        ∙ ap (λ (y : ℕ). own p ⊕ gpow e ⊗ y) was ∙ sym (row_cons e (own p) (others p) (bytes _))

    pub steps_turn : RowFrom e xs from stride n count i zs
    steps_turn =
        record {
          long = step_long (eqb i (n - 1)) e ys xs zs (from + i * stride) (length ys) refl inside is ∙ w.long;
          at = λ _ p l. step_at (eqb i (n - 1)) e ys xs zs (from + i * stride) (length ys) refl inside is p (omega (arith, w.long))
              ∙ go p l (below_or_from (i + 1) n) ∙ sym (steps_row p);
        }
      where
        go : (p : ℕ) → p < count → (i + 1 < n) ⊎ (n ≤ i + 1) → stays (eqb i (n - 1)) e (get_or ys p 0) ⊕ own p ≡ row e (own p ∷ others p)
        go p l (inl more) = step_other (get_or ys p 0) p more (w.at more p l)
        go p l (inr last) = step_first (get_or ys p 0) p last

-- ---- all columns at once

dot_row : (e o : ℕ) (f : ℕ → ℕ) (xs : List ℕ) → ((i : ℕ) → f i ≡ gpow ((o + i) * e)) → dot (tabulate (length xs) f) xs ≡ row_from e o xs
unfolding dot tabulate row_from
dot_row e o f [] h = refl
dot_row e o f (x ∷ xs) h =
    let here : o + 0 ≡ o = omega arith in
    ap₂ (λ (w r : ℕ). w ⊗ x ⊕ r) (h 0 ∙ ap (λ (i : ℕ). gpow (i * e)) here)
    (dot_row e (suc o) (λ i. f (suc i)) xs (λ i. let next : o + suc i ≡ suc o + i = omega arith in h (suc i) ∙ ap (λ (j : ℕ). gpow (j * e)) next))

weights_row : (e n : ℕ) (xs : List ℕ) → length xs ≡ n → dot (tabulate n (λ i. gpow (i * e))) xs ≡ row e xs
unfolding row
weights_row e n xs long =
    ap (λ (m : ℕ). dot (tabulate m (λ i. gpow (i * e))) xs) (sym long)
    ∙ dot_row e 0 (λ i. gpow (i * e)) xs (λ i. let same : i ≡ 0 + i = omega arith in ap (λ (j : ℕ). gpow (j * e)) same)

only_row : (n : ℕ) (ws : List ℕ) → length ws ≡ n → row_of n ws 0 ≡ ws
unfolding row_of
only_row n ws long =
    sym (tabulated (λ i. get_or ws (0 * n + i) 0) n ws long (λ i h. let same : i ≡ 0 * n + i = omega arith in ap (λ (j : ℕ). get_or ws j 0) same))

module _ (e : ℕ) (xs : List ℕ) (from stride n count : ℕ) (lie : InColumns (length xs) from stride n count) where
  abbrev order : List ℕ
  order = tabulate n (λ i. i)

  abbrev weights : List ℕ
  weights = tabulate n (λ i. gpow (i * e))

  order-length : length order ≡ n
  order-length = tabulate-length n _

  weights_length : length weights ≡ n
  weights_length = tabulate-length n _

  lengths : (c : ℕ) → c ≡ count → Lengths 1 order from stride count (length weights) (length xs) c
  lengths c long =
      record {
        numbers =
            record {
              rows_some = omega arith;
              rows_most = omega arith;
              columns_some = omega (arith, order-length, lie.some);
              columns_most = omega (arith, order-length, lie.most);
              places_some = lie.places_some;
              places_most = lie.places_most;
            };
        matrix = omega (arith, order-length, weights_length);
        columns = λ i m.
            let l : i < n = subst (λ (x : ℕ). i < x) order-length m in
            subst (λ (z : ℕ). from + z * stride + count ≤ length xs) (sym (tabulate_at n (λ i. i) i l)) (lie.inside i l);
        out = omega (arith, long);
      }

  weighed_row : applied 1 order weights xs from stride count ≡ columns_row e xs from stride n count
  weighed_row =
      row_exact e xs from stride n count _ (applied-length 1 order weights xs from stride count ∙ omega arith)
      (λ p h.
      let same : p ≡ 0 * count + p = omega arith in
      ap (λ (q : ℕ). get_or (applied 1 order weights xs from stride count) q 0) same
      ∙ applied_place 1 order weights xs from stride count 0 p (omega arith) h
      ∙ ap (λ (m : ℕ). dot (row_of m weights 0) (bytes_at xs from stride p order)) order-length
      ∙ ap₂ dot (only_row n weights weights_length) (bytes_in_order xs from stride p n)
      ∙ weights_row e n (across xs stride p from n) (across-length xs stride p from n))

  pub columns_weighed : (at ws ps : List ℕ) → at ≡ tabulate n (λ i. i % 256) → ws ≡ weights → length ps ≡ count
      → becomes 1 at ws xs from stride count ps ≡ columns_row e xs from stride n count
  columns_weighed at ws ps at_is ws-is long =
      ap₂ (λ (cs ms : List ℕ). becomes 1 cs ms xs from stride count ps) (at_is ∙ order_small n (let m = lie.most in omega arith)) ws-is
      ∙ becomes_fits 1 order weights xs from stride count ps
      (fit_lengths 1 order from stride count (length weights) (length xs) (length ps) (lengths (length ps) long))
      ∙ weighed_row

-- ---- the rows are the fold's answer

-- one byte of each part: the column there
across-drop : (xs : List ℕ) (m p o n : ℕ) → across (drop m xs) m p o n ≡ across xs m p (o + m) n
unfolding across
across-drop xs m p o zero = refl
across-drop xs m p o (suc n) =
    let place : m + (o + p) ≡ o + m + p = omega arith in
    ap₂ ◌∷◌ (get_or-drop m xs (o + p) 0 ∙ ap (λ (i : ℕ). get_or xs i 0) place) (across-drop xs m p (o + m) n)

parts_column : (m o p n : ℕ) (xs : List ℕ) → o + p < m → map (λ ys. get_or ys (o + p) 0) (parts m n xs) ≡ across xs m p o n
unfolding parts across
parts_column m o p zero xs h = refl
parts_column m o p (suc n) xs h =
    ap₂ ◌∷◌ (get_or-take m xs (o + p) 0 h) (parts_column m o p n (drop m xs) h ∙ across-drop xs m p o n)

-- ys has the first j rows of n stripes, of which f columns of l bytes each are read; a stripe has k data columns
pub record RowsTo (k l n f : ℕ) (xs : List ℕ) (j : ℕ) (ys : List ℕ) : Type 0 where
  pub long : length ys ≡ f * l
  pub at : (c p : ℕ) → c < j → p < l → get_or ys (c * l + p) 0 ≡ row (c * k) (across xs (f * l) p (c * l) n)

module _ (k l n f : ℕ) (xs : List ℕ) (j : ℕ) (h : j < f) (ys : List ℕ) (w : RowsTo k l n f xs j ys) where
  pub row_room : j * l + l ≤ length ys
  row_room = omega (arith, column_inside j f l h, w.long)

  pub room_long : length (take (j * l + l - j * l) (drop (j * l) ys)) ≡ l
  room_long = part_length ys (j * l) l row_room

  module _ (zs : List ℕ) (is : zs ≡ columns_row (j * k) xs (j * l) (f * l) n (length (take (j * l + l - j * l) (drop (j * l) ys)))) where
    zs_is : zs ≡ columns_row (j * k) xs (j * l) (f * l) n l
    zs_is = is ∙ ap (columns_row (j * k) xs (j * l) (f * l) n) room_long

    zs_long : length zs ≡ l
    zs_long = ap length zs_is ∙ row-length (j * k) xs (j * l) (f * l) n l

    pub rows_turn : RowsTo k l n f xs (j + 1) (put_mid (j * l) (j * l + l - j * l) ys zs)
    rows_turn =
        record { long = back_length ys zs (j * l) l zs_long row_room ∙ w.long; at = λ c p hc hp. go c p hp hc (below_or_from c j) }
      where
        back : List ℕ
        back = put_mid (j * l) (j * l + l - j * l) ys zs

        own : (p : ℕ) → p < l → get_or back (j * l + p) 0 ≡ row (j * k) (across xs (f * l) p (j * l) n)
        own p hp =
            back_inside ys zs (j * l) l zs_long row_room p hp ∙ ap (λ (vs : List ℕ). get_or vs p 0) zs_is ∙ row_place (j * k) xs (j * l) (f * l) n l p hp

        go : (c p : ℕ) → p < l → c < j + 1 → (c < j) ⊎ (j ≤ c) → get_or back (c * l + p) 0 ≡ row (c * k) (across xs (f * l) p (c * l) n)
        go c p hp hc (inl m) = back_outside ys zs (j * l) l zs_long row_room (c * l + p) (inl (place_lt m hp)) ∙ w.at c p m hp
        go c p hp hc (inr m) =
            let same : j ≡ c = omega arith in
            subst (λ (x : ℕ). get_or back (x * l + p) 0 ≡ row (x * k) (across xs (f * l) p (x * l) n)) same (own p hp)

module _ (s : Shape) (n f : ℕ) (xs ps : List ℕ) (reads : ReadsPlain s n f (length xs) (length ps)) where
  able : Foldable s n f
  able = foldable s n f reads.passed

  each_long : bytes_each (kind_of s f) s f ≡ f * s.l
  unfolding bytes_each
  each_long = ap (λ (κ : Kind). bytes_each κ s f) reads.kind

  all_long : length xs ≡ n * (f * s.l)
  all_long = reads.read_long ∙ bytes_read_lem s n f reads.passed ∙ ap (λ (x : ℕ). n * x) each_long

  answer_row : (j p : ℕ) → j < f → p < s.l → get_or (fold_of s n f xs) (j * s.l + p) 0 ≡ row (j * s.k) (across xs (f * s.l) p (j * s.l) n)
  answer_row j p hj hp =
      fold_at s n f xs reads.rows j p hj hp
      ∙ ap₂ (λ (κ : Kind) (m : ℕ). fold_byte κ s (parts m n xs) j p) reads.kind each_long
      ∙ fold_sum_lem A s (parts (f * s.l) n xs) j p
      ∙ ap (λ (adds : List ℕ → ℕ). row (j * s.k) (map adds (parts (f * s.l) n xs))) (λ i ys. share_a s ys j p i)
      ∙ ap (row (j * s.k)) (parts_column (f * s.l) (j * s.l) p n xs (place_lt hj hp))

  pub rows_start : RowsTo s.k s.l n f xs 0 ps
  rows_start = record { long = reads.parity_long; at = λ c p h. absurd (omega arith) }

  pub rows_done : (j : ℕ) (ys : List ℕ) → f ≤ j → RowsTo s.k s.l n f xs j ys → ys ≡ fold_of s n f xs
  rows_done j ys h w =
      by_places f s.l ys (fold_of s n f xs) w.long (fold_length s n f xs reads.passed)
      (λ c p hc hp. w.at c p (omega arith) hp ∙ sym (answer_row c p hc hp))

  -- the numbers of a row
  module _ (j : ℕ) (h : j < f) where
    pub exponent_small : j * s.k ≤ 510
    exponent_small =
        let few : j ≤ 2 = let m = able.new_rows reads.rows in omega arith in
        mul-le-mul few able.shape.data_most

    pub row_lies : (count : ℕ) → count ≡ s.l → InColumns (length xs) (j * s.l) (f * s.l) n count
    row_lies count long =
        record {
          some = let m = able.stripes_some in omega arith;
          most = able.stripes_most;
          places_some = let m = able.shape.length_some in omega arith;
          places_most = let m = able.shape.length_most in omega arith;
          inside = λ i l. omega (arith, column_inside j f s.l h, column_inside i n (f * s.l) l, all_long);
        }
