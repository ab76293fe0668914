-- By points: the constants of the fold times the columns read of all stripes are the fold's answer. Kind A reads the parity columns, kind C the data.
use mathlib.Core.Path.{◌≡◌, refl, sym, ap, ◌∙◌, subst}
use mathlib.Core.Bool.{Bool, true, cond}
use mathlib.Core.List.{List, map}
use mathlib.Core.Logic.{◌⊎◌, inl, inr}
use Prim.Native.Nat.{ℕ, ◌+◌, ◌*◌, ◌%◌, ◌<◌, ◌≤◌, min}
use native.Mathlib.Nat.{mul-le-mul, mul-le-mul_left, mul_assoc}
use native.Mathlib.Omega.{arith}
use lib.ListN.{length, get_or}
use borrow.Author.Tests.{lt-ltb, le-ltb}
use Rattle.field.specs.Bytes.{tabulate}
use Rattle.field.proofs.Bytes.{tabulate-length, tabulate_at}
use Rattle.field.proofs.Cases.{below_or_from}
use Rattle.points.specs.Lagrange.{dot}
use Rattle.points.specs.Folding.{fold_parity, parts}
use Rattle.stripe.specs.declared.Shape.{Shape}
use Rattle.stripe.specs.Shape.{most_rows}
use Rattle.stripe.specs.Stripe.{across, by_points}
use Rattle.stripe.proofs.Allowed.{Allowed, many_by_points}
use Rattle.stripe.proofs.Places.{by_places, column_inside}
use Rattle.matrix.specs.Matrix.{row_of, bytes_at, applied, becomes}
use Rattle.matrix.proofs.Shape.{Lengths, fit_lengths, applied-length, applied_place, becomes_fits}
use Rattle.equations.specs.Whole.{fold_columns}
use Rattle.equations.proofs.Columns.{columns_at}
use Rattle.constants.specs.Constants.{most_constants, encoding_of, folding_of, encodes, folds}
use Rattle.constants.proofs.Made.{few_constants, encoding_made, encoding_length, folding_made, folding_length}
use Rattle.constants.proofs.Applied.{order_small, fold_applied}
use Rattle.coding.proofs.ByPoints.{parity_filled as wide-filled}
use Rattle.plan.specs.declared.Kind.{Kind}
use Rattle.plan.specs.declared.Kind.TheVariants.{A, C}
use Rattle.plan.specs.Plan.{fold_refusal, kind_of, bytes_each, bytes_read, wide_shape}
use Rattle.plan.proofs.Foldable.{IsA, IsB, IsC, Foldable, foldable, wide_by_points}
use Rattle.plan.proofs.Costs.{bytes_read_lem}
use Rattle.fold.specs.Fold.{fold_of}
use Rattle.fold.specs.Shares.{ReadsColumns, read_columns, read_constants}
use Rattle.fold.proofs.Encoded.{fold_parity_lem, wide_lent}
use Rattle.fold.proofs.Laws.{stripes_columns, fold_is, fold_length}

-- ---- the numbers of such a fold

module _ (s : Shape) where
  pub read_data : s.k < s.r → read_columns s ≡ s.k
  unfolding read_columns
  read_data h = ap (λ (b : Bool). cond b s.k s.r) (lt-ltb s.k s.r h)

  pub read_parity_lem : s.r ≤ s.k → read_columns s ≡ s.r
  unfolding read_columns
  read_parity_lem h = ap (λ (b : Bool). cond b s.k s.r) (le-ltb s.k s.r h)

  pub read_least : min s.k s.r ≡ read_columns s
  read_least = go (below_or_from s.k s.r)
    where
      go : (s.k < s.r) ⊎ (s.r ≤ s.k) → min s.k s.r ≡ read_columns s
      go (inl h) = omega (arith, read_data h)
      go (inr h) = omega (arith, read_parity_lem h)

  data_constants : (n : ℕ) → s.k < s.r → read_constants s n ≡ encoding_of (n * s.k) s.r
  unfolding read_constants
  data_constants n h = ap (λ (b : Bool). cond b (encoding_of (n * s.k) s.r) (folding_of s.k s.r n)) (lt-ltb s.k s.r h)

  parity_constants : (n : ℕ) → s.r ≤ s.k → read_constants s n ≡ folding_of s.k s.r n
  unfolding read_constants
  parity_constants n h = ap (λ (b : Bool). cond b (encoding_of (n * s.k) s.r) (folding_of s.k s.r n)) (le-ltb s.k s.r h)

  pub constants_long : (n : ℕ) {m : ℕ} → m ≡ read_columns s → length (read_constants s n) ≡ s.r * (n * m)
  constants_long n {m} e = go (below_or_from s.k s.r)
    where
      go : (s.k < s.r) ⊎ (s.r ≤ s.k) → length (read_constants s n) ≡ s.r * (n * m)
      go (inl h) = ap length (data_constants n h) ∙ encoding_length (n * s.k) s.r ∙ ap (λ (x : ℕ). s.r * (n * x)) (sym (e ∙ read_data h))
      go (inr h) = ap length (parity_constants n h) ∙ folding_length s.k s.r n ∙ ap (λ (x : ℕ). s.r * (n * x)) (sym (e ∙ read_parity_lem h))

  read_fewer : read_columns s ≤ s.k
  read_fewer = go (below_or_from s.k s.r)
    where
      go : (s.k < s.r) ⊎ (s.r ≤ s.k) → read_columns s ≤ s.k
      go (inl h) = omega (arith, read_data h)
      go (inr h) = omega (arith, read_parity_lem h, h)

module _ (s : Shape) (n a b : ℕ) (reads : ReadsColumns s n a b) where
  able : Foldable s n s.r
  able = foldable s n s.r reads.passed

  pub wide_fits : n * s.k + s.r ≤ 255
  wide_fits = able.points_most reads.points

  -- all columns read, and their constants
  columns_fit_lem : n * read_columns s + s.r ≤ 255
  columns_fit_lem = omega (arith, mul-le-mul_left n (read_fewer s), wide_fits)

  pub columns_most : {m : ℕ} → m ≡ read_columns s → n * m ≤ 255
  columns_most e = subst (λ (m : ℕ). n * m ≤ 255) (sym e) (omega (arith, columns_fit_lem))

  pub constants_most : {m : ℕ} → m ≡ read_columns s → s.r * (n * m) ≤ most_constants
  constants_most e =
      subst (λ (m : ℕ). s.r * (n * m) ≤ most_constants) (sym e) (few_constants s.r (n * read_columns s) able.shape.parity_most columns_fit_lem)

  -- the constants are made where they have the room they need
  module _ (ws : List ℕ) (long : length ws ≡ s.r * (n * read_columns s)) where
    pub data_made : s.k < s.r → encodes (n * s.k) s.r ws ≡ read_constants s n
    data_made h =
        encoding_made (n * s.k) s.r ws wide_fits able.shape.parity_most (long ∙ ap (λ (m : ℕ). s.r * (n * m)) (read_data s h))
        ∙ sym (data_constants s n h)

    pub parity_made : s.r ≤ s.k → folds s.k s.r n ws ≡ read_constants s n
    parity_made h =
        folding_made s.k s.r n ws able.shape.data_most able.shape.parity_most able.stripes_most (columns_most (sym (read_parity_lem s h)))
        (long ∙ ap (λ (m : ℕ). s.r * (n * m)) (read_parity_lem s h))
        ∙ sym (parity_constants s n h)

  -- the kind
  pub kind_a : s.r ≤ s.k → kind_of s s.r ≡ A
  kind_a few = go able.kinds
    where
      go : IsA s s.r ⊎ (IsB s s.r ⊎ IsC s s.r) → kind_of s s.r ≡ A
      go (inl h) = h.kind
      go (inr (inl h)) = absurd (let g = h.prepared in omega (arith, g.gains, h.marked))
      go (inr (inr h)) = absurd (none h.more)
        where
          none : (s.r < s.r) ⊎ (s.k < s.r) → ⊥
          none (inl x) = omega arith
          none (inr x) = omega arith

  pub kind_c : s.k < s.r → kind_of s s.r ≡ C
  kind_c few = go able.kinds
    where
      go : IsA s s.r ⊎ (IsB s s.r ⊎ IsC s s.r) → kind_of s s.r ≡ C
      go (inl h) = absurd (let g = h.fewer in omega arith)
      go (inr (inl h)) = absurd (let g = h.prepared in omega (arith, g.gains, h.marked))
      go (inr (inr h)) = h.kind

-- ---- kind A

module _ (s : Shape) (n a b : ℕ) (reads : ReadsColumns s n a b) (kind : kind_of s s.r ≡ A) where
  pub each_long : bytes_each (kind_of s s.r) s s.r ≡ s.r * s.l
  unfolding bytes_each
  each_long = ap (λ (κ : Kind). bytes_each κ s s.r) kind

  pub all_long : a ≡ n * s.r * s.l
  all_long =
      reads.read_long ∙ bytes_read_lem s n s.r reads.passed ∙ ap (λ (x : ℕ). n * x) each_long ∙ sym (mul_assoc n s.r s.l)

-- the same numbers where nothing is lent
pub reads_any : (s : Shape) (n : ℕ) → fold_refusal s n s.r ≡ 0 → by_points s ≡ true → ReadsColumns s n (bytes_read s n s.r) (s.r * s.l)
reads_any s n passed points = record { passed = passed; points = points; read_long = refl; parity_long = refl }

-- ---- a fold that is not refused, of more than `most_rows` parity columns

module _ (s : Shape) (n f : ℕ) (passed : fold_refusal s n f ≡ 0) (many : most_rows < s.r) where
  points_able : Foldable s n f
  points_able = foldable s n f passed

  points_here : by_points s ≡ true
  points_here = many_by_points s many points_able.shape.parity_most

  pub points_new : f ≡ s.r
  points_new = points_able.new_points points_here

pub reads_columns : (s : Shape) (n f a b : ℕ) → fold_refusal s n f ≡ 0 → most_rows < s.r → a ≡ bytes_read s n f → b ≡ f * s.l → ReadsColumns s n a b
reads_columns s n f a b passed many read_long parity_long =
    let same = points_new s n f passed many in
    record {
      passed = subst (λ (g : ℕ). fold_refusal s n g ≡ 0) same passed;
      points = points_here s n f passed many;
      read_long = read_long ∙ ap (bytes_read s n) same;
      parity_long = parity_long ∙ ap (λ (g : ℕ). g * s.l) same;
    }

-- ---- the fold's answer, kind A

module _ (s : Shape) (n : ℕ) (xs ps : List ℕ) (reads : ReadsColumns s n (length xs) (length ps)) (few : s.r ≤ s.k) where
  is_a : kind_of s s.r ≡ A
  is_a = kind_a s n (length xs) (length ps) reads few

  most : n * s.r ≤ 255
  most = columns_most s n (length xs) (length ps) reads (sym (read_parity_lem s few))

  abbrev order : List ℕ
  order = tabulate (n * s.r) (λ i. i)

  abbrev made : List ℕ
  made = folding_of s.k s.r n

  good : Allowed s
  good = (able s n (length xs) (length ps) reads).shape

  order-length : length order ≡ n * s.r
  order-length = tabulate-length (n * s.r) _

  some_columns : 1 ≤ n * s.r
  some_columns =
      let g : 1 ≤ n = let x = (able s n (length xs) (length ps) reads).stripes_some in omega arith in mul-le-mul g good.parity_some

  lengths : Lengths s.r order 0 s.l s.l (length made) (length xs) (length ps)
  lengths =
      record {
        numbers =
            record {
              rows_some = good.parity_some;
              rows_most = good.parity_most;
              columns_some = omega (arith, order-length, some_columns);
              columns_most = omega (arith, order-length, most);
              places_some = good.length_some;
              places_most = good.length_most;
            };
        matrix = folding_length s.k s.r n ∙ ap (λ (m : ℕ). s.r * m) (sym order-length);
        columns = λ i m.
            let l : i < n * s.r = subst (λ (x : ℕ). i < x) order-length m in
            subst (λ (c : ℕ). 0 + c * s.l + s.l ≤ length xs) (sym (tabulate_at (n * s.r) (λ i. i) i l))
            (omega (arith, column_inside i (n * s.r) s.l l, all_long s n (length xs) (length ps) reads is_a));
        out = reads.parity_long;
      }

  answer_columns : fold_of s n s.r xs ≡ fold_columns s.k s.r s.l (parts (s.r * s.l) n xs)
  answer_columns =
      fold_is s n s.r xs ∙ stripes_columns s s.r _ reads.points is_a
      ∙ ap (fold_columns s.k s.r s.l)
      (ap (λ (m : ℕ). parts m n xs) (each_long s n (length xs) (length ps) reads is_a))

  columns_place : (i p : ℕ) → i < s.r → p < s.l
      → get_or (fold_columns s.k s.r s.l (parts (s.r * s.l) n xs)) (i * s.l + p) 0
      ≡ get_or (fold_parity s.k s.r (map (λ qs. across qs s.l p 0 s.r) (parts (s.r * s.l) n xs))) i 0
  unfolding fold_columns
  columns_place i p hi hp = columns_at s.r s.l _ i p hi hp

  columns_made : applied s.r order made xs 0 s.l s.l ≡ fold_of s n s.r xs
  columns_made =
      by_places s.r s.l _ _ (applied-length s.r order made xs 0 s.l s.l) (fold_length s n s.r xs reads.passed) at
    where
      at : (i p : ℕ) → i < s.r → p < s.l
          → get_or (applied s.r order made xs 0 s.l s.l) (i * s.l + p) 0 ≡ get_or (fold_of s n s.r xs) (i * s.l + p) 0
      at i p hi hp =
          applied_place s.r order made xs 0 s.l s.l i p hi hp
          ∙ ap (λ (m : ℕ). dot (row_of m made i) (bytes_at xs 0 s.l p order)) order-length
          ∙ fold_applied s.k s.r s.l n xs i p (let h = good.parity_most in omega arith) hi hp
          ∙ sym (ap (λ (ys : List ℕ). get_or ys (i * s.l + p) 0) answer_columns ∙ columns_place i p hi hp)

  parity_filled : (at : List ℕ) → at ≡ tabulate (n * s.r) (λ i. i % 256) → becomes s.r at made xs 0 s.l s.l ps ≡ fold_of s n s.r xs
  parity_filled at o =
      ap (λ (cs : List ℕ). becomes s.r cs made xs 0 s.l s.l ps) (o ∙ order_small (n * s.r) (omega (arith, most)))
      ∙ becomes_fits s.r order made xs 0 s.l s.l ps
      (fit_lengths s.r order 0 s.l s.l (length made) (length xs) (length ps) lengths)
      ∙ columns_made

-- ---- the fold's answer, kind A or C

module _ (s : Shape) (n : ℕ) (xs ps : List ℕ) (reads : ReadsColumns s n (length xs) (length ps)) where
  data_filled : s.k < s.r → (at : List ℕ) → at ≡ tabulate (n * s.k) (λ i. i % 256)
      → becomes s.r at (encoding_of (n * s.k) s.r) xs 0 s.l s.l ps ≡ fold_of s n s.r xs
  data_filled many at o =
      let is_c = kind_c s n (length xs) (length ps) reads many in
      let few = (able s n (length xs) (length ps) reads).shape.parity_most in
      let w = encoding_of (n * s.k) s.r in
      let long = encoding_length (n * s.k) s.r in
      ap (λ (ms : List ℕ). becomes s.r at ms xs 0 s.l s.l ps)
      (sym (encoding_made (n * s.k) s.r w (wide_fits s n (length xs) (length ps) reads) few long))
      ∙ wide-filled (wide_shape s n s.r) xs ps (wide_lent s n s.r reads.passed xs is_c reads.read_long (length ps) reads.parity_long)
      (wide_by_points s n s.r reads.passed ∙ reads.points) w at long o
      ∙ sym (fold_parity_lem s n s.r reads.passed xs is_c reads.read_long)

  pub columns_filled_lem : (at : List ℕ) → at ≡ tabulate (n * read_columns s) (λ i. i % 256)
      → becomes s.r at (read_constants s n) xs 0 s.l s.l ps ≡ fold_of s n s.r xs
  columns_filled_lem at o = go (below_or_from s.k s.r)
    where
      go : (s.k < s.r) ⊎ (s.r ≤ s.k) → becomes s.r at (read_constants s n) xs 0 s.l s.l ps ≡ fold_of s n s.r xs
      go (inl h) =
          ap (λ (ms : List ℕ). becomes s.r at ms xs 0 s.l s.l ps) (data_constants s n h)
          ∙ data_filled h at (o ∙ ap (λ (m : ℕ). tabulate (n * m) (λ i. i % 256)) (read_data s h))
      go (inr h) =
          ap (λ (ms : List ℕ). becomes s.r at ms xs 0 s.l s.l ps) (parity_constants s n h)
          ∙ parity_filled s n xs ps reads h at (o ∙ ap (λ (m : ℕ). tabulate (n * m) (λ i. i % 256)) (read_parity_lem s h))
