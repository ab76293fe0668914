-- The laws of the fold. All that other proofs know of a share, a byte of the fold, the folded stripes and the fold's answer stands here: their
-- definitions are opened in no other file.
use mathlib.Core.Path.{◌≡◌, refl, sym, ap, ap₂, ◌∙◌, subst}
use mathlib.Core.Bool.{Bool, true, false, cond, true≢false}
use mathlib.Core.Logic.{◌⊎◌, inl, inr}
use mathlib.Core.List.{List, [], ◌∷◌, ◌++◌, map, map-append}
use Prim.Native.Nat.{ℕ, ◌+◌, ◌*◌, ◌/◌, ◌%◌, ◌<◌}
use native.Mathlib.Omega.{arith}
use lib.Dec.{ltb, lit<}
use lib.ListN.{length, get_or, length-map}
use Rattle.field.specs.Field.{◌⊕◌, ◌⊗◌, gpow}
use Rattle.field.specs.Bytes.{Bytes}
use Rattle.field.specs.Row.{row}
use Rattle.field.proofs.Xor.{add-lt}
use Rattle.field.proofs.Bytes.{tabulate-length, tabulate_at, tabulate_bytes}
use Rattle.field.proofs.Rows.{row_parts, row-nil, row_cons, row_lt}
use Rattle.stripe.specs.declared.Shape.{Shape}
use Rattle.stripe.specs.Stripe.{across, run_length, by_points, parity}
use Rattle.stripe.proofs.Allowed.{prepared_by_rows}
use Rattle.stripe.proofs.Places.{place_lt, place_column, place_byte, parity-length, parity_bytes}
use Rattle.equations.specs.Whole.{fold_columns}
use Rattle.equations.proofs.Folded.{fold_columns-length, fold_columns_bytes}
use Rattle.plan.specs.declared.Kind.{Kind}
use Rattle.plan.specs.declared.Kind.TheVariants.{A, B, C}
use Rattle.plan.specs.Plan.{fold_refusal, kind_of, bytes_each, wide_shape}
use Rattle.plan.proofs.Foldable.{IsA, IsB, IsC, Foldable, foldable}
use Rattle.fold.specs.Fold.{read_parity, read_row, run_share, share, fold_byte, fold_by_rows, fold_by_points, fold_stripes, fold_of}
use Rattle.points.specs.Folding.{joined, parts}

-- ---- what a stripe adds

module _ (s : Shape) (xs : List ℕ) (j p : ℕ) where
  pub share_a : share A s xs j p ≡ get_or xs (j * s.l + p) 0
  unfolding share
  share_a = refl

  pub share_b : share B s xs j p ≡ run_share s xs j (p / run_length s) (p % run_length s)
  unfolding share
  share_b = refl

  pub share_c : share C s xs j p ≡ row j (across xs s.l p 0 s.k)
  unfolding share
  share_c = refl

choice_lt : (b : Bool) (x y : ℕ) → x < 256 → y < 256 → cond b x y < 256
choice_lt true x y hx hy = hx
choice_lt false x y hx hy = hy

-- it is a byte
pub share-lt : (κ : Kind) (s : Shape) (xs : List ℕ) (j p : ℕ) → Bytes xs → share κ s xs j p < 256
unfolding share run_share read_parity read_row
share-lt A s xs j p h = h (j * s.l + p)
share-lt B s xs j p h =
    choice_lt (ltb _ s.r) _ _ (choice_lt (ltb j s.r) _ _ (h _) (add-lt 8 _ _ (h _) (row_lt _ _))) (row_lt j _)
share-lt C s xs j p h = row_lt j _

-- ---- a byte of the fold

module _ (κ : Kind) (s : Shape) where
  -- the sum of what the stripes add
  pub fold_sum_lem : (xss : List (List ℕ)) (j p : ℕ) → fold_byte κ s xss j p ≡ row (j * s.k) (map (λ xs. share κ s xs j p) xss)
  unfolding fold_byte
  fold_sum_lem xss j p = refl

  pub fold_none : (j p : ℕ) → fold_byte κ s [] j p ≡ 0
  fold_none j p = fold_sum_lem [] j p ∙ row-nil (j * s.k)

  -- a stripe before others
  pub fold_cons : (xs : List ℕ) (xss : List (List ℕ)) (j p : ℕ) → Bytes xs
      → fold_byte κ s (xs ∷ xss) j p ≡ share κ s xs j p ⊕ gpow (j * s.k) ⊗ fold_byte κ s xss j p
  fold_cons xs xss j p h =
      fold_sum_lem (xs ∷ xss) j p ∙ row_cons (j * s.k) (share κ s xs j p) _ (share-lt κ s xs j p h)
      ∙ ap (λ (v : ℕ). share κ s xs j p ⊕ gpow (j * s.k) ⊗ v) (sym (fold_sum_lem xss j p))

  -- two sittings: the sum over stripes xss, then yss; the weights of the latter are shifted by the number of the former
  pub fold_append : (xss yss : List (List ℕ)) (j p : ℕ)
      → fold_byte κ s (xss ++ yss) j p ≡ fold_byte κ s xss j p ⊕ gpow (length xss * (j * s.k)) ⊗ fold_byte κ s yss j p
  fold_append xss yss j p =
      fold_sum_lem (xss ++ yss) j p ∙ ap (row (j * s.k)) (map-append adds xss yss) ∙ row_parts (j * s.k) (map adds xss) (map adds yss)
      ∙ ap (λ (n : ℕ). row (j * s.k) (map adds xss) ⊕ gpow (n * (j * s.k)) ⊗ row (j * s.k) (map adds yss)) (length-map xss adds)
      ∙ ap₂ (λ (v w : ℕ). v ⊕ gpow (length xss * (j * s.k)) ⊗ w) (sym (fold_sum_lem xss j p)) (sym (fold_sum_lem yss j p))
    where
      adds : List ℕ → ℕ
      adds xs = share κ s xs j p

  fold_lt : (xss : List (List ℕ)) (j p : ℕ) → fold_byte κ s xss j p < 256
  unfolding fold_byte
  fold_lt xss j p = row_lt (j * s.k) _

-- ---- the folded stripes

module _ (s : Shape) (f : ℕ) (xss : List (List ℕ)) where
  stripes_are : (b : Bool) (κ : Kind) → by_points s ≡ b → kind_of s f ≡ κ → fold_stripes s f xss ≡ cond b (fold_by_points κ s f xss) (fold_by_rows s f xss)
  unfolding fold_stripes
  stripes_are b κ e h = ap₂ (λ (x : Bool) (y : Kind). cond x (fold_by_points y s f xss) (fold_by_rows s f xss)) e h

  -- by rows
  module _ (rows : by_points s ≡ false) where
    by_rows : fold_stripes s f xss ≡ fold_by_rows s f xss
    by_rows = stripes_are false (kind_of s f) rows refl

    pub stripes_length : length (fold_stripes s f xss) ≡ f * s.l
    unfolding fold_by_rows
    stripes_length = ap length by_rows ∙ tabulate-length (f * s.l) _

    pub stripes_place : (i : ℕ) → i < f * s.l → get_or (fold_stripes s f xss) i 0 ≡ fold_byte (kind_of s f) s xss (i / s.l) (i % s.l)
    unfolding fold_by_rows
    stripes_place i h = ap (λ (ys : List ℕ). get_or ys i 0) by_rows ∙ tabulate_at (f * s.l) _ i h

  -- by points: kind A from the parity columns, kind C from the data
  module _ (points_here : by_points s ≡ true) where
    pub stripes_columns : kind_of s f ≡ A → fold_stripes s f xss ≡ fold_columns s.k s.r s.l xss
    unfolding fold_by_points
    stripes_columns kind = stripes_are true A points_here kind

    pub stripes_data : kind_of s f ≡ C → fold_stripes s f xss ≡ parity (wide_shape s (length xss) f) (joined xss)
    unfolding fold_by_points
    stripes_data kind = stripes_are true C points_here kind

  -- both
  points_bytes : (κ : Kind) → Bytes (fold_by_points κ s f xss)
  unfolding fold_by_points
  points_bytes A = fold_columns_bytes s.k s.r s.l xss
  points_bytes B = λ i. lit< tt
  points_bytes C = parity_bytes (wide_shape s (length xss) f) (joined xss)

  stripes_bytes : Bytes (fold_stripes s f xss)
  unfolding fold_stripes fold_by_rows
  stripes_bytes = go (by_points s)
    where
      go : (b : Bool) → Bytes (cond b (fold_by_points (kind_of s f) s f xss) (fold_by_rows s f xss))
      go true = points_bytes (kind_of s f)
      go false = tabulate_bytes (f * s.l) _ (λ i. fold_lt (kind_of s f) s xss (i / s.l) (i % s.l))

  stripes_long : (n : ℕ) → Foldable s n f → length (fold_stripes s f xss) ≡ f * s.l
  stripes_long n able = go (by_points s) refl able.kinds
    where
      go : (b : Bool) → by_points s ≡ b → IsA s f ⊎ (IsB s f ⊎ IsC s f) → length (fold_stripes s f xss) ≡ f * s.l
      go false e k = stripes_length e
      go true e (inl h) =
          ap length (stripes_columns e h.kind) ∙ fold_columns-length s.k s.r s.l xss ∙ ap (λ (x : ℕ). x * s.l) (sym (able.new_points e))
      go true e (inr (inl h)) =
          absurd (true≢false (sym e ∙ prepared_by_rows s able.shape (let g = h.prepared.gains in omega arith)))
      go true e (inr (inr h)) = ap length (stripes_data e h.kind) ∙ parity-length (wide_shape s (length xss) f) (joined xss)

-- ---- the fold's answer

module _ (s : Shape) (n f : ℕ) (xs : List ℕ) where
  pub fold_is : fold_of s n f xs ≡ fold_stripes s f (parts (bytes_each (kind_of s f) s f) n xs)
  unfolding fold_of
  fold_is = refl

  pub fold_length : fold_refusal s n f ≡ 0 → length (fold_of s n f xs) ≡ f * s.l
  fold_length passed = ap length fold_is ∙ stripes_long s f _ n (foldable s n f passed)

  pub fold_bytes : Bytes (fold_of s n f xs)
  fold_bytes = subst Bytes (sym fold_is) (stripes_bytes s f _)

  -- by rows
  pub fold_at : by_points s ≡ false → (j p : ℕ) → j < f → p < s.l
      → get_or (fold_of s n f xs) (j * s.l + p) 0 ≡ fold_byte (kind_of s f) s (parts (bytes_each (kind_of s f) s f) n xs) j p
  fold_at rows j p hj hp =
      ap (λ (ys : List ℕ). get_or ys (j * s.l + p) 0) fold_is ∙ stripes_place s f _ rows (j * s.l + p) (place_lt hj hp)
      ∙ ap₂ (fold_byte (kind_of s f) s (parts (bytes_each (kind_of s f) s f) n xs)) (place_column j hp) (place_byte j hp)
