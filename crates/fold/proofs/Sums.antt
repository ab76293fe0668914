-- Sums over stripes: what is added is added for each stripe by itself, and row j*k over stripes of rows j of k bytes each is row j of all those
-- bytes.
use mathlib.Core.Path.{◌≡◌, refl, sym, ap, ap₂, ◌∙◌, subst}
use mathlib.Core.List.{List, [], ◌∷◌, ◌++◌, map}
use mathlib.Core.Logic.{◌⊎◌, inl, inr}
use Prim.Native.Nat.{ℕ, zero, suc, ◌+◌, ◌-◌, ◌*◌, ◌<◌, ◌≤◌}
use native.Mathlib.Nat.{zero-mul, mul_comm, suc-mul, add_comm as ℕ-add-comm, not-suc-le-zero, le_of_suc-le-suc}
use native.Mathlib.Omega.{arith}
use lib.ListN.{length, get_or, length-map, length-append}
use lib.Seq.{ext_get_or}
use Rattle.field.specs.Field.{◌⊕◌, ◌⊗◌, gpow}
use Rattle.field.specs.Bytes.{◌⊞◌}
use Rattle.field.specs.Row.{row}
use Rattle.field.proofs.Xor.{zero-add, add-zero}
use Rattle.field.proofs.Mul.{mul-zero, one-mul, mul_assoc, gpow-add, gpow-zero}
use Rattle.field.proofs.Rows.{row_parts, row-nil, row_cons, row-add, row_lt}
use Rattle.field.proofs.Cases.{below_or_from}
use Rattle.stripe.specs.declared.Shape.{Shape}
use Rattle.stripe.specs.Stripe.{across}
use Rattle.stripe.proofs.Places.{across-length, across_first, place_lt}
use Rattle.plan.specs.declared.Kind.TheVariants.{C}
use Rattle.fold.specs.Fold.{fold_byte}
use Rattle.points.specs.Folding.{joined}
use Rattle.fold.proofs.Laws.{share_c, fold_sum_lem}
use Rattle.fold.proofs.Cut.{at_front, at_rest}

-- ---- sums of what each stripe adds

map-add : (u v w : List ℕ → ℕ) (zss : List (List ℕ)) → ((l : ℕ) → l < length zss → u (get_or zss l []) ≡ v (get_or zss l []) ⊕ w (get_or zss l []))
    → map u zss ≡ map v zss ⊞ map w zss
unfolding ◌⊞◌
map-add u v w [] h = refl
map-add u v w (z ∷ zss) h = ap₂ ◌∷◌ (h 0 (omega arith)) (map-add u v w zss (λ l m. h (suc l) (omega arith)))

-- what is added is added for each stripe by itself
pub map_sum : (i : ℕ) (u v w : List ℕ → ℕ) (zss : List (List ℕ)) → ((l : ℕ) → l < length zss → u (get_or zss l []) ≡ v (get_or zss l []) ⊕ w (get_or zss l []))
    → row i (map u zss) ≡ row i (map v zss) ⊕ row i (map w zss)
map_sum i u v w zss h =
    ap (row i) (map-add u v w zss h) ∙ row-add i (map v zss) (map w zss) (length-map zss v ∙ sym (length-map zss w))

pub map_none : (i : ℕ) (w : List ℕ → ℕ) (zss : List (List ℕ)) → ((l : ℕ) → l < length zss → w (get_or zss l []) ≡ 0) → row i (map w zss) ≡ 0
map_none i w [] h = row-nil i
map_none i w (z ∷ zss) h =
    ap (λ (x : ℕ). row i (x ∷ map w zss)) (h 0 (omega arith)) ∙ row_cons i 0 (map w zss) (omega arith)
    ∙ zero-add _ ∙ ap (λ (x : ℕ). gpow i ⊗ x) (map_none i w zss (λ l m. h (suc l) (omega arith))) ∙ mul-zero (gpow i)

-- if one stripe alone adds something, it is that, times the stripe's weight
pub map-one : (i : ℕ) (w : List ℕ → ℕ) (zss : List (List ℕ)) (n : ℕ) → n < length zss → w (get_or zss n []) < 256
    → ((l : ℕ) → l < length zss → (l ≡ n → ⊥) → w (get_or zss l []) ≡ 0) → row i (map w zss) ≡ gpow (n * i) ⊗ w (get_or zss n [])
map-one i w [] n k b h = absurd (not-suc-le-zero k)
map-one i w (z ∷ zss) zero k b h =
    row_cons i (w z) (map w zss) b
    ∙ ap (λ (x : ℕ). w z ⊕ gpow i ⊗ x) (map_none i w zss (λ l m. h (suc l) (omega arith) (λ e. omega arith)))
    ∙ ap (λ (x : ℕ). w z ⊕ x) (mul-zero (gpow i)) ∙ add-zero (w z)
    ∙ sym (ap (λ (x : ℕ). x ⊗ w z) (ap gpow (zero-mul i) ∙ gpow-zero) ∙ one-mul (w z) b)
map-one i w (z ∷ zss) (suc n) k b h =
    ap (λ (x : ℕ). row i (x ∷ map w zss)) (h 0 (omega arith) (λ e. omega arith)) ∙ row_cons i 0 (map w zss) (omega arith) ∙ zero-add _
    ∙ ap (λ (x : ℕ). gpow i ⊗ x) (map-one i w zss n (le_of_suc-le-suc k) b (λ l m ne. h (suc l) (omega arith) (λ e. ne (omega arith))))
    ∙ sym (mul_assoc (gpow i) (gpow (n * i)) (w (get_or zss n [])))
    ∙ ap (λ (x : ℕ). x ⊗ w (get_or zss n [])) (sym (gpow-add i (n * i)) ∙ ap gpow (ℕ-add-comm i (n * i) ∙ sym (suc-mul n i)))

-- ---- rows of all bytes

-- the bytes across the columns of one list, then of another
module _ (xs ys : List ℕ) (l p k m : ℕ) (e : length xs ≡ k * l) (hp : p < l) where
  in_first : (i : ℕ) → i < k → get_or (across (xs ++ ys) l p 0 (k + m)) i 0 ≡ get_or (across xs l p 0 k ++ across ys l p 0 m) i 0
  in_first i h =
      across_first (xs ++ ys) l p (k + m) i (omega arith)
      ∙ at_front xs ys (k * l) (i * l + p) e (place_lt h hp)
      ∙ sym (at_front (across xs l p 0 k) (across ys l p 0 m) k i (across-length xs l p 0 k) h ∙ across_first xs l p k i h)

  in_second : (i : ℕ) → i < m → get_or (across (xs ++ ys) l p 0 (k + m)) (k + i) 0 ≡ get_or (across xs l p 0 k ++ across ys l p 0 m) (k + i) 0
  in_second i h =
      across_first (xs ++ ys) l p (k + m) (k + i) (omega arith)
      ∙ at_rest xs ys (k * l) ((k + i) * l + p) (i * l + p) e (omega arith)
      ∙ sym (at_rest (across xs l p 0 k) (across ys l p 0 m) k (k + i) i (across-length xs l p 0 k) refl ∙ across_first ys l p m i h)

  pub across-append : across (xs ++ ys) l p 0 (k + m) ≡ across xs l p 0 k ++ across ys l p 0 m
  across-append =
      ext_get_or 0 _ _
      (across-length (xs ++ ys) l p 0 (k + m)
      ∙ sym (length-append (across xs l p 0 k) (across ys l p 0 m) ∙ ap₂ ◌+◌ (across-length xs l p 0 k) (across-length ys l p 0 m)))
      (λ i h. at i (subst (λ (x : ℕ). i < x) (across-length (xs ++ ys) l p 0 (k + m)) h) (below_or_from i k))
    where
      at : (i : ℕ) → i < k + m → (i < k) ⊎ (k ≤ i) → get_or (across (xs ++ ys) l p 0 (k + m)) i 0 ≡ get_or (across xs l p 0 k ++ across ys l p 0 m) i 0
      at i h (inl a) = in_first i a
      at i h (inr b) =
          let w : k + (i - k) ≡ i = omega arith in
          subst (λ (x : ℕ). get_or (across (xs ++ ys) l p 0 (k + m)) x 0 ≡ get_or (across xs l p 0 k ++ across ys l p 0 m) x 0) w
          (in_second (i - k) (omega arith))

pub across_none : (xs : List ℕ) (l p o m : ℕ) → m ≡ 0 → across xs l p o m ≡ []
unfolding across
across_none xs l p o zero e = refl
across_none xs l p o (suc m) e = absurd (omega arith)

-- row j*k over lists of k columns of row j of each is row j of all their columns
pub rows_joined : (j k l p : ℕ) (xss : List (List ℕ)) → p < l → ((i : ℕ) → i < length xss → length (get_or xss i []) ≡ k * l)
    → row (j * k) (map (λ xs. row j (across xs l p 0 k)) xss) ≡ row j (across (joined xss) l p 0 (length xss * k))
unfolding joined
rows_joined j k l p [] hp h =
    row-nil (j * k) ∙ sym (ap (row j) (across_none [] l p 0 (0 * k) (zero-mul k)) ∙ row-nil j)
rows_joined j k l p (xs ∷ xss) hp h =
    row_cons (j * k) (row j (across xs l p 0 k)) _ (row_lt j (across xs l p 0 k))
    ∙ ap₂ (λ (x y : ℕ). row j (across xs l p 0 k) ⊕ gpow x ⊗ y)
    (mul_comm j k ∙ ap (λ (x : ℕ). x * j) (sym (across-length xs l p 0 k)))
    (rows_joined j k l p xss hp (λ i m. h (suc i) (omega arith)))
    ∙ sym (row_parts j (across xs l p 0 k) (across (joined xss) l p 0 (length xss * k)))
    ∙ ap (row j)
    (sym (ap (λ (x : ℕ). across (xs ++ joined xss) l p 0 x) (suc-mul (length xss) k ∙ ℕ-add-comm (length xss * k) k)
    ∙ across-append xs (joined xss) l p k (length xss * k) (h 0 (omega arith)) hp))

-- kind C: wide row j is the row of all data read
pub all_read : (s : Shape) (xss : List (List ℕ)) (j p : ℕ) → p < s.l → ((i : ℕ) → i < length xss → length (get_or xss i []) ≡ s.k * s.l)
    → fold_byte C s xss j p ≡ row j (across (joined xss) s.l p 0 (length xss * s.k))
all_read s xss j p hp h =
    fold_sum_lem C s xss j p ∙ ap (λ (adds : List ℕ → ℕ). row (j * s.k) (map adds xss)) (λ i xs. share_c s xs j p i)
    ∙ rows_joined j s.k s.l p xss hp h
