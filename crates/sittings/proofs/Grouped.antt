-- Groups of stripes, joined: what holds of every stripe of every group holds of all stripes in order, and a sum over all stripes is the sum over the
-- groups of their sums.
use mathlib.Core.Path.{◌≡◌, refl, sym, ap, ap₂, ◌∙◌}
use mathlib.Core.List.{List, [], ◌∷◌, ◌++◌, map, map-append}
use Prim.Native.Nat.{ℕ, suc, ◌*◌, ◌<◌}
use native.Mathlib.Nat.{mul_comm}
use native.Mathlib.Omega.{arith}
use lib.ListN.{length, get_or, length-map}
use Rattle.field.specs.Field.{◌⊕◌, ◌⊗◌, gpow}
use Rattle.field.specs.Row.{row}
use Rattle.field.proofs.Rows.{row_parts, row-nil, row_cons, row_lt}
use Rattle.points.specs.Folding.{Each, joined}
use Rattle.points.proofs.Joined.{joined-append, joined_length}
use Rattle.points.proofs.Folded.{each_at, each_from}
use Rattle.stripe.specs.declared.Shape.{Shape}
use Rattle.stripe.specs.Stripe.{data_of}
use Rattle.fold.specs.Fold.{wide_data}

-- ---- every stripe

each_append : {A : Type 0} (P : A → Type 0) (xs ys : List A) → Each P xs → Each P ys → Each P (xs ++ ys)
unfolding Each
each_append P [] ys p q = q
each_append P (x ∷ xs) ys p q = (p.0, each_append P xs ys p.1 q)

each_joined : {A : Type 0} (P : A → Type 0) (xss : List (List A)) → Each (Each P) xss → Each P (joined xss)
unfolding Each joined
each_joined P [] p = tt
each_joined P (xs ∷ xss) p = each_append P xs (joined xss) p.0 (each_joined P xss p.1)

pub every : (P : List ℕ → Type 0) (gs : List (List (List ℕ)))
    → ((i x : ℕ) → i < length gs → x < length (get_or gs i []) → P (get_or (get_or gs i []) x []))
    → (x : ℕ) → x < length (joined gs) → P (get_or (joined gs) x [])
every P gs h = each_at P [] (joined gs) (each_joined P gs (each_from (Each P) [] gs (λ i hi. each_from P [] (get_or gs i []) (λ x hx. h i x hi hx))))

-- how many stripes there are
pub all_count : (n₁ n₂ : ℕ) (gs : List (List (List ℕ))) → length gs ≡ n₂
    → ((i : ℕ) → i < length gs → length (get_or gs i []) ≡ n₁) → length (joined gs) ≡ n₁ * n₂
all_count n₁ n₂ gs many each = joined_length n₁ gs each ∙ ap (λ (x : ℕ). x * n₁) many ∙ mul_comm n₂ n₁

-- ---- their data

data_append : (s : Shape) (xss yss : List (List ℕ)) → wide_data s (xss ++ yss) ≡ wide_data s xss ++ wide_data s yss
unfolding wide_data
data_append s xss yss =
    ap joined (map-append (λ (zs : List ℕ). data_of s zs) xss yss) ∙ joined-append (map (λ zs. data_of s zs) xss) (map (λ zs. data_of s zs) yss)

data_none : (s : Shape) → wide_data s [] ≡ []
unfolding wide_data joined
data_none s = refl

pub all_data : (s : Shape) (gs : List (List (List ℕ))) → wide_data s (joined gs) ≡ joined (map (λ g. wide_data s g) gs)
unfolding joined
all_data s [] = data_none s
all_data s (g ∷ gs) = data_append s g (joined gs) ∙ ap (λ (l : List ℕ). wide_data s g ++ l) (all_data s gs)

-- ---- sums

-- row i over all stripes is row n*i over the groups of row i over each, there being n stripes to a group
pub all_rows : (i n : ℕ) (w : List ℕ → ℕ) (gs : List (List (List ℕ))) → ((x : ℕ) → x < length gs → length (get_or gs x []) ≡ n)
    → row i (map w (joined gs)) ≡ row (n * i) (map (λ g. row i (map w g)) gs)
unfolding joined
all_rows i n w [] h = row-nil i ∙ sym (row-nil (n * i))
all_rows i n w (g ∷ gs) h =
    ap (row i) (map-append w g (joined gs)) ∙ row_parts i (map w g) (map w (joined gs))
    ∙ ap₂ (λ (m x : ℕ). row i (map w g) ⊕ gpow (m * i) ⊗ x) (length-map g w ∙ h 0 (omega arith)) (all_rows i n w gs (λ x k. h (suc x) (omega arith)))
    ∙ sym (row_cons (n * i) (row i (map w g)) _ (row_lt i (map w g)))
