-- Span number i of the plan: of stripe i / c, column i % c of the c read of each stripe.
use mathlib.Core.Path.{◌≡◌, refl, sym, ap, ap₂, ◌∙◌, subst}
use mathlib.Core.Bool.{Bool, true, false, cond}
use mathlib.Core.List.{List, [], ◌++◌}
use mathlib.Core.Logic.{◌⊎◌, inl, inr}
use Prim.Native.Nat.{ℕ, zero, suc, ◌+◌, ◌-◌, ◌*◌, ◌/◌, ◌%◌, ◌<◌, ◌≤◌}
use native.Mathlib.Nat.{add-zero, not-suc-le-zero, le_of_suc-le-suc, zero-mul, div-eq_of_lt, mod-eq_of_lt, add-div_left, add-mod_left, suc-mul}
use native.Mathlib.Omega.{arith}
use lib.Dec.{eqb, ltb}
use lib.ListN.{length, get_or, get_or-append, get_or-eq_default}
use lib.Seq.{get_or-append-add}
use borrow.Author.Tests.{lt-ltb, le-ltb, eq-eqb, eqb-true}
use Rattle.field.proofs.Cases.{below_or_from}
use Rattle.stripe.specs.declared.Shape.{Shape}
use Rattle.stripe.specs.Shape.{most_columns}
use Rattle.stripe.proofs.Places.{place_some, place_column_lt, place_byte_lt}
use Rattle.plan.specs.declared.Kind.{Kind}
use Rattle.plan.specs.declared.Kind.TheVariants.{A, B, C}
use Rattle.plan.specs.declared.Span.{Span}
use Rattle.plan.specs.Plan.{fold_refusal, kind_of, column_spans, kind_spans, spans_from, plan, column_span, span_at, columns_each, columns_read, no_span}
use Rattle.plan.proofs.Foldable.{foldable}
use Rattle.plan.proofs.Costs.{columns_read_lem}
use Rattle.plan.proofs.Bounds.{each_small}
use Rattle.plan.proofs.Counted.{columns_many, kind_many, columns_counted}

at_front : (xs ys : List Span) (m i : ℕ) (d : Span) → length xs ≡ m → i < m → get_or (xs ++ ys) i d ≡ get_or xs i d
at_front xs ys m i d e h = get_or-append xs ys d i (subst (λ (x : ℕ). i < x) (sym e) h)

at_rest : (xs ys : List Span) (m i : ℕ) (d : Span) → length xs ≡ m → get_or (xs ++ ys) (m + i) d ≡ get_or ys i d
at_rest xs ys m i d e = ap (λ (y : ℕ). get_or (xs ++ ys) (y + i) d) (sym e) ∙ get_or-append-add xs ys i d

columns_at : (n a m c k i : ℕ) (d : Span) → i < k → get_or (column_spans n a m c k) i d ≡ record { stripe = n; position = c + i; first = a; length = m }
unfolding column_spans
columns_at n a m c zero i d h = absurd (not-suc-le-zero h)
columns_at n a m c (suc k) zero d h = ap (λ (x : ℕ). record { stripe = n; position = x; first = a; length = m }) (sym (add-zero c))
columns_at n a m c (suc k) (suc i) d h =
    columns_at n a m (suc c) k i d (le_of_suc-le-suc h)
    ∙ ap (λ (x : ℕ). record { stripe = n; position = x; first = a; length = m }) (omega arith)

kind_at : (κ : Kind) (s : Shape) (f n i : ℕ) (d : Span) → i < columns_each κ s f → get_or (kind_spans κ s f n) i d ≡ column_span κ s n i
unfolding kind_spans column_span columns_each
kind_at A s f n i d h = columns_at n 0 s.l s.k f i d h
kind_at C s f n i d h =
    columns_at n 0 s.l 0 s.k i d h ∙ ap (λ (x : ℕ). record { stripe = n; position = x; first = 0; length = s.l }) (omega arith)
kind_at B s f n i d h = go (below_or_from i s.k)
  where
    go : (i < s.k) ⊎ (s.k ≤ i)
        → get_or (column_spans n (s.r * (s.l / s.t)) ((s.t - s.r) * (s.l / s.t)) 0 s.k ++ column_spans n 0 s.l s.k s.r) i d
        ≡ cond (ltb i s.k) (record { stripe = n; position = i; first = s.r * (s.l / s.t); length = (s.t - s.r) * (s.l / s.t) })
        (record { stripe = n; position = i; first = 0; length = s.l })
    go (inl x) =
        simp (lt-ltb i s.k x)
        (at_front (column_spans n (s.r * (s.l / s.t)) ((s.t - s.r) * (s.l / s.t)) 0 s.k) (column_spans n 0 s.l s.k s.r) s.k i d
        (columns_many n _ _ 0 s.k) x
        ∙ columns_at n (s.r * (s.l / s.t)) ((s.t - s.r) * (s.l / s.t)) 0 s.k i d x
        ∙ ap (λ (y : ℕ). record { stripe = n; position = y; first = s.r * (s.l / s.t); length = (s.t - s.r) * (s.l / s.t) }) (omega arith))
    go (inr x) =
        let e : s.k + (i - s.k) ≡ i = omega arith in
        simp (le-ltb i s.k x)
        (ap (λ (y : ℕ). get_or (column_spans n (s.r * (s.l / s.t)) ((s.t - s.r) * (s.l / s.t)) 0 s.k ++ column_spans n 0 s.l s.k s.r) y d)
        (sym e)
        ∙ at_rest (column_spans n (s.r * (s.l / s.t)) ((s.t - s.r) * (s.l / s.t)) 0 s.k) (column_spans n 0 s.l s.k s.r) s.k (i - s.k) d
        (columns_many n _ _ 0 s.k)
        ∙ columns_at n 0 s.l s.k s.r (i - s.k) d (omega arith)
        ∙ ap (λ (y : ℕ). record { stripe = n; position = y; first = 0; length = s.l }) e)

-- one stripe's spans, then those of the stripes after it
module _ (κ : Kind) (s : Shape) (n m c : ℕ) (d : Span) (xs ys : List Span) (e : length xs ≡ c)
    (first-at : (i : ℕ) → i < c → get_or xs i d ≡ column_span κ s n i)
    (rest_at : (i : ℕ) → i < m * c → get_or ys i d ≡ column_span κ s (suc n + i / c) (i % c)) where
  in_first : (i : ℕ) → i < c → get_or (xs ++ ys) i d ≡ column_span κ s (n + i / c) (i % c)
  in_first i h =
      at_front xs ys c i d e h ∙ first-at i h
      ∙ sym (ap₂ (column_span κ s) (ap (λ (x : ℕ). n + x) (div-eq_of_lt h) ∙ add-zero n) (mod-eq_of_lt h))

  in_rest : (i : ℕ) → i < m * c → get_or (xs ++ ys) (c + i) d ≡ column_span κ s (n + (c + i) / c) ((c + i) % c)
  in_rest i h =
      at_rest xs ys c i d e ∙ rest_at i h
      ∙ sym (ap₂ (column_span κ s) (ap (λ (x : ℕ). n + x) (add-div_left i (place_some i m c h)) ∙ omega arith) (add-mod_left c i))

  step_at : (i : ℕ) → i < suc m * c → (i < c) ⊎ (c ≤ i) → get_or (xs ++ ys) i d ≡ column_span κ s (n + i / c) (i % c)
  step_at i h (inl x) = in_first i x
  step_at i h (inr x) =
      let w : c + (i - c) ≡ i = omega arith in
      subst (λ (y : ℕ). get_or (xs ++ ys) y d ≡ column_span κ s (n + y / c) (y % c)) w (in_rest (i - c) (omega (arith, suc-mul m c)))

from_at : (s : Shape) (f n m i : ℕ) (d : Span) → i < m * columns_each (kind_of s f) s f
    → get_or (spans_from s f n m) i d ≡ column_span (kind_of s f) s (n + i / columns_each (kind_of s f) s f) (i % columns_each (kind_of s f) s f)
unfolding spans_from
from_at s f n zero i d h = absurd (omega (arith, zero-mul (columns_each (kind_of s f) s f)))
from_at s f n (suc m) i d h =
    step_at (kind_of s f) s n m (columns_each (kind_of s f) s f) d (kind_spans (kind_of s f) s f n) (spans_from s f (suc n) m)
    (kind_many (kind_of s f) s f n) (λ x k. kind_at (kind_of s f) s f n x d k) (λ x k. from_at s f (suc n) m x d k)
    i h (below_or_from i (columns_each (kind_of s f) s f))

module _ (s : Shape) (n f i : ℕ) where
  -- past the plan's end there is no span
  pub span_none : columns_read s n f ≤ i → span_at s n f i ≡ no_span
  unfolding span_at
  span_none h = get_or-eq_default (plan s n f) no_span (subst (λ (x : ℕ). x ≤ i) (sym (columns_counted s n f)) h)

  -- where there is one the fold is not refused
  pub span_allowed : i < columns_read s n f → fold_refusal s n f ≡ 0
  unfolding columns_read
  span_allowed h = go (eqb (fold_refusal s n f) 0) refl h
    where
      go : (b : Bool) → eqb (fold_refusal s n f) 0 ≡ b → i < cond b (n * columns_each (kind_of s f) s f) 0 → fold_refusal s n f ≡ 0
      go true e k = eqb-true (fold_refusal s n f) 0 e
      go false e k = absurd (not-suc-le-zero k)

  span_by_column : fold_refusal s n f ≡ 0 → i < n * columns_each (kind_of s f) s f
      → span_at s n f i ≡ column_span (kind_of s f) s (i / columns_each (kind_of s f) s f) (i % columns_each (kind_of s f) s f)
  unfolding span_at plan
  span_by_column passed h =
      ap (λ (b : Bool). get_or (cond b (spans_from s f 0 n) []) i no_span) (eq-eqb (fold_refusal s n f) 0 passed)
      ∙ from_at s f 0 n i no_span h
      ∙ ap (λ (x : ℕ). column_span (kind_of s f) s x (i % columns_each (kind_of s f) s f)) (omega arith)

-- what is known of a number below the count, x columns being read of each stripe
module _ (s : Shape) (n f i x : ℕ) (h : i < columns_read s n f) (e : x ≡ columns_each (kind_of s f) s f) where
  passed : fold_refusal s n f ≡ 0
  passed = span_allowed s n f i h

  within : i < n * x
  within = subst (λ (y : ℕ). i < y) (columns_read_lem s n f passed ∙ ap (λ (y : ℕ). n * y) (sym e)) h

  pub each_some : 0 < x
  each_some = place_some i n x within

  pub stripe_small : i / x ≤ 255
  stripe_small = let g = (foldable s n f passed).stripes_most in omega (arith, place_column_lt i n x within)

  pub column_small : i % x ≤ most_columns
  column_small = omega (arith, place_byte_lt i n x within, each_small s n f passed)

  pub span_number : column_span (kind_of s f) s (i / x) (i % x) ≡ span_at s n f i
  span_number =
      ap (λ (y : ℕ). column_span (kind_of s f) s (i / y) (i % y)) e
      ∙ sym (span_by_column s n f i passed (subst (λ (y : ℕ). i < n * y) e within))
