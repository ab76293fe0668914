-- Which folds of two sittings are allowed, and of which kinds: what two sittings may do, one fold may, and the other way; A after A is A at once, C
-- after C is C at once, and after a prepared step comes kind A.
use mathlib.Core.Path.{◌≡◌, refl, sym, ap, ap₂, ◌∙◌, subst}
use mathlib.Core.Bool.{Bool, true, false, cond, ◌&&◌, ◌||◌}
use mathlib.Core.Logic.{◌⊎◌, inl, inr}
use Prim.Native.Nat.{ℕ, ◌+◌, ◌*◌, ◌<◌, ◌≤◌}
use native.Mathlib.Nat.{mul_assoc, mul_comm, mul-le-mul, mul-le-mul_left, mul-le-mul_right, mul-one, one-mul, suc-ne-zero}
use native.Mathlib.Omega.{arith}
use lib.Dec.{leb, eqb}
use borrow.Author.Tests.{le-leb, lt-leb, eq-eqb, ne_eqb}
use Rattle.stripe.specs.declared.Shape.{Shape}
use Rattle.stripe.specs.Shape.{most_data, most_rows, most_points}
use Rattle.stripe.specs.Stripe.{by_points}
use Rattle.stripe.proofs.Allowed.{rows_most, by_points_many, points_plain}
use Rattle.plan.specs.declared.Kind.{Kind}
use Rattle.plan.specs.declared.Kind.TheVariants.{A, B, C}
use Rattle.plan.specs.Plan.{kind_of, fold_refusal, stripes_allowed, new_allowed, wide_shape}
use Rattle.plan.proofs.Refusals.{by_none}
use Rattle.plan.proofs.Foldable.{IsA, IsB, IsC, Foldable, foldable, tests_passed, plain_kind, wide_by_points, wide_allowed}

-- ---- kinds are apart

number : Kind → ℕ
number A = 0
number B = 1
number C = 2

module _ (s : Shape) (f : ℕ) where
  pub is_a : IsA s f ⊎ (IsB s f ⊎ IsC s f) → kind_of s f ≡ A → IsA s f
  unfolding number
  is_a (inl a) e = a
  is_a (inr (inl b)) e = absurd (omega (arith, ap number (sym b.kind ∙ e)))
  is_a (inr (inr c)) e = absurd (omega (arith, ap number (sym c.kind ∙ e)))

  pub is_b : IsA s f ⊎ (IsB s f ⊎ IsC s f) → kind_of s f ≡ B → IsB s f
  unfolding number
  is_b (inl a) e = absurd (omega (arith, ap number (sym a.kind ∙ e)))
  is_b (inr (inl b)) e = b
  is_b (inr (inr c)) e = absurd (omega (arith, ap number (sym c.kind ∙ e)))

  pub is_c : IsA s f ⊎ (IsB s f ⊎ IsC s f) → kind_of s f ≡ C → IsC s f
  unfolding number
  is_c (inl a) e = absurd (omega (arith, ap number (sym a.kind ∙ e)))
  is_c (inr (inl b)) e = absurd (omega (arith, ap number (sym b.kind ∙ e)))
  is_c (inr (inr c)) e = c

and_not : (a b : Bool) → (a ≡ false) ⊎ (b ≡ false) → (a && b) ≡ false
and_not true b (inl e) = absurd (suc-ne-zero 0 (ap (λ (x : Bool). cond x 1 0) e))
and_not true b (inr e) = e
and_not false b e = refl

pub kind_a : (s : Shape) (f : ℕ) → s.t ≡ 0 → f ≤ s.r → f ≤ s.k → kind_of s f ≡ A
kind_a s f e hr hk = plain_kind s f true e (ap₂ ◌&&◌ (le-leb f s.r hr) (le-leb f s.k hk))

pub kind_b : (s : Shape) (f : ℕ) → (s.t ≡ 0 → ⊥) → kind_of s f ≡ B
unfolding kind_of
kind_b s f e = simp (ne_eqb s.t 0 e)

pub kind_c : (s : Shape) (f : ℕ) → s.t ≡ 0 → (s.r < f) ⊎ (s.k < f) → kind_of s f ≡ C
kind_c s f e h = plain_kind s f false e (and_not (leb f s.r) (leb f s.k) (go h))
  where
    go : (s.r < f) ⊎ (s.k < f) → (leb f s.r ≡ false) ⊎ (leb f s.k ≡ false)
    go (inl x) = inl (lt-leb f s.r x)
    go (inr x) = inr (lt-leb f s.k x)

-- ---- what passes the tests of a fold

or_yes : (a b : Bool) → (a ≡ true) ⊎ (b ≡ true) → (a || b) ≡ true
or_yes true b e = refl
or_yes false b (inl e) = absurd (suc-ne-zero 0 (ap (λ (x : Bool). cond x 1 0) (sym e)))
or_yes false b (inr e) = e

stripes_pass : (k r n : ℕ) → 2 ≤ n → n ≤ 255 → n * k ≤ most_data → (r ≤ most_rows) ⊎ (n * k + r ≤ most_points) → stripes_allowed k r n ≡ true
stripes_pass k r n some most wide fit =
    ap₂ ◌&&◌ (ap₂ ◌&&◌ (ap₂ ◌&&◌ (le-leb 2 n some) (le-leb n 255 most)) (le-leb (n * k) most_data wide)) (or_yes _ _ (go fit))
  where
    go : (r ≤ most_rows) ⊎ (n * k + r ≤ most_points) → (leb r most_rows ≡ true) ⊎ (leb (n * k + r) most_points ≡ true)
    go (inl h) = inl (le-leb r most_rows h)
    go (inr h) = inr (le-leb (n * k + r) most_points h)

rows_new : (r t f : ℕ) → r ≤ most_rows → 1 ≤ f → f ≤ most_rows → (t ≡ 0) ⊎ (t ≡ f) → new_allowed r t f ≡ true
rows_new r t f few some most mark =
    ap (λ (b : Bool). cond b (leb 1 f && leb f most_rows && (eqb t 0 || eqb f t)) (eqb f r)) (le-leb r most_rows few)
    ∙ ap₂ ◌&&◌ (ap₂ ◌&&◌ (le-leb 1 f some) (le-leb f most_rows most)) (or_yes _ _ (go mark))
  where
    go : (t ≡ 0) ⊎ (t ≡ f) → (eqb t 0 ≡ true) ⊎ (eqb f t ≡ true)
    go (inl e) = inl (eq-eqb t 0 e)
    go (inr e) = inr (eq-eqb f t (sym e))

points_new : (r t f : ℕ) → most_rows < r → f ≡ r → new_allowed r t f ≡ true
points_new r t f many same =
    ap (λ (b : Bool). cond b (leb 1 f && leb f most_rows && (eqb t 0 || eqb f t)) (eqb f r)) (lt-leb r most_rows many) ∙ eq-eqb f r same

-- the width is the same
width : (n₁ n₂ k : ℕ) → n₂ * (n₁ * k) ≡ n₁ * n₂ * k
width n₁ n₂ k = sym (mul_assoc n₂ n₁ k) ∙ ap (λ (x : ℕ). x * k) (mul_comm n₂ n₁)

-- the wide shape is the same
pub shape_same : (s : Shape) (n₁ f₁ n₂ f₂ : ℕ) → wide_shape (wide_shape s n₁ f₁) n₂ f₂ ≡ wide_shape s (n₁ * n₂) f₂
shape_same s n₁ f₁ n₂ f₂ = ap (λ (x : ℕ). record { k = x; r = f₂; t = 0; l = s.l }) (width n₁ n₂ s.k)

-- ---- what two sittings may do, one fold may

module _ (s : Shape) (n₁ f₁ n₂ f₂ : ℕ) (first : fold_refusal s n₁ f₁ ≡ 0) (second : fold_refusal (wide_shape s n₁ f₁) n₂ f₂ ≡ 0) where
  abbrev half : Shape
  half = wide_shape s n₁ f₁

  one : Foldable s n₁ f₁
  one = foldable s n₁ f₁ first

  two : Foldable half n₂ f₂
  two = foldable half n₂ f₂ second

  half_points : by_points half ≡ by_points s
  half_points = wide_by_points s n₁ f₁ first

  wide_enough : s.k ≤ n₁ * s.k
  wide_enough =
      let h : 1 ≤ n₁ = let g = one.stripes_some in omega arith in
      subst (λ (x : ℕ). x ≤ n₁ * s.k) (one-mul s.k) (mul-le-mul_right s.k h)

  wide_most : n₁ * n₂ * s.k ≤ most_data
  wide_most = subst (λ (x : ℕ). x ≤ most_data) (width n₁ n₂ s.k) two.wide_most

  stripes_most : n₁ * n₂ ≤ 255
  stripes_most =
      let h : n₁ * n₂ ≤ n₁ * n₂ * s.k
      = subst (λ (x : ℕ). x ≤ n₁ * n₂ * s.k) (mul-one (n₁ * n₂)) (mul-le-mul_left (n₁ * n₂) one.shape.data_some) in
      let g = wide_most in omega arith

  stripes_some : 2 ≤ n₁ * n₂
  stripes_some =
      let g : 2 ≤ n₂ = two.stripes_some in
      let h : 1 ≤ n₂ = omega arith in mul-le-mul one.stripes_some h

  -- by points neither sitting changes the number of parity columns
  pub same_new : by_points s ≡ true → (f₁ ≡ s.r) × (f₂ ≡ f₁)
  same_new e = (one.new_points e, two.new_points (half_points ∙ e))

  -- if the stripes are prepared, for their own f
  pub once_passed : (s.t ≡ 0) ⊎ (s.t ≡ f₂) → fold_refusal s (n₁ * n₂) f₂ ≡ 0
  once_passed mark = go (by_points s) refl
    where
      pass : (s.r ≤ most_rows) ⊎ (n₁ * n₂ * s.k + s.r ≤ most_points) → new_allowed s.r s.t f₂ ≡ true → fold_refusal s (n₁ * n₂) f₂ ≡ 0
      pass fit new =
          sym (by_none s (n₁ * n₂) f₂ (tests_passed s n₁ f₁ first).0 (stripes_pass s.k s.r (n₁ * n₂) stripes_some stripes_most wide_most fit) new)

      go : (b : Bool) → by_points s ≡ b → fold_refusal s (n₁ * n₂) f₂ ≡ 0
      go false e =
          let few = rows_most s one.shape e in
          pass (inl few) (rows_new s.r s.t f₂ few two.new_some (two.new_rows (half_points ∙ e)) mark)
      go true e =
          let same = same_new e in
          let fit : n₁ * n₂ * s.k + s.r ≤ most_points
          = subst (λ (x : ℕ). x + s.r ≤ most_points) (width n₁ n₂ s.k)
          (subst (λ (x : ℕ). n₂ * (n₁ * s.k) + x ≤ most_points) (same.1 ∙ same.0) (two.points_most (half_points ∙ e))) in
          pass (inr fit) (points_new s.r s.t f₂ (by_points_many s e).0 (same.1 ∙ same.0))

  -- ---- the kinds that follow

  -- A after A is A at once
  pub a_then_a : kind_of s f₁ ≡ A → kind_of half f₂ ≡ A → kind_of s f₂ ≡ A
  a_then_a e₁ e₂ =
      let a₁ = is_a s f₁ one.kinds e₁ in
      let a₂ = is_a half f₂ two.kinds e₂ in
      let u : f₁ ≤ s.r = a₁.enough in
      let v : f₁ ≤ s.k = a₁.fewer in
      let w : f₂ ≤ f₁ = a₂.enough in
      kind_a s f₂ a₁.plain (omega arith) (omega arith)

  -- C after C is C at once
  pub c_then_c : kind_of s f₁ ≡ C → kind_of half f₂ ≡ C → kind_of s f₂ ≡ C
  c_then_c e₁ e₂ = go (is_c s f₁ one.kinds e₁) (is_c half f₂ two.kinds e₂)
    where
      more : (s.r < f₁) ⊎ (s.k < f₁) → (f₁ < f₂) ⊎ (n₁ * s.k < f₂) → (s.r < f₂) ⊎ (s.k < f₂)
      more (inl x) (inl y) = inl (omega arith)
      more (inr x) (inl y) = inr (omega arith)
      more x (inr y) = let w = wide_enough in inr (omega arith)

      go : IsC s f₁ → IsC half f₂ → kind_of s f₂ ≡ C
      go c₁ c₂ = kind_c s f₂ c₁.plain (more c₁.more c₂.more)

  -- by points a step of kind C is one of a fold that is of kind C at once
  pub points_c : by_points s ≡ true → (kind_of s f₁ ≡ C) ⊎ (kind_of half f₂ ≡ C) → kind_of s f₂ ≡ C
  points_c e h = kind_c s f₂ (points_plain s one.shape e) (inr (less (go h)))
    where
      less : (s.k < f₁) ⊎ (n₁ * s.k < f₂) → s.k < f₂
      less (inl x) = omega (arith, (same_new e).1)
      less (inr x) = let w = wide_enough in omega arith

      narrow : (s.r < f₁) ⊎ (s.k < f₁) → s.k < f₁
      narrow (inl x) = absurd (omega (arith, (same_new e).0))
      narrow (inr x) = x

      narrow_half : (f₁ < f₂) ⊎ (n₁ * s.k < f₂) → n₁ * s.k < f₂
      narrow_half (inl x) = absurd (omega (arith, (same_new e).1))
      narrow_half (inr x) = x

      go : (kind_of s f₁ ≡ C) ⊎ (kind_of half f₂ ≡ C) → (s.k < f₁) ⊎ (n₁ * s.k < f₂)
      go (inl c) = inl (narrow (is_c s f₁ one.kinds c).more)
      go (inr c) = inr (narrow_half (is_c half f₂ two.kinds c).more)

  -- after a step of kind B comes one of kind A, if its f is the same
  pub then_a : IsB s f₁ → f₂ ≡ f₁ → kind_of half f₂ ≡ A
  then_a b e =
      let m : s.t ≡ f₁ = b.marked in
      let d : s.t ≤ s.k = b.prepared.mark_data in
      let w = wide_enough in
      kind_a half f₂ refl (omega arith) (omega arith)

-- ---- the other way: what one fold may do, two sittings may, with any f that the first may have

module _ (s : Shape) (n₁ f₁ n₂ f₂ : ℕ) (once : fold_refusal s (n₁ * n₂) f₂ ≡ 0) (some₁ : 2 ≤ n₁) (some₂ : 2 ≤ n₂)
    (new : new_allowed s.r s.t f₁ ≡ true) where
  all : Foldable s (n₁ * n₂) f₂
  all = foldable s (n₁ * n₂) f₂ once

  fewer₁ : n₁ ≤ n₁ * n₂
  fewer₁ = let h : 1 ≤ n₂ = omega arith in subst (λ (x : ℕ). x ≤ n₁ * n₂) (mul-one n₁) (mul-le-mul_left n₁ h)

  fewer₂ : n₂ ≤ n₁ * n₂
  fewer₂ = let h : 1 ≤ n₁ = omega arith in subst (λ (x : ℕ). x ≤ n₁ * n₂) (one-mul n₂) (mul-le-mul_right n₂ h)

  narrower : n₁ * s.k ≤ n₁ * n₂ * s.k
  narrower = mul-le-mul_right s.k fewer₁

  wide_fits : n₂ * (n₁ * s.k) ≤ most_data
  wide_fits = subst (λ (x : ℕ). x ≤ most_data) (sym (width n₁ n₂ s.k)) all.wide_most

  pub first_passed : fold_refusal s n₁ f₁ ≡ 0
  first_passed =
      sym (by_none s n₁ f₁ (tests_passed s (n₁ * n₂) f₂ once).0
      (stripes_pass s.k s.r n₁ some₁ (omega (arith, fewer₁, all.stripes_most)) (omega (arith, narrower, all.wide_most)) (go (by_points s) refl)) new)
    where
      go : (b : Bool) → by_points s ≡ b → (s.r ≤ most_rows) ⊎ (n₁ * s.k + s.r ≤ most_points)
      go false e = inl (rows_most s all.shape e)
      go true e = inr (omega (arith, narrower, all.points_most e, all.new_points e))

  one_able : Foldable s n₁ f₁
  one_able = foldable s n₁ f₁ first_passed

  pub second_passed : fold_refusal (wide_shape s n₁ f₁) n₂ f₂ ≡ 0
  second_passed = go (by_points s) refl
    where
      most : n₂ ≤ 255
      most = omega (arith, fewer₂, all.stripes_most)

      pass : (f₁ ≤ most_rows) ⊎ (n₂ * (n₁ * s.k) + f₁ ≤ most_points) → new_allowed f₁ 0 f₂ ≡ true → fold_refusal (wide_shape s n₁ f₁) n₂ f₂ ≡ 0
      pass fit allowed =
          sym (by_none (wide_shape s n₁ f₁) n₂ f₂ (wide_allowed s n₁ f₁ first_passed) (stripes_pass (n₁ * s.k) f₁ n₂ some₂ most wide_fits fit) allowed)

      go : (b : Bool) → by_points s ≡ b → fold_refusal (wide_shape s n₁ f₁) n₂ f₂ ≡ 0
      go false e =
          pass (inl (one_able.new_rows e)) (rows_new f₁ 0 f₂ (one_able.new_rows e) all.new_some (all.new_rows e) (inl refl))
      go true e =
          let same : f₂ ≡ f₁ = all.new_points e ∙ sym (one_able.new_points e) in
          let many : most_rows < f₁ = let h = (by_points_many s e).0 in omega (arith, one_able.new_points e) in
          let fit : n₂ * (n₁ * s.k) + f₁ ≤ most_points
          = subst (λ (x : ℕ). x + f₁ ≤ most_points) (sym (width n₁ n₂ s.k))
          (subst (λ (x : ℕ). n₁ * n₂ * s.k + x ≤ most_points) same (all.points_most e)) in
          pass (inr fit) (points_new f₁ 0 f₂ many same)
