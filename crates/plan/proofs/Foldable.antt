-- What a fold that is not refused says, as plain facts about its numbers, and its kind.
use mathlib.Core.Path.{◌≡◌, refl, sym, ap, ap₂, ◌∙◌, subst}
use mathlib.Core.Bool.{Bool, true, false, cond, ◌&&◌, ◌||◌}
use mathlib.Core.Logic.{◌⊎◌, inl, inr}
use Prim.Native.Nat.{ℕ, zero, suc, ◌+◌, ◌*◌, ◌/◌, ◌<◌, ◌≤◌}
use native.Mathlib.Nat.{suc-ne-zero, mul-le-mul}
use native.Mathlib.Omega.{arith}
use lib.Dec.{leb, eqb, eqb-suc-zero}
use borrow.Author.Tests.{leb-true, leb-false, le-leb, lt-leb, eqb-true, eq-eqb, ne_eqb}
use Rattle.field.proofs.Cases.{and_left, and_right}
use Rattle.stripe.specs.declared.Shape.{Shape}
use Rattle.stripe.specs.Shape.{shape_refusal, data_allowed, parity_allowed, points_allowed, mark_allowed, length_allowed}
use Rattle.stripe.specs.Shape.{most_data, most_rows, most_parity, most_points, most_length}
use Rattle.stripe.specs.Stripe.{by_points}
use Rattle.stripe.proofs.Allowed.{Allowed, Prepared, allowed, prepared_runs, prepared_run_length}
use Rattle.stripe.proofs.Allowed.{few_by_rows, many_by_points, by_points_many, rows_most, points_plain}
use Rattle.plan.specs.declared.Kind.TheVariants.{A, B, C}
use Rattle.plan.specs.Plan.{kind_of, fold_refusal, stripes_allowed, new_allowed, wide_shape}

-- the three kinds, each with what its line of the table asks
pub record IsA (s : Shape) (f : ℕ) : Type 0 where
  pub plain : s.t ≡ 0
  pub enough : f ≤ s.r
  pub fewer : f ≤ s.k
  pub kind : kind_of s f ≡ A

pub record IsB (s : Shape) (f : ℕ) : Type 0 where
  pub marked : s.t ≡ f
  pub prepared : Prepared s
  pub kind : kind_of s f ≡ B

pub record IsC (s : Shape) (f : ℕ) : Type 0 where
  pub plain : s.t ≡ 0
  pub more : (s.r < f) ⊎ (s.k < f)
  pub kind : kind_of s f ≡ C

pub record Foldable (s : Shape) (n f : ℕ) : Type 0 where
  pub shape : Allowed s
  pub stripes_some : 2 ≤ n
  pub stripes_most : n ≤ 255
  pub wide_most : n * s.k ≤ most_data
  pub points_most : by_points s ≡ true → n * s.k + f ≤ most_points
  pub new_some : 1 ≤ f
  pub new_most : f ≤ most_parity
  pub new_rows : by_points s ≡ false → f ≤ most_rows
  pub new_points : by_points s ≡ true → f ≡ s.r
  pub kinds : IsA s f ⊎ (IsB s f ⊎ IsC s f)

and_false : (a b : Bool) → (a && b) ≡ false → (a ≡ false) ⊎ (b ≡ false)
and_false true b e = inr e
and_false false b e = inl refl

or_right : (a b : Bool) → a ≡ false → (a || b) ≡ true → b ≡ true
or_right true b e h = absurd (suc-ne-zero 0 (ap (λ (x : Bool). cond x 1 0) e))
or_right false b e h = h

or_true : (a b : Bool) → b ≡ true → (a || b) ≡ true
or_true true b e = refl
or_true false b e = e

decided : (b : Bool) → (b ≡ true) ⊎ (b ≡ false)
decided true = inl refl
decided false = inr refl

-- a refusal of 0 says that all tests passed
pub all_passed : (x : ℕ) (a b : Bool) → cond (eqb x 0) (cond a (cond b 0 4) 3) x ≡ 0 → (x ≡ 0) × ((a ≡ true) × (b ≡ true))
all_passed zero true true e = (refl, (refl, refl))
all_passed zero true false e = absurd (suc-ne-zero 3 e)
all_passed zero false b e = absurd (suc-ne-zero 2 e)
all_passed (suc x) a b e = absurd (suc-ne-zero x (rw (eqb-suc-zero x) at e))

pub plain_kind : (s : Shape) (f : ℕ) (b : Bool) → s.t ≡ 0 → (leb f s.r && leb f s.k) ≡ b → kind_of s f ≡ cond b A C
unfolding kind_of
plain_kind s f b e h = simp (eq-eqb s.t 0 e, h)

prepared_kind : (s : Shape) (f : ℕ) → (s.t ≡ 0 → ⊥) → kind_of s f ≡ B
unfolding kind_of
prepared_kind s f e = simp (ne_eqb s.t 0 e)

kind_cases : (s : Shape) (f : ℕ) → (s.t ≡ 0) ⊎ Prepared s → (eqb s.t 0 || eqb f s.t) ≡ true → IsA s f ⊎ (IsB s f ⊎ IsC s f)
kind_cases s f (inl e) h = go (decided (leb f s.r && leb f s.k))
  where
    more : (leb f s.r ≡ false) ⊎ (leb f s.k ≡ false) → (s.r < f) ⊎ (s.k < f)
    more (inl x) = inl (leb-false f s.r x)
    more (inr x) = inr (leb-false f s.k x)

    go : ((leb f s.r && leb f s.k) ≡ true) ⊎ ((leb f s.r && leb f s.k) ≡ false) → IsA s f ⊎ (IsB s f ⊎ IsC s f)
    go (inl b) =
        inl record { plain = e; enough = leb-true _ _ (and_left _ _ b); fewer = leb-true _ _ (and_right (leb f s.r) _ b); kind = plain_kind s f true e b }
    go (inr b) = inr (inr record { plain = e; more = more (and_false _ _ b); kind = plain_kind s f false e b })
kind_cases s f (inr p) h =
    let ne : s.t ≡ 0 → ⊥ = λ e. omega arith in
    inr (inl record { marked = sym (eqb-true f s.t (or_right (eqb s.t 0) _ (ne_eqb s.t 0 ne) h)); prepared = p; kind = prepared_kind s f ne })

-- by rows or by points
either : (s : Shape) → (by_points s ≡ false) ⊎ (by_points s ≡ true)
either s = go (decided (by_points s))
  where
    go : (by_points s ≡ true) ⊎ (by_points s ≡ false) → (by_points s ≡ false) ⊎ (by_points s ≡ true)
    go (inl e) = inr e
    go (inr e) = inl e

-- by points r is above 3
many : (s : Shape) → by_points s ≡ true → leb s.r most_rows ≡ false
many s e = lt-leb s.r most_rows (by_points_many s e).0

-- an allowed f
module _ (s : Shape) (f : ℕ) (passed : shape_refusal s ≡ 0) (new : new_allowed s.r s.t f ≡ true) where
  abbrev by_rows_allowed : Bool
  by_rows_allowed = leb 1 f && leb f most_rows && (eqb s.t 0 || eqb f s.t)

  good : Allowed s
  good = allowed s passed

  -- by rows
  few_allowed : by_points s ≡ false → by_rows_allowed ≡ true
  few_allowed e = sym (ap (λ (b : Bool). cond b by_rows_allowed (eqb f s.r)) (le-leb s.r most_rows (rows_most s good e))) ∙ new

  f_bounds : by_points s ≡ false → leb 1 f && leb f most_rows ≡ true
  f_bounds e = and_left _ _ (few_allowed e)

  pub new_few : by_points s ≡ false → f ≤ most_rows
  new_few e = leb-true _ _ (and_right (leb 1 f) _ (f_bounds e))

  -- by points
  pub new_same : by_points s ≡ true → f ≡ s.r
  new_same e = eqb-true f s.r (sym (ap (λ (b : Bool). cond b by_rows_allowed (eqb f s.r)) (many s e)) ∙ new)

  -- both
  pub new_least : 1 ≤ f
  new_least = go (either s)
    where
      go : (by_points s ≡ false) ⊎ (by_points s ≡ true) → 1 ≤ f
      go (inl e) = leb-true _ _ (and_left _ _ (f_bounds e))
      go (inr e) = let some = good.parity_some in omega (arith, new_same e)

  pub new_limit : f ≤ most_parity
  new_limit = go (either s)
    where
      go : (by_points s ≡ false) ⊎ (by_points s ≡ true) → f ≤ most_parity
      go (inl e) = omega (arith, new_few e)
      go (inr e) = let most = good.parity_most in omega (arith, new_same e)

  pub new_kinds : IsA s f ⊎ (IsB s f ⊎ IsC s f)
  new_kinds = go (either s)
    where
      go : (by_points s ≡ false) ⊎ (by_points s ≡ true) → IsA s f ⊎ (IsB s f ⊎ IsC s f)
      go (inl e) = kind_cases s f good.mark (and_right (leb 1 f && leb f most_rows) _ (few_allowed e))
      go (inr e) =
          let z : s.t ≡ 0 = points_plain s good e in
          kind_cases s f (inl z) (ap (λ (b : Bool). b || eqb f s.t) (eq-eqb s.t 0 z))

module _ (s : Shape) (n f : ℕ) (passed : fold_refusal s n f ≡ 0) where
  pub tests_passed : (shape_refusal s ≡ 0) × ((stripes_allowed s.k s.r n ≡ true) × (new_allowed s.r s.t f ≡ true))
  unfolding fold_refusal
  tests_passed = all_passed (shape_refusal s) _ _ passed

  n_widths : leb 2 n && leb n 255 && leb (n * s.k) most_data ≡ true
  n_widths = and_left _ _ tests_passed.1.0

  n_bounds : leb 2 n && leb n 255 ≡ true
  n_bounds = and_left _ _ n_widths

  n_points : (leb s.r most_rows || leb (n * s.k + s.r) most_points) ≡ true
  n_points = and_right (leb 2 n && leb n 255 && leb (n * s.k) most_data) _ tests_passed.1.0

  pub foldable : Foldable s n f
  foldable =
      let p = tests_passed in
      record {
        shape = allowed s p.0;
        stripes_some = leb-true _ _ (and_left _ _ n_bounds);
        stripes_most = leb-true _ _ (and_right (leb 2 n) _ n_bounds);
        wide_most = leb-true _ _ (and_right (leb 2 n && leb n 255) _ n_widths);
        points_most = λ e.
            let same = new_same s f p.0 p.1.1 e in
            let most = leb-true (n * s.k + s.r) most_points (or_right (leb s.r most_rows) _ (many s e) n_points) in
            omega (arith, most, same);
        new_some = new_least s f p.0 p.1.1;
        new_most = new_limit s f p.0 p.1.1;
        new_rows = new_few s f p.0 p.1.1;
        new_points = new_same s f p.0 p.1.1;
        kinds = new_kinds s f p.0 p.1.1;
      }

-- ---- the wide shape

second_passed : (a b c d e : Bool) → ◌≡◌ {A = ℕ} (cond (a && b && c && d) (cond e 0 2) 1) 0 → b ≡ true
second_passed true true c d e h = refl
second_passed true false c d e h = absurd (suc-ne-zero 0 h)
second_passed false b c d e h = absurd (suc-ne-zero 0 h)

parity_passed : (s : Shape) → shape_refusal s ≡ 0 → parity_allowed s.r ≡ true
unfolding shape_refusal
parity_passed s h =
    second_passed (data_allowed s.k) (parity_allowed s.r) (points_allowed s.k s.r) (mark_allowed s.k s.r s.t)
    (length_allowed s.t s.l) h

module _ (s : Shape) (n f : ℕ) (passed : fold_refusal s n f ≡ 0) where
  able : Foldable s n f
  able = foldable s n f passed

  -- it is by points where the stripes are
  pub wide_by_points : by_points (wide_shape s n f) ≡ by_points s
  wide_by_points = go (either s)
    where
      go : (by_points s ≡ false) ⊎ (by_points s ≡ true) → by_points (wide_shape s n f) ≡ by_points s
      go (inl e) = few_by_rows (wide_shape s n f) (able.new_rows e) ∙ sym e
      go (inr e) =
          let many : most_rows < f = let h = (by_points_many s e).0 in omega (arith, able.new_points e) in
          many_by_points (wide_shape s n f) many able.new_most ∙ sym e

  -- f is a number of parity columns that is allowed, as r is
  wide_parity : parity_allowed f ≡ true
  wide_parity = go (either s)
    where
      go : (by_points s ≡ false) ⊎ (by_points s ≡ true) → parity_allowed f ≡ true
      go (inl e) = ap₂ ◌&&◌ (le-leb 1 f able.new_some) (le-leb f _ (omega (arith, able.new_rows e)))
      go (inr e) = ap parity_allowed (able.new_points e) ∙ parity_passed s (tests_passed s n f passed).0

  wide_points : points_allowed (n * s.k) f ≡ true
  wide_points = go (either s)
    where
      go : (by_points s ≡ false) ⊎ (by_points s ≡ true) → points_allowed (n * s.k) f ≡ true
      go (inl e) = ap (λ (b : Bool). b || leb (n * s.k + f) most_points) (le-leb f most_rows (able.new_rows e))
      go (inr e) = or_true (leb f most_rows) _ (le-leb (n * s.k + f) most_points (able.points_most e))

  -- it is allowed
  pub wide_allowed : shape_refusal (wide_shape s n f) ≡ 0
  unfolding shape_refusal
  wide_allowed =
      let a = able.shape in
      let some : 1 ≤ n * s.k = let g : 1 ≤ n = let x = able.stripes_some in omega arith in mul-le-mul g a.data_some in
      let many : data_allowed (n * s.k) ≡ true = ap₂ ◌&&◌ (le-leb 1 (n * s.k) some) (le-leb (n * s.k) most_data able.wide_most) in
      let long : length_allowed 0 s.l ≡ true =
      ap₂ (λ (x y : Bool). x && y && true) (le-leb 1 s.l a.length_some) (le-leb s.l most_length a.length_most) in
      ap₂ (λ (x y : Bool). cond (x && mark_allowed (n * s.k) f 0) (cond y 0 2) 1) (ap₂ ◌&&◌ (ap₂ ◌&&◌ many wide_parity) wide_points) long

-- a prepared stripe is folded by kind B alone
pub prepared_b : (s : Shape) (n f : ℕ) → fold_refusal s n f ≡ 0 → (s.t ≡ 0 → ⊥) → IsB s f
prepared_b s n f passed prepared = go (foldable s n f passed).kinds
  where
    go : IsA s f ⊎ (IsB s f ⊎ IsC s f) → IsB s f
    go (inl a) = absurd (prepared a.plain)
    go (inr (inl b)) = b
    go (inr (inr c)) = absurd (prepared c.plain)

-- ---- runs

-- the runs of a prepared stripe make up its columns
pub runs_whole : (s : Shape) → Allowed s → Prepared s → s.t * (s.l / s.t) ≡ s.l
runs_whole s a p =
    ap₂ ◌*◌ (sym (prepared_runs s (omega arith))) (sym (prepared_run_length s (omega arith))) ∙ a.cut

pub run_pos : (s : Shape) → Allowed s → Prepared s → 0 < s.l / s.t
run_pos s a p = subst (λ (x : ℕ). 0 < x) (prepared_run_length s (omega arith)) a.run_some
