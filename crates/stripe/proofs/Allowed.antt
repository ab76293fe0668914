-- What an allowed shape says, as plain facts about its numbers: each is read off from one test of `shape_refusal`.
use mathlib.Core.Path.{◌≡◌, refl, sym, ap, ap₂, ◌∙◌, subst}
use mathlib.Core.Bool.{Bool, true, false, cond, ◌&&◌, ◌||◌, true≢false}
use mathlib.Core.Logic.{◌⊎◌, inl, inr}
use Prim.Native.Nat.{ℕ, zero, suc, ◌+◌, ◌*◌, ◌/◌, ◌%◌, ◌<◌, ◌≤◌}
use native.Mathlib.Nat.{mul-le-mul, mul-le-mul_right, div-one, one-mul, suc-ne-zero, div-add-mod}
use native.Mathlib.Omega.{arith}
use lib.Dec.{leb, ltb, eqb}
use borrow.Author.Tests.{ltb-true, leb-true, eqb-true, eq-eqb, ne_eqb, lt-ltb, le-ltb, le-leb}
use Rattle.field.proofs.Cases.{below_or_from, and_left, and_right}
use Rattle.stripe.specs.declared.Shape.{Shape}
use Rattle.stripe.specs.Shape.{shape_refusal, data_allowed, parity_allowed, points_allowed, mark_allowed, length_allowed}
use Rattle.stripe.specs.Shape.{columns, data_length, parity_length, stripe_length}
use Rattle.stripe.specs.Shape.{most_data, most_rows, most_parity, most_points, most_columns, most_length, most_parity_length}
use Rattle.stripe.specs.Stripe.{runs, run_length, by_points}

-- the marks that are allowed beside 0: more than r, at most `most_rows` and at most k
pub record Prepared (s : Shape) : Type 0 where
  pub gains : s.r < s.t
  pub mark_most : s.t ≤ most_rows
  pub mark_data : s.t ≤ s.k

pub record Allowed (s : Shape) : Type 0 where
  pub data_some : 1 ≤ s.k
  pub data_most : s.k ≤ most_data
  pub parity_some : 1 ≤ s.r
  pub parity_most : s.r ≤ most_parity
  pub points_most : (s.r ≤ most_rows) ⊎ (s.k + s.r ≤ most_points)
  pub columns_most : columns s ≤ most_columns
  pub mark : (s.t ≡ 0) ⊎ Prepared s
  pub length_some : 1 ≤ s.l
  pub length_most : s.l ≤ most_length
  pub runs_some : 1 ≤ runs s
  pub runs_most : runs s ≤ most_rows
  pub run_some : 0 < run_length s
  pub run_most : run_length s ≤ s.l
  pub cut : runs s * run_length s ≡ s.l
  pub data-length : data_length s ≤ most_data * most_length
  pub parity-length : parity_length s ≤ most_parity_length
  pub stripe-length : stripe_length s ≤ most_columns * most_length

or_cases : (a b : Bool) → (a || b) ≡ true → (a ≡ true) ⊎ (b ≡ true)
or_cases true b e = inl refl
or_cases false b e = inr e

-- a refusal of 0 says that both tests passed
both_passed : (a b : Bool) → ◌≡◌ {A = ℕ} (cond a (cond b 0 2) 1) 0 → (a ≡ true) × (b ≡ true)
both_passed true true e = (refl, refl)
both_passed true false e = absurd (suc-ne-zero 1 e)
both_passed false b e = absurd (suc-ne-zero 0 e)

-- a length cut into t runs, t dividing it
cut_exact : (l t : ℕ) → l % t ≡ 0 → t * (l / t) ≡ l
cut_exact l t e = omega (arith, div-add-mod l t)

part_some : (t q l : ℕ) → 1 ≤ l → t * q ≡ l → 0 < q
part_some t zero l p e = omega arith
part_some t (suc q) l p e = omega arith

part_most : (t q l : ℕ) → 1 ≤ t → t * q ≡ l → q ≤ l
part_most t q l p e = omega (arith, mul-le-mul_right q p)

-- the runs of a column: one, or as many as the mark says
pub plain_runs_lem : (s : Shape) → s.t ≡ 0 → runs s ≡ 1
plain_runs_lem s e = ap (λ (b : Bool). cond b 1 s.t) (eq-eqb s.t 0 e)

pub prepared_runs : (s : Shape) → 1 ≤ s.t → runs s ≡ s.t
prepared_runs s p = ap (λ (b : Bool). cond b 1 s.t) (ne_eqb s.t 0 (λ e. omega arith))

pub runs_positive : (s : Shape) → 0 < runs s
runs_positive s = go (below_or_from 0 s.t)
  where
    go : (0 < s.t) ⊎ (s.t ≤ 0) → 0 < runs s
    go (inl h) = subst (λ (n : ℕ). 0 < n) (sym (prepared_runs s h)) h
    go (inr h) = subst (λ (n : ℕ). 0 < n) (sym (plain_runs_lem s (omega arith))) (omega arith)

pub run_length_by : (s : Shape) (n : ℕ) → runs s ≡ n → run_length s ≡ s.l / n
unfolding run_length
run_length_by s n e = ap (λ (m : ℕ). s.l / m) e

pub plain_run_length : (s : Shape) → s.t ≡ 0 → run_length s ≡ s.l
plain_run_length s e = run_length_by s 1 (plain_runs_lem s e) ∙ div-one s.l

pub prepared_run_length : (s : Shape) → 1 ≤ s.t → run_length s ≡ s.l / s.t
prepared_run_length s p = run_length_by s s.t (prepared_runs s p)

-- the facts of the record, from those of the four numbers
record Runs (s : Shape) : Type 0 where
  some : 1 ≤ runs s
  most : runs s ≤ most_rows
  exact : runs s * run_length s ≡ s.l

cut_runs : (s : Shape) (n : ℕ) → runs s ≡ n → 1 ≤ n → n ≤ most_rows → n * (s.l / n) ≡ s.l → Runs s
cut_runs s n e p q x =
    record {
      some = omega arith;
      most = omega arith;
      exact = ap (λ (m : ℕ). m * run_length s) e ∙ ap (λ (m : ℕ). n * m) (run_length_by s n e) ∙ x;
    }

plain_cut : (s : Shape) → s.t ≡ 0 → Runs s
plain_cut s e = cut_runs s 1 (plain_runs_lem s e) (omega arith) (omega arith) (one-mul _ ∙ div-one s.l)

prepared_cut : (s : Shape) → Prepared s → s.l % s.t ≡ 0 → Runs s
prepared_cut s p e =
    cut_runs s s.t (prepared_runs s (omega arith)) (omega arith) p.mark_most (cut_exact s.l s.t e)

few_columns : (s : Shape) → s.k ≤ most_data → (s.r ≤ most_rows) ⊎ (s.k + s.r ≤ most_points) → columns s ≤ most_columns
few_columns s h (inl few) = omega arith
few_columns s h (inr few) = omega arith

all_facts : (s : Shape) → 1 ≤ s.k → s.k ≤ most_data → 1 ≤ s.r → s.r ≤ most_parity → (s.r ≤ most_rows) ⊎ (s.k + s.r ≤ most_points)
    → (s.t ≡ 0) ⊎ Prepared s → 1 ≤ s.l → s.l ≤ most_length → Runs s → Allowed s
all_facts s k1 k2 r1 r2 n m l1 l2 c =
    record {
      data_some = k1;
      data_most = k2;
      parity_some = r1;
      parity_most = r2;
      points_most = n;
      columns_most = few_columns s k2 n;
      mark = m;
      length_some = l1;
      length_most = l2;
      runs_some = c.some;
      runs_most = c.most;
      run_some = part_some (runs s) (run_length s) s.l l1 c.exact;
      run_most = part_most (runs s) (run_length s) s.l c.some c.exact;
      cut = c.exact;
      data-length = mul-le-mul k2 l2;
      parity-length = mul-le-mul r2 l2;
      stripe-length = mul-le-mul {n₂ = most_columns} (few_columns s k2 n) l2;
    }

module _ (s : Shape) (passed : shape_refusal s ≡ 0) where
  tests : (data_allowed s.k && parity_allowed s.r && points_allowed s.k s.r && mark_allowed s.k s.r s.t ≡ true)
      × (length_allowed s.t s.l ≡ true)
  unfolding shape_refusal
  tests = both_passed _ _ passed

  counts : data_allowed s.k && parity_allowed s.r && points_allowed s.k s.r ≡ true
  counts = and_left _ _ tests.0

  numbers : data_allowed s.k && parity_allowed s.r ≡ true
  numbers = and_left _ _ counts

  k_allowed : data_allowed s.k ≡ true
  k_allowed = and_left _ _ numbers

  r_allowed : parity_allowed s.r ≡ true
  r_allowed = and_right (data_allowed s.k) _ numbers

  n_allowed : points_allowed s.k s.r ≡ true
  n_allowed = and_right (data_allowed s.k && parity_allowed s.r) _ counts

  t_allowed : mark_allowed s.k s.r s.t ≡ true
  t_allowed = and_right (data_allowed s.k && parity_allowed s.r && points_allowed s.k s.r) _ tests.0

  l_bounds : leb 1 s.l && leb s.l most_length ≡ true
  l_bounds = and_left _ _ tests.1

  l_divided : (eqb s.t 0 || eqb (s.l % s.t) 0) ≡ true
  l_divided = and_right (leb 1 s.l && leb s.l most_length) _ tests.1

  marked : (s.t ≡ 0) ⊎ Prepared s
  marked = go (or_cases _ _ t_allowed)
    where
      go : (eqb s.t 0 ≡ true) ⊎ (ltb s.r s.t && leb s.t most_rows && leb s.t s.k ≡ true) → (s.t ≡ 0) ⊎ Prepared s
      go (inl e) = inl (eqb-true _ _ e)
      go (inr e) =
          inr record {
            gains = ltb-true _ _ (and_left _ _ (and_left _ _ e));
            mark_most = leb-true _ _ (and_right (ltb s.r s.t) _ (and_left _ _ e));
            mark_data = leb-true _ _ (and_right (ltb s.r s.t && leb s.t most_rows) _ e);
          }

  pointed : (s.r ≤ most_rows) ⊎ (s.k + s.r ≤ most_points)
  pointed = go (or_cases _ _ n_allowed)
    where
      go : (leb s.r most_rows ≡ true) ⊎ (leb (s.k + s.r) most_points ≡ true) → (s.r ≤ most_rows) ⊎ (s.k + s.r ≤ most_points)
      go (inl e) = inl (leb-true _ _ e)
      go (inr e) = inr (leb-true _ _ e)

  cut_allowed : Runs s
  cut_allowed = go marked (or_cases _ _ l_divided)
    where
      go : (s.t ≡ 0) ⊎ Prepared s → (eqb s.t 0 ≡ true) ⊎ (eqb (s.l % s.t) 0 ≡ true) → Runs s
      go (inl e) d = plain_cut s e
      go (inr p) (inl e) = plain_cut s (eqb-true s.t 0 e)
      go (inr p) (inr e) = prepared_cut s p (eqb-true (s.l % s.t) 0 e)

  pub allowed : Allowed s
  allowed =
      all_facts s
      (leb-true _ _ (and_left _ _ k_allowed))
      (leb-true _ _ (and_right (leb 1 s.k) _ k_allowed))
      (leb-true _ _ (and_left _ _ r_allowed))
      (leb-true _ _ (and_right (leb 1 s.r) _ r_allowed))
      pointed
      marked
      (leb-true _ _ (and_left _ _ l_bounds))
      (leb-true _ _ (and_right (leb 1 s.l) _ l_bounds))
      cut_allowed

-- ---- rows or points

-- r up to 3 is by rows, and r from 4 to 16 by points
pub few_by_rows : (s : Shape) → s.r ≤ most_rows → by_points s ≡ false
unfolding by_points
few_by_rows s h = ap (λ (b : Bool). b && leb s.r most_parity) (le-ltb most_rows s.r h)

pub many_by_points : (s : Shape) → most_rows < s.r → s.r ≤ most_parity → by_points s ≡ true
unfolding by_points
many_by_points s h m = ap₂ ◌&&◌ (lt-ltb most_rows s.r h) (le-leb s.r most_parity m)

pub by_points_many : (s : Shape) → by_points s ≡ true → (most_rows < s.r) × (s.r ≤ most_parity)
unfolding by_points
by_points_many s e = (ltb-true _ _ (and_left _ _ e), leb-true _ _ (and_right (ltb most_rows s.r) _ e))

-- of the allowed shapes those by rows have up to 3 parity columns; those by points have a point for each column and are plain
pub rows_most : (s : Shape) → Allowed s → by_points s ≡ false → s.r ≤ most_rows
rows_most s a e = go (below_or_from most_rows s.r)
  where
    go : (most_rows < s.r) ⊎ (s.r ≤ most_rows) → s.r ≤ most_rows
    go (inl h) = absurd (true≢false (sym (many_by_points s h a.parity_most) ∙ e))
    go (inr h) = h

pub points_fit : (s : Shape) → Allowed s → by_points s ≡ true → s.k + s.r ≤ most_points
points_fit s a e = go a.points_most
  where
    go : (s.r ≤ most_rows) ⊎ (s.k + s.r ≤ most_points) → s.k + s.r ≤ most_points
    go (inl h) = absurd (true≢false (sym e ∙ few_by_rows s h))
    go (inr h) = h

pub points_plain : (s : Shape) → Allowed s → by_points s ≡ true → s.t ≡ 0
points_plain s a e = go a.mark
  where
    go : (s.t ≡ 0) ⊎ Prepared s → s.t ≡ 0
    go (inl z) = z
    go (inr p) = absurd (true≢false (sym e ∙ few_by_rows s (let h = p in omega (arith, h.gains, h.mark_most))))

pub prepared_by_rows : (s : Shape) → Allowed s → 0 < s.t → by_points s ≡ false
prepared_by_rows s a h = go (by_points s) refl
  where
    go : (b : Bool) → by_points s ≡ b → by_points s ≡ false
    go false e = e
    go true e = absurd (zero_not_pos (points_plain s a e))
      where
        zero_not_pos : s.t ≡ 0 → ⊥
        zero_not_pos z = omega arith
