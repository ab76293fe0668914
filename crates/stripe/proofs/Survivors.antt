-- Which surviving rows to solve by. Of at most three rows the first ones that survive always stand at equal distances, so that as
-- many as there are lost data bytes are rows a, a + d, a + 2d: one computed test over every case of what is lost.
use mathlib.Core.Path.{◌≡◌, refl, sym, ap, ap₂, ◌∙◌, subst}
use mathlib.Core.Bool.{Bool, true, false, cond, not}
use mathlib.Core.Logic.{◌⊎◌, inl, inr}
use Prim.Native.Nat.{ℕ, zero, suc, ◌+◌, ◌*◌, ◌<◌, ◌≤◌}
use native.Mathlib.Nat.{le_of_suc-le-suc, not-suc-le-zero, eq-or-lt_of_le}
use native.Mathlib.Omega.{arith}
use lib.Dec.{T, leb, ltb, eqb, ltb→lt, eqb→eq, le→leb, eqb_refl}
use Rattle.field.proofs.Below.{both, both_left, both_right, all, below}
use Rattle.stripe.specs.Shape.{most_rows}

abbrev pub one_if : Bool → ℕ
one_if b = cond b 1 0

-- how many of the first n are true
unfoldable pub count_true : (ℕ → Bool) → ℕ → ℕ
count_true f zero = 0
count_true f (suc n) = one_if (f n) + count_true f n

-- the first row that survives, and how far the next one is
unfoldable pub first_row : (ℕ → Bool) → ℕ
first_row lost = cond (lost 0) (cond (lost 1) 2 1) 0

unfoldable pub row_step : (ℕ → Bool) → ℕ
row_step lost = cond (lost 0) 1 (cond (lost 1) 2 1)

-- e rows from a on at distance d are below r and survive, and are all that survive if no more can be lost
pub record Spread (lost : ℕ → Bool) (r e a d : ℕ) : Type 0 where
  pub step_some : 1 ≤ d
  pub step_most : d ≤ 2
  pub survive : (u : ℕ) → u < e → (a + d * u < r) × (lost (a + d * u) ≡ false)
  pub exhaust : e + count_true lost r ≡ r → (j : ℕ) → j < r → lost j ≡ false → (u : ℕ) × ((u < e) × (j ≡ a + d * u))

-- ---- counting

pub count_same : (f g : ℕ → Bool) (n : ℕ) → ((j : ℕ) → j < n → f j ≡ g j) → count_true f n ≡ count_true g n
unfolding count_true
count_same f g zero h = refl
count_same f g (suc n) h = ap₂ (λ (b : Bool) (m : ℕ). one_if b + m) (h n (omega arith)) (count_same f g n (λ j l. h j (omega arith)))

pub count_none : (n : ℕ) → count_true (λ j. false) n ≡ 0
unfolding count_true
count_none zero = refl
count_none (suc n) = ap (λ (m : ℕ). 0 + m) (count_none n)

-- one more
pub count_more : (f g : ℕ → Bool) (n i : ℕ) → i < n → f i ≡ true → g i ≡ false → ((j : ℕ) → (j ≡ i → ⊥) → f j ≡ g j)
    → count_true f n ≡ suc (count_true g n)
unfolding count_true
count_more f g zero i l p q h = absurd (not-suc-le-zero l)
count_more f g (suc n) i l p q h = go (eq-or-lt_of_le (le_of_suc-le-suc l)) (count_more f g n i)
  where
    go : (i ≡ n) ⊎ (i < n)
        → (i < n → f i ≡ true → g i ≡ false → ((j : ℕ) → (j ≡ i → ⊥) → f j ≡ g j) → count_true f n ≡ suc (count_true g n))
        → one_if (f n) + count_true f n ≡ suc (one_if (g n) + count_true g n)
    go (inl e) rest =
        let a : one_if (f n) ≡ 1 = ap one_if (subst (λ (m : ℕ). f m ≡ true) e p) in
        let b : one_if (g n) ≡ 0 = ap one_if (subst (λ (m : ℕ). g m ≡ false) e q) in
        let c : count_true f n ≡ count_true g n = count_same f g n (λ j k. h j (λ x. omega arith)) in
        omega arith
    go (inr k) rest =
        let a : one_if (f n) ≡ one_if (g n) = ap one_if (h n (λ x. omega arith)) in
        let c : count_true f n ≡ suc (count_true g n) = rest k p q h in
        omega arith

-- ---- the test

-- three truths as a function
unfoldable three : Bool → Bool → Bool → ℕ → Bool
three x y z zero = x
three x y z (suc zero) = y
three x y z (suc (suc n)) = z

-- if a then b
abbrev implied : Bool → Bool → Bool
implied true b = b
implied false b = true

-- some number below n passes
abbrev some : (ℕ → Bool) → ℕ → Bool
some f zero = false
some f (suc n) = cond (f n) true (some f n)

-- row a + d u is below r and survives
unfoldable row_passes : (ℕ → Bool) → ℕ → ℕ → Bool
row_passes f r u = both (ltb (first_row f + row_step f * u) r) (not (f (first_row f + row_step f * u)))

-- row j is lost, or it is one of e rows a + d u
unfoldable row_reached : (ℕ → Bool) → ℕ → ℕ → Bool
row_reached f e j = implied (not (f j)) (some (λ u. eqb j (first_row f + row_step f * u)) e)

unfoldable spread_test : (ℕ → Bool) → ℕ → ℕ → Bool
spread_test f r e =
    implied (leb (e + count_true f r) r)
    (both (all (row_passes f r) e) (implied (eqb (e + count_true f r) r) (all (row_reached f e) r)))

-- the test at both truths
abbrev either : (Bool → Bool) → Bool
either f = both (f true) (f false)

either_at : (f : Bool → Bool) → T (either f) → (b : Bool) → T (f b)
either_at f t true = both_left (f true) (f false) t
either_at f t false = both_right (f true) (f false) t

tests : ℕ → ℕ → Bool
tests r e = either (λ x. either (λ y. either (λ z. spread_test (three x y z) r e)))

all_tests : T (all (λ r. all (tests r) 4) 4)
unfolding count_true first_row row_step three row_passes row_reached spread_test tests
all_tests = tt

-- ---- what the test says

implied_holds : (a b : Bool) → T (implied a b) → T a → T b
implied_holds true b t h = t
implied_holds false b t h = absurd h

some_found : (f : ℕ → Bool) (n : ℕ) → T (some f n) → (u : ℕ) × ((u < n) × T (f u))
some_found f zero t = absurd t
some_found f (suc n) t = go (f n) refl t (some_found f n)
  where
    go : (b : Bool) → f n ≡ b → T (cond b true (some f n)) → (T (some f n) → (u : ℕ) × ((u < n) × T (f u))) → (u : ℕ) × ((u < suc n) × T (f u))
    go true e t rest = (n, (omega arith, subst T (sym e) tt))
    go false e t rest = ((rest t).0, (omega (arith, (rest t).1.0), (rest t).1.1))

not_lost : (b : Bool) → T (not b) → b ≡ false
not_lost true t = absurd t
not_lost false t = refl

lost_not : (b : Bool) → b ≡ false → T (not b)
lost_not b e = subst (λ (x : Bool). T (not x)) (sym e) tt

test_at : (x y z : Bool) (r e : ℕ) → r < 4 → e < 4 → T (spread_test (three x y z) r e)
unfolding tests
test_at x y z r e hr he =
    either_at (λ c. spread_test (three x y c) r e)
    (either_at (λ b. either (λ c. spread_test (three x b c) r e))
    (either_at (λ a. either (λ b. either (λ c. spread_test (three a b c) r e))) (below (tests r) 4 (below (λ n. all (tests n) 4) 4 all_tests r hr) e he) x)
    y)
    z

step_bounds : (x y : Bool) → (1 ≤ cond x 1 (cond y 2 1)) × (cond x 1 (cond y 2 1) ≤ 2)
step_bounds true y = (omega arith, omega arith)
step_bounds false true = (omega arith, omega arith)
step_bounds false false = (omega arith, omega arith)

module _ (f : ℕ → Bool) (r e : ℕ) (t : T (spread_test f r e)) (fits : e + count_true f r ≤ r) where
  tested : T (both (all (row_passes f r) e) (implied (eqb (e + count_true f r) r) (all (row_reached f e) r)))
  unfolding spread_test
  tested = implied_holds (leb (e + count_true f r) r) _ t (le→leb (e + count_true f r) r fits)

  passes : (u : ℕ) → u < e → T (row_passes f r u)
  passes u l = below (row_passes f r) e (both_left (all (row_passes f r) e) _ tested) u l

  reaches : e + count_true f r ≡ r → (j : ℕ) → j < r → T (row_reached f e j)
  reaches q j l =
      below (row_reached f e) r
      (implied_holds (eqb (e + count_true f r) r) (all (row_reached f e) r) (both_right (all (row_passes f r) e) _ tested)
      (subst (λ (n : ℕ). T (eqb (e + count_true f r) n)) q (eqb_refl (e + count_true f r))))
      j l

  survives : (u : ℕ) → u < e → (first_row f + row_step f * u < r) × (f (first_row f + row_step f * u) ≡ false)
  unfolding row_passes
  survives u l = (
    ltb→lt _ r (both_left (ltb (first_row f + row_step f * u) r) _ (passes u l)),
    not_lost _ (both_right (ltb (first_row f + row_step f * u) r) _ (passes u l)),
  )

  exhausts : e + count_true f r ≡ r → (j : ℕ) → j < r → f j ≡ false → (u : ℕ) × ((u < e) × (j ≡ first_row f + row_step f * u))
  unfolding row_reached
  exhausts q j l n =
      let w : (u : ℕ) × ((u < e) × T (eqb j (first_row f + row_step f * u))) =
      some_found (λ u. eqb j (first_row f + row_step f * u)) e (implied_holds (not (f j)) _ (reaches q j l) (lost_not (f j) n)) in
      (w.0, (w.1.0, eqb→eq j _ w.1.1))

  test_says : Spread f r e (first_row f) (row_step f)
  unfolding row_step
  test_says =
      record { step_some = (step_bounds (f 0) (f 1)).0; step_most = (step_bounds (f 0) (f 1)).1; survive = survives; exhaust = exhausts }

-- ---- for any lost rows

three_of : (lost : ℕ → Bool) (j : ℕ) → j < most_rows → three (lost 0) (lost 1) (lost 2) j ≡ lost j
unfolding three
three_of lost zero h = refl
three_of lost (suc zero) h = refl
three_of lost (suc (suc zero)) h = refl
three_of lost (suc (suc (suc j))) h = absurd (omega arith)

spread_same : (f g : ℕ → Bool) (r e a d : ℕ) → ((j : ℕ) → j < r → f j ≡ g j) → Spread f r e a d → Spread g r e a d
spread_same f g r e a d h w =
    record {
      step_some = w.step_some;
      step_most = w.step_most;
      survive = λ u l. ((w.survive u l).0, sym (h _ (w.survive u l).0) ∙ (w.survive u l).1);
      exhaust = λ q j l n. w.exhaust (ap (λ (m : ℕ). e + m) (count_same f g r h) ∙ q) j l (h j l ∙ n);
    }

-- the key fact: as many rows survive at equal distances as there are data bytes to solve for
pub survivors : (lost : ℕ → Bool) (r e : ℕ) → r ≤ most_rows → e + count_true lost r ≤ r → Spread lost r e (first_row lost) (row_step lost)
unfolding first_row row_step three
survivors lost r e hr fits =
    spread_same (three (lost 0) (lost 1) (lost 2)) lost r e _ _ same
    (test_says (three (lost 0) (lost 1) (lost 2)) r e (test_at (lost 0) (lost 1) (lost 2) r e (omega arith) (omega arith)) fitting)
  where
    same : (j : ℕ) → j < r → three (lost 0) (lost 1) (lost 2) j ≡ lost j
    same j l = three_of lost j (omega arith)

    fitting : e + count_true (three (lost 0) (lost 1) (lost 2)) r ≤ r
    fitting = subst (λ (n : ℕ). e + n ≤ r) (sym (count_same _ lost r same)) fits
