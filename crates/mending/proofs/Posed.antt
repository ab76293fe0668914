-- What a system says: the rows to solve by are below r, and the lost data columns are distinct; and sums over the errors counted from a pivot.
use Prim.Native.Nat.{ℕ, zero, suc, ◌+◌, ◌-◌, ◌*◌, ◌≤◌, ◌<◌}
use mathlib.Core.Path.{◌≡◌, refl, sym, ap, ap₂, subst, ◌∙◌}
use mathlib.Core.Bool.{Bool, true, false, cond, ◌||◌, true≢false}
use mathlib.Core.List.{List, [], ◌∷◌}
use mathlib.Core.Logic.{◌⊎◌, inl, inr}
use native.Mathlib.Omega.{arith}
use native.Mathlib.Nat.{suc_inj, suc-ne-zero, mul_comm as ℕ-mul-comm, mul-le-mul}
use lib.Dec.{eqb}
use lib.ListN.{length, get_or, take}
use lib.Seq.{get_or-take, length-take-le, ext_get_or}
use borrow.Author.Tests.{eqb-true, eq-eqb}
use Rattle.field.specs.Field.{◌⊕◌, ◌⊗◌, gpow, inverse_of}
use Rattle.field.specs.Solve.{solve, moment}
use Rattle.field.proofs.Xor.{add-lt}
use Rattle.field.proofs.Mul.{mul-add, mul_assoc, mul-zero, mul-lt, mul_comm, one-mul, mul_inverse, gpow-zero, gpow-add, gpow-lt, gpow_pos}
use Rattle.field.proofs.Solve.{solve_same, solve_moment, solved}
use Rattle.stripe.specs.declared.Shape.{Shape}
use Rattle.stripe.specs.Shape.{columns, parity_length, most_rows, most_rows_length}
use Rattle.stripe.specs.Stripe.{runs, among, Ascending, plain_runs}
use Rattle.stripe.proofs.Allowed.{Allowed, allowed, rows_most, plain_runs_lem}
use Rattle.stripe.proofs.Survivors.{Spread, first_row, row_step}
use Rattle.stripe.proofs.Lost.{lost_data, row_lost, lost_data_ascending, ascending_at}
use Rattle.stripe.proofs.Errors.{points, points-length, points_bytes, points_weights, points_apart}
use Rattle.stripe.proofs.Errors.{error_row, error_moment, errors, errors_length, errors_bytes, syndrome}
use Rattle.stripe.proofs.Word.{word_errors, word_spread}
use Rattle.mending.specs.declared.few.Few.{Few}
use Rattle.mending.specs.declared.system.System.{System}
use Rattle.mending.specs.Few.{few_list}
use Rattle.mending.specs.Restore.{ReadyRows}
use Rattle.mending.specs.Slots.{weighted}
use Rattle.mending.specs.System.{less, lost_in, gone, PivotOf, Posed}

-- ---- positions

-- a later position is greater
pub ascending_apart : (u v a n : ℕ) (es : List ℕ) → Ascending a n es → u < v → v < length es → get_or es u 0 < get_or es v 0
unfolding Ascending
ascending_apart u v a n [] w h l = absurd (omega arith)
ascending_apart u zero a n (e ∷ es) w h l = absurd (omega arith)
ascending_apart zero (suc v) a n (e ∷ es) w h l = (ascending_at v (suc e) n es w.2 (omega arith)).0
ascending_apart (suc u) (suc v) a n (e ∷ es) w h l = ascending_apart u v (suc e) n es w.2 (omega arith) (omega arith)

-- a position among others is one of them
pub among_index : (c : ℕ) (es : List ℕ) → among c es ≡ true → (v : ℕ) × ((v < length es) × (c ≡ get_or es v 0))
unfolding among
among_index c [] h = absurd (true≢false (sym h))
among_index c (e ∷ es) h = go (eqb c e) refl h (among_index c es)
  where
    go : (b : Bool) → eqb c e ≡ b → (b || among c es) ≡ true → (among c es ≡ true → (v : ℕ) × ((v < length es) × (c ≡ get_or es v 0)))
        → (v : ℕ) × ((v < suc (length es)) × (c ≡ get_or (e ∷ es) v 0))
    go true q t rest = (0, (omega arith, eqb-true c e q))
    go false q t rest = (suc (rest t).0, (omega (arith, (rest t).1.0), (rest t).1.1))

pub among_each : (c : ℕ) (es : List ℕ) (v : ℕ) → among c es ≡ false → v < length es → c ≡ get_or es v 0 → ⊥
unfolding among
among_each c [] v h l e = absurd (omega arith)
among_each c (x ∷ es) zero h l e = true≢false (sym (ap (λ (b : Bool). b || among c es) (eq-eqb c x e)) ∙ h)
among_each c (x ∷ es) (suc v) h l e = go (eqb c x) h (λ t. among_each c es v t (omega arith) e)
  where
    go : (b : Bool) → (b || among c es) ≡ false → (among c es ≡ false → ⊥) → ⊥
    go true t rest = true≢false t
    go false t rest = rest t

-- ---- counted from a pivot

pub less-length : (x : ℕ) (is : List ℕ) → length (less x is) ≡ length is
unfolding less
less-length x [] = refl
less-length x (i ∷ is) = ap suc (less-length x is)

pub less_zero : (is : List ℕ) → less 0 is ≡ is
unfolding less
less_zero [] = refl
less_zero (i ∷ is) = ap₂ (λ (j : ℕ) (js : List ℕ). j ∷ js) (omega arith) (less_zero is)

less_ascending : (x a b k : ℕ) (is : List ℕ) → b + x ≤ a → Ascending a k is → Ascending b k (less x is)
unfolding less Ascending
less_ascending x a b k [] h w = tt
less_ascending x a b k (i ∷ is) h w =
    (omega (arith, w.0), omega (arith, w.1), less_ascending x (suc i) (suc (i - x)) k is (omega (arith, w.0)) w.2)

less_ascends : (x k : ℕ) (is : List ℕ) → ((v : ℕ) → v < length is → x ≤ get_or is v 0) → Ascending 0 k is → Ascending 0 k (less x is)
unfolding less Ascending
less_ascends x k [] h w = tt
less_ascends x k (i ∷ is) h w =
    (omega arith, omega (arith, w.1), less_ascending x (suc i) (suc (i - x)) k is (omega (arith, h 0 (omega arith))) w.2)

exponent : (x i j : ℕ) → x ≤ i → j * x + (i - x) * j ≡ i * j
exponent x i j h = let e : x + (i - x) ≡ i = omega arith in omega (arith, ap (λ (z : ℕ). z * j) e)

-- g^(j x) times row j of the errors counted from x is their row
pub pivot_row : (x j : ℕ) (is es : List ℕ) → ((v : ℕ) → v < length is → x ≤ get_or is v 0) → gpow (j * x) ⊗ error_row j (less x is) es ≡ error_row j is es
unfolding less error_row
pivot_row x j [] es h = mul-zero _
pivot_row x j (i ∷ is) [] h = mul-zero _
pivot_row x j (i ∷ is) (e ∷ es) h =
    mul-add (gpow (j * x)) _ _
    ∙ ap₂ ◌⊕◌
    (sym (mul_assoc (gpow (j * x)) (gpow ((i - x) * j)) e)
    ∙ ap (λ (z : ℕ). z ⊗ e) (sym (gpow-add (j * x) ((i - x) * j)) ∙ ap gpow (exponent x i j (h 0 (omega arith)))))
    (pivot_row x j is es (λ v l. h (suc v) (omega arith)))

-- a power of g can be cancelled
pub power_cancel : (n x y : ℕ) → x < 256 → y < 256 → gpow n ⊗ x ≡ gpow n ⊗ y → x ≡ y
power_cancel n x y hx hy e = sym (undo x hx) ∙ ap (λ (z : ℕ). inverse_of (gpow n) ⊗ z) e ∙ undo y hy
  where
    undo : (z : ℕ) → z < 256 → inverse_of (gpow n) ⊗ (gpow n ⊗ z) ≡ z
    undo z h =
        sym (mul_assoc (inverse_of (gpow n)) (gpow n) z)
        ∙ ap (λ (y : ℕ). y ⊗ z) (mul_comm (inverse_of (gpow n)) (gpow n) ∙ mul_inverse (gpow n) (gpow_pos n) (gpow-lt n)) ∙ one-mul z h

pub power_zero_only : (n x : ℕ) → x < 256 → gpow n ⊗ x ≡ 0 → x ≡ 0
power_zero_only n x h e = power_cancel n x 0 h (omega arith) (e ∙ sym (mul-zero (gpow n)))

pub by_one : (j x y : ℕ) → x ≡ 0 → y < 256 → gpow (j * x) ⊗ y ≡ y
by_one j x y e h = ap (λ (z : ℕ). gpow z ⊗ y) (ap (λ (z : ℕ). j * z) e ∙ omega arith) ∙ ap (λ (z : ℕ). z ⊗ y) gpow-zero ∙ one-mul y h

error_row_lt : (j : ℕ) (is es : List ℕ) → error_row j is es < 256
unfolding error_row
error_row_lt j [] es = omega arith
error_row_lt j (i ∷ is) [] = omega arith
error_row_lt j (i ∷ is) (e ∷ es) = add-lt 8 _ _ (mul-lt (gpow (i * j)) e) (error_row_lt j is es)

-- by the powers of a row the values are their row
pub weighted_row : (j : ℕ) (is es : List ℕ) (f : ℕ → ℕ) → length es ≡ length is → ((v : ℕ) → v < length is → f v ≡ get_or es v 0)
    → weighted (points j is) f ≡ error_row j is es
unfolding weighted error_row points
weighted_row j [] es f e h = refl
weighted_row j (i ∷ is) [] f e h = absurd (suc-ne-zero (length is) (sym e))
weighted_row j (i ∷ is) (x ∷ es) f e h =
    ap₂ ◌⊕◌ (ap₂ ◌⊗◌ (ap gpow (ℕ-mul-comm j i)) (h 0 (omega arith)))
    (weighted_row j is es (λ v. f (suc v)) (suc_inj e) (λ v l. h (suc v) (omega arith)))

-- ---- the system's facts

module _ (s : Shape) (f : Allowed s) (p : System) (w : Posed s p) where
  pub few_rows : s.r ≤ most_rows
  few_rows = rows_most s f w.rows

  pub rows_length : parity_length s ≤ most_rows_length
  rows_length = mul-le-mul few_rows f.length_most

  pub count_is : p.count ≡ length (gone s p)
  count_is = sym (length-take-le p.count p.lost.at (omega (arith, w.many, w.few, w.room))) ∙ ap length w.front

  pub spread : Spread (row_lost s.k (lost_in p)) s.r (length (gone s p)) (first_row (row_lost s.k (lost_in p))) (row_step (row_lost s.k (lost_in p)))
  spread = word_spread s.k s.r (lost_in p) f.data_most few_rows w.ascend w.fits

  first_small : (lost : ℕ → Bool) → first_row lost ≤ 2
  unfolding first_row
  first_small lost = go (lost 0) (lost 1)
    where
      go : (x y : Bool) → cond x (cond y 2 1) 0 ≤ 2
      go true true = omega arith
      go true false = omega arith
      go false y = omega arith

  pub first_few : p.first ≤ 2
  first_few = omega (arith, w.first_is, first_small (row_lost s.k (lost_in p)))

  pub step_some : 1 ≤ p.step
  step_some = omega (arith, w.step_is, spread.step_some)

  pub step_few : p.step ≤ 2
  step_few = omega (arith, w.step_is, spread.step_most)

  pub row_below : (v : ℕ) → v < p.count → p.first + p.step * v < s.r
  row_below v h =
      subst (λ (x : ℕ). x < s.r) (sym (ap₂ (λ (x y : ℕ). x + y * v) w.first_is w.step_is)) (spread.survive v (omega (arith, count_is))).0

  pub position_is : (v : ℕ) → v < p.count → get_or p.lost.at v 0 ≡ get_or (gone s p) v 0
  position_is v h = sym (get_or-take p.count p.lost.at v 0 h) ∙ ap (λ (l : List ℕ). get_or l v 0) w.front

  pub ordered : Ascending 0 s.k (gone s p)
  ordered = lost_data_ascending s.k 0 (columns s) (lost_in p) w.ascend

  pub position_below : (v : ℕ) → v < p.count → get_or p.lost.at v 0 < s.k
  position_below v h =
      subst (λ (x : ℕ). x < s.k) (sym (position_is v h)) (ascending_at v 0 s.k (gone s p) ordered (omega (arith, count_is))).1

  pub pivot_gone : (v : ℕ) → v < length (gone s p) → p.pivot ≤ get_or (gone s p) v 0
  pivot_gone v h =
      subst (λ (x : ℕ). p.pivot ≤ x) (position_is v (omega (arith, count_is))) (w.pivot_below v (omega (arith, count_is)))

  -- the errors of a word, from its rows counted from the pivot
  pub pivot_errors : (ms : List ℕ) (t y : ℕ → ℕ) → ((j : ℕ) → syndrome ms t j < 256) → ((j : ℕ) → y j < 256)
      → ((v : ℕ) → v < p.count → gpow ((p.first + p.step * v) * p.pivot) ⊗ y (p.first + p.step * v) ≡ syndrome ms t (p.first + p.step * v))
      → solve (points p.step (less p.pivot (gone s p))) (points p.first (less p.pivot (gone s p))) (λ u. y (p.first + p.step * u))
      ≡ word_errors s.k (lost_in p) ms t
  unfolding word_errors errors
  pivot_errors ms t y ht hy h =
      solve_same (points p.step is') (points p.first is') _ (moment (points p.step is') (points p.first is') es)
      (λ u l. row_is u (omega (arith, l, points-length p.step is', less-length p.pivot (gone s p), count_is)))
      ∙ solve_moment (points p.step is') (points p.first is') es (points-length p.step is' ∙ sym (points-length p.first is'))
      (points-length p.step is' ∙ less-length p.pivot (gone s p) ∙ sym (errors_length a d (gone s p) ms t))
      (points_bytes p.step is') (points_bytes p.first is') (errors_bytes a d (gone s p) ms t)
      (points_apart p.step 0 s.k is' step_some step_few f.data_most (less_ascends p.pivot s.k (gone s p) pivot_gone ordered))
      (points_weights p.first is')
    where
      is' : List ℕ
      is' = less p.pivot (gone s p)

      a : ℕ
      a = first_row (row_lost s.k (lost_in p))

      d : ℕ
      d = row_step (row_lost s.k (lost_in p))

      es : List ℕ
      es = errors a d (gone s p) ms t

      -- the errors have the rows
      has : (u : ℕ) → u < length (gone s p) → error_row (a + d * u) (gone s p) es ≡ syndrome ms t (a + d * u)
      has u l =
          error_moment a d u (gone s p) es
          ∙ solved (points d (gone s p)) (points a (gone s p)) (λ v. syndrome ms t (a + d * v)) (points-length d (gone s p) ∙ sym (points-length a (gone s p)))
          (points_bytes d (gone s p)) (points_bytes a (gone s p))
          (points_apart d 0 s.k (gone s p) spread.step_some spread.step_most f.data_most ordered)
          (points_weights a (gone s p)) (λ v. ht (a + d * v)) u (subst (λ (n : ℕ). u < n) (sym (points-length d (gone s p))) l)

      row_is : (u : ℕ) → u < p.count → y (p.first + p.step * u) ≡ moment (points p.step is') (points p.first is') es u
      row_is u l =
          power_cancel (j * p.pivot) _ _ (hy j) (error_row_lt j is' es)
          (h u l
          ∙ subst (λ (z : ℕ). syndrome ms t z ≡ error_row z (gone s p) es) (sym (ap₂ (λ (x y : ℕ). x + y * u) w.first_is w.step_is))
          (sym (has u (omega (arith, count_is))))
          ∙ sym (pivot_row p.pivot j (gone s p) es pivot_gone))
          ∙ error_moment p.first p.step u is' es
        where
          j : ℕ
          j = p.first + p.step * u

-- ---- the powers of the positions

points_at : (j : ℕ) (is : List ℕ) (v : ℕ) → v < length is → get_or (points j is) v 0 ≡ gpow (j * get_or is v 0)
unfolding points
points_at j [] v h = absurd (omega arith)
points_at j (i ∷ is) zero h = refl
points_at j (i ∷ is) (suc v) h = points_at j is v (omega arith)

less_at : (x : ℕ) (is : List ℕ) (v : ℕ) → v < length is → get_or (less x is) v 0 ≡ get_or is v 0 - x
unfolding less
less_at x [] v h = absurd (omega arith)
less_at x (i ∷ is) zero h = refl
less_at x (i ∷ is) (suc v) h = less_at x is v (omega arith)

pub small_product : (i x j : ℕ) → i < 256 → j < most_rows → (i - x) * j ≤ 256 * most_rows
small_product i x j h k = mul-le-mul {n₂ = 256} {m₂ = most_rows} (omega arith) (omega arith)

pub weights_done : (at ws : List ℕ) (e x j v : ℕ) → e ≤ v → e ≤ most_rows → length at ≡ most_rows → length ws ≡ most_rows
    → ((u : ℕ) → u < v → get_or ws u 0 ≡ gpow ((get_or at u 0 - x) * j)) → take e ws ≡ points j (less x (take e at))
weights_done at ws e x j v he few room long h =
    ext_get_or 0 _ _ (cut ∙ sym (points-length j (less x (take e at)) ∙ less-length x (take e at) ∙ many)) (λ u l. each u (subst (λ (z : ℕ). u < z) cut l))
  where
    cut : length (take e ws) ≡ e
    cut = length-take-le e ws (omega arith)

    many : length (take e at) ≡ e
    many = length-take-le e at (omega arith)

    each : (u : ℕ) → u < e → get_or (take e ws) u 0 ≡ get_or (points j (less x (take e at))) u 0
    each u l =
        get_or-take e ws u 0 l ∙ h u (omega arith)
        ∙ ap gpow (ap (λ (z : ℕ). (z - x) * j) (sym (get_or-take e at u 0 l))
        ∙ ap (λ (z : ℕ). z * j) (sym (less_at x (take e at) u (omega (arith, many))))
        ∙ ℕ-mul-comm _ j)
        ∙ sym (points_at j (less x (take e at)) u (omega (arith, many, less-length x (take e at))))

-- the system from its parts
pub posed : (s : Shape) (w : Few) (e x a d : ℕ) → ReadyRows s w → e ≤ w.count → take e w.at ≡ lost_data s.k (few_list w)
    → PivotOf s.t e w.count (get_or w.at 0 0) x
    → a ≡ first_row (row_lost s.k (few_list w)) → d ≡ row_step (row_lost s.k (few_list w))
    → Posed s record { lost = w; count = e; pivot = x; first = a; step = d }
posed s w e x a d ready he front from ea ed =
    record {
      rows = ready.rows;
      room = ready.room;
      few = omega (arith, ready.few, rows_most s f ready.rows);
      ascend = ready.ascend;
      fits = omega (arith, ready.few, long);
      many = he;
      front = front;
      first_is = ea;
      step_is = ed;
      pivot_below = λ v h. below v h from;
      pivot_plain = λ h. plain h from;
      pivot_whole = λ j m. whole j m from;
      pivot_apart = apart from;
    }
  where
    f : Allowed s
    f = allowed s ready.shape

    long : length (few_list w) ≡ w.count
    long = length-take-le w.count w.at (omega (arith, ready.room, ready.few, rows_most s f ready.rows))

    at : (v : ℕ) → v < w.count → get_or (few_list w) v 0 ≡ get_or w.at v 0
    at v h = get_or-take w.count w.at v 0 h

    -- where e are all that are lost they are data columns
    data_only : e ≡ w.count → (v : ℕ) → v < w.count → get_or (few_list w) v 0 < s.k
    data_only q v h =
        subst (λ (l : List ℕ). get_or l v 0 < s.k) (sym all)
        (ascending_at v 0 s.k (lost_data s.k (few_list w)) (lost_data_ascending s.k 0 (columns s) (few_list w) ready.ascend)
        (omega (arith, long, ap length all))).1
      where
        all : few_list w ≡ lost_data s.k (few_list w)
        all = ap (λ (n : ℕ). take n w.at) (sym q) ∙ front

    below : (v : ℕ) → v < e → PivotOf s.t e w.count (get_or w.at 0 0) x → x ≤ get_or w.at v 0
    below v h (inl z) = omega arith
    below zero h (inr q) = omega (arith, q.1.1.1)
    below (suc v) h (inr q) =
        omega (
          arith,
          q.1.1.1,
          at 0 (omega arith),
          at (suc v) (omega arith),
          ascending_apart 0 (suc v) 0 (columns s) (few_list w) ready.ascend (omega arith) (omega (arith, long)),
        )

    plain : plain_runs s < runs s → PivotOf s.t e w.count (get_or w.at 0 0) x → x ≡ 0
    plain h (inl z) = z
    plain h (inr q) = absurd (omega (arith, plain_runs_lem s q.0, f.parity_some))

    whole : (j : ℕ) → among (s.k + j) (few_list w) ≡ true → PivotOf s.t e w.count (get_or w.at 0 0) x → x ≡ 0
    whole j m (inl z) = z
    whole j m (inr q) =
        let i = among_index (s.k + j) (few_list w) m in absurd (omega (arith, i.1.1, data_only q.1.1.0 i.0 (omega (arith, i.1.0, long))))

    apart : PivotOf s.t e w.count (get_or w.at 0 0) x → (x ≡ 0) ⊎ ((s.t ≡ 0) × (x < s.k))
    apart (inl z) = inl z
    apart (inr q) = inr (q.0, omega (arith, q.1.1.1, at 0 (omega (arith, q.1.0)), data_only q.1.1.0 0 (omega (arith, q.1.0))))

-- what the weights are asked for
pub weights_asked : (s : Shape) (p : System) (x j : ℕ) → Allowed s → Posed s p → x ≤ p.pivot → j < most_rows
    → (length p.lost.at ≡ most_rows) × ((p.count ≤ most_rows) × ((j < most_rows)
    × ((v : ℕ) → v < p.count → (x ≤ get_or p.lost.at v 0) × (get_or p.lost.at v 0 < 256))))
weights_asked s p x j f w hx hj =
    (w.room, (omega (arith, w.many, w.few), (hj, λ v h. (omega (arith, w.pivot_below v h), omega (arith, position_below s f p w v h, f.data_most)))))
