-- Mending as it is computed: which positions are the sources, the spares and the computed ones, and that the computed bytes are those of a codeword.
-- At a place the sum over all positions is that over the computed ones plus that over the sources, so a word has zero sums exactly when the bytes at the
-- computed positions have the sums of the bytes at the sources.
use mathlib.Core.Path.{◌≡◌, refl, sym, ap, ap₂, ◌∙◌, subst}
use mathlib.Core.Bool.{Bool, true, false, cond}
use mathlib.Core.Logic.{◌⊎◌, inl, inr}
use mathlib.Core.List.{List, [], ◌∷◌, ◌++◌, map}
use Prim.Native.Nat.{ℕ, zero, suc, ◌+◌, ◌-◌, ◌*◌, ◌<◌, ◌≤◌, zero-le, suc-le-suc}
use native.Mathlib.Nat.{le_of_suc-le-suc, not-suc-le-zero, zero-add as ℕ-zero-add}
use native.Mathlib.Omega.{arith}
use lib.Dec.{lit<}
use lib.ListN.{length, get_or, take, drop, length-append, length-drop, take-append-drop, get_or-append}
use lib.Seq.{ext_get_or, get_or-take, get_or-drop, get_or-append-add, length-take-le}
use Rattle.field.specs.Field.{◌⊕◌, ◌⊗◌, power}
use Rattle.field.specs.Bytes.{Bytes, tabulate}
use Rattle.field.proofs.Xor.{zero-add, add_self, add_assoc, add_left_comm, add-lt, sums}
use Rattle.field.proofs.Mul.{mul-lt}
use Rattle.field.proofs.Powers.{sum_zero}
use Rattle.field.proofs.Cases.{below_or_from, same_or_not}
use Rattle.field.proofs.Bytes.{tabulate-length, tabulate_at}
use Rattle.field.proofs.Solve.{Apart}
use Rattle.stripe.specs.Stripe.{across, among, Ascending}
use Rattle.stripe.proofs.Lost.{ascending_from, ascending_at, not_among, among_other, among_first}
use Rattle.stripe.proofs.Places.{across-length, across_first, across_bytes}
use Rattle.points.specs.Points.{data_points, parity_points, points, sum_at, solve_at}
use Rattle.points.specs.Mending.{Kept, Positions, entries}
use Rattle.points.specs.Lagrange.{dot}
use Rattle.points.proofs.Sums.{sum_lt, solve_at-length, solved_at}
use Rattle.points.proofs.Distinct.{data_points-length, parity_points-length, points-length, points_bytes, points_apart}
use Rattle.points.proofs.Mended.{positions_below, entries-length, entries_at, entries_bytes, entries_apart}
use Rattle.points.proofs.Lagrange.{same_sums_weights, solution_weights}
use Rattle.equations.specs.Whole.{sum_of, Codeword, Agree}
use Rattle.equations.specs.Chosen.{survivors, sources, spares, computed, computed_byte}
use Rattle.equations.proofs.Lost.{ascending_positions, among_kept}

-- ---- the survivors of an ascending list, one position at a time

-- a list ascending from c begins with c, or it ascends from the next
first_or_later : (c n : ℕ) (es : List ℕ) → Ascending c n es → ((fs : List ℕ) × ((es ≡ c ∷ fs) × Ascending (suc c) n fs)) ⊎ Ascending (suc c) n es
unfolding Ascending
first_or_later c n [] w = inr tt
first_or_later c n (e ∷ es) w = go (same_or_not c e)
  where
    go : (c ≡ e) ⊎ (c ≡ e → ⊥)
        → ((fs : List ℕ) × ((e ∷ es ≡ c ∷ fs) × Ascending (suc c) n fs)) ⊎ ((suc c ≤ e) × (e < n) × Ascending (suc e) n es)
    go (inl q) = inl (es, (ap (λ (x : ℕ). x ∷ es) (sym q), subst (λ (x : ℕ). Ascending (suc x) n es) (sym q) w.2))
    go (inr q) = inr (omega (arith, w.0, q), w.1, w.2)

-- what is past does not matter
survivors_past : (c m e : ℕ) (es : List ℕ) → e < c → survivors c m (e ∷ es) ≡ survivors c m es
unfolding survivors
survivors_past c zero e es h = refl
survivors_past c (suc m) e es h =
    ap₂ (λ (b : Bool) (ss : List ℕ). cond b ss (c ∷ ss)) (among_other c e es (λ x. omega arith)) (survivors_past (suc c) m e es (omega arith))

survivors_first : (c m : ℕ) (es : List ℕ) → survivors c (suc m) (c ∷ es) ≡ survivors (suc c) m es
unfolding survivors
survivors_first c m es =
    ap (λ (b : Bool). cond b (survivors (suc c) m (c ∷ es)) (c ∷ survivors (suc c) m (c ∷ es))) (among_first c es)
    ∙ survivors_past (suc c) m c es (omega arith)

survivors_later : (c m n : ℕ) (es : List ℕ) → Ascending (suc c) n es → survivors c (suc m) es ≡ c ∷ survivors (suc c) m es
unfolding survivors
survivors_later c m n es w =
    ap (λ (b : Bool). cond b (survivors (suc c) m es) (c ∷ survivors (suc c) m es)) (not_among c (suc c) n es w (omega arith))

-- what holds with no position, and with one more that is lost or survives, holds of all
module _ (n : ℕ) (P : ℕ → ℕ → List ℕ → List ℕ → Type 0) (none : (c : ℕ) → P c 0 [] [])
    (lost : (c m : ℕ) (es ss : List ℕ) → P (suc c) m es ss → P c (suc m) (c ∷ es) ss)
    (kept : (c m : ℕ) (es ss : List ℕ) → P (suc c) m es ss → P c (suc m) es (c ∷ ss)) where
  by_position : (c m : ℕ) (es : List ℕ) → c + m ≡ n → Ascending c n es → P c m es (survivors c m es)
  unfolding survivors Ascending
  by_position c zero [] e w = none c
  by_position c zero (d ∷ es) e w = absurd (omega (arith, w.0, w.1))
  by_position c (suc m) es e w = go (first_or_later c n es w) (λ fs v. by_position (suc c) m fs (omega arith) v)
    where
      go : ((fs : List ℕ) × ((es ≡ c ∷ fs) × Ascending (suc c) n fs)) ⊎ Ascending (suc c) n es
          → ((fs : List ℕ) → Ascending (suc c) n fs → P (suc c) m fs (survivors (suc c) m fs)) → P c (suc m) es (survivors c (suc m) es)
      go (inl q) rest =
          subst (λ (ds : List ℕ). P c (suc m) ds (survivors c (suc m) ds)) (sym q.1.0)
          (subst (P c (suc m) (c ∷ q.0)) (sym (survivors_first c m q.0)) (lost c m q.0 (survivors (suc c) m q.0) (rest q.0 q.1.1)))
      go (inr v) rest = subst (P c (suc m) es) (sym (survivors_later c m n es v)) (kept c m es (survivors (suc c) m es) (rest es v))

-- as many as are not lost
pub survivors_length_from : (c m : ℕ) (es : List ℕ) → Ascending c (c + m) es → length (survivors c m es) + length es ≡ m
survivors_length_from c m es w =
    by_position (c + m) (λ d i ds ss. length ss + length ds ≡ i) (λ d. refl) (λ d i ds ss h. omega arith) (λ d i ds ss h. omega arith) c m es refl w

-- ---- the survivors of any list

-- they ascend
survivors_ascending_from : (c m n : ℕ) (es : List ℕ) → c + m ≡ n → Ascending c n (survivors c m es)
unfolding survivors Ascending
survivors_ascending_from c zero n es e = tt
survivors_ascending_from c (suc m) n es e = go (among c es) (survivors_ascending_from (suc c) m n es (omega arith))
  where
    go : (b : Bool) → Ascending (suc c) n (survivors (suc c) m es) → Ascending c n (cond b (survivors (suc c) m es) (c ∷ survivors (suc c) m es))
    go true rest = ascending_from c (suc c) n (survivors (suc c) m es) (omega arith) rest
    go false rest = (omega arith, omega arith, rest)

pub survivors_ascending : (n : ℕ) (es : List ℕ) → Ascending 0 n (survivors 0 n es)
survivors_ascending n es = survivors_ascending_from 0 n n es (omega arith)

-- each is a position
pub survivor_below : (n : ℕ) (es : List ℕ) (v : ℕ) → v < length (survivors 0 n es) → get_or (survivors 0 n es) v 0 < n
survivor_below n es v l = (ascending_at v 0 n (survivors 0 n es) (survivors_ascending n es) l).1

-- and none is lost
pub survivor_not_lost : (c m : ℕ) (es : List ℕ) (v : ℕ) → v < length (survivors c m es) → among (get_or (survivors c m es) v 0) es ≡ false
unfolding survivors
survivor_not_lost c zero es v l = absurd (not-suc-le-zero l)
survivor_not_lost c (suc m) es v l = go (among c es) refl v l (survivor_not_lost (suc c) m es)
  where
    go : (b : Bool) → among c es ≡ b → (u : ℕ) → u < length (cond b (survivors (suc c) m es) (c ∷ survivors (suc c) m es))
        → ((t : ℕ) → t < length (survivors (suc c) m es) → among (get_or (survivors (suc c) m es) t 0) es ≡ false)
        → among (get_or (cond b (survivors (suc c) m es) (c ∷ survivors (suc c) m es)) u 0) es ≡ false
    go true q u k rest = rest u k
    go false q zero k rest = q
    go false q (suc u) k rest = rest u (le_of_suc-le-suc k)

-- ---- parts of ascending lists, and distinct positions of two lists

ascending-take : (i a n : ℕ) (es : List ℕ) → Ascending a n es → Ascending a n (take i es)
unfolding Ascending
ascending-take zero a n es w = tt
ascending-take (suc i) a n [] w = tt
ascending-take (suc i) a n (e ∷ es) w = (w.0, w.1, ascending-take i (suc e) n es w.2)

ascending-drop : (i a n : ℕ) (es : List ℕ) → Ascending a n es → Ascending a n (drop i es)
unfolding Ascending
ascending-drop zero a n es w = w
ascending-drop (suc i) a n [] w = tt
ascending-drop (suc i) a n (e ∷ es) w = ascending_from a (suc e) n (drop i es) (omega (arith, w.0)) (ascending-drop i (suc e) n es w.2)

kept_append : (c : ℕ) (is js : List ℕ) → Kept c is → Kept c js → Kept c (is ++ js)
kept_append c [] js h g v l e = g v l e
kept_append c (i ∷ is) js h g zero l e = h 0 (suc-le-suc zero-le) e
kept_append c (i ∷ is) js h g (suc v) l e = kept_append c is js (λ u m. h (suc u) (suc-le-suc m)) g v (le_of_suc-le-suc l) e

positions-append : (n : ℕ) (is js : List ℕ) → Positions n is → Positions n js → ((v : ℕ) → v < length is → Kept (get_or is v 0) js) → Positions n (is ++ js)
unfolding Positions
positions-append n [] js w z h = z
positions-append n (i ∷ is) js w z h =
    (w.0, kept_append i is js w.1 (h 0 (suc-le-suc zero-le)), positions-append n is js w.2 z (λ v l. h (suc v) (suc-le-suc l)))

-- ---- sources, spares and computed positions

sources_ascending : (k r : ℕ) (es : List ℕ) → Ascending 0 (k + r) (sources k r es)
unfolding sources
sources_ascending k r es = ascending-take k 0 (k + r) (survivors 0 (k + r) es) (survivors_ascending (k + r) es)

spares_ascending : (k r : ℕ) (es : List ℕ) → Ascending 0 (k + r) (spares k r es)
unfolding spares
spares_ascending k r es = ascending-drop k 0 (k + r) (survivors 0 (k + r) es) (survivors_ascending (k + r) es)

-- the sources are distinct positions
pub sources_positions : (k r : ℕ) (es : List ℕ) → Positions (k + r) (sources k r es)
sources_positions k r es = ascending_positions 0 (k + r) (sources k r es) (sources_ascending k r es)

-- no source and no spare is lost
pub source_not_lost : (k r : ℕ) (es : List ℕ) (v : ℕ) → v < length (sources k r es) → among (get_or (sources k r es) v 0) es ≡ false
unfolding sources
source_not_lost k r es v l =
    ap (λ (x : ℕ). among x es) (sym (get_or-append (take k ss) (drop k ss) 0 v l) ∙ ap (λ (ts : List ℕ). get_or ts v 0) (take-append-drop k ss))
    ∙ survivor_not_lost 0 (k + r) es v (omega (arith, ap length (take-append-drop k ss), length-append (take k ss) (drop k ss)))
  where
    ss : List ℕ
    ss = survivors 0 (k + r) es

pub spare_not_lost : (k r : ℕ) (es : List ℕ) (v : ℕ) → v < length (spares k r es) → among (get_or (spares k r es) v 0) es ≡ false
unfolding spares
spare_not_lost k r es v l =
    ap (λ (x : ℕ). among x es) (get_or-drop k (survivors 0 (k + r) es) v 0)
    ∙ survivor_not_lost 0 (k + r) es (k + v) (omega (arith, length-drop k (survivors 0 (k + r) es)))

-- the computed positions are the lost ones first, then the spares
pub computed_lost : (k r : ℕ) (es : List ℕ) (v : ℕ) → v < length es → get_or (computed k r es) v 0 ≡ get_or es v 0
unfolding computed
computed_lost k r es v l = get_or-append es (spares k r es) 0 v l

pub computed_spare : (k r : ℕ) (es : List ℕ) (v : ℕ) → length es ≤ v → get_or (computed k r es) v 0 ≡ get_or (spares k r es) (v - length es) 0
unfolding computed
computed_spare k r es v l = ap (λ (n : ℕ). get_or (es ++ spares k r es) n 0) split ∙ get_or-append-add es (spares k r es) (v - length es) 0
  where
    split : v ≡ length es + (v - length es)
    split = omega arith

module _ (k r : ℕ) (es : List ℕ) (asc : Ascending 0 (k + r) es) where
  pub survivors-length : length (survivors 0 (k + r) es) + length es ≡ k + r
  survivors-length = survivors_length_from 0 (k + r) es (subst (λ (n : ℕ). Ascending 0 n es) (sym (ℕ-zero-add (k + r))) asc)

  -- the computed positions are distinct
  pub computed_positions : Positions (k + r) (computed k r es)
  unfolding computed
  computed_positions =
      positions-append (k + r) es (spares k r es) (ascending_positions 0 (k + r) es asc)
      (ascending_positions 0 (k + r) (spares k r es) (spares_ascending k r es))
      (λ v l u m e. among_kept (get_or (spares k r es) u 0) es (spare_not_lost k r es u m) v l (sym e))

  module _ (few : length es ≤ r) where
    pub sources-length : length (sources k r es) ≡ k
    unfolding sources
    sources-length = length-take-le k (survivors 0 (k + r) es) (omega (arith, survivors-length))

    pub spares-length : length (spares k r es) + length es ≡ r
    unfolding spares
    spares-length = ap (λ (n : ℕ). n + length es) (length-drop k (survivors 0 (k + r) es)) ∙ omega (arith, survivors-length)

    pub computed-length : length (computed k r es) ≡ r
    unfolding computed
    computed-length = length-append es (spares k r es) ∙ omega (arith, spares-length)

    -- each is a position
    pub computed_below : (v : ℕ) → v < r → get_or (computed k r es) v 0 < k + r
    computed_below v l = positions_below (k + r) (computed k r es) computed_positions v (subst (λ (n : ℕ). v < n) (sym computed-length) l)

    -- after the lost ones none is lost
    pub computed_not_lost : (v : ℕ) → length es ≤ v → v < r → among (get_or (computed k r es) v 0) es ≡ false
    computed_not_lost v m l = ap (λ (x : ℕ). among x es) (computed_spare k r es v m) ∙ spare_not_lost k r es (v - length es) (omega (arith, spares-length))

-- ---- nothing lost: the sources are the data, the spares are the parity

survivors_none : (c m : ℕ) (f : ℕ → ℕ) → ((i : ℕ) → f i ≡ c + i) → survivors c m [] ≡ tabulate m f
unfolding survivors among tabulate
survivors_none c zero f h = refl
survivors_none c (suc m) f h =
    ap₂ (λ (x : ℕ) (xs : List ℕ). x ∷ xs) (omega (arith, h 0)) (survivors_none (suc c) m (λ i. f (suc i)) (λ i. h (suc i) ∙ omega arith))

all_survive : (n : ℕ) → survivors 0 n [] ≡ tabulate n (λ i. i)
all_survive n = survivors_none 0 n (λ i. i) (λ i. omega arith)

pub sources_none : (k r : ℕ) → sources k r [] ≡ tabulate k (λ i. i)
unfolding sources
sources_none k r = ap (take k) (all_survive (k + r)) ∙ ext_get_or 0 _ _ (long ∙ sym (tabulate-length k (λ i. i))) at
  where
    long : length (take k (tabulate (k + r) (λ i. i))) ≡ k
    long = length-take-le k (tabulate (k + r) (λ i. i)) (omega (arith, tabulate-length (k + r) (λ i. i)))

    at : (v : ℕ) → v < length (take k (tabulate (k + r) (λ i. i))) → get_or (take k (tabulate (k + r) (λ i. i))) v 0 ≡ get_or (tabulate k (λ i. i)) v 0
    at v l =
        get_or-take k (tabulate (k + r) (λ i. i)) v 0 (omega (arith, long)) ∙ tabulate_at (k + r) (λ i. i) v (omega (arith, long))
        ∙ sym (tabulate_at k (λ i. i) v (omega (arith, long)))

pub spares_none : (k r : ℕ) → spares k r [] ≡ tabulate r (λ j. k + j)
unfolding spares
spares_none k r = ap (drop k) (all_survive (k + r)) ∙ ext_get_or 0 _ _ (long ∙ sym (tabulate-length r (λ j. k + j))) at
  where
    long : length (drop k (tabulate (k + r) (λ i. i))) ≡ r
    long = length-drop k (tabulate (k + r) (λ i. i)) ∙ omega (arith, tabulate-length (k + r) (λ i. i))

    at : (v : ℕ) → v < length (drop k (tabulate (k + r) (λ i. i))) → get_or (drop k (tabulate (k + r) (λ i. i))) v 0 ≡ get_or (tabulate r (λ j. k + j)) v 0
    at v l =
        get_or-drop k (tabulate (k + r) (λ i. i)) v 0 ∙ tabulate_at (k + r) (λ i. i) (k + v) (omega (arith, long))
        ∙ sym (tabulate_at r (λ j. k + j) v (omega (arith, long)))

pub computed_none : (k r : ℕ) → computed k r [] ≡ tabulate r (λ j. k + j)
unfolding computed
computed_none k r = spares_none k r

-- the entries at the positions that a function gives
entries_tabulate : (bs : List ℕ) (n : ℕ) (f : ℕ → ℕ) (cs : List ℕ) → length cs ≡ n → ((v : ℕ) → v < n → get_or bs (f v) 0 ≡ get_or cs v 0)
    → entries bs (tabulate n f) ≡ cs
entries_tabulate bs n f cs e h = ext_get_or 0 _ cs (long ∙ sym e) (λ v l. at v (subst (λ (m : ℕ). v < m) long l))
  where
    long : length (entries bs (tabulate n f)) ≡ n
    long = entries-length bs (tabulate n f) ∙ tabulate-length n f

    at : (v : ℕ) → v < n → get_or (entries bs (tabulate n f)) v 0 ≡ get_or cs v 0
    at v l =
        entries_at bs (tabulate n f) v (subst (λ (m : ℕ). v < m) (sym (tabulate-length n f)) l)
        ∙ ap (λ (c : ℕ). get_or bs c 0) (tabulate_at n f v l) ∙ h v l

-- so their points are those of the data and of the parity
pub entries_sources : (k r : ℕ) → entries (points k r) (tabulate k (λ i. i)) ≡ data_points k
unfolding points
entries_sources k r =
    entries_tabulate (data_points k ++ parity_points r) k (λ i. i) (data_points k) (data_points-length k)
    (λ v l. get_or-append (data_points k) (parity_points r) 0 v (subst (λ (n : ℕ). v < n) (sym (data_points-length k)) l))

pub entries_spares : (k r : ℕ) → entries (points k r) (tabulate r (λ j. k + j)) ≡ parity_points r
unfolding points
entries_spares k r =
    entries_tabulate (data_points k ++ parity_points r) r (λ j. k + j) (parity_points r) (parity_points-length r)
    (λ v l.
    ap (λ (n : ℕ). get_or (data_points k ++ parity_points r) (n + v) 0) (sym (data_points-length k)) ∙ get_or-append-add (data_points k) (parity_points r) v 0)

-- ---- sums over some positions

lost_step : (t x y z : ℕ) → x ⊕ y ≡ z → x ⊕ (t ⊕ y) ≡ t ⊕ z
lost_step t x y z e = add_left_comm x t y ∙ ap (λ (a : ℕ). t ⊕ a) e

kept_step : (t x y z : ℕ) → x ⊕ y ≡ z → t ⊕ x ⊕ y ≡ t ⊕ z
kept_step t x y z e = add_assoc t x y ∙ ap (λ (a : ℕ). t ⊕ a) e

module _ (bs xs : List ℕ) (s : ℕ) where
  -- what position c counts in sum s
  abbrev term : ℕ → ℕ
  term c = power (get_or bs c 0) s ⊗ get_or xs c 0

  -- sum s over these positions only
  abbrev sum_on : List ℕ → ℕ
  sum_on is = sum_at (entries bs is) (entries xs is) s

  sum_on_nil : sum_on [] ≡ 0
  unfolding sum_at entries
  sum_on_nil = refl

  sum_on_cons : (i : ℕ) (is : List ℕ) → sum_on (i ∷ is) ≡ term i ⊕ sum_on is
  unfolding sum_at entries
  sum_on_cons i is = refl

  sum_on_append : (is js : List ℕ) → sum_on (is ++ js) ≡ sum_on is ⊕ sum_on js
  sum_on_append [] js = sym (ap (λ (x : ℕ). x ⊕ sum_on js) sum_on_nil ∙ zero-add _)
  sum_on_append (i ∷ is) js =
      sum_on_cons i (is ++ js) ∙ ap (λ (x : ℕ). term i ⊕ x) (sum_on_append is js)
      ∙ sym (add_assoc _ _ _) ∙ ap (λ (x : ℕ). x ⊕ sum_on js) (sym (sum_on_cons i is))

  sum_none : (c : ℕ) → sum_on [] ⊕ sum_on [] ≡ sum_on (survivors c 0 [])
  unfolding survivors
  sum_none c = ap (λ (x : ℕ). x ⊕ sum_on []) sum_on_nil ∙ zero-add _

  sum_more : (c m : ℕ) → sum_on (survivors c (suc m) []) ≡ term c ⊕ sum_on (survivors (suc c) m [])
  unfolding Ascending
  sum_more c m = ap sum_on (survivors_later c m 0 [] tt) ∙ sum_on_cons c (survivors (suc c) m [])

  -- the survivors and the lost positions together are all positions
  survivors_sum : (n : ℕ) (es : List ℕ) → Ascending 0 n es → sum_on (survivors 0 n es) ⊕ sum_on es ≡ sum_on (survivors 0 n [])
  survivors_sum n es w =
      by_position n (λ c m ds ss. sum_on ss ⊕ sum_on ds ≡ sum_on (survivors c m [])) sum_none
      (λ c m ds ss h. ap (λ (x : ℕ). sum_on ss ⊕ x) (sum_on_cons c ds) ∙ lost_step (term c) (sum_on ss) (sum_on ds) _ h ∙ sym (sum_more c m))
      (λ c m ds ss h. ap (λ (x : ℕ). x ⊕ sum_on ds) (sum_on_cons c ss) ∙ kept_step (term c) (sum_on ss) (sum_on ds) _ h ∙ sym (sum_more c m))
      0 n es (omega arith) w

entries_all : (n : ℕ) (xs : List ℕ) → length xs ≡ n → entries xs (survivors 0 n []) ≡ xs
entries_all n xs e = ap (entries xs) (all_survive n) ∙ entries_tabulate xs n (λ i. i) xs e (λ v l. refl)

sum_on_all : (bs xs : List ℕ) (s n : ℕ) → length bs ≡ n → length xs ≡ n → sum_on bs xs s (survivors 0 n []) ≡ sum_at bs xs s
sum_on_all bs xs s n e f = ap₂ (λ (cs ys : List ℕ). sum_at cs ys s) (entries_all n bs e) (entries_all n xs f)

regroup : (a b c : ℕ) → a ⊕ b ⊕ c ≡ c ⊕ b ⊕ a
regroup a b c = simp sums

-- the sum over all positions is that over the computed ones plus that over the sources
computed_sum : (k r : ℕ) (es : List ℕ) → Ascending 0 (k + r) es → (bs xs : List ℕ) (s : ℕ) → length bs ≡ k + r → length xs ≡ k + r
    → sum_at bs xs s ≡ sum_on bs xs s (computed k r es) ⊕ sum_on bs xs s (sources k r es)
unfolding computed sources spares
computed_sum k r es asc bs xs s e f =
    sym (sum_on_all bs xs s (k + r) e f)
    ∙ sym (survivors_sum bs xs s (k + r) es asc)
    ∙ ap (λ (x : ℕ). x ⊕ sum_on bs xs s es)
    (ap (sum_on bs xs s) (sym (take-append-drop k ss)) ∙ sum_on_append bs xs s (take k ss) (drop k ss))
    ∙ regroup (sum_on bs xs s (take k ss)) (sum_on bs xs s (drop k ss)) (sum_on bs xs s es)
    ∙ ap (λ (x : ℕ). x ⊕ sum_on bs xs s (take k ss)) (sym (sum_on_append bs xs s es (drop k ss)))
  where
    ss : List ℕ
    ss = survivors 0 (k + r) es

-- ---- computed bytes

dot-lt : (cs xs : List ℕ) → dot cs xs < 256
unfolding dot
dot-lt [] xs = lit< tt
dot-lt (c ∷ cs) [] = lit< tt
dot-lt (c ∷ cs) (x ∷ xs) = add-lt 8 _ _ (mul-lt c x) (dot-lt cs xs)

pub computed_byte-lt : (k r l : ℕ) (es xs : List ℕ) (v p : ℕ) → computed_byte k r l es xs v p < 256
unfolding computed_byte
computed_byte-lt k r l es xs v p = dot-lt _ _

entries-map : (f : ℕ → ℕ) (xs is : List ℕ) → ((v : ℕ) → v < length is → get_or xs (get_or is v 0) 0 ≡ f (get_or is v 0)) → entries xs is ≡ map f is
unfolding entries
entries-map f xs [] h = refl
entries-map f xs (i ∷ is) h =
    ap₂ (λ (x : ℕ) (ys : List ℕ). x ∷ ys) (h 0 (suc-le-suc zero-le)) (entries-map f xs is (λ v l. h (suc v) (suc-le-suc l)))

module _ (k r l : ℕ) (fits : k + r ≤ 255) (es : List ℕ) (asc : Ascending 0 (k + r) es) (few : length es ≤ r) where
  -- the points of the computed positions and of the sources
  abbrev computed_points : List ℕ
  computed_points = entries (points k r) (computed k r es)

  abbrev source_points : List ℕ
  source_points = entries (points k r) (sources k r es)

  source_points_bytes : Bytes source_points
  source_points_bytes = entries_bytes (points k r) (sources k r es) (points_bytes k r)

  computed_points_bytes : Bytes computed_points
  computed_points_bytes = entries_bytes (points k r) (computed k r es) (points_bytes k r)

  computed_points_apart : Apart computed_points
  computed_points_apart =
      entries_apart (points k r) (computed k r es) (points_apart k r fits)
      (subst (λ (n : ℕ). Positions n (computed k r es)) (sym (points-length k r)) (computed_positions k r es asc))

  computed_points_length : length computed_points ≡ r
  computed_points_length = entries-length (points k r) (computed k r es) ∙ computed-length k r es asc few

  -- the word at place p
  abbrev word : List ℕ → ℕ → List ℕ
  word xs p = across xs l p 0 (k + r)

  -- its bytes at the computed positions
  word_computed : (ys : List ℕ) (v p : ℕ) → v < r → get_or (entries (word ys p) (computed k r es)) v 0 ≡ get_or ys (get_or (computed k r es) v 0 * l + p) 0
  word_computed ys v p h =
      entries_at (word ys p) (computed k r es) v (subst (λ (n : ℕ). v < n) (sym (computed-length k r es asc few)) h)
      ∙ across_first ys l p (k + r) (get_or (computed k r es) v 0) (computed_below k r es asc few v h)

  -- the bytes of xs at the sources
  abbrev source_bytes : List ℕ → ℕ → List ℕ
  source_bytes xs p = map (λ c. get_or xs (c * l + p) 0) (sources k r es)

  -- the word's bytes there, where the survivors hold those of xs
  word_sources : (xs ys : List ℕ) → Agree (k + r) l es xs ys → (p : ℕ) → p < l → entries (word ys p) (sources k r es) ≡ source_bytes xs p
  word_sources xs ys agree p hp =
      entries-map (λ c. get_or xs (c * l + p) 0) (word ys p) (sources k r es)
      (λ v m.
      let below : get_or (sources k r es) v 0 < k + r = positions_below (k + r) (sources k r es) (sources_positions k r es) v m in
      across_first ys l p (k + r) (get_or (sources k r es) v 0) below
      ∙ sym (agree (get_or (sources k r es) v 0) p below hp (source_not_lost k r es v m)))

  -- a sum at a place is that over the computed positions plus that over the sources
  word_sum : (xs ys : List ℕ) → Agree (k + r) l es xs ys → (p s : ℕ) → p < l
      → sum_of k r l ys p s ≡ sum_at computed_points (entries (word ys p) (computed k r es)) s ⊕ sum_at source_points (source_bytes xs p) s
  unfolding sum_of
  word_sum xs ys agree p s hp =
      computed_sum k r es asc (points k r) (word ys p) s (points-length k r) (across-length ys l p 0 (k + r))
      ∙ ap (λ (zs : List ℕ). sum_at computed_points (entries (word ys p) (computed k r es)) s ⊕ sum_at source_points zs s) (word_sources xs ys agree p hp)

  -- a codeword that agrees with the survivors holds the computed bytes
  pub computed_only : (xs ys : List ℕ) → Codeword k r l ys → Agree (k + r) l es xs ys → (v p : ℕ) → v < r → p < l
      → get_or ys (get_or (computed k r es) v 0 * l + p) 0 ≡ computed_byte k r l es xs v p
  unfolding computed_byte
  computed_only xs ys w agree v p hv hp =
      sym (word_computed ys v p hv)
      ∙ same_sums_weights computed_points (entries (word ys p) (computed k r es)) source_points (source_bytes xs p) computed_points_bytes computed_points_apart
      (entries_bytes (word ys p) (computed k r es) (across_bytes ys l p 0 (k + r) w.bytes))
      (λ s hs. sum_zero _ _ (sym (word_sum xs ys agree p s hp) ∙ w.zero_sums p s hp (subst (λ (n : ℕ). s < n) computed_points_length hs)))
      v (subst (λ (n : ℕ). v < n) (sym computed_points_length) hv)

  -- where the spares hold the computed bytes, the stripe with the computed bytes in its lost columns is a codeword
  pub computed_codeword : (xs zs : List ℕ) → Bytes zs → length zs ≡ (k + r) * l
      → ((v p : ℕ) → length es ≤ v → v < r → p < l → get_or xs (get_or (computed k r es) v 0 * l + p) 0 ≡ computed_byte k r l es xs v p)
      → ((v p : ℕ) → v < length es → p < l → get_or zs (get_or es v 0 * l + p) 0 ≡ computed_byte k r l es xs v p)
      → Agree (k + r) l es xs zs → Codeword k r l zs
  unfolding computed_byte
  computed_codeword xs zs b long spare lost agree = record { bytes = b; long = long; zero_sums = zeros }
    where
      -- it holds the computed bytes at every computed position
      held : (v p : ℕ) → v < r → p < l → get_or zs (get_or (computed k r es) v 0 * l + p) 0 ≡ computed_byte k r l es xs v p
      held v p hv hp = go (below_or_from v (length es))
        where
          go : (v < length es) ⊎ (length es ≤ v) → get_or zs (get_or (computed k r es) v 0 * l + p) 0 ≡ computed_byte k r l es xs v p
          go (inl m) = ap (λ (c : ℕ). get_or zs (c * l + p) 0) (computed_lost k r es v m) ∙ lost v p m hp
          go (inr m) =
              sym (agree (get_or (computed k r es) v 0) p (computed_below k r es asc few v hv) hp (computed_not_lost k r es asc few v m hv))
              ∙ spare v p m hv hp

      -- so at a place they are the solution of the sums over the sources
      solution : (p : ℕ) → p < l → entries (word zs p) (computed k r es) ≡ solve_at computed_points (sum_at source_points (source_bytes xs p))
      solution p hp =
          ext_get_or 0 _ _ (size ∙ sym (solve_at-length computed_points _ ∙ computed_points_length))
          (λ v m.
          let hv : v < r = subst (λ (n : ℕ). v < n) size m in
          word_computed zs v p hv ∙ held v p hv hp
          ∙ sym
          (solution_weights computed_points source_points (source_bytes xs p) computed_points_bytes computed_points_apart source_points_bytes v
          (subst (λ (n : ℕ). v < n) (sym computed_points_length) hv)))
        where
          size : length (entries (word zs p) (computed k r es)) ≡ r
          size = entries-length (word zs p) (computed k r es) ∙ computed-length k r es asc few

      zeros : (p s : ℕ) → p < l → s < r → sum_of k r l zs p s ≡ 0
      zeros p s hp hs =
          word_sum xs zs agree p s hp
          ∙ ap (λ (x : ℕ). x ⊕ sum_at source_points (source_bytes xs p) s)
          (ap (λ (ys : List ℕ). sum_at computed_points ys s) (solution p hp)
          ∙ solved_at computed_points (sum_at source_points (source_bytes xs p)) computed_points_bytes computed_points_apart
          (sum_lt source_points (source_bytes xs p)) s (subst (λ (n : ℕ). s < n) (sym computed_points_length) hs))
          ∙ add_self _
