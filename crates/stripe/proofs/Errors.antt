-- One byte place: k data bytes, of which those at known positions may be wrong, and the values that rows a, a + d, .. are to have. The
-- errors add up in these rows as moments whose points are g^(d i), i the position, so `solve` gives the errors from as many rows
-- as there are positions, and the word so mended is the only one with these rows.
use mathlib.Core.Path.{◌≡◌, refl, sym, ap, ap₂, ◌∙◌, subst}
use mathlib.Core.Bool.{Bool, true, false, cond, ◌||◌, true≢false}
use mathlib.Core.List.{List, [], ◌∷◌}
use Prim.Native.Nat.{ℕ, zero, suc, ◌+◌, ◌*◌, ◌<◌, ◌≤◌}
use native.Mathlib.Nat.{le_of_suc-le-suc, not-suc-le-zero, suc_inj, suc-ne-zero, one-mul as ℕ-one-mul}
use native.Mathlib.Omega.{arith}
use lib.Dec.{eqb, lit<}
use lib.ListN.{length, get_or, set, length-set}
use lib.Seq.{ext_get_or, get_or-set_same, get_or-set_other}
use borrow.Author.Tests.{eqb-true, eqb-false, eq-eqb, ne_eqb}
use Rattle.field.specs.Field.{◌⊕◌, ◌⊗◌, power, gpow}
use Rattle.field.specs.Bytes.{Bytes}
use Rattle.field.specs.Row.{row}
use Rattle.field.specs.Solve.{moment, solve}
use Rattle.field.proofs.Xor.{add_comm, add_self, add_cancel, add-zero, zero-add, add-lt, sums}
use Rattle.field.proofs.Mul.{gpow-lt, gpow_pos, gpow-add, gpow_inj, power_gpow}
use Rattle.field.proofs.Powers.{square_inj}
use Rattle.field.proofs.Rows.{row-set, row_lt}
use Rattle.field.proofs.Solve.{Away, Apart, Weights, solve-length, solve_bytes, solve_same, solve_moment, solved}
use Rattle.stripe.specs.Shape.{most_data}
use Rattle.stripe.specs.Stripe.{among, Ascending}
use Rattle.stripe.proofs.Lost.{ascending_at, not_among, among-nil, among_other}

-- ---- errors at positions

-- e added to the byte at position i
abbrev pub added : List ℕ → ℕ → ℕ → List ℕ
added ms i e = set ms i (get_or ms i 0 ⊕ e)

-- each error added to the byte at its position
unfoldable pub patched : List ℕ → List ℕ → List ℕ → List ℕ
patched [] es ms = ms
patched (i ∷ is) [] ms = ms
patched (i ∷ is) (e ∷ es) ms = added (patched is es ms) i e

-- what the errors add to row j
unfoldable pub error_row : ℕ → List ℕ → List ℕ → ℕ
error_row j [] es = 0
error_row j (i ∷ is) [] = 0
error_row j (i ∷ is) (e ∷ es) = gpow (i * j) ⊗ e ⊕ error_row j is es

-- what the errors add to the byte at c
unfoldable pub error_at : ℕ → List ℕ → List ℕ → ℕ
error_at c [] es = 0
error_at c (i ∷ is) [] = 0
error_at c (i ∷ is) (e ∷ es) = cond (eqb c i) e 0 ⊕ error_at c is es

-- what two words differ by at the positions
unfoldable pub differences : List ℕ → List ℕ → List ℕ → List ℕ
differences ms ns [] = []
differences ms ns (i ∷ is) = (get_or ms i 0 ⊕ get_or ns i 0) ∷ differences ms ns is

pub patched-length : (is es ms : List ℕ) → length (patched is es ms) ≡ length ms
unfolding patched
patched-length [] es ms = refl
patched-length (i ∷ is) [] ms = refl
patched-length (i ∷ is) (e ∷ es) ms = length-set (patched is es ms) i _ ∙ patched-length is es ms

added_row : (p m e r q : ℕ) → r ⊕ q ⊕ p ⊗ (m ⊕ (m ⊕ e)) ≡ r ⊕ (p ⊗ e ⊕ q)
added_row p m e r q = ap (λ (x : ℕ). r ⊕ q ⊕ p ⊗ x) (add_cancel m e) ∙ simp sums

added_at : (m q e : ℕ) → m ⊕ q ⊕ e ≡ m ⊕ (e ⊕ q)
added_at m q e = simp sums

pub patched_row : (j a k : ℕ) (is es ms : List ℕ) → Ascending a k is → length ms ≡ k → row j (patched is es ms) ≡ row j ms ⊕ error_row j is es
unfolding patched error_row Ascending
patched_row j a k [] es ms w h = sym (add-zero _)
patched_row j a k (i ∷ is) [] ms w h = sym (add-zero _)
patched_row j a k (i ∷ is) (e ∷ es) ms w h =
    row-set j (patched is es ms) i _ (omega (arith, w.1, patched-length is es ms))
    ∙ ap (λ (x : ℕ). x ⊕ gpow (i * j) ⊗ (get_or (patched is es ms) i 0 ⊕ (get_or (patched is es ms) i 0 ⊕ e))) (patched_row j (suc i) k is es ms w.2 h)
    ∙ added_row (gpow (i * j)) (get_or (patched is es ms) i 0) e (row j ms) (error_row j is es)

pub patched_at : (c a k : ℕ) (is es ms : List ℕ) → Ascending a k is → length ms ≡ k → get_or (patched is es ms) c 0 ≡ get_or ms c 0 ⊕ error_at c is es
unfolding patched error_at Ascending
patched_at c a k [] es ms w h = sym (add-zero _)
patched_at c a k (i ∷ is) [] ms w h = sym (add-zero _)
patched_at c a k (i ∷ is) (e ∷ es) ms w h = go (eqb c i) refl (patched_at c (suc i) k is es ms w.2 h)
  where
    go : (b : Bool) → eqb c i ≡ b → get_or (patched is es ms) c 0 ≡ get_or ms c 0 ⊕ error_at c is es
        → get_or (added (patched is es ms) i e) c 0 ≡ get_or ms c 0 ⊕ (cond b e 0 ⊕ error_at c is es)
    go true q rest =
        ap (λ (x : ℕ). get_or (added (patched is es ms) i e) x 0) (eqb-true c i q)
        ∙ get_or-set_same (patched is es ms) i _ 0 (omega (arith, w.1, patched-length is es ms))
        ∙ ap (λ (x : ℕ). x ⊕ e) (ap (λ (x : ℕ). get_or (patched is es ms) x 0) (sym (eqb-true c i q)) ∙ rest)
        ∙ added_at (get_or ms c 0) (error_at c is es) e
    go false q rest =
        get_or-set_other (patched is es ms) i c _ 0 (eqb-false c i q) ∙ rest
        ∙ ap (λ (x : ℕ). get_or ms c 0 ⊕ x) (sym (zero-add (error_at c is es)))

-- nothing at any other position
pub error_none : (c : ℕ) (is es : List ℕ) → among c is ≡ false → error_at c is es ≡ 0
unfolding error_at among
error_none c [] es h = refl
error_none c (i ∷ is) [] h = refl
error_none c (i ∷ is) (e ∷ es) h = go (eqb c i) h (error_none c is es)
  where
    go : (b : Bool) → (b || among c is) ≡ false → (among c is ≡ false → error_at c is es ≡ 0) → cond b e 0 ⊕ error_at c is es ≡ 0
    go true m rest = absurd (true≢false m)
    go false m rest = zero-add _ ∙ rest m

-- and each at its own
pub error_own : (v a k : ℕ) (is es : List ℕ) → Ascending a k is → length es ≡ length is → v < length is → error_at (get_or is v 0) is es ≡ get_or es v 0
unfolding error_at Ascending
error_own v a k [] es w e l = absurd (not-suc-le-zero l)
error_own v a k (i ∷ is) [] w e l = absurd (suc-ne-zero (length is) (sym e))
error_own zero a k (i ∷ is) (x ∷ es) w e l =
    ap₂ (λ (b : Bool) (y : ℕ). cond b x 0 ⊕ y) (eq-eqb i i refl) (error_none i is es (not_among i (suc i) k is w.2 (omega arith))) ∙ add-zero x
error_own (suc v) a k (i ∷ is) (x ∷ es) w e l =
    ap₂ (λ (b : Bool) (y : ℕ). cond b x 0 ⊕ y) (ne_eqb (get_or is v 0) i (λ q. omega (arith, (ascending_at v (suc i) k is w.2 (le_of_suc-le-suc l)).0)))
    (error_own v (suc i) k is es w.2 (suc_inj e) (le_of_suc-le-suc l))
    ∙ zero-add _

error_lt : (c : ℕ) (is es : List ℕ) → Bytes es → error_at c is es < 256
unfolding error_at
error_lt c [] es h = lit< tt
error_lt c (i ∷ is) [] h = lit< tt
error_lt c (i ∷ is) (e ∷ es) h = add-lt 8 _ _ (go (eqb c i)) (error_lt c is es (λ v. h (suc v)))
  where
    go : (b : Bool) → cond b e 0 < 256
    go true = h 0
    go false = lit< tt

pub patched_bytes : (a k : ℕ) (is es ms : List ℕ) → Ascending a k is → length ms ≡ k → Bytes ms → Bytes es → Bytes (patched is es ms)
patched_bytes a k is es ms w h hm he c =
    subst (λ (x : ℕ). x < 256) (sym (patched_at c a k is es ms w h)) (add-lt 8 _ _ (hm c) (error_lt c is es he))

pub differences_length : (ms ns is : List ℕ) → length (differences ms ns is) ≡ length is
unfolding differences
differences_length ms ns [] = refl
differences_length ms ns (i ∷ is) = ap suc (differences_length ms ns is)

pub differences_bytes : (ms ns is : List ℕ) → Bytes ms → Bytes ns → Bytes (differences ms ns is)
unfolding differences
differences_bytes ms ns [] hm hn v = lit< tt
differences_bytes ms ns (i ∷ is) hm hn zero = add-lt 8 _ _ (hm i) (hn i)
differences_bytes ms ns (i ∷ is) hm hn (suc v) = differences_bytes ms ns is hm hn v

-- two words that agree elsewhere: one is the other with the differences added
error_differences : (c a k : ℕ) (ms ns is : List ℕ) → Ascending a k is → (among c is ≡ false → get_or ms c 0 ≡ get_or ns c 0)
    → error_at c is (differences ms ns is) ≡ get_or ms c 0 ⊕ get_or ns c 0
unfolding error_at differences Ascending
error_differences c a k ms ns [] w h = sym (ap (λ (x : ℕ). x ⊕ get_or ns c 0) (h (among-nil c)) ∙ add_self _)
error_differences c a k ms ns (i ∷ is) w h = go (eqb c i) refl (error_differences c (suc i) k ms ns is w.2)
  where
    go : (b : Bool) → eqb c i ≡ b
        → ((among c is ≡ false → get_or ms c 0 ≡ get_or ns c 0) → error_at c is (differences ms ns is) ≡ get_or ms c 0 ⊕ get_or ns c 0)
        → cond b (get_or ms i 0 ⊕ get_or ns i 0) 0 ⊕ error_at c is (differences ms ns is) ≡ get_or ms c 0 ⊕ get_or ns c 0
    go true q rest =
        ap₂ ◌⊕◌ (ap (λ (x : ℕ). get_or ms x 0 ⊕ get_or ns x 0) (sym (eqb-true c i q)))
        (error_none c is (differences ms ns is) (not_among c (suc i) k is w.2 (omega (arith, eqb-true c i q))))
        ∙ add-zero _
    go false q rest = zero-add _ ∙ rest (λ m. h (among_other c i is (eqb-false c i q) ∙ m))

pub patched_differences : (a k : ℕ) (ms ns is : List ℕ) → Ascending a k is → length ms ≡ k → length ns ≡ k
    → ((c : ℕ) → c < k → among c is ≡ false → get_or ms c 0 ≡ get_or ns c 0) → patched is (differences ms ns is) ms ≡ ns
patched_differences a k ms ns is w hm hn h =
    ext_get_or 0 _ ns (long ∙ sym hn)
    (λ c l.
    patched_at c a k is (differences ms ns is) ms w hm
    ∙ ap (λ (x : ℕ). get_or ms c 0 ⊕ x) (error_differences c a k ms ns is w (h c (subst (λ (x : ℕ). c < x) long l)))
    ∙ add_cancel (get_or ms c 0) (get_or ns c 0))
  where
    long : length (patched is (differences ms ns is) ms) ≡ k
    long = patched-length is (differences ms ns is) ms ∙ hm

-- ---- errors as moments

-- g^(d i) for each position i
unfoldable pub points : ℕ → List ℕ → List ℕ
points d [] = []
points d (i ∷ is) = gpow (d * i) ∷ points d is

pub points-length : (d : ℕ) (is : List ℕ) → length (points d is) ≡ length is
unfolding points
points-length d [] = refl
points-length d (i ∷ is) = ap suc (points-length d is)

pub points_bytes : (d : ℕ) (is : List ℕ) → Bytes (points d is)
unfolding points
points_bytes d [] v = lit< tt
points_bytes d (i ∷ is) zero = gpow-lt (d * i)
points_bytes d (i ∷ is) (suc v) = points_bytes d is v

pub points_weights : (d : ℕ) (is : List ℕ) → Weights (points d is)
unfolding points
points_weights d [] v l = absurd (not-suc-le-zero l)
points_weights d (i ∷ is) zero l = gpow_pos (d * i)
points_weights d (i ∷ is) (suc v) l = points_weights d is v (le_of_suc-le-suc l)

-- distinct positions below the most data columns have distinct points, at distance 1 and, since squares tell, at distance 2
pub point_inj : (d i j : ℕ) → 1 ≤ d → d ≤ 2 → i < most_data → j < most_data → gpow (d * i) ≡ gpow (d * j) → i ≡ j
point_inj zero i j p q hi hj e = omega arith
point_inj (suc zero) i j p q hi hj e = gpow_inj i j hi hj (ap gpow (sym (ℕ-one-mul i)) ∙ e ∙ ap gpow (ℕ-one-mul j))
point_inj (suc (suc zero)) i j p q hi hj e = gpow_inj i j hi hj (square_inj (gpow i) (gpow j) (gpow-lt i) (gpow-lt j) (sym (square i) ∙ e ∙ square j))
  where
    square : (n : ℕ) → gpow (2 * n) ≡ gpow n ⊗ gpow n
    square n = ap gpow (omega arith) ∙ gpow-add n n
point_inj (suc (suc (suc d))) i j p q hi hj e = omega arith

points_away : (d i a k : ℕ) (is : List ℕ) → 1 ≤ d → d ≤ 2 → k ≤ most_data → Ascending a k is → i < a → i < k → Away (gpow (d * i)) (points d is)
unfolding points Ascending
points_away d i a k [] p q hk w l m v h e = not-suc-le-zero h
points_away d i a k (j ∷ is) p q hk w l m zero h e =
    let x : i ≡ j = point_inj d i j p q (omega arith) (omega (arith, w.1)) e in omega (arith, w.0)
points_away d i a k (j ∷ is) p q hk w l m (suc v) h e =
    points_away d i (suc j) k is p q hk w.2 (omega (arith, w.0)) m v (le_of_suc-le-suc h) e

pub points_apart : (d a k : ℕ) (is : List ℕ) → 1 ≤ d → d ≤ 2 → k ≤ most_data → Ascending a k is → Apart (points d is)
unfolding points Ascending Apart
points_apart d a k [] p q hk w = tt
points_apart d a k (i ∷ is) p q hk w =
    (points_away d i (suc i) k is p q hk w.2 (omega arith) w.1, points_apart d (suc i) k is p q hk w.2)

weight_power : (a d i u : ℕ) → gpow (a * i) ⊗ power (gpow (d * i)) u ≡ gpow (i * (a + d * u))
weight_power a d i u =
    ap (λ (x : ℕ). gpow (a * i) ⊗ x) (power_gpow (d * i) u) ∙ sym (gpow-add (a * i) (u * (d * i))) ∙ ap gpow (omega arith)

-- what the errors add to row a + d u
pub error_moment : (a d u : ℕ) (is es : List ℕ) → error_row (a + d * u) is es ≡ moment (points d is) (points a is) es u
unfolding error_row moment points
error_moment a d u [] es = refl
error_moment a d u (i ∷ is) [] = refl
error_moment a d u (i ∷ is) (e ∷ es) = ap₂ (λ (x y : ℕ). x ⊗ e ⊕ y) (sym (weight_power a d i u)) (error_moment a d u is es)

-- ---- the mended word

-- what row j lacks of the value wanted
abbrev pub syndrome : List ℕ → (ℕ → ℕ) → ℕ → ℕ
syndrome ms t j = t j ⊕ row j ms

-- the errors at the positions by which rows a, a + d, .. get the values wanted
unfoldable pub errors : ℕ → ℕ → List ℕ → List ℕ → (ℕ → ℕ) → List ℕ
errors a d is ms t = solve (points d is) (points a is) (λ u. syndrome ms t (a + d * u))

unfoldable pub mended : ℕ → ℕ → List ℕ → List ℕ → (ℕ → ℕ) → List ℕ
mended a d is ms t = patched is (errors a d is ms t) ms

same_length : (a d : ℕ) (is : List ℕ) → length (points d is) ≡ length (points a is)
same_length a d is = points-length d is ∙ sym (points-length a is)

pub errors_length : (a d : ℕ) (is ms : List ℕ) (t : ℕ → ℕ) → length (errors a d is ms t) ≡ length is
unfolding errors
errors_length a d is ms t = solve-length (points d is) (points a is) _ (same_length a d is) ∙ points-length d is

pub errors_bytes : (a d : ℕ) (is ms : List ℕ) (t : ℕ → ℕ) → Bytes (errors a d is ms t)
unfolding errors
errors_bytes a d is ms t = solve_bytes (points d is) (points a is) _

pub mended-length : (a d : ℕ) (is ms : List ℕ) (t : ℕ → ℕ) → length (mended a d is ms t) ≡ length ms
unfolding mended
mended-length a d is ms t = patched-length is (errors a d is ms t) ms

-- two words have the same bytes at the positions below k that do not stand in the list
abbrev pub AgreeOff : ℕ → List ℕ → List ℕ → List ℕ → Type 0
AgreeOff k is ms ns = (c : ℕ) → c < k → among c is ≡ false → get_or ms c 0 ≡ get_or ns c 0

pub added_back : (r t e : ℕ) → e ≡ t ⊕ r → r ⊕ e ≡ t
added_back r t e h = ap (λ (x : ℕ). r ⊕ x) h ∙ simp sums

pub taken_off : (r e n : ℕ) → n ≡ r ⊕ e → e ≡ n ⊕ r
taken_off r e n h = sym (add_cancel r e) ∙ ap (λ (x : ℕ). r ⊕ x) (sym h) ∙ add_comm r n

module _ (a d k : ℕ) (is : List ℕ) (d-some : 1 ≤ d) (d-most : d ≤ 2) (k-most : k ≤ most_data) (w : Ascending 0 k is)
    (ms : List ℕ) (h : length ms ≡ k) (t : ℕ → ℕ) where
  pub mended_bytes : Bytes ms → Bytes (mended a d is ms t)
  unfolding mended
  mended_bytes b = patched_bytes 0 k is (errors a d is ms t) ms w h b (errors_bytes a d is ms t)

  pub mended_agrees : AgreeOff k is ms (mended a d is ms t)
  unfolding mended
  mended_agrees c l m =
      sym
      (patched_at c 0 k is (errors a d is ms t) ms w h
      ∙ ap (λ (x : ℕ). get_or ms c 0 ⊕ x) (error_none c is (errors a d is ms t) m)
      ∙ add-zero (get_or ms c 0))

  -- what its rows are
  pub mended_row_any : (j : ℕ) → row j (mended a d is ms t) ≡ row j ms ⊕ error_row j is (errors a d is ms t)
  unfolding mended
  mended_row_any j = patched_row j 0 k is (errors a d is ms t) ms w h

  -- the byte at the position numbered v
  pub mended_own : (v : ℕ) → v < length is → get_or (mended a d is ms t) (get_or is v 0) 0 ≡ get_or ms (get_or is v 0) 0 ⊕ get_or (errors a d is ms t) v 0
  unfolding mended
  mended_own v l =
      patched_at (get_or is v 0) 0 k is (errors a d is ms t) ms w h
      ∙ ap (λ (x : ℕ). get_or ms (get_or is v 0) 0 ⊕ x) (error_own v 0 k is (errors a d is ms t) w (errors_length a d is ms t) l)

  -- the rows solved by have the values wanted
  pub mended_row : ((j : ℕ) → t j < 256) → (u : ℕ) → u < length is → row (a + d * u) (mended a d is ms t) ≡ t (a + d * u)
  unfolding mended errors
  mended_row ht u l =
      patched_row (a + d * u) 0 k is (errors a d is ms t) ms w h
      ∙ added_back (row (a + d * u) ms) (t (a + d * u)) _
      (error_moment a d u is (errors a d is ms t)
      ∙ solved (points d is) (points a is) (λ v. syndrome ms t (a + d * v)) (same_length a d is) (points_bytes d is) (points_bytes a is)
      (points_apart d 0 k is d-some d-most k-most w) (points_weights a is) (λ v. add-lt 8 _ _ (ht (a + d * v)) (row_lt (a + d * v) ms))
      u (subst (λ (n : ℕ). u < n) (sym (points-length d is)) l))

  -- and no other word that differs at the positions only has them
  pub only_mended : (ns : List ℕ) → length ns ≡ k → Bytes ms → Bytes ns → AgreeOff k is ms ns
      → ((u : ℕ) → u < length is → row (a + d * u) ns ≡ t (a + d * u)) → ns ≡ mended a d is ms t
  unfolding mended errors
  only_mended ns hn bm bn ag rows =
      sym (patched_differences 0 k ms ns is w h hn ag) ∙ ap (λ (es : List ℕ). patched is es ms) (sym back ∙ told)
    where
      back : solve (points d is) (points a is) (moment (points d is) (points a is) (differences ms ns is)) ≡ differences ms ns is
      back =
          solve_moment (points d is) (points a is) (differences ms ns is) (same_length a d is)
          (points-length d is ∙ sym (differences_length ms ns is)) (points_bytes d is) (points_bytes a is) (differences_bytes ms ns is bm bn)
          (points_apart d 0 k is d-some d-most k-most w) (points_weights a is)

      sum : (u : ℕ) → u < length is → moment (points d is) (points a is) (differences ms ns is) u ≡ syndrome ms t (a + d * u)
      sum u l =
          sym (error_moment a d u is (differences ms ns is))
          ∙ taken_off (row (a + d * u) ms) _ (t (a + d * u))
          (sym (rows u l) ∙ ap (row (a + d * u)) (sym (patched_differences 0 k ms ns is w h hn ag))
          ∙ patched_row (a + d * u) 0 k is (differences ms ns is) ms w h)

      told : solve (points d is) (points a is) (moment (points d is) (points a is) (differences ms ns is))
          ≡ solve (points d is) (points a is) (λ u. syndrome ms t (a + d * u))
      told = solve_same (points d is) (points a is) _ _ (λ u l. sum u (subst (λ (n : ℕ). u < n) (points-length d is) l))
