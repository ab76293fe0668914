-- Each byte of a solution is a sum of bytes times weights, and the weights are values of Lagrange's polynomials. Where bytes at two lists of points
-- have the same sums below n, then for any product of fewer than n differences, as a polynomial, the sums of its value at the point times the byte
-- are the same too. The product of the differences from all points to solve at but one is 0 at the others, so its sum there has one byte only.
use mathlib.Core.Path.{◌≡◌, refl, sym, ap, ap₂, ◌∙◌, subst}
use mathlib.Core.List.{List, [], ◌∷◌, ◌++◌, map}
use Prim.Native.Nat.{ℕ, zero, suc, ◌+◌, ◌-◌, ◌*◌, ◌/◌, ◌%◌, ◌<◌, ◌≤◌, zero-le, suc-le-suc}
use native.Mathlib.Nat.{suc_inj, suc-ne-zero, le_of_suc-le-suc, not-suc-le-zero, mod-eq_of_lt, div-eq_of_lt, add-div_left, add-mod_left}
use native.Mathlib.Nat.{suc-add, suc-mul, zero-add as ℕ-zero-add, add_comm as ℕ-add-comm, mul-zero as ℕ-mul-zero, mul_comm as ℕ-mul-comm}
use native.Mathlib.Omega.{arith}
use lib.Dec.{lit<}
use lib.ListN.{length, get_or}
use lib.Seq.{ext_get_or}
use Rattle.field.specs.Field.{◌⊕◌, ◌⊗◌, power, gpow, inverse_of}
use Rattle.field.specs.Bytes.{Bytes, tabulate}
use Rattle.field.specs.Row.{row}
use Rattle.field.proofs.Xor.{add-zero, zero-add, add_self, add-lt}
use Rattle.field.proofs.Mul.{mul-lt, mul-zero, zero-mul, mul-one, one-mul, mul-add, mul_assoc, mul_comm, mul_left_comm, mul_pos, mul_inverse, products}
use Rattle.field.proofs.Mul.{gpow-add, power_zero, power-lt, power_gpow}
use Rattle.field.proofs.Bytes.{tabulate-length, tabulate_at}
use Rattle.field.proofs.Solve.{Away, Apart, add-ne, undo}
use Rattle.points.specs.Points.{data_points, parity_points, sum_at, solve_at, parity_of}
use Rattle.points.specs.Mending.{Positions, entries, errors_of}
use Rattle.points.specs.Folding.{fold_sum, fold_parity, fold_points, Each, joined}
use Rattle.points.specs.Lagrange.{dot, away, others, lagrange}
use Rattle.points.proofs.Sums.{sum_lt, sum_append, solve_at-length, solve_at_bytes, solve_at_same, solved_at, row_sum}
use Rattle.points.proofs.Distinct.{parity_points-length, parity_points_bytes, parity_points_apart}
use Rattle.points.proofs.Parity.{parity_sum_of}
use Rattle.points.proofs.Mended.{entries-length, entries_bytes, entries_apart}
use Rattle.points.proofs.Folded.{no_stripes, one_more}

-- ---- sums of products

-- a sum over points, point^u times byte, is one
sum_dot : (bs cs : List ℕ) (u : ℕ) → dot (map (λ b. power b u) bs) cs ≡ sum_at bs cs u
unfolding dot sum_at
sum_dot [] cs u = refl
sum_dot (b ∷ bs) [] u = refl
sum_dot (b ∷ bs) (c ∷ cs) u = ap (λ (x : ℕ). power b u ⊗ c ⊕ x) (sum_dot bs cs u)

-- equal weights give equal sums
dot_same : (f g : ℕ → ℕ) → ((b : ℕ) → f b ≡ g b) → (bs cs : List ℕ) → dot (map f bs) cs ≡ dot (map g bs) cs
unfolding dot
dot_same f g h [] cs = refl
dot_same f g h (b ∷ bs) [] = refl
dot_same f g h (b ∷ bs) (c ∷ cs) = ap₂ (λ (x y : ℕ). x ⊗ c ⊕ y) (h b) (dot_same f g h bs cs)

linear_step : (p q r c s t : ℕ) → (p ⊕ r ⊗ q) ⊗ c ⊕ (s ⊕ r ⊗ t) ≡ p ⊗ c ⊕ s ⊕ r ⊗ (q ⊗ c ⊕ t)
linear_step p q r c s t = simp products

-- and it is linear in the weights
dot_linear : (f g : ℕ → ℕ) (r : ℕ) (bs cs : List ℕ) → dot (map (λ b. f b ⊕ r ⊗ g b) bs) cs ≡ dot (map f bs) cs ⊕ r ⊗ dot (map g bs) cs
unfolding dot
dot_linear f g r [] cs = sym (zero-add _ ∙ mul-zero r)
dot_linear f g r (b ∷ bs) [] = sym (zero-add _ ∙ mul-zero r)
dot_linear f g r (b ∷ bs) (c ∷ cs) =
    ap (λ (x : ℕ). (f b ⊕ r ⊗ g b) ⊗ c ⊕ x) (dot_linear f g r bs cs) ∙ linear_step (f b) (g b) r c (dot (map f bs) cs) (dot (map g bs) cs)

dot_times : (f : ℕ → ℕ) (a : ℕ) (bs cs : List ℕ) → dot (map (λ b. a ⊗ f b) bs) cs ≡ a ⊗ dot (map f bs) cs
unfolding dot
dot_times f a [] cs = sym (mul-zero a)
dot_times f a (b ∷ bs) [] = sym (mul-zero a)
dot_times f a (b ∷ bs) (c ∷ cs) =
    ap₂ ◌⊕◌ (mul_assoc a (f b) c) (dot_times f a bs cs) ∙ sym (mul-add a (f b ⊗ c) (dot (map f bs) cs))

-- where every weight is 0, so is the sum
dot_none : (f : ℕ → ℕ) (bs cs : List ℕ) → ((w : ℕ) → w < length bs → f (get_or bs w 0) ≡ 0) → dot (map f bs) cs ≡ 0
unfolding dot
dot_none f [] cs h = refl
dot_none f (b ∷ bs) [] h = refl
dot_none f (b ∷ bs) (c ∷ cs) h =
    ap₂ (λ (x y : ℕ). x ⊗ c ⊕ y) (h 0 (suc-le-suc zero-le)) (dot_none f bs cs (λ w l. h (suc w) (suc-le-suc l))) ∙ add-zero _ ∙ zero-mul c

-- and where all but one are, it is one product
dot-one : (f : ℕ → ℕ) (bs cs : List ℕ) (v : ℕ) → v < length bs → ((w : ℕ) → w < length bs → (v ≡ w → ⊥) → f (get_or bs w 0) ≡ 0)
    → dot (map f bs) cs ≡ f (get_or bs v 0) ⊗ get_or cs v 0
unfolding dot
dot-one f [] cs v l h = absurd (not-suc-le-zero l)
dot-one f (b ∷ bs) [] v l h = sym (mul-zero _)
dot-one f (b ∷ bs) (c ∷ cs) zero l h =
    ap (λ (x : ℕ). f b ⊗ c ⊕ x) (dot_none f bs cs (λ w m. h (suc w) (suc-le-suc m) (λ e. suc-ne-zero w (sym e)))) ∙ add-zero _
dot-one f (b ∷ bs) (c ∷ cs) (suc v) l h =
    ap₂ (λ (x y : ℕ). x ⊗ c ⊕ y) (h 0 (suc-le-suc zero-le) (suc-ne-zero v))
    (dot-one f bs cs v (le_of_suc-le-suc l) (λ w m n. h (suc w) (suc-le-suc m) (λ e. n (suc_inj e))))
    ∙ ap (λ (x : ℕ). x ⊕ f (get_or bs v 0) ⊗ get_or cs v 0) (zero-mul c) ∙ zero-add _

-- ---- products of differences

pub away-lt : (bs : List ℕ) (y : ℕ) → away bs y < 256
unfolding away
away-lt [] y = lit< tt
away-lt (b ∷ bs) y = mul-lt (y ⊕ b) (away bs y)

away_pos : (bs : List ℕ) (y : ℕ) → y < 256 → Bytes bs → Away y bs → 0 < away bs y
unfolding away
away_pos [] y hy hb d = lit< tt
away_pos (b ∷ bs) y hy hb d =
    mul_pos (y ⊕ b) (add-lt 8 y b hy (hb 0)) (away bs y) (away-lt bs y) (add-ne y b (d 0 (suc-le-suc zero-le)))
    (away_pos bs y hy (λ i. hb (suc i)) (λ v l. d (suc v) (suc-le-suc l)))

-- a point is 0 apart from itself
away_first : (b : ℕ) (bs : List ℕ) → away (b ∷ bs) b ≡ 0
unfolding away
away_first b bs = ap (λ (x : ℕ). x ⊗ away bs b) (add_self b) ∙ zero-mul (away bs b)

away-zero : (bs : List ℕ) (w : ℕ) → w < length bs → away bs (get_or bs w 0) ≡ 0
unfolding away
away-zero [] w l = absurd (not-suc-le-zero l)
away-zero (b ∷ bs) zero l = away_first b bs
away-zero (b ∷ bs) (suc w) l = ap (λ (x : ℕ). (get_or bs w 0 ⊕ b) ⊗ x) (away-zero bs w (le_of_suc-le-suc l)) ∙ mul-zero _

-- ---- the points but for one

others-length : (bs : List ℕ) (v : ℕ) → v < length bs → suc (length (others bs v)) ≡ length bs
unfolding others
others-length [] v l = absurd (not-suc-le-zero l)
others-length (b ∷ bs) zero l = refl
others-length (b ∷ bs) (suc v) l = ap suc (others-length bs v (le_of_suc-le-suc l))

-- distinct points: that one is apart from the others
others_pos : (bs : List ℕ) → Bytes bs → Apart bs → (v : ℕ) → v < length bs → 0 < away (others bs v) (get_or bs v 0)
unfolding others away Apart
others_pos [] hb d v l = absurd (not-suc-le-zero l)
others_pos (b ∷ bs) hb d zero l = away_pos bs b (hb 0) (λ i. hb (suc i)) d.0
others_pos (b ∷ bs) hb d (suc v) l =
    mul_pos (get_or bs v 0 ⊕ b) (add-lt 8 _ b (hb (suc v)) (hb 0)) (away (others bs v) (get_or bs v 0)) (away-lt (others bs v) (get_or bs v 0))
    (add-ne (get_or bs v 0) b (λ e. d.0 v (le_of_suc-le-suc l) (sym e))) (others_pos bs (λ i. hb (suc i)) d.1 v (le_of_suc-le-suc l))

-- and any other is one of them
others-zero : (bs : List ℕ) (v w : ℕ) → w < length bs → (v ≡ w → ⊥) → away (others bs v) (get_or bs w 0) ≡ 0
unfolding others away
others-zero [] v w l n = absurd (not-suc-le-zero l)
others-zero (b ∷ bs) zero zero l n = absurd (n refl)
others-zero (b ∷ bs) zero (suc w) l n = away-zero bs w (le_of_suc-le-suc l)
others-zero (b ∷ bs) (suc v) zero l n = away_first b (others bs v)
others-zero (b ∷ bs) (suc v) (suc w) l n =
    ap (λ (x : ℕ). (get_or bs w 0 ⊕ b) ⊗ x) (others-zero bs v w (le_of_suc-le-suc l) (λ e. n (ap suc e))) ∙ mul-zero _

-- ---- Lagrange's polynomials

-- 1 at its own point
pub lagrange_own : (bs : List ℕ) → Bytes bs → Apart bs → (v : ℕ) → v < length bs → lagrange bs v (get_or bs v 0) ≡ 1
unfolding lagrange
lagrange_own bs hb d v l = mul_comm (inverse_of _) _ ∙ mul_inverse _ (others_pos bs hb d v l) (away-lt (others bs v) (get_or bs v 0))

-- 0 at any other
pub lagrange_other : (bs : List ℕ) (v w : ℕ) → v < length bs → w < length bs → (v ≡ w → ⊥) → lagrange bs v (get_or bs w 0) ≡ 0
unfolding lagrange
lagrange_other bs v w l m n =
    ap (λ (x : ℕ). inverse_of (away (others bs v) (get_or bs v 0)) ⊗ x) (others-zero bs v w m n) ∙ mul-zero (inverse_of _)

-- ---- the weights

-- the sum of point^u times the product of what the point is apart from each of rs, times byte
product_sum : List ℕ → ℕ → List ℕ → List ℕ → ℕ
product_sum rs u bs cs = dot (map (λ b. power b u ⊗ away rs b) bs) cs

product_step : (b r p q : ℕ) → p ⊗ ((b ⊕ r) ⊗ q) ≡ b ⊗ p ⊗ q ⊕ r ⊗ (p ⊗ q)
product_step b r p q = simp products

sum_none : (u : ℕ) (bs cs : List ℕ) → product_sum [] u bs cs ≡ sum_at bs cs u
unfolding product_sum away
sum_none u bs cs = dot_same _ (λ b. power b u) (λ b. mul-one (power b u) (power-lt b u)) bs cs ∙ sum_dot bs cs u

sum_more : (r : ℕ) (rs : List ℕ) (u : ℕ) (bs cs : List ℕ) → product_sum (r ∷ rs) u bs cs ≡ product_sum rs (suc u) bs cs ⊕ r ⊗ product_sum rs u bs cs
unfolding product_sum away power
sum_more r rs u bs cs =
    dot_same _ (λ b. power b (suc u) ⊗ away rs b ⊕ r ⊗ (power b u ⊗ away rs b)) (λ b. product_step b r (power b u) (away rs b)) bs cs
    ∙ dot_linear (λ b. power b (suc u) ⊗ away rs b) (λ b. power b u ⊗ away rs b) r bs cs

-- the sums below n tell those with u and the number of differences below n together
products_tell : (n : ℕ) (bs cs ys xs : List ℕ) → ((u : ℕ) → u < n → sum_at bs cs u ≡ sum_at ys xs u)
    → (rs : List ℕ) (u : ℕ) → length rs + u < n → product_sum rs u bs cs ≡ product_sum rs u ys xs
products_tell n bs cs ys xs h [] u l = sum_none u bs cs ∙ h u (omega arith) ∙ sym (sum_none u ys xs)
products_tell n bs cs ys xs h (r ∷ rs) u l =
    sum_more r rs u bs cs
    ∙ ap₂ (λ (x y : ℕ). x ⊕ r ⊗ y) (products_tell n bs cs ys xs h rs (suc u) (omega arith)) (products_tell n bs cs ys xs h rs u (omega arith))
    ∙ sym (sum_more r rs u ys xs)

sum_away : (rs bs cs : List ℕ) → product_sum rs 0 bs cs ≡ dot (map (away rs) bs) cs
unfolding product_sum
sum_away rs bs cs = dot_same _ (away rs) (λ b. ap (λ (x : ℕ). x ⊗ away rs b) (power_zero b) ∙ one-mul (away rs b) (away-lt rs b)) bs cs

-- where bytes at n distinct points have the sums below n of bytes at any points, each is a sum over the latter, weighted by its polynomial
pub same_sums_weights : (bs cs ys xs : List ℕ) → Bytes bs → Apart bs → Bytes cs → ((u : ℕ) → u < length bs → sum_at bs cs u ≡ sum_at ys xs u)
    → (v : ℕ) → v < length bs → get_or cs v 0 ≡ dot (map (lagrange bs v) ys) xs
unfolding lagrange
same_sums_weights bs cs ys xs hb d hc h v l =
    sym (mul_left_comm (inverse_of here) here (get_or cs v 0) ∙ undo here (get_or cs v 0) (others_pos bs hb d v l) (away-lt rs (get_or bs v 0)) (hc v))
    ∙ ap (λ (x : ℕ). inverse_of here ⊗ x) (sym (dot-one (away rs) bs cs v l (λ w m n. others-zero bs v w m n)) ∙ sym (sum_away rs bs cs)
    ∙ products_tell (length bs) bs cs ys xs h rs 0 (omega (arith, others-length bs v l)) ∙ sum_away rs ys xs)
    ∙ sym (dot_times (away rs) (inverse_of here) ys xs)
  where
    rs : List ℕ
    rs = others bs v

    here : ℕ
    here = away (others bs v) (get_or bs v 0)

-- so is each byte of the solution
solved_weights : (bs ys xs : List ℕ) (t : ℕ → ℕ) → Bytes bs → Apart bs → ((u : ℕ) → t u ≡ sum_at ys xs u) → (v : ℕ) → v < length bs
    → get_or (solve_at bs t) v 0 ≡ dot (map (lagrange bs v) ys) xs
solved_weights bs ys xs t hb d e v l =
    ap (λ (cs : List ℕ). get_or cs v 0) (solve_at_same bs t (sum_at ys xs) (λ u m. e u))
    ∙ same_sums_weights bs (solve_at bs (sum_at ys xs)) ys xs hb d (solve_at_bytes bs (sum_at ys xs)) (solved_at bs (sum_at ys xs) hb d (sum_lt ys xs)) v l

pub solution_weights : (bs ys xs : List ℕ) → Bytes bs → Apart bs → Bytes ys → (v : ℕ) → v < length bs
    → get_or (solve_at bs (sum_at ys xs)) v 0 ≡ dot (map (lagrange bs v) ys) xs
solution_weights bs ys xs hb d hy v l = solved_weights bs ys xs (sum_at ys xs) hb d (λ u. refl) v l

-- ---- interpolation: the values of Lagrange's polynomials at y are the bytes at the points whose sums are the powers of y

-- these are the sums of one byte 1 at y
one_sum : (y u : ℕ) → power y u ≡ sum_at (y ∷ []) (1 ∷ []) u
unfolding sum_at
one_sum y u = sym (add-zero _ ∙ mul-one (power y u) (power-lt y u))

one_dot : (c : ℕ) → c < 256 → dot (c ∷ []) (1 ∷ []) ≡ c
unfolding dot
one_dot c h = add-zero _ ∙ mul-one c h

pub lagrange-lt : (bs : List ℕ) (v y : ℕ) → lagrange bs v y < 256
unfolding lagrange
lagrange-lt bs v y = mul-lt _ _

powers_solved : (bs : List ℕ) → Bytes bs → Apart bs → (y : ℕ) → solve_at bs (power y) ≡ tabulate (length bs) (λ v. lagrange bs v y)
powers_solved bs hb d y =
    ext_get_or 0 _ _ (solve_at-length bs (power y) ∙ sym (tabulate-length (length bs) _))
    (λ v m.
    let l : v < length bs = subst (λ (n : ℕ). v < n) (solve_at-length bs (power y)) m in
    solved_weights bs (y ∷ []) (1 ∷ []) (power y) hb d (one_sum y) v l ∙ one_dot (lagrange bs v y) (lagrange-lt bs v y)
    ∙ sym (tabulate_at (length bs) (λ w. lagrange bs w y) v l))

pub interpolates : (bs : List ℕ) → Bytes bs → Apart bs → (y : ℕ) → y < 256 → (u : ℕ) → u < length bs
    → sum_at bs (tabulate (length bs) (λ v. lagrange bs v y)) u ≡ power y u
interpolates bs hb d y hy u l =
    ap (λ (cs : List ℕ). sum_at bs cs u) (sym (powers_solved bs hb d y)) ∙ solved_at bs (power y) hb d (power-lt y) u l

-- ---- parity and errors

parity_solution_weights : (r : ℕ) (ys xs : List ℕ) (t : ℕ → ℕ) → r ≤ 255 → ((u : ℕ) → t u ≡ sum_at ys xs u) → (j : ℕ) → j < r
    → get_or (solve_at (parity_points r) t) j 0 ≡ dot (map (lagrange (parity_points r) j) ys) xs
parity_solution_weights r ys xs t h e j l =
    solved_weights (parity_points r) ys xs t (parity_points_bytes r) (parity_points_apart r h) e j (subst (λ (n : ℕ). j < n) (sym (parity_points-length r)) l)

-- a parity byte, from the data
pub parity_weights : (r : ℕ) (ds : List ℕ) → r ≤ 255 → (j : ℕ) → j < r
    → get_or (parity_of r ds) j 0 ≡ dot (map (lagrange (parity_points r) j) (data_points (length ds))) ds
unfolding parity_of
parity_weights r ds h j l = parity_solution_weights r (data_points (length ds)) ds (λ s. row s ds) h (λ u. sym (row_sum u ds)) j l

-- an error, from the word as it lies
pub error_weights : (bs is xs : List ℕ) → Bytes bs → Apart bs → Positions (length bs) is → (v : ℕ) → v < length is
    → get_or (errors_of bs is xs) v 0 ≡ dot (map (lagrange (entries bs is) v) bs) xs
unfolding errors_of
error_weights bs is xs hb d w v l =
    solution_weights (entries bs is) bs xs (entries_bytes bs is hb) (entries_apart bs is d w) hb v
    (subst (λ (n : ℕ). v < n) (sym (entries-length bs is)) l)

-- ---- lists of a function's values

tabulate_same : (n : ℕ) (f g : ℕ → ℕ) → ((i : ℕ) → i < n → f i ≡ g i) → tabulate n f ≡ tabulate n g
unfolding tabulate
tabulate_same zero f g h = refl
tabulate_same (suc n) f g h =
    ap₂ (λ (x : ℕ) (xs : List ℕ). x ∷ xs) (h 0 (suc-le-suc zero-le)) (tabulate_same n (λ i. f (suc i)) (λ i. g (suc i)) (λ i l. h (suc i) (suc-le-suc l)))

tabulate_parts : (m n : ℕ) (f g h : ℕ → ℕ) → ((i : ℕ) → i < m → f i ≡ g i) → ((i : ℕ) → i < n → f (m + i) ≡ h i)
    → tabulate (m + n) f ≡ tabulate m g ++ tabulate n h
unfolding tabulate
tabulate_parts zero n f g h p q =
    ap (λ (k : ℕ). tabulate k f) (ℕ-zero-add n) ∙ tabulate_same n f h (λ i l. ap f (sym (ℕ-zero-add i)) ∙ q i l)
tabulate_parts (suc m) n f g h p q =
    ap (λ (k : ℕ). tabulate k f) (suc-add m n)
    ∙ ap₂ (λ (x : ℕ) (xs : List ℕ). x ∷ xs) (p 0 (suc-le-suc zero-le))
    (tabulate_parts m n (λ i. f (suc i)) (λ i. g (suc i)) h (λ i l. p (suc i) (suc-le-suc l)) (λ i l. ap f (sym (suc-add m i)) ∙ q i l))

tabulate-map : (n : ℕ) (f g : ℕ → ℕ) → map g (tabulate n f) ≡ tabulate n (λ i. g (f i))
unfolding tabulate
tabulate-map zero f g = refl
tabulate-map (suc n) f g = ap (λ (xs : List ℕ). g (f 0) ∷ xs) (tabulate-map n (λ i. f (suc i)) g)

-- ---- folds

factor_pos : (n r i : ℕ) → i < n * r → 0 < r
factor_pos n zero i l = absurd (not-suc-le-zero (subst (λ (m : ℕ). i < m) (ℕ-mul-zero n) l))
factor_pos n (suc r) i l = suc-le-suc zero-le

-- the first stripe's points are the parity's, and the others are g^k times those of one stripe less
fold_points_more : (k r n : ℕ) → fold_points k r (suc n) ≡ parity_points r ++ map (λ b. gpow k ⊗ b) (fold_points k r n)
unfolding fold_points parity_points
fold_points_more k r n =
    ap (λ (m : ℕ). tabulate m f) (suc-mul n r ∙ ℕ-add-comm (n * r) r)
    ∙ tabulate_parts r (n * r) f (λ j. gpow (254 - j)) (λ i. gpow k ⊗ f i) first later
    ∙ ap (λ (bs : List ℕ). tabulate r (λ j. gpow (254 - j)) ++ bs) (sym (tabulate-map (n * r) f (λ b. gpow k ⊗ b)))
  where
    f : ℕ → ℕ
    f i = gpow (i / r * k + (254 - i % r))

    first : (i : ℕ) → i < r → f i ≡ gpow (254 - i)
    first i l = ap₂ (λ (q m : ℕ). gpow (q * k + (254 - m))) (div-eq_of_lt l) (mod-eq_of_lt l) ∙ ap gpow (omega arith)

    next : (q e : ℕ) → (q + 1) * k + e ≡ k + (q * k + e)
    next q e = omega arith

    later : (i : ℕ) → i < n * r → f (r + i) ≡ gpow k ⊗ f i
    later i l =
        ap₂ (λ (q m : ℕ). gpow (q * k + (254 - m))) (add-div_left i (factor_pos n r i l)) (add-mod_left r i)
        ∙ ap gpow (next (i / r) (254 - i % r)) ∙ gpow-add k (i / r * k + (254 - i % r))

product_power : (a b p q : ℕ) → a ⊗ b ⊗ (p ⊗ q) ≡ a ⊗ p ⊗ (b ⊗ q)
product_power a b p q = simp products

power-mul : (a b s : ℕ) → power (a ⊗ b) s ≡ power a s ⊗ power b s
unfolding power
power-mul a b zero = sym (one-mul 1 (lit< tt))
power-mul a b (suc s) = ap (λ (x : ℕ). a ⊗ b ⊗ x) (power-mul a b s) ∙ product_power a b (power a s) (power b s)

sum_nil : (bs : List ℕ) (s : ℕ) → sum_at bs [] s ≡ 0
unfolding sum_at
sum_nil [] s = refl
sum_nil (b ∷ bs) s = refl

-- every point times a
sum_scaled : (a : ℕ) (bs cs : List ℕ) (s : ℕ) → sum_at (map (λ b. a ⊗ b) bs) cs s ≡ power a s ⊗ sum_at bs cs s
unfolding sum_at
sum_scaled a [] cs s = sym (mul-zero _)
sum_scaled a (b ∷ bs) [] s = sym (mul-zero _)
sum_scaled a (b ∷ bs) (c ∷ cs) s =
    ap₂ (λ (x y : ℕ). x ⊗ c ⊕ y) (power-mul a b s) (sum_scaled a bs cs s)
    ∙ ap (λ (x : ℕ). x ⊕ power a s ⊗ sum_at bs cs s) (mul_assoc (power a s) (power b s) c)
    ∙ sym (mul-add (power a s) (power b s ⊗ c) (sum_at bs cs s))

-- the fold's sums are sums over these points
pub fold_sum_points : (k r : ℕ) (pss : List (List ℕ)) → Each (λ ps. length ps ≡ r) pss → (s : ℕ)
    → fold_sum k s pss ≡ sum_at (fold_points k r (length pss)) (joined pss) s
unfolding Each joined
fold_sum_points k r [] p s = no_stripes k s ∙ sym (sum_nil (fold_points k r 0) s)
fold_sum_points k r (ps ∷ pss) p s =
    one_more k s ps pss
    ∙ ap₂ ◌⊕◌ (parity_sum_of r ps s p.0)
    (ap₂ ◌⊗◌ (ap gpow (ℕ-mul-comm k s) ∙ sym (power_gpow k s)) (fold_sum_points k r pss p.1 s)
    ∙ sym (sum_scaled (gpow k) (fold_points k r (length pss)) (joined pss) s))
    ∙ sym (sum_append (parity_points r) _ ps (joined pss) s (parity_points-length r ∙ sym p.0))
    ∙ ap (λ (bs : List ℕ). sum_at bs (ps ++ joined pss) s) (sym (fold_points_more k r (length pss)))

-- a byte of the new parity, from the bytes of the old
pub fold_weights : (k r : ℕ) (pss : List (List ℕ)) → r ≤ 255 → Each (λ ps. length ps ≡ r) pss → (j : ℕ) → j < r
    → get_or (fold_parity k r pss) j 0 ≡ dot (map (lagrange (parity_points r) j) (fold_points k r (length pss))) (joined pss)
unfolding fold_parity
fold_weights k r pss h p j l =
    parity_solution_weights r (fold_points k r (length pss)) (joined pss) (λ s. fold_sum k s pss) h (fold_sum_points k r pss p) j l
