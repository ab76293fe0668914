-- The constants applied to columns: at each place the parity, the bytes that a mender computes, and the parity of a fold.
use mathlib.Core.Path.{◌≡◌, sym, ap, ap₂, ◌∙◌, subst}
use mathlib.Core.List.{List, ◌++◌, map}
use Prim.Native.Nat.{ℕ, zero, suc, ◌+◌, ◌*◌, ◌%◌, ◌<◌, ◌≤◌}
use native.Mathlib.Nat.{zero-mul, suc-mul, add_comm, mod-eq_of_lt}
use native.Mathlib.Omega.{arith}
use lib.ListN.{length, get_or, take, drop, length-map}
use lib.Seq.{ext_get_or}
use Rattle.std.proofs.lemmas.List.{get_or-map}
use Rattle.field.specs.Bytes.{tabulate}
use Rattle.field.proofs.Bytes.{tabulate-length, tabulate_at}
use Rattle.points.specs.Points.{data_points, parity_points, points, parity_of}
use Rattle.points.specs.Mending.{entries}
use Rattle.points.specs.Folding.{fold_parity, fold_points, joined, parts, Each}
use Rattle.points.proofs.Joined.{parts_count}
use Rattle.points.specs.Lagrange.{dot, lagrange}
use Rattle.points.proofs.Distinct.{data_points-length, parity_points-length}
use Rattle.points.proofs.Mended.{entries-length}
use Rattle.points.proofs.Lagrange.{parity_weights, fold_weights}
use Rattle.stripe.specs.Stripe.{across, Ascending}
use Rattle.stripe.proofs.Places.{place_lt, place_column, place_byte, across-length, across_at, across-take}
use Rattle.stripe.proofs.Codewords.{across_both}
use Rattle.lagrange.specs.Weights.{weights_of}
use Rattle.matrix.specs.Matrix.{row_of, bytes_at}
use Rattle.equations.specs.Chosen.{sources, computed, computed_byte}
use Rattle.equations.proofs.Chosen.{sources-length, computed-length}
use Rattle.constants.proofs.Points.{fold_points-length}
use Rattle.constants.specs.Constants.{encoding_of, folding_of, mending_of}

map_same : (f g : ℕ → ℕ) (xs : List ℕ) → ((x : ℕ) → f x ≡ g x) → map f xs ≡ map g xs
map_same f g xs h i = map (λ x. h x i) xs

-- ---- a row of weights

row_here : (bs ys : List ℕ) (v : ℕ) → v < length bs → row_of (length ys) (weights_of bs ys) v ≡ map (lagrange bs v) ys
unfolding row_of weights_of
row_here bs ys v h =
    ext_get_or 0 _ _ (tabulate-length (length ys) _ ∙ sym (length-map ys (lagrange bs v)))
    (λ i m.
    let l : i < length ys = subst (λ (n : ℕ). i < n) (tabulate-length (length ys) _) m in
    tabulate_at (length ys) _ i l ∙ tabulate_at (length bs * length ys) _ (v * length ys + i) (place_lt h l)
    ∙ ap₂ (λ (a b : ℕ). lagrange bs a (get_or ys b 0)) (place_column v l) (place_byte v l) ∙ sym (get_or-map (lagrange bs v) ys i 0 0 l))

pub row_of_weights : (bs ys : List ℕ) (m v : ℕ) → length ys ≡ m → v < length bs → row_of m (weights_of bs ys) v ≡ map (lagrange bs v) ys
row_of_weights bs ys m v e h = ap (λ (n : ℕ). row_of n (weights_of bs ys) v) (sym e) ∙ row_here bs ys v h

-- ---- bytes of columns

-- of all columns in order
pub bytes_in_order : (xs : List ℕ) (from l p m : ℕ) → bytes_at xs from l p (tabulate m (λ i. i)) ≡ across xs l p from m
unfolding bytes_at
bytes_in_order xs from l p m =
    ext_get_or 0 _ _ (length-map (tabulate m (λ i. i)) _ ∙ tabulate-length m _ ∙ sym (across-length xs l p from m))
    (λ i h.
    let n : i < length (tabulate m (λ i. i)) = subst (λ (n : ℕ). i < n) (length-map (tabulate m (λ i. i)) _) h in
    let l' : i < m = subst (λ (n : ℕ). i < n) (tabulate-length m _) n in
    get_or-map _ (tabulate m (λ i. i)) i 0 0 n ∙ ap (λ (c : ℕ). get_or xs (from + c * l + p) 0) (tabulate_at m (λ i. i) i l')
    ∙ sym (across_at xs l p from m i l'))

pub order_small : (m : ℕ) → m ≤ 256 → tabulate m (λ i. i % 256) ≡ tabulate m (λ i. i)
order_small m h =
    ext_get_or 0 _ _ (tabulate-length m _ ∙ sym (tabulate-length m _))
    (λ i n.
    let l : i < m = subst (λ (c : ℕ). i < c) (tabulate-length m _) n in
    tabulate_at m (λ i. i % 256) i l ∙ mod-eq_of_lt (omega arith) ∙ sym (tabulate_at m (λ i. i) i l))

-- in a window from a place on
pub bytes_window : (xs : List ℕ) (from l q : ℕ) (cs : List ℕ) → bytes_at xs from l q cs ≡ map (λ c. get_or xs (c * l + (from + q)) 0) cs
unfolding bytes_at
bytes_window xs from l q cs = map_same _ _ cs (λ c. ap (λ (n : ℕ). get_or xs n 0) (omega arith))

pub across_window : (xs : List ℕ) (from l q m : ℕ) → across xs l q from m ≡ across xs l (from + q) 0 m
across_window xs from l q m =
    ext_get_or 0 _ _ (across-length xs l q from m ∙ sym (across-length xs l (from + q) 0 m))
    (λ i h.
    let l' : i < m = subst (λ (n : ℕ). i < n) (across-length xs l q from m) h in
    across_at xs l q from m i l' ∙ ap (λ (n : ℕ). get_or xs n 0) (omega arith) ∙ sym (across_at xs l (from + q) 0 m i l'))

-- ---- parity

pub parity_applied : (k r l : ℕ) (ds : List ℕ) (from j q : ℕ) → r ≤ 255 → j < r
    → dot (row_of k (encoding_of k r) j) (bytes_at ds from l q (tabulate k (λ i. i))) ≡ get_or (parity_of r (across ds l (from + q) 0 k)) j 0
unfolding encoding_of
parity_applied k r l ds from j q h m =
    ap₂ dot
    (row_of_weights (parity_points r) (data_points k) k j (data_points-length k) (subst (λ (n : ℕ). j < n) (sym (parity_points-length r)) m)
    ∙ ap (λ (n : ℕ). map (lagrange (parity_points r) j) (data_points n)) (sym (across-length ds l (from + q) 0 k)))
    (bytes_in_order ds from l q k ∙ across_window ds from l q k)
    ∙ sym (parity_weights r (across ds l (from + q) 0 k) h j m)

-- ---- what a mender computes

pub computed_applied : (k r l : ℕ) (es xs : List ℕ) (from v q : ℕ) → Ascending 0 (k + r) es → length es ≤ r → v < r
    → dot (row_of k (mending_of k r (computed k r es) (sources k r es)) v) (bytes_at xs from l q (sources k r es)) ≡ computed_byte k r l es xs v (from + q)
unfolding mending_of computed_byte
computed_applied k r l es xs from v q asc few m =
    ap₂ dot
    (row_of_weights (entries (points k r) (computed k r es)) (entries (points k r) (sources k r es)) k v
    (entries-length (points k r) (sources k r es) ∙ sources-length k r es asc few)
    (subst (λ (n : ℕ). v < n) (sym (entries-length (points k r) (computed k r es) ∙ computed-length k r es asc few)) m))
    (bytes_window xs from l q (sources k r es))

-- ---- a fold

parts_each : (r l p n : ℕ) (xs : List ℕ) → Each (λ ps. length ps ≡ r) (map (λ ps. across ps l p 0 r) (parts (r * l) n xs))
unfolding parts Each
parts_each r l p zero xs = tt
parts_each r l p (suc n) xs = (across-length (take (r * l) xs) l p 0 r, parts_each r l p n (drop (r * l) xs))

parts_across : (r l p n : ℕ) (xs : List ℕ) → p < l → joined (map (λ ps. across ps l p 0 r) (parts (r * l) n xs)) ≡ across xs l p 0 (n * r)
unfolding parts joined across
parts_across r l p zero xs h = sym (ap (λ (m : ℕ). across xs l p 0 m) (zero-mul r))
parts_across r l p (suc n) xs h =
    ap₂ ◌++◌ (across-take xs l p r h) (parts_across r l p n (drop (r * l) xs) h) ∙ sym (across_both xs r (n * r) l p)
    ∙ ap (λ (m : ℕ). across xs l p 0 m) (add_comm r (n * r) ∙ sym (suc-mul n r))

pub fold_applied : (k r l n : ℕ) (xs : List ℕ) (j p : ℕ) → r ≤ 255 → j < r → p < l
    → dot (row_of (n * r) (folding_of k r n) j) (bytes_at xs 0 l p (tabulate (n * r) (λ i. i)))
    ≡ get_or (fold_parity k r (map (λ ps. across ps l p 0 r) (parts (r * l) n xs))) j 0
unfolding folding_of
fold_applied k r l n xs j p h m hp =
    ap₂ dot
    (row_of_weights (parity_points r) (fold_points k r n) (n * r) j (fold_points-length k r n) (subst (λ (n : ℕ). j < n) (sym (parity_points-length r)) m)
    ∙ ap (λ (c : ℕ). map (lagrange (parity_points r) j) (fold_points k r c)) (sym (length-map (parts (r * l) n xs) _ ∙ parts_count (r * l) n xs)))
    (bytes_in_order xs 0 l p (n * r) ∙ sym (parts_across r l p n xs hp))
    ∙ sym (fold_weights k r (map (λ ps. across ps l p 0 r) (parts (r * l) n xs)) h (parts_each r l p n xs) j m)
