-- The points of columns, filled place by place: powers of g going up and down, and entries that are chosen.
use mathlib.Core.Path.{◌≡◌, sym, ap, ap₂, subst, ◌∙◌}
use mathlib.Core.List.{List, [], ◌++◌, append-nil}
use mathlib.Core.Logic.{inl, ⊎_elim}
use Prim.Native.Nat.{ℕ, ◌+◌, ◌-◌, ◌*◌, ◌<◌, ◌≤◌}
use native.Mathlib.Nat.{not-suc-le-zero}
use native.Mathlib.Numerals.{add-one}
use native.Mathlib.Omega.{arith}
use borrow.Rule.Slice.PartMut.{mid_of, put_mid, post_of, same_len_mid, Post-is, mid_len}
use lib.ListN.{length, get_or, set, drop_of_length-le}
use lib.Seq.{ext_get_or, get_or-set_same, get_or-set_other, take_at}
use Rattle.field.specs.Field.{◌⊗◌, gpow}
use Rattle.field.specs.Bytes.{tabulate}
use Rattle.field.proofs.Mul.{gpow-lt, two_mul, gpow-suc}
use Rattle.field.proofs.Bytes.{tabulate-length, tabulate_at}
use Rattle.field.proofs.Cases.{below_or_from, same_or_not}
use Rattle.lanes.proofs.Parts.{back_length, back_inside, back_outside}
use Rattle.points.specs.Points.{data_points, parity_points, points}
use Rattle.points.specs.Mending.{entries}
use Rattle.points.specs.Folding.{fold_points}
use Rattle.points.proofs.Mended.{entries-length, entries_at}
use Rattle.stripe.proofs.Places.{place_lt, place_column, place_byte, column_inside, by_places}

-- a list by its entries
pub tabulated : (f : ℕ → ℕ) (n : ℕ) (xs : List ℕ) → length xs ≡ n → ((i : ℕ) → i < n → get_or xs i 0 ≡ f i) → xs ≡ tabulate n f
tabulated f n xs long is =
    ext_get_or 0 xs (tabulate n f) (long ∙ sym (tabulate-length n f)) (λ i h. is i (omega arith) ∙ sym (tabulate_at n f i (omega arith)))

pub entries_exact : (bs is xs : List ℕ) → length xs ≡ length is → ((v : ℕ) → v < length is → get_or xs v 0 ≡ get_or bs (get_or is v 0) 0)
    → xs ≡ entries bs is
entries_exact bs is xs long at =
    ext_get_or 0 xs (entries bs is) (long ∙ sym (entries-length bs is)) (λ v h. at v (omega arith) ∙ sym (entries_at bs is v (omega arith)))

-- ---- powers of g

-- twice a power is the next
pub power_next : (m n : ℕ) → m + 1 ≡ n → 2 ⊗ gpow m ≡ gpow n
power_next m n e = two_mul (gpow m) (gpow-lt m) ∙ sym (gpow-suc m) ∙ ap gpow (sym (add-one m) ∙ e)

-- the entries after place v are those of f, and the one before them is stored
pub set_before : (xs : List ℕ) (f : ℕ → ℕ) (n v x : ℕ) → v < length xs → x ≡ f v → ((i : ℕ) → v < i → i < n → get_or xs i 0 ≡ f i)
    → (i : ℕ) → v ≤ i → i < n → get_or (set xs v x) i 0 ≡ f i
set_before xs f n v x h is old i l k = ⊎_elim own after (same_or_not i v)
  where
    own : i ≡ v → get_or (set xs v x) i 0 ≡ f i
    own e = subst (λ (z : ℕ). get_or (set xs v x) z 0 ≡ f z) (sym e) (get_or-set_same xs v x 0 h ∙ is)

    after : (i ≡ v → ⊥) → get_or (set xs v x) i 0 ≡ f i
    after e = get_or-set_other xs v i x 0 e ∙ old i (omega arith) k

-- ---- parts

-- a part that was filled with the values of f
pub part_filled : (f : ℕ → ℕ) (a e : ℕ) (xs ys : List ℕ) → e ≤ length xs → ys ≡ tabulate (length (mid_of a (e - a) xs)) f
    → ys ≡ tabulate (e - a) f
part_filled f a e xs ys h is = is ∙ ap (λ (n : ℕ). tabulate n f) (mid_len a e xs h)

-- the points of k data columns and of the parity columns after them
pub points_filled : (k : ℕ) (out xs ys : List ℕ) → k ≤ length out → xs ≡ tabulate (length (mid_of 0 (k - 0) out)) gpow
    → ys ≡ tabulate (length (mid_of k (length out - k) (put_mid 0 (k - 0) out xs))) (λ j. gpow (254 - j))
    → put_mid k (length out - k) (put_mid 0 (k - 0) out xs) ys ≡ points k (length out - k)
unfolding points data_points parity_points
points_filled k out xs ys h data_is parity-is =
    ap₂ (λ (l m : List ℕ). l ++ (ys ++ m)) (take_at xs _ k long) none ∙ ap₂ (λ (l m : List ℕ). l ++ m) first (append-nil ys ∙ second)
  where
    first : xs ≡ tabulate k gpow
    first = part_filled gpow 0 k out xs h data_is ∙ ap (λ (n : ℕ). tabulate n gpow) (omega arith)

    long : length xs ≡ k
    long = ap length first ∙ tabulate-length k gpow

    half : List ℕ
    half = put_mid 0 (k - 0) out xs

    half_long : length half ≡ length out
    half_long = same_len_mid 0 (k - 0) out xs (long ∙ sym (mid_len 0 k out h ∙ omega arith))

    second : ys ≡ tabulate (length out - k) (λ j. gpow (254 - j))
    second = part_filled (λ j. gpow (254 - j)) k (length out) half ys (omega (arith, half_long)) parity-is

    none : post_of k (length out - k) half ≡ []
    none = Post-is k (length out) half h ∙ drop_of_length-le half {i = length out} (omega (arith, half_long))

-- ---- the points of a fold

-- the points of the first i of n stripes stand in out
pub record FoldFilled (k r n i : ℕ) (out : List ℕ) : Type 0 where
  pub long : length out ≡ n * r
  pub at : (u q : ℕ) → u < i → q < r → get_or out (u * r + q) 0 ≡ gpow (u * k + 254 - q)

pub fold_start : (k r n : ℕ) (out : List ℕ) → length out ≡ n * r → FoldFilled k r n 0 out
fold_start k r n out long = record { long = long; at = λ u q h. absurd (not-suc-le-zero h) }

pub fold_turn : {k r n : ℕ} {out ys : List ℕ} (i : ℕ) → i < n → ys ≡ tabulate (i * r + r - i * r) (λ q. gpow (i * k + 254 - q)) → FoldFilled k r n i out
    → FoldFilled k r n (i + 1) (put_mid (i * r) (i * r + r - i * r) out ys)
fold_turn {k} {r} {n} {out} {ys} i h is f =
    record { long = back_length out ys (i * r) r many fits ∙ f.long; at = at }
  where
    own : ys ≡ tabulate r (λ q. gpow (i * k + 254 - q))
    own = is ∙ ap (λ (m : ℕ). tabulate m (λ q. gpow (i * k + 254 - q))) (omega arith)

    many : length ys ≡ r
    many = ap length own ∙ tabulate-length r _

    fits : i * r + r ≤ length out
    fits = omega (arith, column_inside i n r h, f.long)

    at : (u q : ℕ) → u < i + 1 → q < r → get_or (put_mid (i * r) (i * r + r - i * r) out ys) (u * r + q) 0 ≡ gpow (u * k + 254 - q)
    at u q l m = ⊎_elim old new (below_or_from u i)
      where
        old : u < i → get_or (put_mid (i * r) (i * r + r - i * r) out ys) (u * r + q) 0 ≡ gpow (u * k + 254 - q)
        old e = back_outside out ys (i * r) r many fits (u * r + q) (inl (place_lt e m)) ∙ f.at u q e m

        new : i ≤ u → get_or (put_mid (i * r) (i * r + r - i * r) out ys) (u * r + q) 0 ≡ gpow (u * k + 254 - q)
        new e =
            let same : i ≡ u = omega arith in
            subst (λ (v : ℕ). get_or (put_mid (i * r) (i * r + r - i * r) out ys) (v * r + q) 0 ≡ gpow (v * k + 254 - q)) same
            (back_inside out ys (i * r) r many fits q m ∙ ap (λ (l : List ℕ). get_or l q 0) own ∙ tabulate_at r _ q m)

fold_point : (k r n u q : ℕ) → r ≤ 254 → u < n → q < r → get_or (fold_points k r n) (u * r + q) 0 ≡ gpow (u * k + 254 - q)
unfolding fold_points
fold_point k r n u q few hu hq =
    tabulate_at (n * r) _ (u * r + q) (place_lt hu hq)
    ∙ ap₂ (λ (a b : ℕ). gpow (a * k + (254 - b))) (place_column u hq) (place_byte u hq) ∙ ap gpow (omega arith)

pub fold_points-length : (k r n : ℕ) → length (fold_points k r n) ≡ n * r
unfolding fold_points
fold_points-length k r n = tabulate-length (n * r) _

pub fold_done : {k r n : ℕ} {out : List ℕ} (i : ℕ) → r ≤ 254 → n ≤ i → FoldFilled k r n i out → out ≡ fold_points k r n
fold_done {k} {r} {n} {out} i few h f =
    by_places n r out (fold_points k r n) f.long (fold_points-length k r n)
    (λ u q hu hq. f.at u q (omega arith) hq ∙ sym (fold_point k r n u q few hu hq))
