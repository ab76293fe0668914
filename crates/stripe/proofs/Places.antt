-- Places: byte p of the column at position c stands at c * L + p. What `across` reads, and what parity holds at each place.
use mathlib.Core.Path.{◌≡◌, refl, sym, ap, ap₂, ◌∙◌, subst}
use mathlib.Core.Bool.{Bool, true, false, cond}
use mathlib.Core.List.{List, ◌∷◌}
use Prim.Native.Nat.{ℕ, zero, suc, ◌+◌, ◌*◌, ◌/◌, ◌%◌, ◌<◌, ◌≤◌}
use native.Mathlib.Nat.{le_of_suc-le-suc, not-suc-le-zero, mod-lt, mod-eq_of_lt, div-eq_of_lt, div-lt_iff_lt-mul, div-add-mod'}
use native.Mathlib.Nat.{mul-add-div_right, mul-add-mod_self_right, mul-le-mul_right, add-zero as ℕ-add-zero, mul-zero as ℕ-mul-zero}
use native.Mathlib.Omega.{arith}
use lib.Dec.{ltb, lit<}
use lib.ListN.{length, get_or, take, length-drop}
use lib.Seq.{ext_get_or, get_or-take, get_or-drop, length-take-le}
use borrow.Author.Tests.{lt-ltb, le-ltb}
use Rattle.field.specs.Field.{◌⊕◌}
use Rattle.field.specs.Bytes.{Bytes, ◌⊞◌}
use Rattle.field.specs.Row.{row}
use Rattle.field.proofs.Xor.{add-lt, add-zero}
use Rattle.field.proofs.Bytes.{tabulate-length, tabulate_at, tabulate_bytes, add_at}
use Rattle.field.proofs.Rows.{row_lt}
use Rattle.points.specs.Points.{parity_of as solvedParity}
use Rattle.points.proofs.Parity.{parity_bytes as solved-parity-bytes}
use Rattle.stripe.specs.declared.Shape.{Shape}
use Rattle.stripe.specs.Shape.{data_length, parity_length, stripe_length}
use Rattle.stripe.specs.Stripe.{across, row_at, runs, run_length, piggyback, by_points, parity_byte, parity, data_of, parity_of, plain_runs}
use Rattle.stripe.proofs.Allowed.{Allowed, plain_run_length}

-- ---- the numbers of places

pub place_lt : {c n p l : ℕ} → c < n → p < l → c * l + p < n * l
place_lt {c} {n} {p} {l} h k = omega (arith, mul-le-mul_right l h)

-- a column ends within the columns
pub column_inside : (c n l : ℕ) → c < n → c * l + l ≤ n * l
column_inside c n l h = omega (arith, mul-le-mul_right l h)

pub place_column : (c : ℕ) {p l : ℕ} → p < l → (c * l + p) / l ≡ c
place_column c {p} h = mul-add-div_right (omega arith) c p ∙ ap (λ (x : ℕ). c + x) (div-eq_of_lt h) ∙ ℕ-add-zero c

pub place_byte : (c : ℕ) {p l : ℕ} → p < l → (c * l + p) % l ≡ p
place_byte c {p} {l} h = mul-add-mod_self_right c l p ∙ mod-eq_of_lt h

-- a place below n columns is byte `x % l` of the column `x / l`
pub place_split : (x l : ℕ) → x / l * l + x % l ≡ x
place_split x l = div-add-mod' x l

pub place_some : (x n l : ℕ) → x < n * l → 0 < l
place_some x n zero h = omega (arith, ℕ-mul-zero n)
place_some x n (suc l) h = omega arith

pub place_column_lt : (x n l : ℕ) → x < n * l → x / l < n
place_column_lt x n l h = (div-lt_iff_lt-mul (place_some x n l h)).1 h

pub place_byte_lt : (x n l : ℕ) → x < n * l → x % l < l
place_byte_lt x n l h = mod-lt x (place_some x n l h)

-- two lists of n columns of l bytes are equal if they are at every place
pub by_places : (n l : ℕ) (xs ys : List ℕ) → length xs ≡ n * l → length ys ≡ n * l
    → ((c p : ℕ) → c < n → p < l → get_or xs (c * l + p) 0 ≡ get_or ys (c * l + p) 0) → xs ≡ ys
by_places n l xs ys hx hy h = ext_get_or 0 xs ys (hx ∙ sym hy) (λ i m. at i (subst (λ (z : ℕ). i < z) hx m))
  where
    at : (i : ℕ) → i < n * l → get_or xs i 0 ≡ get_or ys i 0
    at i m = subst (λ (z : ℕ). get_or xs z 0 ≡ get_or ys z 0) (place_split i l) (h (i / l) (i % l) (place_column_lt i n l m) (place_byte_lt i n l m))

-- ---- across

pub across-length : (xs : List ℕ) (l p o m : ℕ) → length (across xs l p o m) ≡ m
unfolding across
across-length xs l p o zero = refl
across-length xs l p o (suc m) = ap suc (across-length xs l p (o + l) m)

pub across_at : (xs : List ℕ) (l p o m i : ℕ) → i < m → get_or (across xs l p o m) i 0 ≡ get_or xs (o + i * l + p) 0
unfolding across
across_at xs l p o zero i h = absurd (not-suc-le-zero h)
across_at xs l p o (suc m) zero h = ap (λ (z : ℕ). get_or xs z 0) (omega arith)
across_at xs l p o (suc m) (suc i) h =
    across_at xs l p (o + l) m i (le_of_suc-le-suc h) ∙ ap (λ (z : ℕ). get_or xs z 0) (omega arith)

-- of the columns from the first on
pub across_first : (xs : List ℕ) (l p m i : ℕ) → i < m → get_or (across xs l p 0 m) i 0 ≡ get_or xs (i * l + p) 0
across_first xs l p m i h = across_at xs l p 0 m i h ∙ ap (λ (z : ℕ). get_or xs z 0) (omega arith)

pub across_bytes : (xs : List ℕ) (l p o m : ℕ) → Bytes xs → Bytes (across xs l p o m)
unfolding across
across_bytes xs l p o zero h i = lit< tt
across_bytes xs l p o (suc m) h zero = h (o + p)
across_bytes xs l p o (suc m) h (suc i) = across_bytes xs l p (o + l) m h i

pub across-add : (xs ys : List ℕ) (l p o m : ℕ) → length xs ≡ length ys → across (xs ⊞ ys) l p o m ≡ across xs l p o m ⊞ across ys l p o m
unfolding across ◌⊞◌
across-add xs ys l p o zero e = refl
across-add xs ys l p o (suc m) e = ap₂ ◌∷◌ (add_at xs ys (o + p) e) (across-add xs ys l p (o + l) m e)

-- lists that agree at the places read
pub across_agree : (xs ys : List ℕ) (l p m : ℕ) → ((i : ℕ) → i < m → get_or xs (i * l + p) 0 ≡ get_or ys (i * l + p) 0)
    → across xs l p 0 m ≡ across ys l p 0 m
across_agree xs ys l p m h =
    ext_get_or 0 _ _ (across-length xs l p 0 m ∙ sym (across-length ys l p 0 m))
    (λ i k. at i (subst (λ (z : ℕ). i < z) (across-length xs l p 0 m) k))
  where
    at : (i : ℕ) → i < m → get_or (across xs l p 0 m) i 0 ≡ get_or (across ys l p 0 m) i 0
    at i k = across_first xs l p m i k ∙ h i k ∙ sym (across_first ys l p m i k)

-- columns read from a list that goes on after them
pub across-take : (xs : List ℕ) (l p m : ℕ) → p < l → across (take (m * l) xs) l p 0 m ≡ across xs l p 0 m
across-take xs l p m h = across_agree _ xs l p m (λ i k. get_or-take (m * l) xs (i * l + p) 0 (place_lt k h))

-- ---- parity

pub row_at-lt : (s : Shape) (ds : List ℕ) (j p : ℕ) → row_at s ds j p < 256
unfolding row_at
row_at-lt s ds j p = row_lt j (across ds s.l p 0 s.k)

-- no piggyback in a run below r
pub piggyback_none : (s : Shape) (ds : List ℕ) (i p : ℕ) → p / run_length s < plain_runs s → piggyback s ds i p ≡ 0
unfolding piggyback
piggyback_none s ds i p h =
    ap (λ (b : Bool). cond b 0 (row_at s ds (p / run_length s) (i * run_length s + p % run_length s))) (lt-ltb _ _ h)

pub piggyback_some : (s : Shape) (ds : List ℕ) (i p : ℕ) → plain_runs s ≤ p / run_length s
    → piggyback s ds i p ≡ row_at s ds (p / run_length s) (i * run_length s + p % run_length s)
unfolding piggyback
piggyback_some s ds i p h =
    ap (λ (b : Bool). cond b 0 (row_at s ds (p / run_length s) (i * run_length s + p % run_length s))) (le-ltb _ _ h)

pub piggyback-lt : (s : Shape) (ds : List ℕ) (i p : ℕ) → piggyback s ds i p < 256
unfolding piggyback
piggyback-lt s ds i p = go (ltb (p / run_length s) (plain_runs s))
  where
    go : (b : Bool) → cond b 0 (row_at s ds (p / run_length s) (i * run_length s + p % run_length s)) < 256
    go true = lit< tt
    go false = row_at-lt s ds (p / run_length s) (i * run_length s + p % run_length s)

-- parity by rows, and by check equations
pub parity_by_rows : (s : Shape) (ds : List ℕ) (i p : ℕ) → by_points s ≡ false → parity_byte s ds i p ≡ row_at s ds i p ⊕ piggyback s ds i p
unfolding parity_byte
parity_by_rows s ds i p e =
    ap (λ (b : Bool). cond b (get_or (solvedParity s.r (across ds s.l p 0 s.k)) i 0) (row_at s ds i p ⊕ piggyback s ds i p)) e

pub parity_by_points : (s : Shape) (ds : List ℕ) (i p : ℕ) → by_points s ≡ true
    → parity_byte s ds i p ≡ get_or (solvedParity s.r (across ds s.l p 0 s.k)) i 0
unfolding parity_byte
parity_by_points s ds i p e =
    ap (λ (b : Bool). cond b (get_or (solvedParity s.r (across ds s.l p 0 s.k)) i 0) (row_at s ds i p ⊕ piggyback s ds i p)) e

-- by rows, parity in a run below r
pub parity_below : (s : Shape) (ds : List ℕ) (i p : ℕ) → by_points s ≡ false → p / run_length s < plain_runs s → parity_byte s ds i p ≡ row_at s ds i p
parity_below s ds i p e h = parity_by_rows s ds i p e ∙ ap (λ (x : ℕ). row_at s ds i p ⊕ x) (piggyback_none s ds i p h) ∙ add-zero _

-- parity in a run from r on
pub parity_from : (s : Shape) (ds : List ℕ) (i p : ℕ) → by_points s ≡ false → plain_runs s ≤ p / run_length s
    → parity_byte s ds i p ≡ row_at s ds i p ⊕ row_at s ds (p / run_length s) (i * run_length s + p % run_length s)
parity_from s ds i p e h = parity_by_rows s ds i p e ∙ ap (λ (x : ℕ). row_at s ds i p ⊕ x) (piggyback_some s ds i p h)

-- parity of a plain stripe
pub plain_parity : (s : Shape) (ds : List ℕ) (i p : ℕ) → Allowed s → by_points s ≡ false → s.t ≡ 0 → p < s.l → parity_byte s ds i p ≡ row_at s ds i p
plain_parity s ds i p a b e h = parity_below s ds i p b (subst (λ (z : ℕ). z < plain_runs s) (sym first) a.parity_some)
  where
    first : p / run_length s ≡ 0
    first = ap (λ (z : ℕ). p / z) (plain_run_length s e) ∙ div-eq_of_lt h

pub parity_byte-lt : (s : Shape) (ds : List ℕ) (i p : ℕ) → parity_byte s ds i p < 256
unfolding parity_byte
parity_byte-lt s ds i p = go (by_points s)
  where
    go : (b : Bool) → cond b (get_or (solvedParity s.r (across ds s.l p 0 s.k)) i 0) (row_at s ds i p ⊕ piggyback s ds i p) < 256
    go true = solved-parity-bytes s.r (across ds s.l p 0 s.k) i
    go false = add-lt 8 _ _ (row_at-lt s ds i p) (piggyback-lt s ds i p)

pub parity-length : (s : Shape) (ds : List ℕ) → length (parity s ds) ≡ parity_length s
unfolding parity
parity-length s ds = tabulate-length (parity_length s) _

pub parity_at : (s : Shape) (ds : List ℕ) (i p : ℕ) → i < s.r → p < s.l → get_or (parity s ds) (i * s.l + p) 0 ≡ parity_byte s ds i p
unfolding parity
parity_at s ds i p hi hp =
    tabulate_at (parity_length s) _ (i * s.l + p) (place_lt hi hp) ∙ ap₂ (parity_byte s ds) (place_column i hp) (place_byte i hp)

pub parity_bytes : (s : Shape) (ds : List ℕ) → Bytes (parity s ds)
unfolding parity
parity_bytes s ds = tabulate_bytes (parity_length s) _ (λ n. parity_byte-lt s ds (n / s.l) (n % s.l))

-- a list that has the parity byte at every place is the parity
pub parity_exact : (s : Shape) (ds ps : List ℕ) → length ps ≡ parity_length s
    → ((i p : ℕ) → i < s.r → p < s.l → get_or ps (i * s.l + p) 0 ≡ parity_byte s ds i p) → ps ≡ parity s ds
parity_exact s ds ps e h =
    by_places s.r s.l ps (parity s ds) e (parity-length s ds) (λ i p hi hp. h i p hi hp ∙ sym (parity_at s ds i p hi hp))

-- ---- the data and the parity of a stripe

-- row j of the data of a stripe
pub row_at_stripe : (s : Shape) (xs : List ℕ) (j p : ℕ) → p < s.l → row_at s (data_of s xs) j p ≡ row j (across xs s.l p 0 s.k)
unfolding row_at
row_at_stripe s xs j p h = ap (row j) (across-take xs s.l p s.k h)

-- where the parity columns stand
pub parity_of_at : (s : Shape) (xs : List ℕ) (i p : ℕ) → get_or (parity_of s xs) (i * s.l + p) 0 ≡ get_or xs ((s.k + i) * s.l + p) 0
parity_of_at s xs i p = get_or-drop (data_length s) xs (i * s.l + p) 0 ∙ ap (λ (z : ℕ). get_or xs z 0) (omega arith)

pub parity_of-length : (s : Shape) (xs : List ℕ) → length xs ≡ stripe_length s → length (parity_of s xs) ≡ parity_length s
parity_of-length s xs e = length-drop (data_length s) xs ∙ omega arith

pub data_of-length : (s : Shape) (xs : List ℕ) → length xs ≡ stripe_length s → length (data_of s xs) ≡ data_length s
data_of-length s xs e = length-take-le (data_length s) xs (omega arith)

-- ---- the places that a piggyback is taken from

-- place p of a run from r on has its like in run i, for each i below r
pub run_place_lt : (s : Shape) (i p : ℕ) → Allowed s → i < s.r → p < s.l → plain_runs s ≤ p / run_length s → i * run_length s + p % run_length s < s.l
run_place_lt s i p a hi hp hr =
    subst (λ (z : ℕ). i * run_length s + p % run_length s < z) a.cut
    (place_lt {n = runs s}
    (omega (arith, place_column_lt p (runs s) (run_length s) (subst (λ (z : ℕ). p < z) (sym a.cut) hp)))
    (mod-lt p a.run_some))

pub run_place_run : (s : Shape) (i p : ℕ) → Allowed s → (i * run_length s + p % run_length s) / run_length s ≡ i
run_place_run s i p a = place_column i (mod-lt p a.run_some)
