-- Parity by definition: the bytes that make every sum below r zero, and no others do. The parity points are distinct, so this is the
-- one solution of the data's rows there.
use mathlib.Core.Path.{◌≡◌, sym, ap, ap₂, ◌∙◌, subst}
use mathlib.Core.Logic.{◌↔◌}
use mathlib.Core.List.{List, ◌++◌}
use Prim.Native.Nat.{ℕ, ◌+◌, ◌<◌, ◌≤◌}
use native.Mathlib.Omega.{arith}
use lib.ListN.{length, take, drop, length-append, length-drop, take-append-drop}
use lib.Seq.{length-take-le}
use Rattle.field.specs.Field.{◌⊕◌}
use Rattle.field.specs.Bytes.{Bytes}
use Rattle.field.specs.Row.{row}
use Rattle.field.proofs.Xor.{add_self}
use Rattle.field.proofs.Powers.{sum_zero}
use Rattle.field.proofs.Bytes.{append_bytes, take_bytes, drop_bytes}
use Rattle.field.proofs.Rows.{row_lt}
use Rattle.points.specs.Points.{data_points, parity_points, points, sum_at, solve_at, parity_sum, check_sum, Checked, parity_of}
use Rattle.points.specs.Mending.{Codeword}
use Rattle.points.proofs.Sums.{sum_append, solve_at-length, solve_at_bytes, solve_at_same, solved_at, solve_at_only, row_sum, parity_sum_lem}
use Rattle.points.proofs.Distinct.{data_points-length, parity_points-length, parity_points_bytes, parity_points_apart, points-length}

-- ---- solutions at the parity points

-- r bytes have these sums
pub parity_sum_of : (r : ℕ) (ps : List ℕ) (s : ℕ) → length ps ≡ r → parity_sum s ps ≡ sum_at (parity_points r) ps s
parity_sum_of r ps s e = sym (parity_sum_lem s ps) ∙ ap (λ (n : ℕ). sum_at (parity_points n) ps s) e

pub parity_solution_length : (r : ℕ) (t : ℕ → ℕ) → length (solve_at (parity_points r) t) ≡ r
parity_solution_length r t = solve_at-length (parity_points r) t ∙ parity_points-length r

pub parity_solution : (r : ℕ) (t : ℕ → ℕ) → r ≤ 255 → ((s : ℕ) → t s < 256) → (s : ℕ) → s < r → parity_sum s (solve_at (parity_points r) t) ≡ t s
parity_solution r t h b s l =
    parity_sum_of r (solve_at (parity_points r) t) s (parity_solution_length r t)
    ∙ solved_at (parity_points r) t (parity_points_bytes r) (parity_points_apart r h) b s (subst (λ (n : ℕ). s < n) (sym (parity_points-length r)) l)

pub parity_solution_only : (r : ℕ) (t : ℕ → ℕ) (ps : List ℕ) → r ≤ 255 → Bytes ps → length ps ≡ r → ((s : ℕ) → s < r → parity_sum s ps ≡ t s)
    → ps ≡ solve_at (parity_points r) t
parity_solution_only r t ps h b e g =
    solve_at_only (parity_points r) ps t (parity_points_bytes r) (parity_points_apart r h) b (e ∙ sym (parity_points-length r))
    (λ u l. sym (parity_sum_of r ps u e) ∙ g u (subst (λ (n : ℕ). u < n) (parity_points-length r) l))

pub parity_solution_same : (r : ℕ) (t t' : ℕ → ℕ) → ((s : ℕ) → s < r → t s ≡ t' s) → solve_at (parity_points r) t ≡ solve_at (parity_points r) t'
parity_solution_same r t t' h = solve_at_same (parity_points r) t t' (λ u l. h u (subst (λ (n : ℕ). u < n) (parity_points-length r) l))

-- ---- the parity of data

pub parity-length : (r : ℕ) (ds : List ℕ) → length (parity_of r ds) ≡ r
unfolding parity_of
parity-length r ds = parity_solution_length r _

pub parity_bytes : (r : ℕ) (ds : List ℕ) → Bytes (parity_of r ds)
unfolding parity_of
parity_bytes r ds = solve_at_bytes (parity_points r) _

-- where all sums are zero the parity's part is the data's row
pub checked_rows : (r : ℕ) (ds ps : List ℕ) → Checked r ds ps → (s : ℕ) → s < r → row s ds ≡ parity_sum s ps
unfolding check_sum
checked_rows r ds ps h s l = sum_zero (row s ds) (parity_sum s ps) (h s l)

pub rows_checked : (r : ℕ) (ds ps : List ℕ) → ((s : ℕ) → s < r → row s ds ≡ parity_sum s ps) → Checked r ds ps
unfolding check_sum
rows_checked r ds ps h s l = ap (λ (x : ℕ). x ⊕ parity_sum s ps) (h s l) ∙ add_self (parity_sum s ps)

-- the parity makes all sums zero
pub parity_checked : (r : ℕ) (ds : List ℕ) → r ≤ 255 → Checked r ds (parity_of r ds)
unfolding parity_of
parity_checked r ds h = rows_checked r ds _ (λ s l. sym (parity_solution r (λ u. row u ds) h (λ u. row_lt u ds) s l))

-- and nothing else does
pub parity_only : (r : ℕ) (ds ps : List ℕ) → r ≤ 255 → Bytes ps → length ps ≡ r → Checked r ds ps → ps ≡ parity_of r ds
unfolding parity_of
parity_only r ds ps h b e c = parity_solution_only r (λ u. row u ds) ps h b e (λ s l. sym (checked_rows r ds ps c s l))

pub checked_parity : (r : ℕ) (ds ps : List ℕ) → r ≤ 255 → Bytes ps → length ps ≡ r → Checked r ds ps ↔ (ps ≡ parity_of r ds)
checked_parity r ds ps h b e = (parity_only r ds ps h b e, λ q. subst (Checked r ds) (sym q) (parity_checked r ds h))

-- ---- data and parity as one word over the points of all positions

pub word_sum : (k r : ℕ) (ds ps : List ℕ) (s : ℕ) → length ds ≡ k → length ps ≡ r → sum_at (points k r) (ds ++ ps) s ≡ check_sum s ds ps
unfolding points check_sum
word_sum k r ds ps s e f =
    sum_append (data_points k) (parity_points r) ds ps s (data_points-length k ∙ sym e)
    ∙ ap₂ ◌⊕◌ (ap (λ (n : ℕ). sum_at (data_points n) ds s) (sym e) ∙ row_sum s ds) (sym (parity_sum_of r ps s f))

pub checked_codeword : (k r : ℕ) (ds ps : List ℕ) → Bytes ds → Bytes ps → length ds ≡ k → length ps ≡ r → Checked r ds ps ↔ Codeword k r (ds ++ ps)
checked_codeword k r ds ps bd bp e f = (
  λ c.
      record {
        bytes = append_bytes ds ps bd bp;
        long = length-append ds ps ∙ ap₂ ◌+◌ e f ∙ sym (points-length k r);
        zero_sums = λ s l. word_sum k r ds ps s e f ∙ c s l;
      },
  λ w s l. sym (word_sum k r ds ps s e f) ∙ w.zero_sums s l,
)

-- the data and their parity are a codeword
pub encoded_codeword : (k r : ℕ) (ds : List ℕ) → r ≤ 255 → Bytes ds → length ds ≡ k → Codeword k r (ds ++ parity_of r ds)
encoded_codeword k r ds h b e = (checked_codeword k r ds (parity_of r ds) b (parity_bytes r ds) e (parity-length r ds)).0 (parity_checked r ds h)

-- and every codeword is so
pub codeword_encoded : (k r : ℕ) (xs : List ℕ) → r ≤ 255 → Codeword k r xs → xs ≡ take k xs ++ parity_of r (take k xs)
codeword_encoded k r xs h w = sym (take-append-drop k xs) ∙ ap (λ (ps : List ℕ). take k xs ++ ps) exact
  where
    long : length xs ≡ k + r
    long = w.long ∙ points-length k r

    data_long : length (take k xs) ≡ k
    data_long = length-take-le k xs (omega (arith, long))

    parity_long : length (drop k xs) ≡ r
    parity_long = length-drop k xs ∙ omega (arith, long)

    whole : Codeword k r (take k xs ++ drop k xs)
    whole = subst (Codeword k r) (sym (take-append-drop k xs)) w

    exact : drop k xs ≡ parity_of r (take k xs)
    exact =
        parity_only r (take k xs) (drop k xs) h (drop_bytes k xs w.bytes) parity_long
        ((checked_codeword k r (take k xs) (drop k xs) (take_bytes k xs w.bytes) (drop_bytes k xs w.bytes) data_long parity_long).1 whole)
