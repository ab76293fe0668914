-- What is filled in where the numbers fit: the constants by definition, and how many they are.
use mathlib.Core.Path.{◌≡◌, sym, ap, ap₂, ◌∙◌}
use mathlib.Core.Bool.{Bool, cond, ◌&&◌}
use mathlib.Core.Logic.{◌⊎◌, inl, inr}
use mathlib.Core.List.{List}
use Prim.Native.Nat.{ℕ, ◌+◌, ◌-◌, ◌*◌, ◌<◌, ◌≤◌}
use native.Mathlib.Nat.{mul-le-mul, mul-le-mul_left, add-mul}
use native.Mathlib.Omega.{arith}
use lib.ListN.{length}
use borrow.Author.Tests.{le-leb, eq-eqb}
use Rattle.field.proofs.Cases.{below_or_from}
use Rattle.points.specs.Points.{data_points, parity_points}
use Rattle.points.specs.Folding.{fold_points}
use Rattle.points.proofs.Distinct.{data_points-length, parity_points-length}
use Rattle.lagrange.specs.Weights.{weights_fit, weights_of, weighed}
use Rattle.lagrange.proofs.Filled.{weights_length}
use Rattle.constants.specs.Constants.{most_constants, encoding_of, folding_of, encodes, folds}
use Rattle.constants.proofs.Points.{fold_points-length}

-- r rows of constants for m columns that leave room for r more
pub few_constants : (r m : ℕ) → r ≤ 16 → m + r ≤ 255 → r * m ≤ most_constants
few_constants r m h e = go (below_or_from m 16)
  where
    go : (m < 16) ⊎ (16 ≤ m) → r * m ≤ most_constants
    go (inl g) = let g' : m ≤ 16 = omega arith in omega (arith, mul-le-mul {n₂ = 16} {m₂ = 16} h g')
    go (inr g) =
        let all : (r + (16 - r)) * m ≡ 16 * m = ap (λ (x : ℕ). x * m) (let same : r + (16 - r) ≡ 16 = omega arith in same) in
        omega (arith, all, add-mul r (16 - r) m, mul-le-mul_left (16 - r) g)

-- what fits is what is made
pub weights_made : (bs ys out : List ℕ) (r m : ℕ) → length bs ≡ r → length ys ≡ m → r ≤ 16 → m ≤ 255 → length out ≡ r * m → weighed bs ys out ≡ weights_of bs ys
unfolding weighed weights_fit
weights_made bs ys out r m e f h n g =
    ap (λ (b : Bool). cond b (weights_of bs ys) out)
    (ap₂ ◌&&◌ (ap₂ ◌&&◌ (le-leb (length bs) 16 (omega arith)) (le-leb (length ys) 255 (omega arith)))
    (eq-eqb (length out) (length bs * length ys) (g ∙ ap₂ ◌*◌ (sym e) (sym f))))

pub encoding_made : (k r : ℕ) (out : List ℕ) → k + r ≤ 255 → r ≤ 16 → length out ≡ r * k → encodes k r out ≡ encoding_of k r
unfolding encodes encoding_of
encoding_made k r out fits few e =
    ap (λ (b : Bool). cond b (weighed (parity_points r) (data_points k) out) out) (le-leb (k + r) 255 fits)
    ∙ weights_made (parity_points r) (data_points k) out r k (parity_points-length r) (data_points-length k) few (omega arith) e

pub encoding_length : (k r : ℕ) → length (encoding_of k r) ≡ r * k
unfolding encoding_of
encoding_length k r = weights_length (parity_points r) (data_points k) ∙ ap₂ ◌*◌ (parity_points-length r) (data_points-length k)

pub folding_made : (k r n : ℕ) (out : List ℕ) → k ≤ 255 → r ≤ 16 → n ≤ 255 → n * r ≤ 255 → length out ≡ r * (n * r) → folds k r n out ≡ folding_of k r n
unfolding folds folding_of
folding_made k r n out hk hr hn few e =
    ap (λ (b : Bool). cond b (weighed (parity_points r) (fold_points k r n) out) out)
    (ap₂ ◌&&◌ (ap₂ ◌&&◌ (ap₂ ◌&&◌ (le-leb k 255 hk) (le-leb r 16 hr)) (le-leb n 255 hn)) (le-leb (n * r) 255 few))
    ∙ weights_made (parity_points r) (fold_points k r n) out r (n * r) (parity_points-length r) (fold_points-length k r n) hr few e

pub folding_length : (k r n : ℕ) → length (folding_of k r n) ≡ r * (n * r)
unfolding folding_of
folding_length k r n = weights_length (parity_points r) (fold_points k r n) ∙ ap₂ ◌*◌ (parity_points-length r) (fold_points-length k r n)
