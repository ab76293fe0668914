-- What a buffer holds that constants were filled into: what it held, or the weights at points that were filled into buffers and read again.
use mathlib.Core.Path.{◌≡◌, refl, ap, ap₂, ◌∙◌}
use mathlib.Core.Bool.{Bool, true, false, cond, ◌&&◌, and-eq-true_iff}
use mathlib.Core.List.{List}
use Prim.Native.Nat.{ℕ, ◌+◌, ◌-◌, ◌*◌, ◌<◌, ◌≤◌}
use native.Mathlib.Omega.{arith}
use lib.Dec.{leb, eqb}
use borrow.Author.Tests.{le-leb, lt-leb, leb-true}
use borrow.Rule.Slice.PartMut.{mid_of, put_mid, post_of, mid_len}
use lib.ListN.{length, take, length-append}
use lib.Seq.{take_at}
use Rattle.field.specs.Field.{gpow}
use Rattle.field.specs.Bytes.{tabulate}
use Rattle.points.specs.Points.{data_points, parity_points, points}
use Rattle.points.specs.Mending.{entries}
use Rattle.points.specs.Folding.{fold_points}
use Rattle.points.proofs.Distinct.{parity_points-length}
use Rattle.points.proofs.Mended.{entries-length}
use Rattle.lagrange.specs.Weights.{weights_fit, weighed}
use Rattle.lagrange.proofs.Filled.{weighed_left}
use Rattle.constants.specs.Constants.{encodes, folds, mends}
use Rattle.constants.proofs.Points.{part_filled}

-- ---- the first n places of a buffer, filled with xs and read again

module _ (zs : List ℕ) {ys : List ℕ} (xs : List ℕ) (n : ℕ) (long : length xs ≡ n) (is : ys ≡ xs) where
  abbrev front : List ℕ
  front = put_mid 0 (n - 0) zs ys

  pub front_fits : n ≤ length front
  front_fits = omega (arith, length-append ys (post_of 0 (n - 0) zs), ap length is, long)

  pub front_read : mid_of 0 (n - 0) front ≡ xs
  front_read =
      let same : n - 0 ≡ n = omega arith in
      ap (λ (m : ℕ). take m front) same ∙ take_at ys (post_of 0 (n - 0) zs) n (ap length is ∙ long) ∙ is

pub parity_filled : (r : ℕ) (zs ys : List ℕ) → r ≤ length zs → ys ≡ tabulate (length (mid_of 0 (r - 0) zs)) (λ j. gpow (254 - j))
    → ys ≡ parity_points r
unfolding parity_points
parity_filled r zs ys h is =
    let same : r - 0 ≡ r = omega arith in
    part_filled (λ j. gpow (254 - j)) 0 r zs ys h is ∙ ap (λ (n : ℕ). tabulate n (λ j. gpow (254 - j))) same

pub data_filled : (k : ℕ) (zs ys : List ℕ) → k ≤ length zs → ys ≡ tabulate (length (mid_of 0 (k - 0) zs)) gpow → ys ≡ data_points k
unfolding data_points
data_filled k zs ys h is =
    let same : k - 0 ≡ k = omega arith in part_filled gpow 0 k zs ys h is ∙ ap (λ (n : ℕ). tabulate n gpow) same

pub all_filled : (k r : ℕ) (zs ys : List ℕ) → k + r ≤ length zs → ys ≡ points k (length (mid_of 0 (k + r - 0) zs) - k) → ys ≡ points k r
all_filled k r zs ys h is =
    let rest : length (mid_of 0 (k + r - 0) zs) - k ≡ r = omega (arith, mid_len 0 (k + r) zs h) in is ∙ ap (points k) rest

-- ---- numbers that do not fit

-- too many rows, or too many columns
weighed_high : (bs ys out : List ℕ) → 16 < length bs → out ≡ weighed bs ys out
unfolding weights_fit
weighed_high bs ys out h = weighed_left bs ys out (simp (lt-leb _ _ h))

weighed_wide : (bs ys out : List ℕ) → 255 < length ys → out ≡ weighed bs ys out
unfolding weights_fit
weighed_wide bs ys out h = weighed_left bs ys out (go (leb (length bs) 16))
  where
    go : (t : Bool) → (t && leb (length ys) 255 && eqb (length out) (length bs * length ys)) ≡ false
    go true = simp (lt-leb _ _ h)
    go false = refl

-- whatever the test, the same
either : (t : Bool) (xs out : List ℕ) → out ≡ xs → out ≡ cond t xs out
either true xs out e = e
either false xs out e = refl

-- ---- encoding

pub encodes_left : (k r : ℕ) (out : List ℕ) → 255 < k + r → out ≡ encodes k r out
unfolding encodes
encodes_left k r out h = simp (lt-leb _ _ h)

pub encodes_high : (k r : ℕ) (out : List ℕ) → 16 < r → out ≡ encodes k r out
unfolding encodes
encodes_high k r out h = either (leb (k + r) 255) _ out (weighed_high (parity_points r) (data_points k) out (omega (arith, parity_points-length r)))

pub encodes_made : (k r : ℕ) {bs ys : List ℕ} (out : List ℕ) {out' : List ℕ} → k + r ≤ 255 → bs ≡ parity_points r → ys ≡ data_points k
    → out' ≡ weighed bs ys out → out' ≡ encodes k r out
unfolding encodes
encodes_made k r out h new old is = is ∙ ap₂ (λ (b y : List ℕ). weighed b y out) new old ∙ simp (le-leb _ _ h)

-- ---- folding

pub folds_left : (k r n : ℕ) (out : List ℕ) → (k ≤ 255 → r ≤ 16 → n ≤ 255 → n * r ≤ 255 → ⊥) → out ≡ folds k r n out
unfolding folds
folds_left k r n out unfit = go (leb k 255 && leb r 16 && leb n 255 && leb (n * r) 255) refl
  where
    go : (t : Bool) → (leb k 255 && leb r 16 && leb n 255 && leb (n * r) 255) ≡ t → out ≡ cond t (weighed (parity_points r) (fold_points k r n) out) out
    go false e = refl
    go true e =
        let a = (and-eq-true_iff _ _).0 e in
        let b = (and-eq-true_iff _ _).0 a.0 in
        let d = (and-eq-true_iff _ _).0 b.0 in
        absurd (unfit (leb-true _ _ d.0) (leb-true _ _ d.1) (leb-true _ _ b.1) (leb-true _ _ a.1))

pub folds_made : (k r n : ℕ) {bs ys : List ℕ} (out : List ℕ) {out' : List ℕ} → k ≤ 255 → r ≤ 16 → n ≤ 255 → n * r ≤ 255 → bs ≡ parity_points r
    → ys ≡ fold_points k r n → out' ≡ weighed bs ys out → out' ≡ folds k r n out
unfolding folds
folds_made k r n out hk hr hn hm new old is =
    is ∙ ap₂ (λ (b y : List ℕ). weighed b y out) new old ∙ simp (le-leb _ _ hk, le-leb _ _ hr, le-leb _ _ hn, le-leb _ _ hm)

-- ---- mending

pub mends_left : (k r : ℕ) (is cs out : List ℕ) → 255 < k + r → out ≡ mends k r is cs out
unfolding mends
mends_left k r is cs out h = simp (lt-leb _ _ h)

pub mends_high : (k r : ℕ) (is cs out : List ℕ) → 16 < length is → out ≡ mends k r is cs out
unfolding mends
mends_high k r is cs out h =
    either (leb (k + r) 255) _ out (weighed_high (entries (points k r) is) (entries (points k r) cs) out (omega (arith, entries-length (points k r) is)))

pub mends_wide : (k r : ℕ) (is cs out : List ℕ) → 255 < length cs → out ≡ mends k r is cs out
unfolding mends
mends_wide k r is cs out h =
    either (leb (k + r) 255) _ out (weighed_wide (entries (points k r) is) (entries (points k r) cs) out (omega (arith, entries-length (points k r) cs)))

pub mends_made : (k r : ℕ) (is cs : List ℕ) {bs ys : List ℕ} (out : List ℕ) {out' : List ℕ} → k + r ≤ 255 → bs ≡ entries (points k r) is
    → ys ≡ entries (points k r) cs → out' ≡ weighed bs ys out → out' ≡ mends k r is cs out
unfolding mends
mends_made k r is cs out h new old e = e ∙ ap₂ (λ (b y : List ℕ). weighed b y out) new old ∙ simp (le-leb _ _ h)
