-- Stripes are taken in from the last to the first, by Horner's rule: each multiplies what is there by its weight and adds its share.
use mathlib.Core.Path.{◌≡◌, sym, ap, ap₂, ◌∙◌, subst}
use mathlib.Core.Bool.{Bool, true, false}
use mathlib.Core.List.{List, [], ◌∷◌}
use mathlib.Core.Logic.{◌⊎◌, inl, inr}
use Prim.Native.Nat.{ℕ, zero, suc, ◌+◌, ◌-◌, ◌*◌, ◌/◌, ◌%◌, ◌<◌, ◌≤◌}
use native.Mathlib.Nat.{mul-div_cancel_left, zero-mul, not-suc-le-zero, le_of_suc-le-suc}
use native.Mathlib.Omega.{arith}
use native.Mathlib.Numerals.{add-one}
use lib.Dec.{eqb}
use lib.ListN.{length, get_or, take, drop, drop_of_length-le}
use lib.Seq.{ext_get_or, drop-drop}
use borrow.Author.Tests.{eq-eqb, ne_eqb}
use Rattle.field.specs.Field.{◌⊕◌, ◌⊗◌, gpow}
use Rattle.field.specs.Bytes.{Bytes}
use Rattle.field.proofs.Xor.{zero-add, add-zero, add_comm}
use Rattle.field.proofs.Mul.{mul-zero}
use Rattle.field.proofs.Bytes.{tabulate-length, tabulate_at, take_bytes, drop_bytes}
use Rattle.field.proofs.Cases.{below_or_from}
use Rattle.lanes.proofs.Parts.{part_length}
use Rattle.stripe.specs.declared.Shape.{Shape}
use Rattle.stripe.specs.Stripe.{by_points}
use Rattle.stripe.proofs.Lent.{within}
use Rattle.plan.specs.Plan.{fold_refusal, kind_of, bytes_each, bytes_read}
use Rattle.plan.proofs.Foldable.{foldable}
use Rattle.plan.proofs.Costs.{bytes_read_lem}
use Rattle.fold.specs.Fold.{share, fold_byte, fold_stripes, fold_of}
use Rattle.points.specs.Folding.{parts}
use Rattle.points.proofs.Joined.{parts_count}
use Rattle.fold.specs.Shares.{stays, taken}
use Rattle.fold.proofs.Laws.{fold_none, fold_cons, stripes_length, stripes_place, fold_is}

-- ---- one stripe more

module _ (s : Shape) (f : ℕ) (rows : by_points s ≡ false) (xs : List ℕ) (bytes : Bytes xs) where
  by_places : (first : Bool) (ys : List ℕ) (xss : List (List ℕ))
      → ((i : ℕ) → i < f * s.l
      → stays first (i / s.l * s.k) (get_or ys i 0) ⊕ share (kind_of s f) s xs (i / s.l) (i % s.l) ≡ fold_byte (kind_of s f) s (xs ∷ xss) (i / s.l) (i % s.l))
      → taken s f first xs ys ≡ fold_stripes s f (xs ∷ xss)
  unfolding taken
  by_places first ys xss h =
      ext_get_or 0 (taken s f first xs ys) (fold_stripes s f (xs ∷ xss)) (tabulate-length (f * s.l) _ ∙ sym (stripes_length s f (xs ∷ xss) rows))
      (λ i l.
      let k : i < f * s.l = subst (λ (x : ℕ). i < x) (tabulate-length (f * s.l) _) l in
      tabulate_at (f * s.l) _ i k ∙ h i k ∙ sym (stripes_place s f (xs ∷ xss) rows i k))

  -- the first stripe that is taken in
  pub taken_first : (ys : List ℕ) → taken s f true xs ys ≡ fold_stripes s f (xs ∷ [])
  unfolding stays
  taken_first ys =
      by_places true ys []
      (λ i h.
      zero-add _
      ∙ sym (fold_cons (kind_of s f) s xs [] (i / s.l) (i % s.l) bytes
      ∙ ap (λ (v : ℕ). share (kind_of s f) s xs (i / s.l) (i % s.l) ⊕ gpow (i / s.l * s.k) ⊗ v) (fold_none (kind_of s f) s (i / s.l) (i % s.l))
      ∙ ap (λ (v : ℕ). share (kind_of s f) s xs (i / s.l) (i % s.l) ⊕ v) (mul-zero _) ∙ add-zero _))

  -- a stripe before those that were taken in
  pub taken_next : (xss : List (List ℕ)) → taken s f false xs (fold_stripes s f xss) ≡ fold_stripes s f (xs ∷ xss)
  unfolding stays
  taken_next xss =
      by_places false (fold_stripes s f xss) xss
      (λ i h.
      ap (λ (v : ℕ). gpow (i / s.l * s.k) ⊗ v ⊕ share (kind_of s f) s xs (i / s.l) (i % s.l)) (stripes_place s f xss rows i h)
      ∙ add_comm _ _ ∙ sym (fold_cons (kind_of s f) s xs xss (i / s.l) (i % s.l) bytes))

-- ---- the stripes within the bytes read

part_is : (m n : ℕ) (xs : List ℕ) (l : ℕ) → l < n → drop l (parts m n xs) ≡ take m (drop (l * m) xs) ∷ drop (suc l) (parts m n xs)
unfolding parts
part_is m zero xs l h = absurd (not-suc-le-zero h)
part_is m (suc n) xs zero h = ap (λ (o : ℕ). take m (drop o xs) ∷ parts m n (drop m xs)) (sym (zero-mul m))
part_is m (suc n) xs (suc l) h =
    let e : m + l * m ≡ suc l * m = omega arith in
    part_is m n (drop m xs) l (le_of_suc-le-suc h)
    ∙ ap (λ (ys : List ℕ). take m ys ∷ drop (suc l) (parts m n (drop m xs))) (drop-drop (l * m) m xs ∙ ap (λ (o : ℕ). drop o xs) e)

bytes_part : (m o : ℕ) (xs : List ℕ) → Bytes xs → Bytes (take m (drop o xs))
bytes_part m o xs h = take_bytes m (drop o xs) (drop_bytes o xs h)

-- ---- from the last to the first

-- the wide parity once the stripes from l on are taken in, of which m bytes each are read
abbrev pub from : Shape → ℕ → ℕ → ℕ → List ℕ → ℕ → List ℕ
from s f m n d l = fold_stripes s f (drop l (parts m n d))

module _ (s : Shape) (f m n : ℕ) (rows : by_points s ≡ false) (d : List ℕ) (bytes : Bytes d) (l : ℕ) where
  part_same : take (l * m + m - l * m) (drop (l * m) d) ≡ take m (drop (l * m) d)
  part_same = let e : l * m + m - l * m ≡ m = omega arith in ap (λ (o : ℕ). take o (drop (l * m) d)) e

  sum_first : (ys zs : List ℕ) → l + 1 ≡ n → zs ≡ taken s f true (take (l * m + m - l * m) (drop (l * m) d)) ys → zs ≡ from s f m n d l
  sum_first ys zs e is =
      is ∙ ap (λ (xs : List ℕ). taken s f true xs ys) part_same ∙ taken_first s f rows _ (bytes_part m (l * m) d bytes) ys
      ∙ ap (fold_stripes s f)
      (sym (part_is m n d l (omega arith)
      ∙ ap (λ (xss : List (List ℕ)). take m (drop (l * m) d) ∷ xss) (drop_of_length-le (parts m n d) {i = suc l} (omega (arith, parts_count m n d)))))

  sum_next : (ys zs : List ℕ) → l + 1 ≤ n → ys ≡ from s f m n d (l + 1)
      → zs ≡ taken s f false (take (l * m + m - l * m) (drop (l * m) d)) ys → zs ≡ from s f m n d l
  sum_next ys zs h e is =
      is ∙ ap₂ (taken s f false) part_same (e ∙ ap (from s f m n d) (add-one l))
      ∙ taken_next s f rows _ (bytes_part m (l * m) d bytes) (drop (suc l) (parts m n d)) ∙ ap (fold_stripes s f) (sym (part_is m n d l (omega arith)))

  pub sum_turn : (ys zs : List ℕ) → l < n → (l + 1 < n → ys ≡ from s f m n d (l + 1))
      → zs ≡ taken s f (eqb l (n - 1)) (take (l * m + m - l * m) (drop (l * m) d)) ys → zs ≡ from s f m n d l
  sum_turn ys zs h e is = go (below_or_from (l + 1) n)
    where
      by : (first : Bool) → eqb l (n - 1) ≡ first → zs ≡ taken s f first (take (l * m + m - l * m) (drop (l * m) d)) ys
      by first q = is ∙ ap (λ (x : Bool). taken s f x (take (l * m + m - l * m) (drop (l * m) d)) ys) q

      go : (l + 1 < n) ⊎ (n ≤ l + 1) → zs ≡ from s f m n d l
      go (inl g) = sum_next ys zs (omega arith) (e g) (by false (ne_eqb l (n - 1) (λ q. omega arith)))
      go (inr g) = sum_first ys zs (omega arith) (by true (eq-eqb l (n - 1) (omega arith)))

  pub sum_done : (ys : List ℕ) → l ≤ 0 → ys ≡ from s f m n d l → ys ≡ fold_stripes s f (parts m n d)
  sum_done ys h e = let z : l ≡ 0 = omega arith in e ∙ ap (from s f m n d) z

-- ---- the bytes read of each stripe are those read in all by the number of stripes

module _ (s : Shape) (n f : ℕ) (d : List ℕ) (passed : fold_refusal s n f ≡ 0) (long : length d ≡ bytes_read s n f) where
  abbrev each : ℕ
  each = length d / n

  long_is : length d ≡ n * bytes_each (kind_of s f) s f
  long_is = long ∙ bytes_read_lem s n f passed

  each_is : each ≡ bytes_each (kind_of s f) s f
  each_is = ap (λ (x : ℕ). x / n) long_is ∙ mul-div_cancel_left (bytes_each (kind_of s f) s f) (let g = (foldable s n f passed).stripes_some in omega arith)

  pub each_fits : (l : ℕ) → l < n → l * each + each ≤ length d
  each_fits l h = within l n each (length d) h (long_is ∙ ap (λ (x : ℕ). n * x) (sym each_is))

  pub each_part : (l : ℕ) → l < n → length (take (l * each + each - l * each) (drop (l * each) d)) ≡ bytes_each (kind_of s f) s f
  each_part l h = part_length d (l * each) each (each_fits l h) ∙ each_is

  pub all_taken : (ys : List ℕ) → ys ≡ fold_stripes s f (parts each n d) → ys ≡ fold_of s n f d
  all_taken ys e = e ∙ ap (λ (m : ℕ). fold_stripes s f (parts m n d)) each_is ∙ sym (fold_is s n f d)
