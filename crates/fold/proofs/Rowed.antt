-- The rows of the data read of a prepared stripe are the parity of a plain stripe with those data and f parity columns.
use mathlib.Core.Path.{◌≡◌, refl, sym, ap, ap₂, ◌∙◌, subst}
use mathlib.Core.Bool.{false}
use mathlib.Core.List.{List}
use mathlib.Core.Logic.{◌⊎◌, inl, inr}
use Prim.Native.Nat.{ℕ, ◌+◌, ◌-◌, ◌*◌, ◌<◌, ◌≤◌}
use native.Mathlib.Nat.{mul-le-mul, mul-le-mul_right, mul_left_comm}
use native.Mathlib.Omega.{arith}
use lib.ListN.{length, get_or, take}
use lib.Seq.{length-take-le}
use borrow.Author.Tests.{le-leb, eq-eqb}
use Rattle.field.specs.Row.{row}
use Rattle.stripe.specs.declared.Shape.{Shape}
use Rattle.stripe.specs.Shape.{shape_refusal, most_data, most_rows, most_parity, most_length}
use Rattle.stripe.specs.Stripe.{across, row_at, parity, run_length, by_points}
use Rattle.stripe.specs.Column.{lent_refusal}
use Rattle.stripe.proofs.Allowed.{Allowed, Prepared, allowed, few_by_rows}
use Rattle.stripe.proofs.Places.{parity-length, parity_at, plain_parity, across-take}
use Rattle.coding.specs.Encode.{encoded, encoded_by_rows}
use Rattle.coding.proofs.Encoded.{encoded_by_rows_lem}
use Rattle.plan.specs.declared.Kind.{Kind}
use Rattle.plan.specs.Plan.{kind_of, bytes_each}
use Rattle.plan.proofs.Foldable.{IsA, IsB, new_least, new_limit, new_few}
use Rattle.plan.proofs.Counted.{runs_sum}
use Rattle.fold.specs.Fold.{part_bytes}
use Rattle.fold.specs.Shares.{ReadsParity, IsRows}
use Rattle.fold.proofs.Prepared.{run_whole, each_is}
use Rattle.fold.proofs.Filling.{reads_kinds}

-- of a plain stripe no data are read
pub no_part : (s : Shape) → s.t ≡ 0 → part_bytes s ≡ 0
no_part s e = let z : s.t - s.r ≡ 0 = omega arith in ap (λ (x : ℕ). x * run_length s) z ∙ omega arith

-- the parts are no longer than the columns, and the rows of all of them fit two columns
module _ (s : Shape) (a : Allowed s) (h : Prepared s) where
  pub part_most : part_bytes s ≤ s.l
  part_most = let g : s.t - s.r ≤ s.t = omega arith in omega (arith, mul-le-mul_right (run_length s) g, run_whole s h a)

  pub rows_most : s.t * part_bytes s ≤ 8192
  rows_most =
      let two : s.t - s.r ≤ 2 = let g = h.mark_most in let r = a.parity_some in omega arith in
      let swap : s.t * part_bytes s ≡ (s.t - s.r) * s.l =
      mul_left_comm s.t (s.t - s.r) (run_length s) ∙ ap (λ (x : ℕ). (s.t - s.r) * x) (run_whole s h a) in
      omega (arith, swap, mul-le-mul {n₂ = 2} two a.length_most)

module _ (s : Shape) (f : ℕ) (reads : ReadsParity s f) (some : part_bytes s ≡ 0 → ⊥) where
  good : Allowed s
  good = allowed s reads.shape

  is_b : IsB s f
  is_b = go (reads_kinds s f reads)
    where
      go : IsA s f ⊎ IsB s f → IsB s f
      go (inl h) = absurd (some (no_part s h.plain))
      go (inr h) = h

  -- the data read lie first
  pub part_in : s.k * part_bytes s ≤ bytes_each (kind_of s f) s f
  part_in =
      subst (λ (κ : Kind). s.k * part_bytes s ≤ bytes_each κ s f) (sym is_b.kind)
      (omega (arith, each_is s is_b.prepared f, runs_sum s.k s.r s.t (run_length s) s.l (run_whole s is_b.prepared good)))

  abbrev plain : Shape
  plain = record { k = s.k; r = f; t = 0; l = part_bytes s }

  few : f ≤ most_rows
  few = new_few s f reads.shape reads.new reads.rows

  plain_by_rows : by_points plain ≡ false
  plain_by_rows = few_by_rows plain few

  plain_allowed : shape_refusal plain ≡ 0
  unfolding shape_refusal
  plain_allowed =
      let least : 1 ≤ part_bytes s = omega arith in
      let most : part_bytes s ≤ most_length = omega (arith, part_most s good is_b.prepared, good.length_most) in
      simp (
        le-leb 1 s.k good.data_some,
        le-leb s.k most_data good.data_most,
        le-leb 1 f (new_least s f reads.shape reads.new),
        le-leb f most_rows few,
        le-leb f most_parity (new_limit s f reads.shape reads.new),
        le-leb 1 (part_bytes s) least,
        le-leb (part_bytes s) most_length most,
      )

  pub rows_done : (xs ys zs : List ℕ) → length xs ≡ bytes_each (kind_of s f) s f → length ys ≡ f * part_bytes s
      → zs ≡ encoded_by_rows plain (take (s.k * part_bytes s) xs) ys → IsRows s f xs zs
  unfolding encoded lent_refusal row_at
  rows_done xs ys zs xl yl is =
      record {
        long = ap length zs_is ∙ parity-length plain _;
        at = λ j p hj hp. ap (λ (l : List ℕ). get_or l (j * part_bytes s + p) 0) zs_is ∙ parity_at plain _ j p hj hp
            ∙ plain_parity plain _ j p (allowed plain plain_allowed) plain_by_rows refl hp ∙ row_is j p hp;
      }
    where
      front : length (take (s.k * part_bytes s) xs) ≡ s.k * part_bytes s
      front = length-take-le (s.k * part_bytes s) xs (omega (arith, part_in))

      zs_is : zs ≡ parity plain (take (s.k * part_bytes s) xs)
      zs_is = is ∙ encoded_by_rows_lem plain _ ys few ∙ simp (eq-eqb _ _ plain_allowed, eq-eqb _ _ front, eq-eqb _ _ yl)

      row_is : (j p : ℕ) → p < part_bytes s → row_at plain (take (s.k * part_bytes s) xs) j p ≡ row j (across xs (part_bytes s) p 0 s.k)
      row_is j p hp = ap (row j) (across-take xs (part_bytes s) p s.k hp)

  -- the same, of numbers that are those of the definitions
  pub rows_by : (sh : Shape) (m : ℕ) → m ≡ part_bytes s → (sh.k ≡ s.k) × ((sh.r ≡ f) × ((sh.t ≡ 0) × (sh.l ≡ m)))
      → (xs ys zs : List ℕ) → length xs ≡ bytes_each (kind_of s f) s f → length ys ≡ f * part_bytes s → zs ≡ encoded_by_rows sh (take (s.k * m) xs) ys
      → IsRows s f xs zs
  rows_by sh m e h xs ys zs xl yl is =
      rows_done xs ys zs xl yl (is ∙ ap₂ (λ (u : Shape) (x : ℕ). encoded_by_rows u (take (s.k * x) xs) ys) shape_is e)
    where
      shape_is : sh ≡ plain
      shape_is i = record { k = h.0 i; r = h.1.0 i; t = h.1.1.0 i; l = (h.1.1.1 ∙ e) i }

-- the rows of a stripe fit
pub rows_fit_lem : (s : Shape) (f : ℕ) → ReadsParity s f → f * part_bytes s ≤ 8192
rows_fit_lem s f reads = go (reads_kinds s f reads)
  where
    go : IsA s f ⊎ IsB s f → f * part_bytes s ≤ 8192
    go (inl h) = omega (arith, ap (λ (x : ℕ). f * x) (no_part s h.plain))
    go (inr h) = subst (λ (x : ℕ). x * part_bytes s ≤ 8192) h.marked (rows_most s (allowed s reads.shape) h.prepared)
