-- One row more: with the errors added it still lacks what the mended word lacks, so one that survives is fine exactly where it is zero.
use Prim.Native.Nat.{ℕ, zero, suc, ◌+◌, ◌*◌, ◌-◌, ◌≤◌, ◌<◌}
use mathlib.Core.Path.{◌≡◌, refl, sym, ap, ap₂, subst, ◌∙◌}
use mathlib.Core.Bool.{Bool, true, false, true≢false}
use mathlib.Core.Logic.{◌⊎◌, inl, inr}
use mathlib.Core.List.{List}
use native.Mathlib.Omega.{arith}
use lib.Dec.{eqb}
use native.Mathlib.Nat.{mul-le-mul_right, add-mul}
use lib.ListN.{length, get_or, take, drop}
use Rattle.lanes.specs.Lanes.{all_zero}
use Rattle.lanes.proofs.Zero.{zero_at, zero_not}
use Rattle.lanes.proofs.Parts.{part_length, part_at}
use borrow.Author.Tests.{eqb-true, eqb-false}
use Rattle.stripe.specs.Shape.{parity_length}
use Rattle.field.specs.Field.{◌⊕◌, ◌⊗◌, gpow}
use Rattle.field.specs.Bytes.{Bytes}
use Rattle.field.specs.Row.{row}
use Rattle.field.proofs.Xor.{add_self, add_assoc}
use Rattle.field.proofs.Mul.{mul-add, mul-zero}
use Rattle.field.proofs.Powers.{sum_zero}
use Rattle.field.proofs.Cases.{below_or_from}
use Rattle.stripe.specs.declared.Shape.{Shape}
use Rattle.stripe.specs.Stripe.{runs, among}
use Rattle.stripe.proofs.Allowed.{Allowed}
use Rattle.stripe.proofs.Places.{across-length}
use Rattle.stripe.proofs.Survivors.{first_row, row_step}
use Rattle.stripe.proofs.Lost.{row_lost}
use Rattle.stripe.proofs.Errors.{points, mended_row}
use Rattle.stripe.proofs.Word.{word_mended}
use Rattle.stripe.proofs.Mended.{data_at, wanted, wanted_lt}
use Rattle.mending.specs.declared.system.System.{System}
use Rattle.mending.specs.Slots.{Outside, Sources, Gathered}
use Rattle.mending.specs.System.{less, lost_in, gone, Solver, Other, Posed}
use Rattle.syndromes.specs.Syndromes.{Says}
use Rattle.mending.specs.Scratch.{row_byte, errors_at, StillLacks, Fine, AllFine, SolvedBelow, SettledBelow, RowSettles}
use Rattle.mending.proofs.Posed.{rows_length, count_is, less-length, row_below, pivot_row, pivot_gone, power_zero_only, weighted_row, ordered, spread}
use Rattle.mending.proofs.Runs.{place_off, errors_long, word_is, word_row, slot_place}

-- ---- which rows are solved by

pub solver_turn : (p : System) (j v : ℕ) → ((u : ℕ) → u < v → p.first + p.step * u ≡ j → ⊥) → (p.first + p.step * v ≡ j → ⊥)
    → (u : ℕ) → u < v + 1 → p.first + p.step * u ≡ j → ⊥
solver_turn p j v h n u l e = go (below_or_from u v)
  where
    go : (u < v) ⊎ (v ≤ u) → ⊥
    go (inl m) = h u m e
    go (inr m) = let q : u ≡ v = omega arith in n (ap (λ (x : ℕ). p.first + p.step * x) (sym q) ∙ e)

solver_below : (p : System) (j e : ℕ) → ((v : ℕ) × ((v < e) × (p.first + p.step * v ≡ j))) ⊎ ((v : ℕ) → v < e → p.first + p.step * v ≡ j → ⊥)
solver_below p j zero = inr (λ v h q. omega arith)
solver_below p j (suc e) = pick (solver_below p j e) (eqb (p.first + p.step * e) j) refl
  where
    pick : ((v : ℕ) × ((v < e) × (p.first + p.step * v ≡ j))) ⊎ ((v : ℕ) → v < e → p.first + p.step * v ≡ j → ⊥)
        → (b : Bool) → eqb (p.first + p.step * e) j ≡ b
        → ((v : ℕ) × ((v < suc e) × (p.first + p.step * v ≡ j))) ⊎ ((v : ℕ) → v < suc e → p.first + p.step * v ≡ j → ⊥)
    pick (inl w) b q = inl (w.0, (omega (arith, w.1.0), w.1.1))
    pick (inr n) true q = inl (e, (omega arith, eqb-true _ _ q))
    pick (inr n) false q = inr (λ v l. solver_turn p j e n (eqb-false _ _ q) v (omega arith))

pub solver_or_other : (p : System) (j : ℕ) → Solver p j ⊎ Other p j
solver_or_other p j = go (solver_below p j p.count)
  where
    go : Solver p j ⊎ ((v : ℕ) → v < p.count → p.first + p.step * v ≡ j → ⊥) → Solver p j ⊎ Other p j
    go (inl w) = inl w
    go (inr n) = inr (λ w. n w.0 w.1.0 w.1.1)

-- ---- row by row

pub settled_start : (s : Shape) (p : System) (xs ys : List ℕ) → Allowed s → SolvedBelow s p xs (runs s) ys → SettledBelow s p xs 0 ys
settled_start s p xs ys f t =
    record {
      long = t.long;
      errors = λ y h. t.errors y (omega (arith, f.cut)) h;
      done = λ i y h. absurd (omega arith);
      rest = λ i y h hi o hy. t.rows i y hi o (omega (arith, f.cut)) hy;
      fine = λ i y h. absurd (omega arith);
    }

-- a row that is solved by
pub settled_skip : (s : Shape) (p : System) (xs ys : List ℕ) (j : ℕ) → Solver p j → SettledBelow s p xs j ys → SettledBelow s p xs (j + 1) ys
settled_skip s p xs ys j w t =
    record {
      long = t.long;
      errors = t.errors;
      done = λ i y h hi o hy. t.done i y (below i h o) hi o hy;
      rest = λ i y h hi o hy. t.rest i y (omega arith) hi o hy;
      fine = λ i y h hi o hy. t.fine i y (below i h o) hi o hy;
    }
  where
    below : (i : ℕ) → i < j + 1 → Other p i → i < j
    below i h o = go (below_or_from i j)
      where
        go : (i < j) ⊎ (j ≤ i) → i < j
        go (inl l) = l
        go (inr l) = let e : j ≡ i = omega arith in absurd (o (subst (Solver p) e w))

pub skip_settles : (s : Shape) (p : System) (j : ℕ) (ys : List ℕ) → Solver p j → RowSettles s p j ys true ys
skip_settles s p j ys w =
    record { long = refl; so = λ xs bytes t e. settled_skip s p xs ys j w t; not_so = λ xs bytes t e. absurd (true≢false e) }

module _ (s : Shape) (f : Allowed s) (p : System) (w : Posed s p) (j : ℕ) (hj : j < s.r) (o : Other p j) (ys zs : List ℕ)
    (g : Gathered (points j (less p.pivot (gone s p))) (j * s.l) (p.first * s.l) (p.step * s.l) s.l ys zs) where
  kept : (i y : ℕ) → (i ≡ j → ⊥) → y < s.l → row_byte s zs i y ≡ row_byte s ys i y
  kept i y n hy =
      g.off (i * s.l + y) (subst (λ (z : ℕ). Outside z s.l (i * s.l + y)) (omega arith) (place_off i j y 0 s.l s.l hy (omega arith) (inl n)))

  solver_kept : (v y : ℕ) → v < p.count → y < s.l → row_byte s zs (p.first + p.step * v) y ≡ row_byte s ys (p.first + p.step * v) y
  solver_kept v y hv hy = kept (p.first + p.step * v) y (λ e. o (v, (hv, e))) hy

  module _ (xs : List ℕ) (bytes : Bytes xs) (t : SettledBelow s p xs j ys) where
    still : (y : ℕ) → y < s.l → StillLacks s p xs zs j y
    still y hy =
        ap (λ (z : ℕ). gpow (j * p.pivot) ⊗ z)
        (g.on y hy
        ∙ ap (λ (z : ℕ). row_byte s ys j y ⊕ z)
        (weighted_row j (less p.pivot (gone s p)) (errors_at s p xs y) _ (errors_long s.k (lost_in p) _ _ ∙ sym (less-length p.pivot (gone s p)))
        (λ v l. ap (λ (z : ℕ). get_or ys z 0) (at v) ∙ t.errors y hy v (omega (arith, less-length p.pivot (gone s p), count_is s f p w)))))
        ∙ mul-add (gpow (j * p.pivot)) _ _
        ∙ ap₂ ◌⊕◌ (t.rest j y (omega arith) hj o hy) (pivot_row p.pivot j (gone s p) (errors_at s p xs y) (pivot_gone s f p w))
        ∙ add_assoc _ _ _
        ∙ ap (λ (z : ℕ). wanted s (lost_in p) xs y j ⊕ z) (sym (word_row s f p w xs bytes j y))
      where
        at : (v : ℕ) → p.first * s.l + v * (p.step * s.l) + y ≡ (p.first + p.step * v) * s.l + y
        at v = omega arith

    zero_fine : (y : ℕ) → y < s.l → row_byte s zs j y ≡ 0 → Fine s (lost_in p) xs j y
    zero_fine y hy e =
        sym (sum_zero (wanted s (lost_in p) xs y j) _ (sym (still y hy) ∙ ap (λ (z : ℕ). gpow (j * p.pivot) ⊗ z) e ∙ mul-zero _))

    fine_zero : (y : ℕ) → y < s.l → row_byte s zs j y < 256 → Fine s (lost_in p) xs j y → row_byte s zs j y ≡ 0
    fine_zero y hy h e =
        power_zero_only (j * p.pivot) _ h (still y hy ∙ ap (λ (z : ℕ). wanted s (lost_in p) xs y j ⊕ z) e ∙ add_self _)

    settled_turn : (among (s.k + j) (lost_in p) ≡ false → (y : ℕ) → y < s.l → row_byte s zs j y ≡ 0) → SettledBelow s p xs (j + 1) zs
    settled_turn zero_row =
        record {
          long = g.long ∙ t.long;
          errors = λ y hy v hv. solver_kept v y hv hy ∙ t.errors y hy v hv;
          done = done;
          rest = λ i y h hi n hy. ap (λ (z : ℕ). gpow (i * p.pivot) ⊗ z) (kept i y (λ e. omega arith) hy) ∙ t.rest i y (omega arith) hi n hy;
          fine = fine;
        }
      where
        done : (i y : ℕ) → i < j + 1 → i < s.r → Other p i → y < s.l → StillLacks s p xs zs i y
        done i y h hi n hy = go (below_or_from i j)
          where
            go : (i < j) ⊎ (j ≤ i) → StillLacks s p xs zs i y
            go (inl l) = ap (λ (z : ℕ). gpow (i * p.pivot) ⊗ z) (kept i y (λ e. omega arith) hy) ∙ t.done i y l hi n hy
            go (inr l) = let e : j ≡ i = omega arith in subst (λ (z : ℕ). StillLacks s p xs zs z y) e (still y hy)

        fine : (i y : ℕ) → i < j + 1 → i < s.r → Other p i → y < s.l → among (s.k + i) (lost_in p) ≡ false → Fine s (lost_in p) xs i y
        fine i y h hi n hy m = go (below_or_from i j)
          where
            go : (i < j) ⊎ (j ≤ i) → Fine s (lost_in p) xs i y
            go (inl l) = t.fine i y l hi n hy m
            go (inr l) =
                let e : j ≡ i = omega arith in
                subst (λ (z : ℕ). Fine s (lost_in p) xs z y) e
                (zero_fine y hy (zero_row (subst (λ (z : ℕ). among (s.k + z) (lost_in p) ≡ false) (sym e) m) y hy))

  pub row_settles : (v : Bool) → Bytes zs → Says v (among (s.k + j) (lost_in p) ≡ false → (y : ℕ) → y < s.l → row_byte s zs j y ≡ 0) → RowSettles s p j ys v zs
  row_settles v bz says =
      record {
        long = g.long;
        so = λ xs bytes t e. settled_turn xs bytes t (says.so e);
        not_so = λ xs bytes t e all. says.not_so e (λ m y hy. fine_zero xs bytes t y hy (bz _) (all j y hj hy m));
      }

-- ---- what the functions say of each other

-- the rows solved by stand outside row j
pub finish_sources : (s : Shape) (f : Allowed s) (p : System) (w : Posed s p) (j : ℕ) → j < s.r → Other p j → (len : ℕ) → len ≡ parity_length s
    → Sources p.count (j * s.l) (p.first * s.l) (p.step * s.l) s.l len
finish_sources s f p w j hj o len long =
    record {
      few = omega (arith, w.many, w.few);
      small = omega (arith, rows_length s f p w);
      target = omega (arith, mul-le-mul_right s.l hj, add-mul j 1 s.l);
      source =
          λ v h. omega
          (arith, mul-le-mul_right s.l (row_below s f p w v h), add-mul (p.first + p.step * v) 1 s.l, slot_place s.l p.first p.step 0 0 v);
      apart = λ v q h k.
          subst (λ (z : ℕ). Outside z s.l (p.first * s.l + v * (p.step * s.l) + q)) (omega arith)
          (subst (λ (z : ℕ). Outside (j * s.l + 0) s.l z) (at v q)
          (place_off (p.first + p.step * v) j q 0 s.l s.l k (omega arith) (inl (λ e. o (v, (h, e))))));
    }
  where
    at : (v q : ℕ) → (p.first + p.step * v) * s.l + q ≡ p.first * s.l + v * (p.step * s.l) + q
    at v q = omega arith

pub clean_says : (xs : List ℕ) (j l : ℕ) (b v : Bool) → j * l + l ≤ length xs → b ≡ false → v ≡ all_zero (take (j * l + l - j * l) (drop (j * l) xs))
    → Says v (b ≡ false → (y : ℕ) → y < l → get_or xs (j * l + y) 0 ≡ 0)
clean_says xs j l b v fits e z =
    record {
      so = λ t m y h. sym (part_at xs (j * l) l y h) ∙ zero_at _ (sym z ∙ t) y;
      not_so = λ t all. zero_not _ (sym z ∙ t) (λ q h. let k : q < l = omega (arith, part_length xs (j * l) l fits) in part_at xs (j * l) l q k ∙ all e q k);
    }

pub settled_all : (s : Shape) (p : System) (xs ys : List ℕ) (j : ℕ) → j ≤ s.r → s.r ≤ j → SettledBelow s p xs j ys → SettledBelow s p xs s.r ys
settled_all s p xs ys j h k t = let e : j ≡ s.r = omega arith in subst (λ (x : ℕ). SettledBelow s p xs x ys) e t

-- ---- all rows

-- the rows solved by have the values wanted
solved_rows : (s : Shape) (f : Allowed s) (p : System) (w : Posed s p) (xs : List ℕ) (y : ℕ) → Bytes xs → (v : ℕ) → v < p.count
    → row (first_row (row_lost s.k (lost_in p)) + row_step (row_lost s.k (lost_in p)) * v)
    (word_mended s.k (lost_in p) (data_at s xs y) (wanted s (lost_in p) xs y))
    ≡ wanted s (lost_in p) xs y (first_row (row_lost s.k (lost_in p)) + row_step (row_lost s.k (lost_in p)) * v)
unfolding word_mended
solved_rows s f p w xs y bytes v hv =
    mended_row _ _ s.k (gone s p) (spread s f p w).step_some (spread s f p w).step_most f.data_most (ordered s f p w) (data_at s xs y)
    (across-length xs s.l y 0 s.k) (wanted s (lost_in p) xs y) (λ j. wanted_lt s (lost_in p) xs y j bytes) v (omega (arith, count_is s f p w))

pub all_fine : (s : Shape) (f : Allowed s) (p : System) (w : Posed s p) (xs ys : List ℕ) → Bytes xs → SettledBelow s p xs s.r ys → AllFine s (lost_in p) xs
all_fine s f p w xs ys bytes t j y hj hy m = go (solver_or_other p j)
  where
    go : Solver p j ⊎ Other p j → Fine s (lost_in p) xs j y
    go (inr o) = t.fine j y hj hj o hy m
    go (inl k) =
        let e : first_row (row_lost s.k (lost_in p)) + row_step (row_lost s.k (lost_in p)) * k.0 ≡ j = ap₂ (λ (a d : ℕ). a + d * k.0) (sym w.first_is)
        (sym w.step_is)
        ∙ k.1.1 in
        ap (row j) (word_is s (lost_in p) xs y)
        ∙ subst (λ (z : ℕ). row z (word_mended s.k (lost_in p) (data_at s xs y) (wanted s (lost_in p) xs y)) ≡ wanted s (lost_in p) xs y z) e
        (solved_rows s f p w xs y bytes k.0 k.1.0)
