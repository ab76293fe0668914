-- Numbers that fit, as plain facts, and the rows as one list.
use mathlib.Core.Path.{◌≡◌, refl, sym, ap, ap₂, ◌∙◌, subst}
use mathlib.Core.Bool.{Bool, true, false, cond, ◌&&◌, and-eq-true_iff}
use mathlib.Core.List.{List, [], ◌∷◌}
use mathlib.Core.Logic.{◌⊎◌, inl, inr, ⊎_elim}
use Prim.Native.Nat.{ℕ, zero, suc, ◌+◌, ◌-◌, ◌*◌, ◌/◌, ◌<◌, ◌≤◌, zero-le, suc-le-suc}
use native.Mathlib.Nat.{mul-le-mul_right, mul_comm, zero-mul, le-div_iff_mul-le, le_of_suc-le-suc, not-suc-le-zero}
use native.Mathlib.Omega.{arith}
use Rattle.std.specs.Prelude.{fold, max}
use lib.Dec.{leb}
use lib.ListN.{length, get_or, length-map}
use borrow.Author.Tests.{leb-true, eqb-true, le-leb, lt-leb, eq-eqb}
use Rattle.field.specs.Field.{◌⊗◌}
use Rattle.field.proofs.Cases.{below_or_from, and_left, and_right}
use Rattle.field.proofs.Bytes.{tabulate-length, tabulate_at}
use Rattle.lanes.proofs.Onto.{map_at}
use Rattle.stripe.proofs.Places.{place_lt, place_column, place_byte, by_places}
use Rattle.points.specs.Lagrange.{dot}
use Rattle.matrix.specs.Matrix.{row_of, bytes_at, applied, numbers_fit, columns_fit, matrix_fits, becomes}
use Rattle.matrix.specs.Sums.{up_to, Held, Among, Greatest}
use Rattle.matrix.proofs.Horner.{sum_same, dot_sum}

-- ---- numbers that fit

pub record Numbers (rows m count : ℕ) : Type 0 where
  pub rows_some : 1 ≤ rows
  pub rows_most : rows ≤ 16
  pub columns_some : 1 ≤ m
  pub columns_most : m ≤ 255
  pub places_some : 1 ≤ count
  pub places_most : count ≤ 4096

pub numbers_fit_lem : (rows m count : ℕ) → numbers_fit rows m count ≡ true → Numbers rows m count
unfolding numbers_fit
numbers_fit_lem rows m count e =
    let a = (and-eq-true_iff _ _).0 e in
    let b = (and-eq-true_iff _ _).0 a.0 in
    let c = (and-eq-true_iff _ _).0 b.0 in
    let d = (and-eq-true_iff _ _).0 c.0 in
    let f = (and-eq-true_iff _ _).0 d.0 in
    record {
      rows_some = leb-true _ _ f.0;
      rows_most = leb-true _ _ f.1;
      columns_some = leb-true _ _ d.1;
      columns_most = leb-true _ _ c.1;
      places_some = leb-true _ _ b.1;
      places_most = leb-true _ _ a.1;
    }

pub record Lengths (rows : ℕ) (cs : List ℕ) (from stride count a b c : ℕ) : Type 0 where
  pub numbers : Numbers rows (length cs) count
  pub matrix : a ≡ rows * length cs
  pub columns : (i : ℕ) → i < length cs → from + get_or cs i 0 * stride + count ≤ b
  pub out : c ≡ rows * count

columns_end : (cs : List ℕ) (b from stride count : ℕ) → columns_fit cs b from stride count ≡ true
    → (i : ℕ) → i < length cs → from + get_or cs i 0 * stride + count ≤ b
unfolding columns_fit
columns_end [] b from stride count e i h = absurd (not-suc-le-zero h)
columns_end (c ∷ cs) b from stride count e zero h = leb-true _ _ (and_left (leb (from + c * stride + count) b) _ e)
columns_end (c ∷ cs) b from stride count e (suc i) h =
    columns_end cs b from stride count (and_right (leb (from + c * stride + count) b) _ e) i (le_of_suc-le-suc h)

pub lengths_fit : (rows : ℕ) (cs : List ℕ) (from stride count a b c : ℕ) → matrix_fits rows cs from stride count a b c ≡ true
    → Lengths rows cs from stride count a b c
unfolding matrix_fits
lengths_fit rows cs from stride count a b c e =
    let x = (and-eq-true_iff _ _).0 e in
    let y = (and-eq-true_iff _ _).0 x.0 in
    let z = (and-eq-true_iff _ _).0 y.0 in
    record {
      numbers = numbers_fit_lem rows (length cs) count z.0;
      matrix = eqb-true _ _ z.1;
      columns = columns_end cs b from stride count y.1;
      out = eqb-true _ _ x.1;
    }

-- two tests that pass together
same_test : (a b : Bool) → (a ≡ true → b ≡ true) → (b ≡ true → a ≡ true) → a ≡ b
same_test true b f g = sym (f refl)
same_test false true f g = g refl
same_test false false f g = refl

and_of : (a b : Bool) → a ≡ true → b ≡ true → a && b ≡ true
and_of a b e f = ap (λ (x : Bool). x && b) e ∙ f

pub fit_numbers : (rows m count : ℕ) → Numbers rows m count → numbers_fit rows m count ≡ true
unfolding numbers_fit
fit_numbers rows m count h =
    let some = and_of _ _ (and_of _ _ (le-leb _ _ h.rows_some) (le-leb _ _ h.rows_most)) (le-leb _ _ h.columns_some) in
    and_of _ _ (and_of _ _ (and_of _ _ some (le-leb _ _ h.columns_most)) (le-leb _ _ h.places_some)) (le-leb _ _ h.places_most)

ends_columns : (cs : List ℕ) (b from stride count : ℕ) → ((i : ℕ) → i < length cs → from + get_or cs i 0 * stride + count ≤ b)
    → columns_fit cs b from stride count ≡ true
unfolding columns_fit
ends_columns [] b from stride count h = refl
ends_columns (c ∷ cs) b from stride count h =
    and_of _ _ (le-leb _ _ (h 0 (suc-le-suc zero-le))) (ends_columns cs b from stride count (λ i l. h (suc i) (suc-le-suc l)))

pub fit_lengths : (rows : ℕ) (cs : List ℕ) (from stride count a b c : ℕ) → Lengths rows cs from stride count a b c
    → matrix_fits rows cs from stride count a b c ≡ true
unfolding matrix_fits
fit_lengths rows cs from stride count a b c h =
    let some = and_of _ _ (fit_numbers rows (length cs) count h.numbers) (eq-eqb _ _ h.matrix) in
    and_of _ _ (and_of _ _ some (ends_columns cs b from stride count h.columns)) (eq-eqb _ _ h.out)

-- ---- the end of a column, by differences and a quotient

pub none_fits : (c b from stride count : ℕ) → b < from + count → false ≡ leb (from + c * stride + count) b
none_fits c b from stride count h = sym (lt-leb (from + c * stride + count) b (omega arith))

pub first_fits : (c b from stride count : ℕ) → count ≤ b → from ≤ b - count → c < 1 → true ≡ leb (from + c * stride + count) b
first_fits c b from stride count h k few =
    let first : c ≡ 0 = omega arith in
    let none : c * stride ≡ 0 = ap (λ (x : ℕ). x * stride) first ∙ zero-mul stride in
    sym (le-leb (from + c * stride + count) b (omega arith))

pub some_fits : (c b from stride count : ℕ) → count ≤ b → from ≤ b - count → 1 ≤ c
    → leb stride ((b - count - from) / c) ≡ leb (from + c * stride + count) b
some_fits c b from stride count h k some = same_test _ _ (λ e. le-leb end b (enough (leb-true _ _ e))) (λ e. le-leb _ _ (needed (leb-true end b e)))
  where
    end : ℕ
    end = from + c * stride + count

    enough : stride ≤ (b - count - from) / c → end ≤ b
    enough l = let most : stride * c ≤ b - count - from = (le-div_iff_mul-le some).0 l in omega (arith, mul_comm stride c)

    needed : end ≤ b → stride ≤ (b - count - from) / c
    needed l = let most : stride * c ≤ b - count - from = omega (arith, mul_comm stride c) in (le-div_iff_mul-le some).1 most

-- ---- the greatest number

-- the greatest of c and of the numbers xs
abbrev most_of : ℕ → List ℕ → ℕ
most_of c xs = fold max c xs

most_first : (xs : List ℕ) (c : ℕ) → c ≤ most_of c xs
most_first [] c = omega arith
most_first (x ∷ xs) c = omega (arith, most_first xs (max c x))

most_each : (xs : List ℕ) (c i : ℕ) → i < length xs → get_or xs i 0 ≤ most_of c xs
most_each [] c i h = absurd (not-suc-le-zero h)
most_each (x ∷ xs) c zero h = omega (arith, most_first xs (max c x))
most_each (x ∷ xs) c (suc i) h = most_each xs (max c x) i (le_of_suc-le-suc h)

most_there : (xs : List ℕ) (c : ℕ) → (most_of c xs ≡ c) ⊎ Among xs (length xs) (most_of c xs)
most_there [] c = inl refl
most_there (x ∷ xs) c = go (most_there xs (max c x)) (below_or_from c x)
  where
    go : (most_of c (x ∷ xs) ≡ max c x) ⊎ Among xs (length xs) (most_of c (x ∷ xs)) → (c < x) ⊎ (x ≤ c)
        → (most_of c (x ∷ xs) ≡ c) ⊎ Among (x ∷ xs) (suc (length xs)) (most_of c (x ∷ xs))
    go (inl e) (inl h) = inr (record { place = 0; below = suc-le-suc zero-le; is = omega arith })
    go (inl e) (inr h) = inl (omega arith)
    go (inr a) h = inr (record { place = suc a.place; below = suc-le-suc a.below; is = a.is })

pub greatest_folded : (cs : List ℕ) → 1 ≤ length cs → Greatest cs (length cs) (fold max 0 cs)
greatest_folded cs some = record { most = λ i h. most_each cs 0 i h; there = ⊎_elim none (λ a. a) (most_there cs 0) }
  where
    none : most_of 0 cs ≡ 0 → Among cs (length cs) (most_of 0 cs)
    none e = record { place = 0; below = some; is = omega (arith, most_each cs 0 0 some) }

-- all columns fit where the one with the greatest number does
pub greatest_fits : (cs : List ℕ) (c b from stride count : ℕ) → Greatest cs (length cs) c
    → leb (from + c * stride + count) b ≡ columns_fit cs b from stride count
greatest_fits cs c b from stride count h = same_test _ _ all one
  where
    all : leb (from + c * stride + count) b ≡ true → columns_fit cs b from stride count ≡ true
    all e = ends_columns cs b from stride count (λ i l. omega (arith, leb-true (from + c * stride + count) b e, mul-le-mul_right stride (h.most i l)))

    one : columns_fit cs b from stride count ≡ true → leb (from + c * stride + count) b ≡ true
    one e =
        let at = h.there in
        le-leb _ _ (subst (λ (x : ℕ). from + x * stride + count ≤ b) at.is (columns_end cs b from stride count e at.place at.below))

-- ---- the rows as one list

module _ (rows : ℕ) (cs ms xs : List ℕ) (from stride count : ℕ) where
  pub applied-length : length (applied rows cs ms xs from stride count) ≡ rows * count
  unfolding applied
  applied-length = tabulate-length (rows * count) _

  -- row s at place q, by definition and as a sum
  pub applied_place : (s q : ℕ) → s < rows → q < count
      → get_or (applied rows cs ms xs from stride count) (s * count + q) 0 ≡ dot (row_of (length cs) ms s) (bytes_at xs from stride q cs)
  unfolding applied
  applied_place s q hs hq =
      tabulate_at (rows * count) _ (s * count + q) (place_lt hs hq)
      ∙ ap₂ (λ (a b : ℕ). dot (row_of (length cs) ms a) (bytes_at xs from stride b cs)) (place_column s hq) (place_byte s hq)

  pub applied_at : (s q : ℕ) → s < rows → q < count
      → get_or (applied rows cs ms xs from stride count) (s * count + q) 0 ≡ up_to ms cs xs from stride (length cs) s q
  unfolding row_of bytes_at
  applied_at s q hs hq =
      applied_place s q hs hq ∙ dot_sum (length cs) (λ i. get_or ms (s * length cs + i) 0) (bytes_at xs from stride q cs) (length-map cs _)
      ∙ sum_same (length cs) _ _ (λ i h. ap (λ (x : ℕ). get_or ms (s * length cs + i) 0 ⊗ x) (map_at _ cs i h))

  module _ (ps : List ℕ) where
    pub becomes_left : matrix_fits rows cs from stride count (length ms) (length xs) (length ps) ≡ false
        → ps ≡ becomes rows cs ms xs from stride count ps
    unfolding becomes
    becomes_left e = sym (ap (λ (b : Bool). cond b (applied rows cs ms xs from stride count) ps) e)

    module _ (e : matrix_fits rows cs from stride count (length ms) (length xs) (length ps) ≡ true) where
      pub becomes_fits : becomes rows cs ms xs from stride count ps ≡ applied rows cs ms xs from stride count
      unfolding becomes
      becomes_fits = ap (λ (b : Bool). cond b (applied rows cs ms xs from stride count) ps) e

      pub becomes_applied : (qs : List ℕ) → length qs ≡ rows * count → 0 < length cs → Held ms cs xs from stride count rows (length cs) qs
          → qs ≡ becomes rows cs ms xs from stride count ps
      becomes_applied qs long some h =
          by_places rows count qs _ long applied-length (λ s q hs hq. h.at s q hs hq some ∙ sym (applied_at s q hs hq)) ∙ sym becomes_fits
