-- Numbers that fit, as plain facts: each is one test.
use mathlib.Core.Path.{◌≡◌, refl, sym, ap, ◌∙◌}
use mathlib.Core.Bool.{Bool, true, false, ◌&&◌, and-eq-true_iff}
use Prim.Native.Nat.{ℕ, ◌+◌, ◌-◌, ◌*◌, ◌<◌, ◌≤◌}
use native.Mathlib.Omega.{arith}
use lib.Dec.{leb}
use borrow.Author.Tests.{leb-true, leb-false, ltb-true, eqb-true, le-leb, lt-leb, lt-ltb, eq-eqb}
use Rattle.rows.specs.Rows.{columns_fit, rows_fit, run_fits}
use Rattle.stripe.specs.Shape.{most_rows, most_data, most_length}

and_of : (a b : Bool) → a ≡ true → b ≡ true → a && b ≡ true
and_of a b e f = ap (λ (x : Bool). x && b) e ∙ f

pub record Columns (d k l : ℕ) : Type 0 where
  pub long : d ≡ k * l
  pub some : 1 ≤ k
  pub most : k ≤ most_data
  pub length_most : l ≤ most_length

pub columns_fit_lem : (d k l : ℕ) → columns_fit d k l ≡ true → Columns d k l
unfolding columns_fit
columns_fit_lem d k l e =
    let t = (and-eq-true_iff _ _).0 e in
    let u = (and-eq-true_iff _ _).0 t.0 in
    let v = (and-eq-true_iff _ _).0 u.0 in
    record { long = eqb-true _ _ t.1; some = leb-true _ _ v.0; most = leb-true _ _ v.1; length_most = leb-true _ _ u.1 }

pub fit_columns : (d k l : ℕ) → Columns d k l → columns_fit d k l ≡ true
unfolding columns_fit
fit_columns d k l c = and_of _ _ (and_of _ _ (and_of _ _ (le-leb _ _ c.some) (le-leb _ _ c.most)) (le-leb _ _ c.length_most)) (eq-eqb _ _ c.long)

pub record Rows (d k l r n : ℕ) : Type 0 where
  pub columns : Columns d k l
  pub some : 1 ≤ r
  pub most : r ≤ most_rows
  pub long : n ≡ r * l

pub rows_fit_lem : (d k l r n : ℕ) → rows_fit d k l r n ≡ true → Rows d k l r n
rows_fit_lem d k l r n e =
    let t = (and-eq-true_iff _ _).0 e in
    let u = (and-eq-true_iff _ _).0 t.1 in
    let v = (and-eq-true_iff _ _).0 u.0 in
    record { columns = columns_fit_lem d k l t.0; some = leb-true _ _ v.0; most = leb-true _ _ v.1; long = eqb-true _ _ u.1 }

pub fit_rows : (d k l r n : ℕ) → Rows d k l r n → rows_fit d k l r n ≡ true
fit_rows d k l r n f =
    and_of _ _ (fit_columns d k l f.columns) (and_of _ _ (and_of _ _ (le-leb _ _ f.some) (le-leb _ _ f.most)) (eq-eqb _ _ f.long))

pub record Run (d k l j from n : ℕ) : Type 0 where
  pub columns : Columns d k l
  pub row : j < most_rows
  pub inside : from + n ≤ l

pub run_fits_lem : (d k l j from n : ℕ) → run_fits d k l j from n ≡ true → Run d k l j from n
run_fits_lem d k l j from n e =
    let t = (and-eq-true_iff _ _).0 e in
    let u = (and-eq-true_iff _ _).0 t.1 in
    record { columns = columns_fit_lem d k l t.0; row = ltb-true _ _ u.0; inside = leb-true _ _ u.1 }

pub fit_run : (d k l j from n : ℕ) → Run d k l j from n → run_fits d k l j from n ≡ true
fit_run d k l j from n f = and_of _ _ (fit_columns d k l f.columns) (and_of _ _ (lt-ltb _ _ f.row) (le-leb _ _ f.inside))

-- n places from `from` on, where it is within the row
pub room : (from n l : ℕ) → from ≤ l → leb n (l - from) ≡ leb (from + n) l
room from n l h = go (leb n (l - from)) refl
  where
    go : (b : Bool) → leb n (l - from) ≡ b → leb n (l - from) ≡ leb (from + n) l
    go true e = e ∙ sym (le-leb (from + n) l (omega (arith, leb-true n (l - from) e)))
    go false e = e ∙ sym (lt-leb (from + n) l (omega (arith, leb-false n (l - from) e)))
