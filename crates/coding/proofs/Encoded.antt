-- What encoding fills in is the parity by definition, of a plain stripe and of a prepared one.
use mathlib.Core.Path.{◌≡◌, sym, ap, ◌∙◌}
use mathlib.Core.Bool.{Bool, true, false, cond}
use mathlib.Core.List.{List}
use Prim.Native.Nat.{ℕ, ◌*◌, ◌<◌, ◌≤◌}
use lib.ListN.{length}
use borrow.Author.Tests.{eq-eqb, ne_eqb, le-leb, lt-leb}
use Rattle.stripe.specs.declared.Shape.{Shape}
use Rattle.stripe.specs.Stripe.{by_points, row_at, parity}
use Rattle.stripe.specs.Shape.{most_rows}
use Rattle.stripe.specs.Column.{lent_refusal}
use Rattle.rows.specs.Rows.{rows_fit, filled, RowsBelow}
use Rattle.coding.specs.Encode.{encoded, encoded_by_rows, IsRow, IsParity}
use Rattle.rows.proofs.Fits.{Columns, fit_rows}
use Rattle.rows.proofs.Filled.{filled_places}
use Rattle.stripe.proofs.Allowed.{allowed, rows_most}
use Rattle.stripe.proofs.Lent.{lent}
use Rattle.stripe.proofs.Places.{parity_exact, plain_parity}

pub rows_are : (s : Shape) (ds ps : List ℕ) → RowsBelow ds s.k s.l s.r s.l ps → (i : ℕ) → i < s.r → IsRow s ds i ps
unfolding row_at
rows_are s ds ps h i hi p hp = h i p hi hp

-- the numbers of a stripe that is not refused fit
pub columns : (s : Shape) (d n : ℕ) → lent_refusal s d n ≡ 0 → Columns d s.k s.l
columns s d n e =
    let f = lent s d n e in
    let a = allowed s f.shape in
    record { long = f.data_long; some = a.data_some; most = a.data_most; length_most = a.length_most }

fitting : (s : Shape) (d n : ℕ) → by_points s ≡ false → lent_refusal s d n ≡ 0 → rows_fit d s.k s.l s.r n ≡ true
fitting s d n rows e =
    let f = lent s d n e in
    let a = allowed s f.shape in
    fit_rows _ _ _ _ _ record { columns = columns s d n e; some = a.parity_some; most = rows_most s a rows; long = f.parity_long }

-- so the rows are filled in
pub rows_filled : (s : Shape) (ds os ps : List ℕ) → by_points s ≡ false → lent_refusal s (length ds) (length os) ≡ 0
    → ps ≡ filled ds s.k s.l s.r os → RowsBelow ds s.k s.l s.r s.l ps
rows_filled s ds os ps rows e is = filled_places ds s.k s.l s.r os (fitting s _ _ rows e) ps is

module _ (s : Shape) (ds os ps : List ℕ) (e : lent_refusal s (length ds) (length os) ≡ 0) (same : length ps ≡ length os) where
  long : length ps ≡ s.r * s.l
  long = same ∙ (lent s (length ds) (length os) e).parity_long

  pub plain_exact : by_points s ≡ false → s.t ≡ 0 → RowsBelow ds s.k s.l s.r s.l ps → ps ≡ parity s ds
  plain_exact rows z h =
      let a = allowed s (lent s (length ds) (length os) e).shape in
      parity_exact s ds ps long (λ i p hi hp. rows_are s ds ps h i hi p hp ∙ sym (plain_parity s ds i p a rows z hp))

  pub prepared_exact : ((i : ℕ) → i < s.r → IsParity s ds i ps) → ps ≡ parity s ds
  prepared_exact h = parity_exact s ds ps long (λ i p hi hp. h i hi p hp)

module _ (s : Shape) (ds ps : List ℕ) where
  pub encoded_refused : (lent_refusal s (length ds) (length ps) ≡ 0 → ⊥) → ps ≡ encoded s ds ps
  unfolding encoded
  encoded_refused h = sym (ap (λ (b : Bool). cond b (parity s ds) ps) (ne_eqb _ _ h))

  pub encoded_done : lent_refusal s (length ds) (length ps) ≡ 0 → parity s ds ≡ encoded s ds ps
  unfolding encoded
  encoded_done h = sym (ap (λ (b : Bool). cond b (parity s ds) ps) (eq-eqb _ _ h))

  -- by rows the same, and with more parity columns nothing is written
  pub encoded_by_rows_lem : s.r ≤ most_rows → encoded_by_rows s ds ps ≡ encoded s ds ps
  unfolding encoded_by_rows
  encoded_by_rows_lem h = ap (λ (b : Bool). cond b (encoded s ds ps) ps) (le-leb s.r most_rows h)

  pub encoded_too_many : most_rows < s.r → ps ≡ encoded_by_rows s ds ps
  unfolding encoded_by_rows
  encoded_too_many h = sym (ap (λ (b : Bool). cond b (encoded s ds ps) ps) (lt-leb s.r most_rows h))

-- what encoding leaves in a buffer as long as a parity that is not refused
pub made : (s : Shape) (ds ps ms ns : List ℕ) → lent_refusal s (length ds) (length ps) ≡ 0 → length ms ≡ length ps → ns ≡ encoded s ds ms → ns ≡ parity s ds
made s ds ps ms ns h long is = is ∙ sym (encoded_done s ds ms (ap (lent_refusal s (length ds)) long ∙ h))
