-- `apply` meets its contract: numbers that do not fit, or all columns at every place.
use Prim.Native.Nat.{ℕ, ◌*◌}
use mathlib.Core.Path.{◌≡◌, sym, ap, ◌∙◌}
use mathlib.Core.Bool.{true}
use native.Mathlib.Omega.{arith}
use lib.ListN.{length}
use borrow.Author.Rules.{rules}
use Rattle.matrix.specs.Matrix.{matrix_fits}
use Rattle.matrix.proofs.Listing.{held_one}
use Rattle.matrix.proofs.Shape.{Lengths, lengths_fit, becomes_left, becomes_applied}
use Rattle.matrix.proofs.apply.Goals as goal
use Rattle.matrix.proofs.apply.Goals.{Else-not-fits}

fits : (c : Else-not-fits) → let a = c.args in
    matrix_fits a.rows a.at.now a.from a.stride a.count (length a.matrix.now) (length a.columns.now) (length a.out.now) ≡ true
fits c = sym c.fits.ensures ∙ c.if-not-fits.false

known : (c : Else-not-fits) → let a = c.args in
    Lengths a.rows a.at.now a.from a.stride a.count (length a.matrix.now) (length a.columns.now) (length a.out.now)
known c = lengths_fit _ _ _ _ _ _ _ _ (fits c)

pub returns-then-not-fits : goal.returns-then-not-fits
returns-then-not-fits c = becomes_left _ _ _ _ _ _ _ _ (sym c.fits.ensures ∙ c.if-not-fits.true)

pub one_row-requires : goal.one_row-requires
one_row-requires c =
    let f = known (goal.at.one_row-requires c).Else-not-fits in
    let a = c.args in
    let one = c.alone.ensures c.if-alone.true in (
      f.numbers.columns_some,
      (
        f.numbers.columns_most,
        (omega (arith, f.matrix, ap (λ (x : ℕ). x * length a.at.now) one), (f.columns, omega (arith, f.out, ap (λ (x : ℕ). x * a.count) one))),
      ),
    )

pub returns-then-alone : goal.returns-then-alone
returns-then-alone c =
    let qs = c.one_row.new.out in
    let same : length qs ≡ length c.args.out.now = search rules in
    let one = c.alone.ensures c.if-alone.true in
    let held = held_one _ _ _ _ _ _ _ _ _ one c.one_row.ensures in
    becomes_applied _ _ _ _ _ _ _ _ (fits (goal.at.returns-then-alone c).Else-not-fits) qs
    (same ∙ (known (goal.at.returns-then-alone c).Else-not-fits).out) (known (goal.at.returns-then-alone c).Else-not-fits).numbers.columns_some held

pub fill-requires : goal.fill-requires
fill-requires c =
    let f = known (goal.at.fill-requires c).Else-not-fits in
    (f.numbers.rows_most, (f.matrix, (f.columns, f.out)))

pub returns : goal.returns
returns c =
    let qs = c.fill.new.out in
    let same : length qs ≡ length c.args.out.now = search rules in
    becomes_applied _ _ _ _ _ _ _ _ (fits (goal.at.returns c).Else-not-fits) qs (same ∙ (known (goal.at.returns c).Else-not-fits).out)
    (known (goal.at.returns c).Else-not-fits).numbers.columns_some c.fill.ensures
