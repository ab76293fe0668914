-- `run_fits_lem` meets its contract: each test decides one part of the definition.
use Prim.Native.Nat.{◌+◌, ◌<◌}
use mathlib.Core.Path.{sym, ◌∙◌}
use native.Mathlib.Omega.{arith}
use borrow.Author.Tests.{lt-ltb, le-ltb, lt-leb}
use Rattle.rows.proofs.Fits.{room}
use Rattle.stripe.specs.Shape.{most_rows}
use Rattle.rows.proofs.run_fits.Goals as goal

pub returns-then-not-columns_fit : goal.returns-then-not-columns_fit
returns-then-not-columns_fit c = simp (sym c.columns_fit.ensures ∙ c.if-not-columns_fit.true)

pub returns-then-j-ge-MOST_ROWS : goal.returns-then-j-ge-MOST_ROWS
returns-then-j-ge-MOST_ROWS c =
    simp (
      sym c.columns_fit.ensures ∙ c.if-not-columns_fit.false,
      le-ltb c.args.j most_rows c.if-j-ge-MOST_ROWS.true,
    )

pub returns-then-l-from : goal.returns-then-l-from
returns-then-l-from c =
    let a = c.args in
    let less : a.j < most_rows = omega (arith, c.if-j-ge-MOST_ROWS.false) in
    let past : a.l < a.from + a.n = omega (arith, c.if-l-from.true) in
    simp (sym c.columns_fit.ensures ∙ c.if-not-columns_fit.false, lt-ltb _ _ less, lt-leb _ _ past)

pub returns : goal.returns
returns c =
    let a = c.args in
    let less : a.j < most_rows = omega (arith, c.if-j-ge-MOST_ROWS.false) in
    room _ _ _ c.if-l-from.false ∙ simp (sym c.columns_fit.ensures ∙ c.if-not-columns_fit.false, lt-ltb _ _ less)
