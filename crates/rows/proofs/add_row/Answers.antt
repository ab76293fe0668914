-- `add_row` meets its contract: at the places below b the row is added.
use mathlib.Core.Path.{◌≡◌, sym, ◌∙◌}
use mathlib.Core.Bool.{true}
use native.Mathlib.Omega.{arith}
use lib.ListN.{length}
use borrow.Author.Rules.{rules}
use Rattle.rows.specs.Rows.{run_fits}
use Rattle.rows.proofs.Fits.{Run, run_fits_lem}
use Rattle.rows.proofs.Added.{added_more, added_all, added_left, added_exact}
use Rattle.rows.proofs.add_row.Goals as goal
use Rattle.rows.proofs.add_row.Goals.{At-loop-c}

fits : (c : At-loop-c)
    → let a = c.args in run_fits (length a.«data».now) a.k a.l a.j a.from (length a.run.now) ≡ true
fits c = sym c.run_fits.ensures ∙ c.if-not-run_fits.false

-- what is known of the numbers in the loop and after it
known : (c : At-loop-c)
    → let a = c.args in Run (length a.«data».now) a.k a.l a.j a.from (length a.run.now)
known c = run_fits_lem _ _ _ _ _ _ (fits c)

pub returns-then-not-run_fits : goal.returns-then-not-run_fits
returns-then-not-run_fits c = added_left _ _ _ _ _ _ (sym c.run_fits.ensures ∙ c.if-not-run_fits.true)

pub add_block-requires : goal.add_block-requires
add_block-requires c =
    let f = known (goal.at.add_block-requires c).At-loop-c in
    (f.columns.long, (f.columns.some, (f.row, (search rules, (omega (arith, f.inside), search rules)))))

pub loop-c-preserved : goal.loop-c-preserved
loop-c-preserved c = added_more _ _ _ _ _ _ 64 _ _ _ _ (omega arith) c.loop-c.invariant c.add_block.ensures

pub add_rest-requires : goal.add_rest-requires
add_rest-requires c =
    let f = known (goal.at.add_rest-requires c).At-loop-c in
    (f.columns.long, (f.columns.some, (f.row, (omega (arith, f.inside, c.loop-c.invariant.long), search rules))))

pub returns : goal.returns
returns c =
    added_exact _ _ _ _ _ _ (fits (goal.at.returns c).At-loop-c) _
    (c.add_rest.ensures _ (added_all _ _ _ _ _ _ _ _ _ (omega arith) c.loop-c.invariant))
