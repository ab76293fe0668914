-- `fill_rows` meets its contract: numbers that do not fit, columns shorter than a block, three rows of many columns, or others.
use Prim.Native.Nat.{ℕ, ◌*◌, ◌≤◌}
use mathlib.Core.Path.{◌≡◌, sym, ap, ◌∙◌}
use mathlib.Core.Bool.{true}
use native.Mathlib.Omega.{arith}
use lib.ListN.{length}
use borrow.Author.Rules.{rules}
use Rattle.rows.specs.Rows.{rows_fit}
use Rattle.rows.proofs.Fits.{Rows, rows_fit_lem}
use Rattle.rows.proofs.Filled.{filled_left, filled_exact, rows_by}
use Rattle.rows.proofs.fill_rows.Goals as goal
use Rattle.rows.proofs.fill_rows.Goals.{Else-not-rows_fit, Then-many}

fits : (c : Else-not-rows_fit) → let a = c.args in rows_fit (length a.«data».now) a.k a.l a.r (length a.out.now) ≡ true
fits c = sym c.rows_fit.ensures ∙ c.if-not-rows_fit.false

known : (c : Else-not-rows_fit) → let a = c.args in Rows (length a.«data».now) a.k a.l a.r (length a.out.now)
known c = rows_fit_lem _ _ _ _ _ (fits c)

three : (c : Then-many) → c.args.r ≤ 3 → c.args.r ≡ 3
three c most = omega (arith, c.many.ensures c.if-many.true)

pub returns-then-not-rows_fit : goal.returns-then-not-rows_fit
returns-then-not-rows_fit c = filled_left _ _ _ _ _ (sym c.rows_fit.ensures ∙ c.if-not-rows_fit.true)

pub fill_short-requires : goal.fill_short-requires
fill_short-requires c =
    let f = known (goal.at.fill_short-requires c).Else-not-rows_fit in
    (f.columns.long, (f.columns.some, (omega arith, (f.long, f.most))))

pub returns-then-l-lt64 : goal.returns-then-l-lt64
returns-then-l-lt64 c =
    let qs = c.fill_short.new.out in
    let same : length qs ≡ length c.args.out.now = search rules in
    filled_exact _ _ _ _ _ (fits (goal.at.returns-then-l-lt64 c).Else-not-rows_fit) qs
    (same ∙ (known (goal.at.returns-then-l-lt64 c).Else-not-rows_fit).long) c.fill_short.ensures

pub fill_wide-requires : goal.fill_wide-requires
fill_wide-requires c =
    let f = known (goal.at.fill_wide-requires c).Else-not-rows_fit in
    let l = c.args.l in (
      f.columns.long,
      (
        f.columns.some,
        (
          omega (arith, c.if-l-lt64.false),
          f.long
              ∙ ap (λ (x : ℕ). x * l) (three (goal.at.fill_wide-requires c).Then-many (known (goal.at.fill_wide-requires c).Else-not-rows_fit).most),
        ),
      ),
    )

pub returns-then-many : goal.returns-then-many
returns-then-many c =
    let qs = c.fill_wide.new.out in
    let same : length qs ≡ length c.args.out.now = search rules in
    filled_exact _ _ _ _ _ (fits (goal.at.returns-then-many c).Else-not-rows_fit) qs (same ∙ (known (goal.at.returns-then-many c).Else-not-rows_fit).long)
    (rows_by _ _ _ _ 3 _ qs (three (goal.at.returns-then-many c).Then-many (known (goal.at.returns-then-many c).Else-not-rows_fit).most) c.fill_wide.ensures)

pub fill_long-requires : goal.fill_long-requires
fill_long-requires c =
    let f = known (goal.at.fill_long-requires c).Else-not-rows_fit in
    (f.columns.long, (f.columns.some, (omega (arith, c.if-l-lt64.false), (f.some, (f.most, f.long)))))

pub returns : goal.returns
returns c =
    let qs = c.fill_long.new.out in
    let same : length qs ≡ length c.args.out.now = search rules in
    filled_exact _ _ _ _ _ (fits (goal.at.returns c).Else-not-rows_fit) qs (same ∙ (known (goal.at.returns c).Else-not-rows_fit).long) c.fill_long.ensures
