-- `fits` meets its contract: each test decides one part of the definition.
use Prim.Native.Nat.{◌+◌, ◌≤◌}
use mathlib.Core.Path.{sym}
use native.Mathlib.Nat.{mul-le-mul}
use native.Mathlib.Omega.{arith}
use Rattle.repair.proofs.Refused.{no_fit, length_fits}
use Rattle.repair.proofs.fits.Goals as goal

pub returns-then-k-lt1 : goal.returns-then-k-lt1
returns-then-k-lt1 c = sym (no_fit _ _ _ _ (λ f. omega (arith, f.data_some, c.if-k-lt1.true)))

pub returns-then-r-lt1 : goal.returns-then-r-lt1
returns-then-r-lt1 c = sym (no_fit _ _ _ _ (λ f. omega (arith, f.parity_some, c.if-r-lt1.true)))

pub returns-then-r-gt-COMPUTED : goal.returns-then-r-gt-COMPUTED
returns-then-r-gt-COMPUTED c = sym (no_fit _ _ _ _ (λ f. omega (arith, f.parity_most, c.if-r-gt-COMPUTED.true)))

pub returns-then-k-gt-COLUMNS : goal.returns-then-k-gt-COLUMNS
returns-then-k-gt-COLUMNS c = sym (no_fit _ _ _ _ (λ f. omega (arith, f.points_most, c.if-k-gt-COLUMNS.true)))

pub returns-then-k-r-gt-COLUMNS : goal.returns-then-k-r-gt-COLUMNS
returns-then-k-r-gt-COLUMNS c = sym (no_fit _ _ _ _ (λ f. omega (arith, f.points_most, c.if-k-r-gt-COLUMNS.true)))

pub returns-then-l-lt1 : goal.returns-then-l-lt1
returns-then-l-lt1 c = sym (no_fit _ _ _ _ (λ f. omega (arith, f.length_some, c.if-l-lt1.true)))

pub returns-then-l-gt4096 : goal.returns-then-l-gt4096
returns-then-l-gt4096 c = sym (no_fit _ _ _ _ (λ f. omega (arith, f.length_most, c.if-l-gt4096.true)))

pub overflow_mul-result : goal.overflow_mul-result
overflow_mul-result c =
    let a = c.args in
    let columns : a.k + a.r ≤ 255 = omega arith in
    let places : a.l ≤ 4096 = omega arith in
    omega (arith, mul-le-mul columns places)

pub returns : goal.returns
returns c =
    let a = c.args in
    length_fits a.k a.r a.l a.d (omega arith) (omega arith) (omega arith) (omega arith) (omega arith) (omega arith)
