-- `block3` meets its contract: each array holds its row of the columns from number odd + 2 * m on, and the first column joins them at
-- the end where one is left.
use Prim.Native.Nat.{ℕ, ◌+◌, ◌*◌, ◌-◌, ◌%◌}
use mathlib.Core.Path.{◌≡◌, refl, ap, ◌∙◌}
use native.Mathlib.Omega.{arith}
use lib.ListN.{get_or}
use Rattle.field.specs.Bytes.{Bytes}
use Rattle.rows.proofs.Horner.{first3, turn3, turn3_two, done3, column_next, column_fits}
use Rattle.rows.proofs.block3.Goals as goal

pub loop-m-init : goal.loop-m-init
loop-m-init c =
    let a = c.args in
    let known : Bytes a.«data».now = λ i. (c.shared_slice_known-1.given i).fits in
    first3 _ _ _ _ _ _ known (omega arith) (omega arith)
    (λ q p. c.last-row0.ensures q p ∙ ap (λ (x : ℕ). get_or a.«data».now (x * a.l + a.from + q) 0) (omega arith))

pub loop-m-preserved : goal.loop-m-preserved
loop-m-preserved c =
    let a = c.args in
    let known : Bytes a.«data».now = λ i. (c.shared_slice_known-1.given i).fits in
    let i = (a.k - 1) % 2 + 2 * (c.loop-m.m - 1) in
    let next = column_next (i + 1) ((a.k - 1) % 2 + 2 * c.loop-m.m) a.l (omega arith) in
    let second = column_next i (i + 1) a.l refl in
    let inside = column_fits _ a.k a.l (i + 1) c.requires.0 (omega arith) in
    let more = c.two_more.ensures in
    turn3_two _ _ _ _ _ _ _ _ _ _ _ _ _ known next refl (omega (arith, inside)) c.loop-m.invariant _ _ _ second refl (omega arith)
    (more.row0_after, (more.row1_after, more.row2_after))

pub returns-then-odd-gt0 : goal.returns-then-odd-gt0
returns-then-odd-gt0 c =
    let a = c.args in
    let known : Bytes a.«data».now = λ i. (c.shared_slice_known-1.given i).fits in
    let alone : ((a.k - 1) % 2 + 2 * c.loop-m.m) * a.l ≡ 1 * a.l = ap (λ (x : ℕ). x * a.l) (omega arith) in
    let inside = column_fits _ a.k a.l 0 c.requires.0 (omega arith) in
    let more = c.one_more.ensures in
    done3 _ a.k _ _ 0 0 _ _ _ _ (omega arith) (omega arith) refl
    (turn3 _ _ _ 0 _ _ _ _ _ _ _ _ _ known (omega (arith, alone)) (omega arith) (omega (arith, inside)) c.loop-m.invariant _ (omega arith)
    (more.row0_after, (more.row1_after, more.row2_after)))

pub returns-else-odd-gt0 : goal.returns-else-odd-gt0
returns-else-odd-gt0 c =
    done3 _ _ _ _ ((c.args.k - 1) % 2 + 2 * c.loop-m.m) _ _ _ _ _ (omega arith) refl refl c.loop-m.invariant
