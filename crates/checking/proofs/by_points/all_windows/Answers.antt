-- `all_windows` meets its contract: what is kept is found at the places of each column that the windows so far hold.
use mathlib.Core.Path.{subst}
use Prim.Native.Nat.{ℕ, ◌*◌, ◌<◌}
use native.Mathlib.Omega.{arith}
use Rattle.stripe.specs.Stripe.{parity}
use Rattle.stripe.proofs.Places.{parity-length}
use Rattle.stripe.proofs.Lent.{lent}
use Rattle.coding.proofs.ByPoints.{Pointed, pointed}
use Rattle.checking.specs.Windows.{Below}
use Rattle.checking.proofs.Windows.{lent_long, lent_most, windows_none, windows_done, window_starts, windows_end}
use Rattle.checking.proofs.by_points.all_windows.Goals as goal
use Rattle.checking.proofs.by_points.all_windows.Goals.{After-min-n, Start}

numbers : (c : Start) → Pointed c.args.lent.now.shape
numbers c = let a = c.args.lent.now in pointed a.shape (lent a.shape _ _ a.allowed).shape c.requires.0

pub step-most-requires : goal.step-most-requires
step-most-requires c = let a = numbers (goal.at.step-most-requires c).Start in (a.parity_some, a.few)

pub overflow_mul-b : goal.overflow_mul-b
overflow_mul-b c = omega (arith, lent_most c.args.lent.now.shape _ _ c.args.lent.now.allowed)

pub loop-i-init : goal.loop-i-init
loop-i-init c =
    let a = c.args.lent.now in
    let made = parity a.shape a.«data».now in
    subst (λ (p : ℕ). Below a.shape.l (a.shape.r * a.shape.l) p a.parity.now made (a.shape.r * a.shape.l)) (omega arith) (windows_none _ _ _ _)

-- a window starts within the columns
starts : (c : After-min-n) → c.loop-i.i * c.step-most.result < c.args.lent.now.shape.l
starts c = window_starts _ _ _ c.step-most.ensures.0 (omega arith)

pub loop-i-preserved : goal.loop-i-preserved
loop-i-preserved c =
    let a = c.args.lent.now in
    let kept : ℕ → ℕ → Type 0 = λ p b. Below a.shape.l (a.shape.r * a.shape.l) p a.parity.now (parity a.shape a.«data».now) b in
    let h = starts (goal.at.loop-i-preserved c).After-min-n in
    subst (λ (p : ℕ). kept p c.window-b.result) (omega arith)
    (c.window-b.ensures (subst (λ (p : ℕ). kept p c.loop-i.b) (omega arith) c.loop-i.invariant))

pub returns : goal.returns
returns c =
    let a = c.args.lent.now in
    let end = windows_end _ _ _ c.step-most.ensures.0 (omega arith) in
    windows_done _ _ _ _ _ _ end (lent_long a.shape _ _ a.allowed) (parity-length a.shape _) c.loop-i.invariant
