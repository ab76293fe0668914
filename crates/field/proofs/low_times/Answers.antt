-- `low_times` meets its contract: a bit is 0 or not.
use mathlib.Core.Path.{◌≡◌, refl, sym, ap}
use Prim.Native.Nat.{ℕ, zero, suc}
use Rattle.field.specs.Field.{times}
use Rattle.field.proofs.low_times.Goals as goal

set : (d b : ℕ) → (d ≡ 0 → ⊥) → b ≡ times d b
set zero b n = absurd (n refl)
set (suc d) b n = refl

pub returns-then-a-eq0 : goal.returns-then-a-eq0
returns-then-a-eq0 c = ap (λ (d : ℕ). times d c.args.b) (sym c.if-a-eq0.true)

pub returns : goal.returns
returns c = set _ _ c.if-a-eq0.false
