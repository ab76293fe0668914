-- `is_next` meets its contract: past the end there is none.
use mathlib.Core.Path.{◌≡◌, ap, ap₂, ◌∙◌}
use mathlib.Core.Bool.{Bool, ◌&&◌}
use mathlib.Core.List.{List}
use Prim.Native.Nat.{ℕ}
use native.Mathlib.Omega.{arith}
use lib.Dec.{eqb, ltb}
use lib.ListN.{length, get_or}
use Rattle.std.proofs.Common.{Option, Some, None, Bor, is_some, unwrap_or}
use Rattle.std.specs.Option.{option_eq, option_map}
use Rattle.repair.specs.Windows.{next_is}
use Rattle.repair.proofs.choose.is_next.Goals as goal

here : (es : List ℕ) (v : ℕ) (o : Option (Bor ℕ)) (p : Bor ℕ) → is_some o ≡ ltb v (length es)
    → unwrap_or (option_map (λ (x : Bor ℕ). x.now) o) 0 ≡ get_or es v 0
    → option_eq (λ (x y : Bor ℕ). eqb x.now y.now) o (Some p) ≡ next_is es v p.now
unfolding next_is
here es v None p some at = ap (λ (b : Bool). b && eqb (get_or es v 0) p.now) some
here es v (Some x) p some at = ap₂ (λ (b : Bool) (n : ℕ). b && eqb n p.now) some at

pub returns : goal.returns
returns c = c.eq.ensures ∙ here c.args.lost.now c.args.v _ _ c.get.ensures.lookup.0 (c.get.ensures.lookup.4 (omega arith) 0)
