-- The lost positions put at the front of a list, one at a time.
use Prim.Native.Nat.{ℕ, zero, suc, ◌+◌, ◌-◌, ◌≤◌, ◌<◌}
use mathlib.Core.Path.{◌≡◌, refl, sym, ap, ◌∙◌}
use mathlib.Core.Bool.{Bool, true, false, cond}
use mathlib.Core.List.{List, [], ◌∷◌}
use native.Mathlib.Omega.{arith}
use lib.Dec.{leb}
use lib.ListN.{length, get_or, set}
use borrow.Author.Tests.{leb-true}
use Rattle.field.specs.Bytes.{over}
use Rattle.field.proofs.Over.{over_none, over_step}
use Rattle.std.specs.Result.{ResultUnwrapsOrElse}
use Rattle.std.specs.declared.result.Result.{Result}
use Rattle.std.specs.declared.result.Result.TheVariants.{Ok, Err}
use Rattle.number.specs.declared.Number.{Number}
use Rattle.number.specs.declared.Flaw.{Flaw}
use Rattle.number.specs.declared.Flaw.TheVariants as flaw
use Rattle.number.specs.Number.{reported, Standing, Value, Cut, Malformed, number_at, limited, groups_at, value_of, next_of}
use Rattle.record.specs.Reading.{positions_at}

-- a number is at most 2^32-1
limited_most : (g : Standing) → value_of (limited g) ≤ 4294967295
limited_most (Value v next) = go (leb v 4294967295) refl
  where
    go : (b : Bool) → leb v 4294967295 ≡ b → value_of (cond b (Value v next) Malformed) ≤ 4294967295
    go true e = leb-true v 4294967295 e
    go false e = omega arith
limited_most Cut = omega arith
limited_most Malformed = omega arith

pub value_most : (s : List ℕ) (at : ℕ) → value_of (number_at s at) ≤ 4294967295
value_most s at = limited_most (groups_at 5 s at)

pub positions-length : (s : List ℕ) (m at : ℕ) → length (positions_at s m at) ≡ m
unfolding positions_at
positions-length s zero at = refl
positions-length s (suc m) at = ap suc (positions-length s m (next_of (number_at s at)))

-- the positions from the i-th on, and the next of them
pub positions_next : (s : List ℕ) (m i at : ℕ) → i < m
    → positions_at s (m - i) at ≡ value_of (number_at s at) ∷ positions_at s (m - (i + 1)) (next_of (number_at s at))
unfolding positions_at
positions_next s m i at h =
    let e : m - i ≡ suc (m - (i + 1)) = omega arith in
    ap (λ (n : ℕ). positions_at s n at) e

pub positions_none : (s : List ℕ) (m i at : ℕ) → m ≤ i → positions_at s (m - i) at ≡ []
unfolding positions_at
positions_none s m i at h =
    let e : m - i ≡ 0 = omega arith in
    ap (λ (n : ℕ). positions_at s n at) e

pub positions_small : (s : List ℕ) (m i at : ℕ) → i < m → ((j : ℕ) → get_or (positions_at s (m - i) at) j 0 < 65536)
    → (value_of (number_at s at) < 65536) × ((j : ℕ) → get_or (positions_at s (m - (i + 1)) (next_of (number_at s at))) j 0 < 65536)
positions_small s m i at h small =
    let e = positions_next s m i at h in
    (rw e at (small 0), λ j. rw e at (small (suc j)))

pub list_turn : (s lost : List ℕ) (m i at v : ℕ) → i < m → m ≤ length lost → v ≡ value_of (number_at s at)
    → over (set lost i v) (i + 1) (positions_at s (m - (i + 1)) (next_of (number_at s at))) ≡ over lost i (positions_at s (m - i) at)
list_turn s lost m i at v h l e =
    over_step lost i v (positions_at s (m - (i + 1)) (next_of (number_at s at))) (omega (arith, positions-length s (m - (i + 1)) (next_of (number_at s at))))
    ∙ ap (λ (x : ℕ). over lost i (x ∷ positions_at s (m - (i + 1)) (next_of (number_at s at)))) e
    ∙ ap (over lost i) (sym (positions_next s m i at h))

pub list_done : (s lost : List ℕ) (m i at : ℕ) → m ≤ i → over lost i (positions_at s (m - i) at) ≡ lost
list_done s lost m i at h = ap (over lost i) (positions_none s m i at h) ∙ sym (over_none lost i)

-- of what is no number, the value and the place after it are 0
pub default_is : (r : Result Number Flaw) (n : Number) (s : List ℕ) (at : ℕ) → reported r ≡ number_at s at
    → ResultUnwrapsOrElse r (λ x. (x.value ≡ 0) × (x.next ≡ 0)) n
    → (n.value ≡ value_of (number_at s at)) × (n.next ≡ next_of (number_at s at))
default_is (Ok x) n s at h w = (ap (λ (y : Number). y.value) w ∙ ap value_of h, ap (λ (y : Number). y.next) w ∙ ap next_of h)
default_is (Err flaw.Cut) n s at h w = (w.0 ∙ ap value_of h, w.1 ∙ ap next_of h)
default_is (Err flaw.Malformed) n s at h w = (w.0 ∙ ap value_of h, w.1 ∙ ap next_of h)
