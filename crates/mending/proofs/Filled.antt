-- A list filled place by place: what holds of each value put holds of all places passed.
use Prim.Native.Nat.{ℕ, ◌+◌, ◌<◌, ◌≤◌}
use mathlib.Core.Path.{◌≡◌, sym, subst}
use mathlib.Core.Logic.{◌⊎◌, inl, inr}
use mathlib.Core.List.{List}
use native.Mathlib.Omega.{arith}
use lib.ListN.{length, get_or, set}
use lib.Seq.{get_or-set_same, get_or-set_other}
use Rattle.field.proofs.Cases.{below_or_from}

pub filled_turn : (P : ℕ → ℕ → Type 0) (xs : List ℕ) (v x : ℕ) → v < length xs → ((u : ℕ) → u < v → P u (get_or xs u 0)) → P v x
    → (u : ℕ) → u < v + 1 → P u (get_or (set xs v x) u 0)
filled_turn P xs v x room h e u l = go (below_or_from u v)
  where
    go : (u < v) ⊎ (v ≤ u) → P u (get_or (set xs v x) u 0)
    go (inl m) = subst (P u) (sym (get_or-set_other xs v u x 0 (λ q. omega (arith, q)))) (h u m)
    go (inr m) =
        let q : v ≡ u = omega arith in
        subst (λ (z : ℕ). P z (get_or (set xs v x) z 0)) q (subst (P v) (sym (get_or-set_same xs v x 0 room)) e)
