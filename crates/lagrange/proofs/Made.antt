-- An array made by a closure that changes nothing of what it takes with it.
use Prim.Native.Nat.{ℕ, zero, suc, ◌+◌, ◌<◌, ◌≤◌}
use mathlib.Core.Path.{◌≡◌, sym, subst, ◌∙◌}
use mathlib.Core.List.{List}
use mathlib.Core.Logic.{⊎_elim}
use native.Mathlib.Omega.{arith}
use denote.Param.Members.{Mut, Called}
use lib.ListN.{get_or}
use Rattle.field.proofs.Cases.{same_or_not}
use Rattle.std.specs.Array.{IsFromFnResult, IsFromFnResultFrom}

-- each entry is what the closure makes of its number
pub entries_made : {F : Type 0} (g : Mut F (ℕ × Unit {0}) ℕ) (f : F) (of : ℕ → ℕ)
    → ((i r : ℕ) (f' : F) → Called g f (i, tt) r f' → (r ≡ of i) × (f' ≡ f)) → (ys : List ℕ) (n : ℕ) → IsFromFnResult g f ys n
    → (q : ℕ) → q < n → get_or ys q 0 ≡ of q
entries_made {F} g f of call ys n made q h = go n 0 made.each (omega arith) (omega arith)
  where
    go : (m i : ℕ) → IsFromFnResultFrom g f ys i m → i ≤ q → q < i + m → get_or ys q 0 ≡ of q
    go zero i e from to = absurd (omega arith)
    go (suc m) i e from to =
        let k = call i e.1 e.0 e.3 in
        ⊎_elim (λ (own : q ≡ i). subst (λ (x : ℕ). get_or ys x 0 ≡ of x) (sym own) (e.2.1 0 ∙ k.0))
        (λ (other : q ≡ i → ⊥). go m (i + 1) (subst (λ (s : F). IsFromFnResultFrom g s ys (i + 1) m) k.1 e.4) (omega arith) (omega arith))
        (same_or_not q i)
