-- A list of 425 records has room for the spans of every plan: a column of parity is read beside at least 3/2 of a column of data.
use Prim.Native.Nat.{ℕ, ◌+◌, ◌*◌, ◌≤◌}
use mathlib.Core.Path.{◌≡◌, refl, sym, subst}
use mathlib.Core.Bool.{Bool, true, false, cond}
use mathlib.Core.Logic.{◌⊎◌, inl, inr}
use native.Mathlib.Nat.{mul-le-mul, mul_assoc, le_refl}
use native.Mathlib.Omega.{arith}
use lib.Dec.{eqb}
use borrow.Author.Tests.{eqb-true}
use Rattle.stripe.specs.declared.Shape.{Shape}
use Rattle.plan.specs.declared.Kind.{Kind}
use Rattle.plan.specs.Plan.{fold_refusal, kind_of, columns_each, columns_read}
use Rattle.plan.proofs.Foldable.{IsA, IsB, IsC, foldable}

few : (n a k : ℕ) → n * k ≤ 255 → a ≤ k → n * a ≤ 425
few n a k h g = omega (arith, mul-le-mul (le_refl n) g)

many : (n k r : ℕ) → n * k ≤ 255 → 3 * r ≤ 2 * k → n * (k + r) ≤ 425
many n k r h g =
    let wide : n * ((k + r) * 3) ≤ n * (k * 5) = mul-le-mul (le_refl n) (omega arith) in
    omega (arith, wide, mul_assoc n (k + r) 3, mul_assoc n k 5)

by_kind : (s : Shape) (n f : ℕ) → n * s.k ≤ 255 → IsA s f ⊎ (IsB s f ⊎ IsC s f) → n * columns_each (kind_of s f) s f ≤ 425
unfolding columns_each
by_kind s n f h (inl a) = subst (λ (κ : Kind). n * columns_each κ s f ≤ 425) (sym a.kind) (few n f s.k h a.fewer)
by_kind s n f h (inr (inl b)) =
    let p = b.prepared in
    let gains = p.gains in
    let most = p.mark_most in
    let inside = p.mark_data in
    subst (λ (κ : Kind). n * columns_each κ s f ≤ 425) (sym b.kind) (many n s.k s.r h (omega arith))
by_kind s n f h (inr (inr c)) = subst (λ (κ : Kind). n * columns_each κ s f ≤ 425) (sym c.kind) (few n s.k s.k h (le_refl s.k))

by_refusal : (s : Shape) (n f : ℕ) (b : Bool) → eqb (fold_refusal s n f) 0 ≡ b → cond b (n * columns_each (kind_of s f) s f) 0 ≤ 425
by_refusal s n f true e = let p = foldable s n f (eqb-true _ _ e) in by_kind s n f p.wide_most p.kinds
by_refusal s n f false e = omega arith

pub columns_most : (s : Shape) (n f : ℕ) → columns_read s n f ≤ 425
unfolding columns_read
columns_most s n f = by_refusal s n f _ refl
