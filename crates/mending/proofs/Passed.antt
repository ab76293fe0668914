-- What is refused before the stripe is looked at, and what is known where nothing is.
use Prim.Native.Nat.{ℕ, ◌≤◌, ◌%◌}
use mathlib.Core.Path.{◌≡◌, refl}
use mathlib.Core.Bool.{Bool, true, false, cond}
use mathlib.Core.List.{List}
use native.Mathlib.Omega.{arith}
use lib.Dec.{eqb}
use lib.ListN.{length}
use borrow.Author.Tests.{eq-eqb, ne_eqb, eqb-true, eqb-false}
use Rattle.stripe.specs.declared.Shape.{Shape}
use Rattle.stripe.specs.Shape.{shape_refusal, columns, stripe_length}
use Rattle.stripe.specs.Stripe.{Ascending}
use Rattle.lost.specs.Positions.{positions, list_refusal}
use Rattle.lost.proofs.Listed.{listed}
use Rattle.mending.specs.Mend.{mend_refusal}

-- an allowed shape, a stripe of its length, and at most r positions that ascend below n
pub record Passed (s : Shape) (d : ℕ) (ls : List ℕ) : Type 0 where
  pub shape : shape_refusal s ≡ 0
  pub long : d ≡ stripe_length s
  pub even : length ls % 2 ≡ 0
  pub ascend : Ascending 0 (columns s) (positions ls)
  pub few : length (positions ls) ≤ s.r

lent_tests : (n m : ℕ) (a : Bool) → ◌≡◌ {A = ℕ} (cond (eqb n 0) (cond a m 5) n) 0 → (n ≡ 0) × ((a ≡ true) × (m ≡ 0))
lent_tests n m a e = go (eqb n 0) a refl e
  where
    go : (x a : Bool) → eqb n 0 ≡ x → ◌≡◌ {A = ℕ} (cond x (cond a m 5) n) 0 → (n ≡ 0) × ((a ≡ true) × (m ≡ 0))
    go true true h e = (eqb-true n 0 h, (refl, e))
    go true false h e = absurd (omega arith)
    go false a h e = absurd (eqb-false n 0 h e)

pub passed : (s : Shape) (d : ℕ) (ls : List ℕ) → mend_refusal s d ls ≡ 0 → Passed s d ls
unfolding mend_refusal
passed s d ls e =
    let t = lent_tests (shape_refusal s) _ (eqb d (stripe_length s)) e in
    let u = listed (columns s) s.r ls t.1.1 in
    record { shape = t.0; long = eqb-true _ _ t.1.0; even = u.even; ascend = u.ascend; few = u.few }

module _ (s : Shape) (d : ℕ) (ls : List ℕ) where
  pub mend_shape : (shape_refusal s ≡ 0 → ⊥) → mend_refusal s d ls ≡ shape_refusal s
  unfolding mend_refusal
  mend_shape h = simp (ne_eqb _ _ h)

  module _ (h : shape_refusal s ≡ 0) where
    pub mend_long : (d ≡ stripe_length s → ⊥) → mend_refusal s d ls ≡ 5
    unfolding mend_refusal
    mend_long n = simp (eq-eqb _ _ h, ne_eqb _ _ n)

    pub mend_list : d ≡ stripe_length s → mend_refusal s d ls ≡ list_refusal (columns s) s.r ls
    unfolding mend_refusal
    mend_list e = simp (eq-eqb _ _ h, eq-eqb _ _ e)
