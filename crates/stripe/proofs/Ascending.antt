-- The test of ascending positions, one position at a time, and that it says what `Ascending` says.
use mathlib.Core.Path.{◌≡◌, refl, ap, ap₂, ◌∙◌}
use mathlib.Core.Bool.{Bool, true, false, ◌&&◌}
use mathlib.Core.List.{List, [], ◌∷◌}
use Prim.Native.Nat.{ℕ, suc, ◌≤◌, ◌<◌}
use lib.Dec.{leb, ltb}
use borrow.Author.Tests.{le-leb, lt-leb, lt-ltb, le-ltb, leb-true, ltb-true}
use Rattle.field.proofs.Cases.{and_left, and_right}
use Rattle.stripe.specs.Stripe.{Ascending, ascending}

pub ascending-nil : (a n : ℕ) → ascending a n [] ≡ true
unfolding ascending
ascending-nil a n = refl

pub ascending_low : (a n e : ℕ) (es : List ℕ) → e < a → ascending a n (e ∷ es) ≡ false
unfolding ascending
ascending_low a n e es h = ap (λ (b : Bool). b && ltb e n && ascending (suc e) n es) (lt-leb a e h)

pub ascending_high : (a n e : ℕ) (es : List ℕ) → a ≤ e → n ≤ e → ascending a n (e ∷ es) ≡ false
unfolding ascending
ascending_high a n e es h m =
    ap₂ (λ (b d : Bool). b && d && ascending (suc e) n es) (le-leb a e h) (le-ltb e n m)

pub ascending_next : (a n e : ℕ) (es : List ℕ) → a ≤ e → e < n → ascending a n (e ∷ es) ≡ ascending (suc e) n es
unfolding ascending
ascending_next a n e es h m =
    ap₂ (λ (b d : Bool). b && d && ascending (suc e) n es) (le-leb a e h) (lt-ltb e n m)

pub ascending_says : (a n : ℕ) (es : List ℕ) → ascending a n es ≡ true → Ascending a n es
unfolding ascending Ascending
ascending_says a n [] h = tt
ascending_says a n (e ∷ es) h = (
  leb-true _ _ (and_left _ _ (and_left _ _ h)),
  ltb-true _ _ (and_right (leb a e) _ (and_left _ _ h)),
  ascending_says (suc e) n es (and_right (leb a e && ltb e n) _ h),
)

pub ascending_so : (a n : ℕ) (es : List ℕ) → Ascending a n es → ascending a n es ≡ true
unfolding Ascending
ascending_so a n [] h = ascending-nil a n
ascending_so a n (e ∷ es) h = ascending_next a n e es h.0 h.1 ∙ ascending_so (suc e) n es h.2
