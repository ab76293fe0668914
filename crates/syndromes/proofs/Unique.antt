-- Any two outcomes that the contract of `syndromes` allows for the same arguments are equal: no weight is 0, so a byte is told by its product
-- with one.
use mathlib.Core.Path.{◌≡◌, sym, ap, ◌∙◌}
use mathlib.Core.List.{List}
use mathlib.Core.Logic.{⊎_elim}
use Prim.Native.Nat.{ℕ, ◌*◌, ◌<◌}
use lib.ListN.{length}
use contract.Lifetimes.{Lfts}
use borrow.Fn.World.{ArgsD, ResD}
use denote.Triple.Clauses.{AtExit}
use Rattle.field.specs.Field.{◌⊗◌, gpow, inverse_of}
use Rattle.field.proofs.Mul.{mul_assoc, mul_comm, one-mul, mul_inverse, gpow_pos, gpow-lt}
use Rattle.stripe.specs.declared.Shape.{Shape}
use Rattle.stripe.proofs.Places.{by_places}
use Rattle.syndromes.specs.Syndromes.{Syndromes, Filled}
use Rattle.syndromes.proofs.Judged.{lent_or_not}
use Rattle.syndromes.specs.contracts.syndromes as syndromes
use Rattle.syndromes.proofs.syndromes.Reads as syndromes-reads

module _ (w : ℕ) (p : 0 < w) (h : w < 256) where
  undone : (a : ℕ) → a < 256 → inverse_of w ⊗ (w ⊗ a) ≡ a
  undone a k = sym (mul_assoc (inverse_of w) w a) ∙ ap (λ (z : ℕ). z ⊗ a) (mul_comm (inverse_of w) w ∙ mul_inverse w p h) ∙ one-mul a k

  told : (a b : ℕ) → a < 256 → b < 256 → w ⊗ a ≡ w ⊗ b → a ≡ b
  told a b ha hb e = sym (undone a ha) ∙ ap (λ (z : ℕ). inverse_of w ⊗ z) e ∙ undone b hb

-- a stripe has its syndromes over the weights of column x once
pub syndromes_one : (s : Shape) (x : ℕ) (xs ys zs : List ℕ) → Syndromes s x xs ys → Syndromes s x xs zs → ys ≡ zs
syndromes_one s x xs ys zs f g =
    by_places s.r s.l ys zs f.long g.long
    (λ j y hj hy. told (gpow (j * x)) (gpow_pos (j * x)) (gpow-lt (j * x)) _ _ (f.bytes _) (g.bytes _) (f.at j y hj hy ∙ sym (g.at j y hj hy)))

pub filled-one : (s : Shape) (x : ℕ) (xs os ys zs : List ℕ) → Filled s x xs os ys → Filled s x xs os zs → ys ≡ zs
filled-one s x xs os ys zs f g =
    ⊎_elim (λ h. syndromes_one s x xs ys zs (f.lent h) (g.lent h)) (λ n. f.not_lent n ∙ sym (g.not_lent n))
    (lent_or_not s x (length xs) (length os))

pub syndromes_unique : (κs : Lfts 2) (a : ArgsD syndromes.signature κs) (r r' : ResD syndromes.signature κs) (s s' : AtExit syndromes.ended κs)
    → syndromes-reads.Post κs a r s → syndromes-reads.Post κs a r' s' → s.1.1.1.0.now ≡ s'.1.1.1.0.now
syndromes_unique κs a r r' s s' p q = filled-one _ _ _ _ _ _ p q
