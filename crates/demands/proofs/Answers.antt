-- What an answer of 0 and any other says of what is left, for all calls alike.
use Prim.Native.Nat.{ℕ}
use mathlib.Core.Path.{◌≡◌, refl, sym, ap, ◌∙◌}
use mathlib.Core.Bool.{Bool, cond}
use mathlib.Core.Logic.{◌⊎◌, inl, inr}
use mathlib.Core.List.{List}
use borrow.Author.Tests.{eq-eqb, ne_eqb}
use lib.Dec.{eqb}
use lib.ListN.{length}
use Rattle.stripe.specs.declared.Shape.{Shape}
use Rattle.lost.specs.Positions.{positions}
use Rattle.mending.specs.Mend.{mend_refusal, Restored, Mended}
use Rattle.record.specs.Reading.{Got, read_refusal}
use Rattle.writing.specs.Writing.{Written, write_refusal}
use Rattle.demands.specs.Calls.{Reads, Writes}
use Rattle.field.proofs.Cases.{zero_or_not}

-- what is done where the answer is 0, and what is left where it is not
pub done : {A : Type 0} (v : ℕ) (x y : A) → v ≡ 0 → cond (eqb v 0) x y ≡ x
done v x y e = ap (λ (b : Bool). cond b x y) (eq-eqb v 0 e)

pub left : {A : Type 0} (v : ℕ) (x y : A) → (v ≡ 0 → ⊥) → cond (eqb v 0) x y ≡ y
left v x y h = ap (λ (b : Bool). cond b x y) (ne_eqb v 0 h)

-- the number of an answer
pub number_of : {A : Type 0} (f : A → ℕ) (x : ℕ) (a b : A) → f a ≡ 0 → f b ≡ x → f (cond (eqb x 0) a b) ≡ x
number_of f x a b e g = go (zero_or_not x)
  where
    go : (x ≡ 0) ⊎ (x ≡ 0 → ⊥) → f (cond (eqb x 0) a b) ≡ x
    go (inl z) = ap f (done x a b z) ∙ e ∙ sym z
    go (inr n) = ap f (left x a b n) ∙ g

pub got_number : (bs xs es : List ℕ) (v : Got) (xs' es' : List ℕ) → Reads bs xs es v xs' es' → v.number ≡ read_refusal bs (length xs) (length es)
got_number bs xs es v xs' es' p = ap (λ (g : Got). g.number) p.0 ∙ number_of (λ (g : Got). g.number) (read_refusal bs (length xs) (length es)) _ _ refl refl

pub written_number : (s : Shape) (xs es out : List ℕ) (v : Written) (out' : List ℕ) → Writes s xs es out v out' → v.number ≡ write_refusal s xs es (length out)
written_number s xs es out v out' p =
    ap (λ (g : Written). g.number) p.0 ∙ number_of (λ (g : Written). g.number) (write_refusal s xs es (length out)) _ _ refl refl

-- the outcome of a stripe that is judged
abbrev pub Outcome : Shape → List ℕ → List ℕ → ℕ → List ℕ → Type 0
Outcome s xs ls v xs' = ((v ≡ 0) × Restored s (positions ls) xs xs') ⊎ ((v ≡ 8) × ((xs' ≡ xs) × ((zs : List ℕ) → Restored s (positions ls) xs zs → ⊥)))

-- what is mended was not refused
pub passed : (s : Shape) (xs ls : List ℕ) (v : ℕ) (xs' : List ℕ) → Mended s ls xs v xs' → v ≡ 0 → mend_refusal s (length xs) ls ≡ 0
passed s xs ls v xs' p z = go (zero_or_not (mend_refusal s (length xs) ls))
  where
    go : (mend_refusal s (length xs) ls ≡ 0) ⊎ (mend_refusal s (length xs) ls ≡ 0 → ⊥) → mend_refusal s (length xs) ls ≡ 0
    go (inl e) = e
    go (inr n) = sym (p.refused n).0 ∙ z
