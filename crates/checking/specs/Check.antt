-- The check (document 01, 'Stripes', 'Mending'): where the parity of a stripe first disagrees with the parity by definition.
use Rattle.std.specs.Prelude.{ℕ, ◌+◌, ◌*◌, ◌/◌, ◌%◌, ◌<◌, ◌≡◌, cond, List, [], ◌∷◌, ltb, eqb, length, get_or}
use Rattle.stripe.specs.declared.Shape.{Shape}
use Rattle.std.specs.declared.option.Option.{Option}
use Rattle.std.specs.declared.option.Option.TheVariants.{None, Some}
use Rattle.std.specs.declared.result.Result.{Result}
use Rattle.std.specs.declared.result.Result.TheVariants.{Ok, Err}
use Rattle.stripe.specs.declared.refusal.Refusal.{Refusal}
use Rattle.stripe.specs.Refusal.{refusal_number}
use Rattle.checking.specs.declared.Place.{Place}
use Rattle.stripe.specs.Shape.{parity_length}
use Rattle.stripe.specs.Stripe.{parity_byte, parity}
use Rattle.stripe.specs.Column.{lent_refusal}
use Rattle.checking.specs.Compare.{first_difference}

-- nowhere, or at a parity column and a place in it, or a refusal
pub data Wrong : Type 0 where
  Nowhere : Wrong
  At : ℕ → ℕ → Wrong
  Refused : ℕ → Wrong

-- what an answer of the check reports
abbrev pub found : Option Place → Wrong
found None = Nowhere
found (Some w) = At w.column w.place

abbrev pub reported : Result (Option Place) Refusal → Wrong
reported (Ok w) = found w
reported (Err e) = Refused (refusal_number e)

-- the number of an answer: 0 for a codeword, 8 for a stripe that is none, else the refusal
abbrev pub number_of : Wrong → ℕ
number_of Nowhere = 0
number_of (At i p) = 8
number_of (Refused n) = n

-- the values of an answer: the parity column and the place in it
abbrev pub values_of : Wrong → List ℕ
values_of Nowhere = []
values_of (At i p) = i ∷ p ∷ []
values_of (Refused n) = []

-- index n of the parity bytes as parity column and place, or nowhere if it is past the last
unfoldable pub where_is : Shape → ℕ → Wrong
where_is s n = cond (ltb n (parity_length s)) (At (n / s.l) (n % s.l)) Nowhere

-- the first index at which the parity lent differs from the parity of the data, or the refusal
unfoldable pub first_wrong : Shape → List ℕ → List ℕ → Wrong
first_wrong s ds ps =
    cond (eqb (lent_refusal s (length ds) (length ps)) 0) (where_is s (first_difference ps (parity s ds)))
    (Refused (lent_refusal s (length ds) (length ps)))

-- parity column i holds at place p another byte than the parity by definition, and no parity byte before that one does
pub record FirstDisagreement (s : Shape) (ds ps : List ℕ) (i p : ℕ) : Type 0 where
  pub column : i < s.r
  pub place : p < s.l
  pub differs : get_or ps (i * s.l + p) 0 ≡ parity_byte s ds i p → ⊥
  pub before : (j q : ℕ) → j < s.r → q < s.l → j * s.l + q < i * s.l + p → get_or ps (j * s.l + q) 0 ≡ parity_byte s ds j q
