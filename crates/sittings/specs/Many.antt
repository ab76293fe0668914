-- Any number of sittings, one after the other: each folds the stripes that it finds in groups of the same number.
use Rattle.std.specs.Prelude.{ℕ, ◌*◌, ◌≡◌, List, [], ◌∷◌}
use Rattle.points.specs.Folding.{parts}
use Rattle.stripe.specs.declared.Shape.{Shape}
use Rattle.plan.specs.declared.Kind.TheVariants.{A}
use Rattle.plan.specs.Plan.{kind_of, fold_refusal, wide_shape}
use Rattle.sittings.specs.Sittings.{halves}

-- a sitting: so many stripes to a group, and so many parity columns after it
pub record Sitting : Type 0 where
  pub stripes : ℕ
  pub new : ℕ

-- how many stripes the sittings fold into one
unfoldable pub stripes_of : List Sitting → ℕ
stripes_of [] = 1
stripes_of (x ∷ xs) = x.stripes * stripes_of xs

-- the parity columns after the last sitting, the first being x
unfoldable pub last_new : Sitting → List Sitting → ℕ
last_new x [] = x.new
last_new x (y ∷ ys) = last_new y ys

-- the stripes after the sittings
unfoldable pub after_all : Shape → List Sitting → List (List ℕ) → List (List ℕ)
after_all s [] zss = zss
after_all s (x ∷ xs) zss =
    after_all (wide_shape s x.stripes x.new) xs (halves s x.stripes x.new (parts x.stripes (stripes_of xs) zss))

-- no sitting is refused
unfoldable pub AllPass : Shape → List Sitting → Type 0
AllPass s [] = Unit {0}
AllPass s (x ∷ xs) = (fold_refusal s x.stripes x.new ≡ 0) × AllPass (wide_shape s x.stripes x.new) xs

-- every sitting is of kind A
unfoldable pub AllA : Shape → List Sitting → Type 0
AllA s [] = Unit {0}
AllA s (x ∷ xs) = (kind_of s x.new ≡ A) × AllA (wide_shape s x.stripes x.new) xs
