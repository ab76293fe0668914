-- Refusals and their numbers (document 01, 'Refusal numbers', the table).
use Rattle.std.specs.Prelude.{ℕ}
use Rattle.std.specs.declared.result.Result.{Result}
use Rattle.std.specs.declared.result.Result.TheVariants.{Ok, Err}
use Rattle.stripe.specs.declared.refusal.Refusal.{Refusal}
use Rattle.stripe.specs.declared.refusal.Refusal.TheVariants.{Shape, Length, Stripes, NewParity, Buffer}
use Rattle.stripe.specs.declared.refusal.Refusal.TheVariants.{Lost, TooManyLost, Disagrees, Cut, LeftOver}

-- the number of a refusal
abbrev pub refusal_number : Refusal → ℕ
refusal_number Shape = 1
refusal_number Length = 2
refusal_number Stripes = 3
refusal_number NewParity = 4
refusal_number Buffer = 5
refusal_number Lost = 6
refusal_number TooManyLost = 7
refusal_number Disagrees = 8
refusal_number Cut = 9
refusal_number LeftOver = 10

-- the number of an answer's refusal, 0 where nothing is refused
abbrev pub refusal_of : {A : Type 0} → Result A Refusal → ℕ
refusal_of (Ok x) = 0
refusal_of (Err e) = refusal_number e
