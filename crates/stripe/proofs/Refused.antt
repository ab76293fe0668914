-- What is known of an answer by the number of its refusal.
use Rattle.std.proofs.Common.{ℕ, ◌≡◌, ◌<◌, true, false, cond, refl, ap, sym, ◌∙◌, arith}
use Rattle.std.proofs.Common.{eqb}
use Rattle.std.proofs.lemmas.Bool.{false≢true}
use Rattle.std.specs.Prelude.{IsErrAnd, is_err}
use Rattle.std.specs.declared.result.Result.{Result}
use Rattle.std.specs.declared.result.Result.TheVariants.{Ok, Err}
use Rattle.stripe.specs.declared.refusal.Refusal.{Refusal}
use Rattle.stripe.specs.declared.refusal.Refusal.TheVariants.{Shape, Length, Stripes, NewParity, Buffer, Lost, TooManyLost, Disagrees, Cut, LeftOver}
use Rattle.stripe.specs.Refusal.{refusal_number, refusal_of}

-- an error handed on by `?` keeps its number
pub handed_on : {A : Type 0} (r : Result A Refusal) (e : Refusal) → IsErrAnd r (λ w. w ≡ e) → refusal_of r ≡ refusal_number e
handed_on (Ok x) e h = absurd h
handed_on (Err w) e h = ap refusal_number h

-- the refusal of a number
numbered : ℕ → Refusal
numbered n = cond (eqb n 1) Shape (cond (eqb n 2) Length (cond (eqb n 3) Stripes (cond (eqb n 4) NewParity (cond (eqb n 5) Buffer
    (cond (eqb n 6) Lost (cond (eqb n 7) TooManyLost (cond (eqb n 8) Disagrees (cond (eqb n 9) Cut LeftOver))))))))

numbered_back : (e : Refusal) → numbered (refusal_number e) ≡ e
unfolding numbered
numbered_back Shape = refl
numbered_back Length = refl
numbered_back Stripes = refl
numbered_back NewParity = refl
numbered_back Buffer = refl
numbered_back Lost = refl
numbered_back TooManyLost = refl
numbered_back Disagrees = refl
numbered_back Cut = refl
numbered_back LeftOver = refl

-- no refusal has the number 0
pub refused_some : (e : Refusal) → 0 < refusal_number e
refused_some Shape = omega arith
refused_some Length = omega arith
refused_some Stripes = omega arith
refused_some NewParity = omega arith
refused_some Buffer = omega arith
refused_some Lost = omega arith
refused_some TooManyLost = omega arith
refused_some Disagrees = omega arith
refused_some Cut = omega arith
refused_some LeftOver = omega arith

-- a refusal is told by its number
pub same_refusal : (e w : Refusal) → refusal_number e ≡ refusal_number w → e ≡ w
same_refusal e w h = sym (numbered_back e) ∙ (ap numbered h ∙ numbered_back w)

-- an answer is told by the number of its refusal, and by what it holds where there is none
pub same_answer : {A : Type 0} (r s : Result A Refusal) → refusal_of r ≡ refusal_of s → ((x y : A) → r ≡ Ok x → s ≡ Ok y → x ≡ y) → r ≡ s
same_answer (Ok x) (Ok y) h f = ap Ok (f x y refl refl)
same_answer (Ok x) (Err w) h f = absurd (omega (arith, refused_some w))
same_answer (Err e) (Ok y) h f = absurd (omega (arith, refused_some e))
same_answer (Err e) (Err w) h f = ap Err (same_refusal e w h)

-- what `is_err` says of an answer
pub is_refused : {A : Type 0} (r : Result A Refusal) → true ≡ is_err r → refusal_of r ≡ 0 → ⊥
is_refused (Ok x) h e = absurd (false≢true (sym h))
is_refused (Err w) h e = omega (arith, refused_some w)

pub is_accepted : {A : Type 0} (r : Result A Refusal) → false ≡ is_err r → refusal_of r ≡ 0
is_accepted (Ok x) h = refl
is_accepted (Err w) h = absurd (false≢true h)
