-- What is known of an answer of the reader by what it reports.
use Rattle.std.proofs.Common.{ℕ, ◌≡◌, refl, ap, ap₂}
use Rattle.std.specs.Prelude.{IsErrAnd}
use Rattle.std.specs.declared.result.Result.{Result}
use Rattle.std.specs.declared.result.Result.TheVariants.{Ok, Err}
use Rattle.number.specs.declared.Number.{Number}
use Rattle.number.specs.declared.Flaw.{Flaw}
use Rattle.number.specs.declared.Flaw.TheVariants as flaw
use Rattle.number.specs.Number.{Standing, reported, limited, onto, number_refusal}

-- a flaw handed on by `?` reports the same
pub flaw_handed_on : (r : Result Number Flaw) (e : Flaw) → IsErrAnd r (λ w. w ≡ e) → reported r ≡ reported (Err e)
flaw_handed_on (Ok n) e h = absurd h
flaw_handed_on (Err w) e h = ap (λ (x : Flaw). reported (Err x)) h

-- a flaw is no number: nothing goes before it, no limit cuts it, and it is refused 9
pub flaw_onto : (d : ℕ) (e : Flaw) → reported (Err e) ≡ onto d (reported (Err e))
flaw_onto d flaw.Cut = refl
flaw_onto d flaw.Malformed = refl

pub flaw_limited : (e : Flaw) → reported (Err e) ≡ limited (reported (Err e))
flaw_limited flaw.Cut = refl
flaw_limited flaw.Malformed = refl

pub flaw_refused : (e : Flaw) (g : Standing) → reported (Err e) ≡ g → 9 ≡ number_refusal g
flaw_refused flaw.Cut g h = ap number_refusal h
flaw_refused flaw.Malformed g h = ap number_refusal h

-- an answer is told by what it reports
pub same_reported : (r s : Result Number Flaw) → reported r ≡ reported s → r ≡ s
same_reported (Ok m) (Ok n) h =
    let v : m.value ≡ n.value = cc in
    let w : m.next ≡ n.next = cc in
    ap₂ (λ (x y : ℕ). Ok (record { value = x; next = y })) v w
same_reported (Ok m) (Err flaw.Cut) h = cc
same_reported (Ok m) (Err flaw.Malformed) h = cc
same_reported (Err flaw.Cut) (Ok n) h = cc
same_reported (Err flaw.Malformed) (Ok n) h = cc
same_reported (Err flaw.Cut) (Err flaw.Cut) h = refl
same_reported (Err flaw.Cut) (Err flaw.Malformed) h = cc
same_reported (Err flaw.Malformed) (Err flaw.Cut) h = cc
same_reported (Err flaw.Malformed) (Err flaw.Malformed) h = refl
