-- The answer to a call for the spans of a plan, by what was tested: the fold's refusal, then the room.
use Prim.Native.Nat.{ℕ, ◌≤◌, ◌<◌}
use mathlib.Core.Path.{◌≡◌, refl, sym, ap, ◌∙◌}
use mathlib.Core.Bool.{Bool, false, cond}
use lib.Dec.{ltb, eqb}
use borrow.Author.Tests.{ne_eqb, lt-ltb, le-ltb}
use Rattle.std.specs.Prelude.{IsErrAnd}
use Rattle.std.specs.declared.result.Result.{Result}
use Rattle.std.specs.declared.result.Result.TheVariants.{Ok, Err}
use Rattle.stripe.specs.declared.Shape.{Shape}
use Rattle.stripe.specs.declared.refusal.Refusal.{Refusal}
use Rattle.stripe.specs.Refusal.{refusal_number}
use Rattle.plan.specs.Plan.{fold_refusal, columns_read}
use Rattle.shelf.specs.Shelf.{SpansAnswer, reported, spans_refusal, spans_written, spans_answer}

same_answer : (a b : SpansAnswer) → a.no ≡ b.no → a.spans ≡ b.spans → a ≡ b
same_answer a b e g i = record { no = e i; spans = g i }

abbrev answer : ℕ → ℕ → SpansAnswer
answer c m = record { no = c; spans = m }

none_written : (s : Shape) (n f room c : ℕ) → spans_refusal s n f room ≡ c → eqb c 0 ≡ false → spans_written s n f room ≡ 0
unfolding spans_written
none_written s n f room c e h = ap (λ (x : ℕ). cond (eqb x 0) (columns_read s n f) 0) e ∙ ap (λ (b : Bool). cond b (columns_read s n f) 0) h

all_written : (s : Shape) (n f room : ℕ) → spans_refusal s n f room ≡ 0 → spans_written s n f room ≡ columns_read s n f
unfolding spans_written
all_written s n f room e = ap (λ (x : ℕ). cond (eqb x 0) (columns_read s n f) 0) e

refused : (s : Shape) (n f room : ℕ) → eqb (fold_refusal s n f) 0 ≡ false → spans_refusal s n f room ≡ fold_refusal s n f
unfolding spans_refusal
refused s n f room e = ap (λ (b : Bool). cond b (cond (ltb room (columns_read s n f)) 5 0) (fold_refusal s n f)) e

passed : (s : Shape) (n f room : ℕ) → fold_refusal s n f ≡ 0 → spans_refusal s n f room ≡ cond (ltb room (columns_read s n f)) 5 0
unfolding spans_refusal
passed s n f room e = ap (λ (x : ℕ). cond (eqb x 0) (cond (ltb room (columns_read s n f)) 5 0) x) e

-- a refusal handed on by `?` is reported as it is
pub handed_answer : (r : Result ℕ Refusal) (e : Refusal) → IsErrAnd r (λ w. w ≡ e) → reported r ≡ answer (refusal_number e) 0
handed_answer (Ok x) e h = absurd h
handed_answer (Err w) e h = ap (λ (v : Refusal). answer (refusal_number v) 0) h

-- a refused fold
pub by_refusal : (s : Shape) (n f room c : ℕ) → c ≡ fold_refusal s n f → (c ≡ 0 → ⊥) → answer c 0 ≡ spans_answer s n f room
by_refusal s n f room c e h =
    let no_zero : eqb (fold_refusal s n f) 0 ≡ false = ne_eqb (fold_refusal s n f) 0 (λ z. h (e ∙ z)) in
    let told : spans_refusal s n f room ≡ fold_refusal s n f = refused s n f room no_zero in
    same_answer (answer c 0) (spans_answer s n f room) (e ∙ sym told) (sym (none_written s n f room (fold_refusal s n f) told no_zero))

-- a list that is shorter than the plan
pub by_room : (s : Shape) (n f room c : ℕ) → fold_refusal s n f ≡ 0 → c ≡ columns_read s n f → room < c → answer 5 0 ≡ spans_answer s n f room
by_room s n f room c z e h =
    let told : spans_refusal s n f room ≡ 5 = passed s n f room z ∙ ap (λ (b : Bool). cond b 5 0) (ap (ltb room) (sym e) ∙ lt-ltb room c h) in
    same_answer (answer 5 0) (spans_answer s n f room) (sym told) (sym (none_written s n f room 5 told refl))

-- a list with room
pub by_nothing : (s : Shape) (n f room c : ℕ) → fold_refusal s n f ≡ 0 → c ≡ columns_read s n f → c ≤ room → answer 0 c ≡ spans_answer s n f room
by_nothing s n f room c z e h =
    let told : spans_refusal s n f room ≡ 0 = passed s n f room z ∙ ap (λ (b : Bool). cond b 5 0) (ap (ltb room) (sym e) ∙ le-ltb room c h) in
    same_answer (answer 0 c) (spans_answer s n f room) (sym told) (e ∙ sym (all_written s n f room told))
