-- The calls of the shelf daemon.
use Rattle.std.specs.Prelude.{ℕ, ◌≡◌, cond, List, eqb, ltb, length}
use Rattle.std.specs.declared.result.Result.{Result}
use Rattle.std.specs.declared.result.Result.TheVariants.{Ok, Err}
use Rattle.field.specs.Bytes.{over}
use Rattle.stripe.specs.declared.Shape.{Shape}
use Rattle.stripe.specs.declared.refusal.Refusal.{Refusal}
use Rattle.stripe.specs.Refusal.{refusal_number}
use Rattle.plan.specs.declared.Span.{Span}
use Rattle.plan.specs.Plan.{fold_refusal, columns_read, plan}

-- the shape of the four numbers of a call
abbrev pub shape_of : ℕ → ℕ → ℕ → ℕ → Shape
shape_of k r t l = record { k = k; r = r; t = t; l = l }

-- the refusal of a call for the plan's spans, with a list of so many records: 1 to 4 for the fold, 5 where the plan is longer than the list
unfoldable pub spans_refusal : Shape → ℕ → ℕ → ℕ → ℕ
spans_refusal s n f room = cond (eqb (fold_refusal s n f) 0) (cond (ltb room (columns_read s n f)) 5 0) (fold_refusal s n f)

-- how many spans are written
unfoldable pub spans_written : Shape → ℕ → ℕ → ℕ → ℕ
spans_written s n f room = cond (eqb (spans_refusal s n f room) 0) (columns_read s n f) 0

-- what is answered to a call for the spans of a plan: the refusal, and how many spans are written
pub record SpansAnswer : Type 0 where
  pub no : ℕ
  pub spans : ℕ

abbrev pub reported : Result ℕ Refusal → SpansAnswer
reported (Ok n) = record { no = 0; spans = n }
reported (Err e) = record { no = refusal_number e; spans = 0 }

abbrev pub spans_answer : Shape → ℕ → ℕ → ℕ → SpansAnswer
spans_answer s n f room = record { no = spans_refusal s n f room; spans = spans_written s n f room }

-- what the list holds in the end: the plan, and after it what it held; or what it held where the call is refused
unfoldable pub spans_filled : Shape → ℕ → ℕ → List Span → List Span
spans_filled s n f xs = cond (eqb (spans_refusal s n f (length xs)) 0) (over xs 0 (plan s n f)) xs

-- the answer v and the list ys in the end, of a call for the spans of a plan with the list xs
abbrev pub Planned : Shape → ℕ → ℕ → List Span → ℕ → List Span → Type 0
Planned s n f xs v ys = (v ≡ spans_refusal s n f (length xs)) × (ys ≡ spans_filled s n f xs)
