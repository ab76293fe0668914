-- What a sitting does (document 02, request 1), by the calls alone.
use Rattle.std.specs.Prelude.{ℕ, ◌*◌, ◌≡◌, List, ◌++◌, length, take}
use Rattle.plan.specs.declared.Span.{Span}
use Rattle.fold.specs.Fold.{cut_out, wide_data}
use Rattle.shelf.specs.Shelf.{shape_of}
use Rattle.demands.specs.Calls.{Folds, PlanColumns, PlanSpans}

-- A sitting over the stripes zss leaves the wide stripe zs. `shelf_plan_spans` fills a list with the plan, as many spans as
-- `shelf_plan_columns_read` tells; `shelf_fold` is handed what these spans name of the stripes as they lie, and lent room for f parity
-- columns that may hold anything; zs is then the data of the stripes in order, and the parity that the call left.
pub record Sits (k r t l n f : ℕ) (zss : List (List ℕ)) (zs : List ℕ) : Type 0 where
  pub list : List Span
  pub told : List Span
  pub columns : ℕ
  pub planned : PlanSpans k r t l n f list 0 told
  pub counted : PlanColumns k r t l n f columns
  pub room : List ℕ
  pub roomy : length room ≡ f * l
  pub answer : ℕ
  pub written : List ℕ
  pub called : Folds k r t l n f (cut_out (shape_of k r t l) zss (take columns told)) room answer written
  pub wide : zs ≡ wide_data (shape_of k r t l) zss ++ written
