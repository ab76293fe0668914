-- `repair` meets its contract: refused, or mended with room for the weights.
use Prim.Native.Nat.{◌*◌, ◌≤◌}
use mathlib.Core.Path.{refl, sym, ◌∙◌}
use native.Mathlib.Omega.{arith}
use lib.ListN.{length}
use Rattle.constants.specs.Constants.{most_constants}
use Rattle.constants.proofs.Made.{few_constants}
use Rattle.stripe.proofs.Refused.{handed_on, refused_some}
use Rattle.repair.proofs.Refused.{lawful}
use Rattle.repair.proofs.repair.Goals as goal
use Rattle.repair.proofs.repair.Goals.{In_ok-refusal}

-- there is room for the weights
few : (c : In_ok-refusal) → let a = c.args in a.r * a.k ≤ most_constants
few c =
    let a = c.args in
    let w = lawful a.k a.r a.l a.lost.now (length a.stripe.now) (sym c.in_ok-refusal.ensures) in
    few_constants a.r a.k w.numbers.parity_most w.numbers.points_most

pub returns-in_err-refusal : goal.returns-in_err-refusal
returns-in_err-refusal c =
    let e = c.in_err-refusal in
    let some = refused_some e.field-0.0 in
    let is = handed_on _ e.field-0.0 c.from_residual.ensures.1 ∙ e.ensures in
    record { refused = λ n. (is, refl); judged = λ z. absurd (omega (arith, e.ensures)) }

pub overflow_mul-n : goal.overflow_mul-n
overflow_mul-n c = omega (arith, few c)

pub slice_bounds-w-end : goal.slice_bounds-w-end
slice_bounds-w-end c = omega (arith, few c)
