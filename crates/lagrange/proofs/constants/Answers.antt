-- `constants` meets its contract: each entry is what the closure makes of its number.
use Prim.Native.Nat.{ℕ}
use mathlib.Core.Path.{ap, ◌∙◌}
use native.Mathlib.Omega.{arith}
use lib.ListN.{get_or}
use borrow.Author.Rules.{rules}
use Rattle.field.specs.Field.{inverse_of}
use Rattle.lagrange.proofs.Made.{entries_made}
use Rattle.lagrange.proofs.constants.Goals as goal

pub returns : goal.returns
returns c =
    let p = c.apart_from_others-p in
    let made = c.from_fn.ensures.items in
    let each = entries_made _ _ (λ (v : ℕ). inverse_of (get_or p.result v 0)) (λ i r f k. search rules) c.from_fn.result 16 made in
    record { long = made.long; at = λ v h. each v (omega arith) ∙ ap inverse_of (p.ensures.at v h) }
