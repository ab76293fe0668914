-- `mix` meets its contract: nothing is written, or the blocks of 64, those of 16, and what they leave.
use Prim.Native.Nat.{◌+◌, ◌-◌}
use mathlib.Core.Path.{sym, ◌∙◌}
use native.Mathlib.Omega.{arith}
use Rattle.products.proofs.Mixing.{disjoint_is, disjoint_less, part_ready, within_nothing, within_made, within_part, within_two, within_done}
use Rattle.products.proofs.within.mix.Goals as goal

pub returns-then-not-are_disjoint : goal.returns-then-not-are_disjoint
returns-then-not-are_disjoint c = sym (within_nothing _ _ _ _ _ (sym c.are_disjoint.ensures ∙ c.if-not-are_disjoint.true))

pub overflow_add-to : goal.overflow_add-to
overflow_add-to c =
    let h = disjoint_is (sym c.are_disjoint.ensures ∙ c.if-not-are_disjoint.false) in
    omega (arith, h.first)

pub overflow_add-from : goal.overflow_add-from
overflow_add-from c =
    let h = disjoint_is (sym c.are_disjoint.ensures ∙ c.if-not-are_disjoint.false) in
    omega (arith, h.second)

pub mix_blocks-requires : goal.mix_blocks-requires
mix_blocks-requires c =
    let h = disjoint_is (sym c.are_disjoint.ensures ∙ c.if-not-are_disjoint.false) in
    let q = c.mix_blocks-q in
    let first = within_made (disjoint_less q.result (omega arith) h) q.ensures.bytes in
    (part_ready q.result (c.args.n - q.result) _ h (omega arith) first.long, (omega arith, omega arith))

pub overflow_add-to-then-r-n : goal.overflow_add-to-then-r-n
overflow_add-to-then-r-n c =
    let h = disjoint_is (sym c.are_disjoint.ensures ∙ c.if-not-are_disjoint.false) in
    omega (arith, h.first)

pub overflow_add-from-then-r-n : goal.overflow_add-from-then-r-n
overflow_add-from-then-r-n c =
    let h = disjoint_is (sym c.are_disjoint.ensures ∙ c.if-not-are_disjoint.false) in
    omega (arith, h.second)

pub mix_part-requires : goal.mix_part-requires
mix_part-requires c =
    let h = disjoint_is (sym c.are_disjoint.ensures ∙ c.if-not-are_disjoint.false) in
    let q = c.mix_blocks-q in
    let k = c.mix_blocks in
    let r = q.result + k.result in
    let done = within_two q.result k.result h (omega arith) q.ensures.bytes k.ensures.bytes in
    (part_ready r (c.args.n - r) _ h (omega arith) done.long, omega arith)

pub returns-then-r-n : goal.returns-then-r-n
returns-then-r-n c =
    let h = disjoint_is (sym c.are_disjoint.ensures ∙ c.if-not-are_disjoint.false) in
    let q = c.mix_blocks-q in
    let k = c.mix_blocks in
    let done = within_two q.result k.result h (omega arith) q.ensures.bytes k.ensures.bytes in
    within_done _ h (omega arith) (within_part (c.args.n - (q.result + k.result)) h (omega arith) done c.mix_part.ensures)

pub returns-else-r-n : goal.returns-else-r-n
returns-else-r-n c =
    let h = disjoint_is (sym c.are_disjoint.ensures ∙ c.if-not-are_disjoint.false) in
    let q = c.mix_blocks-q in
    let k = c.mix_blocks in
    within_done _ h (omega arith) (within_two q.result k.result h (omega arith) q.ensures.bytes k.ensures.bytes)
