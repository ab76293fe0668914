-- `clean` meets its contract.
use mathlib.Core.Path.{sym, ◌∙◌}
use mathlib.Core.Bool.{true≢false}
use Rattle.mending.proofs.Settled.{clean_says}
use Rattle.mending.proofs.settle.clean.Goals as goal

pub returns-then-is_lost : goal.returns-then-is_lost
returns-then-is_lost c = record { so = λ t m. absurd (true≢false (sym (sym c.is_lost.ensures ∙ c.if-is_lost.true) ∙ m)); not_so = λ t. absurd (true≢false t) }

pub returns : goal.returns
returns c =
    let a = c.args in
    clean_says a.slots.now a.j a.s.l _ _ c.requires.1.1.1
    (sym c.is_lost.ensures ∙ c.if-is_lost.false) c.all_zero.ensures
