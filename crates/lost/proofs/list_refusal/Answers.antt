-- `list_refusal` meets its contract: each test of the code is one of the definition's.
use mathlib.Core.Path.{sym, ◌∙◌}
use Rattle.lost.proofs.Listed.{odd_list, not_ascending, too_many, list_passes}
use Rattle.lost.proofs.list_refusal.Goals as goal

pub returns-then-list-ne0 : goal.returns-then-list-ne0
returns-then-list-ne0 c = sym (odd_list _ _ _ c.if-list-ne0.true)

pub returns-then-not-ascends : goal.returns-then-not-ascends
returns-then-not-ascends c = sym (not_ascending _ _ _ c.if-list-ne0.false (sym c.ascends.ensures ∙ c.if-not-ascends.true))

pub returns-then-r-list : goal.returns-then-r-list
returns-then-r-list c =
    sym (too_many _ _ _ c.if-list-ne0.false (sym c.ascends.ensures ∙ c.if-not-ascends.false) c.if-r-list.true)

pub returns : goal.returns
returns c =
    sym (list_passes _ _ _ c.if-list-ne0.false (sym c.ascends.ensures ∙ c.if-not-ascends.false)
    c.if-r-list.false)
