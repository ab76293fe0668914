-- `difference` meets its contract: two lists of one length that agree first differ at their end.
use mathlib.Core.Path.{sym, ◌∙◌}
use Rattle.checking.proofs.Comparing.{agree_first}
use Rattle.checking.proofs.compare.difference.Goals as goal

pub returns-then-same : goal.returns-then-same
returns-then-same c = sym (agree_first _ _ c.requires (sym c.same.ensures ∙ c.if-same.true))
