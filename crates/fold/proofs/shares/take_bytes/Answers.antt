-- `take_bytes` meets its contract: the first stripe is a copy, every other a weighted sum.
use mathlib.Core.Path.{◌∙◌}
use Rattle.fold.proofs.Stepped.{stays_none, stays_weighted}
use borrow.Author.Rules.{rules}
use Rattle.fold.proofs.shares.take_bytes.Goals as goal

pub returns-then-first : goal.returns-then-first
returns-then-first c = c.copy.ensures ∙ stays_none _ _ _ _ (search rules)

pub returns : goal.returns
returns c = c.weighted.ensures ∙ stays_weighted _ _ _ _ (search rules)
