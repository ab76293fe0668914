-- `greatest` meets its contract: the fold is the greatest of all.
use Rattle.std.specs.Prelude.{fold, max}
use mathlib.Core.Path.{◌≡◌, sym, subst}
use lib.ListN.{length}
use borrow.Author.Rules.{rules}
use Rattle.matrix.specs.Sums.{Greatest}
use Rattle.matrix.proofs.Shape.{greatest_folded}
use Rattle.matrix.proofs.greatest.Goals as goal

pub returns : goal.returns
returns c =
    let is : c.fold.result ≡ fold max 0 c.args.cs.now = search rules in
    let cs = c.args.cs.now in
    subst (Greatest cs (length cs)) (sym is) (greatest_folded cs c.requires)
