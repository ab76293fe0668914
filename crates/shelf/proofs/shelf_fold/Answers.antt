-- `shelf_fold` meets its contract: the shape is that of the four numbers.
use mathlib.Core.Path.{ap, ◌∙◌}
use lib.ListN.{length}
use Rattle.stripe.specs.declared.Shape.{Shape}
use Rattle.fold.specs.Fold.{fold_verdict, fold_filled}
use Rattle.shelf.proofs.shelf_fold.Goals as goal

pub returns : goal.returns
returns c = let e = c.fold in
    let a = c.args in
    let same = c.shape_of-s.ensures in
    record {
      value = c.number.ensures ∙ e.ensures.0 ∙ ap (λ (s : Shape). fold_verdict s a.stripes a.f (length a.read.now) (length a.parity.now)) same;
      parity_after = e.ensures.1 ∙ ap (λ (s : Shape). fold_filled s a.stripes a.f a.read.now a.parity.now) same;
    }
