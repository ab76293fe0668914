-- `shelf_encode` meets its contract: the shape is that of the four numbers.
use mathlib.Core.Path.{ap, ◌∙◌}
use lib.ListN.{length}
use Rattle.stripe.specs.declared.Shape.{Shape}
use Rattle.coding.specs.Encode.{encode_refusal, encoded}
use Rattle.shelf.proofs.shelf_encode.Goals as goal

pub returns : goal.returns
returns c = let e = c.encode in
    let a = c.args in
    let same = c.shape_of-s.ensures in
    record {
      value = c.number.ensures ∙ e.ensures.value ∙ ap (λ (s : Shape). encode_refusal s (length a.«data».now) (length a.parity.now)) same;
      parity_after = e.ensures.parity_after ∙ ap (λ (s : Shape). encoded s a.«data».now a.parity.now) same;
    }
