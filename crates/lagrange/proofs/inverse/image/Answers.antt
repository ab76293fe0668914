-- `image` meets its contract: each mask is one term of the sum.
use mathlib.Core.Path.{refl}
use Rattle.field.specs.Field.{◌⊕◌}
use Rattle.lagrange.proofs.inverse.image.Goals as goal

pub returns : goal.returns
unfolding ◌⊕◌
returns c =
    rw (
      c.mask.ensures,
      c.mask-2.ensures,
      c.mask-3.ensures,
      c.mask-4.ensures,
      c.mask-5.ensures,
      c.mask-6.ensures,
      c.mask-7.ensures,
      c.mask-8.ensures,
    )
    refl
