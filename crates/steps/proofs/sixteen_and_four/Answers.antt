-- `sixteen_and_four` meets its contract: each factor is a shift and what its highest bits come back as.
use Rattle.field.specs.Field.{◌⊕◌}
use Rattle.steps.proofs.Steps.{high_lt, sixteen_four}
use Rattle.steps.proofs.sixteen_and_four.Goals as goal

pub carried-v-requires : goal.carried-v-requires
unfolding ◌⊕◌
carried-v-requires c = high_lt c.args.x c.args.y c.ranges.x.fits c.ranges.y.fits

pub returns : goal.returns
unfolding ◌⊕◌
returns c =
    sixteen_four c.args.x c.args.y c.carried-v.result c.ranges.x.fits c.ranges.y.fits c.carried-v.ensures.1
