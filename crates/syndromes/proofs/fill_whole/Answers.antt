-- `fill_whole` meets its contract: the data are encoded, what lies after them is added, and each row is divided by its weight.
use borrow.Author.Rules.{rules}
use mathlib.Core.Path.{sym, ap, ◌∙◌}
use Rattle.lanes.specs.Lanes.{onto}
use Rattle.stripe.proofs.Places.{data_of-length}
use Rattle.syndromes.proofs.Filling.{rest, whole_lacks, first_lent, divided_lacks, weights_small}
use Rattle.syndromes.proofs.fill_whole.Goals as goal

pub slice_bounds-encode_by_rows-end : goal.slice_bounds-encode_by_rows-end
slice_bounds-encode_by_rows-end c =
    sym (data_of-length c.args.s c.args.stripe.now c.requires.long)

pub divide-requires : goal.divide-requires
divide-requires c =
    (search rules, weights_small _ _ _ _ c.requires)

pub returns : goal.returns
returns c =
    let encode = c.encode_by_rows in
    divided_lacks c.args.s c.args.x c.args.stripe.now _ _
    (whole_lacks c.args.s c.args.stripe.now c.args.out.now _ _ (first_lent _ _ _ _ c.requires)
    (λ i. (c.slice_known-3-1.given i).fits)
    encode.ensures
    (c.add.ensures ∙ ap (onto _ _) (rest c.args.s c.args.stripe.now c.requires.long)))
    (λ i. (c.slice_known-4-1.given i).fits) c.divide.ensures
