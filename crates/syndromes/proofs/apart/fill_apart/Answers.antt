-- `fill_apart` meets its contract: the columns from x on are encoded, and what is below is added.
use mathlib.Core.Path.{sym, subst, ◌∙◌}
use native.Mathlib.Omega.{arith}
use native.Mathlib.Nat.{mul-le-mul_right}
use Rattle.syndromes.specs.Apart.{Parted}
use Rattle.syndromes.proofs.Upwards.{encoded_upper, apart_done}
use Rattle.syndromes.proofs.apart.fill_apart.Goals as goal

pub overflow_mul-from : goal.overflow_mul-from
overflow_mul-from c = omega (arith, mul-le-mul_right c.args.s.l c.requires.within)

pub slice_bounds-encode_by_rows-count : goal.slice_bounds-encode_by_rows-count
slice_bounds-encode_by_rows-count c = omega (arith, mul-le-mul_right c.args.s.l c.requires.within)

pub slice_bounds-encode_by_rows-start : goal.slice_bounds-encode_by_rows-start
slice_bounds-encode_by_rows-start c = omega (arith, mul-le-mul_right c.args.s.l c.requires.within)

pub add_below-requires : goal.add_below-requires
add_below-requires c =
    let encode = c.encode_by_rows in
    let n = c.new-upper.ensures in
    let up = encoded_upper c.new-upper.result _ _ encode.new.parity _ _ _ _ c.requires n.0 n.1.0
    n.1.1.0 n.1.1.1 encode.ensures in
    (subst (Parted _ _ _ _ _) (c.requires.room ∙ sym up.long) c.requires, up)

pub returns : goal.returns
returns c = apart_done _ _ _ _ _ _ c.add_below.ensures
