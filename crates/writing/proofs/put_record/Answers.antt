-- `put_record` meets its contract: the head, then the surviving columns.
use native.Mathlib.Omega.{arith}
use lib.ListN.{length}
use Rattle.record.proofs.Refusals.{described}
use Rattle.writing.proofs.Putting.{writable, lost_most, columns_bytes, record_put}
use Rattle.writing.proofs.put_record.Goals as goal

pub put_head-first-requires : goal.put_head-first-requires
put_head-first-requires c = let a = c.args in
    let w = writable a.s a.stripe.now a.lost.now (length a.out.now) c.requires in
    record {
      s_value = w.stripe_described;
      lost_len_bound = lost_most a.s a.stripe.now a.lost.now (length a.out.now) w;
      lost_in_bounds = omega (arith, columns_bytes a.s a.stripe.now a.lost.now (length a.out.now) w, w.fits);
    }

pub overflow_add-s : goal.overflow_add-s
overflow_add-s c =
    let a = c.args in
    let w = writable a.s a.stripe.now a.lost.now (length a.out.now) c.requires in
    let d = (described a.s w.stripe_described).0 in
    omega (arith, d.columns_most)

pub put_columns-requires : goal.put_columns-requires
put_columns-requires c = let put-head = c.put_head-first in
    let a = c.args in
    let w = writable a.s a.stripe.now a.lost.now (length a.out.now) c.requires in
    record {
      l_in_bounds = omega (arith, w.exact);
      l_in_bounds_2 = omega (arith, columns_bytes a.s a.stripe.now a.lost.now (length a.out.now) w, w.fits, put-head.ensures.value, put-head.auto.out);
    }

pub returns : goal.returns
returns c =
    let a = c.args in
    let w = writable a.s a.stripe.now a.lost.now (length a.out.now) c.requires in
    let h = c.put_head-first in
    record_put a.s a.lost.now a.stripe.now a.out.now h.new.out _ h.result h.ensures.out_after h.ensures.value
    c.put_columns.ensures
