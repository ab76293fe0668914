-- `put_head` meets its contract: each number is stored at the place after the one before.
use native.Mathlib.Omega.{arith}
use Rattle.record.proofs.Refusals.{described}
use Rattle.writing.proofs.Putting.{mark_small, head_bytes, head_put}
use Rattle.writing.proofs.put_head.Goals as goal

pub overflow_cast-s : goal.overflow_cast-s
overflow_cast-s c =
    let s = c.args.s in
    let d = (described s c.requires.s_value).0 in
    omega (arith, d.data_most)

pub put_number-r-requires : goal.put_number-r-requires
put_number-r-requires c =
    let a = c.args in
    omega (arith, head_bytes a.s a.lost.now, c.requires.lost_in_bounds)

pub overflow_cast-s-2 : goal.overflow_cast-s-2
overflow_cast-s-2 c =
    let s = c.args.s in
    let d = (described s c.requires.s_value).0 in
    omega (arith, d.parity_most)

pub put_number-t-requires : goal.put_number-t-requires
put_number-t-requires c =
    let put-number = c.put_number-r in
    let a = c.args in
    omega (arith, head_bytes a.s a.lost.now, c.requires.lost_in_bounds, put-number.ensures.value, put-number.auto.out)

pub overflow_cast-s-3 : goal.overflow_cast-s-3
overflow_cast-s-3 c =
    let s = c.args.s in
    let d = (described s c.requires.s_value).0 in
    omega (arith, mark_small s d)

pub put_number-l-requires : goal.put_number-l-requires
put_number-l-requires c =
    let put-number = c.put_number-r in
    let put-number2 = c.put_number-t in
    let a = c.args in
    omega (
      arith,
      head_bytes a.s a.lost.now,
      c.requires.lost_in_bounds,
      put-number.ensures.value,
      put-number.auto.out,
      put-number2.ensures.value,
      put-number2.auto.out,
    )

pub overflow_cast-s-4 : goal.overflow_cast-s-4
overflow_cast-s-4 c =
    let s = c.args.s in
    let d = (described s c.requires.s_value).0 in
    omega (arith, d.length_most)

pub put_number-m-requires : goal.put_number-m-requires
put_number-m-requires c =
    let put-number = c.put_number-r in
    let put-number2 = c.put_number-t in
    let put-number3 = c.put_number-l in
    let a = c.args in
    omega (
      arith,
      head_bytes a.s a.lost.now,
      c.requires.lost_in_bounds,
      put-number.ensures.value,
      put-number.auto.out,
      put-number2.ensures.value,
      put-number2.auto.out,
      put-number3.ensures.value,
      put-number3.auto.out,
    )

pub put_number-first-requires : goal.put_number-first-requires
put_number-first-requires c =
    let put-number = c.put_number-r in
    let put-number2 = c.put_number-t in
    let put-number3 = c.put_number-l in
    let put-number4 = c.put_number-m in
    let a = c.args in
    omega (
      arith,
      head_bytes a.s a.lost.now,
      c.requires.lost_in_bounds,
      put-number.ensures.value,
      put-number.auto.out,
      put-number2.ensures.value,
      put-number2.auto.out,
      put-number3.ensures.value,
      put-number3.auto.out,
      put-number4.ensures.value,
      put-number4.auto.out,
    )

pub put_positions-requires : goal.put_positions-requires
put_positions-requires c =
    let put-number = c.put_number-r in
    let put-number2 = c.put_number-t in
    let put-number3 = c.put_number-l in
    let put-number4 = c.put_number-m in
    let put-number5 = c.put_number-first in
    let a = c.args in
    omega (
      arith,
      head_bytes a.s a.lost.now,
      c.requires.lost_in_bounds,
      put-number.ensures.value,
      put-number.auto.out,
      put-number2.ensures.value,
      put-number2.auto.out,
      put-number3.ensures.value,
      put-number3.auto.out,
      put-number4.ensures.value,
      put-number4.auto.out,
      put-number5.ensures.value,
      put-number5.auto.out,
    )

pub returns : goal.returns
returns c = let a = c.args in
    let n1 = c.put_number-r in
    let n2 = c.put_number-t in
    let n3 = c.put_number-l in
    let n4 = c.put_number-m in
    let n5 = c.put_number-first in
    let ps = c.put_positions in
    record {
      value = omega (
        arith,
        head_bytes a.s a.lost.now,
        ps.ensures.value,
        n1.ensures.value,
        n2.ensures.value,
        n3.ensures.value,
        n4.ensures.value,
        n5.ensures.value,
      );
      out_after = head_put a.s a.lost.now a.out.now n1.new.out n2.new.out n3.new.out n4.new.out n5.new.out ps.new.out
          n1.result n2.result n3.result n4.result n5.result
          n1.ensures.value n1.ensures.out_after n2.ensures.value n2.ensures.out_after n3.ensures.value
          n3.ensures.out_after n4.ensures.value n4.ensures.out_after
          n5.ensures.value n5.ensures.out_after ps.ensures.out_after;
    }
