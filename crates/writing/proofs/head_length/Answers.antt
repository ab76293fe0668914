-- `head_length` meets its contract; six short numbers cannot wrap.
use native.Mathlib.Omega.{arith}
use Rattle.record.proofs.Refusals.{described}
use Rattle.writing.proofs.Putting.{mark_small, head_bytes, head_most}
use Rattle.writing.proofs.head_length.Goals as goal

pub overflow_cast-s : goal.overflow_cast-s
overflow_cast-s c =
    let s = c.args.s in
    let d = (described s c.requires.s_value).0 in
    omega (arith, d.data_most)

pub overflow_cast-s-2 : goal.overflow_cast-s-2
overflow_cast-s-2 c =
    let s = c.args.s in
    let d = (described s c.requires.s_value).0 in
    omega (arith, d.parity_most)

pub overflow_cast-s-3 : goal.overflow_cast-s-3
overflow_cast-s-3 c =
    let s = c.args.s in
    let d = (described s c.requires.s_value).0 in
    omega (arith, mark_small s d)

pub overflow_cast-s-4 : goal.overflow_cast-s-4
overflow_cast-s-4 c =
    let s = c.args.s in
    let d = (described s c.requires.s_value).0 in
    omega (arith, d.length_most)

pub overflow_add-result : goal.overflow_add-result
overflow_add-result c =
    let number-length = c.number_length-k in
    let a = c.args in
    omega (
      arith,
      head_bytes a.s a.lost.now,
      head_most a.s a.lost.now c.requires.lost_len_bound,
      number-length.ensures,
      c.number_length-r.ensures,
      c.number_length-t.ensures,
      c.number_length-l.ensures,
      c.number_length-m.ensures,
    )

pub overflow_add-result-2 : goal.overflow_add-result-2
overflow_add-result-2 c =
    let number-length = c.number_length-k in
    let a = c.args in
    omega (
      arith,
      head_bytes a.s a.lost.now,
      head_most a.s a.lost.now c.requires.lost_len_bound,
      number-length.ensures,
      c.number_length-r.ensures,
      c.number_length-t.ensures,
      c.number_length-l.ensures,
      c.number_length-m.ensures,
    )

pub overflow_add-result-3 : goal.overflow_add-result-3
overflow_add-result-3 c =
    let number-length = c.number_length-k in
    let a = c.args in
    omega (
      arith,
      head_bytes a.s a.lost.now,
      head_most a.s a.lost.now c.requires.lost_len_bound,
      number-length.ensures,
      c.number_length-r.ensures,
      c.number_length-t.ensures,
      c.number_length-l.ensures,
      c.number_length-m.ensures,
    )

pub overflow_add-result-4 : goal.overflow_add-result-4
overflow_add-result-4 c =
    let number-length = c.number_length-k in
    let a = c.args in
    omega (
      arith,
      head_bytes a.s a.lost.now,
      head_most a.s a.lost.now c.requires.lost_len_bound,
      number-length.ensures,
      c.number_length-r.ensures,
      c.number_length-t.ensures,
      c.number_length-l.ensures,
      c.number_length-m.ensures,
    )

pub overflow_add-result-5 : goal.overflow_add-result-5
overflow_add-result-5 c =
    let number-length = c.number_length-k in
    let number-length2 = c.number_length-r in
    let a = c.args in
    omega (
      arith,
      head_bytes a.s a.lost.now,
      head_most a.s a.lost.now c.requires.lost_len_bound,
      number-length.ensures,
      number-length2.ensures,
      c.number_length-t.ensures,
      c.number_length-l.ensures,
      c.number_length-m.ensures,
      c.positions_length.ensures,
    )

pub returns : goal.returns
returns c =
    let number-length = c.number_length-k in
    let number-length2 = c.number_length-r in
    let a = c.args in
    omega (
      arith,
      head_bytes a.s a.lost.now,
      head_most a.s a.lost.now c.requires.lost_len_bound,
      number-length.ensures,
      number-length2.ensures,
      c.number_length-t.ensures,
      c.number_length-l.ensures,
      c.number_length-m.ensures,
      c.positions_length.ensures,
    )
