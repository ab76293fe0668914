-- `write_number` meets its contract: all bytes are placed where there is room, else none.
use mathlib.Core.Path.{◌∙◌}
use native.Mathlib.Omega.{arith}
use Rattle.number.specs.Number.{written}
use Rattle.number.proofs.Placed.{none_placed, all_placed}
use Rattle.number.proofs.write_number.Goals as goal

pub returns-then-out-n : goal.returns-then-out-n
returns-then-out-n c = let a = c.args in
    let both = none_placed a.out.now a.at (written a.value) (omega (arith, c.number_length-n.ensures)) in
    record { value = both.0; out_after = both.1 }

pub returns-then-out-n-2 : goal.returns-then-out-n-2
returns-then-out-n-2 c = let a = c.args in
    let both = none_placed a.out.now a.at (written a.value) (omega (arith, c.number_length-n.ensures)) in
    record { value = both.0; out_after = both.1 }

pub returns : goal.returns
returns c = let a = c.args in
    let n = c.number_length-n.ensures in
    let p = all_placed a.out.now a.at (written a.value) (omega arith) in
    record { value = n ∙ p.0; out_after = c.put_number.ensures ∙ p.1 }
