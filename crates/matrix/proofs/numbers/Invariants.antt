-- `numbers` meets its contract: the numbers of the b lowest bits are there, and those of the other bits are in hand.
use Prim.Native.Nat.{◌+◌}
use lib.ListN.{get_or}
use Rattle.matrix.specs.Sums.{Numbered}
use Rattle.matrix.proofs.Digits.{Left}
use Rattle.matrix.proofs.numbers.Given as goal

abbrev pub invariant-loop-b : goal.invariant-loop-b
invariant-loop-b l =
    Left (λ j. get_or l.matrix (l.from + j) 0) l.n l.b l.p × Numbered (λ j. get_or l.matrix (l.from + j) 0) l.at l.n l.b l.initial.es l.es
