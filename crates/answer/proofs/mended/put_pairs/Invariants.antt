-- The pairs of the positions before the place are written.
use mathlib.Core.Path.{◌≡◌}
use lib.ListN.{take}
use Rattle.field.specs.Bytes.{over}
use Rattle.answer.specs.Answer.{pairs}
use Rattle.answer.proofs.mended.put_pairs.Given as goal

abbrev pub invariant-loop-i : goal.invariant-loop-i
invariant-loop-i l = l.list ≡ over l.initial.list 0 (pairs (take l.i l.lost))
