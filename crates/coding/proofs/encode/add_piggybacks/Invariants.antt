-- `add_piggybacks` meets its contract: the columns before i are parity, the others are rows.
use mathlib.Core.Path.{◌≡◌}
use lib.ListN.{length}
use Rattle.coding.specs.Encode.{encode_refusal}
use Rattle.coding.proofs.Piggyback.{Half}
use Rattle.coding.proofs.encode.add_piggybacks.Given as goal

abbrev pub invariant-loop-i : goal.invariant-loop-i
invariant-loop-i l = (length l.out ≡ length l.initial.out) × (encode_refusal l.s (length l.data) (length l.out) ≡ 0) × Half l.s l.data l.i l.out
