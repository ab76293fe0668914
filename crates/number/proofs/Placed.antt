-- Bytes placed in a list: all of them where there is room, else none.
use Prim.Native.Nat.{ℕ, ◌+◌, ◌≤◌, ◌<◌}
use mathlib.Core.Path.{◌≡◌}
use mathlib.Core.List.{List}
use lib.ListN.{length}
use lib.Seq.{sets}
use borrow.Author.Tests.{le-leb, lt-leb}
use Rattle.field.proofs.Over.{sets_over}
use Rattle.number.specs.Number.{placed, count_placed}

pub none_placed : (out : List ℕ) (at : ℕ) (xs : List ℕ) → length out < at + length xs → (◌≡◌ {A = ℕ} 0 (count_placed out at xs)) × (out ≡ placed out at xs)
none_placed out at xs h = (rw (lt-leb (at + length xs) (length out) h), rw (lt-leb (at + length xs) (length out) h))

pub all_placed : (out : List ℕ) (at : ℕ) (xs : List ℕ) → at + length xs ≤ length out
    → (length xs ≡ count_placed out at xs) × (sets out at xs ≡ placed out at xs)
all_placed out at xs h = (rw (le-leb (at + length xs) (length out) h), rw (le-leb (at + length xs) (length out) h) (sets_over out at xs h))
