-- Numbers of a record (document 01, 'Stripe records'): their bytes, and what stands at a place of a list of bytes.
use Rattle.std.specs.Prelude.{ℕ, zero, suc, ◌+◌, ◌-◌, ◌*◌, ◌/◌, ◌%◌, cond, List, [], ◌∷◌, leb, ltb, eqb, length, get_or}
use Rattle.field.specs.Bytes.{over}
use Rattle.std.specs.declared.result.Result.{Result}
use Rattle.std.specs.declared.result.Result.TheVariants.{Ok, Err}
use Rattle.number.specs.declared.Number.{Number}
use Rattle.number.specs.declared.Flaw.{Flaw}
use Rattle.number.specs.declared.Flaw.TheVariants as flaw

-- what stands at a place: a number with the place after it; the beginning of one, which the end cuts off; or neither
pub data Standing : Type 0 where
  Value : ℕ → ℕ → Standing
  Cut : Standing
  Malformed : Standing

-- what an answer of the reader reports
abbrev pub reported : Result Number Flaw → Standing
reported (Ok n) = Value n.value n.next
reported (Err flaw.Cut) = Cut
reported (Err flaw.Malformed) = Malformed

-- groups of seven bits, lowest group first, the top bit set on all but the last byte; at most m of them
unfoldable pub groups : ℕ → ℕ → List ℕ
groups zero n = []
groups (suc m) n = cond (ltb n 128) (n ∷ []) ((128 + n % 128) ∷ groups m (n / 128))

-- the bytes of a number: at most five
abbrev pub written : ℕ → List ℕ
written n = groups 5 n

-- a group before a number: in the shortest form the groups after it are not zero
abbrev pub onto : ℕ → Standing → Standing
onto d (Value v next) = cond (eqb v 0) Malformed (Value (d + 128 * v) next)
onto d Cut = Cut
onto d Malformed = Malformed

-- what stands at a place, of at most m groups
unfoldable pub groups_at : ℕ → List ℕ → ℕ → Standing
groups_at zero s at = Malformed
groups_at (suc m) s at =
    cond (ltb at (length s))
    (cond (ltb (get_or s at 0) 128) (Value (get_or s at 0) (at + 1)) (onto (get_or s at 0 - 128) (groups_at m s (at + 1)))) Cut

-- a number is at most 2^32-1
abbrev pub limited : Standing → Standing
limited (Value v next) = cond (leb v 4294967295) (Value v next) Malformed
limited Cut = Cut
limited Malformed = Malformed

-- what stands at a place
abbrev pub number_at : List ℕ → ℕ → Standing
number_at s at = limited (groups_at 5 s at)

-- the refusal of what is no number: malformed, above 2^32-1 or cut
abbrev pub number_refusal : Standing → ℕ
number_refusal (Value v next) = 0
number_refusal Cut = 9
number_refusal Malformed = 9

-- the value of a number, and the place after it; 0 for what is none
abbrev pub value_of : Standing → ℕ
value_of (Value v next) = v
value_of Cut = 0
value_of Malformed = 0

abbrev pub next_of : Standing → ℕ
next_of (Value v next) = next
next_of Cut = 0
next_of Malformed = 0

-- xs over what stands from `at` on, where there is room for them
abbrev pub placed : List ℕ → ℕ → List ℕ → List ℕ
placed out at xs = cond (leb (at + length xs) (length out)) (over out at xs) out

-- how many of them are placed: all, or none where there is no room
abbrev pub count_placed : List ℕ → ℕ → List ℕ → ℕ
count_placed out at xs = cond (leb (at + length xs) (length out)) (length xs) 0
