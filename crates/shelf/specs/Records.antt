-- Records, for C: the number that is answered, and what the lent memory holds in the end.
use Rattle.std.specs.Prelude.{ℕ, cond, List, [], ◌∷◌, eqb, length}
use Rattle.stripe.specs.declared.Shape.{Shape}
use Rattle.record.specs.Layout.{record_of}
use Rattle.record.specs.Reading.{shape_read, count_of, read_refusal, columns_filled, positions_filled}
use Rattle.writing.specs.Writing.{write_refusal}

-- ---- reading the record bs into the stripe xs, the list of lost positions es and the list of numbers ns

-- 5 where there are other than five numbers, else reading's own refusal
unfoldable pub read_number : List ℕ → List ℕ → List ℕ → List ℕ → ℕ
read_number bs xs es ns = cond (eqb (length ns) 5) (read_refusal bs (length xs) (length es)) 5

abbrev pub stripe_left : List ℕ → List ℕ → List ℕ → List ℕ → List ℕ
stripe_left bs xs es ns = cond (eqb (read_number bs xs es ns) 0) (columns_filled bs xs) xs

abbrev pub lost_left : List ℕ → List ℕ → List ℕ → List ℕ → List ℕ
lost_left bs xs es ns = cond (eqb (read_number bs xs es ns) 0) (positions_filled bs es) es

-- k, r, t, L, and how many columns are lost
abbrev pub numbers_of : Shape → ℕ → List ℕ
numbers_of s n = s.k ∷ s.r ∷ s.t ∷ s.l ∷ n ∷ []

abbrev pub numbers_left : List ℕ → List ℕ → List ℕ → List ℕ → List ℕ
numbers_left bs xs es ns = cond (eqb (read_number bs xs es ns) 0) (numbers_of (shape_read bs) (count_of bs)) ns

-- ---- writing the record of the stripe xs, of which the columns es are lost, to the front of ys

abbrev pub write_number : Shape → List ℕ → List ℕ → List ℕ → ℕ
write_number s xs es ys = write_refusal s xs es (length ys)

-- the record's length, or what the number was
abbrev pub length_left : Shape → List ℕ → List ℕ → List ℕ → ℕ → ℕ
length_left s xs es ys n = cond (eqb (write_number s xs es ys) 0) (length (record_of s es xs)) n
