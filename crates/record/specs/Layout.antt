-- The layout of a record (document 01, 'Stripe records'): k, r, t, L, the number of lost columns, their positions ascending, then the
-- surviving columns whole, in order.
use Rattle.std.specs.Prelude.{ℕ, zero, suc, ◌+◌, cond, List, [], ◌∷◌, ◌++◌, length, take, drop}
use Rattle.stripe.specs.declared.Shape.{Shape}
use Rattle.stripe.specs.Shape.{columns}
use Rattle.stripe.specs.Stripe.{among}
use Rattle.number.specs.Number.{written}

-- the positions of the lost columns, one number after the other
unfoldable pub positions_written : List ℕ → List ℕ
positions_written [] = []
positions_written (e ∷ es) = written e ++ positions_written es

-- of m columns of l bytes, the first at position c, those that are not lost
unfoldable pub survivors : ℕ → List ℕ → ℕ → ℕ → List ℕ → List ℕ
survivors l es c zero xs = []
survivors l es c (suc m) xs = cond (among c es) [] (take l xs) ++ survivors l es (suc c) m (drop l xs)

-- how many they are
unfoldable pub kept : List ℕ → ℕ → ℕ → ℕ
kept es c zero = 0
kept es c (suc m) = cond (among c es) 0 1 + kept es (suc c) m

-- the numbers at the front of a record
unfoldable pub record_head : Shape → List ℕ → List ℕ
record_head s es = written s.k ++ (written s.r ++ (written s.t ++ (written s.l ++ (written (length es) ++ positions_written es))))

-- the record of a stripe xs whose columns es are lost
unfoldable pub record_of : Shape → List ℕ → List ℕ → List ℕ
record_of s es xs = record_head s es ++ survivors s.l es 0 (columns s) xs

-- a stripe buffer xs whose surviving columns are taken from ys, one after the other; lost columns and what follows the last column stay
unfoldable pub restored : ℕ → List ℕ → ℕ → ℕ → List ℕ → List ℕ → List ℕ
restored l es c zero ys xs = xs
restored l es c (suc m) ys xs =
    cond (among c es) (take l xs ++ restored l es (suc c) m ys (drop l xs)) (take l ys ++ restored l es (suc c) m (drop l ys) (drop l xs))
