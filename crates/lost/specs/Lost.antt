-- The record in which lost positions travel.
use Rattle.std.specs.Prelude.{ℕ, ◌/◌, List, length, get_or, take}
use Rattle.field.specs.Bytes.{tabulate}
use Rattle.stripe.specs.Shape.{most_parity}
use Rattle.lost.specs.declared.Lost.{Lost}
use Rattle.lost.specs.Positions.{positions}

-- how many positions a record has room for
abbrev pub capacity : ℕ
capacity = most_parity

-- the number of positions that a lent list names, and the first `capacity` of them; 0 stands where there are fewer
abbrev pub lost_of : List ℕ → Lost
lost_of ls =
    record { at = tabulate capacity (λ v. get_or (positions ls) v 0); count = length ls / 2 }

-- the positions of a record
abbrev pub lost_list : Lost → List ℕ
lost_list w = take w.count w.at
