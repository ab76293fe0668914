-- The record in which the lost positions of a stripe by rows travel.
use Rattle.std.specs.Prelude.{ℕ, List, take}
use Rattle.mending.specs.declared.few.Few.{Few}

-- the positions of a record
abbrev pub few_list : Few → List ℕ
few_list w = take w.count w.at
