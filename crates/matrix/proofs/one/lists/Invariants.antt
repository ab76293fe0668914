-- `lists` meets its contract: the lists of the b lowest bits are there, and what is left of the weights is in hand.
use Rattle.matrix.specs.Listing.{Lists}
use Rattle.matrix.proofs.Listing.{Rest}
use Rattle.matrix.proofs.one.lists.Given as goal

abbrev pub invariant-loop-b : goal.invariant-loop-b
invariant-loop-b l =
    Rest l.weights l.b l.p × Lists l.weights l.cs l.b l.ns l.ls
