-- Any two outcomes that the contract of `encoding`, of `folding` or of `mending` allows are equal.
use mathlib.Core.Path.{◌≡◌, sym, ◌∙◌}
use contract.Lifetimes.{Lfts}
use borrow.Fn.World.{ArgsD, ResD}
use denote.Triple.Clauses.{AtExit}
use Rattle.constants.specs.contracts.in_order as in_order
use Rattle.constants.proofs.in_order.Reads as in-order-reads
use Rattle.constants.specs.contracts.encoding as encoding
use Rattle.constants.proofs.encoding.Reads as encoding-reads
use Rattle.constants.specs.contracts.folding as folding
use Rattle.constants.proofs.folding.Reads as folding-reads
use Rattle.constants.specs.contracts.mending as mending
use Rattle.constants.proofs.mending.Reads as mending-reads

pub in_order_unique : (κs : Lfts 1) (a : ArgsD in_order.signature κs) (r r' : ResD in_order.signature κs) (s s' : AtExit in_order.ended κs)
    → in-order-reads.Post κs a r s → in-order-reads.Post κs a r' s' → s.0.now ≡ s'.0.now
in_order_unique κs a r r' s s' p q = p ∙ sym q

pub encoding_unique : (κs : Lfts 1) (a : ArgsD encoding.signature κs) (r r' : ResD encoding.signature κs) (s s' : AtExit encoding.ended κs)
    → encoding-reads.Post κs a r s → encoding-reads.Post κs a r' s' → s.1.1.0.now ≡ s'.1.1.0.now
encoding_unique κs a r r' s s' p q = p ∙ sym q

pub folding_unique : (κs : Lfts 1) (a : ArgsD folding.signature κs) (r r' : ResD folding.signature κs) (s s' : AtExit folding.ended κs)
    → folding-reads.Post κs a r s → folding-reads.Post κs a r' s' → s.1.1.1.0.now ≡ s'.1.1.1.0.now
folding_unique κs a r r' s s' p q = p ∙ sym q

pub mending_unique : (κs : Lfts 3) (a : ArgsD mending.signature κs) (r r' : ResD mending.signature κs) (s s' : AtExit mending.ended κs)
    → mending-reads.Post κs a r s → mending-reads.Post κs a r' s' → s.1.1.1.1.0.now ≡ s'.1.1.1.1.0.now
mending_unique κs a r r' s s' p q = p ∙ sym q
