-- Any two outcomes that a contract allows are equal: of a loop, what the first list holds; of a mask, the byte.
use mathlib.Core.Path.{◌≡◌, sym, ◌∙◌}
use contract.Lifetimes.{Lfts}
use borrow.Fn.World.{ArgsD, ResD}
use denote.Triple.Clauses.{AtExit}
use Rattle.steps.specs.contracts.double_add as double-add
use Rattle.steps.proofs.double_add.Reads as double-add-reads
use Rattle.steps.specs.contracts.quadruple_add as quadruple-add
use Rattle.steps.proofs.quadruple_add.Reads as quadruple-add-reads
use Rattle.steps.specs.contracts.quadruple_add_two as quadruple-add-two
use Rattle.steps.proofs.quadruple_add_two.Reads as quadruple-add-two-reads
use Rattle.steps.specs.contracts.mask as mask
use Rattle.steps.proofs.mask.Reads as mask-reads

pub double_add_unique : (κs : Lfts 2) (a : ArgsD double-add.signature κs) (r r' : ResD double-add.signature κs) (s s' : AtExit double-add.ended κs)
    → double-add-reads.Post κs a r s → double-add-reads.Post κs a r' s' → s.0.now ≡ s'.0.now
double_add_unique κs a r r' s s' p q = p ∙ sym q

pub quadruple_add_unique : (κs : Lfts 2) (a : ArgsD quadruple-add.signature κs) (r r' : ResD quadruple-add.signature κs) (s s' : AtExit quadruple-add.ended κs)
    → quadruple-add-reads.Post κs a r s → quadruple-add-reads.Post κs a r' s' → s.0.now ≡ s'.0.now
quadruple_add_unique κs a r r' s s' p q = p ∙ sym q

pub quadruple_add_two_unique : (κs : Lfts 3) (a : ArgsD quadruple-add-two.signature κs) (r r' : ResD quadruple-add-two.signature κs)
    (s s' : AtExit quadruple-add-two.ended κs)
    → quadruple-add-two-reads.Post κs a r s → quadruple-add-two-reads.Post κs a r' s' → s.0.now ≡ s'.0.now
quadruple_add_two_unique κs a r r' s s' p q = p ∙ sym q

pub mask_unique : (κs : Lfts 0) (a : ArgsD mask.signature κs) (r r' : ResD mask.signature κs) (s s' : AtExit mask.ended κs)
    → mask-reads.Post κs a r s → mask-reads.Post κs a r' s' → r ≡ r'
mask_unique κs a r r' s s' p q = p ∙ sym q
