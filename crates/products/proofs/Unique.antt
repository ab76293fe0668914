-- Any two outcomes that a contract allows are equal: what the list that is written holds.
use mathlib.Core.Path.{◌≡◌, sym, ◌∙◌}
use contract.Lifetimes.{Lfts}
use borrow.Fn.World.{ArgsD, ResD}
use denote.Triple.Clauses.{AtExit}
use Rattle.products.specs.contracts.scale as scale
use Rattle.products.proofs.scale.Reads as scale-reads
use Rattle.products.specs.contracts.within.mix as mix
use Rattle.products.proofs.within.mix.Reads as mix-reads
use Rattle.products.specs.contracts.scale_all as scale-all
use Rattle.products.proofs.scale_all.Reads as scale-all-reads
use Rattle.products.specs.contracts.multiply as multiply
use Rattle.products.proofs.multiply.Reads as multiply-reads

pub scale_unique : (κs : Lfts 2) (a : ArgsD scale.signature κs) (r r' : ResD scale.signature κs) (s s' : AtExit scale.ended κs)
    → scale-reads.Post κs a r s → scale-reads.Post κs a r' s' → s.0.now ≡ s'.0.now
scale_unique κs a r r' s s' p q = p ∙ sym q

pub mix_unique : (κs : Lfts 1) (a : ArgsD mix.signature κs) (r r' : ResD mix.signature κs) (s s' : AtExit mix.ended κs)
    → mix-reads.Post κs a r s → mix-reads.Post κs a r' s' → s.0.now ≡ s'.0.now
mix_unique κs a r r' s s' p q = p ∙ sym q

pub scale_all_unique : (κs : Lfts 1) (a : ArgsD scale-all.signature κs) (r r' : ResD scale-all.signature κs) (s s' : AtExit scale-all.ended κs)
    → scale-all-reads.Post κs a r s → scale-all-reads.Post κs a r' s' → s.0.now ≡ s'.0.now
scale_all_unique κs a r r' s s' p q = p ∙ sym q

pub multiply_unique : (κs : Lfts 2) (a : ArgsD multiply.signature κs) (r r' : ResD multiply.signature κs) (s s' : AtExit multiply.ended κs)
    → multiply-reads.Post κs a r s → multiply-reads.Post κs a r' s' → s.0.now ≡ s'.0.now
multiply_unique κs a r r' s s' p q = p ∙ sym q
