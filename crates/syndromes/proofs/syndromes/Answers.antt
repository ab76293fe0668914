-- `syndromes` meets its contract: what is lent is judged first.
use mathlib.Core.Path.{refl}
use Rattle.syndromes.proofs.Filling.{parted, plain_lacks, set_apart}
use Rattle.syndromes.proofs.syndromes.Goals as goal

pub returns-then-not-lent : goal.returns-then-not-lent
returns-then-not-lent c = let n = c.lent.ensures.not_so (c.if-not-lent.true) in record { lent = λ h. absurd (n h); not_lent = λ h. refl }

pub fill_whole-requires : goal.fill_whole-requires
fill_whole-requires c = c.lent.ensures.so (c.if-not-lent.false)

pub returns-then-not-in_blocks : goal.returns-then-not-in_blocks
returns-then-not-in_blocks c =
    let lent' = c.lent in
    let h = lent'.ensures.so (c.if-not-lent.false) in
    record { lent = λ g. c.fill_whole.ensures; not_lent = λ n. absurd (n h) }

pub fill_apart-requires : goal.fill_apart-requires
fill_apart-requires c =
    parted _ _ _ _ (c.lent.ensures.so (c.if-not-lent.false))
    (c.in_blocks.ensures (c.if-not-in_blocks.false))

pub returns : goal.returns
returns c =
    let lent' = c.lent in
    let a = c.args in
    let h = lent'.ensures.so (c.if-not-lent.false) in
    let b = c.in_blocks.ensures (c.if-not-in_blocks.false) in
    record {
      lent =
          λ g. plain_lacks a.s a.x a.stripe.now _ h.shape h.rows (set_apart a.s a.x _ _ h b.later).0
          (λ i. (c.slice_known-2-1.given i).fits) c.fill_apart.ensures;
      not_lent = λ n. absurd (n h);
    }
