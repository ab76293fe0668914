-- `in_blocks` meets its contract: each test decides one field of `InBlocks`.
use mathlib.Core.Path.{sym}
use mathlib.Core.Bool.{true≢false}
use native.Mathlib.Omega.{arith}
use borrow.Author.Tests.{leb-true}
use Rattle.syndromes.proofs.in_blocks.Goals as goal

pub returns-then-x-eq0 : goal.returns-then-x-eq0
returns-then-x-eq0 c e = absurd (true≢false (sym e))

pub returns-then-s-lt2 : goal.returns-then-s-lt2
returns-then-s-lt2 c e = absurd (true≢false (sym e))

pub returns : goal.returns
returns c e =
    record {
      later = omega (arith, c.if-x-eq0.false);
      rows = omega (arith, c.if-s-lt2.false);
      long = leb-true _ _ e;
    }
