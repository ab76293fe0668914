-- `judge` meets its contract: at the places below `at` the columns are as they are computed.
use Prim.Native.Nat.{◌+◌}
use mathlib.Core.Path.{◌≡◌, refl, sym}
use mathlib.Core.Bool.{true≢false}
use native.Mathlib.Omega.{arith}
use borrow.Author.Rules.{rules}
use Rattle.repair.proofs.Computed.{holds_none, holds_more, holds_part, holds_all}
use Rattle.repair.proofs.judge.judge.Goals as goal
use Rattle.repair.proofs.judge.judge.Goals.{After-min-n}

pub loop-at-init : goal.loop-at-init
loop-at-init c = (refl, holds_none _ _ _ _)

pub returns-then-not-judge_window : goal.returns-then-not-judge_window
returns-then-not-judge_window c =
    let no = c.judge_window.ensures.not_so (c.if-not-judge_window.true) in
    record {
      so = λ y. absurd (true≢false (sym y));
      not_so = λ y g. no (holds_part _ _ _ _ c.loop-at.at _ (omega arith) g);
    }

pub loop-at-preserved : goal.loop-at-preserved
loop-at-preserved c =
    let here = c.judge_window.ensures.so (c.if-not-judge_window.false) in
    let whole : c.min-n.result ≡ c.places-step.result = omega arith in
    (search rules, holds_more _ _ _ _ c.loop-at.at _ c.loop-at.invariant.1 (rw whole at here))

pub returns-else-rows-lt1 : goal.returns-else-rows-lt1
returns-else-rows-lt1 c =
    record { so = λ y. holds_all _ _ _ _ c.loop-at.at c.loop-at-test.false c.loop-at.invariant.1; not_so = λ y g. true≢false y }

pub returns-else-not-judge_window : goal.returns-else-not-judge_window
returns-else-not-judge_window c =
    let here = c.judge_window.ensures.so (c.if-not-judge_window.false) in
    record {
      so = λ y. holds_all _ _ _ _ (c.loop-at.at + c.min-n.result) (omega arith) (holds_more _ _ _ _ c.loop-at.at _ c.loop-at.invariant.1 here);
      not_so = λ y g. true≢false y;
    }
