-- `fill_chosen` meets its contract: the first v entries are there.
use Prim.Native.Nat.{ℕ}
use mathlib.Core.Path.{◌≡◌, ap, ◌∙◌}
use native.Mathlib.Omega.{arith}
use borrow.Author.Rules.{rules}
use lib.ListN.{get_or}
use Rattle.std.specs.Prelude.{Option, unwrap_or}
use Rattle.lagrange.proofs.Lanes.{set_turn}
use Rattle.constants.proofs.Points.{entries_exact}
use Rattle.constants.proofs.fill_chosen.Goals as goal

pub loop-v-preserved : goal.loop-v-preserved
loop-v-preserved c =
    let at = c.loop-v in
    let a = c.args in
    let ps = a.points.now in
    let here : c.from.result ≡ get_or a.at.now at.v 0 = search rules in
    let read = c.unwrap_or.ensures ∙ ap (λ (o : Option ℕ). unwrap_or o 0) c.copied.ensures ∙ c.get.ensures.lookup.4 (omega arith) 0 in
    let chosen = read ∙ ap (λ (n : ℕ). get_or ps n 0) here in
    set_turn at.out (λ q. get_or ps (get_or a.at.now q 0) 0) at.v _ (omega (arith, c.requires)) chosen at.invariant

pub returns : goal.returns
returns c =
    let at = c.loop-v in
    entries_exact _ _ _ (at.auto.out ∙ c.requires) (λ q h. at.invariant q (omega arith))
