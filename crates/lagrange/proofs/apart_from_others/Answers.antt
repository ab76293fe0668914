-- `apart_from_others` meets its contract: lane q is what point q is apart from the points less than s places on.
use Prim.Native.Nat.{ℕ, suc, ◌+◌, ◌-◌, ◌<◌, ◌≤◌}
use mathlib.Core.Path.{◌≡◌, ap, ◌∙◌}
use mathlib.Core.List.{List, ◌++◌}
use native.Mathlib.Omega.{arith}
use lib.ListN.{length, get_or, take, drop, replicate, get_or-replicate, length-replicate}
use borrow.Rule.Slice.PartMut.{put_mid}
use borrow.Author.Rules.{rules}
use Rattle.points.specs.Lagrange.{away, others}
use Rattle.lagrange.proofs.Away.{away_none, around_all}
use Rattle.lagrange.proofs.Lanes.{twice_at, apart_turn}
use Rattle.lagrange.proofs.apart_from_others.Goals as goal

pub loop-s-init : goal.loop-s-init
loop-s-init c =
    let bs = c.args.bs.now in
    let few : length bs ≤ 16 = c.requires in (
      search rules,
      λ q h. (omega arith, get_or-replicate 16 q 1 0 (omega arith) ∙ away_none (drop (suc q) (bs ++ bs)) (get_or bs q 0)),
    )

pub loop-s-preserved : goal.loop-s-preserved
loop-s-preserved c =
    let by = c.apart_by-d in
    let at = c.loop-s in
    let bs = c.args.bs.now in
    let few : length bs ≤ 16 = c.requires in
    let blank : List ℕ = replicate 32 0 in
    let room : length bs + length bs ≤ length blank = omega (arith, length-replicate {A = ℕ} 32 0) in
    let z = put_mid (length bs) (length bs + length bs - length bs) c.copy.new.a c.copy-2.new.a in
    let twice = twice_at bs blank room c.copy.ensures c.copy-2.ensures in (
      search rules,
      apart_turn bs z at.p by.result _ at.s (omega arith) c.loop-s-test.true few at.invariant.0 by.ensures.0 twice by.ensures.1
          c.multiply.ensures at.invariant.1,
    )

pub returns : goal.returns
returns c =
    let at = c.loop-s in
    let bs = c.args.bs.now in
    let made : (q : ℕ) → q < length bs → get_or at.p q 0 ≡ away (others bs q) (get_or bs q 0) =
    λ q h. let all : at.s - 1 ≡ length bs - 1 = omega (arith, c.loop-s-test.false, (at.invariant.1 q h).0) in
    (at.invariant.1 q h).1 ∙ ap (λ (n : ℕ). away (take n (drop (suc q) (bs ++ bs))) (get_or bs q 0)) all ∙ around_all bs q (get_or bs q 0) h in
    record { long = at.invariant.0; at = made }
