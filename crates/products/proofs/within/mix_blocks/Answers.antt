-- `mix_blocks` meets its contract: after b turns the b first blocks are done.
use Prim.Native.Nat.{ℕ, ◌*◌, ◌/◌}
use mathlib.Core.Path.{◌≡◌, ap}
use native.Mathlib.Omega.{arith}
use Rattle.products.proofs.Mixing.{disjoint_is, disjoint_less, part_ready, within_done, block_fits, blocks_fit, blocks_start, blocks_turn}
use Rattle.products.proofs.within.mix_blocks.Goals as goal

pub loop-b-init : goal.loop-b-init
loop-b-init g c = blocks_start _ _ _ g.row.N _

pub overflow_add-to : goal.overflow_add-to
overflow_add-to g c = omega (arith, (disjoint_is c.requires.0).first, block_fits c.loop-b.b g.row.N c.args.n c.loop-b-test.true)

pub overflow_add-from : goal.overflow_add-from
overflow_add-from g c = omega (arith, (disjoint_is c.requires.0).second, block_fits c.loop-b.b g.row.N c.args.n c.loop-b-test.true)

pub mix_part-requires : goal.mix_part-requires
mix_part-requires g c =
    let fits = block_fits c.loop-b.b g.row.N c.args.n c.loop-b-test.true in
    (part_ready (c.loop-b.b * g.row.N) _ c.loop-b.a (disjoint_is c.requires.0) (omega (arith, fits)) c.loop-b.invariant.long, omega arith)

pub loop-b-preserved : goal.loop-b-preserved
loop-b-preserved g c = blocks_turn g.row.N (disjoint_is c.requires.0) c.loop-b-test.true c.loop-b.invariant c.mix_part.ensures

pub returns-clause-bytes : goal.returns-clause-bytes
returns-clause-bytes g c =
    let all : c.loop-b.b ≡ c.args.n / g.row.N = omega arith in
    within_done _ (disjoint_less _ (blocks_fit g.row.N c.args.n) (disjoint_is c.requires.0)) (ap (λ (k : ℕ). k * g.row.N) all) c.loop-b.invariant
