-- `fill_block` meets its contract: each count of rows has its own function.
use Prim.Native.Nat.{ℕ, ◌*◌}
use mathlib.Core.Path.{◌≡◌, sym, ap, ◌∙◌}
use native.Mathlib.Omega.{arith}
use Rattle.rows.proofs.Filled.{rows_by}
use Rattle.rows.proofs.fill_block.Goals as goal

pub fill_block1-requires : goal.fill_block1-requires
fill_block1-requires c =
    let same : c.args.r ≡ 1 = omega (arith, c.requires.1.1.1) in (
      c.requires.0,
      (
        c.requires.1.0,
        (
          c.requires.1.1.0,
          (
            c.requires.1.1.1.1.1.0 ∙ ap (λ (x : ℕ). x * c.args.l) same,
            rows_by _ _ _ _ _ _ c.args.out.now (sym same) c.requires.1.1.1.1.1.1,
          ),
        ),
      ),
    )

pub returns-then-r-lt2 : goal.returns-then-r-lt2
returns-then-r-lt2 c =
    rows_by _ _ _ _ 1 _ c.fill_block1.new.out (omega (arith, c.requires.1.1.1)) c.fill_block1.ensures

pub fill_block2-requires : goal.fill_block2-requires
fill_block2-requires c =
    let same : c.args.r ≡ 2 = omega (arith, c.requires.1.1.1) in (
      c.requires.0,
      (
        c.requires.1.0,
        (
          c.requires.1.1.0,
          (
            c.requires.1.1.1.1.1.0 ∙ ap (λ (x : ℕ). x * c.args.l) same,
            rows_by _ _ _ _ _ _ c.args.out.now (sym same) c.requires.1.1.1.1.1.1,
          ),
        ),
      ),
    )

pub returns-then-r-lt3 : goal.returns-then-r-lt3
returns-then-r-lt3 c =
    rows_by _ _ _ _ 2 _ c.fill_block2.new.out (omega (arith, c.requires.1.1.1)) c.fill_block2.ensures

pub fill_block3-requires : goal.fill_block3-requires
fill_block3-requires c =
    let same : c.args.r ≡ 3 = omega (arith, c.requires.1.1.1) in (
      c.requires.0,
      (
        c.requires.1.0,
        (
          c.requires.1.1.0,
          (
            c.requires.1.1.1.1.1.0 ∙ ap (λ (x : ℕ). x * c.args.l) same,
            rows_by _ _ _ _ _ _ c.args.out.now (sym same) c.requires.1.1.1.1.1.1,
          ),
        ),
      ),
    )

pub returns : goal.returns
returns c =
    rows_by _ _ _ _ 3 _ c.fill_block3.new.out (omega (arith, c.requires.1.1.1)) c.fill_block3.ensures
