-- `fill` meets its contract: stripes by points go at once; by rows kind C is the encoding of the wide stripe, many stripes of kind A go row by row,
-- and of few, and of kind B, the stripes go one by one.
use mathlib.Core.Path.{◌≡◌, sym, ap, ◌∙◌}
use Prim.Native.Nat.{ℕ}
use native.Mathlib.Omega.{arith}
use lib.ListN.{length}
use Rattle.stripe.specs.declared.Shape.{Shape}
use Rattle.coding.specs.Encode.{encoded_by_rows}
use Rattle.plan.specs.declared.Kind.TheVariants.{A, B, C}
use Rattle.stripe.proofs.Allowed.{few_by_rows}
use Rattle.plan.proofs.Refusals.{a_shape}
use Rattle.plan.proofs.Foldable.{foldable}
use Rattle.fold.specs.Fold.{fold_of}
use Rattle.fold.specs.Shares.{ReadsPlain}
use Rattle.fold.proofs.Filling.{reads_parity, marked_by_rows}
use Rattle.fold.proofs.Encoded.{encoded_fold}
use Rattle.fold.proofs.ByPoints.{points_new, reads_columns}
use Rattle.fold.proofs.fill.Goals as goal
use Rattle.fold.proofs.fill.Goals.{Else-s-gt-MOST_ROWS}

a_not_c : A ≡ C → ⊥
a_not_c e = let z : ◌≡◌ {A = ℕ} 0 1 = cc in omega arith

b_not_c : B ≡ C → ⊥
b_not_c e = let z : ◌≡◌ {A = ℕ} 0 1 = cc in omega arith

-- by points
pub fill_by_points-requires : goal.fill_by_points-requires
fill_by_points-requires c =
    reads_columns _ _ _ _ _ c.requires.0 c.if-s-gt-MOST_ROWS.true c.requires.1.0 c.requires.1.1

pub returns-then-s-gt-MOST_ROWS : goal.returns-then-s-gt-MOST_ROWS
returns-then-s-gt-MOST_ROWS c =
    c.fill_by_points.ensures
    ∙ ap (λ (g : ℕ). fold_of c.args.s c.args.stripes g c.args.read.now)
    (sym (points_new _ _ _ c.requires.0 c.if-s-gt-MOST_ROWS.true))

-- by rows, kind A
plain : (c : Else-s-gt-MOST_ROWS) → let a = c.args in
    ReadsPlain a.s a.stripes a.f (length a.read.now) (length a.parity.now)
plain c =
    let is = sym c.in-A.ensures in
    record { passed = c.requires.0; rows = few_by_rows _ c.if-s-gt-MOST_ROWS.false; kind = is; read_long = c.requires.1.0; parity_long = c.requires.1.1 }

pub last_exponent-e-requires : goal.last_exponent-e-requires
last_exponent-e-requires c =
    let able = foldable _ _ _ (plain c).passed in
    (able.new_some, (able.new_most, able.shape.data_most))

pub fill_plain-requires : goal.fill_plain-requires
fill_plain-requires c = plain (goal.at.fill_plain-requires c).Else-s-gt-MOST_ROWS

pub fill_plain-requires-then-beats_shifts : goal.fill_plain-requires-then-beats_shifts
fill_plain-requires-then-beats_shifts c = plain (goal.at.fill_plain-requires-then-beats_shifts c).Else-s-gt-MOST_ROWS

pub fill_by_points-requires-then-s-gt-MOST_ROWS-2 : goal.fill_by_points-requires-then-s-gt-MOST_ROWS-2
fill_by_points-requires-then-s-gt-MOST_ROWS-2 c =
    reads_columns _ _ _ _ _ c.requires.0 c.if-s-gt-MOST_ROWS-2.true c.requires.1.0 c.requires.1.1

pub returns-then-s-gt-MOST_ROWS-2 : goal.returns-then-s-gt-MOST_ROWS-2
returns-then-s-gt-MOST_ROWS-2 c =
    c.fill_by_points-then-s-gt-MOST_ROWS-2.ensures
    ∙ ap (λ (g : ℕ). fold_of c.args.s c.args.stripes g c.args.read.now)
    (sym (points_new _ _ _ c.requires.0 c.if-s-gt-MOST_ROWS-2.true))

-- by rows, kinds A and B, stripe by stripe
pub fill_parity-requires : goal.fill_parity-requires
fill_parity-requires c =
    let p = plain (goal.at.fill_parity-requires c).Else-s-gt-MOST_ROWS in
    (reads_parity _ _ _ c.requires.0 p.rows (λ e. a_not_c (sym p.kind ∙ e)), c.requires)

pub fill_parity-requires-in-B : goal.fill_parity-requires-in-B
fill_parity-requires-in-B c =
    let is = sym c.in-B.ensures in
    (reads_parity _ _ _ c.requires.0 (marked_by_rows _ _ _ c.requires.0 is) (λ e. b_not_c (sym is ∙ e)), c.requires)

pub returns-else-s-gt-MOST_ROWS-2 : goal.returns-else-s-gt-MOST_ROWS-2
returns-else-s-gt-MOST_ROWS-2 c =
    let is = sym c.in-C.ensures in
    c.encode_by_rows.ensures
    ∙ ap (λ (t : Shape). encoded_by_rows t c.args.read.now c.args.parity.now) (c.wide_shape.ensures ∙ a_shape _ _ _ c.requires.0)
    ∙ encoded_fold _ _ _ c.requires.0 _ is c.requires.1.0 (few_by_rows _ c.if-s-gt-MOST_ROWS-2.false) _ c.requires.1.1
