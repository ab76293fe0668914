-- `agrees` meets its contract: the first difference is past the last byte exactly where the two agree.
use mathlib.Core.Path.{◌≡◌, sym, ap, ◌∙◌}
use mathlib.Core.List.{List}
use native.Mathlib.Omega.{arith}
use Prim.Native.Nat.{ℕ}
use lib.Dec.{eqb}
use lib.ListN.{length}
use Rattle.stripe.specs.declared.Shape.{Shape}
use Rattle.stripe.specs.Stripe.{parity}
use Rattle.stripe.specs.Column.{lent_refusal}
use Rattle.stripe.proofs.Allowed.{allowed, few_by_rows, many_by_points}
use Rattle.stripe.proofs.Lent.{lent}
use Rattle.stripe.proofs.Places.{parity-length}
use Rattle.checking.specs.Compare.{agree, first_difference}
use Rattle.checking.proofs.Comparing.{first_agree}
use Rattle.checking.proofs.agrees.Goals as goal

past : (s : Shape) (ds ps : List ℕ) (n : ℕ) → lent_refusal s (length ds) (length ps) ≡ 0 → n ≡ first_difference ps (parity s ds)
    → eqb n (length ps) ≡ agree ps (parity s ds)
past s ds ps n h is =
    ap (λ (m : ℕ). eqb m (length ps)) is ∙ first_agree ps (parity s ds) ((lent s _ _ h).parity_long ∙ sym (parity-length s ds))

pub first_by_points-requires : goal.first_by_points-requires
first_by_points-requires c =
    let a = c.args.lent.now in
    many_by_points a.shape c.if-lent-gt-MOST_ROWS.true (allowed a.shape (lent a.shape _ _ a.allowed).shape).parity_most

pub returns-then-lent-gt-MOST_ROWS : goal.returns-then-lent-gt-MOST_ROWS
returns-then-lent-gt-MOST_ROWS c = past c.args.lent.now.shape _ _ _ c.args.lent.now.allowed c.first_by_points.ensures

pub in_room-requires : goal.in_room-requires
in_room-requires c =
    (few_by_rows c.args.lent.now.shape c.if-lent-gt-MOST_ROWS.false, (c.if-n-le-SMALL.true, omega arith))

pub returns-then-n-le-SMALL : goal.returns-then-n-le-SMALL
returns-then-n-le-SMALL c = past c.args.lent.now.shape _ _ _ c.args.lent.now.allowed c.in_room.ensures

pub first_by_rows-requires : goal.first_by_rows-requires
first_by_rows-requires c = few_by_rows c.args.lent.now.shape c.if-lent-gt-MOST_ROWS.false

pub returns : goal.returns
returns c = past c.args.lent.now.shape _ _ _ c.args.lent.now.allowed c.first_by_rows.ensures
