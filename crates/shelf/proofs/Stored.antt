-- The list after i stores: the first i spans of the plan, and after them what the list held.
use Prim.Native.Nat.{ℕ, ◌+◌, ◌≤◌, ◌<◌}
use mathlib.Core.Path.{◌≡◌, refl, sym, ap, subst, ◌∙◌}
use mathlib.Core.List.{List, [], ◌∷◌}
use mathlib.Core.Bool.{Bool, true, false, cond}
use mathlib.Core.Logic.{◌⊎◌, inl, inr}
use native.Mathlib.Omega.{arith}
use native.Mathlib.Numerals.{add-one}
use lib.ListN.{length, set, get_or, take}
use lib.Seq.{take-suc, take-length, length-take-le}
use lib.Dec.{ltb, eqb}
use borrow.Author.Tests.{ltb-false}
use Rattle.field.specs.Bytes.{over}
use Rattle.field.proofs.Cases.{zero_or_not}
use Rattle.field.proofs.Over.{over-length, over_none, over-one, over_on}
use Rattle.stripe.specs.declared.Shape.{Shape}
use Rattle.plan.specs.declared.Span.{Span}
use Rattle.plan.specs.Plan.{fold_refusal, columns_read, plan, span_at}
use Rattle.plan.proofs.Bounds.{columns_small}
use Rattle.plan.proofs.Costs.{columns_read_lem}
use Rattle.plan.proofs.Counted.{columns_counted}
use Rattle.plan.proofs.Refusals.{no_columns}
use Rattle.shelf.specs.Shelf.{spans_refusal, spans_written, spans_filled}

-- the list xs with the first i of the records ps stored
abbrev pub front : List Span → ℕ → List Span → List Span
front ps i xs = over xs 0 (take i ps)

pub length_front : (ps : List Span) (i : ℕ) (xs : List Span) → i ≤ length ps → i ≤ length xs → length (front ps i xs) ≡ length xs
length_front ps i xs h g = over-length xs 0 (take i ps) (omega (arith, length-take-le i ps h))

front_one : (ps : List Span) (i : ℕ) (xs : List Span) (d : Span) → i < length ps → i < length xs
    → set (front ps i xs) i (get_or ps i d) ≡ front ps (i + 1) xs
front_one ps i xs d h g =
    over-one (front ps i xs) i (get_or ps i d) (omega (arith, length_front ps i xs (omega arith) (omega arith)))
    ∙ over_on xs (front ps i xs) _ 0 i (take i ps) (get_or ps i d ∷ []) refl (omega (arith, length-take-le i ps (omega arith))) refl
    (omega (arith, length-take-le i ps (omega arith)))
    ∙ ap (over xs 0) (sym (rw add-one (take-suc ps i d h)))

-- one store more
pub front_more : (s : Shape) (n f i : ℕ) (xs : List Span) → i < length (plan s n f) → i < length xs
    → set (front (plan s n f) i xs) i (span_at s n f i) ≡ front (plan s n f) (i + 1) xs
unfolding span_at
front_more s n f i xs h g = front_one (plan s n f) i xs _ h g

room_by : (c many room : ℕ) (a b : Bool) → eqb c 0 ≡ a → ltb room many ≡ b → cond (eqb (cond a (cond b 5 0) c) 0) many 0 ≤ room
room_by c many room true false d e = ltb-false room many e
room_by c many room true true d e = omega arith
room_by c many room false b d e = subst (λ (z : Bool). cond z many 0 ≤ room) (sym d) (omega arith)

some_of : (b : Bool) (many : ℕ) → cond b many 0 ≤ many
some_of true many = omega arith
some_of false many = omega arith

done_by : (ps xs : List Span) (many : ℕ) → many ≡ length ps → (b : Bool) → front ps (cond b many 0) xs ≡ cond b (over xs 0 ps) xs
done_by ps xs many e true = ap (λ (i : ℕ). front ps i xs) e ∙ ap (over xs 0) (take-length ps)
done_by ps xs many e false = sym (over_none xs 0)

-- no more spans are written than there is room for
pub written_room : (s : Shape) (n f room : ℕ) → spans_written s n f room ≤ room
unfolding spans_written spans_refusal
written_room s n f room = room_by (fold_refusal s n f) (columns_read s n f) room _ _ refl refl

-- nor than the plan has
pub written_plan : (s : Shape) (n f room : ℕ) → spans_written s n f room ≤ length (plan s n f)
unfolding spans_written
written_plan s n f room =
    subst (λ (x : ℕ). spans_written s n f room ≤ x) (sym (columns_counted s n f)) (some_of (eqb (spans_refusal s n f room) 0) (columns_read s n f))

few_read : (s : Shape) (n f : ℕ) → columns_read s n f ≤ 65790
few_read s n f = go (zero_or_not (fold_refusal s n f))
  where
    go : (fold_refusal s n f ≡ 0) ⊎ (fold_refusal s n f ≡ 0 → ⊥) → columns_read s n f ≤ 65790
    go (inl z) = omega (arith, columns_read_lem s n f z, columns_small s n f z)
    go (inr h) = omega (arith, no_columns s n f h)

-- and no more than any plan has
pub written_few : (s : Shape) (n f room : ℕ) → spans_written s n f room ≤ 65790
unfolding spans_written
written_few s n f room = omega (arith, some_of (eqb (spans_refusal s n f room) 0) (columns_read s n f), few_read s n f)

-- when all are stored the list is as stated
pub front_done : (s : Shape) (n f : ℕ) (xs : List Span) → front (plan s n f) (spans_written s n f (length xs)) xs ≡ spans_filled s n f xs
unfolding spans_written spans_filled
front_done s n f xs = done_by (plan s n f) xs (columns_read s n f) (sym (columns_counted s n f)) (eqb (spans_refusal s n f (length xs)) 0)
