-- A part of a list that was lent to be written and came back, read at an index of the whole.
use Prim.Native.Nat.{ℕ, ◌+◌, ◌-◌, ◌≤◌, ◌<◌}
use mathlib.Core.Path.{◌≡◌, ap, subst, ◌∙◌}
use mathlib.Core.List.{List, ◌++◌}
use mathlib.Core.Logic.{◌⊎◌, inl, inr}
use native.Mathlib.Omega.{arith}
use lib.ListN.{length, get_or, take, drop, length-take, length-append, length-drop, get_or-append}
use lib.Seq.{length-take-le, get_or-take, get_or-drop, get_or-append-add}
use borrow.Rule.Slice.PartMut.{put_mid}
use Rattle.lanes.specs.Lanes.{onto}
use Rattle.lanes.proofs.Onto.{onto_at}

-- past the first list
get_or_past : (xs ys : List ℕ) (i : ℕ) → length xs ≤ i → get_or (xs ++ ys) i 0 ≡ get_or ys (i - length xs) 0
get_or_past xs ys i h = subst (λ (k : ℕ). get_or (xs ++ ys) k 0 ≡ get_or ys (i - length xs) 0) (omega arith) (get_or-append-add xs ys (i - length xs) 0)

-- a part of n bytes, from s on
pub part_length : (xs : List ℕ) (s n : ℕ) → s + n ≤ length xs → length (take (s + n - s) (drop s xs)) ≡ n
part_length xs s n h = simp (length-take, length-drop) (omega arith)

pub part_at : (xs : List ℕ) (s n q : ℕ) → q < n → get_or (take (s + n - s) (drop s xs)) q 0 ≡ get_or xs (s + q) 0
part_at xs s n q h = get_or-take (s + n - s) (drop s xs) q 0 (omega arith) ∙ get_or-drop s xs q 0

-- what `copy` of a part leaves in a list
pub copied : (xs a b : List ℕ) (at n : ℕ) → at + n ≤ length xs → n ≤ length a → b ≡ onto (λ (x y : ℕ). y) a (take (at + n - at) (drop at xs))
    → (q : ℕ) → q < n → get_or b q 0 ≡ get_or xs (at + q) 0
copied xs a b at n fits long is q h =
    ap (λ (x : List ℕ). get_or x q 0) is ∙ onto_at (λ (x y : ℕ). y) a _ q (omega arith) (omega (arith, part_length xs at n fits)) ∙ part_at xs at n q h

-- the whole xs, of which the n bytes from a on came back as ys
module _ (xs ys : List ℕ) (a n : ℕ) (long : length ys ≡ n) (fits : a + n ≤ length xs) where
  abbrev back : List ℕ
  back = put_mid a (a + n - a) xs ys

  abbrev rest : List ℕ
  rest = ys ++ drop (a + n - a) (drop a xs)

  head_length : length (take a xs) ≡ a
  head_length = length-take-le a xs (omega arith)

  pub back_length : length back ≡ length xs
  back_length = simp (length-append, length-drop, head_length) (omega arith)

  after_head : (i : ℕ) → a ≤ i → get_or back i 0 ≡ get_or rest (i - a) 0
  after_head i h = get_or_past (take a xs) rest i (omega (arith, head_length)) ∙ ap (λ (m : ℕ). get_or rest (i - m) 0) head_length

  pub back_inside : (q : ℕ) → q < n → get_or back (a + q) 0 ≡ get_or ys q 0
  back_inside q h =
      after_head (a + q) (omega arith) ∙ ap (λ (m : ℕ). get_or rest m 0) (omega arith) ∙ get_or-append ys _ 0 q (omega arith)

  index : (i : ℕ) → a + n ≤ i → a + (a + n - a + (i - a - length ys)) ≡ i
  index i h = omega arith

  pub back_outside : (i : ℕ) → (i < a) ⊎ (a + n ≤ i) → get_or back i 0 ≡ get_or xs i 0
  back_outside i (inl h) = get_or-append (take a xs) _ 0 i (omega (arith, head_length)) ∙ get_or-take a xs i 0 h
  back_outside i (inr h) =
      after_head i (omega arith) ∙ get_or_past ys _ (i - a) (omega arith) ∙ get_or-drop (a + n - a) (drop a xs) (i - a - length ys) 0
      ∙ get_or-drop a xs (a + n - a + (i - a - length ys)) 0 ∙ ap (λ (m : ℕ). get_or xs m 0) (index i h)
