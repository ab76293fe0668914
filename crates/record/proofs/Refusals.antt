-- Refusals in their order: those before were 0, so the first that is not is the answer.
use Prim.Native.Nat.{ℕ, zero, suc, ◌+◌, ◌-◌, ◌*◌, ◌≤◌, ◌<◌}
use mathlib.Core.Path.{◌≡◌, refl, sym, ap, ◌∙◌}
use mathlib.Core.Bool.{Bool, true, false, ◌&&◌}
use mathlib.Core.List.{List, [], ◌∷◌}
use native.Mathlib.Omega.{arith}
use lib.Dec.{leb, ltb}
use lib.ListN.{length}
use borrow.Author.Tests.{lt-ltb, le-ltb, le-leb, lt-leb, leb-true}
use Rattle.stripe.specs.declared.Shape.{Shape}
use Rattle.stripe.specs.Shape.{shape_refusal, columns, stripe_length}
use Rattle.stripe.proofs.Allowed.{Allowed, allowed}
use Rattle.number.specs.Number.{Standing, number_at, number_refusal, value_of, next_of}
use Rattle.record.specs.Reading.{first_of, unless, first_number, second_number, third_number, fourth_number, count_number, shape_read}
use Rattle.record.specs.Reading.{stripe_refusal, head_refusal, position_refusal, positions_refusal, after_positions, columns_refusal, rest_refusal}
use Rattle.record.specs.Reading.{content_refusal}

-- ---- the first of several

pub stop : (num x : ℕ) (xs : List ℕ) → num ≡ x → (num ≡ 0 → ⊥) → num ≡ first_of (x ∷ xs)
unfolding first_of
stop num zero xs e z = absurd (z e)
stop num (suc x) xs e z = e

pub skip : (x : ℕ) (xs : List ℕ) → x ≡ 0 → first_of xs ≡ first_of (x ∷ xs)
unfolding first_of
skip zero xs e = refl
skip (suc x) xs e = absurd (omega arith)

pub end : ◌≡◌ {A = ℕ} 0 (first_of [])
unfolding first_of
end = refl

-- one alone
pub only : (x : ℕ) → x ≡ first_of (x ∷ [])
unfolding first_of
only zero = refl
only (suc x) = refl

pub passed : (b : Bool) (x : ℕ) → b ≡ true → unless b x ≡ 0
passed b x e = rw e

pub failed : (b : Bool) (x : ℕ) → b ≡ false → x ≡ unless b x
failed b x e = rw e

-- ---- a described stripe

pub stripe_shape : (s : Shape) (num : ℕ) → num ≡ shape_refusal s → (num ≡ 0 → ⊥) → num ≡ stripe_refusal s
unfolding stripe_refusal
stripe_shape s num e z = stop num (shape_refusal s) _ e z

pub stripe_long : (s : Shape) → shape_refusal s ≡ 0 → 65536 < stripe_length s → ◌≡◌ {A = ℕ} 5 (stripe_refusal s)
unfolding stripe_refusal
stripe_long s e h = stop 5 _ [] (failed _ 5 (lt-leb (stripe_length s) 65536 h)) (λ z. omega arith) ∙ skip (shape_refusal s) _ e

pub stripe_lawful : (s : Shape) → shape_refusal s ≡ 0 → stripe_length s ≤ 65536 → ◌≡◌ {A = ℕ} 0 (stripe_refusal s)
unfolding stripe_refusal
stripe_lawful s e h = end ∙ skip _ [] (passed _ 5 (le-leb (stripe_length s) 65536 h)) ∙ skip (shape_refusal s) _ e

-- ---- the front of a record

pub head_first : (s : List ℕ) (num : ℕ) → num ≡ number_refusal (first_number s) → (num ≡ 0 → ⊥) → num ≡ head_refusal s
unfolding head_refusal
head_first s num e z = stop num _ _ e z

module _ (s : List ℕ) (one : number_refusal (first_number s) ≡ 0) where
  pub head_second : (num : ℕ) → num ≡ number_refusal (second_number s) → (num ≡ 0 → ⊥) → num ≡ head_refusal s
  unfolding head_refusal
  head_second num e z = stop num _ _ e z ∙ skip _ _ one

  module _ (two : number_refusal (second_number s) ≡ 0) where
    pub head_third : (num : ℕ) → num ≡ number_refusal (third_number s) → (num ≡ 0 → ⊥) → num ≡ head_refusal s
    unfolding head_refusal
    head_third num e z = stop num _ _ e z ∙ skip _ _ two ∙ skip _ _ one

    module _ (three : number_refusal (third_number s) ≡ 0) where
      pub head_fourth : (num : ℕ) → num ≡ number_refusal (fourth_number s) → (num ≡ 0 → ⊥) → num ≡ head_refusal s
      unfolding head_refusal
      head_fourth num e z = stop num _ _ e z ∙ skip _ _ three ∙ skip _ _ two ∙ skip _ _ one

      module _ (four : number_refusal (fourth_number s) ≡ 0) where
        pub head_stripe : (num : ℕ) → num ≡ stripe_refusal (shape_read s) → (num ≡ 0 → ⊥) → num ≡ head_refusal s
        unfolding head_refusal
        head_stripe num e z = stop num _ _ e z ∙ skip _ _ four ∙ skip _ _ three ∙ skip _ _ two ∙ skip _ _ one

        pub head_lawful : stripe_refusal (shape_read s) ≡ 0 → ◌≡◌ {A = ℕ} 0 (head_refusal s)
        unfolding head_refusal
        head_lawful e = end ∙ skip _ _ e ∙ skip _ _ four ∙ skip _ _ three ∙ skip _ _ two ∙ skip _ _ one

abbrev shape : ℕ → ℕ → ℕ → ℕ → Shape
shape k r t l = record { k = k; r = r; t = t; l = l }

pub shape_is : (v : Shape) (k r t l : ℕ) → v.k ≡ k → v.r ≡ r → v.t ≡ t → v.l ≡ l → v ≡ record { k = k; r = r; t = t; l = l }
shape_is v k r t l a b c d =
    ap (λ (i : ℕ). shape i v.r v.t v.l) a ∙ ap (λ (i : ℕ). shape k i v.t v.l) b ∙ ap (λ (i : ℕ). shape k r i v.l) c ∙ ap (shape k r t) d

-- ---- a position

pub position_number : (g : Standing) (least n num : ℕ) → num ≡ number_refusal g → (num ≡ 0 → ⊥) → num ≡ position_refusal g least n
position_number g least n num e z = stop num _ _ e z

abbrev between : ℕ → ℕ → ℕ → Bool
between least e n = leb least e && ltb e n

between_low : (least e n : ℕ) → e < least → between least e n ≡ false
between_low least e n h = rw (lt-leb least e h)

between_high : (least e n : ℕ) → least ≤ e → n ≤ e → between least e n ≡ false
between_high least e n l h = rw (le-leb least e l, le-ltb e n h)

between_lawful : (least e n : ℕ) → least ≤ e → e < n → between least e n ≡ true
between_lawful least e n l h = rw (le-leb least e l, lt-ltb e n h)

module _ (g : Standing) (least n : ℕ) (number : number_refusal g ≡ 0) where
  pub position_low : value_of g < least → ◌≡◌ {A = ℕ} 6 (position_refusal g least n)
  position_low h = stop 6 _ [] (failed _ 6 (between_low least (value_of g) n h)) (λ z. omega arith) ∙ skip _ _ number

  pub position_high : least ≤ value_of g → n ≤ value_of g → ◌≡◌ {A = ℕ} 6 (position_refusal g least n)
  position_high l h = stop 6 _ [] (failed _ 6 (between_high least (value_of g) n l h)) (λ z. omega arith) ∙ skip _ _ number

  pub position_lawful : least ≤ value_of g → value_of g < n → ◌≡◌ {A = ℕ} 0 (position_refusal g least n)
  position_lawful l h = end ∙ skip _ _ (passed _ 6 (between_lawful least (value_of g) n l h)) ∙ skip _ _ number

-- ---- the positions, one at a time

module _ (s : List ℕ) (n m i least at : ℕ) (some : i < m) where
  one_left : m - i ≡ suc (m - (i + 1))
  one_left = omega arith

  pub positions_stop : (num : ℕ) → num ≡ position_refusal (number_at s at) least n → (num ≡ 0 → ⊥) → num ≡ positions_refusal s n (m - i) least at
  unfolding positions_refusal
  positions_stop num e z =
      stop num _ (positions_refusal s n (m - (i + 1)) (value_of (number_at s at) + 1) (next_of (number_at s at)) ∷ []) e z
      ∙ ap (λ (j : ℕ). positions_refusal s n j least at) (sym one_left)

  pub positions_turn : position_refusal (number_at s at) least n ≡ 0
      → positions_refusal s n (m - (i + 1)) (value_of (number_at s at) + 1) (next_of (number_at s at)) ≡ positions_refusal s n (m - i) least at
  unfolding positions_refusal
  positions_turn e =
      only (positions_refusal s n (m - (i + 1)) (value_of (number_at s at) + 1) (next_of (number_at s at))) ∙ skip _ _ e
      ∙ ap (λ (j : ℕ). positions_refusal s n j least at) (sym one_left)

  pub after_turn : after_positions s (m - (i + 1)) (next_of (number_at s at)) ≡ after_positions s (m - i) at
  unfolding after_positions
  after_turn = ap (λ (j : ℕ). after_positions s j at) (sym one_left)

pub positions_done : (s : List ℕ) (n m i least at : ℕ) → m ≤ i → (◌≡◌ {A = ℕ} 0 (positions_refusal s n (m - i) least at)) × (at ≡ after_positions s (m - i) at)
unfolding positions_refusal after_positions
positions_done s n m i least at h =
    let e : 0 ≡ m - i = omega arith in
    (ap (λ (j : ℕ). positions_refusal s n j least at) e, ap (λ (j : ℕ). after_positions s j at) e)

-- ---- the columns

pub columns_exact : (have want : ℕ) → want ≤ have → have ≤ want → ◌≡◌ {A = ℕ} 0 (columns_refusal have want)
columns_exact have want h k = rw (le-ltb have want h, le-leb have want k)

-- ---- what follows the shape

module _ (s : List ℕ) (sh : Shape) (g : Standing) where
  pub rest_count : (num : ℕ) → num ≡ number_refusal g → (num ≡ 0 → ⊥) → num ≡ rest_refusal s sh g
  rest_count num e z = stop num _ _ e z

  module _ (one : number_refusal g ≡ 0) where
    pub rest_many : columns sh < value_of g → ◌≡◌ {A = ℕ} 6 (rest_refusal s sh g)
    rest_many h = stop 6 _ _ (failed _ 6 (lt-leb (value_of g) (columns sh) h)) (λ z. omega arith) ∙ skip _ _ one

    module _ (few : value_of g ≤ columns sh) where
      two : unless (leb (value_of g) (columns sh)) 6 ≡ 0
      two = passed _ 6 (le-leb (value_of g) (columns sh) few)

      pub rest_positions : (num : ℕ) → num ≡ positions_refusal s (columns sh) (value_of g) 0 (next_of g) → (num ≡ 0 → ⊥) → num ≡ rest_refusal s sh g
      rest_positions num e z = stop num _ _ e z ∙ skip _ _ two ∙ skip _ _ one

      module _ (three : positions_refusal s (columns sh) (value_of g) 0 (next_of g) ≡ 0) where
        pub rest_columns : (num : ℕ) → num ≡ columns_refusal (length s - after_positions s (value_of g) (next_of g)) ((columns sh - value_of g) * sh.l)
            → num ≡ rest_refusal s sh g
        rest_columns num e = e ∙ only _ ∙ skip _ _ three ∙ skip _ _ two ∙ skip _ _ one

-- what an accepted front says
pub first_zero : (x : ℕ) (xs : List ℕ) → first_of (x ∷ xs) ≡ 0 → (x ≡ 0) × (first_of xs ≡ 0)
unfolding first_of
first_zero zero xs e = (refl, e)
first_zero (suc x) xs e = absurd (omega arith)

pub head_described : (s : List ℕ) → head_refusal s ≡ 0 → stripe_refusal (shape_read s) ≡ 0
unfolding head_refusal
head_described s e =
    let a = first_zero _ _ e in
    let b = first_zero _ _ a.1 in
    let c = first_zero _ _ b.1 in
    let d = first_zero _ _ c.1 in
    (first_zero _ _ d.1).0

pub stripe_shaped : (s : Shape) → stripe_refusal s ≡ 0 → shape_refusal s ≡ 0
unfolding stripe_refusal
stripe_shaped s e = (first_zero (shape_refusal s) _ e).0

-- a described stripe is allowed, and has at most 65,536 bytes
pub described : (s : Shape) → stripe_refusal s ≡ 0 → Allowed s × (stripe_length s ≤ 65536)
unfolding stripe_refusal
described s e =
    let a = first_zero _ _ e in
    (allowed s a.0, short (leb (stripe_length s) 65536) refl (first_zero _ _ a.1).0)
  where
    short : (b : Bool) → leb (stripe_length s) 65536 ≡ b → unless b 5 ≡ 0 → stripe_length s ≤ 65536
    short true p q = leb-true (stripe_length s) 65536 p
    short false p q = absurd (omega arith)

-- ---- the whole record

pub content_head : (s : List ℕ) (num : ℕ) → num ≡ head_refusal s → (num ≡ 0 → ⊥) → num ≡ content_refusal s
unfolding content_refusal
content_head s num e z = stop num _ _ e z

pub content_rest : (s : List ℕ) → head_refusal s ≡ 0 → rest_refusal s (shape_read s) (count_number s) ≡ content_refusal s
unfolding content_refusal
content_rest s e = only _ ∙ skip _ _ e
