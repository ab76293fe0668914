-- The product of what y is apart from some points: of the first, of the last, and of all but one.
use mathlib.Core.Path.{◌≡◌, refl, sym, ap, ◌∙◌}
use mathlib.Core.List.{List, [], ◌∷◌, ◌++◌}
use Prim.Native.Nat.{ℕ, zero, suc, ◌+◌, ◌-◌, ◌<◌, ◌≤◌}
use native.Mathlib.Nat.{le_of_suc-le-suc, not-suc-le-zero}
use native.Mathlib.Numerals.{add-one}
use native.Mathlib.Omega.{arith}
use lib.Dec.{lit<}
use lib.ListN.{length, get_or, take, drop, drop_of_length-le, length-drop, length-append}
use lib.Seq.{drop-cons, drop-append-le, take-append-add, get_or-drop}
use Rattle.field.specs.Field.{◌⊕◌, ◌⊗◌, inverse_of}
use Rattle.field.proofs.Mul.{mul-lt, mul-one, one-mul, mul_comm, mul_left_comm, mul_assoc}
use Rattle.points.specs.Lagrange.{away, others, lagrange}

pub away-lt : (bs : List ℕ) (y : ℕ) → away bs y < 256
unfolding away
away-lt [] y = lit< tt
away-lt (b ∷ bs) y = mul-lt (y ⊕ b) (away bs y)

away-append : (bs cs : List ℕ) (y : ℕ) → away (bs ++ cs) y ≡ away bs y ⊗ away cs y
unfolding away
away-append [] cs y = sym (one-mul (away cs y) (away-lt cs y))
away-append (b ∷ bs) cs y = ap (λ (x : ℕ). (y ⊕ b) ⊗ x) (away-append bs cs y) ∙ sym (mul_assoc (y ⊕ b) (away bs y) (away cs y))

-- ---- the first v points

pub away_none : (bs : List ℕ) (y : ℕ) → 1 ≡ away (take 0 bs) y
unfolding away
away_none bs y = refl

-- one point alone counts as what y is apart from it
one_away : (b y x : ℕ) → x ⊗ (y ⊕ b) ≡ x ⊗ ((y ⊕ b) ⊗ 1)
one_away b y x = sym (mul-one (x ⊗ (y ⊕ b)) (mul-lt x (y ⊕ b))) ∙ mul_assoc x (y ⊕ b) 1

pub away_first : (bs : List ℕ) (y x : ℕ) → 0 < length bs → x ⊗ (y ⊕ get_or bs 0 0) ≡ x ⊗ away (take 1 bs) y
unfolding away
away_first [] y x h = absurd (not-suc-le-zero h)
away_first (b ∷ bs) y x h = one_away b y x

away_more : (bs : List ℕ) (v y : ℕ) → v < length bs → (y ⊕ get_or bs v 0) ⊗ away (take v bs) y ≡ away (take (suc v) bs) y
unfolding away
away_more [] v y h = absurd (not-suc-le-zero h)
away_more (b ∷ bs) zero y h = refl
away_more (b ∷ bs) (suc v) y h =
    mul_left_comm (y ⊕ get_or bs v 0) (y ⊕ b) (away (take v bs) y) ∙ ap (λ (x : ℕ). (y ⊕ b) ⊗ x) (away_more bs v y (le_of_suc-le-suc h))

pub away_next : (bs : List ℕ) (v y : ℕ) → v < length bs → (y ⊕ get_or bs v 0) ⊗ away (take v bs) y ≡ away (take (v + 1) bs) y
away_next bs v y h = away_more bs v y h ∙ ap (λ (n : ℕ). away (take n bs) y) (sym (add-one v))

-- ---- the points from number v on

pub away_end : (bs : List ℕ) (v y : ℕ) → length bs ≤ v → 1 ≡ away (drop v bs) y
unfolding away
away_end bs v y h = sym (ap (λ (l : List ℕ). away l y) (drop_of_length-le bs h))

pub away_back : (bs : List ℕ) (v y : ℕ) → v < length bs → (y ⊕ get_or bs v 0) ⊗ away (drop (suc v) bs) y ≡ away (drop v bs) y
unfolding away
away_back bs v y h = sym (ap (λ (l : List ℕ). away l y) (drop-cons bs v 0 h))

pub away_last : (bs : List ℕ) (v y x : ℕ) → suc v ≡ length bs → x ⊗ (y ⊕ get_or bs v 0) ≡ x ⊗ away (drop v bs) y
away_last bs v y x e =
    let b = get_or bs v 0 in
    one_away b y x ∙ ap (λ (z : ℕ). x ⊗ ((y ⊕ b) ⊗ z)) (away_end bs (suc v) y (omega arith)) ∙ ap (λ (z : ℕ). x ⊗ z) (away_back bs v y (omega arith))

-- ---- all points but one

-- those before it and those after it
others_split : (bs : List ℕ) (v : ℕ) → others bs v ≡ take v bs ++ drop (suc v) bs
unfolding others
others_split [] zero = refl
others_split [] (suc v) = refl
others_split (b ∷ bs) zero = refl
others_split (b ∷ bs) (suc v) = ap (λ (l : List ℕ). b ∷ l) (others_split bs v)

pub away_others : (bs : List ℕ) (v y : ℕ) → away (take v bs) y ⊗ away (drop (suc v) bs) y ≡ away (others bs v) y
away_others bs v y = sym (ap (λ (l : List ℕ). away l y) (others_split bs v) ∙ away-append (take v bs) (drop (suc v) bs) y)

-- the points twice in a row: after number q come the others, those after it and then those before it

around : (bs : List ℕ) (q : ℕ) → q < length bs → take (length bs - 1) (drop (suc q) (bs ++ bs)) ≡ drop (suc q) bs ++ take q bs
around bs q h =
    ap (take (length bs - 1)) (drop-append-le (suc q) bs bs h)
    ∙ ap (λ (n : ℕ). take n (drop (suc q) bs ++ bs)) count ∙ take-append-add (drop (suc q) bs) bs q
  where
    count : length bs - 1 ≡ length (drop (suc q) bs) + q
    count = omega (arith, length-drop (suc q) bs)

-- the point s places on
pub around_next : (bs : List ℕ) (q s y : ℕ) → q < length bs → 1 ≤ s → s < length bs
    → away (take (s - 1) (drop (suc q) (bs ++ bs))) y ⊗ (y ⊕ get_or (bs ++ bs) (q + s) 0) ≡ away (take (s + 1 - 1) (drop (suc q) (bs ++ bs))) y
around_next bs q s y h one k =
    mul_comm _ _ ∙ ap (λ (x : ℕ). (y ⊕ x) ⊗ away (take (s - 1) rest) y) (sym at) ∙ away_next rest (s - 1) y long
    ∙ ap (λ (n : ℕ). away (take n rest) y) same
  where
    same : s - 1 + 1 ≡ s + 1 - 1
    same = omega arith

    rest : List ℕ
    rest = drop (suc q) (bs ++ bs)

    at : get_or rest (s - 1) 0 ≡ get_or (bs ++ bs) (q + s) 0
    at =
        let place : suc q + (s - 1) ≡ q + s = omega arith in
        get_or-drop (suc q) (bs ++ bs) (s - 1) 0 ∙ ap (λ (n : ℕ). get_or (bs ++ bs) n 0) place

    long : s - 1 < length rest
    long = omega (arith, length-drop (suc q) (bs ++ bs), length-append bs bs)

pub around_all : (bs : List ℕ) (q y : ℕ) → q < length bs → away (take (length bs - 1) (drop (suc q) (bs ++ bs))) y ≡ away (others bs q) y
around_all bs q y h =
    ap (λ (l : List ℕ). away l y) (around bs q h) ∙ away-append (drop (suc q) bs) (take q bs) y ∙ mul_comm _ _ ∙ away_others bs q y

-- ---- Lagrange's polynomial

-- the constant times what y is apart from the points before and after
pub lagrange_made : (bs : List ℕ) (v y c : ℕ) → c ≡ inverse_of (away (others bs v) (get_or bs v 0))
    → c ⊗ (away (take v bs) y ⊗ away (drop (suc v) bs) y) ≡ lagrange bs v y
unfolding lagrange
lagrange_made bs v y c e =
    ap (λ (x : ℕ). c ⊗ x) (away_others bs v y) ∙ ap (λ (x : ℕ). x ⊗ away (others bs v) y) e
