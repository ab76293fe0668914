-- What an accepted record says of itself: each refusal in turn is 0, so each number is one, the positions ascend, and the columns fill the rest.
use Prim.Native.Nat.{ℕ, zero, suc, ◌+◌, ◌-◌, ◌*◌, ◌≤◌, ◌<◌}
use mathlib.Core.Path.{◌≡◌, refl, sym, ap, ap₂, subst, ◌∙◌}
use mathlib.Core.Bool.{Bool, true, false, cond, and-eq-true_iff}
use mathlib.Core.List.{List, [], ◌∷◌}
use mathlib.Core.Logic.{◌⊎◌, inl, inr}
use native.Mathlib.Nat.{eq-or-lt_of_le}
use native.Mathlib.Numerals.{add-one}
use native.Mathlib.Omega.{arith}
use lib.Dec.{leb, ltb}
use lib.ListN.{length, get_or}
use borrow.Author.Tests.{leb-true, ltb-true, ltb-false}
use Rattle.stripe.specs.Shape.{columns, stripe_length}
use Rattle.stripe.specs.Stripe.{among, Ascending}
use Rattle.stripe.proofs.Allowed.{Allowed}
use Rattle.stripe.proofs.Lost.{not_among, among_other, among_first}
use Rattle.number.specs.Number.{Standing, Value, Cut, Malformed, number_at, number_refusal, groups_at, value_of, next_of}
use Rattle.record.specs.Layout.{kept}
use Rattle.record.specs.Reading.{unless, fourth_number, count_number, shape_read, count_of, lost_listed, columns_start, head_refusal, position_refusal}
use Rattle.record.specs.Reading.{positions_refusal, positions_at, after_positions, columns_refusal, rest_refusal, content_refusal}
use Rattle.number.proofs.Groups.{View, view, ended, last, more, onto_value}
use Rattle.number.proofs.Written.{limited_value}
use Rattle.record.proofs.Refusals.{first_zero, head_described, described}

-- ---- a number that was read

pub number_is : (g : Standing) → number_refusal g ≡ 0 → g ≡ Value (value_of g) (next_of g)
number_is (Value v next) e = refl
number_is Cut e = absurd (omega arith)
number_is Malformed e = absurd (omega arith)

groups_within : (m : ℕ) (s : List ℕ) (at v next : ℕ) → groups_at m s at ≡ Value v next → next ≤ length s
unfolding groups_at
groups_within zero s at v next e = absurd (let z : ◌≡◌ {A = ℕ} 0 1 = cc in omega arith)
groups_within (suc m) s at v next e = go (view m s at) (λ u. groups_within m s (at + 1) u next)
  where
    go : View m s at → ((u : ℕ) → groups_at m s (at + 1) ≡ Value u next → next ≤ length s) → next ≤ length s
    go (ended l f) ih = absurd (let z : ◌≡◌ {A = ℕ} 0 1 = cc in omega arith)
    go (last l b f) ih = let z : at + 1 ≡ next = cc in omega arith
    go (more l b f) ih = let r = onto_value (get_or s at 0 - 128) v next (groups_at m s (at + 1)) (sym f ∙ e) in ih r.0 r.1

pub next_within : (s : List ℕ) (at : ℕ) → number_refusal (number_at s at) ≡ 0 → next_of (number_at s at) ≤ length s
next_within s at e =
    let g = limited_value (groups_at 5 s at) (value_of (number_at s at)) (next_of (number_at s at)) (number_is (number_at s at) e) in
    groups_within 5 s at (value_of (number_at s at)) (next_of (number_at s at)) g.0

-- ---- positions that were read

pub unless-zero : (b : Bool) (x : ℕ) → 0 < x → unless b x ≡ 0 → b ≡ true
unless-zero true x h e = refl
unless-zero false x h e = absurd (omega arith)

pub position_zero : (g : Standing) (least n : ℕ) → position_refusal g least n ≡ 0 → (number_refusal g ≡ 0) × (least ≤ value_of g) × (value_of g < n)
position_zero g least n e =
    let a = first_zero _ _ e in
    let b = (and-eq-true_iff _ _).0 (unless-zero _ 6 (omega arith) (first_zero _ _ a.1).0) in
    (a.0, leb-true least (value_of g) b.0, ltb-true (value_of g) n b.1)

-- one position, and those after it
pub positions-zero : (s : List ℕ) (n m least at : ℕ) → positions_refusal s n (suc m) least at ≡ 0
    → (position_refusal (number_at s at) least n ≡ 0) × (positions_refusal s n m (value_of (number_at s at) + 1) (next_of (number_at s at)) ≡ 0)
unfolding positions_refusal
positions-zero s n m least at e = let a = first_zero _ _ e in (a.0, (first_zero _ _ a.1).0)

pub positions_ascend : (s : List ℕ) (n m least at : ℕ) → positions_refusal s n m least at ≡ 0 → Ascending least n (positions_at s m at)
unfolding positions_at Ascending
positions_ascend s n zero least at e = tt
positions_ascend s n (suc m) least at e =
    let a = positions-zero s n m least at e in
    let p = position_zero (number_at s at) least n a.0 in (
      p.1,
      p.2,
      subst (λ (x : ℕ). Ascending x n (positions_at s m (next_of (number_at s at)))) (add-one (value_of (number_at s at)))
          (positions_ascend s n m (value_of (number_at s at) + 1) (next_of (number_at s at)) a.1),
    )

pub positions_within : (s : List ℕ) (n m least at : ℕ) → positions_refusal s n m least at ≡ 0 → at ≤ length s → after_positions s m at ≤ length s
unfolding after_positions
positions_within s n zero least at e h = h
positions_within s n (suc m) least at e h =
    let a = positions-zero s n m least at e in
    let p = position_zero (number_at s at) least n a.0 in
    positions_within s n m (value_of (number_at s at) + 1) (next_of (number_at s at)) a.1 (next_within s at p.0)

-- ---- ascending positions

pub ascending_below : (a n : ℕ) (es : List ℕ) → Ascending a n es → (i : ℕ) → (get_or es i 0 < n) ⊎ (get_or es i 0 ≡ 0)
unfolding Ascending
ascending_below a n [] h i = inr refl
ascending_below a n (e ∷ es) h zero = inl h.1
ascending_below a n (e ∷ es) h (suc i) = ascending_below (suc e) n es h.2 i

kept_past : (e : ℕ) (es : List ℕ) (c m : ℕ) → e < c → kept (e ∷ es) c m ≡ kept es c m
unfolding kept
kept_past e es c zero h = refl
kept_past e es c (suc m) h =
    ap₂ (λ (b : Bool) (k : ℕ). cond b 0 1 + k) (among_other c e es (λ q. omega arith)) (kept_past e es (suc c) m (omega arith))

-- the columns that survive, and those that are lost, are all of them
pub kept-one : (es : List ℕ) (c m : ℕ) (b : Bool) → among c es ≡ b → kept es c (suc m) ≡ cond b 0 1 + kept es (suc c) m
unfolding kept
kept-one es c m b e = ap (λ (x : Bool). cond x 0 1 + kept es (suc c) m) e

pub kept_lost : (n m a : ℕ) (es : List ℕ) → Ascending a n es → a + m ≡ n → kept es a m + length es ≡ m
unfolding kept Ascending
kept_lost n zero a [] h e = refl
kept_lost n zero a (x ∷ es) h e = absurd (omega (arith, h.0, h.1))
kept_lost n (suc m) a [] h e = omega (arith, kept-one [] a m false (not_among a (suc a) n [] tt (omega arith)), kept_lost n m (suc a) [] tt (omega arith))
kept_lost n (suc m) a (x ∷ es) h e = go (eq-or-lt_of_le h.0) (kept_lost n m (suc a) es) (kept_lost n m (suc a) (x ∷ es))
  where
    go : (a ≡ x) ⊎ (a < x) → (Ascending (suc a) n es → suc a + m ≡ n → kept es (suc a) m + length es ≡ m)
        → (Ascending (suc a) n (x ∷ es) → suc a + m ≡ n → kept (x ∷ es) (suc a) m + length (x ∷ es) ≡ m) → kept (x ∷ es) a (suc m) + length (x ∷ es) ≡ suc m
    go (inl q) here there =
        omega (
          arith,
          kept-one (x ∷ es) a m true (ap (λ (y : ℕ). among a (y ∷ es)) (sym q) ∙ among_first a es),
          kept_past x es (suc a) m (omega arith),
          here (subst (λ (y : ℕ). Ascending (suc y) n es) (sym q) h.2) (omega arith),
        )
    go (inr l) here there =
        omega (arith, kept-one (x ∷ es) a m false (not_among a (suc a) n (x ∷ es) (l, h.1, h.2) (omega arith)), there (l, h.1, h.2) (omega arith))

-- ---- an accepted record

pub record Accepted (s : List ℕ) : Type 0 where
  pub head_read : head_refusal s ≡ 0
  pub shape_allowed : Allowed (shape_read s)
  pub stripe_short : stripe_length (shape_read s) ≤ 65536
  pub count_read : number_refusal (count_number s) ≡ 0
  pub few : count_of s ≤ columns (shape_read s)
  pub positions_read : positions_refusal s (columns (shape_read s)) (count_of s) 0 (next_of (count_number s)) ≡ 0
  pub ascending : Ascending 0 (columns (shape_read s)) (lost_listed s)
  pub within : columns_start s ≤ length s
  pub exact : length s - columns_start s ≡ (columns (shape_read s) - count_of s) * (shape_read s).l

columns-zero : (have want : ℕ) → columns_refusal have want ≡ 0 → have ≡ want
columns-zero have want e = go (ltb have want) refl e
  where
    go : (b : Bool) → ltb have want ≡ b → cond b 9 (unless (leb have want) 10) ≡ 0 → have ≡ want
    go true p f = absurd (omega arith)
    go false p f = omega (arith, ltb-false have want p, leb-true have want (unless-zero _ 10 (omega arith) f))

pub accepted : (s : List ℕ) → content_refusal s ≡ 0 → Accepted s
unfolding content_refusal
accepted s e =
    let a = first_zero (head_refusal s) _ e in
    let r = (first_zero (rest_refusal s (shape_read s) (count_number s)) [] a.1).0 in
    let d = described (shape_read s) (head_described s a.0) in
    let m = first_zero (number_refusal (count_number s)) _ r in
    let f = first_zero _ _ m.1 in
    let p = first_zero (positions_refusal s (columns (shape_read s)) (count_of s) 0 (next_of (count_number s))) _ f.1 in
    let c = (first_zero (columns_refusal (length s - columns_start s) ((columns (shape_read s) - count_of s) * (shape_read s).l)) [] p.1).0 in
    record {
      head_read = a.0;
      shape_allowed = d.0;
      stripe_short = d.1;
      count_read = m.0;
      few = leb-true _ _ (unless-zero _ 6 (omega arith) f.0);
      positions_read = p.0;
      ascending = positions_ascend s (columns (shape_read s)) (count_of s) 0 (next_of (count_number s)) p.0;
      within = positions_within s (columns (shape_read s)) (count_of s) 0 (next_of (count_number s)) p.0 (next_within s (next_of (fourth_number s)) m.0);
      exact = columns-zero _ _ c;
    }
