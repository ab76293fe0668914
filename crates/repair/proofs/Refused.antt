-- What is refused before the stripe is looked at, one test at a time, and what is known where nothing is.
use Prim.Native.Nat.{ℕ, zero, suc, ◌+◌, ◌*◌, ◌<◌, ◌≤◌}
use mathlib.Core.Path.{◌≡◌, refl, sym, ap, ◌∙◌}
use mathlib.Core.Bool.{Bool, true, false, cond, and-eq-true_iff}
use mathlib.Core.List.{List, [], ◌∷◌}
use native.Mathlib.Nat.{le_of_suc-le-suc}
use native.Mathlib.Numerals.{add-one}
use native.Mathlib.Omega.{arith}
use lib.Dec.{eqb}
use lib.ListN.{length, get_or, drop, drop_of_length-le}
use lib.Seq.{drop-cons}
use borrow.Author.Tests.{le-leb, lt-leb, leb-true, eqb-true}
use Rattle.stripe.specs.Stripe.{Ascending, ascending}
use Rattle.stripe.proofs.Ascending.{ascending-nil, ascending_low, ascending_high, ascending_next, ascending_says}
use Rattle.stripe.proofs.Lost.{ascending_at}
use Rattle.repair.specs.Repair.{repair_fits, repair_refusal}
use Rattle.repair.specs.Windows.{Distinct}

-- ---- ascending, one position at a time

module _ (es : List ℕ) (a n v : ℕ) where
  here : v < length es → drop v es ≡ get_or es v 0 ∷ drop (v + 1) es
  here h = drop-cons es v 0 h ∙ ap (λ (m : ℕ). get_or es v 0 ∷ drop m es) (sym (add-one v))

  -- the test of one position decides, or the rest does
  pub low : v < length es → get_or es v 0 < a → ascending a n (drop v es) ≡ false
  low h l = ap (ascending a n) (here h) ∙ ascending_low a n _ _ l

  pub high : v < length es → a ≤ get_or es v 0 → n ≤ get_or es v 0 → ascending a n (drop v es) ≡ false
  high h l m = ap (ascending a n) (here h) ∙ ascending_high a n _ _ l m

  pub next : v < length es → a ≤ get_or es v 0 → get_or es v 0 < n → ascending a n (drop v es) ≡ ascending (get_or es v 0 + 1) n (drop (v + 1) es)
  next h l m =
      ap (ascending a n) (here h) ∙ ascending_next a n _ _ l m
      ∙ ap (λ (x : ℕ). ascending x n (drop (v + 1) es)) (sym (add-one (get_or es v 0)))

  pub done : length es ≤ v → ascending a n (drop v es) ≡ true
  done h = ap (ascending a n) (drop_of_length-le es h) ∙ ascending-nil a n

-- ---- the tests

module _ (k r l : ℕ) (es : List ℕ) (d : ℕ) where
  pub unfit : repair_fits k r l d ≡ false → repair_refusal k r l es d ≡ 5
  unfolding repair_refusal
  unfit h = simp h

  module _ (fits : repair_fits k r l d ≡ true) where
    pub unordered : ascending 0 (k + r) es ≡ false → repair_refusal k r l es d ≡ 6
    unfolding repair_refusal
    unordered h = simp (fits, h)

    module _ (up : ascending 0 (k + r) es ≡ true) where
      pub too_many : r < length es → repair_refusal k r l es d ≡ 7
      unfolding repair_refusal
      too_many h = simp (fits, up, lt-leb _ _ h)

      pub passes : length es ≤ r → repair_refusal k r l es d ≡ 0
      unfolding repair_refusal
      passes h = simp (fits, up, le-leb _ _ h)

-- ---- where nothing is refused

-- the numbers that fit
pub record Fits (k r l d : ℕ) : Type 0 where
  pub data_some : 1 ≤ k
  pub parity_some : 1 ≤ r
  pub parity_most : r ≤ 16
  pub points_most : k + r ≤ 255
  pub length_some : 1 ≤ l
  pub length_most : l ≤ 4096
  pub long : d ≡ (k + r) * l

pub numbers_fit_lem : (k r l d : ℕ) → repair_fits k r l d ≡ true → Fits k r l d
unfolding repair_fits
numbers_fit_lem k r l d e =
    let f = (and-eq-true_iff _ _).0 e in
    let g = (and-eq-true_iff _ _).0 f.0 in
    let h = (and-eq-true_iff _ _).0 g.0 in
    let i = (and-eq-true_iff _ _).0 h.0 in
    let j = (and-eq-true_iff _ _).0 i.0 in
    let m = (and-eq-true_iff _ _).0 j.0 in
    record {
      data_some = leb-true _ _ m.0;
      parity_some = leb-true _ _ m.1;
      parity_most = leb-true _ _ j.1;
      points_most = leb-true _ _ i.1;
      length_some = leb-true _ _ h.1;
      length_most = leb-true _ _ g.1;
      long = eqb-true _ _ f.1;
    }

pub no_fit : (k r l d : ℕ) → (Fits k r l d → ⊥) → repair_fits k r l d ≡ false
no_fit k r l d h = go (repair_fits k r l d) refl
  where
    go : (b : Bool) → repair_fits k r l d ≡ b → repair_fits k r l d ≡ false
    go true e = absurd (h (numbers_fit_lem k r l d e))
    go false e = e

-- with all other tests passed the length decides
pub length_fits : (k r l d : ℕ) → 1 ≤ k → 1 ≤ r → r ≤ 16 → k + r ≤ 255 → 1 ≤ l → l ≤ 4096 → eqb d ((k + r) * l) ≡ repair_fits k r l d
unfolding repair_fits
length_fits k r l d hk hr hm hn hl hp = simp (le-leb 1 k hk, le-leb 1 r hr, le-leb r 16 hm, le-leb (k + r) 255 hn, le-leb 1 l hl, le-leb l 4096 hp)

tests : (a b c : Bool) → ◌≡◌ {A = ℕ} (cond a (cond b (cond c 0 7) 6) 5) 0 → (a ≡ true) × ((b ≡ true) × (c ≡ true))
tests true true true e = (refl, (refl, refl))
tests true true false e = absurd (omega arith)
tests true false c e = absurd (omega arith)
tests false b c e = absurd (omega arith)

-- numbers and lost positions that nothing is refused of
pub record Lawful (k r l : ℕ) (es : List ℕ) (d : ℕ) : Type 0 where
  pub numbers : Fits k r l d
  pub ascend : Ascending 0 (k + r) es
  pub few : length es ≤ r

pub lawful : (k r l : ℕ) (es : List ℕ) (d : ℕ) → repair_refusal k r l es d ≡ 0 → Lawful k r l es d
unfolding repair_refusal
lawful k r l es d e =
    let t = tests _ _ _ e in
    record { numbers = numbers_fit_lem k r l d t.0; ascend = ascending_says 0 (k + r) es t.1.0; few = leb-true _ _ t.1.1 }

-- positions that ascend are distinct
pub ascending_distinct : (a n : ℕ) (es : List ℕ) → Ascending a n es → Distinct es
unfolding Ascending
ascending_distinct a n [] w u v l h e = absurd (omega arith)
ascending_distinct a n (x ∷ es) w u zero l h e = absurd (omega arith)
ascending_distinct a n (x ∷ es) w zero (suc v) l h e = omega (arith, (ascending_at v (suc x) n es w.2 (le_of_suc-le-suc h)).0, e)
ascending_distinct a n (x ∷ es) w (suc u) (suc v) l h e =
    ascending_distinct (suc x) n es w.2 u v (le_of_suc-le-suc l) (le_of_suc-le-suc h) e
