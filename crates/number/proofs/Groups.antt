-- What the reader of a number does at one byte: `groups_at` unfolded, by the tests on the byte and on the groups allowed.
use Prim.Native.Nat.{ℕ, zero, suc, ◌+◌, ◌-◌, ◌*◌, ◌^◌, ◌≤◌, ◌<◌}
use mathlib.Core.Path.{◌≡◌, refl, sym, ap, ◌∙◌}
use mathlib.Core.Bool.{Bool, true, false, cond}
use mathlib.Core.List.{List}
use mathlib.Core.Logic.{⊎_elim}
use native.Mathlib.Nat.{pow-le-pow_right, pow-suc, one-le-pow}
use native.Mathlib.Omega.{arith}
use lib.Dec.{eqb, lit<}
use lib.ListN.{length, get_or}
use borrow.Author.Tests.{le-leb, lt-leb, lt-ltb, le-ltb, eq-eqb, ne_eqb, eqb-false}
use Rattle.field.specs.Bytes.{Bytes}
use Rattle.field.proofs.Cases.{below_or_from}
use Rattle.number.specs.Number.{Standing, Value, Cut, Malformed}
use Rattle.number.specs.Number.{onto, groups_at, limited}

pub at_none : (m : ℕ) (s : List ℕ) (at : ℕ) → m ≡ 0 → Malformed ≡ groups_at m s at
unfolding groups_at
at_none m s at e = rw e

pub at_end : (m : ℕ) (s : List ℕ) (at : ℕ) → (m ≡ 0 → ⊥) → length s ≤ at → Cut ≡ groups_at m s at
unfolding groups_at
at_end zero s at h e = absurd (h refl)
at_end (suc m) s at h e = rw (le-ltb at (length s) e)

pub at_last : (m : ℕ) (s : List ℕ) (at : ℕ) → (m ≡ 0 → ⊥) → at < length s → get_or s at 0 < 128 → Value (get_or s at 0) (at + 1) ≡ groups_at m s at
unfolding groups_at
at_last zero s at h e b = absurd (h refl)
at_last (suc m) s at h e b = rw (lt-ltb at (length s) e, lt-ltb (get_or s at 0) 128 b)

pub at_more : (m : ℕ) (s : List ℕ) (at : ℕ) → (m ≡ 0 → ⊥) → at < length s → 128 ≤ get_or s at 0
    → onto (get_or s at 0 - 128) (groups_at (m - 1) s (at + 1)) ≡ groups_at m s at
unfolding groups_at
at_more zero s at h e b = absurd (h refl)
at_more (suc m) s at h e b =
    let p : suc m - 1 ≡ m = omega arith in
    rw (p, lt-ltb at (length s) e, le-ltb (get_or s at 0) 128 b)

-- one more group, of a number and of none
pub onto-zero : (d v next : ℕ) (g : Standing) → Value v next ≡ g → v ≡ 0 → Malformed ≡ onto d g
onto-zero d v next g e z = rw (← e, eq-eqb v 0 z)

pub onto_more : (d v next : ℕ) (g : Standing) → Value v next ≡ g → (v ≡ 0 → ⊥) → Value (d + 128 * v) next ≡ onto d g
onto_more d v next g e z = rw (← e, ne_eqb v 0 z)

-- a group before a number makes a number only where that one is not zero
pub onto_value : (d v next : ℕ) (g : Standing) → onto d g ≡ Value v next → (u : ℕ) × (g ≡ Value u next) × (u ≡ 0 → ⊥) × (v ≡ d + 128 * u)
onto_value d v next (Value u n) e = go (eqb u 0) refl e
  where
    go : (b : Bool) → eqb u 0 ≡ b → cond b Malformed (Value (d + 128 * u) n) ≡ Value v next
        → (w : ℕ) × (Value u n ≡ Value w next) × (w ≡ 0 → ⊥) × (v ≡ d + 128 * w)
    go true p f = absurd (let z : ◌≡◌ {A = ℕ} 0 1 = cc in omega arith)
    go false p f = (u, cc, eqb-false u 0 p, cc)
onto_value d v next Cut e = absurd (let z : ◌≡◌ {A = ℕ} 0 1 = cc in omega arith)
onto_value d v next Malformed e = absurd (let z : ◌≡◌ {A = ℕ} 0 1 = cc in omega arith)

pub onto_cut : (d : ℕ) (g : Standing) → onto d g ≡ Cut → g ≡ Cut
onto_cut d (Value u n) e = go (eqb u 0) e
  where
    go : (b : Bool) → cond b Malformed (Value (d + 128 * u) n) ≡ Cut → Value u n ≡ Cut
    go true f = absurd (let z : ◌≡◌ {A = ℕ} 0 1 = cc in omega arith)
    go false f = absurd (let z : ◌≡◌ {A = ℕ} 0 1 = cc in omega arith)
onto_cut d Cut e = refl
onto_cut d Malformed e = e

-- what stands at a place, by the byte there
pub data View (m : ℕ) (s : List ℕ) (at : ℕ) : Type 0 where
  ended : length s ≤ at → groups_at (suc m) s at ≡ Cut → View m s at
  last : at < length s → get_or s at 0 < 128 → groups_at (suc m) s at ≡ Value (get_or s at 0) (at + 1) → View m s at
  more : at < length s → 128 ≤ get_or s at 0 → groups_at (suc m) s at ≡ onto (get_or s at 0 - 128) (groups_at m s (at + 1)) → View m s at

pub view : (m : ℕ) (s : List ℕ) (at : ℕ) → View m s at
view m s at =
    ⊎_elim (λ l. ⊎_elim (λ b. last l b (sym (at_last (suc m) s at (λ e. omega arith) l b))) (λ b. more l b (sym (at_more_suc l b)))
    (below_or_from (get_or s at 0) 128))
    (λ h. ended h (sym (at_end (suc m) s at (λ e. omega arith) h))) (below_or_from at (length s))
  where
    at_more_suc : at < length s → 128 ≤ get_or s at 0 → onto (get_or s at 0 - 128) (groups_at m s (at + 1)) ≡ groups_at (suc m) s at
    at_more_suc l b =
        let p : suc m - 1 ≡ m = omega arith in
        ap (λ (i : ℕ). onto (get_or s at 0 - 128) (groups_at i s (at + 1))) (sym p) ∙ at_more (suc m) s at (λ e. omega arith) l b

-- m groups hold 7 * m bits
pub groups_small : (m : ℕ) (s : List ℕ) (at v next : ℕ) → Bytes s → groups_at m s at ≡ Value v next → v < 128 ^ m
unfolding groups_at
groups_small zero s at v next h e = absurd (let z : ◌≡◌ {A = ℕ} 0 1 = cc in omega arith)
groups_small (suc m) s at v next h e = go (view m s at) (λ u. groups_small m s (at + 1) u next h)
  where
    go : View m s at → ((u : ℕ) → groups_at m s (at + 1) ≡ Value u next → u < 128 ^ m) → v < 128 ^ suc m
    go (ended l f) ih = absurd (let z : ◌≡◌ {A = ℕ} 0 1 = cc in omega arith)
    go (last l b f) ih = let z : v ≡ get_or s at 0 = cc in omega (arith, pow-suc 128 m, one-le-pow m 128 (lit< tt))
    go (more l b f) ih =
        let r = onto_value (get_or s at 0 - 128) v next (groups_at m s (at + 1)) (sym f ∙ e) in
        omega (arith, pow-suc 128 m, ih r.0 r.1, r.3, h at)

-- five groups at most, one of which was taken: what is left is below 2^28
pub left_small : (m : ℕ) (s : List ℕ) (at v next : ℕ) → Bytes s → (m ≡ 0 → ⊥) → m ≤ 5 → groups_at (m - 1) s (at + 1) ≡ Value v next → v < 268435456
left_small m s at v next h z l e =
    omega (arith, groups_small (m - 1) s (at + 1) v next h e, pow-le-pow_right {n = 128} (lit< tt) {i = m - 1} {j = 4} (omega arith))

-- the largest number
pub limited_above : (v next : ℕ) (g : Standing) → Value v next ≡ g → 4294967295 < v → Malformed ≡ limited g
limited_above v next g e h = rw (← e, lt-leb v 4294967295 h)

pub limited_within : (v next : ℕ) (g : Standing) → Value v next ≡ g → v ≤ 4294967295 → Value v next ≡ limited g
limited_within v next g e h = rw (← e, le-leb v 4294967295 h)
