-- Reading and writing a number are inverse, group by group: a byte below 128 ends both, and any other stands before a number that is not zero.
use Prim.Native.Nat.{ℕ, zero, suc, ◌+◌, ◌-◌, ◌*◌, ◌/◌, ◌%◌, ◌^◌, ◌≤◌, ◌<◌}
use mathlib.Core.Path.{◌≡◌, refl, sym, ap, subst, ◌∙◌}
use mathlib.Core.Bool.{Bool, true, false, cond}
use mathlib.Core.List.{List, [], ◌∷◌, ◌++◌}
use mathlib.Core.Logic.{◌⊎◌, inl, inr}
use native.Mathlib.Nat.{pow-suc, one-le-pow}
use native.Mathlib.Numerals.{add-one}
use native.Mathlib.Omega.{arith}
use lib.Dec.{leb, lit<}
use lib.ListN.{length, get_or, drop, set, drop_of_length-le}
use lib.Seq.{drop-cons, sets}
use borrow.Author.Tests.{lt-ltb, le-ltb, leb-true}
use Rattle.field.specs.Bytes.{Bytes}
use Rattle.field.proofs.Cases.{below_or_from}
use Rattle.number.specs.Number.{Standing, Value, Cut, Malformed}
use Rattle.number.specs.Number.{groups, written, onto, groups_at, limited, number_at, number_refusal, value_of, next_of}
use Rattle.number.proofs.Groups.{View, view, ended, last, more, onto_value, onto_cut, onto_more, at_last, at_more, at_end, limited_within}

-- ---- the groups of a number

pub groups_last : (m n : ℕ) → n < 128 → groups (suc m) n ≡ n ∷ []
unfolding groups
groups_last m n h = rw (lt-ltb n 128 h)

pub groups_next : (m n : ℕ) → 128 ≤ n → groups (suc m) n ≡ (128 + n % 128) ∷ groups m (n / 128)
unfolding groups
groups_next m n h = rw (le-ltb n 128 h)

-- a byte with the top bit, and the number after it
groups_onto : (m b u : ℕ) → 128 ≤ b → b < 256 → (u ≡ 0 → ⊥) → groups (suc m) (b - 128 + 128 * u) ≡ b ∷ groups m u
groups_onto m b zero h l z = absurd (z refl)
groups_onto m b (suc u) h l z =
    let p : (b - 128 + 128 * suc u) / 128 ≡ suc u = omega arith in
    let q : 128 + (b - 128 + 128 * suc u) % 128 ≡ b = omega arith in
    groups_next m (b - 128 + 128 * suc u) (omega arith) ∙ rw (p, q)

-- one group more is no other number, where there are enough
pub groups_enough : (m n : ℕ) → n < 128 ^ suc m → groups (suc (suc m)) n ≡ groups (suc m) n
groups_enough zero n h = groups_last 1 n h ∙ sym (groups_last 0 n h)
groups_enough (suc m) n h = go (below_or_from n 128) (groups_enough m (n / 128) (omega (arith, pow-suc 128 (suc m))))
  where
    go : (n < 128) ⊎ (128 ≤ n) → groups (suc (suc m)) (n / 128) ≡ groups (suc m) (n / 128) → groups (suc (suc (suc m))) n ≡ groups (suc (suc m)) n
    go (inl l) ih = groups_last (suc (suc m)) n l ∙ sym (groups_last (suc m) n l)
    go (inr g) ih = groups_next (suc (suc m)) n g ∙ ap (λ (xs : List ℕ). (128 + n % 128) ∷ xs) ih ∙ sym (groups_next (suc m) n g)

-- the bytes of a number, first byte and rest
pub written_last : (v : ℕ) → v < 128 → written v ≡ v ∷ []
written_last v h = groups_last 4 v h

pub written_next : (v : ℕ) → 128 ≤ v → v ≤ 4294967295 → written v ≡ (128 + v % 128) ∷ written (v / 128)
written_next v h l = groups_next 4 v h ∙ ap (λ (xs : List ℕ). (128 + v % 128) ∷ xs) (sym (groups_enough 3 (v / 128) (omega arith)))

-- a number is stored byte by byte
pub stored : (out : List ℕ) (i v : ℕ) → 128 ≤ v → v ≤ 4294967295 → sets (set out i (128 + v % 128)) (i + 1) (written (v / 128)) ≡ sets out i (written v)
stored out i v h l =
    ap (λ (n : ℕ). sets (set out i (128 + v % 128)) n (written (v / 128))) (add-one i) ∙ ap (sets out i) (sym (written_next v h l))

-- at most five of them
pub groups_most : (m n : ℕ) → length (groups m n) ≤ m
unfolding groups
groups_most zero n = omega arith
groups_most (suc m) n = go (below_or_from n 128) (groups_most m (n / 128))
  where
    go : (n < 128) ⊎ (128 ≤ n) → length (groups m (n / 128)) ≤ m → length (groups (suc m) n) ≤ suc m
    go (inl l) ih = omega (arith, ap length (groups_last m n l))
    go (inr g) ih = omega (arith, ap length (groups_next m n g))

-- ---- what stands at a place, and what is left

pub drop_head : (s : List ℕ) (at x : ℕ) (xs : List ℕ) → drop at s ≡ x ∷ xs → (at < length s) × (get_or s at 0 ≡ x) × (drop (at + 1) s ≡ xs)
drop_head [] zero x xs e = absurd (let z : ◌≡◌ {A = ℕ} 0 1 = cc in omega arith)
drop_head [] (suc at) x xs e = absurd (let z : ◌≡◌ {A = ℕ} 0 1 = cc in omega arith)
drop_head (y ∷ s) zero x xs e = (omega arith, cc, cc)
drop_head (y ∷ s) (suc at) x xs e =
    let r = drop_head s at x xs e in
    let p : suc at + 1 ≡ suc (at + 1) = omega arith in
    (omega (arith, r.0), r.1, ap (λ (i : ℕ). drop i (y ∷ s)) p ∙ r.2)

pub drop_none : (s : List ℕ) (at : ℕ) → drop at s ≡ [] → length s ≤ at
drop_none [] at e = omega arith
drop_none (y ∷ s) zero e = absurd (let z : ◌≡◌ {A = ℕ} 0 1 = cc in omega arith)
drop_none (y ∷ s) (suc at) e = omega (arith, drop_none s at e)

pub drop_next : (s : List ℕ) (at : ℕ) → at < length s → drop at s ≡ get_or s at 0 ∷ drop (at + 1) s
drop_next s at h = drop-cons s at 0 h ∙ rw add-one

-- ---- what was written is read

-- the last group
read_last : (m : ℕ) (s q : List ℕ) (at v : ℕ) → v < 128 → drop at s ≡ groups (suc m) v ++ q → groups_at (suc m) s at ≡ Value v (at + length (groups (suc m) v))
read_last m s q at v h e =
    let g = groups_last m v h in
    let d = drop_head s at v q (e ∙ ap (λ (xs : List ℕ). xs ++ q) g) in
    sym (at_last (suc m) s at (λ z. omega arith) d.0 (omega (arith, d.1)))
    ∙ ap (λ (x : ℕ). Value x (at + 1)) d.1 ∙ ap (λ (xs : List ℕ). Value v (at + length xs)) (sym g)

-- a group before others
read_next : (m : ℕ) (s q : List ℕ) (at v : ℕ) → 128 ≤ v → drop at s ≡ groups (suc m) v ++ q
    → (drop (at + 1) s ≡ groups m (v / 128) ++ q → groups_at m s (at + 1) ≡ Value (v / 128) (at + 1 + length (groups m (v / 128))))
    → groups_at (suc m) s at ≡ Value v (at + length (groups (suc m) v))
read_next m s q at v h e ih =
    let g = groups_next m v h in
    let d = drop_head s at (128 + v % 128) (groups m (v / 128) ++ q) (e ∙ ap (λ (xs : List ℕ). xs ++ q) g) in
    let p : suc m - 1 ≡ m = omega arith in
    let w : get_or s at 0 - 128 + 128 * (v / 128) ≡ v = omega (arith, d.1) in
    let n : at + 1 + length (groups m (v / 128)) ≡ at + suc (length (groups m (v / 128))) = omega arith in
    sym (at_more (suc m) s at (λ z. omega arith) d.0 (omega (arith, d.1)))
    ∙ ap (λ (i : ℕ). onto (get_or s at 0 - 128) (groups_at i s (at + 1))) p
    ∙ sym (onto_more (get_or s at 0 - 128) (v / 128) (at + 1 + length (groups m (v / 128))) (groups_at m s (at + 1)) (sym (ih d.2)) (λ z. omega arith))
    ∙ ap (λ (x : ℕ). Value x (at + 1 + length (groups m (v / 128)))) w
    ∙ ap (λ (x : ℕ). Value v x) n
    ∙ ap (λ (xs : List ℕ). Value v (at + length xs)) (sym g)

groups_read : (m : ℕ) (s q : List ℕ) (at v : ℕ) → v < 128 ^ suc m → drop at s ≡ groups (suc m) v ++ q
    → groups_at (suc m) s at ≡ Value v (at + length (groups (suc m) v))
groups_read zero s q at v h e = read_last zero s q at v h e
groups_read (suc m) s q at v h e =
    go (below_or_from v 128) (groups_read m s q (at + 1) (v / 128) (omega (arith, pow-suc 128 (suc m))))
  where
    go : (v < 128) ⊎ (128 ≤ v)
        → (drop (at + 1) s ≡ groups (suc m) (v / 128) ++ q → groups_at (suc m) s (at + 1) ≡ Value (v / 128) (at + 1 + length (groups (suc m) (v / 128))))
        → groups_at (suc (suc m)) s at ≡ Value v (at + length (groups (suc (suc m)) v))
    go (inl l) ih = read_last (suc m) s q at v l e
    go (inr g) ih = read_next (suc m) s q at v g e ih

-- reading what was written gives the number and the place after it
pub read_written : (s q : List ℕ) (at v : ℕ) → v ≤ 4294967295 → drop at s ≡ written v ++ q → number_at s at ≡ Value v (at + length (written v))
read_written s q at v h e =
    sym (limited_within v (at + length (written v)) (groups_at 5 s at) (sym (groups_read 4 s q at v (omega arith) e)) h)

-- ---- what is read was written

groups_only : (m : ℕ) (s : List ℕ) (at v next : ℕ) → Bytes s → groups_at m s at ≡ Value v next
    → (next ≡ at + length (groups m v)) × (drop at s ≡ groups m v ++ drop next s)
unfolding groups_at
groups_only zero s at v next h e = absurd (let z : ◌≡◌ {A = ℕ} 0 1 = cc in omega arith)
groups_only (suc m) s at v next h e = go (view m s at) (λ u. groups_only m s (at + 1) u next h)
  where
    go : View m s at → ((u : ℕ) → groups_at m s (at + 1) ≡ Value u next → (next ≡ at + 1 + length (groups m u)) × (drop (at + 1) s ≡ groups m u ++ drop next s))
        → (next ≡ at + length (groups (suc m) v)) × (drop at s ≡ groups (suc m) v ++ drop next s)
    go (ended l f) ih = absurd (let z : ◌≡◌ {A = ℕ} 0 1 = cc in omega arith)
    go (last l b f) ih =
        let p : get_or s at 0 ≡ v = cc in
        let n : at + 1 ≡ next = cc in
        let g = groups_last m v (omega arith) in (
          sym n ∙ ap (λ (xs : List ℕ). at + length xs) (sym g),
          drop_next s at l ∙ ap (λ (x : ℕ). x ∷ drop (at + 1) s) p ∙ ap (λ (i : ℕ). v ∷ drop i s) n ∙ ap (λ (xs : List ℕ). xs ++ drop next s) (sym g),
        )
    go (more l b f) ih =
        let r = onto_value (get_or s at 0 - 128) v next (groups_at m s (at + 1)) (sym f ∙ e) in
        let i = ih r.0 r.1 in
        let g : groups (suc m) v ≡ get_or s at 0 ∷ groups m r.0 = ap (groups (suc m)) r.3 ∙ groups_onto m (get_or s at 0) r.0 b (h at) r.2 in
        let n : at + 1 + length (groups m r.0) ≡ at + suc (length (groups m r.0)) = omega arith in (
          i.0 ∙ n ∙ ap (λ (xs : List ℕ). at + length xs) (sym g),
          drop_next s at l ∙ ap (λ (xs : List ℕ). get_or s at 0 ∷ xs) i.1 ∙ ap (λ (xs : List ℕ). xs ++ drop next s) (sym g),
        )

pub limited_value : (g : Standing) (v next : ℕ) → limited g ≡ Value v next → (g ≡ Value v next) × (v ≤ 4294967295)
limited_value (Value u n) v next e = go (leb u 4294967295) refl e
  where
    go : (b : Bool) → leb u 4294967295 ≡ b → cond b (Value u n) Malformed ≡ Value v next → (Value u n ≡ Value v next) × (v ≤ 4294967295)
    go true p f = let z : u ≡ v = cc in (f, subst (λ (x : ℕ). x ≤ 4294967295) z (leb-true u 4294967295 p))
    go false p f = absurd (let z : ◌≡◌ {A = ℕ} 0 1 = cc in omega arith)
limited_value Cut v next e = absurd (let z : ◌≡◌ {A = ℕ} 0 1 = cc in omega arith)
limited_value Malformed v next e = absurd (let z : ◌≡◌ {A = ℕ} 0 1 = cc in omega arith)

limited_cut : (g : Standing) → limited g ≡ Cut → g ≡ Cut
limited_cut (Value u n) e = go (leb u 4294967295) e
  where
    go : (b : Bool) → cond b (Value u n) Malformed ≡ Cut → Value u n ≡ Cut
    go true f = f
    go false f = absurd (let z : ◌≡◌ {A = ℕ} 0 1 = cc in omega arith)
limited_cut Cut e = refl
limited_cut Malformed e = e

-- what reads as a number is exactly its written bytes, and the place after it is past them
pub only_written : (s : List ℕ) (at v next : ℕ) → Bytes s → number_at s at ≡ Value v next
    → (v ≤ 4294967295) × (next ≡ at + length (written v)) × (drop at s ≡ written v ++ drop next s)
only_written s at v next h e =
    let l = limited_value (groups_at 5 s at) v next e in
    let g = groups_only 5 s at v next h l.0 in
    (l.1, g.0, g.1)

-- ---- the answer by document 01's number and values

-- the bytes of the number v stand at the place, and `next` is past them
pub record Stands (s : List ℕ) (at v next : ℕ) : Type 0 where
  pub most : v ≤ 4294967295
  pub past : next ≡ at + length (written v)
  pub bytes : drop at s ≡ written v ++ drop next s

-- 0, the number that stands there and the place after it; or 9 where the bytes of no number stand
pub number_read : (s : List ℕ) (at : ℕ) → Bytes s
    → ((number_refusal (number_at s at) ≡ 0) × Stands s at (value_of (number_at s at)) (next_of (number_at s at)))
    ⊎ ((number_refusal (number_at s at) ≡ 9) × ((v next : ℕ) → Stands s at v next → ⊥))
number_read s at h = go (number_at s at) refl
  where
    other : (g : Standing) → number_at s at ≡ g → number_refusal g ≡ 9 → (v next : ℕ) → Stands s at v next → ⊥
    other g e n v next w =
        let z : number_refusal g ≡ 0 = ap number_refusal (sym e ∙ read_written s (drop next s) at v w.most w.bytes) in omega arith

    go : (g : Standing) → number_at s at ≡ g
        → ((number_refusal g ≡ 0) × Stands s at (value_of g) (next_of g)) ⊎ ((number_refusal g ≡ 9) × ((v next : ℕ) → Stands s at v next → ⊥))
    go (Value v next) e = let w = only_written s at v next h e in inl (refl, record { most = w.0; past = w.1; bytes = w.2 })
    go Cut e = inr (refl, other Cut e refl)
    go Malformed e = inr (refl, other Malformed e refl)

-- ---- what is cut

-- the bytes left, with one last group of 1, are a number
Completed : ℕ → List ℕ → ℕ → Type 0
Completed m s at = (v : ℕ) × (0 < v) × (v < 2 * 128 ^ m) × (groups (suc m) v ≡ drop at s ++ (1 ∷ []))

completed_end : (m : ℕ) (s : List ℕ) (at : ℕ) → length s ≤ at → Completed m s at
unfolding Completed
completed_end m s at l =
    (1, lit< tt, omega (arith, one-le-pow m 128 (lit< tt)), groups_last m 1 (lit< tt) ∙ ap (λ (xs : List ℕ). xs ++ (1 ∷ [])) (sym (drop_of_length-le s l)))

completed_more : (m : ℕ) (s : List ℕ) (at : ℕ) → Bytes s → at < length s → 128 ≤ get_or s at 0 → Completed m s (at + 1) → Completed (suc m) s at
unfolding Completed
completed_more m s at h l b c = (
  get_or s at 0 - 128 + 128 * c.0,
  omega (arith, c.1),
  omega (arith, c.2, h at, pow-suc 128 m),
  groups_onto (suc m) (get_or s at 0) c.0 b (h at) (λ z. omega (arith, c.1)) ∙ ap (λ (xs : List ℕ). get_or s at 0 ∷ xs) c.3
      ∙ ap (λ (xs : List ℕ). xs ++ (1 ∷ [])) (sym (drop_next s at l)),
)

no_groups : (s : List ℕ) (at : ℕ) → groups_at 0 s at ≡ Cut → ⊥
unfolding groups_at
no_groups s at e = let z : ◌≡◌ {A = ℕ} 0 1 = cc in omega arith

groups_cut : (m : ℕ) (s : List ℕ) (at : ℕ) → Bytes s → groups_at (suc m) s at ≡ Cut → Completed m s at
groups_cut zero s at h e = go (view 0 s at)
  where
    go : View 0 s at → Completed 0 s at
    go (ended l f) = completed_end 0 s at l
    go (last l b f) = absurd (let z : ◌≡◌ {A = ℕ} 0 1 = cc in omega arith)
    go (more l b f) = absurd (no_groups s (at + 1) (onto_cut (get_or s at 0 - 128) (groups_at 0 s (at + 1)) (sym f ∙ e)))
groups_cut (suc m) s at h e = go (view (suc m) s at) (groups_cut m s (at + 1) h)
  where
    go : View (suc m) s at → (groups_at (suc m) s (at + 1) ≡ Cut → Completed m s (at + 1)) → Completed (suc m) s at
    go (ended l f) ih = completed_end (suc m) s at l
    go (last l b f) ih = absurd (let z : ◌≡◌ {A = ℕ} 0 1 = cc in omega arith)
    go (more l b f) ih = completed_more m s at h l b (ih (onto_cut (get_or s at 0 - 128) (groups_at (suc m) s (at + 1)) (sym f ∙ e)))

-- what is cut is a proper beginning of some number's bytes
pub cut_begins : (s : List ℕ) (at : ℕ) → Bytes s → number_at s at ≡ Cut
    → (v : ℕ) × (b : ℕ) × (rest : List ℕ) × (v ≤ 4294967295) × (written v ≡ drop at s ++ (b ∷ rest))
unfolding Completed
cut_begins s at h e =
    let c = groups_cut 4 s at h (limited_cut (groups_at 5 s at) e) in
    (c.0, 1, [], omega (arith, c.2), c.3)

-- one byte is no longer list
more_than_one : {v x : ℕ} (xs : List ℕ) (b : ℕ) (rest : List ℕ) → v ∷ [] ≡ x ∷ (xs ++ (b ∷ rest)) → ⊥
more_than_one [] b rest e = let z : ◌≡◌ {A = ℕ} 0 1 = cc in omega arith
more_than_one (y ∷ xs) b rest e = let z : ◌≡◌ {A = ℕ} 0 1 = cc in omega arith

begin_next : (m : ℕ) (s : List ℕ) (at v b : ℕ) (rest : List ℕ) (x : ℕ) (xs : List ℕ) → 128 ≤ v → (128 + v % 128) ∷ groups m (v / 128) ≡ x ∷ (xs ++ (b ∷ rest))
    → drop at s ≡ x ∷ xs
    → (groups m (v / 128) ≡ xs ++ (b ∷ rest) → drop (at + 1) s ≡ xs → groups_at m s (at + 1) ≡ Cut) → groups_at (suc m) s at ≡ Cut
begin_next m s at v b rest x xs g e d ih =
    let h = drop_head s at x xs d in
    let y : 128 + v % 128 ≡ x = cc in
    let ys : groups m (v / 128) ≡ xs ++ (b ∷ rest) = cc in
    let p : suc m - 1 ≡ m = omega arith in
    sym (at_more (suc m) s at (λ z. omega arith) h.0 (omega (arith, h.1)))
    ∙ ap (λ (i : ℕ). onto (get_or s at 0 - 128) (groups_at i s (at + 1))) p
    ∙ ap (onto (get_or s at 0 - 128)) (ih ys h.2)

groups_begin : (m : ℕ) (s : List ℕ) (at v b : ℕ) (rest xs : List ℕ) → groups m v ≡ xs ++ (b ∷ rest) → drop at s ≡ xs → groups_at m s at ≡ Cut
unfolding groups
groups_begin zero s at v b rest [] e d = absurd (let z : ◌≡◌ {A = ℕ} 0 1 = cc in omega arith)
groups_begin zero s at v b rest (x ∷ xs) e d = absurd (let z : ◌≡◌ {A = ℕ} 0 1 = cc in omega arith)
groups_begin (suc m) s at v b rest [] e d = sym (at_end (suc m) s at (λ z. omega arith) (drop_none s at d))
groups_begin (suc m) s at v b rest (x ∷ xs) e d = go (below_or_from v 128) (groups_begin m s (at + 1) (v / 128) b rest xs)
  where
    go : (v < 128) ⊎ (128 ≤ v) → (groups m (v / 128) ≡ xs ++ (b ∷ rest) → drop (at + 1) s ≡ xs → groups_at m s (at + 1) ≡ Cut) → groups_at (suc m) s at ≡ Cut
    go (inl l) ih = absurd (more_than_one xs b rest (sym (groups_last m v l) ∙ e))
    go (inr g) ih = begin_next m s at v b rest x xs g (sym (groups_next m v g) ∙ e) d ih

-- and a proper beginning of a number's bytes is cut
pub begins_cut : (s : List ℕ) (at v b : ℕ) (rest : List ℕ) → written v ≡ drop at s ++ (b ∷ rest) → number_at s at ≡ Cut
begins_cut s at v b rest e = ap limited (groups_begin 5 s at v b rest (drop at s) e refl)
