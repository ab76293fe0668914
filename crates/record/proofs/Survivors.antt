-- Columns one at a time: what one more column adds to the surviving ones, and to a stripe that they are put back into.
use Prim.Native.Nat.{ℕ, suc, ◌+◌, ◌-◌, ◌*◌, ◌≤◌, ◌<◌}
use mathlib.Core.Path.{◌≡◌, refl, sym, ap, ap₂, ◌∙◌}
use mathlib.Core.Bool.{Bool, true, false, cond}
use mathlib.Core.Logic.{◌⊎◌, inl, inr}
use mathlib.Core.List.{List, [], ◌∷◌, ◌++◌, append_assoc, append-nil}
use native.Mathlib.Nat.{suc-mul, zero-add, zero-mul, mul-le-mul_right}
use native.Mathlib.Numerals.{add-one}
use native.Mathlib.Omega.{arith}
use lib.ListN.{length, take, drop, take-append-drop, length-drop, length-append, drop_of_length-le}
use lib.Seq.{sets, sets-eq, length-sets, take-add, drop-drop, take_at, drop_at, length-take-le}
use borrow.Rule.Slice.PartMut.{put_mid}
use Rattle.lanes.specs.Lanes.{onto}
use Rattle.stripe.specs.Stripe.{among}
use Rattle.record.specs.Layout.{survivors, kept, restored}

-- ---- one column of n, at position c

-- what `copy` leaves: the bytes over the front of a list, and over a part of one
pub copied_front : (out xs : List ℕ) → length xs ≤ length out → onto (λ (x y : ℕ). y) out xs ≡ xs ++ drop (length xs) out
unfolding onto
copied_front [] [] h = refl
copied_front [] (x ∷ xs) h = absurd (omega arith)
copied_front (o ∷ out) [] h = refl
copied_front (o ∷ out) (x ∷ xs) h = ap (λ (l : List ℕ). x ∷ l) (copied_front out xs (omega arith))

copied_whole : (out xs : List ℕ) → length out ≡ length xs → onto (λ (x y : ℕ). y) out xs ≡ xs
copied_whole out xs e =
    let h : length out ≤ length xs = omega arith in
    copied_front out xs (omega arith) ∙ ap (λ (l : List ℕ). xs ++ l) (drop_of_length-le out h) ∙ append-nil xs

pub copied : (xs from zs : List ℕ) (to at l : ℕ) → to + l ≤ length xs → at + l ≤ length from
    → zs ≡ onto (λ (x y : ℕ). y) (take (to + l - to) (drop to xs)) (take (at + l - at) (drop at from))
    → put_mid to (to + l - to) xs zs ≡ sets xs to (take l (drop at from))
copied xs from zs to at l fits long is =
    let p : to + l - to ≡ l = omega arith in
    let q : at + l - at ≡ l = omega arith in
    let ys = take l (drop at from) in
    let u = length-take-le l (drop to xs) (omega (arith, length-drop to xs)) in
    let w = length-take-le l (drop at from) (omega (arith, length-drop at from)) in
    ap (λ (n : ℕ). put_mid to n xs zs) p
    ∙ ap (put_mid to l xs)
    (is ∙ ap₂ (λ (m n : ℕ). onto (λ (x y : ℕ). y) (take m (drop to xs)) (take n (drop at from))) p q ∙ copied_whole (take l (drop to xs)) ys (u ∙ sym w))
    ∙ ap (λ (us : List ℕ). take to xs ++ (ys ++ us)) (drop-drop l to xs ∙ ap (λ (n : ℕ). drop (to + n) xs) (sym w))
    ∙ sym (append_assoc (take to xs) ys (drop (to + length ys) xs))
    ∙ sym (sets-eq ys xs to (omega arith))

-- how many columns are left
pub left_one : (n c : ℕ) → c < n → n - c ≡ suc (n - (c + 1))
left_one n c h = omega arith

-- where column c of n ends
pub next_column : (c l : ℕ) → (c + 1) * l ≡ c * l + l
next_column c l = omega arith

pub column_within : (n c l : ℕ) → c < n → c * l + l ≤ n * l
column_within n c l h = omega (arith, mul-le-mul_right {m = c + 1} {n = n} l (omega arith))

kept-suc : (es : List ℕ) (c m l : ℕ) → kept es c (suc m) * l ≡ cond (among c es) 0 l + kept es (c + 1) m * l
unfolding kept
kept-suc es c m l =
    go (among c es) (kept es (suc c) m) (ap (λ (i : ℕ). kept es i m * l) (sym (add-one c)))
  where
    go : (b : Bool) (k : ℕ) → k * l ≡ kept es (c + 1) m * l → (cond b 0 1 + k) * l ≡ cond b 0 l + kept es (c + 1) m * l
    go true k e = ap (λ (i : ℕ). i * l) (zero-add k) ∙ e ∙ sym (zero-add (kept es (c + 1) m * l))
    go false k e = ap (λ (i : ℕ). i * l) (omega arith) ∙ suc-mul k l ∙ omega arith

kept_bytes : (es : List ℕ) (n c l : ℕ) → c < n → kept es c (n - c) * l ≡ cond (among c es) 0 l + kept es (c + 1) (n - (c + 1)) * l
kept_bytes es n c l h = ap (λ (m : ℕ). kept es c m * l) (left_one n c h) ∙ kept-suc es c (n - (c + 1)) l

-- a column that is not lost has its bytes
kept_room : (es : List ℕ) (n c l at len : ℕ) → c < n → at + kept es c (n - c) * l ≤ len → among c es ≡ false → at + l ≤ len
kept_room es n c l at len h r e =
    let p : cond (among c es) 0 l ≡ l = rw e in
    omega (arith, kept_bytes es n c l h)

pub restored_lost : (l c m : ℕ) (es ys xs : List ℕ) → among c es ≡ true → restored l es c (suc m) ys xs ≡ take l xs ++ restored l es (suc c) m ys (drop l xs)
unfolding restored
restored_lost l c m es ys xs e = rw e

pub restored_kept : (l c m : ℕ) (es ys xs : List ℕ) → among c es ≡ false
    → restored l es c (suc m) ys xs ≡ take l ys ++ restored l es (suc c) m (drop l ys) (drop l xs)
unfolding restored
restored_kept l c m es ys xs e = rw e

pub survivors_lost : (l c m : ℕ) (es xs : List ℕ) → among c es ≡ true → survivors l es c (suc m) xs ≡ survivors l es (suc c) m (drop l xs)
unfolding survivors
survivors_lost l c m es xs e = rw e

pub survivors_kept : (l c m : ℕ) (es xs : List ℕ) → among c es ≡ false → survivors l es c (suc m) xs ≡ take l xs ++ survivors l es (suc c) m (drop l xs)
unfolding survivors
survivors_kept l c m es xs e = rw e

-- a stripe with zs in the place of the column at `to`
module _ (xs zs : List ℕ) (to l : ℕ) (long : length zs ≡ l) (fits : to + l ≤ length xs) where
  column_set : sets xs to zs ≡ take to xs ++ zs ++ drop (to + l) xs
  column_set = sets-eq zs xs to (omega arith) ∙ ap (λ (n : ℕ). take to xs ++ zs ++ drop (to + n) xs) long

  head_long : length (take to xs ++ zs) ≡ to + l
  head_long = length-append (take to xs) zs ∙ omega (arith, length-take-le to xs (omega arith))

  column_front : take (to + l) (sets xs to zs) ≡ take to xs ++ zs
  column_front = ap (take (to + l)) column_set ∙ take_at (take to xs ++ zs) (drop (to + l) xs) (to + l) head_long

  column_back : drop (to + l) (sets xs to zs) ≡ drop (to + l) xs
  column_back = ap (drop (to + l)) column_set ∙ drop_at (take to xs ++ zs) (drop (to + l) xs) (to + l) head_long

-- one column passed on the way through a record: it is lost, and nothing changes; or its l bytes zs are put at `to`
abbrev pub Passed : ℕ → ℕ → List ℕ → ℕ → List ℕ → ℕ → ℕ → List ℕ → List ℕ → Type 0
Passed l c es to zs at at' xs xs' =
    ((among c es ≡ true) × ((at' ≡ at) × (xs' ≡ xs))) ⊎ ((among c es ≡ false) × ((at' ≡ at + l) × (xs' ≡ sets xs to zs)))

pub passed_length : (l c : ℕ) (es : List ℕ) (to : ℕ) (zs : List ℕ) (at at' : ℕ) (xs xs' : List ℕ) → Passed l c es to zs at at' xs xs' → length xs' ≡ length xs
passed_length l c es to zs at at' xs xs' (inl w) = ap length w.1.1
passed_length l c es to zs at at' xs xs' (inr w) = ap length w.1.1 ∙ length-sets xs to zs

module _ (l c m to : ℕ) (es ys xs : List ℕ) (fits : to + l ≤ length xs) where
  abbrev Turn : List ℕ → List ℕ → Type 0
  Turn ys' xs' = take (to + l) xs' ++ restored l es (suc c) m ys' (drop (to + l) xs') ≡ take to xs ++ restored l es c (suc m) ys (drop to xs)

  turn_lost : among c es ≡ true → Turn ys xs
  turn_lost e =
      ap (λ (zs : List ℕ). zs ++ restored l es (suc c) m ys (drop (to + l) xs)) (take-add to l xs)
      ∙ append_assoc (take to xs) (take l (drop to xs)) (restored l es (suc c) m ys (drop (to + l) xs))
      ∙ ap (λ (zs : List ℕ). take to xs ++ (take l (drop to xs) ++ restored l es (suc c) m ys zs)) (sym (drop-drop l to xs))
      ∙ ap (λ (zs : List ℕ). take to xs ++ zs) (sym (restored_lost l c m es ys (drop to xs) e))

  turn_kept : among c es ≡ false → l ≤ length ys → Turn (drop l ys) (sets xs to (take l ys))
  turn_kept e long =
      let z = length-take-le l ys long in
      ap (λ (zs : List ℕ). zs ++ restored l es (suc c) m (drop l ys) (drop (to + l) (sets xs to (take l ys)))) (column_front xs (take l ys) to l z fits)
      ∙ ap (λ (zs : List ℕ). take to xs ++ take l ys ++ restored l es (suc c) m (drop l ys) zs)
      (column_back xs (take l ys) to l z fits ∙ sym (drop-drop l to xs))
      ∙ append_assoc (take to xs) (take l ys) (restored l es (suc c) m (drop l ys) (drop l (drop to xs)))
      ∙ ap (λ (zs : List ℕ). take to xs ++ zs) (sym (restored_kept l c m es ys (drop to xs) e))

-- a turn of the loop that restores n columns
pub restore_turn : (l n c at at' : ℕ) (es from xs xs' : List ℕ) → c < n → n * l ≤ length xs → (among c es ≡ false → at + l ≤ length from)
    → Passed l c es (c * l) (take l (drop at from)) at at' xs xs'
    → take ((c + 1) * l) xs' ++ restored l es (c + 1) (n - (c + 1)) (drop at' from) (drop ((c + 1) * l) xs')
    ≡ take (c * l) xs ++ restored l es c (n - c) (drop at from) (drop (c * l) xs)
restore_turn l n c at at' es from xs xs' h all long w =
    ap (λ (to : ℕ). take to xs' ++ restored l es (c + 1) (n - (c + 1)) (drop at' from) (drop to xs')) (next_column c l)
    ∙ ap (λ (i : ℕ). take (c * l + l) xs' ++ restored l es i (n - (c + 1)) (drop at' from) (drop (c * l + l) xs')) (add-one c)
    ∙ go w
    ∙ ap (λ (m : ℕ). take (c * l) xs ++ restored l es c m (drop at from) (drop (c * l) xs)) (sym (left_one n c h))
  where
    fits : c * l + l ≤ length xs
    fits = omega (arith, column_within n c l h)

    go : Passed l c es (c * l) (take l (drop at from)) at at' xs xs' → Turn l c (n - (c + 1)) (c * l) es (drop at from) xs fits (drop at' from) xs'
    go (inl v) =
        ap₂ (λ (i : ℕ) (us : List ℕ). take (c * l + l) us ++ restored l es (suc c) (n - (c + 1)) (drop i from) (drop (c * l + l) us)) v.1.0 v.1.1
        ∙ turn_lost l c (n - (c + 1)) (c * l) es (drop at from) xs fits v.0
    go (inr v) =
        ap₂ (λ (i : ℕ) (us : List ℕ). take (c * l + l) us ++ restored l es (suc c) (n - (c + 1)) (drop i from) (drop (c * l + l) us)) v.1.0 v.1.1
        ∙ ap (λ (us : List ℕ). take (c * l + l) (sets xs (c * l) (take l (drop at from)))
        ++ restored l es (suc c) (n - (c + 1)) us (drop (c * l + l) (sets xs (c * l) (take l (drop at from))))) (sym (drop-drop l at from))
        ∙ turn_kept l c (n - (c + 1)) (c * l) es (drop at from) xs fits v.0 (omega (arith, length-drop at from, long v.0))

pub all_left : (n : ℕ) → n - 0 ≡ n
all_left n = omega arith

pub restore_start : (l n : ℕ) (es from xs : List ℕ) → take (0 * l) xs ++ restored l es 0 (n - 0) from (drop (0 * l) xs) ≡ restored l es 0 n from xs
restore_start l n es from xs =
    ap (λ (to : ℕ). take to xs ++ restored l es 0 (n - 0) from (drop to xs)) (zero-mul l)
    ∙ ap (λ (m : ℕ). restored l es 0 m from xs) (all_left n)

pub restore_done : (l n c to at : ℕ) (es from xs : List ℕ) → n ≤ c → take to xs ++ restored l es c (n - c) (drop at from) (drop to xs) ≡ xs
unfolding restored
restore_done l n c to at es from xs h =
    let p : n - c ≡ 0 = omega arith in
    ap (λ (m : ℕ). take to xs ++ restored l es c m (drop at from) (drop to xs)) p ∙ take-append-drop to xs

-- ---- the walk through a stripe's columns, and through a record's in a list of room bytes

-- column c of n is next: the surviving ones among those left begin at `at`, and have their bytes
pub record Walk (es : List ℕ) (l n room c at : ℕ) : Type 0 where
  pub surviving : at + kept es c (n - c) * l ≤ room

pub walk_start : (es : List ℕ) (l n room at : ℕ) → at + kept es 0 n * l ≤ room → Walk es l n room 0 at
walk_start es l n room at h = record { surviving = omega (arith, ap (λ (m : ℕ). kept es 0 m * l) (all_left n)) }

module _ {es : List ℕ} {l n room c at : ℕ} (w : Walk es l n room c at) (h : c < n) where
  pub walk_survivor : among c es ≡ false → at + l ≤ room
  walk_survivor = kept_room es n c l at room h w.surviving

  pub walk_turn : (p at' : ℕ) (zs xs xs' : List ℕ) → Passed l c es p zs at at' xs xs' → Walk es l n room (c + 1) at'
  walk_turn p at' zs xs xs' v = record { surviving = omega (arith, w.surviving, left v) }
    where
      left : Passed l c es p zs at at' xs xs' → at' + kept es (c + 1) (n - (c + 1)) * l ≡ at + kept es c (n - c) * l
      left (inl g) =
          let none : cond (among c es) 0 l ≡ 0 = ap (λ (b : Bool). cond b 0 l) g.0 in
          omega (arith, kept_bytes es n c l h, g.1.0)
      left (inr g) =
          let own : cond (among c es) 0 l ≡ l = ap (λ (b : Bool). cond b 0 l) g.0 in
          omega (arith, kept_bytes es n c l h, g.1.0)
