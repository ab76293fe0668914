-- A list written over another from a place on (`over`): its length, its parts, and pieces written one after the other, which are the pieces joined
-- and written at once. Stores one after the other (the kit's `sets`) are the same where there is room.
use Prim.Native.Nat.{ℕ, suc, ◌+◌, ◌≤◌, ◌<◌}
use mathlib.Core.Path.{◌≡◌, sym, ap, ap₂, ◌∙◌}
use mathlib.Core.List.{List, [], ◌∷◌, ◌++◌, append_assoc, append-nil}
use native.Mathlib.Nat.{zero-add}
use native.Mathlib.Numerals.{add-one}
use native.Mathlib.Omega.{arith}
use lib.ListN.{length, get_or, take, drop, set, length-append, length-take, length-drop, take-append-drop}
use lib.Seq.{sets, sets-eq, take_at, drop_at, length-take-le, drop-drop, drop-length, set_split, take-suc}
use Rattle.field.specs.Bytes.{over}

module _ {A : Type 0} where
  -- ---- one piece

  pub over-length : (out : List A) (at : ℕ) (xs : List A) → at + length xs ≤ length out → length (over out at xs) ≡ length out
  unfolding over
  over-length out at xs h = simp (length-append, length-take, length-drop) (omega arith)

  pub over_least : (out : List A) (at : ℕ) (xs : List A) → length xs ≤ length (over out at xs)
  unfolding over
  over_least out at xs = simp length-append (omega arith)

  pub over_none : (out : List A) (at : ℕ) → out ≡ over out at []
  unfolding over
  over_none out at =
      let e : at + 0 ≡ at = omega arith in sym (ap (λ (n : ℕ). take at out ++ drop n out) e ∙ take-append-drop at out)

  -- at the front
  pub over_front : (out xs : List A) → over out 0 xs ≡ xs ++ drop (length xs) out
  unfolding over
  over_front out xs = ap (λ (n : ℕ). xs ++ drop n out) (zero-add (length xs))

  -- over all of a list
  pub over_all : (out xs : List A) → length xs ≡ length out → over out 0 xs ≡ xs
  over_all out xs e =
      over_front out xs ∙ ap (λ (n : ℕ). xs ++ drop n out) e ∙ ap (λ (l : List A). xs ++ l) (drop-length out) ∙ append-nil xs

  -- one element
  pub over-one : (out : List A) (at : ℕ) (b : A) → at < length out → set out at b ≡ over out at (b ∷ [])
  unfolding over
  over-one out at b h =
      let e : suc at ≡ at + 1 = omega arith in set_split out at b h ∙ ap (λ (n : ℕ). take at out ++ (b ∷ drop n out)) e

  -- stores one after the other
  pub sets_over : (out : List A) (at : ℕ) (xs : List A) → at + length xs ≤ length out → sets out at xs ≡ over out at xs
  unfolding over
  sets_over out at xs h = sets-eq xs out at h ∙ append_assoc (take at out) xs (drop (at + length xs) out)

  -- as many stand there after a piece as before
  pub over_long : (out₀ out : List A) (at : ℕ) (xs : List A) → out ≡ over out₀ at xs → at + length xs ≤ length out₀ → length out ≡ length out₀
  over_long out₀ out at xs e h = ap length e ∙ over-length out₀ at xs h

  -- ---- what stands before the end of a piece, and after it

  module _ (out : List A) (at : ℕ) (xs : List A) (h : at ≤ length out) where
    head_length : length (take at out ++ xs) ≡ at + length xs
    head_length = length-append (take at out) xs ∙ ap (λ (n : ℕ). n + length xs) (length-take-le at out h)

    whole : over out at xs ≡ (take at out ++ xs) ++ drop (at + length xs) out
    unfolding over
    whole = sym (append_assoc (take at out) xs (drop (at + length xs) out))

    pub over_taken : take (at + length xs) (over out at xs) ≡ take at out ++ xs
    over_taken = ap (take (at + length xs)) whole ∙ take_at (take at out ++ xs) _ (at + length xs) head_length

    pub over_dropped : drop (at + length xs) (over out at xs) ≡ drop (at + length xs) out
    over_dropped = ap (drop (at + length xs)) whole ∙ drop_at (take at out ++ xs) _ (at + length xs) head_length

  -- ---- pieces one after the other

  pub over_more : (out : List A) (at : ℕ) (xs ys : List A) → at + length xs + length ys ≤ length out
      → over (over out at xs) (at + length xs) ys ≡ over out at (xs ++ ys)
  unfolding over
  over_more out at xs ys h =
      ap₂ (λ (a b : List A). a ++ (ys ++ b)) (over_taken out at xs (omega arith)) back
      ∙ append_assoc (take at out) xs (ys ++ drop (at + length (xs ++ ys)) out)
      ∙ ap (λ (l : List A). take at out ++ l) (sym (append_assoc xs ys (drop (at + length (xs ++ ys)) out)))
    where
      back : drop (at + length xs + length ys) (over out at xs) ≡ drop (at + length (xs ++ ys)) out
      back =
          let e : at + length xs + length ys ≡ at + length (xs ++ ys) = omega (arith, length-append xs ys) in
          sym (drop-drop (length ys) (at + length xs) (over out at xs))
          ∙ ap (drop (length ys)) (over_dropped out at xs (omega arith))
          ∙ drop-drop (length ys) (at + length xs) out
          ∙ ap (λ (n : ℕ). drop n out) e

  -- a piece more: what was written so far, and the piece written after it
  pub over_on : (out₀ out out' : List A) (at next : ℕ) (xs ys : List A) → out ≡ over out₀ at xs → next ≡ at + length xs → out' ≡ over out next ys
      → at + length xs + length ys ≤ length out₀ → out' ≡ over out₀ at (xs ++ ys)
  over_on out₀ out out' at next xs ys e f g h = g ∙ ap₂ (λ (l : List A) (n : ℕ). over l n ys) e f ∙ over_more out₀ at xs ys h

  -- an element stored, and the others written after it
  pub over_step : (out : List A) (at : ℕ) (x : A) (xs : List A) → at + suc (length xs) ≤ length out
      → over (set out at x) (at + 1) xs ≡ over out at (x ∷ xs)
  over_step out at x xs h =
      ap (λ (l : List A). over l (at + 1) xs) (over-one out at x (omega arith)) ∙ over_more out at (x ∷ []) xs (omega arith)

  -- one turn of a loop that writes w an element at a time
  pub over_turn : (out₀ w out out' : List A) (at next q : ℕ) (d : A) → q < length w → next ≡ at + q → out ≡ over out₀ at (take q w)
      → out' ≡ over out next (get_or w q d ∷ []) → at + length w ≤ length out₀
      → (length out' ≡ length out₀) × (out' ≡ over out₀ at (take (q + 1) w))
  over_turn out₀ w out out' at next q d below e f g room =
      let k : length (take q w) ≡ q = length-take-le q w (omega arith) in
      let m : length (take (q + 1) w) ≡ q + 1 = length-take-le (q + 1) w (omega arith) in
      let o : out' ≡ over out₀ at (take q w ++ (get_or w q d ∷ [])) =
      over_on out₀ out out' at next (take q w) (get_or w q d ∷ []) f (omega arith) g (omega arith) in
      let p : out' ≡ over out₀ at (take (q + 1) w) = o ∙ ap (over out₀ at) (sym (rw add-one (take-suc w q d below))) in
      (over_long out₀ out' at (take (q + 1) w) p (omega arith), p)
