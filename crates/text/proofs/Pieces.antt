-- Digits, and bytes in hex, one more at a time; and pieces of text put one after the other.
use Prim.Native.Nat.{ℕ, zero, suc, ◌+◌, ◌-◌, ◌*◌, ◌/◌, ◌%◌, ◌≤◌, ◌<◌}
use mathlib.Core.Path.{◌≡◌, refl, sym, ap, ap₂, ◌∙◌}
use mathlib.Core.List.{List, [], ◌∷◌, ◌++◌, append_assoc}
use native.Mathlib.Omega.{arith}
use native.Mathlib.Numerals.{add-one}
use native.Mathlib.Nat.{mod-eq_of_lt}
use borrow.Author.Tests.{lt-ltb, le-ltb}
use lib.ListN.{length, get_or, take, drop, length-append}
use lib.Seq.{take-suc, take_all, length-take-le, drop-drop}
use borrow.Rule.Slice.PartMut.{put_mid}
use Rattle.field.specs.Bytes.{over}
use Rattle.text.specs.Text.{decimal_in, hex_digit, hex}
use Rattle.field.proofs.Over.{over_none, over_on, over_front}

pub take_more : (xs : List ℕ) (q : ℕ) → q < length xs → take (q + 1) xs ≡ take q xs ++ (get_or xs q 0 ∷ [])
take_more xs q h = rw add-one (take-suc xs q 0 h)

pub take_whole : (xs : List ℕ) (q : ℕ) → length xs ≤ q → take q xs ≡ xs
take_whole xs q h = take_all q xs h

pub hex-length : (xs : List ℕ) → length (hex xs) ≡ 2 * length xs
unfolding hex
hex-length [] = refl
hex-length (x ∷ xs) = omega (arith, hex-length xs)

pub hex-append : (xs ys : List ℕ) → hex (xs ++ ys) ≡ hex xs ++ hex ys
unfolding hex
hex-append [] ys = refl
hex-append (x ∷ xs) ys = ap (λ (l : List ℕ). hex_digit (x / 16) ∷ hex_digit (x % 16) ∷ l) (hex-append xs ys)

pub hex-one : (b : ℕ) → hex (b ∷ []) ≡ hex_digit (b / 16) ∷ hex_digit (b % 16) ∷ []
unfolding hex
hex-one b = refl

-- ---- the digits of a number

pub digits_none : (m n : ℕ) → m ≡ 0 → decimal_in m n ≡ []
unfolding decimal_in
digits_none m n e = ap (λ (k : ℕ). decimal_in k n) e

pub digits_last : (m n : ℕ) → (m ≡ 0 → ⊥) → n < 10 → decimal_in m n ≡ (48 + n % 10) ∷ []
unfolding decimal_in
digits_last zero n h l = absurd (h refl)
digits_last (suc m) n h l =
    let e : n ≡ n % 10 = sym (mod-eq_of_lt l) in
    simp (lt-ltb n 10 l) (ap (λ (d : ℕ). (48 + d) ∷ []) e)

pub digits_more : (m n : ℕ) → (m ≡ 0 → ⊥) → 10 ≤ n → decimal_in m n ≡ decimal_in (m - 1) (n / 10) ++ ((48 + n % 10) ∷ [])
unfolding decimal_in
digits_more zero n h l = absurd (h refl)
digits_more (suc m) n h l =
    let e : m ≡ suc m - 1 = omega arith in
    simp (le-ltb n 10 l) (ap (λ (k : ℕ). decimal_in k (n / 10) ++ ((48 + n % 10) ∷ [])) e)

-- ---- a part of the output that a list is copied to

pub part_put : (out ys xs : List ℕ) (at n : ℕ) → ys ≡ xs → n ≡ length xs → put_mid at n out ys ≡ over out at xs
unfolding over
part_put out ys xs at n e f =
    ap₂ (λ (k : ℕ) (zs : List ℕ). put_mid at k out zs) f e
    ∙ ap (λ (t : List ℕ). take at out ++ (xs ++ t)) (drop-drop (length xs) at out)

pub front_put : (out ys xs : List ℕ) (n : ℕ) → ys ≡ xs → n ≡ length xs → ys ++ drop n out ≡ over out 0 xs
front_put out ys xs n e f = ap₂ (λ (k : ℕ) (zs : List ℕ). zs ++ drop k out) f e ∙ sym (over_front out xs)

-- ---- one turn of the loop that writes bytes in hex, two digits each

module _ (out₀ w out out' : List ℕ) (at next q : ℕ) (below : q < length w) where
  pub hex_turn : next ≡ at + 2 * q → out ≡ over out₀ at (hex (take q w)) → out' ≡ over out next (hex (get_or w q 0 ∷ []))
      → at + length (hex w) ≤ length out₀ → out' ≡ over out₀ at (hex (take (q + 1) w))
  hex_turn e f g h =
      let n : length (take q w) ≡ q = length-take-le q w (omega arith) in
      over_on out₀ out out' at next (hex (take q w)) (hex (get_or w q 0 ∷ [])) f (omega (arith, hex-length (take q w))) g
      (omega (arith, hex-length w, hex-length (take q w), hex-length (get_or w q 0 ∷ [])))
      ∙ ap (over out₀ at) (sym (ap hex (take_more w q below) ∙ hex-append (take q w) (get_or w q 0 ∷ [])))

-- ---- the pieces of `put_digits`

pub last_length : (m n : ℕ) → (m ≡ 0 → ⊥) → n < 10 → length (decimal_in m n) ≡ 1
last_length m n h l = ap length (digits_last m n h l)

pub more_length : (m n : ℕ) → (m ≡ 0 → ⊥) → 10 ≤ n → length (decimal_in m n) ≡ length (decimal_in (m - 1) (n / 10)) + 1
more_length m n h l = ap length (digits_more m n h l) ∙ length-append (decimal_in (m - 1) (n / 10)) ((48 + n % 10) ∷ [])

pub none_put : (out : List ℕ) (at m n : ℕ) → m ≡ 0 → (at ≡ at + length (decimal_in m n)) × (out ≡ over out at (decimal_in m n))
none_put out at m n e =
    let f : length (decimal_in m n) ≡ 0 = ap length (digits_none m n e) in
    (omega arith, over_none out at ∙ ap (over out at) (sym (digits_none m n e)))

pub last_put : (out out' : List ℕ) (at v m n : ℕ) → (m ≡ 0 → ⊥) → n < 10 → v ≡ at + 1 → out' ≡ over out at ((48 + n % 10) ∷ [])
    → (v ≡ at + length (decimal_in m n)) × (out' ≡ over out at (decimal_in m n))
last_put out out' at v m n h l e f = (omega (arith, last_length m n h l), f ∙ ap (over out at) (sym (digits_last m n h l)))

pub more_put : (out out' out'' : List ℕ) (at v w m n : ℕ) → (m ≡ 0 → ⊥) → 10 ≤ n → at + length (decimal_in m n) ≤ length out
    → v ≡ at + length (decimal_in (m - 1) (n / 10)) → out' ≡ over out at (decimal_in (m - 1) (n / 10))
    → w ≡ v + 1 → out'' ≡ over out' v ((48 + n % 10) ∷ [])
    → (w ≡ at + length (decimal_in m n)) × (out'' ≡ over out at (decimal_in m n))
more_put out out' out'' at v w m n h l room e f g k =
    let q : length (decimal_in m n) ≡ length (decimal_in (m - 1) (n / 10)) + 1 = more_length m n h l in (
      omega arith,
      over_on out out' out'' at v (decimal_in (m - 1) (n / 10)) ((48 + n % 10) ∷ []) f e k (omega arith) ∙ ap (over out at) (sym (digits_more m n h l)),
    )

-- ---- pieces one after the other

-- a piece after another, which together are the two joined
pub then_over : (out : List ℕ) (at next : ℕ) (xs ys : List ℕ) → next ≡ at + length xs → next + length ys ≤ length out
    → over (over out at xs) next ys ≡ over out at (xs ++ ys)
then_over out at next xs ys e h = over_on out (over out at xs) _ at next xs ys refl e refl (omega arith)

-- what shows a text that is written piece by piece
pub ruleset pieces = (length-append, then_over, append_assoc)

-- xs is written over out from `at` on, which gives out', and `next` is the place after it
abbrev pub Put : List ℕ → ℕ → List ℕ → List ℕ → ℕ → Type 0
Put out at xs out' next = (next ≡ at + length xs) × (out' ≡ over out at xs)
