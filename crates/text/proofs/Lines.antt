-- The lines of a stripe's text, one more at a time, and how long they are at most.
use Prim.Native.Nat.{ℕ, zero, suc, ◌+◌, ◌-◌, ◌*◌, ◌/◌, ◌%◌, ◌≤◌, ◌<◌}
use mathlib.Core.Path.{◌≡◌, sym, ap, ap₂, ◌∙◌}
use mathlib.Core.Bool.{Bool, true, false, cond}
use mathlib.Core.List.{List, [], ◌∷◌, ◌++◌, append_assoc, append-nil}
use native.Mathlib.Omega.{arith}
use native.Mathlib.Nat.{suc-mul, mul-add, mul_left_comm}
use native.Mathlib.Numerals.{add-one}
use lib.Dec.{ltb}
use lib.ListN.{length, take, drop, length-append, length-take, length-drop}
use lib.Seq.{drop-drop, length-take-le}
use Rattle.stripe.proofs.Places.{column_inside}
use Rattle.stripe.specs.declared.Shape.{Shape}
use Rattle.stripe.specs.Shape.{columns}
use Rattle.stripe.specs.Stripe.{among}
use Rattle.field.specs.Bytes.{over}
use Rattle.text.specs.Text.{decimal_in, kept_word, mended_word, first_line, column_line, column_lines, stripe_text}
use Rattle.field.proofs.Over.{over_on}
use Rattle.text.proofs.Pieces.{hex-length}

-- ---- one line more

-- the lines of m columns and of the one after them
pub lines_more : (l : ℕ) (es : List ℕ) (c m : ℕ) (xs : List ℕ)
    → column_lines l es c (suc m) xs ≡ column_lines l es c m xs ++ column_line (c + m) (among (c + m) es) (take l (drop (m * l) xs))
unfolding column_lines
lines_more l es c zero xs =
    let e : c ≡ c + 0 = omega arith in
    let f : 0 ≡ 0 * l = omega arith in
    append-nil _ ∙ ap₂ (λ (k n : ℕ). column_line k (among k es) (take l (drop n xs))) e f
lines_more l es c (suc m) xs =
    let e : suc c + m ≡ c + suc m = omega arith in
    let f : l + m * l ≡ suc m * l = omega (arith, suc-mul m l) in
    ap (λ (t : List ℕ). column_line c (among c es) (take l xs) ++ t) (lines_more l es (suc c) m (drop l xs))
    ∙ sym (append_assoc (column_line c (among c es) (take l xs)) (column_lines l es (suc c) m (drop l xs)) _)
    ∙ ap₂ (λ (k : ℕ) (ys : List ℕ). (column_line c (among c es) (take l xs) ++ column_lines l es (suc c) m (drop l xs)) ++ column_line k
    (among k es) (take l ys))
    e (drop-drop (m * l) l xs ∙ ap (λ (n : ℕ). drop n xs) f)

lines_length : (l : ℕ) (es : List ℕ) (m : ℕ) (xs : List ℕ)
    → length (column_lines l es 0 (suc m) xs) ≡ length (column_lines l es 0 m xs) + length (column_line m (among m es) (take l (drop (m * l) xs)))
lines_length l es m xs =
    let e : 0 + m ≡ m = omega arith in
    ap length (lines_more l es 0 m xs) ∙ length-append (column_lines l es 0 m xs) _
    ∙ ap (λ (k : ℕ). length (column_lines l es 0 m xs) + length (column_line k (among k es) (take l (drop (m * l) xs)))) e

-- d columns more have no shorter text
pub lines_grow : (l : ℕ) (es : List ℕ) (m d : ℕ) (xs : List ℕ) → length (column_lines l es 0 m xs) ≤ length (column_lines l es 0 (m + d) xs)
lines_grow l es m zero xs = let e : m + 0 ≡ m = omega arith in omega (arith, ap (λ (k : ℕ). length (column_lines l es 0 k xs)) e)
lines_grow l es m (suc d) xs =
    let e : m + suc d ≡ suc (m + d) = omega arith in
    omega (arith, lines_grow l es m d xs, lines_length l es (m + d) xs, ap (λ (k : ℕ). length (column_lines l es 0 k xs)) e)

-- the line of a column that is cut out of the stripe
pub line_from : (l : ℕ) (es : List ℕ) (c : ℕ) (xs : List ℕ) (b : Bool) → b ≡ among c es
    → column_line c b (take (c * l + l - c * l) (drop (c * l) xs)) ≡ column_line c (among c es) (take l (drop (c * l) xs))
line_from l es c xs b e =
    let g : c * l + l - c * l ≡ l = omega arith in
    ap₂ (λ (m : Bool) (n : ℕ). column_line c m (take n (drop (c * l) xs))) e g

-- lines of as many bytes are as long
line_long : (c : ℕ) (b : Bool) (xs ys : List ℕ) → length xs ≡ length ys → length (column_line c b xs) ≡ length (column_line c b ys)
unfolding column_line
line_long c b xs ys e = simp (length-append, hex-length) (omega (arith, e))

-- one turn of the loop over the columns
module _ (out₀ out out' : List ℕ) (at next next' l n c : ℕ) (es xs : List ℕ) (below : c < n)
    (room : at + length (column_lines l es 0 n xs) ≤ length out₀) where
  more : column_lines l es 0 (c + 1) xs ≡ column_lines l es 0 c xs ++ column_line c (among c es) (take l (drop (c * l) xs))
  more =
      let e : 0 + c ≡ c = omega arith in
      ap (λ (k : ℕ). column_lines l es 0 k xs) (add-one c) ∙ lines_more l es 0 c xs
      ∙ ap (λ (k : ℕ). column_lines l es 0 c xs ++ column_line k (among k es) (take l (drop (c * l) xs))) e

  pub line_fits : at + length (column_lines l es 0 c xs) + length (column_line c (among c es) (take l (drop (c * l) xs))) ≤ length out₀
  line_fits =
      let e : c + 1 + (n - (c + 1)) ≡ n = omega arith in
      omega (
        arith,
        ap length more,
        length-append (column_lines l es 0 c xs) (column_line c (among c es) (take l (drop (c * l) xs))),
        lines_grow l es (c + 1) (n - (c + 1)) xs,
        ap (λ (k : ℕ). length (column_lines l es 0 k xs)) e,
      )

  pub line_room : (b : Bool) (ys : List ℕ) → b ≡ among c es → length ys ≡ l → n * l ≤ length xs → next ≡ at + length (column_lines l es 0 c xs)
      → length out ≡ length out₀ → next + length (column_line c b ys) ≤ length out
  line_room b ys e f g h k =
      let m : length (take l (drop (c * l) xs)) ≡ l = length-take-le l (drop (c * l) xs) (omega (arith, length-drop (c * l) xs, column_inside c n l below)) in
      omega (
        arith,
        ap (λ (p : Bool). length (column_line c p ys)) e,
        line_long c (among c es) ys (take l (drop (c * l) xs)) (omega arith),
        line_fits,
      )

  pub lines_turn : next ≡ at + length (column_lines l es 0 c xs) → out ≡ over out₀ at (column_lines l es 0 c xs)
      → next' ≡ next + length (column_line c (among c es) (take l (drop (c * l) xs)))
      → out' ≡ over out next (column_line c (among c es) (take l (drop (c * l) xs)))
      → (next' ≡ at + length (column_lines l es 0 (c + 1) xs)) × (out' ≡ over out₀ at (column_lines l es 0 (c + 1) xs))
  lines_turn e f g h = (
    omega (arith, ap length more, length-append (column_lines l es 0 c xs) (column_line c (among c es) (take l (drop (c * l) xs)))),
    over_on out₀ out out' at next (column_lines l es 0 c xs) (column_line c (among c es) (take l (drop (c * l) xs))) f e h line_fits
        ∙ ap (over out₀ at) (sym more),
  )

-- ---- how long the text is at most

digits_at_most : (m n : ℕ) → length (decimal_in m n) ≤ m
unfolding decimal_in
digits_at_most zero n = omega arith
digits_at_most (suc m) n =
    either (ltb n 10) ((48 + n) ∷ []) (decimal_in m (n / 10) ++ ((48 + n % 10) ∷ [])) (suc m) (omega arith)
    (omega (arith, length-append (decimal_in m (n / 10)) ((48 + n % 10) ∷ []), digits_at_most m (n / 10)))
  where
    either : (b : Bool) (xs ys : List ℕ) (k : ℕ) → length xs ≤ k → length ys ≤ k → length (cond b xs ys) ≤ k
    either true xs ys k p q = p
    either false xs ys k p q = q

-- a number of 64 bits has at most 20
pub decimal_short : (n : ℕ) → length (decimal_in 20 n) ≤ 20
decimal_short n = digits_at_most 20 n

state_at_most : (b : Bool) → length (cond b mended_word kept_word) ≤ 8
state_at_most true = omega arith
state_at_most false = omega arith

line_at_most : (c : ℕ) (b : Bool) (xs : List ℕ) → length (column_line c b xs) ≤ 29 + 2 * length xs
unfolding column_line
line_at_most c b xs =
    simp (length-append, hex-length) (omega (arith, digits_at_most 20 c, state_at_most b))

lines_at_most : (l : ℕ) (es : List ℕ) (c m : ℕ) (xs : List ℕ) → length (column_lines l es c m xs) ≤ m * (29 + 2 * l)
unfolding column_lines
lines_at_most l es c zero xs = omega arith
lines_at_most l es c (suc m) xs =
    omega (
      arith,
      length-append (column_line c (among c es) (take l xs)) (column_lines l es (suc c) m (drop l xs)),
      line_at_most c (among c es) (take l xs),
      length-take l xs,
      lines_at_most l es (suc c) m (drop l xs),
      suc-mul m (29 + 2 * l),
    )

pub first_at_most : (s : Shape) → length (first_line s) ≤ 91
unfolding first_line
first_at_most s =
    simp length-append (omega (arith, digits_at_most 20 s.k, digits_at_most 20 s.r, digits_at_most 20 s.t, digits_at_most 20 s.l))

pub text_at_most : (s : Shape) (es xs : List ℕ) → columns s ≤ 258 → columns s * s.l ≤ 65536 → length (stripe_text s es xs) ≤ 140000
unfolding stripe_text
text_at_most s es xs h k =
    omega (
      arith,
      length-append (first_line s) (column_lines s.l es 0 (columns s) xs),
      first_at_most s,
      lines_at_most s.l es 0 (columns s) xs,
      mul_add_left (columns s) 29 (2 * s.l),
      mul_two (columns s) s.l,
    )
  where
    mul_add_left : (n a b : ℕ) → n * (a + b) ≡ n * a + n * b
    mul_add_left n a b = mul-add n a b

    mul_two : (n l : ℕ) → n * (2 * l) ≡ 2 * (n * l)
    mul_two n l = mul_left_comm n 2 l
