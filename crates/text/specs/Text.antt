-- What the mending program prints (document 01, 'The mending program'), as bytes of ASCII.
use Rattle.std.specs.Prelude.{ℕ, zero, suc, ◌+◌, ◌/◌, ◌%◌, Bool, cond, ◌&&◌, List, [], ◌∷◌, ◌++◌, leb, ltb, eqb, length, take, drop}
use Rattle.field.specs.Bytes.{over}
use Rattle.stripe.specs.declared.Shape.{Shape}
use Rattle.stripe.specs.Shape.{shape_refusal, columns, stripe_length}
use Rattle.stripe.specs.Stripe.{among}

-- a number in decimal, of at most m digits
unfoldable pub decimal_in : ℕ → ℕ → List ℕ
decimal_in zero n = []
decimal_in (suc m) n = cond (ltb n 10) ((48 + n) ∷ []) (decimal_in m (n / 10) ++ ((48 + n % 10) ∷ []))

-- a number of 64 bits in decimal
abbrev pub decimal : ℕ → List ℕ
decimal n = decimal_in 20 n

-- a digit of lower-case hex
unfoldable pub hex_digit : ℕ → ℕ
hex_digit d = cond (ltb d 10) (48 + d) (87 + d)

-- bytes in lower-case hex, run together
unfoldable pub hex : List ℕ → List ℕ
hex [] = []
hex (b ∷ bs) = hex_digit (b / 16) ∷ hex_digit (b % 16) ∷ hex bs

-- the words `stripe `, ` kept `, ` mended ` and `refused `
abbrev pub stripe_word : List ℕ
stripe_word = 115 ∷ 116 ∷ 114 ∷ 105 ∷ 112 ∷ 101 ∷ 32 ∷ []

abbrev pub kept_word : List ℕ
kept_word = 32 ∷ 107 ∷ 101 ∷ 112 ∷ 116 ∷ 32 ∷ []

abbrev pub mended_word : List ℕ
mended_word = 32 ∷ 109 ∷ 101 ∷ 110 ∷ 100 ∷ 101 ∷ 100 ∷ 32 ∷ []

abbrev pub refused_word : List ℕ
refused_word = 114 ∷ 101 ∷ 102 ∷ 117 ∷ 115 ∷ 101 ∷ 100 ∷ 32 ∷ []

-- a number and the byte after it
abbrev pub number_then : ℕ → ℕ → List ℕ
number_then n after = decimal n ++ (after ∷ [])

-- the first line: the word `stripe` and k, r, t, L, one space between
unfoldable pub first_line : Shape → List ℕ
first_line s = stripe_word ++ (number_then s.k 32 ++ (number_then s.r 32 ++ (number_then s.t 32 ++ number_then s.l 10)))

-- the line of a column: position, `kept` or `mended`, the bytes
unfoldable pub column_line : ℕ → Bool → List ℕ → List ℕ
column_line c mended xs = decimal c ++ (cond mended mended_word kept_word ++ (hex xs ++ (10 ∷ [])))

-- the lines of m columns of l bytes, the first of which is c and starts the list
unfoldable pub column_lines : ℕ → List ℕ → ℕ → ℕ → List ℕ → List ℕ
column_lines l es c zero xs = []
column_lines l es c (suc m) xs = column_line c (among c es) (take l xs) ++ column_lines l es (suc c) m (drop l xs)

-- the text of a mended stripe whose lost columns are es
unfoldable pub stripe_text : Shape → List ℕ → List ℕ → List ℕ
stripe_text s es xs = first_line s ++ column_lines s.l es 0 (columns s) xs

-- the text of a refusal
unfoldable pub refusal_text : ℕ → List ℕ
refusal_text v = refused_word ++ (decimal v ++ (10 ∷ []))

-- room for the text of any stripe of at most 65,536 bytes
abbrev pub text_room : ℕ
text_room = 140000

-- a stripe that can be printed, and room for its text
unfoldable pub printable : Shape → ℕ → ℕ → Bool
printable s n room = eqb (shape_refusal s) 0 && eqb n (stripe_length s) && leb n 65536 && leb text_room room

-- the text of a mended stripe where it can be printed, else none
unfoldable pub stripe_printed : Shape → List ℕ → List ℕ → ℕ → List ℕ
stripe_printed s es xs room = cond (printable s (length xs) room) (stripe_text s es xs) []

-- the output with it over its front
abbrev pub stripe_over : Shape → List ℕ → List ℕ → List ℕ → List ℕ
stripe_over s es xs out = over out 0 (stripe_printed s es xs (length out))

-- room for the text of any refusal
abbrev pub refusal_room : ℕ
refusal_room = 40

-- the text of a refusal where there is room, else none
unfoldable pub refusal_printed : ℕ → ℕ → List ℕ
refusal_printed v room = cond (leb refusal_room room) (refusal_text v) []
