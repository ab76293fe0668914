-- Sums, and a sum of products as Horner's rule over the bits of the first factors.
use mathlib.Core.Path.{◌≡◌, refl, sym, ap, ap₂, ◌∙◌}
use mathlib.Core.Bool.{Bool}
use mathlib.Core.List.{List, [], ◌∷◌}
use Prim.Native.Nat.{ℕ, zero, suc, ◌+◌, ◌-◌, ◌/◌, ◌%◌, ◌<◌, ◌≤◌}
use native.Mathlib.Nat.{suc_inj, suc-ne-zero, mod-eq_of_lt, add-suc, add-zero as ℕ-add-zero}
use native.Mathlib.Omega.{arith}
use lib.Dec.{eqb, eqb→eq, lit<}
use lib.ListN.{length, get_or}
use Rattle.field.specs.Field.{◌⊕◌, ◌⊗◌, times, doubled, shifted}
use Rattle.field.specs.Bytes.{tabulate}
use Rattle.field.proofs.Xor.{zero-add, add-zero, add_comm, add_assoc, add-lt, sums}
use Rattle.field.proofs.Mul.{mul-add, mul-zero, bits_doubled, doubled-lt}
use Rattle.field.proofs.Below.{below}
use Rattle.points.specs.Lagrange.{dot}
use Rattle.matrix.specs.Sums.{sum_to, halved, fall}

-- ---- sums

pub sum_same : (n : ℕ) (f g : ℕ → ℕ) → ((i : ℕ) → i < n → f i ≡ g i) → sum_to n f ≡ sum_to n g
unfolding sum_to
sum_same zero f g h = refl
sum_same (suc n) f g h = ap₂ ◌⊕◌ (sum_same n f g (λ i l. h i (omega arith))) (h n (omega arith))

sum_zero : (n : ℕ) → sum_to n (λ i. 0) ≡ 0
unfolding sum_to
sum_zero zero = refl
sum_zero (suc n) = add-zero (sum_to n (λ i. 0)) ∙ sum_zero n

sum_first : (n : ℕ) (f : ℕ → ℕ) → sum_to (suc n) f ≡ f 0 ⊕ sum_to n (λ i. f (suc i))
unfolding sum_to
sum_first zero f = add_comm 0 (f 0)
sum_first (suc n) f = ap (λ (x : ℕ). x ⊕ f (suc n)) (sum_first n f) ∙ add_assoc (f 0) (sum_to n (λ i. f (suc i))) (f (suc n))

apart : (a b c d : ℕ) → a ⊕ b ⊕ (c ⊕ d) ≡ a ⊕ c ⊕ (b ⊕ d)
apart a b c d = simp sums

sum_two : (n : ℕ) (f g : ℕ → ℕ) → sum_to n (λ i. f i ⊕ g i) ≡ sum_to n f ⊕ sum_to n g
unfolding sum_to
sum_two zero f g = sym (zero-add 0)
sum_two (suc n) f g = ap (λ (x : ℕ). x ⊕ (f n ⊕ g n)) (sum_two n f g) ∙ apart (sum_to n f) (sum_to n g) (f n) (g n)

sum_double : (n : ℕ) (f : ℕ → ℕ) → 2 ⊗ sum_to n f ≡ sum_to n (λ i. 2 ⊗ f i)
unfolding sum_to
sum_double zero f = mul-zero 2
sum_double (suc n) f = mul-add 2 (sum_to n f) (f n) ∙ ap (λ (x : ℕ). x ⊕ 2 ⊗ f n) (sum_double n f)

pub sum_append : (a n : ℕ) (f : ℕ → ℕ) → sum_to (a + n) f ≡ sum_to a f ⊕ sum_to n (λ j. f (a + j))
unfolding sum_to
sum_append a zero f = ap (λ (k : ℕ). sum_to k f) (ℕ-add-zero a) ∙ sym (add-zero (sum_to a f))
sum_append a (suc n) f =
    ap (λ (k : ℕ). sum_to k f) (add-suc a n) ∙ ap (λ (x : ℕ). x ⊕ f (a + n)) (sum_append a n f)
    ∙ add_assoc (sum_to a f) (sum_to n (λ j. f (a + j))) (f (a + n))

pub sum_none : (f : ℕ → ℕ) → sum_to 0 f ≡ 0
unfolding sum_to
sum_none f = refl

pub sum_more : (n : ℕ) (f : ℕ → ℕ) → sum_to (suc n) f ≡ sum_to n f ⊕ f n
unfolding sum_to
sum_more n f = refl

-- the definition
pub dot_sum : (m : ℕ) (f : ℕ → ℕ) (ys : List ℕ) → length ys ≡ m → dot (tabulate m f) ys ≡ sum_to m (λ i. f i ⊗ get_or ys i 0)
unfolding dot tabulate
dot_sum zero f ys e = sym (sum_none (λ i. f i ⊗ get_or ys i 0))
dot_sum (suc m) f [] e = absurd (suc-ne-zero m (sym e))
dot_sum (suc m) f (y ∷ ys) e =
    ap (λ (x : ℕ). f 0 ⊗ y ⊕ x) (dot_sum m (λ i. f (suc i)) ys (suc_inj e)) ∙ sym (sum_first m (λ i. f i ⊗ get_or (y ∷ ys) i 0))

-- ---- bits

doubled_ok : ℕ → Bool
doubled_ok x = eqb (2 ⊗ x) (doubled x)

two_doubled : (x : ℕ) → x < 256 → 2 ⊗ x ≡ doubled x
unfolding doubled_ok ◌⊗◌ shifted doubled ◌⊕◌
two_doubled x h = eqb→eq (2 ⊗ x) (doubled x) (below doubled_ok 256 tt x h)

times-lt : (d b : ℕ) → b < 256 → times d b < 256
times-lt zero b h = lit< tt
times-lt (suc d) b h = h

bits_lt : (k a b : ℕ) → b < 256 → shifted k a b < 256
unfolding shifted
bits_lt zero a b h = lit< tt
bits_lt (suc k) a b h = add-lt 8 (times (a % 2) b) (shifted k (a / 2) (doubled b)) (times-lt (a % 2) b h) (bits_lt k (a / 2) (doubled b) (doubled-lt b h))

-- the bits from b on: twice those from the next on, and bit b
bits_from : (k b c x : ℕ) → x < 256 → shifted (suc k) (halved b c) x ≡ 2 ⊗ shifted k (halved (suc b) c) x ⊕ times (halved b c % 2) x
unfolding shifted halved
bits_from k b c x h =
    add_comm (times (halved b c % 2) x) (shifted k (halved b c / 2) (doubled x))
    ∙ ap (λ (y : ℕ). y ⊕ times (halved b c % 2) x)
    (bits_doubled k (halved b c / 2) x ∙ sym (two_doubled (shifted k (halved b c / 2) x) (bits_lt k (halved b c / 2) x h)))

all_bits : (c x : ℕ) → x < 256 → shifted 8 (halved 0 c) x ≡ c ⊗ x
unfolding ◌⊗◌ halved
all_bits c x h = ap (shifted 8 c) (sym (mod-eq_of_lt h))

no_bits : (n : ℕ) (f g : ℕ → ℕ) → sum_to n (λ j. shifted 0 (f j) (g j)) ≡ 0
unfolding shifted
no_bits n f g = sum_zero n

fall_bits : (k b n : ℕ) (c x f : ℕ → ℕ) → ((j : ℕ) → x j < 256)
    → ((d : ℕ) → d < b + k → f d ≡ sum_to n (λ j. times (halved d (c j) % 2) (x j)))
    → fall k b f ≡ sum_to n (λ j. shifted k (halved b (c j)) (x j))
unfolding fall
fall_bits zero b n c x f hx h = sym (no_bits n (λ j. halved b (c j)) x)
fall_bits (suc k) b n c x f hx h =
    ap₂ (λ (y z : ℕ). 2 ⊗ y ⊕ z) (fall_bits k (suc b) n c x f hx (λ d l. h d (omega arith))) (h b (omega arith))
    ∙ ap (λ (y : ℕ). y ⊕ sum_to n (λ j. times (halved b (c j) % 2) (x j))) (sum_double n (λ j. shifted k (halved (suc b) (c j)) (x j)))
    ∙ sym (sum_two n (λ j. 2 ⊗ shifted k (halved (suc b) (c j)) (x j)) (λ j. times (halved b (c j) % 2) (x j)))
    ∙ sum_same n _ _ (λ j l. sym (bits_from k b (c j) (x j) (hx j)))

-- Horner's rule over the eight bits of n constants is the sum of their products
pub fall_products : (n : ℕ) (c x f : ℕ → ℕ) → ((j : ℕ) → x j < 256)
    → ((d : ℕ) → d < 8 → f d ≡ sum_to n (λ j. times (halved d (c j) % 2) (x j))) → fall 8 0 f ≡ sum_to n (λ j. c j ⊗ x j)
fall_products n c x f hx h = fall_bits 8 0 n c x f hx (λ d l. h d (omega arith)) ∙ sum_same n _ _ (λ j l. all_bits (c j) (x j) (hx j))

-- ---- steps of Horner's rule

pub fall_none : (b : ℕ) (f : ℕ → ℕ) → fall 0 b f ≡ 0
unfolding fall
fall_none b f = refl

pub fall_more : (n b : ℕ) (f : ℕ → ℕ) → fall (suc n) b f ≡ 2 ⊗ fall n (suc b) f ⊕ f b
unfolding fall
fall_more n b f = refl

-- one bit more, of eight
pub fall_turn : (b : ℕ) (f : ℕ → ℕ) → 0 < b → b ≤ 8 → 2 ⊗ fall (8 - b) b f ⊕ f (b - 1) ≡ fall (8 - (b - 1)) (b - 1) f
fall_turn b f h l =
    ap (λ (x : ℕ). 2 ⊗ fall (8 - b) x f ⊕ f (b - 1)) (omega arith) ∙ sym (fall_more (8 - b) (b - 1) f) ∙ ap (λ (x : ℕ). fall x (b - 1) f) (omega arith)

pub fall_done : (b : ℕ) (f : ℕ → ℕ) → b ≤ 0 → fall (8 - b) b f ≡ fall 8 0 f
fall_done b f h = let z : b ≡ 0 = omega arith in ap (λ (x : ℕ). fall (8 - x) x f) z
