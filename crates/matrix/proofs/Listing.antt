-- One row alone: lists of the columns whose constant has a bit, made number by number and bit by bit, and the row by them.
use mathlib.Core.Path.{◌≡◌, refl, sym, ap, ap₂, ◌∙◌, subst}
use mathlib.Core.List.{List, map}
use mathlib.Core.Logic.{inl, ⊎_elim}
use Prim.Native.Nat.{ℕ, zero, suc, ◌+◌, ◌-◌, ◌*◌, ◌/◌, ◌%◌, ◌<◌, ◌≤◌}
use native.Mathlib.Numerals.{add-one}
use native.Mathlib.Nat.{not-suc-le-zero}
use native.Mathlib.Omega.{arith}
use lib.ListN.{length, get_or, set, replicate, length-replicate}
use lib.Seq.{get_or-set_same, get_or-set_other}
use Rattle.field.specs.Field.{◌⊕◌, ◌⊗◌, times}
use Rattle.field.specs.Bytes.{Bytes}
use Rattle.field.proofs.Xor.{add-zero, add_assoc}
use Rattle.field.proofs.Cases.{below_or_from}
use Rattle.lanes.specs.Lanes.{onto}
use Rattle.lanes.proofs.Onto.{onto_at, map_at}
use Rattle.matrix.specs.Sums.{sum_to, halved, fall, Inside, Part, up_to, Held, Among}
use Rattle.matrix.specs.Listing.{Listed, Lists, AllInside, listed}
use Rattle.matrix.proofs.Horner.{sum_same, sum_none, sum_more, fall_products}
use Rattle.matrix.proofs.Digits.{halved_none, halved_more}
use Rattle.matrix.proofs.Parts.{get_or_zeros}

-- ---- a list

pub listed_start : (bit : ℕ → ℕ) (cs : List ℕ) (at : ℕ) (ls : List ℕ) → Listed bit cs 0 at 0 ls
listed_start bit cs at ls =
    record { few = omega arith; among = λ j h. absurd (not-suc-le-zero h); sum = λ x. sum_none _ ∙ sym (sum_none _) }

-- one number more, which is counted where it has the bit
pub listed_turn : (bit : ℕ → ℕ) (cs : List ℕ) (at i n d : ℕ) (ls : List ℕ) → d ≡ bit i → d < 2 → at + n < length ls → Listed bit cs i at n ls
    → Listed bit cs (i + 1) at (n + d) (set ls (at + n) (get_or cs i 0))
listed_turn bit cs at i n d ls e two fits h = record { few = omega (arith, h.few); among = among; sum = λ x. sum x d two e }
  where
    now : List ℕ
    now = set ls (at + n) (get_or cs i 0)

    keep : (j : ℕ) → j < n → get_or now (at + j) 0 ≡ get_or ls (at + j) 0
    keep j l = get_or-set_other ls (at + n) (at + j) (get_or cs i 0) 0 (λ z. omega arith)

    last : get_or now (at + n) 0 ≡ get_or cs i 0
    last = get_or-set_same ls (at + n) (get_or cs i 0) 0 fits

    among : (j : ℕ) → j < n + d → Among cs (i + 1) (get_or now (at + j) 0)
    among j l = ⊎_elim old new (below_or_from j n)
      where
        old : j < n → Among cs (i + 1) (get_or now (at + j) 0)
        old a = let was = h.among j a in record { place = was.place; below = omega (arith, was.below); is = was.is ∙ sym (keep j a) }

        new : n ≤ j → Among cs (i + 1) (get_or now (at + j) 0)
        new a =
            let same : n ≡ j = omega arith in
            record { place = i; below = omega arith; is = sym last ∙ ap (λ (k : ℕ). get_or now (at + k) 0) same }

    sum : (x : ℕ → ℕ) (b : ℕ) → b < 2 → b ≡ bit i → sum_to (n + b) (λ j. x (get_or now (at + j) 0)) ≡ sum_to (i + 1) (λ k. times (bit k) (x (get_or cs k 0)))
    sum x b l z = go b l z ∙ sym (ap (λ (k : ℕ). sum_to k term) (add-one i) ∙ sum_more i term)
      where
        term : ℕ → ℕ
        term k = times (bit k) (x (get_or cs k 0))

        before : sum_to n (λ j. x (get_or now (at + j) 0)) ≡ sum_to i term
        before = sum_same n _ _ (λ j k. ap x (keep j k)) ∙ h.sum x

        go : (c : ℕ) → c < 2 → c ≡ bit i → sum_to (n + c) (λ j. x (get_or now (at + j) 0)) ≡ sum_to i term ⊕ times (bit i) (x (get_or cs i 0))
        go zero k y =
            let none : n + 0 ≡ n = omega arith in
            ap (λ (k : ℕ). sum_to k (λ j. x (get_or now (at + j) 0))) none ∙ before
            ∙ sym (ap (λ (t : ℕ). sum_to i term ⊕ times t (x (get_or cs i 0))) (sym y) ∙ add-zero _)
        go (suc zero) k y =
            ap (λ (k : ℕ). sum_to k (λ j. x (get_or now (at + j) 0))) (add-one n) ∙ sum_more n _
            ∙ ap₂ ◌⊕◌ before (ap x last) ∙ ap (λ (t : ℕ). sum_to i term ⊕ times t (x (get_or cs i 0))) y
        go (suc (suc c)) k y = omega arith

pub listed_done : (bit : ℕ → ℕ) (cs : List ℕ) (i m at n : ℕ) (ls : List ℕ) → i ≡ m → Listed bit cs i at n ls → Listed bit cs m at n ls
listed_done bit cs i m at n ls e h = subst (λ (x : ℕ). Listed bit cs x at n ls) e h

-- the same bits, and a list that holds the same numbers there
listed_same : (bit bit' : ℕ → ℕ) (cs : List ℕ) (m at n : ℕ) (ls ms : List ℕ) → ((i : ℕ) → i < m → bit i ≡ bit' i)
    → ((j : ℕ) → j < n → get_or ms (at + j) 0 ≡ get_or ls (at + j) 0) → Listed bit cs m at n ls → Listed bit' cs m at n ms
listed_same bit bit' cs m at n ls ms same kept h =
    record {
      few = h.few;
      among = λ j l. subst (Among cs m) (sym (kept j l)) (h.among j l);
      sum = λ x. sum_same n _ _ (λ j l. ap x (kept j l)) ∙ h.sum x ∙ sum_same m _ _ (λ i l. ap (λ (d : ℕ). times d (x (get_or cs i 0))) (same i l));
    }

-- ---- the lists of all bits

-- p holds constants less their b lowest bits
pub record Rest (ws : List ℕ) (b : ℕ) (p : List ℕ) : Type 0 where
  pub at : (i : ℕ) → i < length ws → get_or p i 0 ≡ halved b (get_or ws i 0)

pub rest_start : (ws a p : List ℕ) → length ws ≤ length a → p ≡ onto (λ (x y : ℕ). y) a ws → Rest ws 0 p
rest_start ws a p long is =
    record { at = λ i l. ap (λ (x : List ℕ). get_or x i 0) is ∙ onto_at (λ (x y : ℕ). y) a ws i (omega arith) l ∙ halved_none (get_or ws i 0) }

pub rest_turn : (ws p q : List ℕ) (b : ℕ) → length ws ≤ length p → q ≡ map (λ (x : ℕ). x / 2) p → Rest ws b p → Rest ws (b + 1) q
rest_turn ws p q b long is h = record { at = at }
  where
    at : (i : ℕ) → i < length ws → get_or q i 0 ≡ halved (b + 1) (get_or ws i 0)
    at i l =
        ap (λ (x : List ℕ). get_or x i 0) is ∙ map_at (λ (x : ℕ). x / 2) p i (omega arith) ∙ halved_more b (get_or ws i 0) (get_or p i 0) (h.at i l)

pub lists_turn : (ws cs p ns ls ms : List ℕ) (b n : ℕ) → length ws ≡ length cs → length cs ≤ 255 → b < length ns → Rest ws b p → Lists ws cs b ns ls
    → Listed (λ i. get_or p i 0 % 2) cs (length cs) (b * 256) n ms → ((i : ℕ) → i < b * 256 → get_or ms i 0 ≡ get_or ls i 0)
    → Lists ws cs (b + 1) (set ns b n) ms
lists_turn ws cs p ns ls ms b n long few fits rest h new kept = record { at = λ d less. ⊎_elim (old d) (last d less) (below_or_from d b) }
  where
    Of : ℕ → ℕ → Type 0
    Of c k = Listed (λ i. halved c (get_or ws i 0) % 2) cs (length cs) (c * 256) k ms

    old : (d : ℕ) → d < b → Of d (get_or (set ns b n) d 0)
    old d a =
        let far : (j : ℕ) → j < get_or ns d 0
        → get_or ms (d * 256 + j) 0 ≡ get_or ls (d * 256 + j) 0 = λ j l. kept (d * 256 + j) (omega (arith, (h.at d a).few)) in
        subst (Of d) (sym (get_or-set_other ns b d n 0 (λ z. omega arith)))
        (listed_same _ _ cs (length cs) (d * 256) (get_or ns d 0) ls ms (λ i l. refl) far (h.at d a))

    last : (d : ℕ) → d < b + 1 → b ≤ d → Of d (get_or (set ns b n) d 0)
    last d less a =
        let same : b ≡ d = omega arith in
        let bits : (i : ℕ) → i < length cs → get_or p i 0 % 2 ≡ halved b (get_or ws i 0) % 2 = λ i l. ap (λ (x : ℕ). x % 2) (rest.at i (omega arith)) in
        let here : Of b n = listed_same _ _ cs (length cs) (b * 256) n ms ms bits (λ j l. refl) new in
        subst (λ (c : ℕ). Of c (get_or (set ns b n) c 0)) same (subst (Of b) (sym (get_or-set_same ns b n 0 fits)) here)

-- ---- the row

-- the row is there at the places below e
pub record RowBelow (ws cs xs : List ℕ) (from stride e : ℕ) (ps : List ℕ) : Type 0 where
  pub at : (p : ℕ) → p < e → get_or ps p 0 ≡ up_to ws cs xs from stride (length cs) 0 p

module _ (ws cs xs : List ℕ) (from stride count : ℕ) (few : length cs ≤ 255) (ns ls : List ℕ) (lists : Lists ws cs 8 ns ls) where
  -- what is listed lies in the columns
  pub lists_inside : (at w : ℕ) → at + w ≤ count → Inside xs cs from stride count → AllInside xs (from + at) stride ns ls w
  lists_inside at w fits inside b hb = (omega (arith, (lists.at b hb).few), lies)
    where
      lies : (j : ℕ) → j < get_or ns b 0 → from + at + get_or ls (b * 256 + j) 0 * stride + w ≤ length xs
      lies j l =
          let one = (lists.at b hb).among j l in
          omega (arith, inside one.place one.below, ap (λ (c : ℕ). c * stride) one.is)

  listed_value : (at q : ℕ) → Bytes xs
      → fall 8 0 (λ b. listed xs (from + at) stride ls (b * 256) (get_or ns b 0) q) ≡ up_to ws cs xs from stride (length cs) 0 (at + q)
  listed_value at q bytes =
      fall_products (length cs) (λ i. get_or ws i 0) (λ i. get_or xs (from + at + get_or cs i 0 * stride + q) 0) _ (λ i. bytes _)
      (λ d hd. (lists.at d hd).sum (λ c. get_or xs (from + at + c * stride + q) 0))
      ∙ sum_same (length cs) _ _ (λ i l. ap₂ (λ (a b : ℕ). get_or ws a 0 ⊗ get_or xs b 0) (omega arith) (omega arith))

  pub row_more : (at w e : ℕ) (y ps qs : List ℕ) → Bytes xs → w ≤ 64 → at + w ≡ e
      → ((q : ℕ) → q < w → get_or y q 0 ≡ fall 8 0 (λ b. listed xs (from + at) stride ls (b * 256) (get_or ns b 0) q))
      → Part (λ (a b : ℕ). b) ps at w y qs → RowBelow ws cs xs from stride at ps → RowBelow ws cs xs from stride e qs
  row_more at w e y ps qs bytes most ends value put h = record { at = λ p less. ⊎_elim (old p) (new p less) (below_or_from p at) }
    where
      old : (p : ℕ) → p < at → get_or qs p 0 ≡ up_to ws cs xs from stride (length cs) 0 p
      old p a = put.outside p (inl a) ∙ h.at p a

      new : (p : ℕ) → p < e → at ≤ p → get_or qs p 0 ≡ up_to ws cs xs from stride (length cs) 0 p
      new p less a =
          let place : at + (p - at) ≡ p = omega arith in
          let inside : p - at < w = omega arith in
          subst (λ (k : ℕ). get_or qs k 0 ≡ up_to ws cs xs from stride (length cs) 0 k) place
          (put.inside (p - at) inside ∙ value (p - at) inside ∙ listed_value at (p - at) bytes)

pub row_all : (ws cs xs : List ℕ) (from stride count e : ℕ) (ps : List ℕ) → count ≤ e → RowBelow ws cs xs from stride e ps
    → Held ws cs xs from stride count 1 (length cs) ps
row_all ws cs xs from stride count e ps all h = record { at = at }
  where
    at : (s p : ℕ) → s < 1 → p < count → 0 < length cs → get_or ps (s * count + p) 0 ≡ up_to ws cs xs from stride (length cs) s p
    at zero p hs hp some = let place : 0 * count + p ≡ p = omega arith in ap (λ (k : ℕ). get_or ps k 0) place ∙ h.at p (omega arith)
    at (suc s) p hs hp some = omega arith

-- as the rows of a matrix of one row
pub held_one : (ms cs xs : List ℕ) (from stride count rows i : ℕ) (ps : List ℕ) → rows ≡ 1 → Held ms cs xs from stride count 1 i ps
    → Held ms cs xs from stride count rows i ps
held_one ms cs xs from stride count rows i ps one h = subst (λ (r : ℕ). Held ms cs xs from stride count r i ps) (sym one) h

-- ---- the columns of one bit

-- y holds what y₀ did, with the first j columns of the list
pub record Added (xs ls : List ℕ) (from stride at w j : ℕ) (y₀ y : List ℕ) : Type 0 where
  pub sum : (q : ℕ) → q < w → get_or y q 0 ≡ get_or y₀ q 0 ⊕ listed xs from stride ls at j q

module _ (xs ls : List ℕ) (from stride at w : ℕ) where
  pub added_start : (y : List ℕ) → Added xs ls from stride at w 0 y y
  added_start y = record { sum = λ q l. sym (ap (λ (x : ℕ). get_or y q 0 ⊕ x) (sum_none _) ∙ add-zero (get_or y q 0)) }

  pub added_turn : (j o : ℕ) (y₀ y d z : List ℕ) → w ≤ 64 → length y ≡ 64 → length d ≡ 64 → o ≡ from + get_or ls (at + j) 0 * stride
      → ((q : ℕ) → q < w → get_or d q 0 ≡ get_or xs (o + q) 0) → Added xs ls from stride at w j y₀ y → z ≡ onto (λ (x y : ℕ). x ⊕ y) y d
      → Added xs ls from stride at w (j + 1) y₀ z
  added_turn j o y₀ y d z most long wide e read h is = record { sum = sum }
    where
      sum : (q : ℕ) → q < w → get_or z q 0 ≡ get_or y₀ q 0 ⊕ listed xs from stride ls at (j + 1) q
      sum q l =
          ap (λ (x : List ℕ). get_or x q 0) is ∙ onto_at (λ (x y : ℕ). x ⊕ y) y d q (omega arith) (omega arith)
          ∙ ap₂ ◌⊕◌ (h.sum q l) (read q l ∙ ap (λ (x : ℕ). get_or xs (x + q) 0) e)
          ∙ add_assoc (get_or y₀ q 0) (listed xs from stride ls at j q) (term j)
          ∙ ap (λ (x : ℕ). get_or y₀ q 0 ⊕ x) (sym (sum_more j term) ∙ ap (λ (x : ℕ). sum_to x term) (sym (add-one j)))
        where
          term : ℕ → ℕ
          term i = get_or xs (from + get_or ls (at + i) 0 * stride + q) 0

  pub added_done : (n j : ℕ) (y₀ y₁ y : List ℕ) → w ≤ 64 → j ≡ n → length y₀ ≡ 64 → y₁ ≡ onto (λ (x y : ℕ). 2 ⊗ x ⊕ y) y₀ (replicate 64 0)
      → Added xs ls from stride at w j y₁ y → (q : ℕ) → q < w → get_or y q 0 ≡ 2 ⊗ get_or y₀ q 0 ⊕ listed xs from stride ls at n q
  added_done n j y₀ y₁ y most same long is h q l =
      h.sum q l ∙ ap₂ (λ (a b : ℕ). a ⊕ listed xs from stride ls at b q) twice same
    where
      twice : get_or y₁ q 0 ≡ 2 ⊗ get_or y₀ q 0
      twice =
          ap (λ (x : List ℕ). get_or x q 0) is
          ∙ onto_at (λ (x y : ℕ). 2 ⊗ x ⊕ y) y₀ (replicate 64 0) q (omega arith) (omega (arith, length-replicate {A = ℕ} 64 0))
          ∙ ap (λ (x : ℕ). 2 ⊗ get_or y₀ q 0 ⊕ x) (get_or_zeros 64 q) ∙ add-zero (2 ⊗ get_or y₀ q 0)
