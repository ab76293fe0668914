-- A loop that stores f of two bytes at each place in turn: after q turns the first list is f onto it of the q first bytes of the second.
use mathlib.Core.Path.{◌≡◌, refl, sym, ap, ap₂, ◌∙◌}
use mathlib.Core.List.{List, [], ◌∷◌, map}
use mathlib.Core.Logic.{◌⊎◌, inl, inr}
use Prim.Native.Nat.{ℕ, zero, suc, ◌+◌, ◌<◌, ◌≤◌}
use native.Mathlib.Nat.{le_of_suc-le-suc, not-suc-le-zero}
use native.Mathlib.Numerals.{add-one}
use native.Mathlib.Omega.{arith}
use lib.ListN.{length, get_or, set, take}
use Rattle.lanes.specs.Lanes.{onto, both}

pub onto-nil : (f : ℕ → ℕ → ℕ) (xs : List ℕ) → onto f xs [] ≡ xs
unfolding onto
onto-nil f [] = refl
onto-nil f (x ∷ xs) = refl

pub onto-length : (f : ℕ → ℕ → ℕ) (xs ys : List ℕ) → length (onto f xs ys) ≡ length xs
unfolding onto
onto-length f [] ys = refl
onto-length f (x ∷ xs) [] = refl
onto-length f (x ∷ xs) (y ∷ ys) = ap suc (onto-length f xs ys)

-- a place within both lists
pub onto_at : (f : ℕ → ℕ → ℕ) (xs ys : List ℕ) (i : ℕ) → i < length xs → i < length ys
    → get_or (onto f xs ys) i 0 ≡ f (get_or xs i 0) (get_or ys i 0)
unfolding onto
onto_at f [] ys i hx hy = absurd (not-suc-le-zero hx)
onto_at f (x ∷ xs) [] i hx hy = absurd (not-suc-le-zero hy)
onto_at f (x ∷ xs) (y ∷ ys) zero hx hy = refl
onto_at f (x ∷ xs) (y ∷ ys) (suc i) hx hy = onto_at f xs ys i (le_of_suc-le-suc hx) (le_of_suc-le-suc hy)

-- a place past the second list
pub onto_past : (f : ℕ → ℕ → ℕ) (xs ys : List ℕ) (i : ℕ) → length ys ≤ i → get_or (onto f xs ys) i 0 ≡ get_or xs i 0
unfolding onto
onto_past f [] ys i h = refl
onto_past f (x ∷ xs) [] i h = refl
onto_past f (x ∷ xs) (y ∷ ys) zero h = absurd (not-suc-le-zero h)
onto_past f (x ∷ xs) (y ∷ ys) (suc i) h = onto_past f xs ys i (le_of_suc-le-suc h)

-- f of the first alone, along the list itself
pub onto-map : (f : ℕ → ℕ) (xs : List ℕ) → onto (λ (x y : ℕ). f x) xs xs ≡ map f xs
unfolding onto
onto-map f [] = refl
onto-map f (x ∷ xs) = ap (λ (l : List ℕ). f x ∷ l) (onto-map f xs)

-- two lists taken together
pub both_at : (f : ℕ → ℕ → ℕ) (xs ys : List ℕ) (i : ℕ) → i < length xs → i < length ys → get_or (both f xs ys) i 0 ≡ f (get_or xs i 0) (get_or ys i 0)
unfolding both
both_at f [] ys i hx hy = absurd (not-suc-le-zero hx)
both_at f (x ∷ xs) [] i hx hy = absurd (not-suc-le-zero hy)
both_at f (x ∷ xs) (y ∷ ys) zero hx hy = refl
both_at f (x ∷ xs) (y ∷ ys) (suc i) hx hy = both_at f xs ys i (le_of_suc-le-suc hx) (le_of_suc-le-suc hy)

pub both_long : (f : ℕ → ℕ → ℕ) (xs ys : List ℕ) (n : ℕ) → n ≤ length xs → n ≤ length ys → n ≤ length (both f xs ys)
unfolding both
both_long f [] ys n hx hy = hx
both_long f (x ∷ xs) [] n hx hy = hy
both_long f (x ∷ xs) (y ∷ ys) zero hx hy = omega arith
both_long f (x ∷ xs) (y ∷ ys) (suc n) hx hy = omega (arith, both_long f xs ys n (le_of_suc-le-suc hx) (le_of_suc-le-suc hy))

both_first : (f : ℕ → ℕ → ℕ) (xs ys : List ℕ) → length (both f xs ys) ≤ length xs
unfolding both
both_first f [] ys = omega arith
both_first f (x ∷ xs) [] = omega arith
both_first f (x ∷ xs) (y ∷ ys) = omega (arith, both_first f xs ys)

both_second : (f : ℕ → ℕ → ℕ) (xs ys : List ℕ) → length (both f xs ys) ≤ length ys
unfolding both
both_second f [] ys = omega arith
both_second f (x ∷ xs) [] = omega arith
both_second f (x ∷ xs) (y ∷ ys) = omega (arith, both_second f xs ys)

both_short : (f : ℕ → ℕ → ℕ) (xs ys : List ℕ) (n : ℕ) → (length xs ≤ n) ⊎ (length ys ≤ n) → length (both f xs ys) ≤ n
both_short f xs ys n (inl h) = omega (arith, both_first f xs ys)
both_short f xs ys n (inr h) = omega (arith, both_second f xs ys)

-- the end of the shortest of three
pub shortest : (f : ℕ → ℕ → ℕ) (zs xs ys : List ℕ) (m n : ℕ) → (length xs ≤ m) ⊎ (length ys ≤ m) → (length zs ≤ n) ⊎ (m ≤ n)
    → (length zs ≤ n) ⊎ (length (both f xs ys) ≤ n)
shortest f zs xs ys m n h (inl k) = inl k
shortest f zs xs ys m n h (inr k) = inr (omega (arith, both_short f xs ys m h))

-- ---- the loop

store : (f : ℕ → ℕ → ℕ) (xs ys : List ℕ) (q : ℕ) → q < length xs → q < length ys
    → set (onto f xs (take q ys)) q (f (get_or xs q 0) (get_or ys q 0)) ≡ onto f xs (take (suc q) ys)
unfolding onto
store f [] ys q hx hy = absurd (not-suc-le-zero hx)
store f (x ∷ xs) [] q hx hy = absurd (not-suc-le-zero hy)
store f (x ∷ xs) (y ∷ ys) zero hx hy = ap (λ (l : List ℕ). f x y ∷ l) (sym (onto-nil f xs))
store f (x ∷ xs) (y ∷ ys) (suc q) hx hy = ap (λ (l : List ℕ). f x y ∷ l) (store f xs ys q (le_of_suc-le-suc hx) (le_of_suc-le-suc hy))

unread : (f : ℕ → ℕ → ℕ) (xs ys : List ℕ) (q : ℕ) → get_or (onto f xs (take q ys)) q 0 ≡ get_or xs q 0
unfolding onto
unread f [] ys q = refl
unread f (x ∷ xs) ys zero = refl
unread f (x ∷ xs) [] (suc q) = refl
unread f (x ∷ xs) (y ∷ ys) (suc q) = unread f xs ys q

all_turns : (f : ℕ → ℕ → ℕ) (xs ys : List ℕ) (q : ℕ) → (length xs ≤ q) ⊎ (length ys ≤ q) → onto f xs (take q ys) ≡ onto f xs ys
unfolding onto
all_turns f [] ys q h = refl
all_turns f (x ∷ xs) [] zero h = refl
all_turns f (x ∷ xs) [] (suc q) h = refl
all_turns f (x ∷ xs) (y ∷ ys) zero (inl h) = absurd (not-suc-le-zero h)
all_turns f (x ∷ xs) (y ∷ ys) zero (inr h) = absurd (not-suc-le-zero h)
all_turns f (x ∷ xs) (y ∷ ys) (suc q) (inl h) = ap (λ (l : List ℕ). f x y ∷ l) (all_turns f xs ys q (inl (le_of_suc-le-suc h)))
all_turns f (x ∷ xs) (y ∷ ys) (suc q) (inr h) = ap (λ (l : List ℕ). f x y ∷ l) (all_turns f xs ys q (inr (le_of_suc-le-suc h)))

-- what the first list, at first xs, is after q turns
pub record Turned (f : ℕ → ℕ → ℕ) (xs ys zs : List ℕ) (q : ℕ) : Type 0 where
  pub is : zs ≡ onto f xs (take q ys)
  pub long : length zs ≡ length xs

pub start : (f : ℕ → ℕ → ℕ) (xs ys : List ℕ) → Turned f xs ys xs 0
start f xs ys = record { is = sym (onto-nil f xs); long = refl }

pub turn : {f : ℕ → ℕ → ℕ} {xs ys zs : List ℕ} {q : ℕ} (v : ℕ) → Turned f xs ys zs q → q < length zs → q < length ys
    → v ≡ f (get_or zs q 0) (get_or ys q 0) → Turned f xs ys (set zs q v) (q + 1)
turn {f} {xs} {ys} {zs} {q} v t hx hy e =
    let same : v ≡ f (get_or xs q 0) (get_or ys q 0) = e ∙ ap (λ (x : ℕ). f x (get_or ys q 0)) (ap (λ (l : List ℕ). get_or l q 0) t.is ∙ unread f xs ys q) in
    let stored : set zs q v ≡ onto f xs (take (q + 1) ys) =
    ap₂ (λ (l : List ℕ) (x : ℕ). set l q x) t.is same ∙ store f xs ys q (omega (arith, t.long)) hy
    ∙ ap (λ (n : ℕ). onto f xs (take n ys)) (sym (add-one q)) in
    record { is = stored; long = ap length stored ∙ onto-length f xs (take (q + 1) ys) }

pub done : {f : ℕ → ℕ → ℕ} {xs ys zs : List ℕ} {q n : ℕ} → Turned f xs ys zs q → n ≤ q
    → (length xs ≤ n) ⊎ (length ys ≤ n) → zs ≡ onto f xs ys
done {f} {xs} {ys} {zs} {q} {n} t h (inl l) = t.is ∙ all_turns f xs ys q (inl (omega arith))
done {f} {xs} {ys} {zs} {q} {n} t h (inr l) = t.is ∙ all_turns f xs ys q (inr (omega arith))

-- ---- f of each byte

pub map_at : (f : ℕ → ℕ) (xs : List ℕ) (i : ℕ) → i < length xs → get_or (map f xs) i 0 ≡ f (get_or xs i 0)
map_at f [] i h = absurd (not-suc-le-zero h)
map_at f (x ∷ xs) zero h = refl
map_at f (x ∷ xs) (suc i) h = map_at f xs i (le_of_suc-le-suc h)
