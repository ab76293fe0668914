-- Lists joined, and a list cut into parts: how long they are, and that the two undo each other.
use mathlib.Core.Path.{◌≡◌, refl, sym, ap, ap₂, ◌∙◌}
use mathlib.Core.List.{List, [], ◌∷◌, ◌++◌, map, map-append, append_assoc}
use Prim.Native.Nat.{ℕ, zero, suc, ◌+◌, ◌*◌, ◌<◌}
use native.Mathlib.Nat.{zero-mul, suc-mul, add_comm, not-suc-le-zero, le_of_suc-le-suc}
use native.Mathlib.Omega.{arith}
use lib.ListN.{length, get_or, take, drop, length-append, length-drop, take-append-drop}
use lib.Seq.{length-take-le, take_at, drop_at}
use Rattle.points.specs.Folding.{joined, parts}

module _ {A : Type 0} where
  pub joined-append : (xss yss : List (List A)) → joined (xss ++ yss) ≡ joined xss ++ joined yss
  unfolding joined
  joined-append [] yss = refl
  joined-append (xs ∷ xss) yss = ap (λ (l : List A). xs ++ l) (joined-append xss yss) ∙ sym (append_assoc xs (joined xss) (joined yss))

  pub joined_length : (m : ℕ) (xss : List (List A)) → ((l : ℕ) → l < length xss → length (get_or xss l []) ≡ m) → length (joined xss) ≡ length xss * m
  unfolding joined
  joined_length m [] h = sym (zero-mul m)
  joined_length m (xs ∷ xss) h =
      length-append xs (joined xss) ∙ ap₂ ◌+◌ (h 0 (omega arith)) (joined_length m xss (λ l k. h (suc l) (omega arith))) ∙ add_comm m _
      ∙ sym (suc-mul (length xss) m)

  pub parts_count : (m n : ℕ) (xs : List A) → length (parts m n xs) ≡ n
  unfolding parts
  parts_count m zero xs = refl
  parts_count m (suc n) xs = ap suc (parts_count m n (drop m xs))

  pub parts_each : (m n : ℕ) (xs : List A) → length xs ≡ n * m → (i : ℕ) → i < length (parts m n xs) → length (get_or (parts m n xs) i []) ≡ m
  unfolding parts
  parts_each m zero xs e i h = absurd (not-suc-le-zero h)
  parts_each m (suc n) xs e zero h = length-take-le m xs (omega arith)
  parts_each m (suc n) xs e (suc i) h = parts_each m n (drop m xs) (length-drop m xs ∙ omega arith) i (le_of_suc-le-suc h)

  pub parts_joined : (m : ℕ) (xss : List (List A)) → ((l : ℕ) → l < length xss → length (get_or xss l []) ≡ m) → parts m (length xss) (joined xss) ≡ xss
  unfolding parts joined
  parts_joined m [] h = refl
  parts_joined m (xs ∷ xss) h =
      let e : length xs ≡ m = h 0 (omega arith) in
      ap₂ (λ (x y : List A). x ∷ parts m (length xss) y) (take_at xs (joined xss) m e) (drop_at xs (joined xss) m e)
      ∙ ap (λ (y : List (List A)). xs ∷ y) (parts_joined m xss (λ l k. h (suc l) (omega arith)))

  -- a list is its parts joined
  pub joined_parts : (m n : ℕ) (xs : List A) → length xs ≡ n * m → joined (parts m n xs) ≡ xs
  unfolding parts joined
  joined_parts m zero [] e = refl
  joined_parts m zero (x ∷ xs) e = absurd (omega arith)
  joined_parts m (suc n) xs e =
      ap (λ (y : List A). take m xs ++ y) (joined_parts m n (drop m xs) (length-drop m xs ∙ omega arith)) ∙ take-append-drop m xs

-- ---- the same function on every element

pub map_joined : {A B : Type 0} (u : A → B) (xss : List (List A)) → map u (joined xss) ≡ joined (map (λ xs. map u xs) xss)
unfolding joined
map_joined u [] = refl
map_joined {B = B} u (xs ∷ xss) = map-append u xs (joined xss) ∙ ap (λ (ys : List B). map u xs ++ ys) (map_joined u xss)

pub get_or_mapped : {A B : Type 0} (u : A → B) (d : A) (e : B) (xs : List A) (i : ℕ) → i < length xs → get_or (map u xs) i e ≡ u (get_or xs i d)
get_or_mapped u d e [] i h = absurd (not-suc-le-zero h)
get_or_mapped u d e (x ∷ xs) zero h = refl
get_or_mapped u d e (x ∷ xs) (suc i) h = get_or_mapped u d e xs i (le_of_suc-le-suc h)
