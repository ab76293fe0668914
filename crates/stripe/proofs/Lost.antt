-- A list of lost positions falls into lost data columns, below k, and lost rows, from k on; together they are as many as the list.
use mathlib.Core.Path.{◌≡◌, refl, sym, ap, ap₂, ◌∙◌, subst}
use mathlib.Core.Bool.{Bool, true, false, cond, ◌||◌}
use mathlib.Core.Logic.{◌⊎◌, inl, inr}
use mathlib.Core.List.{List, [], ◌∷◌}
use Prim.Native.Nat.{ℕ, zero, suc, ◌+◌, ◌-◌, ◌<◌, ◌≤◌}
use native.Mathlib.Nat.{not-suc-le-zero, le_of_suc-le-suc}
use native.Mathlib.Numerals.{add-one}
use native.Mathlib.Omega.{arith}
use lib.Dec.{ltb, eqb}
use lib.ListN.{length, get_or, drop, drop_of_length-le}
use lib.Seq.{drop-cons}
use borrow.Author.Tests.{lt-ltb, le-ltb, eq-eqb, ne_eqb}
use Rattle.field.proofs.Cases.{below_or_from}
use Rattle.std.specs.List.{list_any}
use Rattle.std.specs.Prelude.{nat_eq}
use Rattle.stripe.specs.Stripe.{among, Ascending}
use Rattle.stripe.proofs.Survivors.{count_true, count_same, count_none, count_more}

-- the positions below k
unfoldable pub lost_data : ℕ → List ℕ → List ℕ
lost_data k [] = []
lost_data k (e ∷ es) = cond (ltb e k) (e ∷ lost_data k es) (lost_data k es)

-- row j is lost: the parity column at position k + j
abbrev pub row_lost : ℕ → List ℕ → ℕ → Bool
row_lost k es j = among (k + j) es

-- ---- positions in an ascending list

pub ascending_from : (a b n : ℕ) (es : List ℕ) → a ≤ b → Ascending b n es → Ascending a n es
unfolding Ascending
ascending_from a b n [] h w = tt
ascending_from a b n (e ∷ es) h w = (omega (arith, w.0), w.1, w.2)

pub ascending_at : (v a n : ℕ) (es : List ℕ) → Ascending a n es → v < length es → (a ≤ get_or es v 0) × (get_or es v 0 < n)
unfolding Ascending
ascending_at v a n [] w l = absurd (not-suc-le-zero l)
ascending_at zero a n (e ∷ es) w l = (w.0, w.1)
ascending_at (suc v) a n (e ∷ es) w l =
    let h : (suc e ≤ get_or es v 0) × (get_or es v 0 < n) = ascending_at v (suc e) n es w.2 (le_of_suc-le-suc l) in
    (omega (arith, w.0, h.0), h.1)

-- nothing below its first position stands in it
pub not_among : (c a n : ℕ) (es : List ℕ) → Ascending a n es → c < a → among c es ≡ false
unfolding Ascending among
not_among c a n [] w l = refl
not_among c a n (e ∷ es) w l =
    ap (λ (b : Bool). b || among c es) (ne_eqb c e (λ x. omega (arith, w.0))) ∙ not_among c (suc e) n es w.2 (omega (arith, w.0))

pub among-nil : (c : ℕ) → among c [] ≡ false
unfolding among
among-nil c = refl

-- the library's search for the position
pub any_among : (c : ℕ) (es : List ℕ) → list_any (λ e. nat_eq c e) es ≡ among c es
unfolding among
any_among c [] = refl
any_among c (e ∷ es) = ap (λ (b : Bool). eqb c e || b) (any_among c es)

pub among_other : (c e : ℕ) (es : List ℕ) → (c ≡ e → ⊥) → among c (e ∷ es) ≡ among c es
unfolding among
among_other c e es h = ap (λ (b : Bool). b || among c es) (ne_eqb c e h)

pub among_first : (e : ℕ) (es : List ℕ) → among e (e ∷ es) ≡ true
unfolding among
among_first e es = ap (λ (b : Bool). b || among e es) (eq-eqb e e refl)

among_more : (c e : ℕ) (ds es : List ℕ) → among c ds ≡ among c es → among c (e ∷ ds) ≡ among c (e ∷ es)
unfolding among
among_more c e ds es h = ap (λ (b : Bool). eqb c e || b) h

-- ---- a position looked for in a list, from its i-th entry on

module _ (es : List ℕ) (i c : ℕ) where
  among_here : i < length es → among c (drop i es) ≡ among c (get_or es i 0 ∷ drop (i + 1) es)
  among_here l = ap (among c) (drop-cons es i 0 l) ∙ ap (λ (n : ℕ). among c (get_or es i 0 ∷ drop n es)) (sym (add-one i))

  pub among_found : i < length es → get_or es i 0 ≡ c → among c (drop i es) ≡ true
  among_found l e = among_here l ∙ ap (λ (x : ℕ). among c (x ∷ drop (i + 1) es)) e ∙ among_first c (drop (i + 1) es)

  pub among_turn : i < length es → (get_or es i 0 ≡ c → ⊥) → among c (drop i es) ≡ among c (drop (i + 1) es)
  among_turn l e = among_here l ∙ among_other c (get_or es i 0) (drop (i + 1) es) (λ x. e (sym x))

  pub among_none : length es ≤ i → among c (drop i es) ≡ false
  among_none l = ap (among c) (drop_of_length-le es l) ∙ among-nil c

-- ---- lost data columns

pub lost_data_nil : (k : ℕ) → lost_data k [] ≡ []
unfolding lost_data
lost_data_nil k = refl

pub lost_data_below : (k e : ℕ) (es : List ℕ) → e < k → lost_data k (e ∷ es) ≡ e ∷ lost_data k es
unfolding lost_data
lost_data_below k e es h = ap (λ (b : Bool). cond b (e ∷ lost_data k es) (lost_data k es)) (lt-ltb e k h)

pub lost_data_from : (k e : ℕ) (es : List ℕ) → k ≤ e → lost_data k (e ∷ es) ≡ lost_data k es
unfolding lost_data
lost_data_from k e es h = ap (λ (b : Bool). cond b (e ∷ lost_data k es) (lost_data k es)) (le-ltb e k h)

pub lost_data_ascending : (k a n : ℕ) (es : List ℕ) → Ascending a n es → Ascending a k (lost_data k es)
unfolding Ascending
lost_data_ascending k a n [] w = subst (Ascending a k) (sym (lost_data_nil k)) tt
lost_data_ascending k a n (e ∷ es) w = go (below_or_from e k) (lost_data_ascending k (suc e) n es w.2)
  where
    go : (e < k) ⊎ (k ≤ e) → Ascending (suc e) k (lost_data k es) → Ascending a k (lost_data k (e ∷ es))
    go (inl l) rest = subst (Ascending a k) (sym (lost_data_below k e es l)) (w.0, l, rest)
    go (inr m) rest =
        subst (Ascending a k) (sym (lost_data_from k e es m)) (ascending_from a (suc e) k (lost_data k es) (omega (arith, w.0)) rest)

pub lost_data_among : (k c : ℕ) (es : List ℕ) → c < k → among c (lost_data k es) ≡ among c es
lost_data_among k c [] h = ap (among c) (lost_data_nil k)
lost_data_among k c (e ∷ es) h = go (below_or_from e k) (lost_data_among k c es h)
  where
    go : (e < k) ⊎ (k ≤ e) → among c (lost_data k es) ≡ among c es → among c (lost_data k (e ∷ es)) ≡ among c (e ∷ es)
    go (inl l) rest = ap (among c) (lost_data_below k e es l) ∙ among_more c e (lost_data k es) es rest
    go (inr m) rest = ap (among c) (lost_data_from k e es m) ∙ rest ∙ sym (among_other c e es (λ x. omega arith))

-- ---- as many as the list

row_lost_nil : (k r : ℕ) → count_true (row_lost k []) r ≡ 0
unfolding among
row_lost_nil k r = count_none r

-- a lost data column is no lost row, and a lost row is one more
pub lost_count : (k r a : ℕ) (es : List ℕ) → Ascending a (k + r) es → length es ≡ length (lost_data k es) + count_true (row_lost k es) r
unfolding Ascending
lost_count k r a [] w = sym (ap₂ (λ (ds : List ℕ) (n : ℕ). length ds + n) (lost_data_nil k) (row_lost_nil k r))
lost_count k r a (e ∷ es) w = go (below_or_from e k) (lost_count k r (suc e) es w.2)
  where
    go : (e < k) ⊎ (k ≤ e) → length es ≡ length (lost_data k es) + count_true (row_lost k es) r
        → suc (length es) ≡ length (lost_data k (e ∷ es)) + count_true (row_lost k (e ∷ es)) r
    go (inl l) rest =
        let x : length (lost_data k (e ∷ es)) ≡ suc (length (lost_data k es)) = ap length (lost_data_below k e es l) in
        let y : count_true (row_lost k (e ∷ es)) r ≡ count_true (row_lost k es) r = count_same _ _ r (λ j h. among_other (k + j) e es (λ q. omega arith)) in
        omega arith
    go (inr m) rest =
        let x : length (lost_data k (e ∷ es)) ≡ length (lost_data k es) = ap length (lost_data_from k e es m) in
        let i : k + (e - k) ≡ e = omega arith in
        let y : count_true (row_lost k (e ∷ es)) r ≡ suc (count_true (row_lost k es) r) =
        count_more _ _ r (e - k) (omega (arith, w.1)) (ap (λ (c : ℕ). among c (e ∷ es)) i ∙ among_first e es)
        (ap (λ (c : ℕ). among c es) i ∙ not_among e (suc e) (k + r) es w.2 (omega arith))
        (λ j h. among_other (k + j) e es (λ q. h (omega arith))) in
        omega arith
