-- The lent list: its positions by pairs of bytes, and what is known of them where it is not refused.
use Prim.Native.Nat.{ℕ, zero, suc, ◌+◌, ◌*◌, ◌/◌, ◌%◌, ◌≤◌, ◌<◌, min}
use mathlib.Core.Path.{◌≡◌, refl, sym, ap, ◌∙◌}
use mathlib.Core.Bool.{Bool, true, false, cond}
use mathlib.Core.Logic.{◌⊎◌, inl, inr, ⊎_elim}
use mathlib.Core.List.{List, [], ◌∷◌, ◌++◌}
use native.Mathlib.Omega.{arith}
use native.Mathlib.Numerals.{add-one}
use lib.ListN.{length, get_or, get_or-eq_default}
use lib.Seq.{ext_get_or}
use borrow.Author.Tests.{le-leb, lt-leb, leb-true, eq-eqb, ne_eqb, eqb-true}
use Rattle.field.proofs.Cases.{below_or_from}
use Rattle.field.proofs.Bytes.{tabulate-length, tabulate_at}
use Rattle.stripe.specs.Stripe.{Ascending, ascending}
use Rattle.stripe.proofs.Ascending.{ascending-nil, ascending_low, ascending_high, ascending_next, ascending_says}
use Rattle.lost.specs.declared.Lost.{Lost}
use Rattle.lost.specs.Positions.{positions, list_refusal}
use Rattle.lost.specs.Lost.{lost_of, capacity}

-- ---- positions by pairs

double : (j : ℕ) → 2 * suc j ≡ suc (suc (2 * j))
double j = omega arith

double_one : (j : ℕ) → 2 * suc j + 1 ≡ suc (suc (2 * j + 1))
double_one j = omega arith

pub positions_at_lem : (ls : List ℕ) (j : ℕ) → 2 * j + 1 < length ls → get_or (positions ls) j 0 ≡ get_or ls (2 * j) 0 + get_or ls (2 * j + 1) 0 * 256
unfolding positions
positions_at_lem [] j h = absurd (omega arith)
positions_at_lem (a ∷ []) j h = absurd (omega arith)
positions_at_lem (a ∷ b ∷ ls) zero h = refl
positions_at_lem (a ∷ b ∷ ls) (suc j) h = rw (double_one, double) (positions_at_lem ls j (omega arith))

halved : (n : ℕ) → suc (n / 2) ≡ suc (suc n) / 2
halved n = omega arith

pub positions-length : (ls : List ℕ) → length (positions ls) ≡ length ls / 2
unfolding positions
positions-length [] = refl
positions-length (a ∷ []) = refl
positions-length (a ∷ b ∷ ls) = ap suc (positions-length ls) ∙ halved (length ls)

pub positions_past : (ls : List ℕ) (j : ℕ) → length ls / 2 ≤ j → get_or (positions ls) j 0 ≡ 0
positions_past ls j h = get_or-eq_default (positions ls) 0 (omega (arith, positions-length ls))

-- ---- ascending, pair by pair

pub positions_short : (ls : List ℕ) → length ls ≤ 1 → positions ls ≡ []
unfolding positions
positions_short [] h = refl
positions_short (a ∷ []) h = refl
positions_short (a ∷ b ∷ ls) h = absurd (omega arith)

first_pair : (ls p rest : List ℕ) (e : ℕ) → ls ≡ p ++ rest → length p ≡ 2 → e ≡ get_or p 0 0 + get_or p 1 0 * 256
    → positions ls ≡ e ∷ positions rest
unfolding positions
first_pair ls p rest e is long at = ap positions is ∙ go p long ∙ ap (λ (x : ℕ). x ∷ positions rest) (sym at)
  where
    go : (p : List ℕ) → length p ≡ 2 → positions (p ++ rest) ≡ (get_or p 0 0 + get_or p 1 0 * 256) ∷ positions rest
    go [] h = absurd (omega arith)
    go (a ∷ []) h = absurd (omega arith)
    go (a ∷ b ∷ []) h = refl
    go (a ∷ b ∷ d ∷ p) h = absurd (omega arith)

-- one turn of the walk over the list: the test of a pair decides, or the rest does
pub pair_refused : (ls p rest : List ℕ) (a n e : ℕ) → ls ≡ p ++ rest → length p ≡ 2 → e ≡ get_or p 0 0 + get_or p 1 0 * 256
    → (e < a) ⊎ ((a ≤ e) × (n ≤ e)) → ascending a n (positions ls) ≡ false
pair_refused ls p rest a n e is long at side = ap (ascending a n) (first_pair ls p rest e is long at) ∙ go side
  where
    go : (e < a) ⊎ ((a ≤ e) × (n ≤ e)) → ascending a n (e ∷ positions rest) ≡ false
    go (inl l) = ascending_low a n e _ l
    go (inr h) = ascending_high a n e _ h.0 h.1

pub pair_taken : (ls p rest : List ℕ) (a n e : ℕ) → ls ≡ p ++ rest → length p ≡ 2 → e ≡ get_or p 0 0 + get_or p 1 0 * 256 → a ≤ e → e < n
    → ascending a n (positions ls) ≡ ascending (e + 1) n (positions rest)
pair_taken ls p rest a n e is long at l m =
    ap (ascending a n) (first_pair ls p rest e is long at) ∙ ascending_next a n e _ l m
    ∙ ap (λ (x : ℕ). ascending x n (positions rest)) (sym (add-one e))

pub no_pair : (ls : List ℕ) (a n : ℕ) → length ls < 2 → ascending a n (positions ls) ≡ true
no_pair ls a n h = ap (ascending a n) (positions_short ls (omega arith)) ∙ ascending-nil a n

-- ---- the tests of a list

module _ (n r : ℕ) (ls : List ℕ) where
  pub odd_list : (length ls % 2 ≡ 0 → ⊥) → list_refusal n r ls ≡ 5
  unfolding list_refusal
  odd_list h = simp (ne_eqb _ _ h)

  module _ (even : length ls % 2 ≡ 0) where
    pub not_ascending : ascending 0 n (positions ls) ≡ false → list_refusal n r ls ≡ 6
    unfolding list_refusal
    not_ascending h = simp (eq-eqb _ _ even, h)

    module _ (up : ascending 0 n (positions ls) ≡ true) where
      pub too_many : r < length ls / 2 → list_refusal n r ls ≡ 7
      unfolding list_refusal
      too_many h = simp (eq-eqb _ _ even, up, positions-length ls, lt-leb _ _ h)

      pub list_passes : length ls / 2 ≤ r → list_refusal n r ls ≡ 0
      unfolding list_refusal
      list_passes h = simp (eq-eqb _ _ even, up, positions-length ls, le-leb _ _ h)

-- ---- the first ones

pub lost_at : (ls : List ℕ) (j : ℕ) → j < capacity → get_or (lost_of ls).at j 0 ≡ get_or (positions ls) j 0
lost_at ls = tabulate_at capacity (λ v. get_or (positions ls) v 0)

-- the first i positions, and zeros after them, where there are no more or there is no more room
pub made : (ls xs : List ℕ) (i : ℕ) → min (length ls / 2) capacity ≤ i → length xs ≡ capacity
    → ((j : ℕ) → j < i → get_or xs j 0 ≡ get_or (positions ls) j 0) → ((j : ℕ) → i ≤ j → get_or xs j 0 ≡ 0)
    → ◌≡◌ {A = Lost} (record { at = xs; count = length ls / 2 }) (lost_of ls)
made ls xs i all long below above =
    ap (λ (at : List ℕ). record { at = at; count = length ls / 2 })
    (ext_get_or 0 xs (lost_of ls).at (long ∙ sym (tabulate-length capacity _)) (λ j h. at j (omega arith) ∙ sym (lost_at ls j (omega arith))))
  where
    at : (j : ℕ) → j < capacity → get_or xs j 0 ≡ get_or (positions ls) j 0
    at j h = ⊎_elim (below j) (λ g. above j g ∙ sym (positions_past ls j (omega arith))) (below_or_from j i)

-- ---- a list that passes

-- at most r positions that ascend below n
pub record Listed (n r : ℕ) (ls : List ℕ) : Type 0 where
  pub even : length ls % 2 ≡ 0
  pub ascend : Ascending 0 n (positions ls)
  pub few : length (positions ls) ≤ r

list_tests : (a b c : Bool) → ◌≡◌ {A = ℕ} (cond a (cond b (cond c 0 7) 6) 5) 0 → (a ≡ true) × ((b ≡ true) × (c ≡ true))
list_tests true true true e = (refl, (refl, refl))
list_tests true true false e = absurd (omega arith)
list_tests true false c e = absurd (omega arith)
list_tests false b c e = absurd (omega arith)

pub listed : (n r : ℕ) (ls : List ℕ) → list_refusal n r ls ≡ 0 → Listed n r ls
unfolding list_refusal
listed n r ls e =
    let u = list_tests _ _ _ e in
    record { even = eqb-true _ _ u.0; ascend = ascending_says 0 n (positions ls) u.1.0; few = leb-true _ _ u.1.1 }
