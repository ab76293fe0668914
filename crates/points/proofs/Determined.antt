-- Codewords of k data bytes and r parity bytes, k + r at most 255: their points are distinct, so what holds over any distinct points holds here.
use mathlib.Core.Path.{◌≡◌, sym, ap₂, ◌∙◌, subst}
use mathlib.Core.Logic.{◌⊎◌, inl, inr, ◌↔◌}
use mathlib.Core.List.{List, ◌++◌}
use Prim.Native.Nat.{ℕ, zero, suc, ◌+◌, ◌-◌, ◌<◌, ◌≤◌, zero-le, suc-le-suc}
use native.Mathlib.Nat.{suc_inj, suc-ne-zero}
use native.Mathlib.Omega.{arith}
use lib.ListN.{length, length-append, get_or-append}
use Rattle.field.specs.Bytes.{Bytes, tabulate}
use Rattle.field.proofs.Bytes.{tabulate-length, tabulate_at, append_bytes}
use Rattle.field.proofs.Cases.{below_or_from}
use Rattle.points.specs.Points.{points, parity_of}
use Rattle.points.specs.Mending.{Codeword, Kept, Positions, parity_positions, AgreeOff, mended, Consistent}
use Rattle.points.proofs.Distinct.{points-length, points_bytes, points_apart}
use Rattle.points.proofs.Parity.{encoded_codeword}
use Rattle.points.proofs.Mended as over

module _ (k r : ℕ) (fits : k + r ≤ 255) (is : List ℕ) (lost : Positions (k + r) is) where
  lost_points : Positions (length (points k r)) is
  lost_points = subst (λ (n : ℕ). Positions n is) (sym (points-length k r)) lost

  off : (xs ys : List ℕ) → AgreeOff (k + r) is xs ys → AgreeOff (length (points k r)) is xs ys
  off xs ys h = subst (λ (n : ℕ). AgreeOff n is xs ys) (sym (points-length k r)) h

  on : (xs ys : List ℕ) → AgreeOff (length (points k r)) is xs ys → AgreeOff (k + r) is xs ys
  on xs ys h = subst (λ (n : ℕ). AgreeOff n is xs ys) (points-length k r) h

  -- any k bytes determine a codeword
  pub determined : length is ≤ r → (xs ys : List ℕ) → Codeword k r xs → Codeword k r ys → AgreeOff (k + r) is xs ys → xs ≡ ys
  determined few xs ys w z h = over.determined (points k r) (points_bytes k r) (points_apart k r fits) is lost_points r few xs ys w z (off xs ys h)

  -- and any k bytes are those of one
  pub completed : length is ≡ r → (xs : List ℕ) → Bytes xs → length xs ≡ k + r → (ys : List ℕ) × (Codeword k r ys × AgreeOff (k + r) is xs ys)
  completed full xs b long =
      let p : (ys : List ℕ) × (Codeword k r ys × AgreeOff (length (points k r)) is xs ys) =
      over.completed (points k r) (points_bytes k r) (points_apart k r fits) is lost_points r full xs b (long ∙ sym (points-length k r)) in
      (p.0, (p.1.0, on xs p.0 p.1.1))

  -- the mended word is a codeword exactly when the sums that were not solved by agree
  pub mended_codeword : (xs : List ℕ) → Bytes xs → length xs ≡ k + r → Codeword k r (mended (points k r) is xs) ↔ Consistent (points k r) r is xs
  mended_codeword xs b long =
      over.mended_word_lem (points k r) (points_bytes k r) (points_apart k r fits) is lost_points r xs b (long ∙ sym (points-length k r))

  -- and so it is exactly when any codeword agrees with the survivors
  pub mendable : length is ≤ r → (xs : List ℕ) → Bytes xs → length xs ≡ k + r
      → ((ys : List ℕ) × (Codeword k r ys × AgreeOff (k + r) is xs ys)) ↔ Consistent (points k r) r is xs
  mendable few xs b long = (
    λ p. general.0 (p.0, (p.1.0, off xs p.0 p.1.1)),
    λ c. let q : (ys : List ℕ) × (Codeword k r ys × AgreeOff (length (points k r)) is xs ys) = general.1 c in (q.0, (q.1.0, on xs q.0 q.1.1)),
  )
    where
      general : ((ys : List ℕ) × (Codeword k r ys × AgreeOff (length (points k r)) is xs ys)) ↔ Consistent (points k r) r is xs
      general = over.mendable (points k r) (points_bytes k r) (points_apart k r fits) is lost_points r few xs b (long ∙ sym (points-length k r))

  -- that codeword is the mended word
  pub mended_only : length is ≤ r → (xs ys : List ℕ) → Bytes xs → length xs ≡ k + r → Codeword k r ys → AgreeOff (k + r) is xs ys
      → ys ≡ mended (points k r) is xs
  mended_only few xs ys b long w h =
      over.word_only (points k r) (points_bytes k r) (points_apart k r fits) is lost_points r few xs ys b (long ∙ sym (points-length k r)) w (off xs ys h)

-- ---- encoding is mending, the parity lost

tabulate_positions : (n r : ℕ) (f : ℕ → ℕ) → ((j : ℕ) → j < r → f j < n) → ((i j : ℕ) → i < r → j < r → f i ≡ f j → i ≡ j) → Positions n (tabulate r f)
unfolding Positions tabulate
tabulate_positions n zero f h g = tt
tabulate_positions n (suc r) f h g = (
  h 0 (suc-le-suc zero-le),
  λ v l e. suc-ne-zero v (sym (g 0 (suc v) (suc-le-suc zero-le) (suc-le-suc (below v l)) (e ∙ tabulate_at r (λ i. f (suc i)) v (below v l)))),
  tabulate_positions n r (λ j. f (suc j)) (λ j l. h (suc j) (suc-le-suc l)) (λ i j l m e. suc_inj (g (suc i) (suc j) (suc-le-suc l) (suc-le-suc m) e)),
)
  where
    below : (v : ℕ) → v < length (tabulate r (λ i. f (suc i))) → v < r
    below v l = subst (λ (m : ℕ). v < m) (tabulate-length r (λ i. f (suc i))) l

pub parity_positions_lem : (k r : ℕ) → Positions (k + r) (parity_positions k r)
unfolding parity_positions
parity_positions_lem k r = tabulate_positions (k + r) r (λ j. k + j) (λ j l. omega arith) (λ i j l m e. omega arith)

pub parity_positions-length : (k r : ℕ) → length (parity_positions k r) ≡ r
unfolding parity_positions
parity_positions-length k r = tabulate-length r (λ j. k + j)

-- what is kept is data
kept_data : (k r c : ℕ) → c < k + r → Kept c (parity_positions k r) → c < k
unfolding parity_positions
kept_data k r c l kept = go (below_or_from c k)
  where
    go : (c < k) ⊎ (k ≤ c) → c < k
    go (inl m) = m
    go (inr m) =
        absurd
        (kept (c - k) (subst (λ (n : ℕ). c - k < n) (sym (tabulate-length r (λ j. k + j))) (omega arith))
        (sym (tabulate_at r (λ j. k + j) (c - k) (omega arith) ∙ omega arith)))

-- whatever stands in the place of the parity
pub encode_mends : (k r : ℕ) → k + r ≤ 255 → (ds qs : List ℕ) → Bytes ds → Bytes qs → length ds ≡ k → length qs ≡ r
    → mended (points k r) (parity_positions k r) (ds ++ qs) ≡ ds ++ parity_of r ds
encode_mends k r fits ds qs bd bq e f =
    sym
    (mended_only k r fits (parity_positions k r) (parity_positions_lem k r) (omega (arith, parity_positions-length k r)) (ds ++ qs) (ds ++ parity_of r ds)
    (append_bytes ds qs bd bq) (length-append ds qs ∙ ap₂ ◌+◌ e f) (encoded_codeword k r ds (omega arith) bd e)
    (λ c l kept.
    let inside : c < length ds = subst (λ (n : ℕ). c < n) (sym e) (kept_data k r c l kept) in
    get_or-append ds qs 0 c inside ∙ sym (get_or-append ds (parity_of r ds) 0 c inside)))
