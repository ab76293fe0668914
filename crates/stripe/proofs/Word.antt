-- One byte place of a stripe: k data bytes and r rows, some of them lost. The lost data bytes are solved for by surviving rows, which
-- gives the only word that can agree with all survivors; with r lost there is always one.
use mathlib.Core.Path.{◌≡◌, sym, ◌∙◌, subst}
use mathlib.Core.Bool.{false}
use mathlib.Core.List.{List}
use Prim.Native.Nat.{ℕ, ◌+◌, ◌*◌, ◌<◌, ◌≤◌}
use native.Mathlib.Omega.{arith}
use lib.ListN.{length, get_or}
use Rattle.field.specs.Field.{◌⊕◌}
use Rattle.field.specs.Bytes.{Bytes}
use Rattle.field.specs.Row.{row}
use Rattle.stripe.specs.Stripe.{among, Ascending}
use Rattle.stripe.specs.Shape.{most_rows, most_data}
use Rattle.stripe.proofs.Survivors.{Spread, first_row, row_step, survivors}
use Rattle.stripe.proofs.Lost.{lost_data, row_lost, lost_data_ascending, lost_data_among, lost_count}
use Rattle.stripe.proofs.Errors.{AgreeOff, error_row, errors, mended_own, mended_row_any, mended}
use Rattle.stripe.proofs.Errors.{mended-length, mended_bytes, mended_agrees, mended_row, only_mended}

-- the rows that survive have the values wanted
abbrev pub SurvivingRows : ℕ → ℕ → List ℕ → (ℕ → ℕ) → List ℕ → Type 0
SurvivingRows k r es t ms = (j : ℕ) → j < r → among (k + j) es ≡ false → row j ms ≡ t j

-- the errors of the lost data bytes, solved for by rows a, a + d, .. from the first that survives
unfoldable pub word_errors : ℕ → List ℕ → List ℕ → (ℕ → ℕ) → List ℕ
word_errors k es ms t = errors (first_row (row_lost k es)) (row_step (row_lost k es)) (lost_data k es) ms t

-- the word with these added
unfoldable pub word_mended : ℕ → List ℕ → List ℕ → (ℕ → ℕ) → List ℕ
word_mended k es ms t = mended (first_row (row_lost k es)) (row_step (row_lost k es)) (lost_data k es) ms t

pub word_mended_length : (k : ℕ) (es ms : List ℕ) (t : ℕ → ℕ) → length (word_mended k es ms t) ≡ length ms
unfolding word_mended
word_mended_length k es ms t = mended-length _ _ (lost_data k es) ms t

module _ (k r : ℕ) (es : List ℕ) (k-most : k ≤ most_data) (r-most : r ≤ most_rows) (asc : Ascending 0 (k + r) es) (few : length es ≤ r) where
  pub word_spread : Spread (row_lost k es) r (length (lost_data k es)) (first_row (row_lost k es)) (row_step (row_lost k es))
  word_spread = survivors (row_lost k es) r (length (lost_data k es)) r-most (omega (arith, lost_count k r 0 es asc))

  lost_ascending : Ascending 0 k (lost_data k es)
  lost_ascending = lost_data_ascending k 0 (k + r) es asc

  module _ (ms : List ℕ) (long : length ms ≡ k) (t : ℕ → ℕ) where
    pub word_mended_bytes : Bytes ms → Bytes (word_mended k es ms t)
    unfolding word_mended
    word_mended_bytes b =
        mended_bytes _ _ k (lost_data k es) word_spread.step_some word_spread.step_most k-most lost_ascending ms long t b

    -- the data bytes that survive stay
    pub word_mended_agrees : AgreeOff k es ms (word_mended k es ms t)
    unfolding word_mended
    word_mended_agrees c l m =
        mended_agrees _ _ k (lost_data k es) word_spread.step_some word_spread.step_most k-most lost_ascending ms long t c l
        (lost_data_among k c es l ∙ m)

    -- a lost data byte, and any row
    pub word_mended_own : (v : ℕ) → v < length (lost_data k es)
        → get_or (word_mended k es ms t) (get_or (lost_data k es) v 0) 0 ≡ get_or ms (get_or (lost_data k es) v 0) 0 ⊕ get_or (word_errors k es ms t) v 0
    unfolding word_mended word_errors
    word_mended_own v l =
        mended_own _ _ k (lost_data k es) word_spread.step_some word_spread.step_most k-most lost_ascending ms long t v l

    pub word_mended_row : (j : ℕ) → row j (word_mended k es ms t) ≡ row j ms ⊕ error_row j (lost_data k es) (word_errors k es ms t)
    unfolding word_mended word_errors
    word_mended_row j =
        mended_row_any _ _ k (lost_data k es) word_spread.step_some word_spread.step_most k-most lost_ascending ms long t j

    -- a word that agrees with all survivors is the mended one
    pub word_only : (ns : List ℕ) → length ns ≡ k → Bytes ms → Bytes ns → AgreeOff k es ms ns → SurvivingRows k r es t ns → ns ≡ word_mended k es ms t
    unfolding word_mended
    word_only ns hn bm bn ag rows =
        only_mended _ _ k (lost_data k es) word_spread.step_some word_spread.step_most k-most lost_ascending ms long t ns hn bm bn
        (λ c l m. ag c l (sym (lost_data_among k c es l) ∙ m))
        (λ u l. rows _ (word_spread.survive u l).0 (word_spread.survive u l).1)

    -- with r lost it has them always: all surviving rows are solved by
    pub word_completed : length es ≡ r → ((j : ℕ) → t j < 256) → SurvivingRows k r es t (word_mended k es ms t)
    unfolding word_mended
    word_completed full ht j l m =
        let found : (u : ℕ) × ((u < length (lost_data k es)) × (j ≡ first_row (row_lost k es) + row_step (row_lost k es) * u)) =
        word_spread.exhaust (sym (lost_count k r 0 es asc) ∙ full) j l m in
        subst (λ (i : ℕ). row i (word_mended k es ms t) ≡ t i) (sym found.1.1)
        (mended_row _ _ k (lost_data k es) word_spread.step_some word_spread.step_most k-most lost_ascending ms long t ht found.0 found.1.0)
