-- Piggybacks added to rows: run by run in a parity column, column by column in the parity.
use mathlib.Core.Path.{◌≡◌, sym, ap, ap₂, ◌∙◌, subst}
use mathlib.Core.Bool.{false}
use mathlib.Core.List.{List}
use mathlib.Core.Logic.{◌⊎◌, inl, inr, ⊎_elim}
use Prim.Native.Nat.{ℕ, ◌+◌, ◌*◌, ◌-◌, ◌/◌, ◌%◌, ◌<◌, ◌≤◌}
use native.Mathlib.Nat.{mul-le-mul_right, suc-mul, not-suc-le-zero, div-lt_iff_lt-mul, zero-add as ℕ-zero-add}
use native.Mathlib.Numerals.{add-one}
use native.Mathlib.Omega.{arith}
use lib.ListN.{length, get_or, take, drop}
use borrow.Rule.Slice.PartMut.{put_mid}
use borrow.Author.Count.{below_more}
use Rattle.field.specs.Field.{◌⊕◌}
use Rattle.field.specs.Row.{row}
use Rattle.field.proofs.Cases.{below_or_from}
use Rattle.stripe.specs.declared.Shape.{Shape}
use Rattle.stripe.specs.Stripe.{across, row_at, run_length, by_points, parity_byte, plain_runs}
use Rattle.stripe.specs.Shape.{most_rows}
use Rattle.stripe.specs.Column.{lent_refusal}
use Rattle.rows.specs.Rows.{Added, added}
use Rattle.rows.proofs.Fits.{Columns, Run, fit_run}
use Rattle.rows.proofs.Added.{added_places}
use Rattle.coding.specs.Encode.{IsRow, IsParity, Beside}
use Rattle.stripe.proofs.Allowed.{Prepared, allowed, prepared_runs, prepared_by_rows}
use Rattle.stripe.proofs.Lent.{lent}
use Rattle.coding.proofs.Encoded.{columns}
use Rattle.lanes.proofs.Parts.{part_length, part_at, back_length, back_inside, back_outside}
use Rattle.stripe.proofs.Places.{place_column, place_byte, parity_below, parity_from}

-- a run that was lent and had a row added, in the whole
pub added_run : (xs : List ℕ) (k l j from a m : ℕ) (ps ys : List ℕ) → a + m ≤ length ps → Run (length xs) k l j from m
    → ys ≡ added xs k l j from (take (a + m - a) (drop a ps)) → Added xs k l j from a m ps (put_mid a (a + m - a) ps ys)
added_run xs k l j from a m ps ys fits known is =
    record {
      long = back_length ps ys a m ys_long fits;
      inside = λ q h. back_inside ps ys a m ys_long fits q h ∙ ap (λ (x : ℕ). get_or ys x 0) (sym (ℕ-zero-add q))
          ∙ g.inside q (omega (arith, part_length ps a m fits))
          ∙ ap (λ (x : ℕ). x ⊕ row j (across xs l (from + q) 0 k))
          (ap (λ (x : ℕ). get_or (take (a + m - a) (drop a ps)) x 0) (ℕ-zero-add q) ∙ part_at ps a m q h);
      outside = back_outside ps ys a m ys_long fits;
    }
  where
    g : Added xs k l j from 0 (length (take (a + m - a) (drop a ps))) (take (a + m - a) (drop a ps)) ys
    g = added_places xs k l j from _ (fit_run _ _ _ _ _ _ (subst (Run (length xs) k l j from) (sym (part_length ps a m fits)) known)) ys is

    ys_long : length ys ≡ m
    ys_long = g.long ∙ part_length ps a m fits

-- ---- one parity column

-- run j of t runs of m bytes ends within them
pub run_in : (t m l j : ℕ) → t * m ≡ l → j < t → j * m + m ≤ l
run_in t m l j e h = omega (arith, mul-le-mul_right m h, suc-mul j m)

-- column i of ps has its piggybacks at the places below x
pub record Piggybacked (s : Shape) (ds : List ℕ) (i x : ℕ) (ps : List ℕ) : Type 0 where
  pub done : (p : ℕ) → p < x → p < s.l → get_or ps (i * s.l + p) 0 ≡ parity_byte s ds i p
  pub left : (p : ℕ) → x ≤ p → p < s.l → get_or ps (i * s.l + p) 0 ≡ row_at s ds i p

module _ (s : Shape) (ds : List ℕ) (i m : ℕ) (rows : by_points s ≡ false) (is : m ≡ run_length s) (some : 0 < m) where
  pub column_start : (ps : List ℕ) → IsRow s ds i ps → Piggybacked s ds i (plain_runs s * m) ps
  column_start ps h =
      record {
        done = λ p less lp. h p lp ∙ sym (parity_below s ds i p rows (subst (λ (x : ℕ). p / x < plain_runs s) is ((div-lt_iff_lt-mul some).1 less)));
        left = λ p past lp. h p lp;
      }

  -- one run more
  module _ (j : ℕ) (ps qs : List ℕ) (r : plain_runs s ≤ j) (fits : j * m + m ≤ s.l) (g : Added ds s.k s.l j (i * m) (i * s.l + j * m) m ps qs) where
    run_byte : (p : ℕ) → j * m ≤ p → p < j * m + m → Piggybacked s ds i (j * m) ps → get_or qs (i * s.l + p) 0 ≡ parity_byte s ds i p
    unfolding row_at
    run_byte p past less h =
        let q : ℕ = p - j * m in
        let place : i * s.l + p ≡ i * s.l + j * m + (p - j * m) = omega arith in
        let split : j * m + (p - j * m) ≡ p = omega arith in
        let run : p / run_length s ≡ j = ap₂ ◌/◌ (sym split) (sym is) ∙ place_column j (omega arith) in
        let byte : p % run_length s ≡ p - j * m = ap₂ ◌%◌ (sym split) (sym is) ∙ place_byte j (omega arith) in
        ap (λ (x : ℕ). get_or qs x 0) place ∙ g.inside (p - j * m) (omega arith)
        ∙ ap (λ (x : ℕ). x ⊕ row j (across ds s.l (i * m + (p - j * m)) 0 s.k)) (ap (λ (x : ℕ). get_or ps x 0) (sym place) ∙ h.left p past (omega arith))
        ∙ ap₂ (λ (x y : ℕ). row_at s ds i p ⊕ row_at s ds x y) (sym run) (ap₂ (λ (x y : ℕ). i * x + y) is (sym byte))
        ∙ sym (parity_from s ds i p rows (subst (λ (x : ℕ). plain_runs s ≤ x) (sym run) r))

    pub column_turn : Piggybacked s ds i (j * m) ps → Piggybacked s ds i ((j + 1) * m) qs
    column_turn h =
        let e : (j + 1) * m ≡ j * m + m = ap (λ (x : ℕ). x * m) (add-one j) ∙ suc-mul j m in
        record {
          done =
              λ p less lp. ⊎_elim (λ b. g.outside (i * s.l + p) (inl (omega arith)) ∙ h.done p b lp) (λ b. run_byte p b (omega arith) h)
              (below_or_from p (j * m));
          left = λ p past lp. g.outside (i * s.l + p) (inr (omega arith)) ∙ h.left p (omega arith) lp;
        }

    pub beside_turn : (ps₀ : List ℕ) → Beside s.l i ps₀ ps → Beside s.l i ps₀ qs
    beside_turn ps₀ b = record { long = g.long ∙ b.long; outside = outside }
      where
        outside : (x : ℕ) → (x < i * s.l) ⊎ (i * s.l + s.l ≤ x) → get_or qs x 0 ≡ get_or ps₀ x 0
        outside x (inl h) = g.outside x (inl (omega arith)) ∙ b.outside x (inl h)
        outside x (inr h) = g.outside x (inr (omega arith)) ∙ b.outside x (inr h)

pub column_done : (s : Shape) (ds ps : List ℕ) (i x : ℕ) → s.l ≤ x → Piggybacked s ds i x ps → IsParity s ds i ps
column_done s ds ps i x h f p lp = f.done p (omega arith) lp

-- ---- all parity columns

beside_at : (l i c p : ℕ) (ps qs : List ℕ) → (c < i) ⊎ (i < c) → p < l → Beside l i ps qs → get_or qs (c * l + p) 0 ≡ get_or ps (c * l + p) 0
beside_at l i c p ps qs (inl h) less b = b.outside (c * l + p) (inl (omega (arith, mul-le-mul_right l h, suc-mul c l)))
beside_at l i c p ps qs (inr h) less b = b.outside (c * l + p) (inr (omega (arith, mul-le-mul_right l h, suc-mul i l)))

-- the columns before i are parity, those from i on are rows
pub record Half (s : Shape) (ds : List ℕ) (i : ℕ) (ps : List ℕ) : Type 0 where
  pub done : (c : ℕ) → c < i → IsParity s ds c ps
  pub left : (c : ℕ) → i ≤ c → c < s.r → IsRow s ds c ps

pub half_start : (s : Shape) (ds ps : List ℕ) → ((i : ℕ) → i < s.r → IsRow s ds i ps) → Half s ds 0 ps
half_start s ds ps h = record { done = λ c less. absurd (not-suc-le-zero less); left = λ c past less. h c less }

pub half_turn : (s : Shape) (ds ps qs : List ℕ) (i : ℕ) → IsParity s ds i qs → Beside s.l i ps qs → Half s ds i ps → Half s ds (i + 1) qs
half_turn s ds ps qs i new b h =
    record {
      done = below_more (λ (c : ℕ). IsParity s ds c qs) i (λ c less p lp. beside_at s.l i c p ps qs (inl less) lp b ∙ h.done c less p lp) new;
      left = λ c past less p lp. beside_at s.l i c p ps qs (inr (omega arith)) lp b ∙ h.left c (omega arith) less p lp;
    }

-- ---- what is known where a prepared stripe is encoded

pub record Marked (s : Shape) (d n m : ℕ) : Type 0 where
  pub is : m ≡ run_length s
  pub some : 0 < m
  pub rows : by_points s ≡ false
  pub cut : s.t * m ≡ s.l
  pub gains : s.r < s.t
  pub most : s.t ≤ most_rows
  pub columns : Columns d s.k s.l
  pub parity_long : n ≡ s.r * s.l

pub marked : (s : Shape) (d n m : ℕ) → lent_refusal s d n ≡ 0 → 0 < s.t → m ≡ run_length s → Marked s d n m
marked s d n m e h is =
    let f = lent s d n e in
    let a = allowed s f.shape in
    let p : Prepared s = ⊎_elim (λ z. absurd (not-suc-le-zero (subst (λ (x : ℕ). 0 < x) z h))) (λ p. p) a.mark in
    record {
      is = is;
      some = subst (λ (x : ℕ). 0 < x) (sym is) a.run_some;
      rows = prepared_by_rows s a h;
      cut = ap₂ ◌*◌ (sym (prepared_runs s h)) is ∙ a.cut;
      gains = p.gains;
      most = p.mark_most;
      columns = columns s d n e;
      parity_long = f.parity_long;
    }

-- run j of parity column i lies in the parity, and run i in its row
pub record InRun (s : Shape) (d i j n m : ℕ) : Type 0 where
  pub run : j * m + m ≤ s.l
  pub column : i * s.l + s.l ≤ n
  pub known : Run d s.k s.l j (i * m) m

pub in_run : (s : Shape) (d n w m i j : ℕ) → Marked s d n m → w ≡ n → i < s.r → j < s.t → InRun s d i j w m
in_run s d n w m i j f same hi hj =
    record {
      run = run_in s.t m s.l j f.cut hj;
      column = omega (arith, run_in s.r s.l n i (sym f.parity_long) hi);
      known = record { columns = f.columns; row = omega (arith, f.most); inside = run_in s.t m s.l i f.cut (omega (arith, f.gains)) };
    }
