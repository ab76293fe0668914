-- A stripe whose surviving rows are fine, with what its lost columns lack added, is restored; where they are not, no codeword agrees.
use Prim.Native.Nat.{ℕ, ◌+◌, ◌*◌, ◌/◌, ◌≤◌, ◌<◌}
use mathlib.Core.Path.{◌≡◌, refl, sym, ap, subst, ◌∙◌}
use mathlib.Core.Bool.{Bool, true, false}
use mathlib.Core.Logic.{◌⊎◌, inl, inr}
use mathlib.Core.List.{List}
use native.Mathlib.Omega.{arith}
use lib.ListN.{length, get_or}
use lib.Seq.{get_or-take, length-take-le, ext_get_or}
use Rattle.field.specs.Field.{◌⊕◌}
use Rattle.field.specs.Bytes.{Bytes}
use Rattle.field.specs.Row.{row}
use Rattle.field.proofs.Xor.{sums, add_cancel}
use Rattle.field.proofs.Cases.{below_or_from}
use Rattle.field.proofs.Bytes.{tabulate-length}
use Rattle.stripe.specs.declared.Shape.{Shape}
use Rattle.stripe.specs.Shape.{shape_refusal, columns, data_length, stripe_length}
use Rattle.stripe.specs.Stripe.{run_length, parity_byte, data_of, among, Ascending, plain_runs}
use Rattle.stripe.proofs.Allowed.{Allowed, allowed}
use Rattle.stripe.proofs.Places.{place_lt, by_places, across_first, data_of-length}
use Rattle.stripe.proofs.Codewords.{checks_codeword}
use Rattle.stripe.proofs.Mended.{check_at, wanted, word_at, wanted_below, wanted_from, data_mended, data_mended_length}
use Rattle.stripe.proofs.Mended.{data_mended_at, mended_parity_below, mended_parity_from, parity_wanted, mended_agrees_exactly}
use Rattle.stripe.proofs.Determined.{mendable}
use Rattle.mending.specs.declared.system.System.{System}
use Rattle.lost.specs.Lost.{lost_list, lost_of, capacity}
use Rattle.lost.specs.Positions.{positions}
use Rattle.mending.specs.Mend.{mend_refusal, Restored}
use Rattle.mending.specs.Restore.{Ready}
use Rattle.mending.specs.System.{lost_in, Posed}
use Rattle.mending.specs.Scratch.{row_byte, AllFine, SettledBelow, MendedBelow}
use Rattle.lost.proofs.Listed.{positions-length, lost_at}
use Rattle.mending.proofs.Passed.{Passed, passed}
use Rattle.mending.proofs.Settled.{all_fine}
use Rattle.mending.proofs.Added.{added_word, added_row, added_kept}

cancel_from : (c w r : ℕ) → c ⊕ (c ⊕ w ⊕ r) ≡ r ⊕ w
cancel_from c w r = simp sums

module _ (s : Shape) (h : shape_refusal s ≡ 0) (p : System) (w : Posed s p) (xs : List ℕ) (bytes : Bytes xs) where
  facts : Allowed s
  facts = allowed s h

  -- a codeword that agrees makes every surviving row fine
  pub none_restored : (AllFine s (lost_in p) xs → ⊥) → (zs : List ℕ) → Restored s (lost_in p) xs zs → ⊥
  none_restored wrong zs r =
      wrong
      (λ j y hj hy m.
      (mended_agrees_exactly s w.rows facts (lost_in p) w.ascend w.fits xs bytes).0
      ((mendable s w.rows h (lost_in p) w.ascend w.fits xs bytes).0 (zs, (r.codeword, r.agrees))) y hy j hj m)

  module _ (slots ys : List ℕ) (bs : Bytes slots) (by : Bytes ys) (long : length ys ≡ stripe_length s) (t : SettledBelow s p xs s.r slots)
      (a : MendedBelow s p p.lost.count slots xs ys) where
    same_data : data_of s ys ≡ data_mended s (lost_in p) xs
    same_data =
        by_places s.k s.l (data_of s ys) (data_mended s (lost_in p) xs) (data_of-length s ys long) (data_mended_length s (lost_in p) xs)
        (λ c y hc hy.
        get_or-take (data_length s) ys (c * s.l + y) 0 (place_lt hc hy)
        ∙ sym (across_first ys s.l y s.k c hc)
        ∙ ap (λ (z : List ℕ). get_or z c 0) (added_word s facts p w slots xs ys bs t a y hy)
        ∙ sym (data_mended_at s (lost_in p) xs c y hc hy))

    lost_row : (i y : ℕ) → i < s.r → y < s.l → among (s.k + i) (lost_in p) ≡ true → row_byte s ys (s.k + i) y ≡ parity_byte s (data_mended s (lost_in p) xs) i y
    lost_row i y hi hy m = added_row s facts p w slots xs ys bs t a i y hi hy m ∙ go (below_or_from (y / run_length s) (plain_runs s))
      where
        go : (y / run_length s < plain_runs s) ⊎ (plain_runs s ≤ y / run_length s)
            → check_at s xs y i ⊕ (wanted s (lost_in p) xs y i ⊕ row i (word_at s (lost_in p) xs y)) ≡ parity_byte s (data_mended s (lost_in p) xs) i y
        go (inl l) =
            ap (λ (z : ℕ). check_at s xs y i ⊕ (z ⊕ row i (word_at s (lost_in p) xs y))) (wanted_below s (lost_in p) xs y i l) ∙ add_cancel _ _
            ∙ sym (mended_parity_below s (lost_in p) xs i y w.rows hy l)
        go (inr l) =
            ap (λ (z : ℕ). check_at s xs y i ⊕ (z ⊕ row i (word_at s (lost_in p) xs y))) (wanted_from s (lost_in p) xs y i l) ∙ cancel_from _ _ _
            ∙ sym (mended_parity_from s (lost_in p) xs i y w.rows facts hi hy l)

    check : (i y : ℕ) → i < s.r → y < s.l → get_or ys ((s.k + i) * s.l + y) 0 ≡ parity_byte s (data_of s ys) i y
    check i y hi hy = go (among (s.k + i) (lost_in p)) refl ∙ ap (λ (ds : List ℕ). parity_byte s ds i y) (sym same_data)
      where
        go : (b : Bool) → among (s.k + i) (lost_in p) ≡ b → row_byte s ys (s.k + i) y ≡ parity_byte s (data_mended s (lost_in p) xs) i y
        go true m = lost_row i y hi hy m
        go false m =
            added_kept s facts p w slots xs ys bs t a (s.k + i) y hy m
            ∙ sym ((parity_wanted s (lost_in p) xs i y w.rows facts hi hy).0 (all_fine s facts p w xs slots bytes t i y hi hy m))

    pub restored : Restored s (lost_in p) xs ys
    restored =
        record {
          codeword = checks_codeword s ys by long check;
          agrees = λ c y hc hy m. sym (added_kept s facts p w slots xs ys bs t a c y hy m);
        }

-- ---- a lent list that passes is a record that is ready

pub listed_positions : (ls : List ℕ) → length (positions ls) ≤ capacity → lost_list (lost_of ls) ≡ positions ls
listed_positions ls h =
    ext_get_or 0 _ _ (cut ∙ sym (positions-length ls)) (λ v l. each v (subst (λ (z : ℕ). v < z) cut l))
  where
    cut : length (lost_list (lost_of ls)) ≡ length ls / 2
    cut = length-take-le (length ls / 2) (lost_of ls).at (omega (arith, positions-length ls, tabulate-length capacity (λ v. get_or (positions ls) v 0)))

    each : (v : ℕ) → v < length ls / 2 → get_or (lost_list (lost_of ls)) v 0 ≡ get_or (positions ls) v 0
    each v l = get_or-take (length ls / 2) (lost_of ls).at v 0 l ∙ lost_at ls v (omega (arith, positions-length ls))

module _ (s : Shape) (ls xs : List ℕ) (z : mend_refusal s (length xs) ls ≡ 0) where
  pass : Passed s (length xs) ls
  pass = passed s (length xs) ls z

  pub list_same : lost_list (lost_of ls) ≡ positions ls
  list_same = listed_positions ls (omega (arith, pass.few, (allowed s pass.shape).parity_most))

  pub ready : Ready s (lost_of ls)
  ready =
      record {
        shape = pass.shape;
        room = tabulate-length capacity _;
        few = omega (arith, pass.few, positions-length ls);
        ascend = subst (Ascending 0 (columns s)) (sym list_same) pass.ascend;
      }
