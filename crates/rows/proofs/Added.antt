-- A row added to a run, block by block; and the list that this leaves.
use mathlib.Core.Path.{◌≡◌, refl, sym, ap, ap₂, ◌∙◌, subst}
use mathlib.Core.Bool.{Bool, true, false, cond}
use mathlib.Core.List.{List}
use mathlib.Core.Logic.{◌⊎◌, inl, inr, ⊎_elim}
use Prim.Native.Nat.{ℕ, ◌+◌, ◌-◌, ◌<◌, ◌≤◌}
use native.Mathlib.Nat.{not-suc-le-zero, zero-add as ℕ-zero-add}
use native.Mathlib.Omega.{arith}
use lib.ListN.{length, get_or, take, drop}
use lib.Seq.{ext_get_or}
use borrow.Rule.Slice.PartMut.{put_mid}
use Rattle.field.specs.Field.{◌⊕◌}
use Rattle.field.specs.Row.{row}
use Rattle.field.proofs.Bytes.{tabulate-length, tabulate_at}
use Rattle.field.proofs.Cases.{below_or_from}
use Rattle.lanes.specs.Lanes.{onto}
use Rattle.lanes.proofs.Onto.{onto_at, onto_past, onto-length}
use Rattle.lanes.proofs.Parts.{part_length, part_at, back_length, back_inside, back_outside}
use Rattle.stripe.specs.Stripe.{across}
use Rattle.rows.specs.Rows.{RowIn, Added, run_fits, row_part, added}

-- what the sum of a part and a block leaves of the whole
pub added_block : (xs : List ℕ) (k l j from at n : ℕ) (ps b ys : List ℕ) → at + n ≤ length ps → n ≤ length b → RowIn xs k l from n j b
    → ys ≡ onto (λ (x y : ℕ). x ⊕ y) (take (at + n - at) (drop at ps)) b → Added xs k l j from at n ps (put_mid at (at + n - at) ps ys)
added_block xs k l j from at n ps b ys fits long r is =
    record {
      long = back_length ps ys at n ys_long fits;
      inside = λ q h. back_inside ps ys at n ys_long fits q h ∙ ap (λ (l : List ℕ). get_or l q 0) is
          ∙ onto_at (λ (x y : ℕ). x ⊕ y) _ b q (omega (arith, part_length ps at n fits)) (omega arith) ∙ ap₂ ◌⊕◌ (part_at ps at n q h) (r q h);
      outside = back_outside ps ys at n ys_long fits;
    }
  where
    ys_long : length ys ≡ n
    ys_long = ap length is ∙ onto-length (λ (x y : ℕ). x ⊕ y) _ b ∙ part_length ps at n fits

pub added_none : (xs : List ℕ) (k l j from : ℕ) (ps : List ℕ) → Added xs k l j from 0 0 ps ps
added_none xs k l j from ps = record { long = refl; inside = λ q h. absurd (not-suc-le-zero h); outside = λ i h. refl }

-- one block more
pub added_more : (xs : List ℕ) (k l j from b n w : ℕ) (ps qs rs : List ℕ) → w ≡ b + n → Added xs k l j from 0 b ps qs
    → Added xs k l j (from + b) b n qs rs → Added xs k l j from 0 w ps rs
added_more xs k l j from b n w ps qs rs sum f g =
    record { long = g.long ∙ f.long; inside = λ q h. ⊎_elim (old q) (new q h) (below_or_from q b); outside = outside }
  where
    old : (q : ℕ) → q < b → get_or rs (0 + q) 0 ≡ get_or ps (0 + q) 0 ⊕ row j (across xs l (from + q) 0 k)
    old q less = g.outside (0 + q) (inl (omega arith)) ∙ f.inside q less

    new : (q : ℕ) → q < w → b ≤ q → get_or rs (0 + q) 0 ≡ get_or ps (0 + q) 0 ⊕ row j (across xs l (from + q) 0 k)
    new q h past =
        let e : 0 + q ≡ b + (q - b) = omega arith in
        let p : from + b + (q - b) ≡ from + q = omega arith in
        ap (λ (x : ℕ). get_or rs x 0) e ∙ g.inside (q - b) (omega arith)
        ∙ ap₂ ◌⊕◌ (f.outside (b + (q - b)) (inr (omega arith)) ∙ ap (λ (x : ℕ). get_or ps x 0) (sym e)) (ap (λ (x : ℕ). row j (across xs l x 0 k)) p)

    outside : (i : ℕ) → (i < 0) ⊎ (0 + w ≤ i) → get_or rs i 0 ≡ get_or ps i 0
    outside i (inl h) = absurd (not-suc-le-zero h)
    outside i (inr h) = g.outside i (inr (omega arith)) ∙ f.outside i (inr (omega arith))

-- the same of another number that is the same
pub added_all : (xs : List ℕ) (k l j from b w : ℕ) (ps qs : List ℕ) → w ≡ b → Added xs k l j from 0 b ps qs → Added xs k l j from 0 w ps qs
added_all xs k l j from b w ps qs e h = subst (λ (x : ℕ). Added xs k l j from 0 x ps qs) (sym e) h

-- ---- the run as one list

module _ (xs : List ℕ) (k l j from : ℕ) where
  from_length : (n : ℕ) → length (row_part xs k l j from n) ≡ n
  unfolding row_part
  from_length n = tabulate-length n _

  from_at : (n q : ℕ) → q < n → get_or (row_part xs k l j from n) q 0 ≡ row j (across xs l (from + q) 0 k)
  unfolding row_part
  from_at n q h = tabulate_at n _ q h

  module _ (ps : List ℕ) where
    abbrev sum : List ℕ
    sum = onto (λ (x y : ℕ). x ⊕ y) ps (row_part xs k l j from (length ps))

    sum_at_lem : (q : ℕ) → q < length ps → get_or sum q 0 ≡ get_or ps q 0 ⊕ row j (across xs l (from + q) 0 k)
    sum_at_lem q h =
        onto_at (λ (x y : ℕ). x ⊕ y) ps _ q h (omega (arith, from_length (length ps))) ∙ ap (λ (y : ℕ). get_or ps q 0 ⊕ y) (from_at (length ps) q h)

    pub added_left : run_fits (length xs) k l j from (length ps) ≡ false → ps ≡ added xs k l j from ps
    unfolding added
    added_left e = sym (ap (λ (b : Bool). cond b sum ps) e)

    module _ (e : run_fits (length xs) k l j from (length ps) ≡ true) where
      added_sum : added xs k l j from ps ≡ sum
      unfolding added
      added_sum = ap (λ (b : Bool). cond b sum ps) e

      pub added_exact : (qs : List ℕ) → Added xs k l j from 0 (length ps) ps qs → qs ≡ added xs k l j from ps
      added_exact qs g =
          ext_get_or 0 qs sum (g.long ∙ sym (onto-length (λ (x y : ℕ). x ⊕ y) ps _))
          (λ q h. ap (λ (x : ℕ). get_or qs x 0) (sym (ℕ-zero-add q)) ∙ g.inside q (omega (arith, g.long))
          ∙ ap (λ (x : ℕ). get_or ps x 0 ⊕ row j (across xs l (from + q) 0 k)) (ℕ-zero-add q) ∙ sym (sum_at_lem q (omega (arith, g.long))))
          ∙ sym added_sum

      pub added_places : (qs : List ℕ) → qs ≡ added xs k l j from ps → Added xs k l j from 0 (length ps) ps qs
      added_places qs is =
          record {
            long = ap length is' ∙ onto-length (λ (x y : ℕ). x ⊕ y) ps _;
            inside = λ q h. ap₂ get_or_of is' (ℕ-zero-add q) ∙ sum_at_lem q h
                ∙ sym (ap (λ (x : ℕ). get_or ps x 0 ⊕ row j (across xs l (from + q) 0 k)) (ℕ-zero-add q));
            outside = outside;
          }
        where
          get_or_of : List ℕ → ℕ → ℕ
          get_or_of zs i = get_or zs i 0

          is' : qs ≡ sum
          is' = is ∙ added_sum

          outside : (i : ℕ) → (i < 0) ⊎ (0 + length ps ≤ i) → get_or qs i 0 ≡ get_or ps i 0
          outside i (inl h) = absurd (not-suc-le-zero h)
          outside i (inr h) = ap (λ (zs : List ℕ). get_or zs i 0) is' ∙ onto_past (λ (x y : ℕ). x ⊕ y) ps _ i (omega (arith, from_length (length ps)))
