-- Rows put into a buffer block by block: a block extends its own row and leaves the others.
use mathlib.Core.Path.{◌≡◌, refl, sym, ap, ap₂, ◌∙◌, subst}
use mathlib.Core.Bool.{Bool, true, false, cond}
use mathlib.Core.List.{List}
use mathlib.Core.Logic.{◌⊎◌, inl, inr, ⊎_elim}
use Prim.Native.Nat.{ℕ, zero, suc, ◌+◌, ◌*◌, ◌-◌, ◌<◌, ◌≤◌}
use native.Mathlib.Nat.{mul-le-mul_right, suc-mul, not-suc-le-zero, le_of_suc-le-suc}
use native.Mathlib.Omega.{arith}
use lib.Dec.{lit<}
use lib.ListN.{length, get_or, take, drop}
use borrow.Rule.Slice.PartMut.{put_mid}
use borrow.Author.Count.{below_more}
use Rattle.field.specs.Row.{row}
use Rattle.field.proofs.Bytes.{tabulate-length, tabulate_at}
use Rattle.field.proofs.Cases.{below_or_from}
use Rattle.lanes.specs.Lanes.{onto}
use Rattle.lanes.proofs.Onto.{onto_at, onto-length}
use Rattle.stripe.specs.Stripe.{across}
use Rattle.rows.specs.Rows.{RowIn, RowsBelow, RowsTo, Put, rows_fit, rows_of, filled}
use Rattle.lanes.proofs.Parts.{part_length, back_length, back_inside, back_outside}
use Rattle.stripe.proofs.Places.{place_lt, place_column, place_byte, by_places}

-- what `copy` into a part leaves of the whole
pub put_copied : (xs b ys : List ℕ) (at n : ℕ) → at + n ≤ length xs → n ≤ length b
    → ys ≡ onto (λ (x y : ℕ). y) (take (at + n - at) (drop at xs)) b → Put xs at n b (put_mid at (at + n - at) xs ys)
put_copied xs b ys at n fits long is =
    record {
      long = back_length xs ys at n ys_long fits;
      inside = λ q h. back_inside xs ys at n ys_long fits q h ∙ ap (λ (l : List ℕ). get_or l q 0) is
          ∙ onto_at (λ (x y : ℕ). y) _ b q (omega (arith, part_length xs at n fits)) (omega arith);
      outside = back_outside xs ys at n ys_long fits;
    }
  where
    ys_long : length ys ≡ n
    ys_long = ap length is ∙ onto-length (λ (x y : ℕ). y) _ b ∙ part_length xs at n fits

-- row j stands in ps at the places below e
abbrev pub RowBelow : List ℕ → ℕ → ℕ → ℕ → ℕ → List ℕ → Type 0
RowBelow xs k l j e ps = (p : ℕ) → p < e → get_or ps (j * l + p) 0 ≡ row j (across xs l p 0 k)

module _ (xs : List ℕ) (k l from n : ℕ) (fits : from + n ≤ l) where
  -- the block of its own row
  own : (j at : ℕ) (ps b qs : List ℕ) → at ≡ j * l + from → Put ps at n b qs → RowIn xs k l from n j b
      → RowBelow xs k l j from ps → RowBelow xs k l j (from + n) qs
  own j at ps b qs a put r h p less = ⊎_elim old new (below_or_from p from)
    where
      old : p < from → get_or qs (j * l + p) 0 ≡ row j (across xs l p 0 k)
      old g = put.outside (j * l + p) (inl (omega arith)) ∙ h p g

      new : from ≤ p → get_or qs (j * l + p) 0 ≡ row j (across xs l p 0 k)
      new g =
          let e : from + (p - from) ≡ p = omega arith in
          ap (λ (i : ℕ). get_or qs i 0) (omega arith) ∙ put.inside (p - from) (omega arith) ∙ r (p - from) (omega arith)
          ∙ ap (λ (i : ℕ). row j (across xs l i 0 k)) e

  -- the block of another row i
  other : (i j at e : ℕ) (ps b qs : List ℕ) → (j < i) ⊎ (i < j) → at ≡ i * l + from → e ≤ l → Put ps at n b qs
      → RowBelow xs k l j e ps → RowBelow xs k l j e qs
  other i j at e ps b qs (inl d) a el put h p less =
      put.outside (j * l + p) (inl (omega (arith, mul-le-mul_right l d, suc-mul j l))) ∙ h p less
  other i j at e ps b qs (inr d) a el put h p less =
      put.outside (j * l + p) (inr (omega (arith, mul-le-mul_right l d, suc-mul i l))) ∙ h p less

  pub filled_1 : (ps b qs : List ℕ) → RowIn xs k l from n 0 b → Put ps from n b qs → RowsBelow xs k l 1 from ps → RowsBelow xs k l 1 (from + n) qs
  filled_1 ps b qs r put h zero = λ p j. own 0 from ps b qs (omega arith) put r (λ q. h 0 q (lit< tt)) p
  filled_1 ps b qs r put h (suc i) = λ p j. absurd (not-suc-le-zero (le_of_suc-le-suc j))

  module _ (ps qs b c : List ℕ) (r0 : RowIn xs k l from n 0 b) (r1 : RowIn xs k l from n 1 c) (put0 : Put ps from n b qs) where
    pub filled_2 : (rs : List ℕ) → Put qs (l + from) n c rs → RowsBelow xs k l 2 from ps → RowsBelow xs k l 2 (from + n) rs
    filled_2 rs put1 h zero =
        λ p j. other 1 0 (l + from) (from + n) qs c rs (inl (lit< tt)) (omega arith) fits put1 (own 0 from ps b qs (omega arith) put0 r0 (λ q. h 0 q (lit< tt)))
        p
    filled_2 rs put1 h (suc zero) =
        λ p j. own 1 (l + from) qs c rs (omega arith) put1 r1
        (other 0 1 from from ps b qs (inr (lit< tt)) (omega arith) (omega arith) put0 (λ q. h 1 q (lit< tt))) p
    filled_2 rs put1 h (suc (suc i)) = λ p j. absurd (not-suc-le-zero (le_of_suc-le-suc (le_of_suc-le-suc j)))

    pub filled_3 : (rs ss e : List ℕ) → RowIn xs k l from n 2 e → Put qs (l + from) n c rs → Put rs (l + l + from) n e ss
        → RowsBelow xs k l 3 from ps → RowsBelow xs k l 3 (from + n) ss
    filled_3 rs ss e r2 put1 put2 h zero =
        λ p j. other 2 0 (l + l + from) (from + n) rs e ss (inl (lit< tt)) (omega arith) fits put2
        (other 1 0 (l + from) (from + n) qs c rs (inl (lit< tt)) (omega arith) fits put1 (own 0 from ps b qs (omega arith) put0 r0 (λ q. h 0 q (lit< tt)))) p
    filled_3 rs ss e r2 put1 put2 h (suc zero) =
        λ p j. other 2 1 (l + l + from) (from + n) rs e ss (inl (lit< tt)) (omega arith) fits put2
        (own 1 (l + from) qs c rs (omega arith) put1 r1 (other 0 1 from from ps b qs (inr (lit< tt)) (omega arith) (omega arith) put0 (λ q. h 1 q (lit< tt)))) p
    filled_3 rs ss e r2 put1 put2 h (suc (suc zero)) =
        λ p j. own 2 (l + l + from) rs e ss (omega arith) put2 r2
        (other 1 2 (l + from) from qs c rs (inr (lit< tt)) (omega arith) (omega arith) put1
        (other 0 2 from from ps b qs (inr (lit< tt)) (omega arith) (omega arith) put0 (λ q. h 2 q (lit< tt)))) p
    filled_3 rs ss e r2 put1 put2 h (suc (suc (suc i))) = λ p j. absurd (not-suc-le-zero (le_of_suc-le-suc (le_of_suc-le-suc (le_of_suc-le-suc j))))

-- a block more of row j, and then the whole of it
pub part_more : (xs : List ℕ) (k l j from n : ℕ) (ps b qs : List ℕ) → from + n ≤ l → RowIn xs k l from n j b → Put ps (j * l + from) n b qs
    → RowsTo xs k l j from ps → RowsTo xs k l j (from + n) qs
part_more xs k l j from n ps b qs fits r put h = (
  λ i p d less. other xs k l from n fits j i (j * l + from) l ps b qs (inl d) refl (omega arith) put (λ q. h.0 i q d) p less,
  own xs k l from n fits j (j * l + from) ps b qs refl put r h.1,
)

pub part_all : (xs : List ℕ) (k l j e : ℕ) (ps : List ℕ) → e ≡ l → RowsTo xs k l j e ps → RowsBelow xs k l (j + 1) l ps
part_all xs k l j e ps same h i p less =
    below_more (λ (i : ℕ). RowBelow xs k l i l ps) j (λ i d q. h.0 i q d) (λ q w. h.1 q (omega arith)) i less p

-- the same of another number that is the same
pub rows_by : (xs : List ℕ) (k l r s e : ℕ) (ps : List ℕ) → r ≡ s → RowsBelow xs k l s e ps → RowsBelow xs k l r e ps
rows_by xs k l r s e ps same h = subst (λ (x : ℕ). RowsBelow xs k l x e ps) (sym same) h

-- ---- the rows as one list

module _ (xs : List ℕ) (k l r : ℕ) where
  rows_at : (j p : ℕ) → j < r → p < l → get_or (rows_of xs k l r) (j * l + p) 0 ≡ row j (across xs l p 0 k)
  unfolding rows_of
  rows_at j p hj hp =
      tabulate_at (r * l) _ (j * l + p) (place_lt hj hp) ∙ ap₂ (λ (x y : ℕ). row x (across xs l y 0 k)) (place_column j hp) (place_byte j hp)

  rows_length : length (rows_of xs k l r) ≡ r * l
  unfolding rows_of
  rows_length = tabulate-length (r * l) _

  module _ (ps : List ℕ) where
    pub filled_left : rows_fit (length xs) k l r (length ps) ≡ false → ps ≡ filled xs k l r ps
    unfolding filled
    filled_left e = sym (ap (λ (b : Bool). cond b (rows_of xs k l r) ps) e)

    module _ (e : rows_fit (length xs) k l r (length ps) ≡ true) where
      filled_rows : filled xs k l r ps ≡ rows_of xs k l r
      unfolding filled
      filled_rows = ap (λ (b : Bool). cond b (rows_of xs k l r) ps) e

      pub filled_exact : (qs : List ℕ) → length qs ≡ r * l → RowsBelow xs k l r l qs → qs ≡ filled xs k l r ps
      filled_exact qs long h = by_places r l qs _ long rows_length (λ j p hj hp. h j p hj hp ∙ sym (rows_at j p hj hp)) ∙ sym filled_rows

      pub filled_places : (qs : List ℕ) → qs ≡ filled xs k l r ps → RowsBelow xs k l r l qs
      filled_places qs is j p hj hp = ap (λ (zs : List ℕ). get_or zs (j * l + p) 0) (is ∙ filled_rows) ∙ rows_at j p hj hp
