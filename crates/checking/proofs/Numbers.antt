-- The check's answer by document 01's number and values: the refusal; 0 for a codeword; 8, and where the parity first disagrees, for any other stripe.
use Prim.Native.Nat.{ℕ, ◌+◌, ◌*◌, ◌/◌, ◌%◌, ◌<◌}
use mathlib.Core.Path.{◌≡◌, refl, sym, ap, ◌∙◌, subst}
use mathlib.Core.Bool.{Bool, true, false}
use mathlib.Core.Logic.{◌⊎◌, inl, inr, ◌↔◌}
use mathlib.Core.List.{List, [], ◌∷◌, ◌++◌}
use native.Mathlib.Nat.{suc-ne-zero}
use native.Mathlib.Omega.{arith}
use lib.ListN.{length, get_or}
use Rattle.field.specs.Bytes.{Bytes}
use Rattle.stripe.specs.declared.Shape.{Shape}
use Rattle.stripe.specs.Shape.{parity_length}
use Rattle.stripe.specs.Stripe.{parity, Codeword}
use Rattle.stripe.specs.Column.{lent_refusal}
use Rattle.stripe.proofs.Places.{parity_at, place_split, place_column_lt, place_byte_lt}
use Rattle.stripe.proofs.Lent.{Lent, lent}
use Rattle.checking.specs.Compare.{agree, first_difference}
use Rattle.checking.specs.Check.{Wrong, number_of, values_of, first_wrong, FirstDisagreement}
use Rattle.checking.proofs.Comparing.{first_within, first_differs, first_before}
use Rattle.checking.proofs.Where.{wrong_refused, wrong_nowhere, wrong_at, nowhere_codeword, codeword_nowhere}

-- the answer where nothing is refused: 0 and no values for a codeword; 8 and the first disagreement, its column and place, for any other stripe
abbrev pub Judged : Shape → List ℕ → List ℕ → Wrong → Type 0
Judged s ds ps w =
    ((number_of w ≡ 0) × ((values_of w ≡ []) × Codeword s (ds ++ ps)))
    ⊎ ((number_of w ≡ 8) × ((Codeword s (ds ++ ps) → ⊥) × ((i : ℕ) × ((p : ℕ) × ((values_of w ≡ i ∷ p ∷ []) × FirstDisagreement s ds ps i p)))))

module _ (s : Shape) (ds ps : List ℕ) where
  -- 1, 2 or 5 where the numbers or the lengths lent are refused, and no values
  pub number_refused : (lent_refusal s (length ds) (length ps) ≡ 0 → ⊥)
      → (number_of (first_wrong s ds ps) ≡ lent_refusal s (length ds) (length ps)) × (values_of (first_wrong s ds ps) ≡ [])
  number_refused h = (ap number_of (wrong_refused s ds ps h), ap values_of (wrong_refused s ds ps h))

  module _ (h : lent_refusal s (length ds) (length ps) ≡ 0) where
    known : Lent s (length ds) (length ps)
    known = lent s (length ds) (length ps) h

    abbrev first : ℕ
    first = first_difference ps (parity s ds)

    pub first_found : agree ps (parity s ds) ≡ false → FirstDisagreement s ds ps (first / s.l) (first % s.l)
    first_found e =
        record {
          column = column;
          place = place;
          differs =
              λ g. first_differs ps (parity s ds) e
              (subst (λ (n : ℕ). get_or ps n 0 ≡ get_or (parity s ds) n 0) split (g ∙ sym (parity_at s ds (first / s.l) (first % s.l) column place)));
          before =
              λ j q hj hq l. first_before ps (parity s ds) (j * s.l + q) (subst (λ (n : ℕ). j * s.l + q < n) split l) ∙ parity_at s ds j q hj hq;
        }
      where
        within : first < parity_length s
        within = omega (arith, first_within ps (parity s ds) e, known.parity_long)

        split : first / s.l * s.l + first % s.l ≡ first
        split = place_split first s.l

        column : first / s.l < s.r
        column = place_column_lt first s.r s.l within

        place : first % s.l < s.l
        place = place_byte_lt first s.r s.l within

    -- else 0 for a codeword, and 8 with the first disagreement for any other stripe
    pub number_judged : Bytes ds → Bytes ps → Judged s ds ps (first_wrong s ds ps)
    number_judged hd hp = go (agree ps (parity s ds)) refl
      where
        other : agree ps (parity s ds) ≡ false → Codeword s (ds ++ ps) → ⊥
        other e c =
            suc-ne-zero 7
            (ap number_of (sym (wrong_at s ds ps h e) ∙ codeword_nowhere s ds ps known.shape known.data_long known.parity_long c))

        go : (b : Bool) → agree ps (parity s ds) ≡ b → Judged s ds ps (first_wrong s ds ps)
        go true e = let w = wrong_nowhere s ds ps h e in inl (ap number_of w, (ap values_of w, nowhere_codeword s ds ps hd hp w))
        go false e =
            let w = wrong_at s ds ps h e in
            inr (ap number_of w, (other e, (first / s.l, (first % s.l, (ap values_of w, first_found e)))))

    -- so that the number is 0 exactly for a codeword
    pub number_codeword : Bytes ds → Bytes ps → (number_of (first_wrong s ds ps) ≡ 0) ↔ Codeword s (ds ++ ps)
    number_codeword hd hp = go (number_judged hd hp)
      where
        go : Judged s ds ps (first_wrong s ds ps) → (number_of (first_wrong s ds ps) ≡ 0) ↔ Codeword s (ds ++ ps)
        go (inl a) = (λ _. a.1.1, λ _. a.0)
        go (inr a) = (λ z. absurd (omega (arith, a.0)), λ c. absurd (a.1.0 c))
