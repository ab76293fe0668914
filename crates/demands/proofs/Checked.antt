-- The check for C: 0 and 8 are answered only where nothing is refused, and say whether the stripe is a codeword; 8 leaves where it is first wrong.
use Prim.Native.Nat.{ℕ, ◌/◌}
use mathlib.Core.Path.{◌≡◌, refl, sym, ap, ◌∙◌, subst}
use mathlib.Core.Bool.{Bool, true, false, ◌&&◌}
use mathlib.Core.Logic.{◌⊎◌, inl, inr, ◌↔◌}
use mathlib.Core.List.{List, [], ◌∷◌, ◌++◌}
use native.Mathlib.Omega.{arith}
use lib.Dec.{eqb}
use lib.ListN.{length}
use Rattle.field.specs.Bytes.{Bytes}
use Rattle.field.proofs.Cases.{zero_or_not}
use Rattle.stripe.specs.declared.Shape.{Shape}
use Rattle.stripe.specs.Shape.{length_allowed, data_length, parity_length}
use Rattle.stripe.specs.Stripe.{parity, Codeword}
use Rattle.stripe.specs.Column.{lent_refusal}
use Rattle.checking.specs.Compare.{agree, first_difference}
use Rattle.checking.specs.Check.{Wrong, Nowhere, At, Refused, number_of, first_wrong, FirstDisagreement}
use Rattle.checking.proofs.Where.{wrong_nowhere, wrong_at}
use Rattle.checking.proofs.Numbers.{Judged, first_found, number_refused, number_judged, number_codeword}
use Rattle.record.specs.Reading.{first_of, unless}
use Rattle.shelf.specs.Check.{column_left, place_left}
use Rattle.demands.specs.Calls.{numbers_allowed, encode_table}
use Rattle.demands.proofs.Tables.{encode_table_lem}

-- any other number than 8 leaves the two numbers as they were
pub both_stay : (w : Wrong) (x y : ℕ) → (number_of w ≡ 8 → ⊥) → (column_left w x ≡ x) × (place_left w y ≡ y)
both_stay Nowhere x y h = (refl, refl)
both_stay (At i p) x y h = absurd (h refl)
both_stay (Refused n) x y h = (refl, refl)

other_than_8 : (s : Shape) (d p : ℕ) → first_of (encode_table s d p) ≡ 8 → ⊥
unfolding first_of
other_than_8 s d p = go (numbers_allowed s) (length_allowed s.t s.l) (eqb d (data_length s) && eqb p (parity_length s))
  where
    go : (a b c : Bool) → first_of (unless a 1 ∷ unless b 2 ∷ unless c 5 ∷ []) ≡ 8 → ⊥
    go true true true e = omega arith
    go true true false e = omega arith
    go true false c e = omega arith
    go false b c e = omega arith

module _ (s : Shape) (ds ps : List ℕ) where
  abbrev refusal : ℕ
  refusal = lent_refusal s (length ds) (length ps)

  abbrev answer : Wrong
  answer = first_wrong s ds ps

  table : refusal ≡ first_of (encode_table s (length ds) (length ps))
  table = encode_table_lem s (length ds) (length ps)

  judged : (number_of answer ≡ 0) ⊎ (number_of answer ≡ 8) → refusal ≡ 0
  judged e = go (zero_or_not refusal) e
    where
      go : (refusal ≡ 0) ⊎ (refusal ≡ 0 → ⊥) → (number_of answer ≡ 0) ⊎ (number_of answer ≡ 8) → refusal ≡ 0
      go (inl z) e = z
      go (inr n) (inl e) = sym (number_refused s ds ps n).0 ∙ e
      go (inr n) (inr e) = absurd (other_than_8 s (length ds) (length ps) (sym table ∙ sym (number_refused s ds ps n).0 ∙ e))

  pub first_left : (x y x' y' : ℕ) → x' ≡ column_left answer x → y' ≡ place_left answer y → number_of answer ≡ 8 → FirstDisagreement s ds ps x' y'
  first_left x y x' y' column place e = go (agree ps (parity s ds)) refl
    where
      lent : refusal ≡ 0
      lent = judged (inr e)

      first : ℕ
      first = first_difference ps (parity s ds)

      go : (b : Bool) → agree ps (parity s ds) ≡ b → FirstDisagreement s ds ps x' y'
      go true h = absurd (omega (arith, e, ap number_of (wrong_nowhere s ds ps lent h)))
      go false h =
          let at = wrong_at s ds ps lent h in
          subst (λ (i : ℕ). FirstDisagreement s ds ps i y') (sym (column ∙ ap (λ (w : Wrong). column_left w x) at))
          (subst (FirstDisagreement s ds ps (first / s.l)) (sym (place ∙ ap (λ (w : Wrong). place_left w y) at)) (first_found s ds ps lent h))

  module _ (hd : Bytes ds) (hp : Bytes ps) where
    pub codeword_0 : (number_of answer ≡ 0) ↔ ((first_of (encode_table s (length ds) (length ps)) ≡ 0) × Codeword s (ds ++ ps))
    codeword_0 = (
      λ e. let z = judged (inl e) in (sym table ∙ z, (number_codeword s ds ps z hd hp).0 e),
      λ w. (number_codeword s ds ps (table ∙ w.0) hd hp).1 w.1,
    )

    pub other_8 : (number_of answer ≡ 8) ↔ ((first_of (encode_table s (length ds) (length ps)) ≡ 0) × (Codeword s (ds ++ ps) → ⊥))
    other_8 = (
      λ e. let z = judged (inr e) in (sym table ∙ z, λ c. omega (arith, e, (number_codeword s ds ps z hd hp).1 c)),
      λ w. go (number_judged s ds ps (table ∙ w.0) hd hp) w.1,
    )
      where
        go : Judged s ds ps answer → (Codeword s (ds ++ ps) → ⊥) → number_of answer ≡ 8
        go (inl a) other = absurd (other a.1.1)
        go (inr a) other = a.0
