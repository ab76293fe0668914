-- Where a stripe is wrong: its parity agrees with that of its data, or first differs within; nowhere is said exactly of a codeword.
use Prim.Native.Nat.{ℕ, ◌/◌, ◌%◌, ◌<◌, ◌≤◌}
use mathlib.Core.Path.{◌≡◌, refl, sym, ap, ◌∙◌}
use mathlib.Core.Bool.{Bool, true, false, cond}
use mathlib.Core.List.{List, ◌++◌}
use native.Mathlib.Nat.{suc-ne-zero, mul-le-mul}
use native.Mathlib.Omega.{arith}
use borrow.Author.Tests.{eq-eqb, ne_eqb, eqb-true, eqb-false, lt-ltb, le-ltb}
use lib.Dec.{eqb}
use lib.ListN.{length}
use Rattle.field.specs.Bytes.{Bytes}
use Rattle.stripe.specs.declared.Shape.{Shape}
use Rattle.stripe.specs.Shape.{shape_refusal, data_length, parity_length, most_rows, most_rows_length}
use Rattle.stripe.specs.Stripe.{parity, Codeword}
use Rattle.stripe.specs.Column.{lent_refusal}
use Rattle.checking.specs.Compare.{agree, first_difference}
use Rattle.std.specs.Prelude.{IsErrAnd}
use Rattle.std.specs.declared.option.Option.{Option}
use Rattle.std.specs.declared.option.Option.TheVariants.{None, Some}
use Rattle.std.specs.declared.result.Result.{Result}
use Rattle.std.specs.declared.result.Result.TheVariants.{Ok, Err}
use Rattle.stripe.specs.declared.refusal.Refusal.{Refusal}
use Rattle.stripe.specs.Refusal.{refusal_number}
use Rattle.stripe.proofs.Refused.{same_refusal}
use Rattle.checking.specs.declared.Place.{Place}
use Rattle.checking.specs.Check.{Nowhere, At, Refused, found, reported, number_of, where_is, first_wrong}
use Rattle.stripe.proofs.Allowed.{allowed}
use Rattle.stripe.proofs.Places.{parity-length}
use Rattle.stripe.proofs.Codewords.{joined_codeword, codeword_joined}
use Rattle.stripe.proofs.Lent.{Lent, lent, lent_both}
use Rattle.checking.proofs.Comparing.{agree_equal, first_self, first_within}

-- ---- what an answer reports

-- an error handed on by `?` reports the same refusal
pub reported_refused : (r : Result (Option Place) Refusal) (e : Refusal) → IsErrAnd r (λ w. w ≡ e) → reported r ≡ Refused (refusal_number e)
reported_refused (Ok x) e h = absurd h
reported_refused (Err w) e h = ap (λ (x : Refusal). Refused (refusal_number x)) h

-- two answers that report the same are the same
same_place : (v w : Place) → v.column ≡ w.column → v.place ≡ w.place → v ≡ w
same_place v w e f i = record { column = e i; place = f i }

found_same : (v w : Option Place) → found v ≡ found w → v ≡ w
found_same None None h = refl
found_same None (Some w) h = cc
found_same (Some v) None h = cc
found_same (Some v) (Some w) h =
    let e : v.column ≡ w.column = cc in
    let f : v.place ≡ w.place = cc in
    ap Some (same_place v w e f)

pub reported_same : (v w : Result (Option Place) Refusal) → reported v ≡ reported w → v ≡ w
reported_same (Ok v) (Ok w) h = ap Ok (found_same v w h)
reported_same (Ok None) (Err w) h = cc
reported_same (Ok (Some v)) (Err w) h = cc
reported_same (Err v) (Ok None) h = cc
reported_same (Err v) (Ok (Some w)) h = cc
reported_same (Err v) (Err w) h = let k : refusal_number v ≡ refusal_number w = cc in ap Err (same_refusal v w k)

-- ---- the answer

module _ (s : Shape) (n : ℕ) where
  pub where_past : parity_length s ≤ n → where_is s n ≡ Nowhere
  unfolding where_is
  where_past h = ap (λ (b : Bool). cond b (At (n / s.l) (n % s.l)) Nowhere) (le-ltb n (parity_length s) h)

  pub where_within : n < parity_length s → where_is s n ≡ At (n / s.l) (n % s.l)
  unfolding where_is
  where_within h = ap (λ (b : Bool). cond b (At (n / s.l) (n % s.l)) Nowhere) (lt-ltb n (parity_length s) h)

module _ (s : Shape) (ds ps : List ℕ) where
  pub wrong_refused : (lent_refusal s (length ds) (length ps) ≡ 0 → ⊥) → first_wrong s ds ps ≡ Refused (lent_refusal s (length ds) (length ps))
  unfolding first_wrong
  wrong_refused h = simp (ne_eqb _ _ h)

  module _ (h : lent_refusal s (length ds) (length ps) ≡ 0) where
    known : Lent s (length ds) (length ps)
    known = lent s (length ds) (length ps) h

    pub not_refused : first_wrong s ds ps ≡ where_is s (first_difference ps (parity s ds))
    unfolding first_wrong
    not_refused = simp (eq-eqb _ _ h)

    exact_nowhere : ps ≡ parity s ds → first_wrong s ds ps ≡ Nowhere
    exact_nowhere e =
        not_refused ∙ ap (λ (qs : List ℕ). where_is s (first_difference ps qs)) (sym e) ∙ ap (where_is s) (first_self ps)
        ∙ where_past s (length ps) (omega (arith, known.parity_long))

    exact : agree ps (parity s ds) ≡ true → ps ≡ parity s ds
    exact e = agree_equal ps (parity s ds) (known.parity_long ∙ sym (parity-length s ds)) e

    pub wrong_nowhere : agree ps (parity s ds) ≡ true → first_wrong s ds ps ≡ Nowhere
    wrong_nowhere e = exact_nowhere (exact e)

    pub wrong_at : agree ps (parity s ds) ≡ false
        → first_wrong s ds ps ≡ At (first_difference ps (parity s ds) / s.l) (first_difference ps (parity s ds) % s.l)
    wrong_at e = not_refused ∙ where_within s _ (omega (arith, first_within ps (parity s ds) e, known.parity_long))

    nowhere_exact : first_wrong s ds ps ≡ Nowhere → ps ≡ parity s ds
    nowhere_exact e = go (agree ps (parity s ds)) refl
      where
        go : (b : Bool) → agree ps (parity s ds) ≡ b → ps ≡ parity s ds
        go true h = exact h
        go false h = absurd (suc-ne-zero 7 (ap number_of (sym (wrong_at h) ∙ e)))

-- the longest parity by rows
pub parity_most : (s : Shape) (d p : ℕ) → lent_refusal s d p ≡ 0 → s.r ≤ most_rows → p ≤ most_rows_length
parity_most s d p h few =
    let k = lent s d p h in omega (arith, k.parity_long, mul-le-mul {n₂ = most_rows} few (allowed s k.shape).length_most)

-- ---- nowhere, exactly for a codeword

-- an answer whose number is 0 refuses nothing
nowhere_lent : (s : Shape) (ds ps : List ℕ) → first_wrong s ds ps ≡ Nowhere → lent_refusal s (length ds) (length ps) ≡ 0
nowhere_lent s ds ps e = go (eqb (lent_refusal s (length ds) (length ps)) 0) refl
  where
    go : (b : Bool) → eqb (lent_refusal s (length ds) (length ps)) 0 ≡ b → lent_refusal s (length ds) (length ps) ≡ 0
    go true h = eqb-true _ _ h
    go false h = ap number_of (sym (wrong_refused s ds ps (eqb-false _ _ h)) ∙ e)

pub nowhere_codeword : (s : Shape) (ds ps : List ℕ) → Bytes ds → Bytes ps → first_wrong s ds ps ≡ Nowhere → Codeword s (ds ++ ps)
nowhere_codeword s ds ps hd hp e =
    joined_codeword s ds ps hd hp (lent s (length ds) (length ps) none).data_long (nowhere_exact s ds ps none e)
  where
    none : lent_refusal s (length ds) (length ps) ≡ 0
    none = nowhere_lent s ds ps e

pub codeword_nowhere : (s : Shape) (ds ps : List ℕ) → shape_refusal s ≡ 0 → length ds ≡ data_length s → length ps ≡ parity_length s
    → Codeword s (ds ++ ps) → first_wrong s ds ps ≡ Nowhere
codeword_nowhere s ds ps h hd hp w =
    exact_nowhere s ds ps (lent_both s (length ds) (length ps) h hd hp) (codeword_joined s ds ps hd w)
