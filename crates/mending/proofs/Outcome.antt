-- Mending has one outcome for every stripe and list; what the lost columns held counts for nothing; with r lost nothing is refused 8.
use Prim.Native.Nat.{ℕ}
use mathlib.Core.Path.{◌≡◌, refl, sym, ap, ◌∙◌}
use mathlib.Core.Logic.{◌⊎◌, inl, inr}
use mathlib.Core.List.{List}
use native.Mathlib.Omega.{arith}
use lib.ListN.{length}
use Rattle.field.specs.Bytes.{Bytes}
use Rattle.field.proofs.Cases.{zero_or_not}
use Rattle.stripe.specs.declared.Shape.{Shape}
use Rattle.stripe.specs.Stripe.{Agree}
use Rattle.stripe.proofs.Determined.{agree_sym, agree_trans}
use Rattle.equations.proofs.Codes.{determined, completed}
use Rattle.lost.specs.Positions.{positions}
use Rattle.mending.specs.Mend.{mend_refusal, Restored, Mended}
use Rattle.mending.proofs.Passed.{Passed, passed}

-- codewords that restore two stripes which agree outside the lost columns are one
restored-one : (s : Shape) (ls xs xs' ys ys' : List ℕ) → Passed s (length xs) ls → Agree s (positions ls) xs xs'
    → Restored s (positions ls) xs ys → Restored s (positions ls) xs' ys' → ys ≡ ys'
restored-one s ls xs xs' ys ys' p g u v =
    determined s p.shape (positions ls) p.ascend p.few ys ys' u.codeword v.codeword
    (agree_trans s (positions ls) ys xs ys' (agree_sym s (positions ls) xs ys u.agrees) (agree_trans s (positions ls) xs xs' ys' g v.agrees))

restored_moved : (s : Shape) (es xs xs' ys : List ℕ) → Agree s es xs xs' → Restored s es xs ys → Restored s es xs' ys
restored_moved s es xs xs' ys g u =
    record { codeword = u.codeword; agrees = agree_trans s es xs' xs ys (agree_sym s es xs xs' g) u.agrees }

-- the outcome of a stripe: restored, or none restores it
abbrev Judged : Shape → List ℕ → List ℕ → ℕ → List ℕ → Type 0
Judged s es xs v ys = ((v ≡ 0) × Restored s es xs ys) ⊎ ((v ≡ 8) × ((ys ≡ xs) × ((zs : List ℕ) → Restored s es xs zs → ⊥)))

judged_one : (s : Shape) (ls xs xs' : List ℕ) (v v' : ℕ) (ys ys' : List ℕ) → Passed s (length xs) ls → Agree s (positions ls) xs xs'
    → Judged s (positions ls) xs v ys → Judged s (positions ls) xs' v' ys' → (v ≡ v') × (v ≡ 0 → ys ≡ ys')
judged_one s ls xs xs' v v' ys ys' p g (inl a) (inl b) =
    (a.0 ∙ sym b.0, λ z. restored-one s ls xs xs' ys ys' p g a.1 b.1)
judged_one s ls xs xs' v v' ys ys' p g (inl a) (inr b) =
    absurd (b.1.1 ys (restored_moved s (positions ls) xs xs' ys g a.1))
judged_one s ls xs xs' v v' ys ys' p g (inr a) (inl b) =
    absurd (a.1.1 ys' (restored_moved s (positions ls) xs' xs ys' (agree_sym s (positions ls) xs xs' g) b.1))
judged_one s ls xs xs' v v' ys ys' p g (inr a) (inr b) = (a.0 ∙ sym b.0, λ z. absurd (omega (arith, a.0, z)))

judged_bytes : (s : Shape) (ls xs : List ℕ) (v v' : ℕ) (ys ys' : List ℕ) → Passed s (length xs) ls
    → Judged s (positions ls) xs v ys → Judged s (positions ls) xs v' ys' → ys ≡ ys'
judged_bytes s ls xs v v' ys ys' p (inl a) (inl b) = restored-one s ls xs xs ys ys' p (λ c q hc hq n. refl) a.1 b.1
judged_bytes s ls xs v v' ys ys' p (inl a) (inr b) = absurd (b.1.1 ys a.1)
judged_bytes s ls xs v v' ys ys' p (inr a) (inl b) = absurd (a.1.1 ys' b.1)
judged_bytes s ls xs v v' ys ys' p (inr a) (inr b) = a.1.0 ∙ sym b.1.0

-- two calls that differ only in what the lost columns held give the same answer and, where it is no refusal, the same bytes
pub counts_for_nothing : (s : Shape) (ls xs xs' : List ℕ) (v v' : ℕ) (ys ys' : List ℕ) → length xs ≡ length xs' → Agree s (positions ls) xs xs'
    → Mended s ls xs v ys → Mended s ls xs' v' ys' → (v ≡ v') × (v ≡ 0 → ys ≡ ys')
counts_for_nothing s ls xs xs' v v' ys ys' e g m m' = go (zero_or_not (mend_refusal s (length xs) ls))
  where
    same : mend_refusal s (length xs) ls ≡ mend_refusal s (length xs') ls
    same = ap (λ (d : ℕ). mend_refusal s d ls) e

    go : (mend_refusal s (length xs) ls ≡ 0) ⊎ (mend_refusal s (length xs) ls ≡ 0 → ⊥) → (v ≡ v') × (v ≡ 0 → ys ≡ ys')
    go (inl z) = judged_one s ls xs xs' v v' ys ys' (passed s (length xs) ls z) g (m.judged z) (m'.judged (sym same ∙ z))
    go (inr n) =
        ((m.refused n).0 ∙ same ∙ sym (m'.refused (λ z. n (same ∙ z))).0, λ z. absurd (n (sym (m.refused n).0 ∙ z)))

-- for every input one outcome
pub mended-one : (s : Shape) (ls xs : List ℕ) (v v' : ℕ) (ys ys' : List ℕ) → Mended s ls xs v ys → Mended s ls xs v' ys' → (v ≡ v') × (ys ≡ ys')
mended-one s ls xs v v' ys ys' m m' =
    ((counts_for_nothing s ls xs xs v v' ys ys' refl (λ c p hc hp n. refl) m m').0, go (zero_or_not (mend_refusal s (length xs) ls)))
  where
    go : (mend_refusal s (length xs) ls ≡ 0) ⊎ (mend_refusal s (length xs) ls ≡ 0 → ⊥) → ys ≡ ys'
    go (inl z) = judged_bytes s ls xs v v' ys ys' (passed s (length xs) ls z) (m.judged z) (m'.judged z)
    go (inr n) = (m.refused n).1 ∙ sym (m'.refused n).1

-- with exactly r lost there is a codeword that agrees with all survivors
pub full_never_8 : (s : Shape) (ls xs : List ℕ) (v : ℕ) (ys : List ℕ) → Bytes xs → mend_refusal s (length xs) ls ≡ 0
    → length (positions ls) ≡ s.r → Mended s ls xs v ys → v ≡ 0
full_never_8 s ls xs v ys b z full m = go (m.judged z)
  where
    p : Passed s (length xs) ls
    p = passed s (length xs) ls z

    go : Judged s (positions ls) xs v ys → v ≡ 0
    go (inl a) = a.0
    go (inr a) =
        let w = completed s p.shape (positions ls) p.ascend full xs b p.long in
        absurd (a.1.1 w.0 record { codeword = w.1.0; agrees = w.1.1 })
