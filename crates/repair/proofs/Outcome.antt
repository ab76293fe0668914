-- A repair has one outcome for every stripe and list of lost positions.
use Prim.Native.Nat.{ℕ, ◌+◌}
use mathlib.Core.Path.{◌≡◌, sym, ◌∙◌}
use mathlib.Core.Logic.{◌⊎◌, inl, inr}
use mathlib.Core.List.{List}
use lib.ListN.{length}
use Rattle.field.proofs.Cases.{zero_or_not}
use Rattle.equations.specs.Whole.{Codeword, Agree}
use Rattle.equations.proofs.Mended.{determined}
use Rattle.repair.specs.Repair.{repair_refusal, Repaired}
use Rattle.repair.proofs.Refused.{Lawful, lawful}

module _ (k r l : ℕ) (es xs : List ℕ) where
  -- mended, or no codeword agrees with all survivors
  abbrev Judged : ℕ → List ℕ → Type 0
  Judged v ys =
      ((v ≡ 0) × (Codeword k r l ys × Agree (k + r) l es xs ys))
      ⊎ ((v ≡ 8) × ((ys ≡ xs) × ((zs : List ℕ) → Codeword k r l zs → Agree (k + r) l es xs zs → ⊥)))

  judged_one : Lawful k r l es (length xs) → (v v' : ℕ) (ys ys' : List ℕ) → Judged v ys → Judged v' ys' → (v ≡ v') × (ys ≡ ys')
  judged_one h v v' ys ys' (inl a) (inl b) = (
    a.0 ∙ sym b.0,
    determined k r l h.numbers.points_most es h.ascend h.few ys ys' a.1.0 b.1.0
        (λ c p hc hp m. sym (a.1.1 c p hc hp m) ∙ b.1.1 c p hc hp m),
  )
  judged_one h v v' ys ys' (inl a) (inr b) = absurd (b.1.1 ys a.1.0 a.1.1)
  judged_one h v v' ys ys' (inr a) (inl b) = absurd (a.1.1 ys' b.1.0 b.1.1)
  judged_one h v v' ys ys' (inr a) (inr b) = (a.0 ∙ sym b.0, a.1.0 ∙ sym b.1.0)

  pub repaired_one : (v v' : ℕ) (ys ys' : List ℕ) → Repaired k r l es xs v ys → Repaired k r l es xs v' ys' → (v ≡ v') × (ys ≡ ys')
  repaired_one v v' ys ys' m m' = go (zero_or_not (repair_refusal k r l es (length xs)))
    where
      go : (repair_refusal k r l es (length xs) ≡ 0) ⊎ (repair_refusal k r l es (length xs) ≡ 0 → ⊥) → (v ≡ v') × (ys ≡ ys')
      go (inl z) = judged_one (lawful k r l es (length xs) z) v v' ys ys' (m.judged z) (m'.judged z)
      go (inr n) = ((m.refused n).0 ∙ sym (m'.refused n).0, (m.refused n).1 ∙ sym (m'.refused n).1)
