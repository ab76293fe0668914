-- Demand 3's last sentence at work where the other stripe is stale too: k=2, r=3, N=2, f=1. The plan names parity column 0 alone, in which stripe 0
-- is stale; stripe 1 is stale in parity column 2, so that it is no codeword and yet agrees in all that the plan names.
use Prim.Native.Nat.{ℕ, zero, suc, ◌+◌, ◌*◌, ◌<◌}
use mathlib.Core.Path.{◌≡◌, refl, sym, subst}
use mathlib.Core.List.{List, [], ◌∷◌, ◌++◌}
use native.Mathlib.Omega.{arith}
use lib.Dec.{lit<}
use lib.ListN.{length, get_or}
use Rattle.field.specs.Field.{◌⊕◌, ◌⊗◌, doubled, shifted, power, gpow}
use Rattle.field.specs.Bytes.{Bytes, tabulate}
use Rattle.field.specs.Row.{row, row_from}
use Rattle.stripe.specs.declared.Shape.{Shape}
use Rattle.stripe.specs.Shape.{shape_refusal, stripe_length}
use Rattle.stripe.specs.Stripe.{by_points, across, row_at, run_length, piggyback, parity_byte, data_of, Codeword}
use Rattle.stripe.proofs.Codewords.{codeword_checks}
use Rattle.plan.specs.Plan.{fold_refusal, kind_of, plan, wide_shape}
use Rattle.fold.specs.Fold.{parity_named, cut_out, wide_data}
use Rattle.shelf.specs.Shelf.{shape_of}
use Rattle.demands.specs.Calls.{Names, Folds}
use Rattle.demands.proofs.Named.{names_parity, parity_named_lem}
use Rattle.demands.proofs.Demands.{demand_3_stale_shows}

abbrev old : Shape
old = shape_of 2 3 0 1

-- of the stripes 01 02 03 05 09 and 03 04 07 0B 13
abbrev stale : List (List ℕ)
stale = (0x01 ∷ 0x02 ∷ 0x00 ∷ 0x05 ∷ 0x09 ∷ []) ∷ (0x03 ∷ 0x04 ∷ 0x07 ∷ 0x0B ∷ 0x00 ∷ []) ∷ []

planned : fold_refusal old 2 1 ≡ 0
unfolding fold_refusal shape_refusal
planned = refl

one_named : parity_named (kind_of old 1) old 1 ≡ 1
unfolding parity_named kind_of
one_named = refl

-- what the stripes ought to hold
stripe_0 : parity_byte old (data_of old (get_or stale 0 [])) 0 0 ≡ 0x03
unfolding by_points parity_byte piggyback run_length row_at across tabulate row row_from gpow power ◌⊗◌ shifted doubled ◌⊕◌
stripe_0 = refl

stripe_1 : parity_byte old (data_of old (get_or stale 1 [])) 0 0 ≡ 0x07
unfolding by_points parity_byte piggyback run_length row_at across tabulate row row_from gpow power ◌⊗◌ shifted doubled ◌⊕◌
stripe_1 = refl

stripe_1_unnamed : parity_byte old (data_of old (get_or stale 1 [])) 2 0 ≡ 0x13
unfolding by_points parity_byte piggyback run_length row_at across tabulate row row_from gpow power ◌⊗◌ shifted doubled ◌⊕◌
stripe_1_unnamed = refl

pub both_stale : (x : ℕ) → x < 2 → Codeword old (get_or stale x []) → ⊥
both_stale zero h w = let e = codeword_checks old (get_or stale 0 []) w 0 0 (lit< tt) (lit< tt) in omega (arith, e, stripe_0)
both_stale (suc zero) h w = let e = codeword_checks old (get_or stale 1 []) w 2 0 (lit< tt) (lit< tt) in omega (arith, e, stripe_1_unnamed)
both_stale (suc (suc x)) h w = absurd (omega arith)

long : (x : ℕ) → x < 2 → length (get_or stale x []) ≡ stripe_length old
long zero h = refl
long (suc zero) h = refl
long (suc (suc x)) h = absurd (omega arith)

bytes : Bytes (get_or stale 0 [])
bytes zero = lit< tt
bytes (suc zero) = lit< tt
bytes (suc (suc zero)) = lit< tt
bytes (suc (suc (suc zero))) = lit< tt
bytes (suc (suc (suc (suc zero)))) = lit< tt
bytes (suc (suc (suc (suc (suc x))))) = lit< tt

others : (y : ℕ) → y < 2 → (y ≡ 0 → ⊥) → (i p : ℕ) → Names old 2 1 y (2 + i) p
    → get_or (get_or stale y []) ((2 + i) * 1 + p) 0 ≡ parity_byte old (data_of old (get_or stale y [])) i p
others zero h ne i p w = absurd (ne refl)
others (suc zero) h ne i p w = agrees i p (subst (λ (x : ℕ). i < x) one_named at.1.0) at.1.1
  where
    at : (1 < 2) × ((i < parity_named (kind_of old 1) old 1) × (p < 1))
    at = names_parity old 2 1 1 i p w

    agrees : (i p : ℕ) → i < 1 → p < 1
        → get_or (get_or stale 1 []) ((2 + i) * 1 + p) 0 ≡ parity_byte old (data_of old (get_or stale 1 [])) i p
    agrees zero zero hi hp = sym stripe_1
    agrees zero (suc p) hi hp = absurd (omega arith)
    agrees (suc i) p hi hp = absurd (omega arith)
others (suc (suc y)) h ne i p w = absurd (omega arith)

-- Whatever the fold is lent to fill, the wide stripe is no codeword.
pub both_stale_shows : (ps : List ℕ) → length ps ≡ 1 → (v : ℕ) (ps' : List ℕ) → Folds 2 3 0 1 2 1 (cut_out old stale (plan old 2 1)) ps v ps'
    → Codeword (wide_shape old 2 1) (wide_data old stale ++ ps') → ⊥
both_stale_shows =
    demand_3_stale_shows 2 3 0 1 1 stale (sym planned) long 0 bytes others 0 0
    (parity_named_lem old 2 1 0 0 0 planned (lit< tt) (subst (λ (x : ℕ). 0 < x) (sym one_named) (lit< tt)) (lit< tt))
    (λ e. omega (arith, e, stripe_0))
