-- A stripe lent as two buffers: what is known where it is not refused, and which columns the column question gives.
use Prim.Native.Nat.{ℕ, ◌+◌, ◌-◌, ◌*◌, ◌≤◌, ◌<◌}
use mathlib.Core.Path.{◌≡◌, refl, ap, ◌∙◌}
use mathlib.Core.Bool.{Bool, true, false, cond, ◌&&◌}
use mathlib.Core.List.{List, []}
use mathlib.Core.Logic.{⊎_elim}
use native.Mathlib.Omega.{arith}
use borrow.Author.Tests.{eq-eqb, ne_eqb, eqb-true, eqb-false, lt-ltb, le-ltb}
use lib.Dec.{eqb}
use lib.ListN.{length, take, drop, length-take, length-drop}
use Rattle.field.proofs.Cases.{below_or_from}
use Rattle.stripe.specs.declared.Shape.{Shape}
use Rattle.stripe.specs.Shape.{shape_refusal, columns, data_length, parity_length}
use Rattle.stripe.specs.Column.{lent_refusal, column_in, column_of}
use Rattle.stripe.proofs.Allowed.{allowed}
use Rattle.stripe.proofs.Places.{column_inside}

-- an allowed shape, and two buffers of the lengths stated
pub record Lent (s : Shape) (d p : ℕ) : Type 0 where
  pub shape : shape_refusal s ≡ 0
  pub data_long : d ≡ data_length s
  pub parity_long : p ≡ parity_length s

tests : (n : ℕ) (a b : Bool) → ◌≡◌ {A = ℕ} (cond (eqb n 0) (cond (a && b) 0 5) n) 0 → (eqb n 0 ≡ true) × ((a ≡ true) × (b ≡ true))
tests n a b e = go (eqb n 0) a b refl e
  where
    go : (x a b : Bool) → eqb n 0 ≡ x → ◌≡◌ {A = ℕ} (cond x (cond (a && b) 0 5) n) 0 → (x ≡ true) × ((a ≡ true) × (b ≡ true))
    go true true true h e = (refl, (refl, refl))
    go true true false h e = absurd (omega arith)
    go true false b h e = absurd (omega arith)
    go false a b h e = absurd (eqb-false n 0 h e)

pub lent : (s : Shape) (d p : ℕ) → lent_refusal s d p ≡ 0 → Lent s d p
unfolding lent_refusal
lent s d p e =
    let t = tests (shape_refusal s) (eqb d (data_length s)) (eqb p (parity_length s)) e in
    record { shape = eqb-true _ _ t.0; data_long = eqb-true _ _ t.1.0; parity_long = eqb-true _ _ t.1.1 }

module _ (s : Shape) (d p : ℕ) where
  pub lent_shape : (shape_refusal s ≡ 0 → ⊥) → lent_refusal s d p ≡ shape_refusal s
  unfolding lent_refusal
  lent_shape h = simp (ne_eqb _ _ h)

  module _ (h : shape_refusal s ≡ 0) where
    pub lent_data : (d ≡ data_length s → ⊥) → lent_refusal s d p ≡ 5
    unfolding lent_refusal
    lent_data w = simp (eq-eqb _ _ h, ne_eqb _ _ w)

    pub lent_parity : d ≡ data_length s → (p ≡ parity_length s → ⊥) → lent_refusal s d p ≡ 5
    unfolding lent_refusal
    lent_parity v w = simp (eq-eqb _ _ h, eq-eqb _ _ v, ne_eqb _ _ w)

    pub lent_both : d ≡ data_length s → p ≡ parity_length s → lent_refusal s d p ≡ 0
    unfolding lent_refusal
    lent_both v w = simp (eq-eqb _ _ h, eq-eqb _ _ v, eq-eqb _ _ w)

-- column c of m columns of l bytes ends within them
pub within : (c m l n : ℕ) → c < m → n ≡ m * l → c * l + l ≤ n
within c m l n h e = omega (arith, column_inside c m l h)

part_long : (xs : List ℕ) (c l : ℕ) → c * l + l ≤ length xs → length (take l (drop (c * l) xs)) ≡ l
part_long xs c l h = simp (length-take, length-drop) (omega arith)

module _ (s : Shape) (ds ps : List ℕ) (c : ℕ) where
  pub column_refused : (lent_refusal s (length ds) (length ps) ≡ 0 → ⊥) → column_of s ds ps c ≡ []
  unfolding column_of
  column_refused h = simp (ne_eqb _ _ h)

  module _ (h : lent_refusal s (length ds) (length ps) ≡ 0) where
    pub column_data : c < s.k → column_of s ds ps c ≡ column_in s ds c
    unfolding column_of
    column_data w = simp (eq-eqb _ _ h, lt-ltb _ _ w)

    pub column_parity : s.k ≤ c → c < columns s → column_of s ds ps c ≡ column_in s ps (c - s.k)
    unfolding column_of
    column_parity v w = simp (eq-eqb _ _ h, le-ltb _ _ v, lt-ltb _ _ w)

    pub column_past : columns s ≤ c → column_of s ds ps c ≡ []
    unfolding column_of
    column_past w =
        let v : s.k ≤ c = omega arith in
        simp (eq-eqb _ _ h, le-ltb _ _ v, le-ltb _ _ w)

    -- a column that is not refused has all its L bytes, so that an empty part is a refusal
    pub column_long : c < columns s → length (column_of s ds ps c) ≡ s.l
    column_long w = ⊎_elim in_data in_parity (below_or_from c s.k)
      where
        e : Lent s (length ds) (length ps)
        e = lent s (length ds) (length ps) h

        in_data : c < s.k → length (column_of s ds ps c) ≡ s.l
        in_data v = ap length (column_data v) ∙ part_long ds c s.l (within c s.k s.l (length ds) v e.data_long)

        in_parity : s.k ≤ c → length (column_of s ds ps c) ≡ s.l
        in_parity v =
            ap length (column_parity v w)
            ∙ part_long ps (c - s.k) s.l (within (c - s.k) s.r s.l (length ps) (omega arith) e.parity_long)

-- the column question gives an empty part exactly for a refusal
pub column_empty : (s : Shape) (ds ps : List ℕ) (c : ℕ) → column_of s ds ps c ≡ [] → lent_refusal s (length ds) (length ps) ≡ 0 → columns s ≤ c
column_empty s ds ps c e h = ⊎_elim past (λ w. w) (below_or_from c (columns s))
  where
    past : c < columns s → columns s ≤ c
    past w =
        omega (
          arith,
          column_long s ds ps c h w,
          ap length e,
          (allowed s (lent s (length ds) (length ps) h).shape).length_some,
        )
