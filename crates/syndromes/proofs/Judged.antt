-- Whether a stripe and a buffer are lent as they should be, and column x may be set apart: each test decides one field of `Lent`.
use mathlib.Core.Path.{◌≡◌, refl, sym, ◌∙◌}
use mathlib.Core.Bool.{Bool, true, false, true≢false}
use mathlib.Core.Logic.{◌⊎◌, inl, inr}
use Prim.Native.Nat.{ℕ, ◌<◌, ◌≤◌}
use native.Mathlib.Omega.{arith}
use lib.Dec.{ltb}
use borrow.Author.Tests.{ltb-true, lt-ltb}
use Rattle.field.proofs.Cases.{below_or_from, same_or_not}
use Rattle.stripe.specs.declared.Shape.{Shape}
use Rattle.stripe.specs.Shape.{shape_refusal, parity_length, stripe_length, most_rows}
use Rattle.stripe.specs.Stripe.{by_points}
use Rattle.stripe.proofs.Allowed.{allowed, rows_most}
use Rattle.syndromes.specs.Syndromes.{Lent, Says}

pub says_yes : (P : Type 0) → P → Says true P
says_yes P h = record { so = λ e. h; not_so = λ e. absurd (true≢false e) }

pub says_no : (P : Type 0) → (P → ⊥) → Says false P
says_no P h = record { so = λ e. absurd (true≢false (sym e)); not_so = λ e. h }

-- a stripe by points has no rows
pub not_by_rows : (s : Shape) (x d p : ℕ) → most_rows < s.r → Lent s x d p → ⊥
not_by_rows s x d p many h = omega (arith, rows_most s (allowed s h.shape) h.rows)

-- a column that is not the first is set apart in a plain stripe only, and is one of the data columns
module _ (s : Shape) (x d p : ℕ) (later : x ≡ 0 → ⊥) where
  pub not_prepared : (s.t ≡ 0 → ⊥) → Lent s x d p → ⊥
  not_prepared n h = go h.apart
    where
      go : (x ≡ 0) ⊎ ((s.t ≡ 0) × (x < s.k)) → ⊥
      go (inl e) = later e
      go (inr e) = n e.0

  not_past : s.k ≤ x → Lent s x d p → ⊥
  not_past g h = go h.apart
    where
      go : (x ≡ 0) ⊎ ((s.t ≡ 0) × (x < s.k)) → ⊥
      go (inl e) = later e
      go (inr e) = omega (arith, e.1)

  pub column_says : shape_refusal s ≡ 0 → by_points s ≡ false → d ≡ stripe_length s → p ≡ parity_length s → s.t ≡ 0 → Says (ltb x s.k) (Lent s x d p)
  column_says shape rows long room plain =
      record {
        so = λ e. record { shape = shape; rows = rows; long = long; room = room; apart = inr (plain, ltb-true x s.k e) };
        not_so = λ e h. go e h.apart;
      }
    where
      go : ltb x s.k ≡ false → (x ≡ 0) ⊎ ((s.t ≡ 0) × (x < s.k)) → ⊥
      go e (inl z) = later z
      go e (inr z) = true≢false (sym (lt-ltb x s.k z.1) ∙ e)

pub lent_or_not : (s : Shape) (x d p : ℕ) → Lent s x d p ⊎ (Lent s x d p → ⊥)
lent_or_not s x d p = shape (same_or_not (shape_refusal s) 0)
  where
    column : shape_refusal s ≡ 0 → by_points s ≡ false → d ≡ stripe_length s → p ≡ parity_length s → (x ≡ 0) ⊎ (x ≡ 0 → ⊥)
        → (s.t ≡ 0) ⊎ (s.t ≡ 0 → ⊥) → (x < s.k) ⊎ (s.k ≤ x) → Lent s x d p ⊎ (Lent s x d p → ⊥)
    column a r b c (inl e) t k = inl record { shape = a; rows = r; long = b; room = c; apart = inl e }
    column a r b c (inr e) (inl t) (inl k) = inl record { shape = a; rows = r; long = b; room = c; apart = inr (t, k) }
    column a r b c (inr e) (inl t) (inr k) = inr (not_past s x d p e k)
    column a r b c (inr e) (inr t) k = inr (not_prepared s x d p e t)

    room : shape_refusal s ≡ 0 → by_points s ≡ false → d ≡ stripe_length s → (p ≡ parity_length s) ⊎ (p ≡ parity_length s → ⊥)
        → Lent s x d p ⊎ (Lent s x d p → ⊥)
    room a r b (inl c) = column a r b c (same_or_not x 0) (same_or_not s.t 0) (below_or_from x s.k)
    room a r b (inr n) = inr (λ h. n h.room)

    long : shape_refusal s ≡ 0 → by_points s ≡ false → (d ≡ stripe_length s) ⊎ (d ≡ stripe_length s → ⊥) → Lent s x d p ⊎ (Lent s x d p → ⊥)
    long a r (inl b) = room a r b (same_or_not p (parity_length s))
    long a r (inr n) = inr (λ h. n h.long)

    rows : shape_refusal s ≡ 0 → (b : Bool) → by_points s ≡ b → Lent s x d p ⊎ (Lent s x d p → ⊥)
    rows a false e = long a e (same_or_not d (stripe_length s))
    rows a true e = inr (λ h. true≢false (sym e ∙ h.rows))

    shape : (shape_refusal s ≡ 0) ⊎ (shape_refusal s ≡ 0 → ⊥) → Lent s x d p ⊎ (Lent s x d p → ⊥)
    shape (inl a) = rows a (by_points s) refl
    shape (inr n) = inr (λ h. n h.shape)
