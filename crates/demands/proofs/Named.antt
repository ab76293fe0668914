-- Which parity bytes a plan names: span number i of the plan is that of column i % e of stripe i / e, where e columns are read of each stripe.
use Prim.Native.Nat.{ℕ, ◌+◌, ◌-◌, ◌*◌, ◌/◌, ◌%◌, ◌<◌, ◌≤◌}
use mathlib.Core.Path.{◌≡◌, refl, sym, ap₂, ◌∙◌, subst}
use mathlib.Core.Bool.{Bool, true, false, cond}
use native.Mathlib.Nat.{mod-lt}
use native.Mathlib.Omega.{arith}
use borrow.Author.Tests.{ltb-true, le-ltb}
use lib.Dec.{ltb}
use Rattle.stripe.specs.declared.Shape.{Shape}
use Rattle.plan.specs.declared.Kind.{Kind}
use Rattle.plan.specs.declared.Kind.TheVariants.{A, B, C}
use Rattle.plan.specs.declared.Span.{Span}
use Rattle.plan.specs.Plan.{fold_refusal, kind_of, column_span, span_at, columns_each, columns_read}
use Rattle.fold.specs.Fold.{parity_named}
use Rattle.demands.specs.Calls.{Names}
use Rattle.stripe.proofs.Places.{place_lt, place_column, place_byte, place_column_lt}
use Rattle.plan.proofs.Counted.{columns_counted}
use Rattle.plan.proofs.Costs.{columns_read_lem}
use Rattle.plan.proofs.Spans.{span_allowed, each_some, span_number}

-- a span of stripe x that covers place p of parity column i
pub record Covers (s : Shape) (x i p : ℕ) (a : Span) : Type 0 where
  pub stripe : a.stripe ≡ x
  pub position : a.position ≡ s.k + i
  pub from : a.first ≤ p
  pub upto : p < a.first + a.length

covered : (κ : Kind) (s : Shape) (f m j x i p : ℕ) → j < columns_each κ s f → Covers s x i p (column_span κ s m j)
    → (m ≡ x) × ((i < parity_named κ s f) × (p < s.l))
unfolding column_span columns_each parity_named
covered A s f m j x i p h c = (c.stripe, (omega (arith, c.position), omega (arith, c.upto)))
covered B s f m j x i p h c = go (ltb j s.k) refl c
  where
    go : (b : Bool) → ltb j s.k ≡ b
        → Covers s x i p
        (cond b (record { stripe = m; position = j; first = s.r * (s.l / s.t); length = (s.t - s.r) * (s.l / s.t) })
        (record { stripe = m; position = j; first = 0; length = s.l }))
        → (m ≡ x) × ((i < s.r) × (p < s.l))
    go true e c = absurd (omega (arith, ltb-true j s.k e, c.position))
    go false e c = (c.stripe, (omega (arith, c.position), omega (arith, c.upto)))
covered C s f m j x i p h c = absurd (omega (arith, c.position))

pub names_parity : (s : Shape) (n f x i p : ℕ) → Names s n f x (s.k + i) p → (x < n) × ((i < parity_named (kind_of s f) s f) × (p < s.l))
names_parity s n f x i p w =
    let got = covered (kind_of s f) s f (w.span / each) (w.span % each) x i p (mod-lt w.span (each_some s n f w.span each within refl)) covers in
    (subst (λ (y : ℕ). y < n) got.0 (place_column_lt w.span n each inside), got.1)
  where
    each : ℕ
    each = columns_each (kind_of s f) s f

    within : w.span < columns_read s n f
    within = subst (λ (y : ℕ). w.span < y) (columns_counted s n f) w.planned

    inside : w.span < n * each
    inside = subst (λ (y : ℕ). w.span < y) (columns_read_lem s n f (span_allowed s n f w.span within)) within

    covers : Covers s x i p (column_span (kind_of s f) s (w.span / each) (w.span % each))
    covers =
        subst (Covers s x i p) (sym (span_number s n f w.span each within refl))
        record { stripe = w.stripe; position = w.position; from = w.from; upto = w.upto }

-- ---- the converse: of every stripe the plan names those parity columns whole

-- which of the columns read of a stripe is parity column i
parity_column : Kind → Shape → ℕ → ℕ
parity_column A s i = i
parity_column B s i = s.k + i
parity_column C s i = i

covers_column : (κ : Kind) (s : Shape) (f y i p : ℕ) → i < parity_named κ s f → p < s.l
    → (parity_column κ s i < columns_each κ s f) × Covers s y i p (column_span κ s y (parity_column κ s i))
unfolding column_span columns_each parity_named parity_column
covers_column A s f y i p hi hp = (hi, record { stripe = refl; position = refl; from = omega arith; upto = omega arith })
covers_column B s f y i p hi hp = (
  omega arith,
  subst
      (λ (b : Bool).
      Covers s y i p
      (cond b (record { stripe = y; position = s.k + i; first = s.r * (s.l / s.t); length = (s.t - s.r) * (s.l / s.t) })
      (record { stripe = y; position = s.k + i; first = 0; length = s.l })))
      (sym (le-ltb (s.k + i) s.k (omega arith)))
      record { stripe = refl; position = refl; from = omega arith; upto = omega arith },
)
covers_column C s f y i p hi hp = absurd (omega arith)

pub parity_named_lem : (s : Shape) (n f y i p : ℕ) → fold_refusal s n f ≡ 0 → y < n → i < parity_named (kind_of s f) s f → p < s.l
    → Names s n f y (s.k + i) p
parity_named_lem s n f y i p passed hy hi hp =
    record {
      span = number;
      planned = subst (λ (x : ℕ). number < x) (sym (columns_counted s n f)) within;
      stripe = covers.stripe;
      position = covers.position;
      from = covers.from;
      upto = covers.upto;
    }
  where
    each : ℕ
    each = columns_each (kind_of s f) s f

    column : ℕ
    column = parity_column (kind_of s f) s i

    read : (column < each) × Covers s y i p (column_span (kind_of s f) s y column)
    read = covers_column (kind_of s f) s f y i p hi hp

    number : ℕ
    number = y * each + column

    within : number < columns_read s n f
    within = subst (λ (x : ℕ). number < x) (sym (columns_read_lem s n f passed)) (place_lt hy read.0)

    covers : Covers s y i p (span_at s n f number)
    covers =
        subst (Covers s y i p)
        (sym (ap₂ (column_span (kind_of s f) s) (place_column y read.0) (place_byte y read.0)) ∙ span_number s n f number each within refl)
        read.1
