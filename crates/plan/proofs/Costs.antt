-- The plan's volume is what the papers find that a fold has to read, whichever of their cases applies, and never more than all the data; with
-- what is written it is what they find in all.
use mathlib.Core.Path.{◌≡◌, refl, sym, ap, ap₂, ◌∙◌, subst}
use mathlib.Core.Bool.{Bool, true, false, cond, ◌||◌}
use mathlib.Core.Logic.{◌⊎◌, inl, inr}
use Prim.Native.Nat.{ℕ, ◌+◌, ◌-◌, ◌*◌, ◌/◌, ◌<◌, ◌≤◌, min, zero-le}
use native.Mathlib.Nat.{add_comm, mul-add, add-mul, mul_assoc, mul_comm, mul-le-mul_left, mul-le-mul_right}
use native.Mathlib.Omega.{arith}
use lib.Dec.{eqb, leb, ltb}
use borrow.Author.Tests.{eqb-true, eq-eqb, le-ltb, lt-ltb, lt-leb, le-leb}
use Rattle.field.proofs.Cases.{below_or_from}
use Rattle.stripe.specs.declared.Shape.{Shape}
use Rattle.stripe.proofs.Allowed.{Allowed}
use Rattle.plan.specs.declared.Kind.{Kind}
use Rattle.plan.specs.Plan.{kind_of, fold_refusal, columns_each, bytes_each, columns_read, bytes_read}
use Rattle.plan.specs.Plan.{columns_written, bytes_written, access_cost, conversion_bandwidth}
use Rattle.plan.specs.Cost.{columns_needed, bandwidth_needed, access_needed, transfer_needed}
use Rattle.plan.proofs.Foldable.{IsA, IsB, IsC, Foldable, foldable, runs_whole}

-- ---- the counts of a fold that is not refused

module _ (s : Shape) (n f : ℕ) (passed : fold_refusal s n f ≡ 0) where
  pub columns_read_lem : columns_read s n f ≡ n * columns_each (kind_of s f) s f
  unfolding columns_read
  columns_read_lem = ap (λ (b : Bool). cond b (n * columns_each (kind_of s f) s f) 0) (eq-eqb (fold_refusal s n f) 0 passed)

  pub bytes_read_lem : bytes_read s n f ≡ n * bytes_each (kind_of s f) s f
  unfolding bytes_read
  bytes_read_lem = ap (λ (b : Bool). cond b (n * bytes_each (kind_of s f) s f) 0) (eq-eqb (fold_refusal s n f) 0 passed)

  pub columns_written_lem : columns_written s n f ≡ f
  unfolding columns_written
  columns_written_lem = ap (λ (b : Bool). cond b f 0) (eq-eqb (fold_refusal s n f) 0 passed)

  pub bytes_written_lem : bytes_written s n f ≡ f * s.l
  unfolding bytes_written
  bytes_written_lem = ap (λ (b : Bool). cond b (f * s.l) 0) (eq-eqb (fold_refusal s n f) 0 passed)

pub refused_bytes : (s : Shape) (n f : ℕ) → eqb (fold_refusal s n f) 0 ≡ false → bytes_read s n f ≡ 0
unfolding bytes_read
refused_bytes s n f e = ap (λ (b : Bool). cond b (n * bytes_each (kind_of s f) s f) 0) e

-- ---- never more than all the data

rest_sum : (k r t : ℕ) → r < t → k * (t - r) + k * r ≡ k * t
rest_sum k r t h = sym (mul-add k (t - r) r) ∙ ap (λ (x : ℕ). k * x) (omega arith)

-- of each data column the runs below r are left out, of which there are as many bytes as in r parity columns or more
runs_most : (k r t q l : ℕ) → r < t → t ≤ k → t * q ≡ l → (r * t + k * (t - r)) * q ≤ k * l
runs_most k r t q l h m e =
    let x : r * t + k * (t - r) ≤ k * t = omega (arith, rest_sum k r t h, mul-le-mul_left r m, mul_comm r k) in
    subst (λ (y : ℕ). (r * t + k * (t - r)) * q ≤ y) (mul_assoc k t q ∙ ap (λ (y : ℕ). k * y) e) (mul-le-mul_right q x)

each_most : (s : Shape) (f : ℕ) → Allowed s → IsA s f ⊎ (IsB s f ⊎ IsC s f) → bytes_each (kind_of s f) s f ≤ s.k * s.l
unfolding bytes_each
each_most s f a (inl h) = subst (λ (κ : Kind). bytes_each κ s f ≤ s.k * s.l) (sym h.kind) (mul-le-mul_right s.l h.fewer)
each_most s f a (inr (inl h)) =
    subst (λ (κ : Kind). bytes_each κ s f ≤ s.k * s.l) (sym h.kind)
    (runs_most s.k s.r s.t (s.l / s.t) s.l h.prepared.gains h.prepared.mark_data (runs_whole s a h.prepared))
each_most s f a (inr (inr h)) = subst (λ (κ : Kind). bytes_each κ s f ≤ s.k * s.l) (sym h.kind) (omega arith)

pub bytes_most : (s : Shape) (n f : ℕ) → bytes_read s n f ≤ n * s.k * s.l
bytes_most s n f = go (eqb (fold_refusal s n f) 0) refl
  where
    go : (b : Bool) → eqb (fold_refusal s n f) 0 ≡ b → bytes_read s n f ≤ n * s.k * s.l
    go true e =
        let h : Foldable s n f = foldable s n f (eqb-true _ _ e) in
        subst (λ (x : ℕ). x ≤ n * s.k * s.l) (sym (bytes_read_lem s n f (eqb-true _ _ e)))
        (subst (λ (x : ℕ). n * bytes_each (kind_of s f) s f ≤ x) (sym (mul_assoc n s.k s.l)) (mul-le-mul_left n (each_most s f h.shape h.kinds)))
    go false e = subst (λ (x : ℕ). x ≤ n * s.k * s.l) (sym (refused_bytes s n f e)) zero-le

-- ---- 003, Theorem 12: plain stripes

fewest : (k f : ℕ) → f ≤ k → min k f ≡ f
fewest k f h = omega arith

fewest_data : (k f : ℕ) → k ≤ f → min k f ≡ k
fewest_data k f h = omega arith

module _ (n k r f : ℕ) where
  needed_few : f ≤ r → columns_needed n k r f ≡ n * min k f
  unfolding columns_needed
  needed_few h = ap (λ (b : Bool). cond b (n * k) (n * min k f)) (le-ltb r f h)

  needed_more : r < f → columns_needed n k r f ≡ n * k
  unfolding columns_needed
  needed_more h = ap (λ (b : Bool). cond b (n * k) (n * min k f)) (lt-ltb r f h)

needed_many : (n k r f : ℕ) → (r < f) ⊎ (k < f) → columns_needed n k r f ≡ n * k
needed_many n k r f (inl h) = needed_more n k r f h
needed_many n k r f (inr h) = go (below_or_from r f)
  where
    go : (r < f) ⊎ (f ≤ r) → columns_needed n k r f ≡ n * k
    go (inl x) = needed_more n k r f x
    go (inr x) = needed_few n k r f x ∙ ap (λ (y : ℕ). n * y) (fewest_data k f (omega arith))

plain_each : (s : Shape) (n f : ℕ) → s.t ≡ 0 → IsA s f ⊎ (IsB s f ⊎ IsC s f) → n * columns_each (kind_of s f) s f ≡ columns_needed n s.k s.r f
unfolding columns_each
plain_each s n f e (inl h) =
    ap (λ (κ : Kind). n * columns_each κ s f) h.kind
    ∙ sym (needed_few n s.k s.r f h.enough ∙ ap (λ (y : ℕ). n * y) (fewest s.k f h.fewer))
plain_each s n f e (inr (inl h)) = absurd (let p = h.prepared in omega arith)
plain_each s n f e (inr (inr h)) =
    ap (λ (κ : Kind). n * columns_each κ s f) h.kind ∙ sym (needed_many n s.k s.r f h.more)

-- the bytes of whole columns
plain_long : (s : Shape) (f : ℕ) → s.t ≡ 0 → IsA s f ⊎ (IsB s f ⊎ IsC s f) → bytes_each (kind_of s f) s f ≡ columns_each (kind_of s f) s f * s.l
unfolding columns_each bytes_each
plain_long s f e (inl h) = subst (λ (κ : Kind). bytes_each κ s f ≡ columns_each κ s f * s.l) (sym h.kind) refl
plain_long s f e (inr (inl h)) = absurd (let p = h.prepared in omega arith)
plain_long s f e (inr (inr h)) = subst (λ (κ : Kind). bytes_each κ s f ≡ columns_each κ s f * s.l) (sym h.kind) refl

module _ (s : Shape) (n f : ℕ) (passed : fold_refusal s n f ≡ 0) (plain : s.t ≡ 0) where
  -- a plan for plain stripes reads as many columns as Theorem 12 finds
  pub plain_columns : columns_read s n f ≡ columns_needed n s.k s.r f
  plain_columns = columns_read_lem s n f passed ∙ plain_each s n f plain (foldable s n f passed).kinds

  -- L bytes to a column
  pub plain_bytes : bytes_read s n f ≡ columns_needed n s.k s.r f * s.l
  plain_bytes =
      bytes_read_lem s n f passed ∙ ap (λ (x : ℕ). n * x) (plain_long s f plain (foldable s n f passed).kinds)
      ∙ sym (mul_assoc n _ s.l) ∙ ap (λ (x : ℕ). x * s.l) (plain_each s n f plain (foldable s n f passed).kinds)

-- ---- 002, formula (1): prepared stripes

square : (k r : ℕ) → r < k → r * k + k * (k - r) ≡ k * k
square k r h = omega (arith, rest_sum k r k h, mul_comm r k)

bandwidth : (n k r f : ℕ) → r < f → f ≤ k → bandwidth_needed n k r f ≡ n * (r * f + k * (f - r))
unfolding bandwidth_needed
bandwidth n k r f h m = go (below_or_from f k)
  where
    few : leb f r ≡ false
    few = lt-leb f r h

    go : (f < k) ⊎ (k ≤ f) → cond (leb f r || leb k f) (n * min k f * f) (n * (r * f + k * (f - r))) ≡ n * (r * f + k * (f - r))
    go (inl x) = simp (few, lt-leb k f x)
    go (inr x) =
        let e : k ≡ f = omega arith in
        simp (few, le-leb k f x)
        (mul_assoc n (min k f) f ∙ ap (λ (y : ℕ). n * y) (ap (λ (y : ℕ). y * f) (fewest k f m) ∙ sym (ap (λ (y : ℕ). r * f + y * (f - r)) e ∙ square f r h)))

prepared_scaled : (n x q t l : ℕ) → t * q ≡ l → n * (x * q) * t ≡ n * x * l
prepared_scaled n x q t l e =
    mul_assoc n (x * q) t ∙ ap (λ (y : ℕ). n * y) (mul_assoc x q t ∙ ap (λ (y : ℕ). x * y) (mul_comm q t ∙ e)) ∙ sym (mul_assoc n x l)

module _ (s : Shape) (n f : ℕ) (passed : fold_refusal s n f ≡ 0) (h : IsB s f) where
  whole : s.t * (s.l / s.t) ≡ s.l
  whole = runs_whole s (foldable s n f passed).shape h.prepared

  runs_read : bytes_read s n f ≡ n * ((s.r * s.t + s.k * (s.t - s.r)) * (s.l / s.t))
  unfolding bytes_each
  runs_read = bytes_read_lem s n f passed ∙ ap (λ (κ : Kind). n * bytes_each κ s f) h.kind

  -- a plan for prepared stripes reads as many bytes as formula (1) finds
  pub prepared_bytes : bytes_read s n f * f ≡ bandwidth_needed n s.k s.r f * s.l
  prepared_bytes =
      ap₂ ◌*◌ runs_read (sym h.marked)
      ∙ prepared_scaled n (s.r * s.t + s.k * (s.t - s.r)) (s.l / s.t) s.t s.l whole
      ∙ ap (λ (x : ℕ). x * s.l)
      (sym (bandwidth n s.k s.r s.t h.prepared.gains h.prepared.mark_data) ∙ ap (λ (x : ℕ). bandwidth_needed n s.k s.r x) h.marked)

  -- at f = k these are the bytes of all the data
  pub prepared_all : f ≡ s.k → bytes_read s n f ≡ n * s.k * s.l
  prepared_all e =
      runs_read
      ∙ ap (λ (x : ℕ). n * (x * (s.l / s.t)))
      (ap (λ (x : ℕ). s.r * x + s.k * (x - s.r)) (h.marked ∙ e) ∙ square s.k s.r (let g = h.prepared.gains in omega (arith, h.marked)))
      ∙ ap (λ (x : ℕ). n * x) (mul_assoc s.k s.k _ ∙ ap (λ (x : ℕ). s.k * x) (ap (λ (x : ℕ). x * (s.l / s.t)) (sym (h.marked ∙ e)) ∙ whole))
      ∙ sym (mul_assoc n s.k s.l)

-- ---- with what is written: 003, Theorem 15, and 002, formula (1), whole

-- Theorem 15 is Theorem 12 and the f new columns
access_parts : (n k r f : ℕ) → access_needed n k r f ≡ columns_needed n k r f + f
unfolding access_needed columns_needed
access_parts n k r f = go (ltb r f)
  where
    go : (b : Bool) → cond b (f + n * k) (f + n * min k f) ≡ cond b (n * k) (n * min k f) + f
    go true = add_comm f (n * k)
    go false = add_comm f (n * min k f)

-- formula (1) is its reading part and the f new columns, f times over
transfer_parts : (n k r f : ℕ) → transfer_needed n k r f ≡ bandwidth_needed n k r f + f * f
unfolding transfer_needed bandwidth_needed
transfer_parts n k r f = go (leb f r || leb k f)
  where
    go : (b : Bool) → cond b ((n * min k f + f) * f) (n * (r * f + k * (f - r)) + f * f) ≡ cond b (n * min k f * f) (n * (r * f + k * (f - r))) + f * f
    go true = add-mul (n * min k f) f f
    go false = refl

module _ (s : Shape) (n f : ℕ) (passed : fold_refusal s n f ≡ 0) (plain : s.t ≡ 0) where
  -- a fold of plain stripes accesses as many columns as Theorem 15 finds
  pub plain_access : access_cost s n f ≡ access_needed n s.k s.r f
  plain_access = ap₂ ◌+◌ (plain_columns s n f passed plain) (columns_written_lem s n f passed) ∙ sym (access_parts n s.k s.r f)

  -- L bytes to a column
  pub plain_transfer : conversion_bandwidth s n f ≡ access_needed n s.k s.r f * s.l
  plain_transfer =
      ap₂ ◌+◌ (plain_bytes s n f passed plain) (bytes_written_lem s n f passed)
      ∙ sym (add-mul (columns_needed n s.k s.r f) f s.l) ∙ ap (λ (x : ℕ). x * s.l) (sym (access_parts n s.k s.r f))

square_scaled : (f l : ℕ) → f * l * f ≡ f * f * l
square_scaled f l = mul_assoc f l f ∙ ap (λ (x : ℕ). f * x) (mul_comm l f) ∙ sym (mul_assoc f f l)

module _ (s : Shape) (n f : ℕ) (passed : fold_refusal s n f ≡ 0) (h : IsB s f) where
  -- a fold of prepared stripes accesses every column that it reads and the new ones
  pub prepared_access : access_cost s n f ≡ n * (s.k + s.r) + f
  unfolding columns_each
  prepared_access = ap₂ ◌+◌ (columns_read_lem s n f passed ∙ ap (λ (κ : Kind). n * columns_each κ s f) h.kind) (columns_written_lem s n f passed)

  -- it transfers as many bytes as formula (1) finds
  pub prepared_transfer : conversion_bandwidth s n f * f ≡ transfer_needed n s.k s.r f * s.l
  prepared_transfer =
      add-mul (bytes_read s n f) (bytes_written s n f) f
      ∙ ap₂ ◌+◌ (prepared_bytes s n f passed h) (ap (λ (x : ℕ). x * f) (bytes_written_lem s n f passed) ∙ square_scaled f s.l)
      ∙ sym (add-mul (bandwidth_needed n s.k s.r f) (f * f) s.l) ∙ ap (λ (x : ℕ). x * s.l) (sym (transfer_parts n s.k s.r f))
