-- The verdicts on a fold in their order: the first test that fails gives the number.
use mathlib.Core.Path.{◌≡◌, sym, ap, ap₂, ◌∙◌}
use mathlib.Core.Bool.{Bool, true, false, cond}
use Prim.Native.Nat.{ℕ, ◌*◌}
use borrow.Author.Tests.{eq-eqb, ne_eqb}
use Rattle.stripe.specs.declared.Shape.{Shape}
use Rattle.stripe.specs.Shape.{shape_refusal, no_shape}
use Rattle.plan.specs.Plan.{fold_refusal, stripes_allowed, new_allowed, wide_shape, wide_answer, columns_each, bytes_each, columns_read, bytes_read, kind_of}
use Rattle.plan.specs.Plan.{columns_written, bytes_written}
use Rattle.plan.proofs.Foldable.{all_passed}

module _ (s : Shape) (n f : ℕ) where
  -- the verdict on an allowed shape
  abbrev rest : ℕ
  rest = cond (stripes_allowed s.k s.r n) (cond (new_allowed s.r s.t f) 0 4) 3

  pub by_shape : (shape_refusal s ≡ 0 → ⊥) → shape_refusal s ≡ fold_refusal s n f
  unfolding fold_refusal
  by_shape h = sym (ap (λ (b : Bool). cond b rest (shape_refusal s)) (ne_eqb (shape_refusal s) 0 h))

  by_rest : shape_refusal s ≡ 0 → fold_refusal s n f ≡ rest
  unfolding fold_refusal
  by_rest e = ap (λ (b : Bool). cond b rest (shape_refusal s)) (eq-eqb (shape_refusal s) 0 e)

  pub by_stripes : shape_refusal s ≡ 0 → stripes_allowed s.k s.r n ≡ false → 3 ≡ fold_refusal s n f
  by_stripes e h = sym (by_rest e ∙ ap (λ (b : Bool). cond b (cond (new_allowed s.r s.t f) 0 4) 3) h)

  pub by_new : shape_refusal s ≡ 0 → stripes_allowed s.k s.r n ≡ true → new_allowed s.r s.t f ≡ false → 4 ≡ fold_refusal s n f
  by_new e h g = sym (by_rest e ∙ ap₂ (λ (a b : Bool). cond a (cond b 0 4) 3) h g)

  pub by_none : shape_refusal s ≡ 0 → stripes_allowed s.k s.r n ≡ true → new_allowed s.r s.t f ≡ true → 0 ≡ fold_refusal s n f
  by_none e h g = sym (by_rest e ∙ ap₂ (λ (a b : Bool). cond a (cond b 0 4) 3) h g)

  -- what is not refused has an allowed shape
  pub shape_passed : fold_refusal s n f ≡ 0 → shape_refusal s ≡ 0
  unfolding fold_refusal
  shape_passed e = (all_passed (shape_refusal s) (stripes_allowed s.k s.r n) (new_allowed s.r s.t f) e).0

  -- what is refused reads and writes nothing
  module _ (refused : fold_refusal s n f ≡ 0 → ⊥) where
    pub no_columns : 0 ≡ columns_read s n f
    unfolding columns_read
    no_columns = sym (ap (λ (b : Bool). cond b (n * columns_each (kind_of s f) s f) 0) (ne_eqb (fold_refusal s n f) 0 refused))

    pub no_bytes : 0 ≡ bytes_read s n f
    unfolding bytes_read
    no_bytes = sym (ap (λ (b : Bool). cond b (n * bytes_each (kind_of s f) s f) 0) (ne_eqb (fold_refusal s n f) 0 refused))

    pub no_columns_written : 0 ≡ columns_written s n f
    unfolding columns_written
    no_columns_written = sym (ap (λ (b : Bool). cond b f 0) (ne_eqb (fold_refusal s n f) 0 refused))

    pub no_bytes_written : 0 ≡ bytes_written s n f
    unfolding bytes_written
    no_bytes_written = sym (ap (λ (b : Bool). cond b (f * s.l) 0) (ne_eqb (fold_refusal s n f) 0 refused))

    pub no_shape_lem : wide_answer s n f ≡ no_shape
    unfolding wide_answer
    no_shape_lem = ap (λ (b : Bool). cond b (wide_shape s n f) no_shape) (ne_eqb (fold_refusal s n f) 0 refused)

  pub a_shape : fold_refusal s n f ≡ 0 → wide_answer s n f ≡ wide_shape s n f
  unfolding wide_answer
  a_shape e = ap (λ (b : Bool). cond b (wide_shape s n f) no_shape) (eq-eqb (fold_refusal s n f) 0 e)
