-- Document 02, request 1, as theorems on the calls: folding in two sittings. "This must give the same bytes as folding the four at once. Show it for
-- all bytes, stale ones too, when every step is of kind A and the parity count never rises; for the other kinds show it when the narrow stripes are
-- codewords and, if prepared, both steps have f = t."
use Prim.Native.Nat.{ℕ, zero, suc, ◌*◌, ◌<◌, ◌≤◌}
use mathlib.Core.Path.{◌≡◌, refl, sym, ap, ap₂, ◌∙◌, subst}
use mathlib.Core.Bool.{Bool, true, cond}
use mathlib.Core.Logic.{◌⊎◌, inl, inr}
use mathlib.Core.List.{List, [], ◌++◌}
use native.Mathlib.Nat.{suc-ne-zero, zero-add}
use native.Mathlib.Omega.{arith}
use borrow.Author.Tests.{eq-eqb}
use lib.Dec.{eqb, ltb, eqb-suc-zero}
use lib.ListN.{length, get_or, take}
use lib.Seq.{ext_get_or}
use Rattle.field.specs.Bytes.{over}
use Rattle.field.proofs.Over.{over_taken}
use Rattle.points.specs.Folding.{joined}
use Rattle.points.proofs.Joined.{get_or_mapped}
use Rattle.stripe.specs.declared.Shape.{Shape}
use Rattle.stripe.specs.Shape.{most_rows, stripe_length}
use Rattle.stripe.proofs.Allowed.{many_by_points}
use Rattle.plan.specs.declared.Span.{Span}
use Rattle.plan.specs.declared.Kind.TheVariants.{A, C}
use Rattle.plan.specs.Plan.{fold_refusal, kind_of, columns_read, bytes_read, new_allowed, plan, wide_shape}
use Rattle.plan.proofs.Foldable.{IsA, IsB, IsC, foldable}
use Rattle.plan.proofs.Counted.{columns_counted}
use Rattle.fold.specs.Fold.{fold_of, fold_verdict, fold_filled, cut_out, wide_data, wide_stripe}
use Rattle.fold.proofs.Cut.{cut_length}
use Rattle.shelf.specs.Shelf.{shape_of, spans_refusal, spans_filled}
use Rattle.sittings.specs.Sittings.{Groups, Codewords, halves, in_two, at_once, by_definition}
use Rattle.sittings.proofs.Steps.{once_passed, first_passed, second_passed}
use Rattle.sittings.proofs.One.{halves_count, halves_long, stripes_count, stripes_long}
use Rattle.sittings.proofs.Same.{same, a_a, points_same, by_data, codewords_two, codewords_same}
use Rattle.demands.specs.Calls.{Folds, PlanRefuses}
use Rattle.demands.specs.Sittings.{Sits}
use Rattle.demands.proofs.Answers.{done}

-- ---- what a sitting leaves

-- a plan that is told is that of a fold which is not refused
spans_passed : (x : ℕ) (b : Bool) → cond (eqb x 0) (cond b 5 0) x ≡ 0 → x ≡ 0
spans_passed zero b e = refl
spans_passed (suc x) b e = absurd (suc-ne-zero x (rw (eqb-suc-zero x) at e))

module _ (k r t l n f : ℕ) (zss : List (List ℕ)) (zs : List ℕ) (x : Sits k r t l n f zss zs) where
  abbrev narrow : Shape
  narrow = shape_of k r t l

  allowed : fold_refusal narrow n f ≡ 0
  unfolding spans_refusal
  allowed = spans_passed (fold_refusal narrow n f) (ltb (length x.list) (columns_read narrow n f)) (sym x.planned.0)

  -- what is told is the plan
  told_plan : take x.columns x.told ≡ plan narrow n f
  unfolding spans_filled
  told_plan =
      ap₂ take (x.counted ∙ sym (columns_counted narrow n f) ∙ sym (zero-add (length (plan narrow n f))))
      (x.planned.1 ∙ done (spans_refusal narrow n f (length x.list)) (over x.list 0 (plan narrow n f)) x.list (sym x.planned.0))
      ∙ over_taken x.list 0 (plan narrow n f) (omega arith)

  abbrev named : List ℕ
  named = cut_out narrow zss (plan narrow n f)

  module _ (count : length zss ≡ n) (long : (i : ℕ) → i < length zss → length (get_or zss i []) ≡ stripe_length narrow) where
    passes : fold_verdict narrow n f (length named) (length x.room) ≡ 0
    unfolding fold_verdict
    passes =
        let bytes = subst (λ (m : ℕ). length (cut_out narrow zss (plan narrow m f)) ≡ bytes_read narrow m f) count
        (cut_length narrow f zss (subst (λ (m : ℕ). fold_refusal narrow m f ≡ 0) (sym count) allowed) long) in
        simp (eq-eqb _ _ allowed, eq-eqb _ _ bytes, eq-eqb _ _ x.roomy)

    called_plan : Folds k r t l n f named x.room x.answer x.written
    called_plan = subst (λ (xs : List Span). Folds k r t l n f (cut_out narrow zss xs) x.room x.answer x.written) told_plan x.called

    -- Handed what its plan names, a sitting is not refused.
    pub answered : x.answer ≡ 0
    answered = called_plan.0 ∙ passes

    -- and leaves the wide stripe
    left_wide : zs ≡ wide_stripe narrow n f zss
    unfolding fold_filled wide_stripe
    left_wide =
        x.wide
        ∙ ap (λ (ps : List ℕ). wide_data narrow zss ++ ps)
        (called_plan.1 ∙ done (fold_verdict narrow n f (length named) (length x.room)) (fold_of narrow n f named) x.room passes)

-- ---- two sittings, and one

-- N2 groups of N1 stripes of bytes; a first sitting over each group leaves the half-wide stripes hs, and a second one over these the wide stripe zs; a
-- sitting over all stripes at once leaves the wide stripe os. The parity that the second is handed is what the first ones wrote.
module _ (k r t l n₁ f₁ n₂ f₂ : ℕ) (gs : List (List (List ℕ))) (groups : Groups (shape_of k r t l) n₁ n₂ gs) (hs : List (List ℕ)) (zs os : List ℕ)
    (halves-many : length hs ≡ n₂)
    (first : (i : ℕ) → i < n₂ → Sits k r t l n₁ f₁ (get_or gs i []) (get_or hs i []))
    (second : Sits (n₁ * k) f₁ 0 l n₂ f₂ hs zs) where
  abbrev old : Shape
  old = shape_of k r t l

  abbrev half : Shape
  half = wide_shape old n₁ f₁

  second_allowed : fold_refusal half n₂ f₂ ≡ 0
  second_allowed = allowed (n₁ * k) f₁ 0 l n₂ f₂ hs zs second

  some : 0 < n₂
  some = let h = (foldable half n₂ f₂ second_allowed).stripes_some in omega arith

  first_allowed : fold_refusal old n₁ f₁ ≡ 0
  first_allowed = allowed k r t l n₁ f₁ (get_or gs 0 []) (get_or hs 0 []) (first 0 some)

  inside : (i : ℕ) → i < n₂ → i < length gs
  inside i h = subst (λ (m : ℕ). i < m) (sym groups.many) h

  -- the half-wide stripes are those of the definition
  halves_are : hs ≡ halves old n₁ f₁ gs
  unfolding halves
  halves_are =
      ext_get_or [] hs (halves old n₁ f₁ gs) (halves-many ∙ sym (halves_count old n₁ f₁ n₂ gs groups first_allowed))
      (λ i h.
      let m : i < n₂ = subst (λ (x : ℕ). i < x) halves-many h in
      let g : i < length gs = inside i m in
      left_wide k r t l n₁ f₁ (get_or gs i []) (get_or hs i []) (first i m) (groups.each i g) (λ x a. groups.long i x g a)
      ∙ sym (get_or_mapped (λ g. wide_stripe old n₁ f₁ g) [] [] gs i g))

  -- so the second sitting leaves the wide stripe by two sittings
  two_are : zs ≡ in_two old n₁ f₁ n₂ f₂ gs
  unfolding in_two
  two_are =
      left_wide (n₁ * k) f₁ 0 l n₂ f₂ hs zs second halves-many
      (subst (λ (xss : List (List ℕ)). (i : ℕ) → i < length xss → length (get_or xss i []) ≡ stripe_length half) (sym halves_are)
      (halves_long old n₁ f₁ n₂ gs groups first_allowed))
      ∙ ap (wide_stripe half n₂ f₂) halves_are

  -- What two sittings may do, one fold may; of prepared stripes if the second has f = t too.
  pub request_1_allowed : (t ≡ 0) ⊎ (t ≡ f₂) → PlanRefuses k r t l (n₁ * n₂) f₂ 0
  request_1_allowed mark = sym (once_passed old n₁ f₁ n₂ f₂ first_allowed second_allowed mark)

  -- A step of kind C: two sittings give the data in order and the parity of the data, whatever the parity columns of the stripes held. Stale parity
  -- that a fold at once would show is hidden.
  pub request_1_hidden : (kind_of old f₁ ≡ C) ⊎ (kind_of half f₂ ≡ C) → zs ≡ by_definition old (n₁ * n₂) f₂ gs
  request_1_hidden c = two_are ∙ by_data old n₁ f₁ n₂ f₂ gs groups first_allowed second_allowed c

  module _ (once : Sits k r t l (n₁ * n₂) f₂ (joined gs) os) where
    once_are : os ≡ at_once old (n₁ * n₂) f₂ gs
    unfolding at_once
    once_are =
        left_wide k r t l (n₁ * n₂) f₂ (joined gs) os once (stripes_count old n₁ f₁ n₂ gs groups first_allowed)
        (stripes_long old n₁ f₁ n₂ gs groups first_allowed)

    -- the fold at once was allowed, so f is t in the end where the stripes are prepared
    marked : (t ≡ 0) ⊎ (t ≡ f₂)
    marked = go (foldable old (n₁ * n₂) f₂ (allowed k r t l (n₁ * n₂) f₂ (joined gs) os once)).kinds
      where
        go : IsA old f₂ ⊎ (IsB old f₂ ⊎ IsC old f₂) → (t ≡ 0) ⊎ (t ≡ f₂)
        go (inl a) = inl a.plain
        go (inr (inl b)) = inr b.marked
        go (inr (inr c)) = inl c.plain

    by_both : in_two old n₁ f₁ n₂ f₂ gs ≡ at_once old (n₁ * n₂) f₂ gs → zs ≡ os
    by_both e = two_are ∙ e ∙ sym once_are

    -- "For all bytes, stale ones too, when every step is of kind A": then the parity count never rises.
    pub request_1_kind_a : kind_of old f₁ ≡ A → kind_of half f₂ ≡ A → zs ≡ os
    request_1_kind_a e₁ e₂ = by_both (a_a old n₁ f₁ n₂ f₂ gs groups first_allowed second_allowed e₁ e₂)

    -- For all bytes too, unless a step is of kind C and the fold at once is not: B and then A against B; C and C, A and C, C and A against C.
    pub request_1_all_bytes : ((kind_of old f₁ ≡ C) ⊎ (kind_of half f₂ ≡ C) → kind_of old f₂ ≡ C) → zs ≡ os
    request_1_all_bytes only = by_both (same old n₁ f₁ n₂ f₂ gs groups first_allowed second_allowed marked only)

    -- So for all bytes with r above 3.
    pub request_1_above_3 : most_rows < r → zs ≡ os
    request_1_above_3 above =
        by_both
        (points_same old n₁ f₁ n₂ f₂ gs groups first_allowed second_allowed
        (many_by_points old above (foldable old n₁ f₁ first_allowed).shape.parity_most))

    -- "For the other kinds .. when the narrow stripes are codewords and, if prepared, both steps have f = t": both ways give the data in order and their
    -- parity.
    pub request_1_codewords : Codewords old gs → (zs ≡ os) × (zs ≡ by_definition old (n₁ * n₂) f₂ gs)
    request_1_codewords codewords = (
      by_both (codewords_same old n₁ f₁ n₂ f₂ gs groups first_allowed second_allowed codewords marked),
      two_are ∙ codewords_two old n₁ f₁ n₂ f₂ gs groups first_allowed second_allowed codewords,
    )

-- What one fold may do, two sittings may, with any f that the first may have.
pub request_1_allowed_in_two : (k r t l n₁ f₁ n₂ f₂ : ℕ) → PlanRefuses k r t l (n₁ * n₂) f₂ 0 → 2 ≤ n₁ → 2 ≤ n₂ → new_allowed r t f₁ ≡ true
    → PlanRefuses k r t l n₁ f₁ 0 × PlanRefuses (n₁ * k) f₁ 0 l n₂ f₂ 0
request_1_allowed_in_two k r t l n₁ f₁ n₂ f₂ once some₁ some₂ new = (
  sym (first_passed (shape_of k r t l) n₁ f₁ n₂ f₂ (sym once) some₁ some₂ new),
  sym (second_passed (shape_of k r t l) n₁ f₁ n₂ f₂ (sym once) some₁ some₂ new),
)
