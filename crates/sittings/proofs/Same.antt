-- When two sittings give the bytes of one fold: for all bytes, unless a sitting is of kind C and the fold at once is not; then for codewords.
use mathlib.Core.Path.{◌≡◌, refl, sym, ap, ap₂, ◌∙◌}
use mathlib.Core.Bool.{Bool, true, false}
use mathlib.Core.List.{List}
use mathlib.Core.Logic.{◌⊎◌, inl, inr}
use Prim.Native.Nat.{ℕ, ◌+◌, ◌*◌, ◌<◌, ◌≤◌}
use native.Mathlib.Omega.{arith}
use lib.ListN.{get_or}
use Rattle.field.specs.Field.{◌⊕◌}
use Rattle.points.specs.Folding.{joined}
use Rattle.stripe.specs.declared.Shape.{Shape}
use Rattle.stripe.specs.Stripe.{by_points, parity, Codeword}
use Rattle.stripe.proofs.Allowed.{points_plain, prepared_by_rows}
use Rattle.stripe.proofs.Places.{parity_at}
use Rattle.plan.specs.declared.Kind.TheVariants.{A, B, C}
use Rattle.plan.specs.Plan.{kind_of, fold_refusal, wide_shape}
use Rattle.plan.proofs.Foldable.{IsA, IsB, IsC, Foldable, foldable}
use Rattle.fold.specs.Fold.{wide_data}
use Rattle.sittings.specs.Sittings.{Groups, Codewords, halves, in_two, at_once, by_definition}
use Rattle.sittings.proofs.Grouped.{every}
use Rattle.sittings.proofs.Steps.{shape_same, is_a, is_b, is_c, kind_b, once_passed, a_then_a, c_then_c, points_c, then_a}
use Rattle.sittings.proofs.One.{folded, Exact, halves_count, halves_long, data_exact, codewords_exact, codewords_halves, data_halves}
use Rattle.sittings.proofs.One.{data_same, stripes_count, stripes_long, stripes_same, two_exact, once_exact}
use Rattle.sittings.proofs.Rowed.{carried_sum, once_at, handed_on}
use Rattle.sittings.proofs.Pointed.{columns_on}

module _ (s : Shape) (n₁ f₁ n₂ f₂ : ℕ) (gs : List (List (List ℕ))) (groups : Groups s n₁ n₂ gs)
    (first : fold_refusal s n₁ f₁ ≡ 0) (second : fold_refusal (wide_shape s n₁ f₁) n₂ f₂ ≡ 0) where
  abbrev half : Shape
  half = wide_shape s n₁ f₁

  -- the bytes are the same
  abbrev Same : Type 0
  Same = in_two s n₁ f₁ n₂ f₂ gs ≡ at_once s (n₁ * n₂) f₂ gs

  able₁ : Foldable s n₁ f₁
  able₁ = foldable s n₁ f₁ first

  able₂ : Foldable half n₂ f₂
  able₂ = foldable half n₂ f₂ second

  may : (s.t ≡ 0) ⊎ (s.t ≡ f₂) → fold_refusal s (n₁ * n₂) f₂ ≡ 0
  may = once_passed s n₁ f₁ n₂ f₂ first second

  -- ---- for all bytes, stale ones too

  -- both steps of kind A, by which the parity count never rises: the fold at once is of kind A too
  pub a_a : kind_of s f₁ ≡ A → kind_of half f₂ ≡ A → Same
  a_a e₁ e₂ = stripes_same s n₁ f₁ n₂ gs groups first f₂ (go (by_points s) refl)
    where
      once : fold_refusal s (n₁ * n₂) f₂ ≡ 0
      once = may (inl (is_a s f₁ able₁.kinds e₁).plain)

      kind : kind_of s f₂ ≡ A
      kind = a_then_a s n₁ f₁ n₂ f₂ first second e₁ e₂

      go : (b : Bool) → by_points s ≡ b → folded half n₂ f₂ (halves s n₁ f₁ gs) ≡ folded s (n₁ * n₂) f₂ (joined gs)
      go false e = handed_on s n₁ f₁ n₂ f₂ gs groups first second once e e₂ (e₁ ∙ sym kind)
      go true e = columns_on s n₁ f₁ n₂ f₂ gs groups first second once e e₁ e₂ kind

  -- prepared stripes, both steps with f = t: the first step is of kind B, the second of kind A, the fold at once of kind B
  pub b_a : kind_of s f₁ ≡ B → f₂ ≡ s.t → Same
  b_a e₁ e =
      let b : IsB s f₁ = is_b s f₁ able₁.kinds e₁ in
      let marked : s.t ≡ f₁ = b.marked in
      let some : 1 ≤ f₁ = able₁.new_some in
      stripes_same s n₁ f₁ n₂ gs groups first f₂
      (handed_on s n₁ f₁ n₂ f₂ gs groups first second (may (inr (sym e))) (prepared_by_rows s able₁.shape (omega arith))
      (then_a s n₁ f₁ n₂ f₂ first second b (e ∙ marked)) (e₁ ∙ sym (kind_b s f₂ (λ z. omega arith))))

  -- a step of kind C: the second sitting gives the parity of all data in order
  second_exact : (kind_of s f₁ ≡ C) ⊎ (kind_of half f₂ ≡ C) → Exact half n₂ f₂ (halves s n₁ f₁ gs)
  second_exact (inl c) =
      codewords_exact half f₂ (halves s n₁ f₁ gs) n₂ (halves_count s n₁ f₁ n₂ gs groups first) second (data_halves s n₁ f₁ n₂ gs groups first c)
  second_exact (inr c) =
      data_exact half f₂ (halves s n₁ f₁ gs) n₂ (halves_count s n₁ f₁ n₂ gs groups first) second (halves_long s n₁ f₁ n₂ gs groups first) c

  -- so two sittings give the wide stripe by definition, whatever the parity columns held: stale ones are hidden
  pub by_data : (kind_of s f₁ ≡ C) ⊎ (kind_of half f₂ ≡ C) → in_two s n₁ f₁ n₂ f₂ gs ≡ by_definition s (n₁ * n₂) f₂ gs
  by_data c = two_exact s n₁ f₁ n₂ gs groups first f₂ (second_exact c)

  -- so does a fold at once of kind C
  once_by_data : s.t ≡ 0 → kind_of s f₂ ≡ C → at_once s (n₁ * n₂) f₂ gs ≡ by_definition s (n₁ * n₂) f₂ gs
  once_by_data plain c =
      once_exact s n₁ f₁ n₂ gs groups first f₂
      (data_exact s f₂ (joined gs) (n₁ * n₂) (stripes_count s n₁ f₁ n₂ gs groups first) (may (inl plain)) (stripes_long s n₁ f₁ n₂ gs groups first) c)

  both_by_data : s.t ≡ 0 → (kind_of s f₁ ≡ C) ⊎ (kind_of half f₂ ≡ C) → kind_of s f₂ ≡ C → Same
  both_by_data plain e c = by_data e ∙ sym (once_by_data plain c)

  -- C after C is C at once
  pub c_c : kind_of s f₁ ≡ C → kind_of half f₂ ≡ C → Same
  c_c e₁ e₂ = both_by_data (is_c s f₁ able₁.kinds e₁).plain (inl e₁) (c_then_c s n₁ f₁ n₂ f₂ first second e₁ e₂)

  -- C after A, and A after C, where the fold at once is of kind C
  pub a_c : kind_of s f₁ ≡ A → kind_of half f₂ ≡ C → kind_of s f₂ ≡ C → Same
  a_c e₁ e₂ c = both_by_data (is_a s f₁ able₁.kinds e₁).plain (inr e₂) c

  pub c_a : kind_of s f₁ ≡ C → kind_of half f₂ ≡ A → kind_of s f₂ ≡ C → Same
  c_a e₁ e₂ c = both_by_data (is_c s f₁ able₁.kinds e₁).plain (inl e₁) c

  -- All of this in one: if the stripes are prepared, f is t in the end too.
  pub same : (s.t ≡ 0) ⊎ (s.t ≡ f₂) → ((kind_of s f₁ ≡ C) ⊎ (kind_of half f₂ ≡ C) → kind_of s f₂ ≡ C) → Same
  same mark only = go able₁.kinds able₂.kinds
    where
      prepared : IsB s f₁ → (s.t ≡ 0) ⊎ (s.t ≡ f₂) → Same
      prepared b (inl z) = absurd (let some : 1 ≤ f₁ = able₁.new_some in let m : s.t ≡ f₁ = b.marked in omega arith)
      prepared b (inr e) = b_a b.kind (sym e)

      go : IsA s f₁ ⊎ (IsB s f₁ ⊎ IsC s f₁) → IsA half f₂ ⊎ (IsB half f₂ ⊎ IsC half f₂) → Same
      go (inl a) (inl b) = a_a a.kind b.kind
      go (inl a) (inr (inl b)) = absurd (let some : 1 ≤ f₂ = able₂.new_some in omega (arith, b.marked))
      go (inl a) (inr (inr c)) = a_c a.kind c.kind (only (inr c.kind))
      go (inr (inl b)) h = prepared b mark
      go (inr (inr c)) h = both_by_data c.plain (inl c.kind) (only (inl c.kind))

  -- So with r above 3, always.
  pub points_same : by_points s ≡ true → Same
  points_same e = same (inl (points_plain s able₁.shape e)) (points_c s n₁ f₁ n₂ f₂ first second e)

  -- A step of kind C against any fold at once, by rows: the fold at once holds beside it what its stripes carry on, and is another wherever that is
  -- not 0.
  pub apart_by : (kind_of s f₁ ≡ C) ⊎ (kind_of half f₂ ≡ C) → by_points s ≡ false → fold_refusal s (n₁ * n₂) f₂ ≡ 0 → (j p : ℕ) → j < f₂ → p < s.l
      → get_or (folded s (n₁ * n₂) f₂ (joined gs)) (j * s.l + p) 0
      ≡ get_or (folded half n₂ f₂ (halves s n₁ f₁ gs)) (j * s.l + p) 0 ⊕ carried_sum (kind_of s f₂) s (joined gs) j p
  apart_by c rows once j p hj hp =
      once_at s n₁ f₁ n₂ f₂ gs groups first second once rows j p hj hp
      ∙ ap (λ (x : ℕ). x ⊕ carried_sum (kind_of s f₂) s (joined gs) j p)
      (sym (ap (λ (ps : List ℕ). get_or ps (j * s.l + p) 0)
      (second_exact c ∙ ap₂ parity (shape_same s n₁ f₁ n₂ f₂) (data_same s n₁ f₁ n₂ gs groups first))
      ∙ parity_at (wide_shape s (n₁ * n₂) f₂) (wide_data s (joined gs)) j p hj hp))

  -- ---- where all narrow stripes are codewords

  module _ (codewords : Codewords s gs) where
    -- all kinds: two sittings give the wide stripe by definition
    pub codewords_two : in_two s n₁ f₁ n₂ f₂ gs ≡ by_definition s (n₁ * n₂) f₂ gs
    codewords_two =
        two_exact s n₁ f₁ n₂ gs groups first f₂
        (codewords_exact half f₂ (halves s n₁ f₁ gs) n₂ (halves_count s n₁ f₁ n₂ gs groups first) second
        (codewords_halves s n₁ f₁ n₂ gs groups first codewords))

    -- and so does the fold at once; if the stripes are prepared, the second step has f = t too
    pub codewords_same : (s.t ≡ 0) ⊎ (s.t ≡ f₂) → Same
    codewords_same mark =
        codewords_two
        ∙ sym (once_exact s n₁ f₁ n₂ gs groups first f₂
        (codewords_exact s f₂ (joined gs) (n₁ * n₂) (stripes_count s n₁ f₁ n₂ gs groups first) (may mark) (every (Codeword s) gs codewords)))
