-- By rows, the wide stripe's disagreement is the sum of what its stripes carry on, for all bytes. So the fold of codewords is the parity of
-- all their data, and one stripe that disagrees in a byte which the plan names always shows.
use mathlib.Core.Path.{◌≡◌, refl, sym, ap, ap₂, ◌∙◌, subst}
use mathlib.Core.Bool.{false}
use mathlib.Core.List.{List, [], map, map-map}
use Prim.Native.Nat.{ℕ, ◌+◌, ◌*◌, ◌/◌, ◌<◌, ◌≤◌}
use native.Mathlib.Nat.{div-eq_of_lt, mul_assoc}
use native.Mathlib.Omega.{arith}
use lib.ListN.{length, get_or, length-map}
use lib.Seq.{take_at, drop_at}
use Rattle.field.specs.Field.{◌⊕◌}
use Rattle.field.specs.Row.{row}
use Rattle.field.proofs.Xor.{sums}
use Rattle.stripe.specs.declared.Shape.{Shape}
use Rattle.stripe.specs.Shape.{data_length, stripe_length}
use Rattle.stripe.specs.Stripe.{across, row_at, run_length, by_points, parity_byte, data_of, parity_of}
use Rattle.stripe.proofs.Allowed.{plain_run_length}
use Rattle.stripe.proofs.Places.{parity_below, data_of-length}
use Rattle.plan.specs.declared.Kind.{Kind}
use Rattle.plan.specs.Plan.{kind_of, fold_refusal, plan, wide_shape}
use Rattle.fold.specs.Fold.{share, fold_byte, fold_of, wide_data, cut_out, read_of, wide_stripe, disagreement, carried}
use Rattle.points.specs.Folding.{joined}
use Rattle.plan.proofs.Foldable.{Foldable, foldable, wide_by_points}
use Rattle.fold.proofs.Laws.{fold_sum_lem, fold_at}
use Rattle.points.proofs.Joined.{joined_length, get_or_mapped}
use Rattle.fold.proofs.Cut.{at_rest, cut_parts}
use Rattle.fold.proofs.Carried.{shared}
use Rattle.fold.proofs.Sums.{map_sum, rows_joined}

-- ---- the wide shape

pub wide_parity : (s : Shape) (n f : ℕ) (ds : List ℕ) (j p : ℕ) → by_points (wide_shape s n f) ≡ false → 1 ≤ f → p < s.l
    → parity_byte (wide_shape s n f) ds j p ≡ row_at (wide_shape s n f) ds j p
wide_parity s n f ds j p rows hf hp = parity_below (wide_shape s n f) ds j p rows (subst (λ (z : ℕ). z < f) (sym first) hf)
  where
    first : p / run_length (wide_shape s n f) ≡ 0
    first = ap (λ (z : ℕ). p / z) (plain_run_length (wide_shape s n f) refl) ∙ div-eq_of_lt hp

-- ---- the identity

move : (x y z : ℕ) → x ≡ y ⊕ z → x ⊕ y ≡ z
move x y z e = ap (λ (w : ℕ). w ⊕ y) e ∙ simp sums

module _ (s : Shape) (f : ℕ) (zss : List (List ℕ)) (passed : fold_refusal s (length zss) f ≡ 0)
    (long : (l : ℕ) → l < length zss → length (get_or zss l []) ≡ stripe_length s) where
  abbrev κ : Kind
  κ = kind_of s f

  abbrev wide : Shape
  wide = wide_shape s (length zss) f

  abbrev answer : List ℕ
  answer = fold_of s (length zss) f (cut_out s zss (plan s (length zss) f))

  able : Foldable s (length zss) f
  able = foldable s (length zss) f passed

  datas_long : (l : ℕ) → l < length (map (λ zs. data_of s zs) zss) → length (get_or (map (λ zs. data_of s zs) zss) l []) ≡ s.k * s.l
  datas_long l h =
      let k : l < length zss = subst (λ (x : ℕ). l < x) (length-map zss (λ zs. data_of s zs)) h in
      ap length (get_or_mapped (λ zs. data_of s zs) [] [] zss l k) ∙ data_of-length s (get_or zss l []) (long l k)

  pub wide_data-length : length (wide_data s zss) ≡ data_length wide
  unfolding wide_data
  wide_data-length =
      joined_length (s.k * s.l) (map (λ zs. data_of s zs) zss) datas_long
      ∙ ap (λ (n : ℕ). n * (s.k * s.l)) (length-map zss (λ zs. data_of s zs)) ∙ sym (mul_assoc (length zss) s.k s.l)

  pub wide_data_lem : data_of wide (wide_stripe s (length zss) f zss) ≡ wide_data s zss
  unfolding wide_stripe
  wide_data_lem = take_at (wide_data s zss) answer (data_length wide) wide_data-length

  pub wide_answer_lem : parity_of wide (wide_stripe s (length zss) f zss) ≡ answer
  unfolding wide_stripe
  wide_answer_lem = drop_at (wide_data s zss) answer (data_length wide) wide_data-length

  wide_at : (j p : ℕ) → get_or (wide_stripe s (length zss) f zss) ((wide.k + j) * s.l + p) 0 ≡ get_or answer (j * s.l + p) 0
  unfolding wide_stripe
  wide_at j p = at_rest (wide_data s zss) answer (data_length wide) ((wide.k + j) * s.l + p) (j * s.l + p) wide_data-length (omega arith)

  -- row j of all data in order is the sum over stripes of their rows
  wide_row : (j p : ℕ) → p < s.l → row_at wide (wide_data s zss) j p ≡ row (j * s.k) (map (λ zs. row_at s (data_of s zs) j p) zss)
  unfolding row_at wide_data
  wide_row j p hp =
      ap (λ (n : ℕ). row j (across (joined (map (λ zs. data_of s zs) zss)) s.l p 0 (n * s.k))) (sym (length-map zss (λ zs. data_of s zs)))
      ∙ sym (rows_joined j s.k s.l p (map (λ zs. data_of s zs) zss) hp datas_long)
      ∙ ap (row (j * s.k)) (map-map (λ xs. row j (across xs s.l p 0 s.k)) (λ zs. data_of s zs) zss)

  module _ (rows : by_points s ≡ false) where
    -- the answer is the sum over stripes of what each adds
    answer_at : (j p : ℕ) → j < f → p < s.l → get_or answer (j * s.l + p) 0 ≡ row (j * s.k) (map (λ zs. share κ s (read_of κ s f zs) j p) zss)
    answer_at j p hj hp =
        fold_at s (length zss) f (cut_out s zss (plan s (length zss) f)) rows j p hj hp
        ∙ ap (λ (xss : List (List ℕ)). fold_byte κ s xss j p) (cut_parts s f zss passed long)
        ∙ fold_sum_lem κ s (map (read_of κ s f) zss) j p
        ∙ ap (row (j * s.k)) (map-map (λ xs. share κ s xs j p) (read_of κ s f) zss)

    -- the fold's answer, for all bytes: the parity of all data in order, and what the stripes carry on
    pub answer_is : (j p : ℕ) → j < f → p < s.l
        → get_or answer (j * s.l + p) 0 ≡ parity_byte wide (wide_data s zss) j p ⊕ row (j * s.k) (map (λ zs. carried κ s zs j p) zss)
    answer_is j p hj hp =
        answer_at j p hj hp
        ∙ map_sum (j * s.k) _ (λ zs. row_at s (data_of s zs) j p) (λ zs. carried κ s zs j p) zss
        (λ l h. shared s (get_or zss l []) able.shape rows (long l h) f j p able.kinds hj hp)
        ∙ ap (λ (x : ℕ). x ⊕ row (j * s.k) (map (λ zs. carried κ s zs j p) zss))
        (sym (wide_parity s (length zss) f (wide_data s zss) j p (wide_by_points s (length zss) f passed ∙ rows) able.new_some hp ∙ wide_row j p hp))

    -- the disagreement identity
    pub disagreement_sum : (j p : ℕ) → j < f → p < s.l
        → disagreement wide (wide_stripe s (length zss) f zss) j p ≡ row (j * s.k) (map (λ zs. carried κ s zs j p) zss)
    unfolding disagreement
    disagreement_sum j p hj hp =
        ap₂ (λ (x : ℕ) (ds : List ℕ). x ⊕ parity_byte wide ds j p) (wide_at j p) wide_data_lem
        ∙ move _ (parity_byte wide (wide_data s zss) j p) _ (answer_is j p hj hp)
