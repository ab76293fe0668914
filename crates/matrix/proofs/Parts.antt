-- What a loop over a part of a list leaves of the whole, and the sums of a group as they are made.
use mathlib.Core.Path.{◌≡◌, refl, sym, ap, ap₂, ◌∙◌, subst}
use mathlib.Core.List.{List}
use mathlib.Core.Logic.{◌⊎◌, inl, inr}
use Prim.Native.Nat.{ℕ, zero, suc, ◌+◌, ◌-◌, ◌*◌, ◌^◌, ◌<◌, ◌≤◌}
use native.Mathlib.Numerals.{add-one}
use native.Mathlib.Nat.{two-pow-succ}
use native.Mathlib.Omega.{arith}
use lib.ListN.{length, get_or, take, drop, replicate}
use borrow.Rule.Slice.PartMut.{put_mid}
use Rattle.field.specs.Field.{◌⊕◌, times}
use Rattle.field.proofs.Xor.{add-zero}
use Rattle.field.proofs.Cases.{below_or_from}
use Rattle.lanes.specs.Lanes.{onto}
use Rattle.lanes.proofs.Onto.{onto_at, onto-length}
use Rattle.lanes.proofs.Parts.{part_length, part_at, back_length, back_inside, back_outside}
use Rattle.matrix.specs.Sums.{sum_to, index, Part, Widened, GroupIn, Summed}
use Rattle.matrix.proofs.Horner.{sum_none, sum_more}
use Rattle.matrix.proofs.Groups.{index_none, index_more, index-lt, pow_small, pow_some}

pub part_onto : (f : ℕ → ℕ → ℕ) (xs b ys : List ℕ) (at n : ℕ) → at + n ≤ length xs → n ≤ length b
    → ys ≡ onto f (take (at + n - at) (drop at xs)) b → Part f xs at n b (put_mid at (at + n - at) xs ys)
part_onto f xs b ys at n fits long is =
    record {
      long = back_length xs ys at n ys_long fits;
      inside = λ q h. back_inside xs ys at n ys_long fits q h ∙ ap (λ (l : List ℕ). get_or l q 0) is
          ∙ onto_at f _ b q (omega (arith, part_length xs at n fits)) (omega arith)
          ∙ ap (λ (x : ℕ). f x (get_or b q 0)) (part_at xs at n q h);
      outside = back_outside xs ys at n ys_long fits;
    }
  where
    ys_long : length ys ≡ n
    ys_long = ap length is ∙ onto-length f _ b ∙ part_length xs at n fits

pub part_same : (f : ℕ → ℕ → ℕ) (xs b ys : List ℕ) (at n w : ℕ) → n ≡ w → Part f xs at n b ys → Part f xs at w b ys
part_same f xs b ys at n w e h = subst (λ (k : ℕ). Part f xs at k b ys) e h

-- ---- widening

pub widened_start : (g have : ℕ) (d t : List ℕ) → Widened g have 0 d t t
widened_start g have d t = record { long = refl; new = λ c q h k. omega arith; rest = λ i h. refl }

pub widened_turn : (g have n : ℕ) (d a b t u v : List ℕ) → n < have → length d ≡ 64 → length a ≡ 64 → Widened g have n d t u
    → ((q : ℕ) → q < 64 → get_or a q 0 ≡ get_or u ((g * 16 + n) * 64 + q) 0)
    → b ≡ onto (λ (x y : ℕ). x ⊕ y) a d
    → Part (λ (x y : ℕ). y) u ((g * 16 + have + n) * 64) 64 b v → Widened g have (n + 1) d t v
widened_turn g have n d a b t u v less dl al w read sum put =
    record { long = put.long ∙ w.long; new = new; rest = rest }
  where
    entry : (q : ℕ) → q < 64 → get_or b q 0 ≡ get_or t ((g * 16 + n) * 64 + q) 0 ⊕ get_or d q 0
    entry q h =
        ap (λ (l : List ℕ). get_or l q 0) sum ∙ onto_at (λ (x y : ℕ). x ⊕ y) a d q (omega arith) (omega arith)
        ∙ ap (λ (x : ℕ). x ⊕ get_or d q 0) (read q h ∙ w.rest ((g * 16 + n) * 64 + q) (inl (omega arith)))

    new : (c q : ℕ) → c < n + 1 → q < 64 → get_or v ((g * 16 + have + c) * 64 + q) 0 ≡ get_or t ((g * 16 + c) * 64 + q) 0 ⊕ get_or d q 0
    new c q h k = go (below_or_from c n)
      where
        go : (c < n) ⊎ (n ≤ c) → get_or v ((g * 16 + have + c) * 64 + q) 0 ≡ get_or t ((g * 16 + c) * 64 + q) 0 ⊕ get_or d q 0
        go (inl l) = put.outside ((g * 16 + have + c) * 64 + q) (inl (omega arith)) ∙ w.new c q l k
        go (inr l) =
            let e : c ≡ n = omega arith in
            ap (λ (x : ℕ). get_or v ((g * 16 + have + x) * 64 + q) 0) e ∙ put.inside q k ∙ entry q k
            ∙ ap (λ (x : ℕ). get_or t ((g * 16 + x) * 64 + q) 0 ⊕ get_or d q 0) (sym e)

    rest : (i : ℕ) → (i < (g * 16 + have) * 64) ⊎ ((g * 16 + have + (n + 1)) * 64 ≤ i) → get_or v i 0 ≡ get_or t i 0
    rest i (inl h) = put.outside i (inl (omega arith)) ∙ w.rest i (inl h)
    rest i (inr h) = put.outside i (inr (omega arith)) ∙ w.rest i (inr (omega arith))

pub widened_done : (g have n : ℕ) (d t u : List ℕ) → n ≡ have → Widened g have n d t u → Widened g have have d t u
widened_done g have n d t u e w = subst (λ (x : ℕ). Widened g have x d t u) e w

-- ---- the sums of a group

pub get_or_zeros : (n q : ℕ) → ◌≡◌ {A = ℕ} (get_or (replicate n 0) q 0) 0
get_or_zeros zero q = refl
get_or_zeros (suc n) zero = refl
get_or_zeros (suc n) (suc q) = get_or_zeros n q

module _ (xs cs : List ℕ) (from stride w i g : ℕ) (few : w ≤ 64) where
  pub summed_start : (t u : List ℕ) → Part (λ (x y : ℕ). y) t (g * 1024) 64 (replicate 64 0) u → Summed xs cs from stride w i g 0 u u
  summed_start t u put =
      record {
        long = refl;
        sums = λ f hf q h. ap (λ (x : ℕ). get_or u ((g * 16 + x) * 64 + q) 0) (index_none f) ∙ ap (λ (x : ℕ). get_or u x 0) (omega arith)
            ∙ put.inside q (omega arith) ∙ get_or_zeros 64 q ∙ sym (sum_none _);
        zero = λ q h. put.inside q h ∙ get_or_zeros 64 q;
        rest = λ k h. refl;
      }

  pub summed_turn : (j have : ℕ) (d t u v : List ℕ) → have ≡ 2 ^ j → j < 4 → Summed xs cs from stride w i g j t u
      → ((q : ℕ) → q < w → get_or d q 0 ≡ get_or xs (from + get_or cs (i + j) 0 * stride + q) 0) → Widened g have have d u v
      → Summed xs cs from stride w i g (j + 1) t v
  summed_turn j have d t u v e less s read wide =
      record {
        long = wide.long ∙ s.long;
        sums = λ f hf. subst (Holds f) (sym (add-one j)) (one_more f hf);
        zero = λ q h. wide.rest (g * 1024 + q) (inl (omega (arith, pow_some j less))) ∙ s.zero q h;
        rest = rest;
      }
    where
      term : (ℕ → ℕ) → ℕ → ℕ → ℕ
      term f q k = times (f k) (get_or xs (from + get_or cs (i + k) 0 * stride + q) 0)

      Holds : (ℕ → ℕ) → ℕ → Type 0
      Holds f n = (q : ℕ) → q < w → get_or v ((g * 16 + index n f) * 64 + q) 0 ≡ sum_to n (term f q)

      one_more : (f : ℕ → ℕ) → ((k : ℕ) → f k < 2) → (q : ℕ) → q < w
          → get_or v ((g * 16 + index (suc j) f) * 64 + q) 0 ≡ sum_to (suc j) (term f q)
      one_more f hf q h =
          ap (λ (x : ℕ). get_or v ((g * 16 + x) * 64 + q) 0) (index_more j f ∙ ap (λ (x : ℕ). index j f + f j * x) (sym e))
          ∙ go (f j) (hf j) ∙ sym (sum_more j _)
        where
          low : index j f < have
          low = omega (arith, index-lt j f hf)

          go : (b : ℕ) → b < 2
              → get_or v ((g * 16 + (index j f + b * have)) * 64 + q) 0
              ≡ sum_to j (term f q) ⊕ times b (get_or xs (from + get_or cs (i + j) 0 * stride + q) 0)
          go zero k =
              ap (λ (x : ℕ). get_or v x 0) (omega arith)
              ∙ wide.rest ((g * 16 + index j f) * 64 + q) (inl (omega (arith, low))) ∙ s.sums f hf q h
              ∙ sym (add-zero _)
          go (suc zero) k =
              ap (λ (x : ℕ). get_or v x 0) (omega arith) ∙ wide.new (index j f) q low (omega arith) ∙ ap₂ ◌⊕◌ (s.sums f hf q h) (read q h)
          go (suc (suc b)) k = omega arith

      rest : (k : ℕ) → (k < g * 1024) ⊎ (g * 1024 + 1024 ≤ k) → get_or v k 0 ≡ get_or t k 0
      rest k (inl h) = wide.rest k (inl (omega arith)) ∙ s.rest k (inl h)
      rest k (inr h) = wide.rest k (inr (omega (arith, pow_small j less))) ∙ s.rest k (inr h)

  -- all columns, after the sum of none was put
  pub summed_done : (n j : ℕ) (t u v : List ℕ) → n ≡ j → Part (λ (x y : ℕ). y) t (g * 1024) 64 (replicate 64 0) u → Summed xs cs from stride w i g j u v
      → Summed xs cs from stride w i g n t v
  summed_done n j t u v e put s =
      record {
        long = s.long ∙ put.long;
        sums = subst (λ (x : ℕ). GroupIn xs cs from stride w i g x v) (sym e) s.sums;
        zero = s.zero;
        rest = λ k h. s.rest k h ∙ put.outside k (far k h);
      }
    where
      far : (k : ℕ) → (k < g * 1024) ⊎ (g * 1024 + 1024 ≤ k) → (k < g * 1024) ⊎ (g * 1024 + 64 ≤ k)
      far k (inl h) = inl h
      far k (inr h) = inr (omega arith)

-- the next power of two
pub power_next : (have j : ℕ) → have ≡ 2 ^ j → have * 2 ≡ 2 ^ (j + 1)
power_next have j e = omega (arith, two-pow-succ j, ap (λ (x : ℕ). 2 ^ x) (add-one j))
