-- One run more: what its rows lack once the runs below r are mended is what they hold and, from r on, the errors that were carried; so the
-- values solved there are the errors of the words.
use Prim.Native.Nat.{ℕ, ◌+◌, ◌*◌, ◌-◌, ◌/◌, ◌%◌, ◌≤◌, ◌<◌}
use mathlib.Core.Path.{◌≡◌, refl, sym, ap, ap₂, subst, ◌∙◌}
use mathlib.Core.Logic.{◌⊎◌, inl, inr}
use mathlib.Core.List.{List}
use native.Mathlib.Omega.{arith}
use native.Mathlib.Nat.{mul-le-mul, mul-le-mul_right, add-mul}
use lib.ListN.{length, get_or}
use Rattle.field.specs.Field.{◌⊕◌, ◌⊗◌, gpow}
use Rattle.field.specs.Bytes.{Bytes}
use Rattle.field.specs.Row.{row}
use Rattle.field.proofs.Xor.{add-lt, sums}
use Rattle.field.proofs.Rows.{row_lt}
use Rattle.field.proofs.Solve.{solve_same}
use Rattle.field.proofs.Cases.{below_or_from}
use Rattle.stripe.specs.declared.Shape.{Shape}
use Rattle.stripe.specs.Shape.{parity_length, most_rows, most_length, most_rows_length}
use Rattle.stripe.specs.Stripe.{runs, run_length, data_of, row_at, plain_runs}
use Rattle.stripe.proofs.Allowed.{Allowed}
use Rattle.stripe.proofs.Places.{place_column, place_byte, across-length, parity_below, parity_from, row_at_stripe}
use Rattle.stripe.proofs.Lost.{lost_data}
use Rattle.stripe.proofs.Errors.{points, points-length, error_row, errors_length, syndrome}
use Rattle.stripe.proofs.Word.{word_errors, word_mended, word_mended_row}
use Rattle.stripe.proofs.Mended.{data_at, check_at, wanted, wanted_below, wanted_from, word_at, word_below, word_below_lem, wanted_lt}
use Rattle.syndromes.specs.Syndromes.{Syndromes}
use Rattle.mending.specs.declared.system.System.{System}
use Rattle.mending.specs.Slots.{weighted, Outside, Sources, Gathered, Spaced, Solved}
use Rattle.mending.specs.System.{less, lost_in, gone, Other, Posed}
use Rattle.mending.specs.Scratch.{row_byte, Lies, lack_at, errors_at, HoldsErrors, Lacks, SolvedBelow, Carried}
use Rattle.mending.proofs.Slots.{weighted_same}
use Rattle.mending.proofs.Posed.{less-length, by_one, weighted_row}
use Rattle.mending.proofs.Posed.{few_rows, rows_length, count_is, first_few, step_some, step_few, row_below, pivot_errors}

-- a place of another column, or outside n places from a on, is none of these places of column i
pub place_off : (c i y a n l : ℕ) → y < l → a + n ≤ l → (c ≡ i → ⊥) ⊎ Outside a n y → Outside (i * l + a) n (c * l + y)
place_off c i y a n l hy ha o = go (below_or_from c i) (below_or_from i c) o
  where
    go : (c < i) ⊎ (i ≤ c) → (i < c) ⊎ (c ≤ i) → (c ≡ i → ⊥) ⊎ Outside a n y → Outside (i * l + a) n (c * l + y)
    go (inl h) k o = inl (omega (arith, mul-le-mul_right l h, add-mul c 1 l))
    go (inr h) (inl k) o = inr (omega (arith, mul-le-mul_right l k, add-mul i 1 l))
    go (inr h) (inr k) (inl n) = absurd (n (omega arith))
    go (inr h) (inr k) (inr (inl m)) = let e : c * l ≡ i * l = ap (λ (x : ℕ). x * l) (omega arith) in inl (omega arith)
    go (inr h) (inr k) (inr (inr m)) = let e : c * l ≡ i * l = ap (λ (x : ℕ). x * l) (omega arith) in inr (omega arith)

pub errors_long : (k : ℕ) (es ms : List ℕ) (t : ℕ → ℕ) → length (word_errors k es ms t) ≡ length (lost_data k es)
unfolding word_errors
errors_long k es ms t = errors_length _ _ (lost_data k es) ms t

pub word_is : (s : Shape) (es xs : List ℕ) (y : ℕ) → word_at s es xs y ≡ word_mended s.k es (data_at s xs y) (wanted s es xs y)
unfolding word_at
word_is s es xs y = refl

pub slot_place : (l first step b q v : ℕ) → first * l + b + v * (step * l) + q ≡ (first + step * v) * l + (b + q)
slot_place l first step b q v = omega arith

regroup : (c d e f : ℕ) → c ⊕ (d ⊕ e) ⊕ f ≡ c ⊕ (e ⊕ f) ⊕ d
regroup c d e f = simp sums

module _ (s : Shape) (f : Allowed s) (p : System) (w : Posed s p) (xs : List ℕ) (bytes : Bytes xs) where
  -- a mended word's row is that of the word as it lies and of its errors
  pub word_row : (j y : ℕ) → row j (word_at s (lost_in p) xs y) ≡ row j (data_at s xs y) ⊕ error_row j (gone s p) (errors_at s p xs y)
  word_row j y =
      ap (row j) (word_is s (lost_in p) xs y)
      ∙ word_mended_row s.k s.r (lost_in p) f.data_most (few_rows s f p w) w.ascend w.fits (data_at s xs y) (across-length xs s.l y 0 s.k)
      (wanted s (lost_in p) xs y) j

  module _ (b : ℕ) (hb : b < runs s) (ys us zs : List ℕ) (by : Bytes ys) (bu : Bytes us) (t : SolvedBelow s p xs b ys) (c : Carried s p b s.r ys us)
      (g : Solved (points p.step (less p.pivot (gone s p))) (points p.first (less p.pivot (gone s p))) (p.first * s.l + b * run_length s)
      (p.step * s.l) (run_length s) us zs) where
    run_ends : b * run_length s + run_length s ≤ s.l
    run_ends = omega (arith, f.cut, mul-le-mul_right (run_length s) hb, add-mul b 1 (run_length s))

    abbrev place : ℕ → ℕ
    place q = b * run_length s + q

    in_column : (q : ℕ) → q < run_length s → place q < s.l
    in_column q h = omega (arith, run_ends)

    -- what row j lacks at the places of the run
    lack_here : (j q : ℕ) → j < s.r → q < run_length s → gpow (j * p.pivot) ⊗ row_byte s us j (place q) ≡ lack_at s p xs (place q) j
    lack_here j q hj hq = go (below_or_from b (plain_runs s))
      where
        run_is : place q / run_length s ≡ b
        run_is = place_column b hq

        rest_is : place q % run_length s ≡ q
        rest_is = place_byte b hq

        lies : Lies s p.pivot xs ys j (place q)
        lies = t.rest j (place q) hj (omega arith) (in_column q hq)

        go : (b < plain_runs s) ⊎ (plain_runs s ≤ b) → gpow (j * p.pivot) ⊗ row_byte s us j (place q) ≡ lack_at s p xs (place q) j
        go (inl h) =
            let below : place q / run_length s < plain_runs s = subst (λ (z : ℕ). z < plain_runs s) (sym run_is) h in
            ap (λ (z : ℕ). gpow (j * p.pivot) ⊗ z) (c.off j (place q) hj (in_column q hq) (inl h)) ∙ lies
            ∙ ap₂ ◌⊕◌ (sym (wanted_below s (lost_in p) xs (place q) j below))
            (parity_below s (data_of s xs) j (place q) w.rows below ∙ row_at_stripe s xs j (place q) (in_column q hq))
        go (inr h) =
            let from : plain_runs s ≤ place q / run_length s = subst (λ (z : ℕ). plain_runs s ≤ z) (sym run_is) h in
            let none : p.pivot ≡ 0 = w.pivot_plain (omega arith) in
            let y : ℕ = j * run_length s + q in
            let earlier : j + 1 ≤ b = omega arith in
            let before : y < b * run_length s = omega (arith, mul-le-mul_right (run_length s) earlier, add-mul j 1 (run_length s)) in
            let inside : y < s.l = omega (arith, run_ends) in
            let there : y / run_length s < plain_runs s = subst (λ (z : ℕ). z < plain_runs s) (sym (place_column j hq)) hj in
            by_one j p.pivot _ none (bu _)
            ∙ c.on j q h hj hq
            ∙ ap₂ ◌⊕◌
            (sym (by_one j p.pivot _ none (by _)) ∙ lies
            ∙ ap (λ (z : ℕ). check_at s xs (place q) j ⊕ z)
            (parity_from s (data_of s xs) j (place q) w.rows from
            ∙ ap₂ ◌⊕◌ (row_at_stripe s xs j (place q) (in_column q hq))
            (ap₂ (λ (x z : ℕ). row_at s (data_of s xs) x (j * run_length s + z)) run_is rest_is ∙ row_at_stripe s xs b y inside)))
            (weighted_row b (gone s p) (errors_at s p xs y) _ (errors_long s.k (lost_in p) _ _)
            (λ v l. t.errors y before inside v (omega (arith, count_is s f p w))))
            ∙ regroup (check_at s xs (place q) j) (row j (data_at s xs (place q))) (row b (data_at s xs y)) (error_row b (gone s p) (errors_at s p xs y))
            ∙ ap (λ (z : ℕ). check_at s xs (place q) j ⊕ z ⊕ row j (data_at s xs (place q)))
            (sym (word_row b y) ∙ ap (row b) (word_below_lem s (lost_in p) xs y there)
            ∙ ap₂ (λ (x z : ℕ). row x (word_below s (lost_in p) xs (j * run_length s + z))) (sym run_is) (sym rest_is))
            ∙ ap (λ (z : ℕ). z ⊕ row j (data_at s xs (place q))) (sym (wanted_from s (lost_in p) xs (place q) j from))

    syndrome_lt : (y j : ℕ) → syndrome (data_at s xs y) (wanted s (lost_in p) xs y) j < 256
    syndrome_lt y j = add-lt 8 _ _ (wanted_lt s (lost_in p) xs y j bytes) (row_lt j (data_at s xs y))

    solved_here : (q v : ℕ) → q < run_length s → v < p.count → row_byte s zs (p.first + p.step * v) (place q) ≡ get_or (errors_at s p xs (place q)) v 0
    solved_here q v hq hv =
        ap (λ (z : ℕ). get_or zs z 0) (sym (slot_place s.l p.first p.step (b * run_length s) q v))
        ∙ g.at q v hq (omega (arith, points-length p.step (less p.pivot (gone s p)), less-length p.pivot (gone s p), count_is s f p w))
        ∙ ap (λ (l : List ℕ). get_or l v 0)
        (solve_same _ _ _ (λ u. row_byte s us (p.first + p.step * u) (place q))
        (λ u l. ap (λ (z : ℕ). get_or us z 0) (slot_place s.l p.first p.step (b * run_length s) q u))
        ∙ pivot_errors s f p w (data_at s xs (place q)) (wanted s (lost_in p) xs (place q)) (λ j. row_byte s us j (place q)) (syndrome_lt (place q)) (λ j. bu _)
        (λ u l. lack_here (p.first + p.step * u) q (row_below s f p w u l) hq))

    -- what is no slot of the run stays
    kept : (j y : ℕ) → y < s.l → Other p j ⊎ Outside (b * run_length s) (run_length s) y → row_byte s zs j y ≡ row_byte s us j y
    kept j y hy o =
        g.off (j * s.l + y)
        (λ v l k. subst (λ (z : ℕ). Outside z (run_length s) (j * s.l + y)) (at v)
        (place_off j (p.first + p.step * v) y (b * run_length s) (run_length s) s.l hy run_ends (apart v k o)))
      where
        at : (v : ℕ) → (p.first + p.step * v) * s.l + b * run_length s ≡ p.first * s.l + b * run_length s + v * (p.step * s.l)
        at v = omega arith

        apart : (v : ℕ) → v < length (points p.step (less p.pivot (gone s p))) → Other p j ⊎ Outside (b * run_length s) (run_length s) y
            → (j ≡ p.first + p.step * v → ⊥) ⊎ Outside (b * run_length s) (run_length s) y
        apart v k (inl n) =
            inl (λ e. n (v, (omega (arith, points-length p.step (less p.pivot (gone s p)), less-length p.pivot (gone s p), count_is s f p w), sym e)))
        apart v k (inr h) = inr h

    same : (j y : ℕ) → j < s.r → y < s.l → Outside (b * run_length s) (run_length s) y → row_byte s zs j y ≡ row_byte s ys j y
    same j y hj hy o = kept j y hy (inr o) ∙ c.off j y hj hy (inr (inr o))

    pub run_turn : SolvedBelow s p xs (b + 1) zs
    run_turn = record { long = g.long ∙ c.long ∙ t.long; errors = errors; rows = rows; rest = rest }
      where
        next : (b + 1) * run_length s ≡ b * run_length s + run_length s
        next = omega (arith, add-mul b 1 (run_length s))

        errors : (y : ℕ) → y < (b + 1) * run_length s → y < s.l → HoldsErrors s p xs zs y
        errors y h hy v hv = go (below_or_from y (b * run_length s))
          where
            go : (y < b * run_length s) ⊎ (b * run_length s ≤ y) → row_byte s zs (p.first + p.step * v) y ≡ get_or (errors_at s p xs y) v 0
            go (inl l) = same (p.first + p.step * v) y (row_below s f p w v hv) hy (inl l) ∙ t.errors y l hy v hv
            go (inr l) =
                let e : place (y - b * run_length s) ≡ y = omega arith in
                subst (λ (z : ℕ). row_byte s zs (p.first + p.step * v) z ≡ get_or (errors_at s p xs z) v 0) e
                (solved_here (y - b * run_length s) v (omega (arith, next)) hv)

        rows : (j y : ℕ) → j < s.r → Other p j → y < (b + 1) * run_length s → y < s.l → Lacks s p xs zs j y
        rows j y hj o h hy = go (below_or_from y (b * run_length s))
          where
            go : (y < b * run_length s) ⊎ (b * run_length s ≤ y) → Lacks s p xs zs j y
            go (inl l) = ap (λ (z : ℕ). gpow (j * p.pivot) ⊗ z) (same j y hj hy (inl l)) ∙ t.rows j y hj o l hy
            go (inr l) =
                let e : place (y - b * run_length s) ≡ y = omega arith in
                ap (λ (z : ℕ). gpow (j * p.pivot) ⊗ z) (kept j y hy (inl o))
                ∙ subst (λ (z : ℕ). gpow (j * p.pivot) ⊗ row_byte s us j z ≡ lack_at s p xs z j) e (lack_here j (y - b * run_length s) hj (omega (arith, next)))

        rest : (j y : ℕ) → j < s.r → (b + 1) * run_length s ≤ y → y < s.l → Lies s p.pivot xs zs j y
        rest j y hj h hy =
            ap (λ (z : ℕ). gpow (j * p.pivot) ⊗ z) (same j y hj hy (inr (omega (arith, next)))) ∙ t.rest j y hj (omega (arith, next)) hy

pub runs_start : (s : Shape) (p : System) (xs ys : List ℕ) → Syndromes s p.pivot xs ys → SolvedBelow s p xs 0 ys
runs_start s p xs ys h =
    record {
      long = h.long;
      errors = λ y l hy. absurd (omega arith);
      rows = λ j y hj o l hy. absurd (omega arith);
      rest = λ j y hj l hy. h.at j y hj hy;
    }

-- ---- what is carried, row by row

pub carried_none : (s : Shape) (p : System) (b j : ℕ) (ys : List ℕ) → b < plain_runs s → Carried s p b j ys ys
carried_none s p b j ys h = record { long = refl; on = λ i q k hi hq. absurd (omega arith); off = λ i y hi hy o. refl }

pub carried_start : (s : Shape) (p : System) (b : ℕ) (ys : List ℕ) → Carried s p b 0 ys ys
carried_start s p b ys = record { long = refl; on = λ i q k hi hq. absurd (omega arith); off = λ i y hi hy o. refl }

module _ (s : Shape) (f : Allowed s) (p : System) (w : Posed s p) (b j m : ℕ) (hm : m ≡ run_length s)
    (hb : b < runs s) (from : plain_runs s ≤ b) (hj : j < s.r) where
  ends : (i : ℕ) → i ≤ b → i * run_length s + run_length s ≤ s.l
  ends i h =
      let l : i + 1 ≤ runs s = omega arith in omega (arith, f.cut, mul-le-mul_right (run_length s) l, add-mul i 1 (run_length s))

  earlier : (i : ℕ) → i < s.r → i * run_length s + run_length s ≤ b * run_length s
  earlier i h = let l : i + 1 ≤ b = omega arith in omega (arith, mul-le-mul_right (run_length s) l, add-mul i 1 (run_length s))

  column_ends : (c : ℕ) → c < s.r → c * s.l + s.l ≤ parity_length s
  column_ends c h = omega (arith, mul-le-mul_right s.l h, add-mul c 1 s.l)

  -- the errors of run j stand outside run b
  pub carry_sources : (len : ℕ) → len ≡ parity_length s → Sources p.count (j * s.l + b * m) (p.first * s.l + j * m) (p.step * s.l) m len
  carry_sources len long =
      subst (λ (z : ℕ). Sources p.count (j * s.l + b * z) (p.first * s.l + j * z) (p.step * s.l) z len) (sym hm)
      record {
        few = omega (arith, w.many, w.few);
        small = omega (arith, rows_length s f p w);
        target = omega (arith, column_ends j hj, ends b (omega arith));
        source =
            λ v h. omega (
              arith,
              column_ends (p.first + p.step * v) (row_below s f p w v h),
              ends j (omega arith),
              slot_place s.l p.first p.step (j * run_length s) 0 v,
            );
        apart = λ v q h k.
            subst (λ (z : ℕ). Outside (j * s.l + b * run_length s) (run_length s) z) (sym (slot_place s.l p.first p.step (j * run_length s) q v))
            (place_off (p.first + p.step * v) j (j * run_length s + q) (b * run_length s) (run_length s) s.l (omega (arith, ends j (omega arith)))
            (ends b (omega arith)) (inr (inl (omega (arith, earlier j hj)))));
      }

  pub carried_turn : (ws ys zs : List ℕ) → ws ≡ points b (gone s p) → Gathered ws (j * s.l + b * m) (p.first * s.l + j * m) (p.step * s.l) m ys zs
      → (xs : List ℕ) → Carried s p b j xs ys → Carried s p b (j + 1) xs zs
  carried_turn ws ys zs ew g' xs t = record { long = g.long ∙ t.long; on = on; off = off }
    where
      g : Gathered (points b (gone s p)) (j * s.l + b * run_length s) (p.first * s.l + j * run_length s) (p.step * s.l) (run_length s) ys zs
      g = subst (λ (l : List ℕ). Gathered l (j * s.l + b * run_length s) (p.first * s.l + j * run_length s) (p.step * s.l) (run_length s) ys zs) ew
          (subst (λ (z : ℕ). Gathered ws (j * s.l + b * z) (p.first * s.l + j * z) (p.step * s.l) z ys zs) hm g')

      kept : (i y : ℕ) → y < s.l → (i ≡ j → ⊥) ⊎ Outside (b * run_length s) (run_length s) y → row_byte s zs i y ≡ row_byte s ys i y
      kept i y hy o = g.off (i * s.l + y) (place_off i j y (b * run_length s) (run_length s) s.l hy (ends b (omega arith)) o)

      -- the errors of a run below r are as they were
      errors_kept : (i q v : ℕ) → i < s.r → q < run_length s → v < p.count
          → row_byte s ys (p.first + p.step * v) (i * run_length s + q) ≡ row_byte s xs (p.first + p.step * v) (i * run_length s + q)
      errors_kept i q v hi hq hv =
          t.off (p.first + p.step * v) (i * run_length s + q) (row_below s f p w v hv) (omega (arith, ends i (omega arith)))
          (inr (inr (inl (omega (arith, earlier i hi)))))

      on : (i q : ℕ) → plain_runs s ≤ b → i < j + 1 → q < run_length s
          → row_byte s zs i (b * run_length s + q)
          ≡ row_byte s xs i (b * run_length s + q) ⊕ weighted (points b (gone s p)) (λ v. row_byte s xs (p.first + p.step * v) (i * run_length s + q))
      on i q k hi hq = go (below_or_from i j)
        where
          go : (i < j) ⊎ (j ≤ i) → row_byte s zs i (b * run_length s + q)
              ≡ row_byte s xs i (b * run_length s + q) ⊕ weighted (points b (gone s p)) (λ v. row_byte s xs (p.first + p.step * v) (i * run_length s + q))
          go (inl l) = kept i (b * run_length s + q) (omega (arith, ends b (omega arith))) (inl (λ e. omega arith)) ∙ t.on i q k l hq
          go (inr l) =
              let e : i ≡ j = omega arith in
              ap (λ (z : ℕ). get_or zs z 0) (ap (λ (z : ℕ). z * s.l + (b * run_length s + q)) e ∙ omega arith) ∙ g.on q hq
              ∙ ap₂ ◌⊕◌
              (ap (λ (z : ℕ). get_or ys z 0) (omega arith)
              ∙ t.off j (b * run_length s + q) hj (omega (arith, ends b (omega arith))) (inr (inl (omega arith)))
              ∙ ap (λ (z : ℕ). row_byte s xs z (b * run_length s + q)) (sym e))
              (weighted_same (points b (gone s p)) _ _
              (λ v h. ap (λ (z : ℕ). get_or ys z 0) (slot_place s.l p.first p.step (j * run_length s) q v)
              ∙ errors_kept j q v hj hq (omega (arith, points-length b (gone s p), count_is s f p w))
              ∙ ap (λ (z : ℕ). row_byte s xs (p.first + p.step * v) (z * run_length s + q)) (sym e)))

      off : (i y : ℕ) → i < s.r → y < s.l → (b < plain_runs s) ⊎ ((j + 1 ≤ i) ⊎ Outside (b * run_length s) (run_length s) y)
          → row_byte s zs i y ≡ row_byte s xs i y
      off i y hi hy (inl h) = absurd (omega arith)
      off i y hi hy (inr (inl h)) = kept i y hy (inl (λ e. omega arith)) ∙ t.off i y hi hy (inr (inl (omega arith)))
      off i y hi hy (inr (inr h)) = kept i y hy (inr h) ∙ t.off i y hi hy (inr (inr h))

-- ---- sizes

pub first_length : (s : Shape) (p : System) → Allowed s → Posed s p → p.first * s.l ≤ most_rows_length
first_length s p f w = mul-le-mul {n₂ = most_rows} {m₂ = most_length} (omega (arith, first_few s f p w)) f.length_most

pub step_length : (s : Shape) (p : System) → Allowed s → Posed s p → p.step * s.l ≤ most_rows_length
step_length s p f w = mul-le-mul {n₂ = most_rows} {m₂ = most_length} (omega (arith, step_few s f p w)) f.length_most

pub record Sizes (s : Shape) (p : System) (b j m : ℕ) : Type 0 where
  pub row : j * s.l ≤ most_rows_length
  pub run : b * m ≤ most_rows_length
  pub first : p.first * s.l ≤ most_rows_length
  pub like : j * m ≤ most_rows_length
  pub step : p.step * s.l ≤ most_rows_length

pub sizes : (s : Shape) (p : System) (b j m : ℕ) → Allowed s → Posed s p → m ≡ run_length s → b < runs s → j < s.r → Sizes s p b j m
sizes s p b j m f w hm hb hj =
    record {
      row = mul-le-mul {n₂ = most_rows} {m₂ = most_length} (omega (arith, few_rows s f p w)) f.length_most;
      run = mul-le-mul {n₂ = most_rows} {m₂ = most_length} (omega (arith, f.runs_most)) short;
      first = first_length s p f w;
      like = mul-le-mul {n₂ = most_rows} {m₂ = most_length} (omega (arith, few_rows s f p w)) short;
      step = step_length s p f w;
    }
  where
    short : m ≤ most_length
    short = omega (arith, f.run_most, f.length_most)

-- the slots of a run
pub run_spaced : (s : Shape) (p : System) (b m len : ℕ) → Allowed s → Posed s p → m ≡ run_length s → b < runs s → len ≡ parity_length s
    → Spaced p.count (p.first * s.l + b * m) (p.step * s.l) m len
run_spaced s p b m len f w hm hb long =
    record {
      few = omega (arith, w.many, w.few);
      small = omega (arith, rows_length s f p w);
      step = step_length s p f w;
      wide = omega (arith, f.run_most, hm, mul-le-mul_right s.l (step_some s f p w));
      room = λ v h.
          subst (λ (z : ℕ). p.first * s.l + b * z + v * (p.step * s.l) + z ≤ len) (sym hm)
          (omega (
            arith,
            mul-le-mul_right s.l (row_below s f p w v h),
            add-mul (p.first + p.step * v) 1 s.l,
            slot_place s.l p.first p.step (b * run_length s) 0 v,
            ends,
          ));
    }
  where
    ends : b * run_length s + run_length s ≤ s.l
    ends = omega (arith, f.cut, mul-le-mul_right (run_length s) hb, add-mul b 1 (run_length s))

-- the run as it was solved, by the lengths and the powers that the function has
-- one run more is solved
pub record RunSolved (s : Shape) (p : System) (b : ℕ) (ys zs : List ℕ) : Type 0 where
  pub long : length zs ≡ length ys
  pub more : (xs : List ℕ) → Bytes xs → SolvedBelow s p xs b ys → SolvedBelow s p xs (b + 1) zs

pub run_solved : (s : Shape) (f : Allowed s) (p : System) (w : Posed s p) (b m : ℕ) (bs ws ys us zs : List ℕ) → m ≡ run_length s → b < runs s → Bytes ys
    → Bytes us
    → bs ≡ points p.step (less p.pivot (gone s p)) → ws ≡ points p.first (less p.pivot (gone s p))
    → Carried s p b s.r ys us → Solved bs ws (p.first * s.l + b * m) (p.step * s.l) m us zs → RunSolved s p b ys zs
run_solved s f p w b m bs ws ys us zs hm hb by bu eb ew c g =
    record { long = g.long ∙ c.long; more = λ xs bytes t. run_turn s f p w xs bytes b hb ys us zs by bu t c g' }
  where
    g' : Solved (points p.step (less p.pivot (gone s p))) (points p.first (less p.pivot (gone s p))) (p.first * s.l + b * run_length s)
        (p.step * s.l) (run_length s) us zs
    g' =
        subst (λ (z : ℕ). Solved (points p.step (less p.pivot (gone s p))) (points p.first (less p.pivot (gone s p))) (p.first * s.l + b * z)
        (p.step * s.l) z us zs) hm
        (subst (λ (l : List ℕ). Solved (points p.step (less p.pivot (gone s p))) l (p.first * s.l + b * m) (p.step * s.l) m us zs) ew
        (subst (λ (l : List ℕ). Solved l ws (p.first * s.l + b * m) (p.step * s.l) m us zs) eb g))

pub powers_length : (s : Shape) (f : Allowed s) (p : System) (w : Posed s p) (j : ℕ) (bs : List ℕ) → bs ≡ points j (less p.pivot (gone s p))
    → length bs ≡ p.count
powers_length s f p w j bs e =
    ap length e ∙ points-length j (less p.pivot (gone s p)) ∙ less-length p.pivot (gone s p) ∙ sym (count_is s f p w)
