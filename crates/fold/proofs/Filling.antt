-- The wide parity takes in a stripe run by run: each share lies within what is stored, and is what the fold's definition says.
use mathlib.Core.Path.{◌≡◌, refl, sym, ap, ap₂, ◌∙◌, subst}
use mathlib.Core.Bool.{Bool, false}
use mathlib.Core.List.{List}
use mathlib.Core.Logic.{◌⊎◌, inl, inr}
use Prim.Native.Nat.{ℕ, ◌+◌, ◌-◌, ◌*◌, ◌/◌, ◌%◌, ◌<◌, ◌≤◌}
use native.Mathlib.Nat.{add-mul, mul_assoc, mul-le-mul_right}
use native.Mathlib.Omega.{arith}
use lib.ListN.{length, get_or, take, drop}
use lib.Seq.{ext_get_or}
use borrow.Author.Tests.{lt-ltb, le-ltb, eq-eqb, ne_eqb}
use borrow.Rule.Slice.PartMut.{put_mid}
use Rattle.field.specs.Field.{◌⊕◌}
use Rattle.field.proofs.Bytes.{tabulate-length, tabulate_at}
use Rattle.field.proofs.Cases.{below_or_from}
use Rattle.stripe.specs.declared.Shape.{Shape}
use Rattle.stripe.specs.Stripe.{runs, run_length, by_points, plain_runs}
use Rattle.stripe.specs.Shape.{most_rows}
use Rattle.stripe.proofs.Allowed.{Allowed, Prepared, allowed, few_by_rows, plain_runs_lem, prepared_runs, plain_run_length}
use Rattle.stripe.proofs.Places.{place_lt, place_column, place_byte, place_split, place_column_lt, place_byte_lt, column_inside}
use Rattle.lanes.proofs.Parts.{part_length, part_at, back_length, back_inside, back_outside}
use Rattle.plan.specs.declared.Kind.{Kind}
use Rattle.plan.specs.declared.Kind.TheVariants.{A, B, C}
use Rattle.plan.specs.Plan.{fold_refusal, kind_of, bytes_each}
use Rattle.plan.proofs.Foldable.{IsA, IsB, IsC, foldable, new_kinds, tests_passed}
use Rattle.plan.proofs.Counted.{runs_sum}
use Rattle.fold.specs.declared.shares.Share.{Share}
use Rattle.fold.specs.declared.shares.Share.TheVariants.{Read, Row, Both}
use Rattle.fold.specs.Fold.{part_bytes, read_parity, read_row, run_share, share}
use Rattle.fold.proofs.Prepared.{run_whole, each_is}
use Rattle.fold.proofs.Laws.{share_a, share_b}
use Rattle.fold.specs.Shares.{ReadsParity, IsRows, share_at, Within, stays, Summed, share_of, taken}

-- a fold that reads parity is of kind A or B
pub reads_kinds : (s : Shape) (f : ℕ) → ReadsParity s f → IsA s f ⊎ IsB s f
reads_kinds s f h = go (new_kinds s f h.shape h.new)
  where
    go : IsA s f ⊎ (IsB s f ⊎ IsC s f) → IsA s f ⊎ IsB s f
    go (inl x) = inl x
    go (inr (inl x)) = inr x
    go (inr (inr x)) = absurd (h.kind x.kind)

pub reads_parity : (s : Shape) (n f : ℕ) → fold_refusal s n f ≡ 0 → by_points s ≡ false → (kind_of s f ≡ C → ⊥) → ReadsParity s f
reads_parity s n f passed rows h =
    let p = tests_passed s n f passed in record { shape = p.0; new = p.1.1; rows = rows; kind = h }

-- kind B is by rows
pub marked_by_rows : (s : Shape) (n f : ℕ) → fold_refusal s n f ≡ 0 → kind_of s f ≡ B → by_points s ≡ false
marked_by_rows s n f passed kind = go (foldable s n f passed).kinds
  where
    go : IsA s f ⊎ (IsB s f ⊎ IsC s f) → by_points s ≡ false
    go (inl h) = absurd (let e = sym h.kind ∙ kind in let z : ◌≡◌ {A = ℕ} 0 1 = cc in omega arith)
    go (inr (inl h)) = few_by_rows s (let g = h.prepared in omega (arith, g.gains, g.mark_most))
    go (inr (inr h)) = absurd (let e = sym h.kind ∙ kind in let z : ◌≡◌ {A = ℕ} 0 1 = cc in omega arith)

next_run : (b t q l : ℕ) → b < t → t * q ≡ l → b * q + q ≤ l
next_run b t q l h e = omega (arith, mul-le-mul_right q h)

rest_run : (b r t q : ℕ) → r ≤ b → b < t → (b - r) * q + q ≤ (t - r) * q
rest_run b r t q lo h = let g : b - r < t - r = omega arith in omega (arith, mul-le-mul_right q g)

-- ---- kind A: a run is a whole column

module _ (s : Shape) (f j b : ℕ) (plain : s.t ≡ 0) where
  a_share : share_of s j b ≡ Read (j * s.l)
  unfolding share_of
  a_share = simp (eq-eqb s.t 0 plain)

  a_within : (n : ℕ) → j < f → Within (share_of s j b) (run_length s) (bytes_each A s f) n
  unfolding Within bytes_each
  a_within n hj =
      subst (λ (σ : Share). Within σ (run_length s) (f * s.l) n) (sym a_share)
      (subst (λ (q : ℕ). j * s.l + q ≤ f * s.l) (sym (plain_run_length s plain)) (column_inside j f s.l hj))

  a_same : (xs rs : List ℕ) (e : ℕ) → b < runs s → share_at (share_of s j b) xs rs e ≡ share A s xs j (b * run_length s + e)
  unfolding share_at
  a_same xs rs e hb =
      ap (λ (σ : Share). share_at σ xs rs e) a_share
      ∙ ap (λ (p : ℕ). get_or xs (j * s.l + p) 0) (sym (ap (λ (x : ℕ). x * run_length s + e) none ∙ omega arith))
      ∙ sym (share_a s xs j (b * run_length s + e))
    where
      none : b ≡ 0
      none = omega (arith, plain_runs_lem s plain)

-- ---- kind B: the run and the row decide

module _ (s : Shape) (f j b : ℕ) (a : Allowed s) (h : Prepared s) (marked : s.t ≡ f) (hj : j < f) (hb : b < runs s) where
  marked_not : s.t ≡ 0 → ⊥
  marked_not e = let g = h.gains in omega arith

  bt : b < s.t
  bt = subst (λ (x : ℕ). b < x) (prepared_runs s (let g = h.gains in omega arith)) hb

  jt : j < s.t
  jt = omega arith

  whole : s.t * run_length s ≡ s.l
  whole = run_whole s h a

  from_parity : plain_runs s ≤ b → share_of s j b ≡ Row (j * part_bytes s + (b - s.r) * run_length s)
  unfolding share_of
  from_parity gb = simp (ne_eqb s.t 0 marked_not, le-ltb b (plain_runs s) gb)

  below_below : b < plain_runs s → j < s.r → share_of s j b ≡ Read (s.k * part_bytes s + (j * s.l + b * run_length s))
  unfolding share_of
  below_below lb lj = simp (ne_eqb s.t 0 marked_not, lt-ltb b (plain_runs s) lb, lt-ltb j s.r lj)

  below_from : b < plain_runs s → s.r ≤ j
      → share_of s j b ≡ Both (s.k * part_bytes s + (b * s.l + j * run_length s)) (b * part_bytes s + (j - s.r) * run_length s)
  unfolding share_of
  below_from lb gj = simp (ne_eqb s.t 0 marked_not, lt-ltb b (plain_runs s) lb, le-ltb j s.r gj)

  in_parity : (i c : ℕ) → i < s.r → c < s.t → s.k * part_bytes s + (i * s.l + c * run_length s) + run_length s ≤ bytes_each B s f
  in_parity i c hi hc =
      omega (
        arith,
        each_is s h f,
        runs_sum s.k s.r s.t (run_length s) s.l whole,
        next_run c s.t (run_length s) s.l hc whole,
        column_inside i s.r s.l hi,
      )

  in_rows : (i c : ℕ) → i < f → s.r ≤ c → c < s.t → i * part_bytes s + (c - s.r) * run_length s + run_length s ≤ f * part_bytes s
  in_rows i c hi lo hc = omega (arith, rest_run c s.r s.t (run_length s) lo hc, column_inside i f (part_bytes s) hi)

  b_within : Within (share_of s j b) (run_length s) (bytes_each B s f) (f * part_bytes s)
  unfolding Within
  b_within = go (below_or_from b (plain_runs s)) (below_or_from j s.r)
    where
      by : (σ : Share) → share_of s j b ≡ σ → Within σ (run_length s) (bytes_each B s f) (f * part_bytes s)
          → Within (share_of s j b) (run_length s) (bytes_each B s f) (f * part_bytes s)
      by σ e w = subst (λ (τ : Share). Within τ (run_length s) (bytes_each B s f) (f * part_bytes s)) (sym e) w

      go : (b < plain_runs s) ⊎ (plain_runs s ≤ b) → (j < s.r) ⊎ (s.r ≤ j) → Within (share_of s j b) (run_length s) (bytes_each B s f) (f * part_bytes s)
      go (inl lb) (inl lj) = by _ (below_below lb lj) (in_parity j b lj bt)
      go (inl lb) (inr gj) = by _ (below_from lb gj) (in_parity b j lb jt, in_rows b j (omega arith) gj jt)
      go (inr gb) w = by _ (from_parity gb) (in_rows j b hj gb bt)

  module _ (xs rs : List ℕ) (e : ℕ) (he : e < run_length s) (rows : IsRows s f xs rs) where
    stored : (x y z : ℕ) → get_or xs (x + (y + z) + e) 0 ≡ get_or xs (x + (y + (z + e))) 0
    stored x y z = ap (λ (i : ℕ). get_or xs i 0) (omega arith)

    row_stored : (i c : ℕ) → i < f → s.r ≤ c → c < s.t → get_or rs (i * part_bytes s + (c - s.r) * run_length s + e) 0 ≡ read_row s xs i c e
    unfolding read_row
    row_stored i c hi lo hc =
        ap (λ (x : ℕ). get_or rs x 0) (omega arith)
        ∙ rows.at i ((c - s.r) * run_length s + e) hi (omega (arith, he, rest_run c s.r s.t (run_length s) lo hc))

    run_same : share_at (share_of s j b) xs rs e ≡ run_share s xs j b e
    unfolding run_share read_parity share_at
    run_same = go (below_or_from b (plain_runs s)) (below_or_from j s.r)
      where
        go : (b < plain_runs s) ⊎ (plain_runs s ≤ b) → (j < s.r) ⊎ (s.r ≤ j) → share_at (share_of s j b) xs rs e ≡ run_share s xs j b e
        go (inl lb) (inl lj) =
            ap (λ (σ : Share). share_at σ xs rs e) (below_below lb lj)
            ∙ simp (lt-ltb b (plain_runs s) lb, lt-ltb j s.r lj) (stored (s.k * part_bytes s) (j * s.l) (b * run_length s))
        go (inl lb) (inr gj) =
            ap (λ (σ : Share). share_at σ xs rs e) (below_from lb gj)
            ∙ simp (lt-ltb b (plain_runs s) lb, le-ltb j s.r gj)
            (ap₂ ◌⊕◌ (stored (s.k * part_bytes s) (b * s.l) (j * run_length s)) (row_stored b j (omega arith) gj jt))
        go (inr gb) w =
            ap (λ (σ : Share). share_at σ xs rs e) (from_parity gb) ∙ simp (le-ltb b (plain_runs s) gb) (row_stored j b hj gb bt)

    b_same : share_at (share_of s j b) xs rs e ≡ share B s xs j (b * run_length s + e)
    b_same =
        run_same
        ∙ sym (share_b s xs j (b * run_length s + e)
        ∙ ap₂ (run_share s xs j) (place_column b he) (place_byte b he))

-- ---- both kinds

module _ (s : Shape) (f : ℕ) (reads : ReadsParity s f) where
  good : Allowed s
  good = allowed s reads.shape

  pub share_within : (j b : ℕ) → j < f → b < runs s → Within (share_of s j b) (run_length s) (bytes_each (kind_of s f) s f) (f * part_bytes s)
  share_within j b hj hb = go (reads_kinds s f reads)
    where
      go : IsA s f ⊎ IsB s f → Within (share_of s j b) (run_length s) (bytes_each (kind_of s f) s f) (f * part_bytes s)
      go (inl h) =
          subst (λ (κ : Kind). Within (share_of s j b) (run_length s) (bytes_each κ s f) (f * part_bytes s)) (sym h.kind)
          (a_within s f j b h.plain (f * part_bytes s) hj)
      go (inr h) =
          subst (λ (κ : Kind). Within (share_of s j b) (run_length s) (bytes_each κ s f) (f * part_bytes s)) (sym h.kind)
          (b_within s f j b good h.prepared h.marked hj hb)

  share_same : (j b e : ℕ) (xs rs : List ℕ) → j < f → b < runs s → e < run_length s → IsRows s f xs rs
      → share_at (share_of s j b) xs rs e ≡ share (kind_of s f) s xs j (b * run_length s + e)
  share_same j b e xs rs hj hb he rows = go (reads_kinds s f reads)
    where
      go : IsA s f ⊎ IsB s f → share_at (share_of s j b) xs rs e ≡ share (kind_of s f) s xs j (b * run_length s + e)
      go (inl h) =
          subst (λ (κ : Kind). share_at (share_of s j b) xs rs e ≡ share κ s xs j (b * run_length s + e)) (sym h.kind) (a_same s f j b h.plain xs rs e hb)
      go (inr h) =
          subst (λ (κ : Kind). share_at (share_of s j b) xs rs e ≡ share κ s xs j (b * run_length s + e)) (sym h.kind)
          (b_same s f j b good h.prepared h.marked hj hb xs rs e he rows)

-- ---- run by run

-- after the i first runs: they are taken in, and the others are as they were
pub record TakenTo (s : Shape) (f : ℕ) (first : Bool) (xs ys zs : List ℕ) (i : ℕ) : Type 0 where
  pub long : length zs ≡ f * s.l
  pub below : (x : ℕ) → x < i * run_length s → get_or zs x 0 ≡ get_or (taken s f first xs ys) x 0
  pub above : (x : ℕ) → i * run_length s ≤ x → get_or zs x 0 ≡ get_or ys x 0

module _ (s : Shape) (f : ℕ) (reads : ReadsParity s f) (first : Bool) (xs rs ys : List ℕ) (rows : IsRows s f xs rs) where
  abbrev R : ℕ
  R = runs s

  abbrev Q : ℕ
  Q = run_length s

  whole_cut : R * Q ≡ s.l
  whole_cut = (good s f reads).cut

  all_cut : f * s.l ≡ f * R * Q
  all_cut = ap (λ (y : ℕ). f * y) (sym whole_cut) ∙ sym (mul_assoc f R Q)

  run_place : (i e : ℕ) → i * Q + e ≡ i / R * s.l + (i % R * Q + e)
  run_place i e =
      let x : i / R * s.l ≡ i / R * R * Q = ap (λ (y : ℕ). i / R * y) (sym whole_cut) ∙ sym (mul_assoc (i / R) R Q) in
      let y : i * Q ≡ i / R * R * Q + i % R * Q = ap (λ (z : ℕ). z * Q) (sym (place_split i R)) ∙ add-mul (i / R * R) (i % R) Q in
      omega (arith, x, y)

  run_in : (i len : ℕ) → i < f * R → len ≡ f * s.l → i * Q + Q ≤ len
  run_in i len h e = omega (arith, all_cut, mul-le-mul_right Q h)

  -- what is taken in at place e of run i
  taken_at : (i e : ℕ) → i < f * R → e < Q
      → get_or (taken s f first xs ys) (i * Q + e) 0 ≡ stays first (i / R * s.k) (get_or ys (i * Q + e) 0) ⊕ share_at (share_of s (i / R) (i % R)) xs rs e
  unfolding taken
  taken_at i e h he =
      tabulate_at (f * s.l) _ (i * Q + e) (omega (arith, run_in i (f * s.l) h refl))
      ∙ ap₂ (λ (j p : ℕ). stays first (j * s.k) (get_or ys (i * Q + e) 0) ⊕ share (kind_of s f) s xs j p)
      (ap (λ (x : ℕ). x / s.l) (run_place i e) ∙ place_column (i / R) inside)
      (ap (λ (x : ℕ). x % s.l) (run_place i e) ∙ place_byte (i / R) inside)
      ∙ ap (λ (v : ℕ). stays first (i / R * s.k) (get_or ys (i * Q + e) 0) ⊕ v)
      (sym (share_same s f reads (i / R) (i % R) e xs rs (place_column_lt i f R h) (place_byte_lt i f R h) he rows))
    where
      inside : i % R * Q + e < s.l
      inside = subst (λ (x : ℕ). i % R * Q + e < x) whole_cut (place_lt (place_byte_lt i f R h) he)

  pub take_start : length ys ≡ f * s.l → TakenTo s f first xs ys ys 0
  take_start e = record { long = e; below = λ x h. absurd (omega arith); above = λ x h. refl }

  take_turn : (zs ws : List ℕ) (i : ℕ) → i < f * R → TakenTo s f first xs ys zs i
      → Summed first (i / R * s.k) (share_at (share_of s (i / R) (i % R)) xs rs) (take (i * Q + Q - i * Q) (drop (i * Q) zs)) ws
      → TakenTo s f first xs ys (put_mid (i * Q) (i * Q + Q - i * Q) zs ws) (i + 1)
  take_turn zs ws i h w v =
      record {
        long = back_length zs ws (i * Q) Q ws_long room ∙ w.long;
        below = λ x l. go x l (below_or_from x (i * Q));
        above = λ x l. back_outside zs ws (i * Q) Q ws_long room x (inr (omega arith)) ∙ w.above x (omega arith);
      }
    where
      room : i * Q + Q ≤ length zs
      room = run_in i (length zs) h w.long

      part_long : length (take (i * Q + Q - i * Q) (drop (i * Q) zs)) ≡ Q
      part_long = part_length zs (i * Q) Q room

      ws_long : length ws ≡ Q
      ws_long = v.long ∙ part_long

      inside : (e : ℕ) → e < Q → get_or (put_mid (i * Q) (i * Q + Q - i * Q) zs ws) (i * Q + e) 0 ≡ get_or (taken s f first xs ys) (i * Q + e) 0
      inside e l =
          back_inside zs ws (i * Q) Q ws_long room e l ∙ v.at e (omega (arith, part_long))
          ∙ ap (λ (x : ℕ). stays first (i / R * s.k) x ⊕ share_at (share_of s (i / R) (i % R)) xs rs e)
          (part_at zs (i * Q) Q e l ∙ w.above (i * Q + e) (omega arith))
          ∙ sym (taken_at i e h l)

      go : (x : ℕ) → x < (i + 1) * Q → (x < i * Q) ⊎ (i * Q ≤ x) → get_or (put_mid (i * Q) (i * Q + Q - i * Q) zs ws) x 0 ≡ get_or (taken s f first xs ys) x 0
      go x l (inl g) = back_outside zs ws (i * Q) Q ws_long room x (inl g) ∙ w.below x g
      go x l (inr g) =
          let y : i * Q + (x - i * Q) ≡ x = omega arith in
          subst (λ (o : ℕ). get_or (put_mid (i * Q) (i * Q + Q - i * Q) zs ws) o 0 ≡ get_or (taken s f first xs ys) o 0) y (inside (x - i * Q) (omega arith))

  pub take_done : (zs : List ℕ) (i : ℕ) → f * R ≤ i → TakenTo s f first xs ys zs i → zs ≡ taken s f first xs ys
  unfolding taken
  take_done zs i h w =
      ext_get_or 0 zs (taken s f first xs ys) (w.long ∙ sym (tabulate-length (f * s.l) _))
      (λ x l. w.below x (omega (arith, all_cut, w.long, mul-le-mul_right Q h)))

  -- the same, of numbers that are those of the definitions
  module _ (cut q : ℕ) (cut-is : cut ≡ R) (q-is : q ≡ Q) (i : ℕ) (under : i < f * cut) where
    under_R : i < f * R
    under_R = subst (λ (x : ℕ). i < f * x) cut-is under

    pub row_lt : i / cut < f
    row_lt = subst (λ (x : ℕ). i / x < f) (sym cut-is) (place_column_lt i f R under_R)

    pub number_lt : i % cut < most_rows
    number_lt = subst (λ (x : ℕ). i % x < most_rows) (sym cut-is) (let g = (good s f reads).runs_most in omega (arith, place_byte_lt i f R under_R))

    pub cut_in : (len : ℕ) → len ≡ f * s.l → i * q + q ≤ len
    cut_in len e = subst (λ (x : ℕ). i * x + x ≤ len) (sym q-is) (run_in i len under_R e)

    pub cut_within : (σ : Share) (p m n : ℕ) → σ ≡ share_of s (i / cut) (i % cut) → p ≡ q → m ≡ bytes_each (kind_of s f) s f → n ≡ f * part_bytes s
        → Within σ p m n
    cut_within σ p m n e pe me ne =
        subst (λ (x : Share). Within x p m n) (sym (e ∙ ap₂ (share_of s) (ap (λ (x : ℕ). i / x) cut-is) (ap (λ (x : ℕ). i % x) cut-is)))
        (subst (λ (x : ℕ). Within (share_of s (i / R) (i % R)) x m n) (sym (pe ∙ q-is))
        (subst (λ (x : ℕ). Within (share_of s (i / R) (i % R)) Q x n) (sym me)
        (subst (λ (x : ℕ). Within (share_of s (i / R) (i % R)) Q (bytes_each (kind_of s f) s f) x) (sym ne)
        (share_within s f reads (i / R) (i % R) (place_column_lt i f R under_R) (place_byte_lt i f R under_R)))))

    abbrev Turn : List ℕ → List ℕ → ℕ → ℕ → Share → Type 0
    Turn zs ws c p σ =
        Summed first (i / c * s.k) (share_at σ xs rs) (take (i * p + p - i * p) (drop (i * p) zs)) ws
        → TakenTo s f first xs ys (put_mid (i * p) (i * p + p - i * p) zs ws) (i + 1)

    pub cut_turn : (zs ws : List ℕ) (σ : Share) → σ ≡ share_of s (i / cut) (i % cut) → TakenTo s f first xs ys zs i → Turn zs ws cut q σ
    cut_turn zs ws σ e w =
        subst (λ (x : Share). Turn zs ws cut q x) (sym e)
        (subst (λ (x : ℕ). Turn zs ws cut x (share_of s (i / cut) (i % cut))) (sym q-is)
        (subst (λ (x : ℕ). Turn zs ws x Q (share_of s (i / x) (i % x))) (sym cut-is) (take_turn zs ws i under_R w)))
