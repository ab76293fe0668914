-- What the plan names of whole stripes is, stripe by stripe, what the fold takes its input for: a stretch of columns cut out of a
-- stripe has its bytes at known places, and stripes follow each other.
use mathlib.Core.Path.{◌≡◌, refl, sym, ap, ap₂, ◌∙◌, subst}
use mathlib.Core.Bool.{Bool, cond}
use mathlib.Core.List.{List, [], ◌∷◌, ◌++◌, map, append_assoc}
use mathlib.Core.Logic.{◌⊎◌, inl, inr}
use Prim.Native.Nat.{ℕ, zero, suc, ◌+◌, ◌-◌, ◌*◌, ◌<◌, ◌≤◌}
use native.Mathlib.Nat.{zero-mul, add-mul, mul-le-mul_right, not-suc-le-zero, le_of_suc-le-suc}
use native.Mathlib.Omega.{arith}
use native.Mathlib.Numerals.{add-one}
use lib.ListN.{length, get_or, take, drop, length-append, length-take, length-drop, get_or-append, length-map}
use lib.Seq.{get_or-take, get_or-drop, get_or-append-add, get_or_at}
use borrow.Author.Tests.{eq-eqb}
use Rattle.stripe.specs.declared.Shape.{Shape}
use Rattle.stripe.specs.Shape.{data_length, stripe_length}
use Rattle.stripe.specs.Stripe.{run_length, data_of, parity_of}
use Rattle.stripe.proofs.Allowed.{Allowed, Prepared}
use Rattle.stripe.proofs.Places.{place_lt, by_places, parity_of_at, parity_of-length, data_of-length}
use Rattle.plan.specs.declared.Span.{Span}
use Rattle.plan.specs.declared.Kind.{Kind}
use Rattle.plan.specs.declared.Kind.TheVariants.{A, B, C}
use Rattle.plan.specs.Plan.{kind_of, fold_refusal, column_spans, kind_spans, spans_from, plan, bytes_each, bytes_read}
use Rattle.fold.specs.Fold.{part_bytes, named, cut_out, read_of}
use Rattle.points.specs.Folding.{parts, joined}
use Rattle.points.proofs.Joined.{joined_length, parts_joined, get_or_mapped}
use Rattle.plan.proofs.Foldable.{IsA, IsB, IsC, Foldable, foldable}
use Rattle.fold.proofs.Prepared.{run_is, run_whole, each_is}
use Rattle.plan.proofs.Counted.{runs_sum}
use Rattle.plan.proofs.Costs.{bytes_read_lem}

-- ---- spans one after the other, and the stripe that they name

pub cut_append : (s : Shape) (zss : List (List ℕ)) (xs ys : List Span) → cut_out s zss (xs ++ ys) ≡ cut_out s zss xs ++ cut_out s zss ys
unfolding cut_out
cut_append s zss [] ys = refl
cut_append s zss (x ∷ xs) ys =
    ap (λ (l : List ℕ). named s zss x ++ l) (cut_append s zss xs ys) ∙ sym (append_assoc (named s zss x) _ _)

columns_alone : (s : Shape) (zss : List (List ℕ)) (n a m c k : ℕ)
    → cut_out s zss (column_spans n a m c k) ≡ cut_out s (get_or zss n [] ∷ []) (column_spans 0 a m c k)
unfolding cut_out named column_spans
columns_alone s zss n a m c zero = refl
columns_alone s zss n a m c (suc k) =
    ap (λ (l : List ℕ). take m (drop (c * s.l + a) (get_or zss n [])) ++ l) (columns_alone s zss n a m (suc c) k)

alone : (κ : Kind) (s : Shape) (f : ℕ) (zss : List (List ℕ)) (n : ℕ) → cut_out s zss (kind_spans κ s f n) ≡ read_of κ s f (get_or zss n [])
unfolding kind_spans read_of
alone A s f zss n = columns_alone s zss n 0 s.l s.k f
alone B s f zss n =
    cut_append s zss (column_spans n _ _ 0 s.k) _
    ∙ ap₂ ◌++◌ (columns_alone s zss n _ _ 0 s.k) (columns_alone s zss n _ _ s.k s.r)
    ∙ sym (cut_append s (get_or zss n [] ∷ []) (column_spans 0 _ _ 0 s.k) _)
alone C s f zss n = columns_alone s zss n 0 s.l 0 s.k

-- the stripes us that follow the stripes ws
cut_from : (s : Shape) (f : ℕ) (ws us : List (List ℕ)) (n : ℕ) → length ws ≡ n
    → cut_out s (ws ++ us) (spans_from s f n (length us)) ≡ joined (map (read_of (kind_of s f) s f) us)
unfolding spans_from cut_out joined
cut_from s f ws [] n e = refl
cut_from s f ws (u ∷ us) n e =
    cut_append s (ws ++ u ∷ us) (kind_spans (kind_of s f) s f n) _
    ∙ ap₂ ◌++◌
    (alone (kind_of s f) s f (ws ++ u ∷ us) n ∙ ap (read_of (kind_of s f) s f) (get_or_at ws u us [] n e))
    (ap (λ (l : List (List ℕ)). cut_out s l (spans_from s f (suc n) (length us))) (sym (append_assoc ws (u ∷ []) us))
    ∙ cut_from s f (ws ++ u ∷ []) us (suc n) (length-append ws (u ∷ []) ∙ add-one (length ws) ∙ ap suc e))

-- ---- one stretch of columns

pub at_front : (xs ys : List ℕ) (m i : ℕ) → length xs ≡ m → i < m → get_or (xs ++ ys) i 0 ≡ get_or xs i 0
at_front xs ys m i e h = get_or-append xs ys 0 i (subst (λ (x : ℕ). i < x) (sym e) h)

pub at_rest : (xs ys : List ℕ) (m x i : ℕ) → length xs ≡ m → x ≡ m + i → get_or (xs ++ ys) x 0 ≡ get_or ys i 0
at_rest xs ys m x i e h = ap (λ (y : ℕ). get_or (xs ++ ys) y 0) (h ∙ ap (λ (y : ℕ). y + i) (sym e)) ∙ get_or-append-add xs ys i 0

module _ (s : Shape) (zs : List ℕ) (a m : ℕ) (within : a + m ≤ s.l) where
  head_length : (c : ℕ) → suc c * s.l ≤ length zs → length (take m (drop (c * s.l + a) zs)) ≡ m
  head_length c h = simp (length-take, length-drop) (omega arith)

  pub columns-length : (c k : ℕ) → (c + k) * s.l ≤ length zs → length (cut_out s (zs ∷ []) (column_spans 0 a m c k)) ≡ k * m
  unfolding cut_out named column_spans
  columns-length c zero h = sym (zero-mul m)
  columns-length c (suc k) h =
      length-append (take m (drop (c * s.l + a) zs)) _
      ∙ ap₂ ◌+◌ (head_length c (omega arith)) (columns-length (suc c) k (omega arith)) ∙ omega arith

  pub columns_at : (c k i p : ℕ) → (c + k) * s.l ≤ length zs → i < k → p < m
      → get_or (cut_out s (zs ∷ []) (column_spans 0 a m c k)) (i * m + p) 0 ≡ get_or zs ((c + i) * s.l + (a + p)) 0
  unfolding cut_out named column_spans
  columns_at c zero i p h hi hp = absurd (not-suc-le-zero hi)
  columns_at c (suc k) zero p h hi hp =
      at_front (take m (drop (c * s.l + a) zs)) (cut_out s (zs ∷ []) (column_spans 0 a m (suc c) k)) m (0 * m + p) (head_length c (omega arith)) (omega arith)
      ∙ get_or-take m (drop (c * s.l + a) zs) (0 * m + p) 0 (omega arith)
      ∙ get_or-drop (c * s.l + a) zs (0 * m + p) 0 ∙ ap (λ (x : ℕ). get_or zs x 0) (omega arith)
  columns_at c (suc k) (suc i) p h hi hp =
      at_rest (take m (drop (c * s.l + a) zs)) (cut_out s (zs ∷ []) (column_spans 0 a m (suc c) k)) m (suc i * m + p) (i * m + p) (head_length c (omega arith))
      (omega arith)
      ∙ columns_at (suc c) k i p (omega arith) (le_of_suc-le-suc hi) hp ∙ ap (λ (x : ℕ). get_or zs x 0) (omega arith)

-- ---- what is read of a stripe, by its places

module _ (s : Shape) (zs : List ℕ) (long : length zs ≡ stripe_length s) where
  fits : (c : ℕ) → c ≤ s.k + s.r → c * s.l ≤ length zs
  fits c h = subst (λ (x : ℕ). c * s.l ≤ x) (sym long) (mul-le-mul_right s.l h)

  -- kind A: parity columns, whole
  module _ (f : ℕ) (few : f ≤ s.r) where
    a_length : length (read_of A s f zs) ≡ f * s.l
    unfolding read_of kind_spans
    a_length = columns-length s zs 0 s.l (omega arith) s.k f (fits (s.k + f) (omega arith))

    pub a_at : (j p : ℕ) → j < f → p < s.l → get_or (read_of A s f zs) (j * s.l + p) 0 ≡ get_or zs ((s.k + j) * s.l + p) 0
    unfolding read_of kind_spans
    a_at j p hj hp =
        columns_at s zs 0 s.l (omega arith) s.k f j p (fits (s.k + f) (omega arith)) hj hp
        ∙ ap (λ (x : ℕ). get_or zs x 0) (omega arith)

  -- with f = r they are all of them
  pub a_whole : read_of A s s.r zs ≡ parity_of s zs
  a_whole =
      by_places s.r s.l (read_of A s s.r zs) (parity_of s zs) (a_length s.r (omega arith)) (parity_of-length s zs long)
      (λ j p hj hp. a_at s.r (omega arith) j p hj hp ∙ sym (parity_of_at s zs j p))

  -- kind C: data columns, whole
  module _ (f : ℕ) where
    c_length : length (read_of C s f zs) ≡ s.k * s.l
    unfolding read_of kind_spans
    c_length = columns-length s zs 0 s.l (omega arith) 0 s.k (fits (0 + s.k) (omega arith))

    pub c_at : (i p : ℕ) → i < s.k → p < s.l → get_or (read_of C s f zs) (i * s.l + p) 0 ≡ get_or zs (i * s.l + p) 0
    unfolding read_of kind_spans
    c_at i p hi hp =
        columns_at s zs 0 s.l (omega arith) 0 s.k i p (fits (0 + s.k) (omega arith)) hi hp
        ∙ ap (λ (x : ℕ). get_or zs x 0) (omega arith)

    pub c_whole : read_of C s f zs ≡ data_of s zs
    c_whole =
        by_places s.k s.l (read_of C s f zs) (data_of s zs) c_length (data_of-length s zs long)
        (λ i p hi hp. c_at i p hi hp ∙ sym (get_or-take (data_length s) zs (i * s.l + p) 0 (place_lt hi hp)))

  -- kind B: a part of each data column, then the parity columns
  module _ (f : ℕ) (h : Prepared s) (whole : s.t * run_length s ≡ s.l) where
    abbrev start : ℕ
    start = s.r * run_length s

    abbrev datas : List ℕ
    datas = cut_out s (zs ∷ []) (column_spans 0 start (part_bytes s) 0 s.k)

    abbrev parities : List ℕ
    parities = cut_out s (zs ∷ []) (column_spans 0 0 s.l s.k s.r)

    two : read_of B s f zs ≡ datas ++ parities
    unfolding read_of kind_spans
    two =
        ap (λ (q : ℕ). cut_out s (zs ∷ []) (column_spans 0 (s.r * q) ((s.t - s.r) * q) 0 s.k ++ column_spans 0 0 s.l s.k s.r)) (sym (run_is s h))
        ∙ cut_append s (zs ∷ []) (column_spans 0 start (part_bytes s) 0 s.k) _

    part_within : start + part_bytes s ≤ s.l
    part_within = go h.gains
      where
        go : s.r < s.t → start + part_bytes s ≤ s.l
        go g =
            let e : start + part_bytes s ≡ s.t * run_length s =
            sym (add-mul s.r (s.t - s.r) (run_length s)) ∙ ap (λ (x : ℕ). x * run_length s) (omega arith) in
            omega arith

    datas_length : length datas ≡ s.k * part_bytes s
    datas_length = columns-length s zs start (part_bytes s) part_within 0 s.k (fits (0 + s.k) (omega arith))

    parities-length : length parities ≡ s.r * s.l
    parities-length = columns-length s zs 0 s.l (omega arith) s.k s.r (fits (s.k + s.r) (omega arith))

    b_length : length (read_of B s f zs) ≡ (s.r * s.t + s.k * (s.t - s.r)) * run_length s
    b_length =
        ap length two ∙ length-append datas parities ∙ ap₂ ◌+◌ datas_length parities-length
        ∙ runs_sum s.k s.r s.t (run_length s) s.l whole

    -- the data columns, from their run r on
    pub b_data_at : (i p : ℕ) → i < s.k → p < part_bytes s → get_or (read_of B s f zs) (i * part_bytes s + p) 0 ≡ get_or zs (i * s.l + (start + p)) 0
    b_data_at i p hi hp =
        ap (λ (l : List ℕ). get_or l (i * part_bytes s + p) 0) two
        ∙ at_front datas parities (s.k * part_bytes s) (i * part_bytes s + p) datas_length (place_lt hi hp)
        ∙ columns_at s zs start (part_bytes s) part_within 0 s.k i p (fits (0 + s.k) (omega arith)) hi hp
        ∙ ap (λ (x : ℕ). get_or zs x 0) (ap (λ (x : ℕ). x * s.l + (start + p)) (omega arith))

    -- the parity columns
    pub b_parity_at : (i p : ℕ) → i < s.r → p < s.l → get_or (read_of B s f zs) (s.k * part_bytes s + (i * s.l + p)) 0 ≡ get_or zs ((s.k + i) * s.l + p) 0
    b_parity_at i p hi hp =
        ap (λ (l : List ℕ). get_or l (s.k * part_bytes s + (i * s.l + p)) 0) two
        ∙ at_rest datas parities (s.k * part_bytes s) (s.k * part_bytes s + (i * s.l + p)) (i * s.l + p) datas_length refl
        ∙ columns_at s zs 0 s.l (omega arith) s.k s.r i p (fits (s.k + s.r) (omega arith)) hi hp
        ∙ ap (λ (x : ℕ). get_or zs x 0) (omega arith)

-- the bytes read of a stripe are as many as the table says
pub read_length : (s : Shape) (f : ℕ) (zs : List ℕ) → Allowed s → IsA s f ⊎ (IsB s f ⊎ IsC s f) → length zs ≡ stripe_length s
    → length (read_of (kind_of s f) s f zs) ≡ bytes_each (kind_of s f) s f
unfolding bytes_each
read_length s f zs a (inl h) long =
    subst (λ (κ : Kind). length (read_of κ s f zs) ≡ bytes_each κ s f) (sym h.kind) (a_length s zs long f h.enough)
read_length s f zs a (inr (inl h)) long =
    subst (λ (κ : Kind). length (read_of κ s f zs) ≡ bytes_each κ s f) (sym h.kind)
    (b_length s zs long f h.prepared (run_whole s h.prepared a) ∙ sym (each_is s h.prepared f))
read_length s f zs a (inr (inr h)) long =
    subst (λ (κ : Kind). length (read_of κ s f zs) ≡ bytes_each κ s f) (sym h.kind) (c_length s zs long f)

-- ---- the plan's bytes of whole stripes

module _ (s : Shape) (f : ℕ) (zss : List (List ℕ)) (passed : fold_refusal s (length zss) f ≡ 0)
    (long : (l : ℕ) → l < length zss → length (get_or zss l []) ≡ stripe_length s) where
  abbrev reads : List (List ℕ)
  reads = map (read_of (kind_of s f) s f) zss

  -- what the plan names of the stripes is what it names of each, one after the other
  pub cut_joined : cut_out s zss (plan s (length zss) f) ≡ joined reads
  unfolding plan
  cut_joined =
      ap (λ (b : Bool). cut_out s zss (cond b (spans_from s f 0 (length zss)) [])) (eq-eqb (fold_refusal s (length zss) f) 0 passed)
      ∙ cut_from s f [] zss 0 refl

  reads_long : (l : ℕ) → l < length reads → length (get_or reads l []) ≡ bytes_each (kind_of s f) s f
  reads_long l h =
      let k : l < length zss = subst (λ (x : ℕ). l < x) (length-map zss (read_of (kind_of s f) s f)) h in
      let g : Foldable s (length zss) f = foldable s (length zss) f passed in
      ap length (get_or_mapped (read_of (kind_of s f) s f) [] [] zss l k) ∙ read_length s f (get_or zss l []) g.shape g.kinds (long l k)

  -- the fold takes its input apart into what the plan names of each stripe
  pub cut_parts : parts (bytes_each (kind_of s f) s f) (length zss) (cut_out s zss (plan s (length zss) f)) ≡ reads
  cut_parts =
      ap₂ (parts (bytes_each (kind_of s f) s f)) (sym (length-map zss (read_of (kind_of s f) s f))) cut_joined
      ∙ parts_joined (bytes_each (kind_of s f) s f) reads reads_long

  -- the byte count reported is the length of the fold's input
  pub cut_length : length (cut_out s zss (plan s (length zss) f)) ≡ bytes_read s (length zss) f
  cut_length =
      ap length cut_joined ∙ joined_length (bytes_each (kind_of s f) s f) reads reads_long
      ∙ ap (λ (n : ℕ). n * bytes_each (kind_of s f) s f) (length-map zss (read_of (kind_of s f) s f)) ∙ sym (bytes_read_lem s (length zss) f passed)
