-- By rows, what a stripe adds to the wide stripe is the row of its own data plus the disagreement that the fold carries on, for all bytes.
use mathlib.Core.Path.{◌≡◌, sym, ap, ap₂, ◌∙◌, subst}
use mathlib.Core.Bool.{false}
use mathlib.Core.List.{List}
use mathlib.Core.Logic.{◌⊎◌, inl, inr}
use Prim.Native.Nat.{ℕ, ◌+◌, ◌-◌, ◌*◌, ◌/◌, ◌%◌, ◌<◌, ◌≤◌}
use native.Mathlib.Nat.{add-mul, mod-lt}
use native.Mathlib.Omega.{arith}
use lib.ListN.{length, get_or}
use lib.Seq.{ext_get_or}
use borrow.Author.Tests.{lt-ltb, le-ltb}
use Rattle.field.specs.Field.{◌⊕◌}
use Rattle.field.specs.Row.{row}
use Rattle.field.proofs.Xor.{add-zero, sums}
use Rattle.field.proofs.Cases.{below_or_from}
use Rattle.stripe.specs.declared.Shape.{Shape}
use Rattle.stripe.specs.Shape.{stripe_length}
use Rattle.stripe.specs.Stripe.{across, row_at, run_length, by_points, data_of, plain_runs}
use Rattle.stripe.proofs.Allowed.{Allowed, Prepared}
use Rattle.stripe.proofs.Places.{place_lt, place_column, place_byte, place_split, place_column_lt, across-length, across_first, row_at_stripe, parity_below}
use Rattle.stripe.proofs.Places.{parity_from, plain_parity}
use Rattle.plan.specs.declared.Kind.{Kind}
use Rattle.plan.specs.declared.Kind.TheVariants.{A, B, C}
use Rattle.plan.specs.Plan.{kind_of}
use Rattle.fold.specs.Fold.{part_bytes, read_parity, read_row, run_share, share, read_of, disagreement, run_carried, carried}
use Rattle.plan.proofs.Foldable.{IsA, IsB, IsC}
use Rattle.fold.proofs.Prepared.{run_whole}
use Rattle.fold.proofs.Laws.{share_a, share_b, share_c}
use Rattle.fold.proofs.Cut.{a_at, b_data_at, b_parity_at, c_at}

-- bytes read across columns of other lengths
across_same : (xs ys : List ℕ) (l p l' p' m : ℕ) → ((i : ℕ) → i < m → get_or xs (i * l + p) 0 ≡ get_or ys (i * l' + p') 0)
    → across xs l p 0 m ≡ across ys l' p' 0 m
across_same xs ys l p l' p' m h =
    ext_get_or 0 _ _ (across-length xs l p 0 m ∙ sym (across-length ys l' p' 0 m))
    (λ i k. at i (subst (λ (z : ℕ). i < z) (across-length xs l p 0 m) k))
  where
    at : (i : ℕ) → i < m → get_or (across xs l p 0 m) i 0 ≡ get_or (across ys l' p' 0 m) i 0
    at i k = across_first xs l p m i k ∙ h i k ∙ sym (across_first ys l' p' m i k)

-- what a byte is beside the byte by definition
apart : (x y : ℕ) → x ≡ y ⊕ (x ⊕ y)
apart x y = simp sums

apart_two : (x a b : ℕ) → x ⊕ a ≡ b ⊕ (x ⊕ (a ⊕ b))
apart_two x a b = simp sums

module _ (s : Shape) (zs : List ℕ) (a : Allowed s) (rows : by_points s ≡ false) (long : length zs ≡ stripe_length s) where
  abbrev ds : List ℕ
  ds = data_of s zs

  -- kind A
  a_share : (f j p : ℕ) → IsA s f → j < f → p < s.l → share A s (read_of A s f zs) j p ≡ row_at s ds j p ⊕ carried A s zs j p
  unfolding carried disagreement
  a_share f j p h hj hp =
      share_a s (read_of A s f zs) j p ∙ a_at s zs long f h.enough j p hj hp
      ∙ apart (get_or zs ((s.k + j) * s.l + p) 0) (row_at s ds j p)
      ∙ ap (λ (x : ℕ). row_at s ds j p ⊕ (get_or zs ((s.k + j) * s.l + p) 0 ⊕ x)) (sym (plain_parity s ds j p a rows h.plain hp))

  -- kind C
  c_share : (f j p : ℕ) → p < s.l → share C s (read_of C s f zs) j p ≡ row_at s ds j p ⊕ carried C s zs j p
  unfolding carried
  c_share f j p hp =
      share_c s (read_of C s f zs) j p
      ∙ ap (row j) (across_same (read_of C s f zs) zs s.l p s.l p s.k (λ i k. c_at s zs long f i p k hp))
      ∙ sym (row_at_stripe s zs j p hp) ∙ sym (add-zero (row_at s ds j p))

  -- kind B
  module _ (f : ℕ) (h : Prepared s) where
    abbrev q : ℕ
    q = run_length s

    whole : s.t * q ≡ s.l
    whole = run_whole s h a

    place_in : (b e : ℕ) → b < s.t → e < q → b * q + e < s.l
    place_in b e hb he = subst (λ (x : ℕ). b * q + e < x) whole (place_lt hb he)

    run_of : (b e : ℕ) → e < q → (b * q + e) / run_length s ≡ b
    run_of b e he = place_column b he

    in_run : (b e : ℕ) → e < q → (b * q + e) % run_length s ≡ e
    in_run b e he = place_byte b he

    -- the parity columns read
    parity_read : (i p : ℕ) → i < s.r → p < s.l → read_parity s (read_of B s f zs) i p ≡ get_or zs ((s.k + i) * s.l + p) 0
    unfolding read_parity
    parity_read i p hi hp = b_parity_at s zs long f h whole i p hi hp

    -- the rows of the runs read
    row_read : (i b e : ℕ) → plain_runs s ≤ b → b < s.t → e < q → read_row s (read_of B s f zs) i b e ≡ row_at s ds i (b * q + e)
    unfolding read_row
    row_read i b e lo hb he =
        ap (row i)
        (across_same (read_of B s f zs) zs (part_bytes s) ((b - s.r) * q + e) s.l (b * q + e) s.k
        (λ c k. b_data_at s zs long f h whole c ((b - s.r) * q + e) k (place_lt {c = b - s.r} {n = s.t - s.r} (omega arith) he)
        ∙ ap (λ (x : ℕ). get_or zs (c * s.l + x) 0) places))
        ∙ sym (row_at_stripe s zs i (b * q + e) (place_in b e hb he))
      where
        sum : s.r * q + (b - s.r) * q ≡ b * q
        sum = sym (add-mul s.r (b - s.r) q) ∙ ap (λ (x : ℕ). x * q) (omega arith)

        places : s.r * q + ((b - s.r) * q + e) ≡ b * q + e
        places = omega (arith, sum)

    run_share_lem : (j b e : ℕ) → j < s.t → b < s.t → e < q → run_share s (read_of B s f zs) j b e ≡ row_at s ds j (b * q + e) ⊕ run_carried s zs j b e
    unfolding run_share run_carried disagreement
    run_share_lem j b e hj hb he = go (below_or_from b (plain_runs s)) (below_or_from j s.r)
      where
        go : (b < plain_runs s) ⊎ (plain_runs s ≤ b) → (j < s.r) ⊎ (s.r ≤ j)
            → run_share s (read_of B s f zs) j b e ≡ row_at s ds j (b * q + e) ⊕ run_carried s zs j b e
        go (inl lb) (inl lj) =
            simp (lt-ltb b (plain_runs s) lb, lt-ltb j s.r lj)
            (parity_read j (b * q + e) lj (place_in b e hb he)
            ∙ apart (get_or zs ((s.k + j) * s.l + (b * q + e)) 0) (row_at s ds j (b * q + e))
            ∙ ap (λ (x : ℕ). row_at s ds j (b * q + e) ⊕ (get_or zs ((s.k + j) * s.l + (b * q + e)) 0 ⊕ x))
            (sym (parity_below s ds j (b * q + e) rows (subst (λ (x : ℕ). x < s.r) (sym (run_of b e he)) lb))))
        go (inl lb) (inr gj) =
            simp (lt-ltb b (plain_runs s) lb, le-ltb j s.r gj)
            (ap₂ ◌⊕◌ (parity_read b (j * q + e) lb (place_in j e hj he)) (row_read b j e gj hj he)
            ∙ apart_two (get_or zs ((s.k + b) * s.l + (j * q + e)) 0) (row_at s ds b (j * q + e)) (row_at s ds j (b * q + e))
            ∙ ap (λ (x : ℕ). row_at s ds j (b * q + e) ⊕ (get_or zs ((s.k + b) * s.l + (j * q + e)) 0 ⊕ x))
            (sym (parity_from s ds b (j * q + e) rows (subst (λ (x : ℕ). s.r ≤ x) (sym (run_of j e he)) gj)
            ∙ ap₂ (λ (x y : ℕ). row_at s ds b (j * q + e) ⊕ row_at s ds x y) (run_of j e he)
            (ap (λ (y : ℕ). b * q + y) (in_run j e he)))))
        go (inr gb) w = simp (le-ltb b (plain_runs s) gb) (row_read j b e gb hb he ∙ sym (add-zero (row_at s ds j (b * q + e))))

    b_share : (j p : ℕ) → j < s.t → p < s.l → share B s (read_of B s f zs) j p ≡ row_at s ds j p ⊕ carried B s zs j p
    unfolding carried
    b_share j p hj hp =
        share_b s (read_of B s f zs) j p
        ∙ run_share_lem j (p / q) (p % q) hj (place_column_lt p s.t q (subst (λ (x : ℕ). p < x) (sym whole) hp)) (mod-lt p a.run_some)
        ∙ ap (λ (x : ℕ). row_at s ds j x ⊕ run_carried s zs j (p / q) (p % q)) (place_split p q)

  -- all kinds
  pub shared : (f j p : ℕ) → IsA s f ⊎ (IsB s f ⊎ IsC s f) → j < f → p < s.l
      → share (kind_of s f) s (read_of (kind_of s f) s f zs) j p ≡ row_at s ds j p ⊕ carried (kind_of s f) s zs j p
  shared f j p (inl h) hj hp =
      subst (λ (κ : Kind). share κ s (read_of κ s f zs) j p ≡ row_at s ds j p ⊕ carried κ s zs j p) (sym h.kind) (a_share f j p h hj hp)
  shared f j p (inr (inl h)) hj hp =
      subst (λ (κ : Kind). share κ s (read_of κ s f zs) j p ≡ row_at s ds j p ⊕ carried κ s zs j p) (sym h.kind)
      (b_share f h.prepared j p (subst (λ (x : ℕ). j < x) (sym h.marked) hj) hp)
  shared f j p (inr (inr h)) hj hp =
      subst (λ (κ : Kind). share κ s (read_of κ s f zs) j p ≡ row_at s ds j p ⊕ carried κ s zs j p) (sym h.kind) (c_share f j p hp)
