-- What the fold of codewords is: the parity of all their data; and a stripe that is wrong in a byte which the plan names shows in the wide stripe.
-- By rows this follows from the disagreement identity: codewords carry nothing on, and what a stripe holds wrong in a byte that the plan names, it
-- carries on to one place of the wide stripe. By points it follows from the sums of the wide stripe.
use mathlib.Core.Path.{◌≡◌, refl, sym, ap, ap₂, ◌∙◌, subst}
use mathlib.Core.Bool.{Bool, true, false}
use mathlib.Core.List.{List, [], ◌∷◌}
use mathlib.Core.Logic.{◌⊎◌, inl, inr}
use Prim.Native.Nat.{ℕ, zero, suc, ◌+◌, ◌*◌, ◌/◌, ◌%◌, ◌<◌, ◌≤◌}
use native.Mathlib.Nat.{add-mul, mod-lt, not-suc-le-zero}
use native.Mathlib.Omega.{arith}
use lib.Dec.{lit<}
use lib.ListN.{length, get_or, length-append, take-append-drop}
use lib.Seq.{take_at, drop_at}
use borrow.Author.Tests.{lt-ltb, le-ltb}
use Rattle.field.specs.Field.{◌⊕◌, ◌⊗◌, gpow}
use Rattle.field.specs.Bytes.{Bytes}
use Rattle.field.proofs.Xor.{add-lt, add_self, add-zero}
use Rattle.field.proofs.Mul.{mul_pos, gpow-lt, gpow_pos}
use Rattle.field.proofs.Powers.{sum_zero}
use Rattle.field.proofs.Cases.{below_or_from, zero_or_not}
use Rattle.field.proofs.Bytes.{append_bytes, take_bytes, drop_bytes}
use Rattle.stripe.specs.declared.Shape.{Shape}
use Rattle.stripe.specs.Shape.{data_length, stripe_length}
use Rattle.stripe.specs.Stripe.{run_length, by_points, parity_byte, parity, data_of, parity_of, Codeword, plain_runs}
use Rattle.stripe.proofs.Allowed.{Allowed, Prepared, prepared_by_rows}
use Rattle.stripe.proofs.Places.{place_lt, place_column, place_byte, place_split, place_column_lt, parity_exact, parity_byte-lt, parity_bytes}
use Rattle.stripe.proofs.Places.{parity_of_at, parity_of-length, data_of-length}
use Rattle.stripe.proofs.Codewords.{codeword_of, codeword_checks}
use Rattle.plan.specs.declared.Kind.{Kind}
use Rattle.plan.specs.Plan.{kind_of, fold_refusal, plan, wide_shape}
use Rattle.fold.specs.Fold.{fold_of, wide_data, cut_out, wide_stripe, disagreement, parity_named, run_carried, carried}
use Rattle.points.specs.Folding.{joined}
use Rattle.plan.proofs.Foldable.{IsA, IsB, IsC, Foldable, foldable}
use Rattle.fold.proofs.Prepared.{run_whole}
use Rattle.fold.proofs.Laws.{fold_length, fold_bytes}
use Rattle.fold.proofs.Wide.{answer_is, wide_data_lem, wide_answer_lem, wide_data-length, disagreement_sum}
use Rattle.fold.proofs.Encoded.{data_parity}
use Rattle.fold.proofs.Pointed.{columns_parity, stale_shows}
use Rattle.fold.proofs.Sums.{map_none, map-one}

pub codeword_agrees : (s : Shape) (zs : List ℕ) (i p : ℕ) → Codeword s zs → i < s.r → p < s.l → disagreement s zs i p ≡ 0
unfolding disagreement
codeword_agrees s zs i p w hi hp =
    ap (λ (x : ℕ). x ⊕ parity_byte s (data_of s zs) i p) (codeword_checks s zs w i p hi hp) ∙ add_self (parity_byte s (data_of s zs) i p)

disagreement-lt : (s : Shape) (zs : List ℕ) (i p : ℕ) → Bytes zs → disagreement s zs i p < 256
unfolding disagreement
disagreement-lt s zs i p b = add-lt 8 _ _ (b ((s.k + i) * s.l + p)) (parity_byte-lt s (data_of s zs) i p)

-- a stripe of bytes in its data that disagrees nowhere is a codeword
agrees_codeword : (s : Shape) (zs : List ℕ) → Bytes (data_of s zs) → length zs ≡ stripe_length s
    → ((i p : ℕ) → i < s.r → p < s.l → disagreement s zs i p ≡ 0) → Codeword s zs
unfolding disagreement
agrees_codeword s zs b long agrees = codeword_of s zs bytes long exact
  where
    exact : parity_of s zs ≡ parity s (data_of s zs)
    exact =
        parity_exact s (data_of s zs) (parity_of s zs) (parity_of-length s zs long)
        (λ i p hi hp. parity_of_at s zs i p ∙ sum_zero _ _ (agrees i p hi hp))

    bytes : Bytes zs
    bytes =
        subst Bytes (take-append-drop (data_length s) zs)
        (append_bytes (data_of s zs) (parity_of s zs) b (subst Bytes (sym exact) (parity_bytes s (data_of s zs))))

-- ---- where a disagreement is carried to, run by run

module _ (s : Shape) (zs : List ℕ) (j b e : ℕ) where
  carried_low : b < plain_runs s → j < s.r → run_carried s zs j b e ≡ disagreement s zs j (b * run_length s + e)
  unfolding run_carried
  carried_low lb lj = simp (lt-ltb b (plain_runs s) lb, lt-ltb j s.r lj)

  carried_high : b < plain_runs s → s.r ≤ j → run_carried s zs j b e ≡ disagreement s zs b (j * run_length s + e)
  unfolding run_carried
  carried_high lb gj = simp (lt-ltb b (plain_runs s) lb, le-ltb j s.r gj)

  carried_none : plain_runs s ≤ b → run_carried s zs j b e ≡ 0
  unfolding run_carried
  carried_none gb = simp (le-ltb b (plain_runs s) gb)

module _ (s : Shape) (a : Allowed s) (h : Prepared s) where
  abbrev q : ℕ
  q = run_length s

  place_in : (b e : ℕ) → b < s.t → e < q → b * q + e < s.l
  place_in b e hb he = subst (λ (x : ℕ). b * q + e < x) (run_whole s h a) (place_lt hb he)

  run_lt : (p : ℕ) → p < s.l → p / q < s.t
  run_lt p hp = place_column_lt p s.t q (subst (λ (x : ℕ). p < x) (sym (run_whole s h a)) hp)

  in_lt : (p : ℕ) → p % q < q
  in_lt p = mod-lt p a.run_some

  -- what is carried is the disagreement at one of the stripe's places, or nothing
  run_from : (zs : List ℕ) (P : ℕ → Type 0) → P 0 → ((i p : ℕ) → i < s.r → p < s.l → P (disagreement s zs i p))
      → (j p : ℕ) → j < s.t → p < s.l → P (run_carried s zs j (p / q) (p % q))
  run_from zs P none d j p hj hp = go (below_or_from (p / q) (plain_runs s)) (below_or_from j s.r)
    where
      go : (p / q < plain_runs s) ⊎ (plain_runs s ≤ p / q) → (j < s.r) ⊎ (s.r ≤ j) → P (run_carried s zs j (p / q) (p % q))
      go (inl lb) (inl lj) =
          subst P (sym (carried_low s zs j (p / q) (p % q) lb lj)) (d j (p / q * q + p % q) lj (place_in (p / q) (p % q) (run_lt p hp) (in_lt p)))
      go (inl lb) (inr gj) =
          subst P (sym (carried_high s zs j (p / q) (p % q) lb gj)) (d (p / q) (j * q + p % q) lb (place_in j (p % q) hj (in_lt p)))
      go (inr gb) w = subst P (sym (carried_none s zs j (p / q) (p % q) gb)) none

  -- and each of the stripe's parity bytes is carried somewhere
  run_onto : (zs : List ℕ) (i p : ℕ) → i < s.r → p < s.l
      → ((j x : ℕ) → j < s.t → x < s.l → run_carried s zs j (x / q) (x % q) ≡ 0) → disagreement s zs i p ≡ 0
  run_onto zs i p hi hp none = go (below_or_from (p / q) (plain_runs s))
    where
      g : s.r < s.t
      g = h.gains

      go : (p / q < plain_runs s) ⊎ (plain_runs s ≤ p / q) → disagreement s zs i p ≡ 0
      go (inl lb) =
          ap (λ (x : ℕ). disagreement s zs i x) (sym (place_split p q))
          ∙ sym (carried_low s zs i (p / q) (p % q) lb hi) ∙ none i p (omega arith) hp
      go (inr gb) =
          let x : i * q + p % q < s.l = place_in i (p % q) (omega arith) (in_lt p) in
          ap (λ (y : ℕ). disagreement s zs i y) (sym (place_split p q))
          ∙ sym (carried_high s zs (p / q) i (p % q) hi gb)
          ∙ sym (ap₂ (run_carried s zs (p / q)) (place_column i (in_lt p)) (place_byte i (in_lt p)))
          ∙ none (p / q) (i * q + p % q) (run_lt p hp) x

-- ---- all kinds

-- what holds of 0 and of the disagreement in every parity byte that the plan names holds of what is carried on
carried_named : (s : Shape) (f : ℕ) (zs : List ℕ) (P : ℕ → Type 0) → Allowed s → IsA s f ⊎ (IsB s f ⊎ IsC s f) → P 0
    → ((i p : ℕ) → i < parity_named (kind_of s f) s f → p < s.l → P (disagreement s zs i p))
    → (j p : ℕ) → j < f → p < s.l → P (carried (kind_of s f) s zs j p)
unfolding carried parity_named
carried_named s f zs P a (inl h) none d j p hj hp =
    subst (λ (κ : Kind). P (carried κ s zs j p)) (sym h.kind) (d j p (subst (λ (κ : Kind). j < parity_named κ s f) (sym h.kind) hj) hp)
carried_named s f zs P a (inr (inl h)) none d j p hj hp =
    subst (λ (κ : Kind). P (carried κ s zs j p)) (sym h.kind)
    (run_from s a h.prepared zs P none (λ i x hi hx. d i x (subst (λ (κ : Kind). i < parity_named κ s f) (sym h.kind) hi) hx) j p
    (subst (λ (x : ℕ). j < x) (sym h.marked) hj) hp)
carried_named s f zs P a (inr (inr h)) none d j p hj hp = subst (λ (κ : Kind). P (carried κ s zs j p)) (sym h.kind) none

-- the parity columns that the plan names are among the stripe's
pub named_few : (s : Shape) (f : ℕ) → IsA s f ⊎ (IsB s f ⊎ IsC s f) → parity_named (kind_of s f) s f ≤ s.r
unfolding parity_named
named_few s f (inl h) = subst (λ (κ : Kind). parity_named κ s f ≤ s.r) (sym h.kind) h.enough
named_few s f (inr (inl h)) = subst (λ (κ : Kind). parity_named κ s f ≤ s.r) (sym h.kind) (omega arith)
named_few s f (inr (inr h)) = subst (λ (κ : Kind). parity_named κ s f ≤ s.r) (sym h.kind) (omega arith)

carried_from : (s : Shape) (f : ℕ) (zs : List ℕ) (P : ℕ → Type 0) → Allowed s → IsA s f ⊎ (IsB s f ⊎ IsC s f) → P 0
    → ((i p : ℕ) → i < s.r → p < s.l → P (disagreement s zs i p)) → (j p : ℕ) → j < f → p < s.l → P (carried (kind_of s f) s zs j p)
carried_from s f zs P a h none d = carried_named s f zs P a h none (λ i p hi hp. d i p (omega (arith, named_few s f h)) hp)

carried_onto : (s : Shape) (f : ℕ) (zs : List ℕ) → Allowed s → IsA s f ⊎ (IsB s f ⊎ IsC s f)
    → ((j p : ℕ) → j < f → p < s.l → carried (kind_of s f) s zs j p ≡ 0)
    → (i p : ℕ) → i < parity_named (kind_of s f) s f → p < s.l → disagreement s zs i p ≡ 0
unfolding carried parity_named
carried_onto s f zs a (inl h) none i p hi hp =
    let k : i < f = subst (λ (κ : Kind). i < parity_named κ s f) h.kind hi in
    subst (λ (κ : Kind). carried κ s zs i p ≡ 0) h.kind (none i p k hp)
carried_onto s f zs a (inr (inl h)) none i p hi hp =
    run_onto s a h.prepared zs i p (subst (λ (κ : Kind). i < parity_named κ s f) h.kind hi) hp
    (λ j x hj hx. subst (λ (κ : Kind). carried κ s zs j x ≡ 0) h.kind (none j x (subst (λ (y : ℕ). j < y) h.marked hj) hx))
carried_onto s f zs a (inr (inr h)) none i p hi hp =
    absurd (not-suc-le-zero (subst (λ (κ : Kind). i < parity_named κ s f) h.kind hi))

-- ---- bytes

bytes_wide : (s : Shape) (zss : List (List ℕ)) → ((l : ℕ) → l < length zss → Bytes (get_or zss l [])) → Bytes (wide_data s zss)
unfolding wide_data joined
bytes_wide s [] h = λ i. lit< tt
bytes_wide s (zs ∷ zss) h =
    append_bytes (data_of s zs) _ (take_bytes (data_length s) zs (h 0 (omega arith))) (bytes_wide s zss (λ l k. h (suc l) (omega arith)))

-- and the other way: the data of each stripe are a part of those of the wide stripe
bytes_part : (s : Shape) (zss : List (List ℕ)) → ((l : ℕ) → l < length zss → length (get_or zss l []) ≡ stripe_length s) → Bytes (wide_data s zss)
    → (l : ℕ) → l < length zss → Bytes (data_of s (get_or zss l []))
unfolding wide_data joined
bytes_part s [] long b l h = absurd (not-suc-le-zero h)
bytes_part s (zs ∷ zss) long b zero h =
    subst Bytes (take_at (data_of s zs) _ (data_length s) (data_of-length s zs (long 0 h))) (take_bytes (data_length s) _ b)
bytes_part s (zs ∷ zss) long b (suc l) h =
    bytes_part s zss (λ i m. long (suc i) (omega arith))
    (subst Bytes (drop_at (data_of s zs) _ (data_length s) (data_of-length s zs (long 0 (omega arith)))) (drop_bytes (data_length s) _ b)) l (omega arith)

pub wide_all : (s : Shape) (f : ℕ) (zss : List (List ℕ)) → ((l : ℕ) → l < length zss → Bytes (get_or zss l [])) → Bytes (wide_stripe s (length zss) f zss)
unfolding wide_stripe
wide_all s f zss h = append_bytes (wide_data s zss) _ (bytes_wide s zss h) (fold_bytes s (length zss) f _)

pub wide_length : (s : Shape) (f : ℕ) (zss : List (List ℕ)) → fold_refusal s (length zss) f ≡ 0
    → ((l : ℕ) → l < length zss → length (get_or zss l []) ≡ stripe_length s)
    → length (wide_stripe s (length zss) f zss) ≡ stripe_length (wide_shape s (length zss) f)
unfolding wide_stripe
wide_length s f zss passed long =
    length-append (wide_data s zss) _ ∙ ap₂ ◌+◌ (wide_data-length s f zss passed long) (fold_length s (length zss) f _ passed)
    ∙ sym (add-mul (length zss * s.k) f s.l)

-- ---- the theorems

product_zero : (c x : ℕ) → c < 256 → 0 < c → x < 256 → c ⊗ x ≡ 0 → x ≡ 0
product_zero c zero hc pc hx e = refl
product_zero c (suc x) hc pc hx e = let h : 0 < c ⊗ suc x = mul_pos c hc (suc x) hx pc (omega arith) in absurd (omega arith)

-- If all stripes are codewords, the fold of what the plan names of them is the parity of all their data in order.
module _ (s : Shape) (f : ℕ) (zss : List (List ℕ)) (passed : fold_refusal s (length zss) f ≡ 0)
    (codewords : (l : ℕ) → l < length zss → Codeword s (get_or zss l [])) where
  able : Foldable s (length zss) f
  able = foldable s (length zss) f passed

  long : (l : ℕ) → l < length zss → length (get_or zss l []) ≡ stripe_length s
  long l h = (codewords l h).long

  nothing : (j p : ℕ) → j < f → p < s.l → (l : ℕ) → l < length zss → carried (kind_of s f) s (get_or zss l []) j p ≡ 0
  nothing j p hj hp l h =
      carried_from s f (get_or zss l []) (λ (x : ℕ). x ≡ 0) able.shape able.kinds refl
      (λ i x hi hx. codeword_agrees s (get_or zss l []) i x (codewords l h) hi hx) j p hj hp

  abbrev Exact : Type 0
  Exact = fold_of s (length zss) f (cut_out s zss (plan s (length zss) f)) ≡ parity (wide_shape s (length zss) f) (wide_data s zss)

  rows_parity : by_points s ≡ false → Exact
  rows_parity rows =
      parity_exact (wide_shape s (length zss) f) (wide_data s zss) _ (fold_length s (length zss) f _ passed)
      (λ j p hj hp.
      answer_is s f zss passed long rows j p hj hp
      ∙ ap (λ (x : ℕ). parity_byte (wide_shape s (length zss) f) (wide_data s zss) j p ⊕ x)
      (map_none (j * s.k) (λ zs. carried (kind_of s f) s zs j p) zss (nothing j p hj hp))
      ∙ add-zero _)

  pub folded_parity : fold_of s (length zss) f (cut_out s zss (plan s (length zss) f)) ≡ parity (wide_shape s (length zss) f) (wide_data s zss)
  folded_parity = go (by_points s) refl able.kinds
    where
      go : (b : Bool) → by_points s ≡ b → IsA s f ⊎ (IsB s f ⊎ IsC s f) → Exact
      go false e k = rows_parity e
      go true e (inl h) = columns_parity s f zss passed long e h.kind codewords
      go true e (inr (inl h)) = rows_parity (prepared_by_rows s able.shape (let g = h.prepared.gains in omega arith))
      go true e (inr (inr h)) = data_parity s f zss passed long h.kind

  -- the wide stripe is then a codeword
  pub folded_codeword : Codeword (wide_shape s (length zss) f) (wide_stripe s (length zss) f zss)
  folded_codeword =
      codeword_of (wide_shape s (length zss) f) (wide_stripe s (length zss) f zss) wide_bytes wide_long
      (wide_answer_lem s f zss passed long ∙ folded_parity ∙ ap (parity (wide_shape s (length zss) f)) (sym (wide_data_lem s f zss passed long)))
    where
      wide_bytes : Bytes (wide_stripe s (length zss) f zss)
      wide_bytes = wide_all s f zss (λ l h. (codewords l h).bytes)

      wide_long : length (wide_stripe s (length zss) f zss) ≡ stripe_length (wide_shape s (length zss) f)
      wide_long = wide_length s f zss passed long

-- If all stripes but stripe n agree with their own parity in every byte that the plan names, and the wide stripe is a codeword, stripe n
-- agrees so too.
module _ (s : Shape) (f : ℕ) (zss : List (List ℕ)) (passed : fold_refusal s (length zss) f ≡ 0)
    (long : (l : ℕ) → l < length zss → length (get_or zss l []) ≡ stripe_length s) (n : ℕ) (is : n < length zss) (bytes : Bytes (get_or zss n []))
    (others : (l : ℕ) → l < length zss → (l ≡ n → ⊥) → (i p : ℕ) → i < parity_named (kind_of s f) s f → p < s.l
    → disagreement s (get_or zss l []) i p ≡ 0) where
  able_too : Foldable s (length zss) f
  able_too = foldable s (length zss) f passed

  others_none : (j p : ℕ) → j < f → p < s.l → (l : ℕ) → l < length zss → (l ≡ n → ⊥) → carried (kind_of s f) s (get_or zss l []) j p ≡ 0
  others_none j p hj hp l h ne =
      carried_named s f (get_or zss l []) (λ (x : ℕ). x ≡ 0) able_too.shape able_too.kinds refl (others l h ne) j p hj hp

  carried-lt : (j p : ℕ) → j < f → p < s.l → carried (kind_of s f) s (get_or zss n []) j p < 256
  carried-lt =
      carried_from s f (get_or zss n []) (λ (x : ℕ). x < 256) able_too.shape able_too.kinds (lit< tt)
      (λ i x hi hx. disagreement-lt s (get_or zss n []) i x bytes)

  -- by rows the wide stripe's disagreement is that stripe's own, times its weight
  pub one_disagreement : by_points s ≡ false → (j p : ℕ) → j < f → p < s.l
      → disagreement (wide_shape s (length zss) f) (wide_stripe s (length zss) f zss) j p ≡ gpow (n * (j * s.k)) ⊗ carried (kind_of s f) s (get_or zss n []) j p
  one_disagreement rows j p hj hp =
      disagreement_sum s f zss passed long rows j p hj hp
      ∙ map-one (j * s.k) (λ zs. carried (kind_of s f) s zs j p) zss n is (carried-lt j p hj hp) (others_none j p hj hp)

  abbrev Agrees : Type 0
  Agrees = (i p : ℕ) → i < parity_named (kind_of s f) s f → p < s.l → disagreement s (get_or zss n []) i p ≡ 0

  rows_agree : by_points s ≡ false → Codeword (wide_shape s (length zss) f) (wide_stripe s (length zss) f zss) → Agrees
  rows_agree rows w =
      carried_onto s f (get_or zss n []) able_too.shape able_too.kinds
      (λ j p hj hp.
      product_zero (gpow (n * (j * s.k))) _ (gpow-lt (n * (j * s.k))) (gpow_pos (n * (j * s.k))) (carried-lt j p hj hp)
      (sym (one_disagreement rows j p hj hp) ∙ codeword_agrees (wide_shape s (length zss) f) (wide_stripe s (length zss) f zss) j p w hj hp))

  -- by points the plan of kind A names all parity bytes: the others are codewords, since the data of the wide stripe are bytes
  points_agree : by_points s ≡ true → IsA s f → Codeword (wide_shape s (length zss) f) (wide_stripe s (length zss) f zss) → Agrees
  unfolding parity_named
  points_agree e h w i p hi hp = go (zero_or_not (disagreement s (get_or zss n []) i p))
    where
      same : parity_named (kind_of s f) s f ≡ s.r
      same = ap (λ (κ : Kind). parity_named κ s f) h.kind ∙ able_too.new_points e

      datas : Bytes (wide_data s zss)
      datas =
          subst Bytes (wide_data_lem s f zss passed long)
          (take_bytes (data_length (wide_shape s (length zss) f)) (wide_stripe s (length zss) f zss) w.bytes)

      sound : (l : ℕ) → l < length zss → (l ≡ n → ⊥) → Codeword s (get_or zss l [])
      sound l m ne =
          agrees_codeword s (get_or zss l []) (bytes_part s zss long datas l m) (long l m)
          (λ j o hj ho. others l m ne j o (subst (λ (x : ℕ). j < x) (sym same) hj) ho)

      go : (disagreement s (get_or zss n []) i p ≡ 0) ⊎ (disagreement s (get_or zss n []) i p ≡ 0 → ⊥) → disagreement s (get_or zss n []) i p ≡ 0
      go (inl z) = z
      go (inr wrong) =
          absurd
          (stale_shows s f zss passed long e h.kind n is sound bytes
          (λ v. wrong (codeword_agrees s (get_or zss n []) i p v (subst (λ (x : ℕ). i < x) same hi) hp)) w)

  pub one_agrees : Codeword (wide_shape s (length zss) f) (wide_stripe s (length zss) f zss)
      → (i p : ℕ) → i < parity_named (kind_of s f) s f → p < s.l → disagreement s (get_or zss n []) i p ≡ 0
  unfolding parity_named
  one_agrees w = go (by_points s) refl able_too.kinds
    where
      go : (b : Bool) → by_points s ≡ b → IsA s f ⊎ (IsB s f ⊎ IsC s f) → Agrees
      go false e k = rows_agree e w
      go true e (inl h) = points_agree e h w
      go true e (inr (inl h)) = rows_agree (prepared_by_rows s able_too.shape (let g = h.prepared.gains in omega arith)) w
      go true e (inr (inr h)) = λ i p hi hp. absurd (not-suc-le-zero (subst (λ (κ : Kind). i < parity_named κ s f) h.kind hi))

  -- So if exactly one stripe disagrees with its own parity in bytes that the plan names, the wide stripe is no codeword.
  pub one_shows : (i p : ℕ) → i < parity_named (kind_of s f) s f → p < s.l → (disagreement s (get_or zss n []) i p ≡ 0 → ⊥)
      → Codeword (wide_shape s (length zss) f) (wide_stripe s (length zss) f zss) → ⊥
  one_shows i p hi hp wrong w = wrong (one_agrees w i p hi hp)
