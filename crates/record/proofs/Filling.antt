-- A lawful record has what its fillers need: room, columns, and positions of 16 bits.
use Prim.Native.Nat.{ℕ, ◌-◌, ◌*◌, ◌≤◌, ◌<◌}
use mathlib.Core.Path.{◌≡◌, refl, sym, ap, ap₂, subst, ◌∙◌}
use mathlib.Core.List.{List}
use mathlib.Core.Logic.{◌⊎◌, inl, inr, ⊎_elim}
use native.Mathlib.Omega.{arith}
use lib.Dec.{leb, eqb}
use Rattle.std.specs.Prelude.{IsErrAnd}
use Rattle.std.specs.declared.result.Result.{Result}
use Rattle.std.specs.declared.result.Result.TheVariants.{Ok, Err}
use Rattle.stripe.specs.declared.refusal.Refusal.{Refusal}
use Rattle.stripe.specs.Refusal.{refusal_number, refusal_of}
use Rattle.stripe.proofs.Refused.{refused_some, same_answer}
use Rattle.record.specs.declared.read.Read.{Read}
use lib.ListN.{length, get_or, take, drop, length-drop}
use lib.Seq.{take_at, take_all}
use borrow.Author.Tests.{le-leb, lt-leb, eq-eqb, ne_eqb}
use Rattle.field.specs.Bytes.{over}
use Rattle.field.proofs.Over.{over_front}
use Rattle.stripe.specs.declared.Shape.{Shape}
use Rattle.stripe.specs.Shape.{columns, stripe_length}
use Rattle.record.specs.declared.read.Lawful.{Lawful}
use Rattle.record.specs.Layout.{kept, restored}
use Rattle.number.specs.Number.{next_of}
use Rattle.record.specs.Reading.{unless, count_number, shape_read, count_of, lost_listed, columns_start, positions_at}
use Rattle.record.specs.Reading.{content_refusal, lawful_of, read_refusal}
use Rattle.record.specs.Reading.{Got, reported, got_of, columns_filled, positions_filled, stripe_read, lost_read}
use Rattle.record.proofs.Refusals.{stop, skip, only, passed, failed}
use Rattle.record.proofs.Accepted.{Accepted, accepted, ascending_below, kept_lost}
use Rattle.record.proofs.Listing.{positions-length}

module _ (s : List ℕ) (x : Lawful) (law : content_refusal s ≡ 0) (is : x ≡ lawful_of s) where
  good : Accepted s
  good = accepted s law

  shape_is : x.shape ≡ shape_read s
  shape_is = ap (λ (y : Lawful). y.shape) is

  lost_is : x.lost ≡ count_of s
  lost_is = ap (λ (y : Lawful). y.lost) is

  end_is : x.end ≡ columns_start s
  end_is = ap (λ (y : Lawful). y.end) is

  wide : columns x.shape ≡ columns (shape_read s)
  wide = ap (λ (v : Shape). columns v) shape_is

  pub fill_columns_few : columns x.shape ≤ 258
  fill_columns_few = omega (arith, wide, good.shape_allowed.columns_most)

  pub fill_few : x.lost ≤ 258
  fill_few = omega (arith, fill_columns_few, wide, lost_is, good.few)

  pub fill_stripe_short : columns x.shape * x.shape.l ≤ 65536
  fill_stripe_short = subst (λ (v : Shape). stripe_length v ≤ 65536) (sym shape_is) good.stripe_short

  pub fill_within : x.end ≤ length s
  fill_within = omega (arith, end_is, good.within)

  positions_are : positions_at s x.lost x.first ≡ lost_listed s
  positions_are = ap (λ (y : Lawful). positions_at s y.lost y.first) is

  pub fill_small : (i : ℕ) → get_or (positions_at s x.lost x.first) i 0 < 65536
  fill_small i =
      subst (λ (es : List ℕ). get_or es i 0 < 65536) (sym positions_are)
      (⊎_elim (λ l. omega (arith, fill_columns_few, wide)) (λ z. omega arith)
      (ascending_below 0 (columns (shape_read s)) (lost_listed s) good.ascending i))

  pub fill_front : (es lost : List ℕ) → lost ≡ over es 0 (positions_at s x.lost x.first) → take x.lost lost ≡ lost_listed s
  fill_front es lost q =
      ap (take x.lost) (q ∙ over_front es (positions_at s x.lost x.first))
      ∙ take_at (positions_at s x.lost x.first) _ x.lost (positions-length s x.lost x.first) ∙ positions_are

  pub fill_rest : take (length s - x.end) (drop x.end s) ≡ drop (columns_start s) s
  fill_rest = take_all (length s - x.end) (drop x.end s) (omega (arith, length-drop x.end s)) ∙ ap (λ (n : ℕ). drop n s) end_is

  survive : kept (lost_listed s) 0 (columns (shape_read s)) ≡ columns (shape_read s) - count_of s
  survive =
      omega (
        arith,
        kept_lost (columns (shape_read s)) (columns (shape_read s)) 0 (lost_listed s) good.ascending (omega arith),
        positions-length s (count_of s) (next_of (count_number s)),
      )

  pub fill_bytes : (es : List ℕ) → es ≡ lost_listed s → kept es 0 (columns x.shape) * x.shape.l ≤ length (take (length s - x.end) (drop x.end s))
  fill_bytes es q =
      omega (
        arith,
        ap length fill_rest,
        length-drop (columns_start s) s,
        good.exact,
        ap₂ (λ (ys : List ℕ) (v : Shape). kept ys 0 (columns v) * v.l) q shape_is,
        ap (λ (n : ℕ). n * (shape_read s).l) survive,
      )

  pub fill_columns_is : (es xs xs' : List ℕ) → es ≡ lost_listed s → xs' ≡ restored x.shape.l es 0 (columns x.shape) (take (length s - x.end) (drop x.end s)) xs
      → xs' ≡ columns_filled s xs
  fill_columns_is es xs xs' q w =
      w ∙ ap₂ (λ (ys : List ℕ) (v : Shape). restored v.l ys 0 (columns v) (take (length s - x.end) (drop x.end s)) xs) q shape_is
      ∙ ap (λ (ys : List ℕ). restored (shape_read s).l (lost_listed s) 0 (columns (shape_read s)) ys xs) fill_rest

-- ---- the refusals of reading, in their order

module _ (s : List ℕ) (a b : ℕ) where
  pub read_long : 65536 < length s → ◌≡◌ {A = ℕ} 5 (read_refusal s a b)
  unfolding read_refusal
  read_long h = stop 5 _ _ (failed _ 5 (lt-leb (length s) 65536 h)) (λ z. omega arith)

  module _ (short : length s ≤ 65536) where
    one : unless (leb (length s) 65536) 5 ≡ 0
    one = passed _ 5 (le-leb (length s) 65536 short)

    pub read_buffer : (a ≡ 65536 → ⊥) → ◌≡◌ {A = ℕ} 5 (read_refusal s a b)
    unfolding read_refusal
    read_buffer h = stop 5 _ _ (failed _ 5 (ne_eqb a 65536 h)) (λ z. omega arith) ∙ skip _ _ one

    module _ (buffer : a ≡ 65536) where
      two : unless (eqb a 65536) 5 ≡ 0
      two = passed _ 5 (eq-eqb a 65536 buffer)

      pub read_list : (b ≡ 258 → ⊥) → ◌≡◌ {A = ℕ} 5 (read_refusal s a b)
      unfolding read_refusal
      read_list h = stop 5 _ _ (failed _ 5 (ne_eqb b 258 h)) (λ z. omega arith) ∙ skip _ _ two ∙ skip _ _ one

      pub read_content : b ≡ 258 → content_refusal s ≡ read_refusal s a b
      unfolding read_refusal
      read_content h = only _ ∙ skip _ _ (passed _ 5 (eq-eqb b 258 h)) ∙ skip _ _ two ∙ skip _ _ one

  -- what is lent has another length than stated
  pub read_lent : (65536 < length s) ⊎ (((length s ≤ 65536) × (a ≡ 65536 → ⊥)) ⊎ ((length s ≤ 65536) × (a ≡ 65536) × (b ≡ 258 → ⊥)))
      → ◌≡◌ {A = ℕ} 5 (read_refusal s a b)
  read_lent (inl h) = read_long h
  read_lent (inr h) = ⊎_elim (λ q. read_buffer q.0 q.1) (λ q. read_list q.0 q.1 q.2) h

-- ---- the outcomes of reading

pub read_refused : (s xs es : List ℕ) (r : Result Read Refusal) (e : Refusal) → IsErrAnd r (λ w. w ≡ e)
    → refusal_number e ≡ read_refusal s (length xs) (length es)
    → (reported r ≡ got_of s (length xs) (length es)) × ((xs ≡ stripe_read s xs (length es)) × (es ≡ lost_read s (length xs) es))
read_refused s xs es (Ok x) e h q = absurd h
read_refused s xs es (Err w) e h q =
    let n = refused_some e in
    let b = ne_eqb (read_refusal s (length xs) (length es)) 0 (λ y. omega arith) in
    (ap (λ (v : Refusal). reported (Err v)) h ∙ rw (b, q), (rw b, rw b))

pub read_accepted : (s xs es xs' es' : List ℕ) (x : Lawful) → read_refusal s (length xs) (length es) ≡ 0 → x ≡ lawful_of s
    → xs' ≡ columns_filled s xs → es' ≡ positions_filled s es
    → (reported (Ok (record { shape = x.shape; lost = x.lost })) ≡ got_of s (length xs) (length es))
    × ((xs' ≡ stripe_read s xs (length es)) × (es' ≡ lost_read s (length xs) es))
read_accepted s xs es xs' es' x z e p q =
    let b = eq-eqb (read_refusal s (length xs) (length es)) 0 z in
    (ap (λ (y : Lawful). reported (Ok (record { shape = y.shape; lost = y.lost }))) e ∙ rw b, (p ∙ rw b, q ∙ rw b))

-- an answer is told by what it reports
pub same_reported : (r s : Result Read Refusal) → reported r ≡ reported s → r ≡ s
same_reported r s h = same_answer r s (numbers r ∙ (ap (λ (g : Got). g.number) h ∙ sym (numbers s))) (same r s h)
  where
    numbers : (r : Result Read Refusal) → refusal_of r ≡ (reported r).number
    numbers (Ok x) = refl
    numbers (Err e) = refl

    same : (r s : Result Read Refusal) → reported r ≡ reported s → (x y : Read) → r ≡ Ok x → s ≡ Ok y → x ≡ y
    same r s h x y p q =
        let g : reported (Ok x) ≡ reported (Ok y) = ap reported (sym p) ∙ (h ∙ ap reported q) in
        ap (λ (v : Got). record { shape = v.shape; lost = v.lost }) g
