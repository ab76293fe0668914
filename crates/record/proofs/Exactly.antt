-- Reading accepts exactly the layout: an accepted record is the record of what was read from it, number by number and column by column.
use Prim.Native.Nat.{ℕ, zero, suc, ◌+◌, ◌-◌, ◌*◌, ◌≤◌}
use mathlib.Core.Path.{◌≡◌, refl, sym, ap, ap₂, ◌∙◌}
use mathlib.Core.Bool.{Bool, true, false}
use mathlib.Core.List.{List, [], ◌∷◌, ◌++◌, append_assoc}
use native.Mathlib.Nat.{suc-mul}
use native.Mathlib.Omega.{arith}
use lib.ListN.{length, take, drop, length-drop, take-append-drop}
use lib.Seq.{take_at, drop_at, length-take-le}
use Rattle.field.specs.Bytes.{Bytes}
use Rattle.stripe.specs.Shape.{columns, stripe_length}
use Rattle.stripe.specs.Stripe.{among}
use Rattle.number.specs.Number.{number_at, number_refusal, written, value_of, next_of}
use Rattle.record.specs.Layout.{positions_written, survivors, kept, restored, record_head, record_of}
use Rattle.record.specs.Reading.{first_number, second_number, third_number, fourth_number, count_number, shape_read, count_of, lost_listed, columns_start}
use Rattle.record.specs.Reading.{head_refusal, positions_refusal, positions_at, after_positions, content_refusal, columns_filled}
use Rattle.number.proofs.Written.{only_written}
use Rattle.record.proofs.Survivors.{restored_lost, restored_kept, survivors_lost, survivors_kept}
use Rattle.record.proofs.Refusals.{first_zero}
use Rattle.record.proofs.Accepted.{Accepted, accepted, number_is, position_zero, positions-zero, kept_lost, kept-one}
use Rattle.record.proofs.Listing.{positions-length}

-- ---- the head

-- a number that was read, and what follows it
number_splits : (s : List ℕ) (at : ℕ) → Bytes s → number_refusal (number_at s at) ≡ 0
    → drop at s ≡ written (value_of (number_at s at)) ++ drop (next_of (number_at s at)) s
number_splits s at h e = (only_written s at (value_of (number_at s at)) (next_of (number_at s at)) h (number_is (number_at s at) e)).2

positions_split : (s : List ℕ) (n m least at : ℕ) → Bytes s → positions_refusal s n m least at ≡ 0
    → drop at s ≡ positions_written (positions_at s m at) ++ drop (after_positions s m at) s
unfolding positions_written positions_at after_positions
positions_split s n zero least at h e = refl
positions_split s n (suc m) least at h e =
    let a = positions-zero s n m least at e in
    let g = number_at s at in
    number_splits s at h (position_zero g least n a.0).0
    ∙ ap (λ (ys : List ℕ). written (value_of g) ++ ys) (positions_split s n m (value_of g + 1) (next_of g) h a.1)
    ∙ sym (append_assoc (written (value_of g)) (positions_written (positions_at s m (next_of g))) (drop (after_positions s m (next_of g)) s))

record Head (s : List ℕ) : Type 0 where
  one : number_refusal (first_number s) ≡ 0
  two : number_refusal (second_number s) ≡ 0
  three : number_refusal (third_number s) ≡ 0
  four : number_refusal (fourth_number s) ≡ 0

head_numbers : (s : List ℕ) → head_refusal s ≡ 0 → Head s
unfolding head_refusal
head_numbers s e =
    let a = first_zero (number_refusal (first_number s)) _ e in
    let b = first_zero (number_refusal (second_number s)) _ a.1 in
    let c = first_zero (number_refusal (third_number s)) _ b.1 in
    let d = first_zero (number_refusal (fourth_number s)) _ c.1 in
    record { one = a.0; two = b.0; three = c.0; four = d.0 }

pub joined : (a b c d e f rest : List ℕ) → a ++ (b ++ (c ++ (d ++ (e ++ (f ++ rest))))) ≡ (a ++ (b ++ (c ++ (d ++ (e ++ f))))) ++ rest
joined a b c d e f rest = simp append_assoc

pub head_splits : (s : List ℕ) → Bytes s → Accepted s → s ≡ record_head (shape_read s) (lost_listed s) ++ drop (columns_start s) s
unfolding record_head
head_splits s h w =
    let n = head_numbers s w.head_read in
    let k = written (value_of (first_number s)) in
    let r = written (value_of (second_number s)) in
    let t = written (value_of (third_number s)) in
    let l = written (value_of (fourth_number s)) in
    let m = written (length (lost_listed s)) in
    number_splits s 0 h n.one
    ∙ ap (λ (ys : List ℕ). k ++ ys) (number_splits s (next_of (first_number s)) h n.two)
    ∙ ap (λ (ys : List ℕ). k ++ (r ++ ys)) (number_splits s (next_of (second_number s)) h n.three)
    ∙ ap (λ (ys : List ℕ). k ++ (r ++ (t ++ ys))) (number_splits s (next_of (third_number s)) h n.four)
    ∙ ap (λ (ys : List ℕ). k ++ (r ++ (t ++ (l ++ ys)))) (number_splits s (next_of (fourth_number s)) h w.count_read)
    ∙ ap (λ (x : ℕ). k ++ (r ++ (t ++ (l ++ (written x ++ drop (next_of (count_number s)) s)))))
    (sym (positions-length s (count_of s) (next_of (count_number s))))
    ∙ ap (λ (ys : List ℕ). k ++ (r ++ (t ++ (l ++ (m ++ ys)))))
    (positions_split s (columns (shape_read s)) (count_of s) 0 (next_of (count_number s)) h w.positions_read)
    ∙ joined k r t l m (positions_written (lost_listed s)) (drop (columns_start s) s)

-- ---- the columns

empty : (ys : List ℕ) → length ys ≡ 0 → ys ≡ []
empty [] e = refl
empty (y ∷ ys) e = absurd (omega arith)

-- the columns that were put back are those that survive
pub survivors_restored : (l c m : ℕ) (es ys xs : List ℕ) → length ys ≡ kept es c m * l → m * l ≤ length xs → survivors l es c m (restored l es c m ys xs) ≡ ys
unfolding survivors restored kept
survivors_restored l c zero es ys xs e h = sym (empty ys (omega arith))
survivors_restored l c (suc m) es ys xs e h =
    go (among c es) refl (survivors_restored l (suc c) m es ys (drop l xs)) (survivors_restored l (suc c) m es (drop l ys) (drop l xs))
  where
    go : (b : Bool) → among c es ≡ b
        → (length ys ≡ kept es (suc c) m * l → m * l ≤ length (drop l xs) → survivors l es (suc c) m (restored l es (suc c) m ys (drop l xs)) ≡ ys)
        → (length (drop l ys) ≡ kept es (suc c) m * l → m * l ≤ length (drop l xs)
        → survivors l es (suc c) m (restored l es (suc c) m (drop l ys) (drop l xs)) ≡ drop l ys)
        → survivors l es c (suc m) (restored l es c (suc m) ys xs) ≡ ys
    go true a stay next =
        let q = suc-mul m l in
        let z = length-take-le l xs (omega arith) in
        let k = ap (λ (n : ℕ). n * l) (kept-one es c m true a) in
        survivors_lost l c m es (restored l es c (suc m) ys xs) a
        ∙ ap (λ (zs : List ℕ). survivors l es (suc c) m (drop l zs)) (restored_lost l c m es ys xs a)
        ∙ ap (survivors l es (suc c) m) (drop_at (take l xs) (restored l es (suc c) m ys (drop l xs)) l z)
        ∙ stay (e ∙ k ∙ ap (λ (n : ℕ). n * l) (omega arith)) (omega (arith, length-drop l xs))
    go false a stay next =
        let q = suc-mul m l in
        let k = ap (λ (n : ℕ). n * l) (kept-one es c m false a) in
        let k' = suc-mul (kept es (suc c) m) l in
        let k'' : (1 + kept es (suc c) m) * l ≡ suc (kept es (suc c) m) * l = ap (λ (n : ℕ). n * l) (omega arith) in
        let z = length-take-le l ys (omega arith) in
        let rest = restored l es (suc c) m (drop l ys) (drop l xs) in
        survivors_kept l c m es (restored l es c (suc m) ys xs) a
        ∙ ap (λ (zs : List ℕ). take l zs ++ survivors l es (suc c) m (drop l zs)) (restored_kept l c m es ys xs a)
        ∙ ap₂ (λ (u v : List ℕ). u ++ survivors l es (suc c) m v) (take_at (take l ys) rest l z) (drop_at (take l ys) rest l z)
        ∙ ap (λ (u : List ℕ). take l ys ++ u) (next (omega (arith, length-drop l ys)) (omega (arith, length-drop l xs)))
        ∙ take-append-drop l ys

-- the bytes after the positions are those of the columns that survive
pub columns_enough : (s : List ℕ) → Accepted s → length (drop (columns_start s) s) ≡ kept (lost_listed s) 0 (columns (shape_read s)) * (shape_read s).l
columns_enough s w =
    let k = kept_lost (columns (shape_read s)) (columns (shape_read s)) 0 (lost_listed s) w.ascending (omega arith) in
    let q : columns (shape_read s) - count_of s ≡ kept (lost_listed s) 0 (columns (shape_read s)) =
    omega (arith, positions-length s (count_of s) (next_of (count_number s))) in
    length-drop (columns_start s) s ∙ w.exact ∙ ap (λ (n : ℕ). n * (shape_read s).l) q

-- writing what was read gives the same bytes: an accepted record is the record of its shape, its lost columns and its stripe
pub accepts_only : (s xs : List ℕ) → Bytes s → content_refusal s ≡ 0 → stripe_length (shape_read s) ≤ length xs
    → s ≡ record_of (shape_read s) (lost_listed s) (columns_filled s xs)
unfolding record_of
accepts_only s xs h e room =
    let w = accepted s e in
    head_splits s h w
    ∙ ap (λ (ys : List ℕ). record_head (shape_read s) (lost_listed s) ++ ys)
    (sym (survivors_restored (shape_read s).l 0 (columns (shape_read s)) (lost_listed s) (drop (columns_start s) s) xs (columns_enough s w) room))
