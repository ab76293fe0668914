-- What the report of reading says of a record that is refused and of one that is not.
use Prim.Native.Nat.{ℕ, ◌≤◌}
use mathlib.Core.Path.{◌≡◌, refl, sym, ap}
use mathlib.Core.Bool.{Bool, true, false, cond}
use mathlib.Core.List.{List, [], ◌∷◌}
use native.Mathlib.Omega.{arith}
use borrow.Author.Tests.{eqb-true, eq-eqb, ne_eqb}
use lib.Dec.{eqb, leb}
use lib.ListN.{length, length-replicate}
use Rattle.stripe.specs.Shape.{shape_refusal, no_shape}
use Rattle.record.specs.Reading.{Got, first_of, unless, stripe_refusal, content_refusal, read_refusal, got_of, shape_read, count_of}
use Rattle.record.proofs.Refusals.{first_zero, head_described}
use Rattle.record.proofs.Accepted.{Accepted, accepted}
use Rattle.answer.specs.Answer.{blank_stripe}

pub blank_long : length blank_stripe ≡ 65536
unfolding blank_stripe
blank_long = length-replicate {A = ℕ} 65536 0

-- the two reports
abbrev pub whole : List ℕ → Got
whole bs = record { number = 0; shape = shape_read bs; lost = count_of bs }

abbrev refused : ℕ → Got
refused v = record { number = v; shape = no_shape; lost = 0 }

-- the number reported is the refusal
pub got_number : (bs : List ℕ) (a b : ℕ) → (got_of bs a b).number ≡ read_refusal bs a b
got_number bs a b = go (eqb (read_refusal bs a b) 0) refl
  where
    go : (p : Bool) → eqb (read_refusal bs a b) 0 ≡ p → (cond {A = Got} p (whole bs) (refused (read_refusal bs a b))).number ≡ read_refusal bs a b
    go true e = sym (eqb-true (read_refusal bs a b) 0 e)
    go false e = refl

module _ (bs : List ℕ) (a b : ℕ) (z : read_refusal bs a b ≡ 0) where
  pub got_whole : got_of bs a b ≡ whole bs
  got_whole = ap (λ (p : Bool). cond {A = Got} p (whole bs) (refused (read_refusal bs a b))) (eq-eqb (read_refusal bs a b) 0 z)

  content : content_refusal bs ≡ 0
  unfolding read_refusal
  content = (first_zero _ _ (first_zero _ _ (first_zero _ _ (first_zero _ _ z).1).1).1).0

  pub read_says : Accepted bs
  read_says = accepted bs content

  pub count_most : count_of bs ≤ 258
  count_most = let s = read_says in omega (arith, s.few, s.shape_allowed.columns_most)

  pub read_shaped : shape_refusal (shape_read bs) ≡ 0
  unfolding stripe_refusal
  read_shaped = (first_zero _ _ (head_described bs read_says.head_read)).0

-- a lent buffer or list of another length
pub lent_stripe : (bs : List ℕ) (a b : ℕ) → (a ≡ 65536 → ⊥) → read_refusal bs a b ≡ 5
unfolding read_refusal first_of
lent_stripe bs a b n = simp (ne_eqb a 65536 n) (go (leb (length bs) 65536))
  where
    go : (p : Bool) → first_of (unless p 5 ∷ 5 ∷ unless (eqb b 258) 5 ∷ content_refusal bs ∷ []) ≡ 5
    go true = refl
    go false = refl

pub lent_list : (bs : List ℕ) (a b : ℕ) → a ≡ 65536 → (b ≡ 258 → ⊥) → read_refusal bs a b ≡ 5
unfolding read_refusal first_of
lent_list bs a b e n = simp (eq-eqb a 65536 e, ne_eqb b 258 n) (go (leb (length bs) 65536))
  where
    go : (p : Bool) → first_of (unless p 5 ∷ 0 ∷ 5 ∷ content_refusal bs ∷ []) ≡ 5
    go true = refl
    go false = refl
