-- What is printed: the text where it can be printed, and then it fits; else nothing.
use Prim.Native.Nat.{ℕ, ◌+◌, ◌≤◌, ◌<◌}
use mathlib.Core.Path.{◌≡◌, sym, ap, ◌∙◌}
use mathlib.Core.Bool.{Bool, true, false, cond, ◌&&◌, and-eq-true_iff}
use mathlib.Core.List.{List, []}
use native.Mathlib.Omega.{arith}
use borrow.Author.Tests.{eqb-true, leb-true, le-leb, lt-leb}
use lib.Dec.{eqb, leb}
use lib.ListN.{length}
use Rattle.stripe.specs.declared.Shape.{Shape}
use Rattle.stripe.specs.Shape.{shape_refusal, stripe_length}
use Rattle.stripe.proofs.Allowed.{allowed}
use Rattle.field.specs.Bytes.{over}
use Rattle.text.specs.Text.{stripe_text, refusal_text, printable, stripe_printed, refusal_printed}
use Rattle.field.proofs.Over.{over_none}
use Rattle.text.proofs.Pieces.{Put, pieces}
use Rattle.text.proofs.Lines.{decimal_short, text_at_most}

-- nothing written
pub none_put : (out text : List ℕ) → text ≡ [] → (0 ≡ length text) × (out ≡ over out 0 text)
none_put out text e = (ap length (sym e), over_none out 0 ∙ ap (over out 0) (sym e))

-- a text written over the front
pub text_put : (out out' text t : List ℕ) (v : ℕ) → text ≡ t → Put out 0 t out' v → (v ≡ length text) × (out' ≡ over out 0 text)
text_put out out' text t v e p = (omega (arith, p.0, ap length e), p.1 ∙ ap (over out 0) (sym e))

-- what a printable stripe says
pub record Printable (s : Shape) (n room : ℕ) : Type 0 where
  pub shaped : shape_refusal s ≡ 0
  pub whole : n ≡ stripe_length s
  pub small : n ≤ 65536
  pub wide : 140000 ≤ room

pub printable_says : (s : Shape) (n room : ℕ) → printable s n room ≡ true → Printable s n room
unfolding printable
printable_says s n room e =
    let p = (and-eq-true_iff (eqb (shape_refusal s) 0 && eqb n (stripe_length s) && leb n 65536) (leb 140000 room)).0 e in
    let q = (and-eq-true_iff (eqb (shape_refusal s) 0 && eqb n (stripe_length s)) (leb n 65536)).0 p.0 in
    let r = (and-eq-true_iff (eqb (shape_refusal s) 0) (eqb n (stripe_length s))).0 q.0 in
    record { shaped = eqb-true _ _ r.0; whole = eqb-true _ _ r.1; small = leb-true _ _ q.1; wide = leb-true _ _ p.1 }

module _ (s : Shape) (es xs : List ℕ) (room : ℕ) where
  pub unprintable : printable s (length xs) room ≡ false → stripe_printed s es xs room ≡ []
  unfolding stripe_printed
  unprintable e = ap (λ (b : Bool). cond b (stripe_text s es xs) []) e

  module _ (can : printable s (length xs) room ≡ true) where
    pub printed : stripe_printed s es xs room ≡ stripe_text s es xs
    unfolding stripe_printed
    printed = ap (λ (b : Bool). cond b (stripe_text s es xs) []) can

    pub text_fits : 0 + length (stripe_text s es xs) ≤ room
    text_fits =
        let p = printable_says s (length xs) room can in
        omega (arith, text_at_most s es xs (allowed s p.shaped).columns_most (omega (arith, p.whole, p.small)), p.wide)

pub unprintable_refusal : (v room : ℕ) → room < 40 → refusal_printed v room ≡ []
unfolding refusal_printed
unprintable_refusal v room h = ap (λ (b : Bool). cond b (refusal_text v) []) (lt-leb 40 room h)

module _ (v room : ℕ) (h : 40 ≤ room) where
  pub printed_refusal : refusal_printed v room ≡ refusal_text v
  unfolding refusal_printed
  printed_refusal = ap (λ (b : Bool). cond b (refusal_text v) []) (le-leb 40 room h)

-- what shows what is printed of a refusal
pub ruleset printing = (pieces, over_none, unprintable_refusal, printed_refusal, decimal_short)
