-- The outcome of a record, put together from reading and mending; there is one for every record.
use Prim.Native.Nat.{ℕ, ◌≤◌, ◌<◌}
use mathlib.Core.Path.{◌≡◌, refl, sym, ap, ap₂, ◌∙◌, subst}
use mathlib.Core.Bool.{Bool, true, false, cond}
use mathlib.Core.Logic.{◌⊎◌, inl, inr}
use mathlib.Core.List.{List, []}
use native.Mathlib.Omega.{arith}
use borrow.Author.Tests.{ne_eqb, leb-true, leb-false}
use lib.Dec.{eqb, leb}
use lib.ListN.{length}
use Rattle.std.specs.Prelude.{IsErrAnd}
use Rattle.std.specs.declared.result.Result.{Result}
use Rattle.std.specs.declared.result.Result.TheVariants.{Ok, Err}
use Rattle.stripe.specs.declared.refusal.Refusal.{Refusal}
use Rattle.stripe.specs.Refusal.{refusal_number}
use Rattle.record.specs.declared.read.Read.{Read}
use Rattle.stripe.specs.Shape.{no_shape}
use Rattle.field.proofs.Cases.{zero_or_not}
use Rattle.record.specs.Reading.{reported, read_refusal, shape_read, count_of, lost_listed}
use Rattle.mending.specs.Mend.{Mended}
use Rattle.mending.proofs.Outcome.{mended-one}
use Rattle.field.specs.Bytes.{over}
use Rattle.text.specs.Text.{stripe_text, refusal_text, refusal_printed, text_room}
use Rattle.answer.specs.Answer.{Answer, pairs, described, RecordMended, answer_of, Worked, Answered, TextOf, Printed}
use Rattle.field.proofs.Over.{over_least}
use Rattle.text.proofs.Printed.{printed_refusal}

-- ---- one outcome

pub outcome_one : (bs : List ℕ) (a b v v' : ℕ) (ys ys' : List ℕ) → RecordMended bs a b v ys → RecordMended bs a b v' ys' → (v ≡ v') × (ys ≡ ys')
outcome_one bs a b v v' ys ys' m m' = go (zero_or_not (read_refusal bs a b))
  where
    go : (read_refusal bs a b ≡ 0) ⊎ (read_refusal bs a b ≡ 0 → ⊥) → (v ≡ v') × (ys ≡ ys')
    go (inl z) = mended-one (shape_read bs) (pairs (lost_listed bs)) (described bs) v v' ys ys' (m.read_whole z) (m'.read_whole z)
    go (inr n) = ((m.unread n).0 ∙ sym (m'.unread n).0, (m.unread n).1 ∙ sym (m'.unread n).1)

pub answered_one : (bs xs es : List ℕ) (a a' : Answer) (ys ys' fs fs' : List ℕ) → Answered bs xs es a ys fs → Answered bs xs es a' ys' fs'
    → (a ≡ a') × ((ys ≡ ys') × (fs ≡ fs'))
answered_one bs xs es a a' ys ys' fs fs' p q =
    let o = outcome_one bs (length xs) (length es) a.number a'.number p.bytes q.bytes p.outcome q.outcome in (
      p.reported ∙ ap (answer_of bs) o.0 ∙ sym q.reported,
      (
        p.stripe ∙ ap₂ (λ (n : ℕ) (l : List ℕ). cond (eqb n 0) (over xs 0 l) xs) o.0 o.1 ∙ sym q.stripe,
        p.list ∙ ap (λ (n : ℕ). cond (eqb n 0) (over es 0 (lost_listed bs)) es) o.0 ∙ sym q.list,
      ),
    )

pub text_one : (bs t t' : List ℕ) → TextOf bs t → TextOf bs t' → t ≡ t'
text_one bs t t' p q =
    let o = outcome_one bs 65536 258 p.number q.number p.bytes q.bytes p.outcome q.outcome in
    p.lines ∙ ap₂ (λ (n : ℕ) (l : List ℕ). cond (eqb n 0) (stripe_text (shape_read bs) (lost_listed bs) l) (refusal_text n)) o.0 o.1 ∙ sym q.lines

pub printed_one : (bs out : List ℕ) (v v' : ℕ) (out' out'' : List ℕ) → Printed bs out v out' → Printed bs out v' out'' → (v ≡ v') × (out' ≡ out'')
printed_one bs out v v' out' out'' p q = go (leb text_room (length out)) refl
  where
    roomy : text_room ≤ length out → (v ≡ v') × (out' ≡ out'')
    roomy h =
        let f = p.roomy h in
        let g = q.roomy h in
        let t = text_one bs f.text g.text f.program g.program in
        (f.long ∙ ap length t ∙ sym g.long, f.bytes ∙ ap (over out 0) t ∙ sym g.bytes)

    go : (b : Bool) → leb text_room (length out) ≡ b → (v ≡ v') × (out' ≡ out'')
    go true e = roomy (leb-true text_room (length out) e)
    go false e =
        let h = leb-false text_room (length out) e in
        ((p.cramped h).0 ∙ sym (q.cramped h).0, (p.cramped h).1 ∙ sym (q.cramped h).1)

-- ---- the outcome where reading refuses, and where it does not

pub outcome_unread : (bs : List ℕ) (a b v : ℕ) → v ≡ read_refusal bs a b → (v ≡ 0 → ⊥) → RecordMended bs a b v []
outcome_unread bs a b v e n = record { unread = λ _. (e, refl); read_whole = λ z. absurd (n (e ∙ z)) }

pub outcome_read : (bs : List ℕ) (a b v : ℕ) (ys : List ℕ) → read_refusal bs a b ≡ 0 → Mended (shape_read bs) (pairs (lost_listed bs)) (described bs) v ys
    → RecordMended bs a b v ys
outcome_read bs a b v ys z m = record { unread = λ n. absurd (n z); read_whole = λ _. m }

pub outcome_lent : (bs : List ℕ) (a b v : ℕ) (ys : List ℕ) → a ≡ 65536 → b ≡ 258 → RecordMended bs 65536 258 v ys → RecordMended bs a b v ys
outcome_lent bs a b v ys e f m =
    subst (λ (n : ℕ). RecordMended bs n b v ys) (sym e) (subst (λ (n : ℕ). RecordMended bs 65536 n v ys) (sym f) m)

-- what is reported
abbrev pub refused_answer : ℕ → Answer
refused_answer v = record { number = v; shape = no_shape; lost = 0 }

pub refused_is : (bs : List ℕ) (v : ℕ) → (v ≡ 0 → ⊥) → refused_answer v ≡ answer_of bs v
refused_is bs v n =
    ap (λ (p : Bool). cond p (record { number = 0; shape = shape_read bs; lost = count_of bs }) (refused_answer v)) (sym (ne_eqb v 0 n))

pub worked_refused : (bs xs es ys : List ℕ) (v : ℕ) (a : Answer) → RecordMended bs 65536 258 v ys → (v ≡ 0 → ⊥) → a ≡ refused_answer v → Worked bs a xs es
worked_refused bs xs es ys v a m n e =
    subst (λ (x : Answer). Worked bs x xs es) (sym e)
    record { bytes = ys; outcome = m; reported = refused_is bs v n; stripe = λ z. absurd (n z); list = λ z. absurd (n z) }

pub answered_refused : (bs xs es ys : List ℕ) (v : ℕ) (a : Answer) → RecordMended bs (length xs) (length es) v ys → (v ≡ 0 → ⊥) → a ≡ refused_answer v
    → Answered bs xs es a xs es
answered_refused bs xs es ys v a m n e =
    subst (λ (x : Answer). Answered bs xs es x xs es) (sym e)
    record {
      bytes = ys;
      outcome = m;
      reported = refused_is bs v n;
      stripe = ap (λ (p : Bool). cond p (over xs 0 ys) xs) (sym (ne_eqb v 0 n));
      list = ap (λ (p : Bool). cond p (over es 0 (lost_listed bs)) es) (sym (ne_eqb v 0 n));
    }

-- ---- the text of an outcome

module _ (bs out out' : List ℕ) (v number : ℕ) (ys : List ℕ) (m : RecordMended bs 65536 258 number ys) (room : text_room ≤ length out) where
  pub printed_front : (text : List ℕ) → text ≡ cond (eqb number 0) (stripe_text (shape_read bs) (lost_listed bs) ys) (refusal_text number)
      → v ≡ length text → out' ≡ over out 0 text → Printed bs out v out'
  printed_front text e f g =
      record {
        cramped = λ h. absurd (omega arith);
        roomy = λ _. record { text = text; program = record { number = number; bytes = ys; outcome = m; lines = e }; long = f; bytes = g };
      }

  pub refusal_front : (number ≡ 0 → ⊥) → v ≡ length (refusal_printed number (length out)) → out' ≡ over out 0 (refusal_printed number (length out))
      → Printed bs out v out'
  refusal_front n f g =
      printed_front (refusal_printed number (length out))
      (printed_refusal number (length out) (omega arith)
      ∙ ap (λ (p : Bool). cond p (stripe_text (shape_read bs) (lost_listed bs) ys) (refusal_text number)) (sym (ne_eqb number 0 n))) f g

pub printed_cramped : (bs out : List ℕ) → length out < text_room → Printed bs out 0 out
printed_cramped bs out h = record { cramped = λ _. (refl, refl); roomy = λ r. absurd (omega arith) }

-- what is printed fits
pub printed_short : (bs out : List ℕ) (v : ℕ) (out' : List ℕ) → Printed bs out v out' → text_room ≤ length out → v ≤ length out'
printed_short bs out v out' p room =
    let f = p.roomy room in
    omega (arith, f.long, ap length f.bytes, over_least out 0 f.text)

-- what `?` hands on reports the refusal
pub reported_on : (r : Result Read Refusal) (e : Refusal) → IsErrAnd r (λ w. w ≡ e) → reported r ≡ refused_answer (refusal_number e)
reported_on (Ok x) e h = absurd h
reported_on (Err w) e h = ap (λ (v : Refusal). refused_answer (refusal_number v)) h
