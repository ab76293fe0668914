-- `mend` meets its contract: refused, or checked where nothing is lost, or restored.
use Prim.Native.Nat.{ℕ}
use mathlib.Core.Path.{◌≡◌, refl, sym, ap, subst, ◌∙◌}
use mathlib.Core.List.{List, []}
use native.Mathlib.Omega.{arith}
use lib.ListN.{length}
use Rattle.lost.specs.declared.Lost.{Lost}
use Rattle.lost.specs.Lost.{lost_list}
use Rattle.lost.specs.Positions.{positions}
use Rattle.lost.proofs.Listed.{positions_short}
use Rattle.stripe.specs.Refusal.{refusal_of}
use Rattle.stripe.proofs.Refused.{handed_on, refused_some}
use Rattle.mending.specs.Mend.{mend_refusal}
use Rattle.mending.specs.Restore.{Ready, Restores}
use Rattle.mending.proofs.Restored.{ready, list_same}
use Rattle.mending.proofs.Passed.{passed}
use Rattle.mending.proofs.mend.Goals as goal

pub returns-in_err-mend_refusal : goal.returns-in_err-mend_refusal
returns-in_err-mend_refusal c =
    let e = c.in_err-mend_refusal in
    let some = refused_some e.field-0.0 in
    record {
      refused = λ n. (handed_on _ e.field-0.0 c.from_residual.ensures.1 ∙ e.ensures, refl);
      judged = λ z. absurd (omega (arith, some, e.ensures, z));
    }

pub check-requires : goal.check-requires
check-requires c =
    let a = c.args in
    let z : mend_refusal a.s (length a.stripe.now) a.lost.now ≡ 0 = sym c.in_ok-mend_refusal.ensures in
    let p = passed a.s (length a.stripe.now) a.lost.now z in
    (p.shape, p.long)

pub returns-then-lost-lt1 : goal.returns-then-lost-lt1
returns-then-lost-lt1 c =
    let check = c.check in
    let a = c.args in
    let z : mend_refusal a.s (length a.stripe.now) a.lost.now ≡ 0 = sym c.in_ok-mend_refusal.ensures in
    let e : [] ≡ positions a.lost.now = sym (positions_short a.lost.now (omega arith)) in
    record {
      refused = λ n. absurd (n z);
      judged = λ y. subst (λ (es : List ℕ). Restores a.s es a.stripe.now (refusal_of check.result) check.new.stripe) e check.ensures;
    }

pub restore-requires : goal.restore-requires
restore-requires c =
    let a = c.args in
    let z : mend_refusal a.s (length a.stripe.now) a.lost.now ≡ 0 = sym c.in_ok-mend_refusal.ensures in (
      subst (λ (w : Lost). Ready a.s w) (sym c.lost_of.ensures) (ready a.s a.lost.now a.stripe.now z),
      (passed a.s (length a.stripe.now) a.lost.now z).long,
    )

pub returns : goal.returns
returns c =
    let lost-of = c.lost_of in
    let restore = c.restore in
    let a = c.args in
    let z : mend_refusal a.s (length a.stripe.now) a.lost.now ≡ 0 = sym c.in_ok-mend_refusal.ensures in
    let e : lost_list lost-of.result ≡ positions a.lost.now = ap lost_list lost-of.ensures ∙ list_same a.s a.lost.now a.stripe.now z in
    record {
      refused = λ n. absurd (n z);
      judged = λ y. subst (λ (es : List ℕ). Restores a.s es a.stripe.now (refusal_of restore.result) restore.new.stripe) e restore.ensures;
    }
