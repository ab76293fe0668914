-- `restore_rows` meets its contract.
use Prim.Native.Nat.{ℕ}
use mathlib.Core.Path.{◌≡◌, refl, sym, subst, ◌∙◌}
use mathlib.Core.Logic.{inl, inr}
use Rattle.field.specs.Bytes.{Bytes}
use Rattle.stripe.specs.declared.Shape.{Shape}
use Rattle.stripe.specs.Shape.{parity_length, stripe_length}
use Rattle.syndromes.specs.Syndromes.{Lent}
use Rattle.mending.specs.declared.few.Few.{Few}
use Rattle.mending.specs.Mend.{Restored}
use Rattle.mending.specs.declared.system.System.{System}
use Rattle.mending.specs.Few.{few_list}
use Rattle.mending.specs.Restore.{ReadyRows}
use Rattle.mending.specs.System.{Posed}
use Rattle.mending.proofs.Restored.{none_restored, restored}
use Rattle.mending.proofs.restore_rows.Goals as goal

-- the stripe, the rows and the pivot are as `syndromes` wants them
lent : (s : Shape) (l : Few) (p : System) (d n : ℕ) → ReadyRows s l → Posed s p → d ≡ stripe_length s → n ≡ parity_length s → Lent s p.pivot d n
lent s l p d n r w hd hn = record { shape = r.shape; rows = r.rows; long = hd; room = hn; apart = w.pivot_apart }

pub solve_runs-requires : goal.solve_runs-requires
solve_runs-requires c =
    let w = c.requires in
    let p = c.system_of-p in
    let sy = c.syndromes.ensures.lent (lent _ _ _ _ _ w.0 p.ensures.1 w.1.0 w.1.1) in
    record { shape = w.0.shape; posed = p.ensures.1; long = sy.long }

pub settle-requires : goal.settle-requires
settle-requires c =
    let system-of = c.system_of-p in
    let syndromes = c.syndromes in
    let w = c.requires in
    let r = c.solve_runs.ensures in
    record {
      shape = w.0.shape;
      posed = system-of.ensures.1;
      long = r.long ∙ (syndromes.ensures.lent (lent _ _ _ _ _ w.0 system-of.ensures.1 w.1.0 w.1.1)).long;
    }

pub returns-then-not-settle : goal.returns-then-not-settle
returns-then-not-settle c =
    let a = c.args in
    let w = c.requires in
    let p = c.system_of-p in
    let bytes : Bytes a.stripe.now = λ i. (c.slice_known-1.given i).fits in
    let sy = c.syndromes.ensures.lent (lent _ _ _ _ _ w.0 p.ensures.1 w.1.0 w.1.1) in
    inr (
      refl,
      (
        refl,
        λ zs r.
            none_restored a.s w.0.shape p.result p.ensures.1 a.stripe.now bytes
            (c.settle.ensures.not_so a.stripe.now bytes (c.solve_runs.ensures.all a.stripe.now bytes sy) (c.if-not-settle.true)) zs
            (subst (λ (l : Few). Restored a.s (few_list l) a.stripe.now zs) (sym p.ensures.0) r),
      ),
    )

pub write-requires : goal.write-requires
write-requires c =
    let w = c.requires in (
      record {
        shape = w.0.shape;
        posed = c.system_of-p.ensures.1;
        long = c.settle.ensures.long ∙ c.solve_runs.ensures.long ∙ (c.syndromes.ensures.lent (lent _ _ _ _ _ w.0 c.system_of-p.ensures.1 w.1.0 w.1.1)).long;
      },
      w.1.0,
    )

pub returns : goal.returns
returns c =
    let a = c.args in
    let w = c.requires in
    let p = c.system_of-p in
    let bytes : Bytes a.stripe.now = λ i. (c.slice_known-1.given i).fits in
    let sy =
    c.syndromes.ensures.lent
    (lent _ _ _ _ _ w.0 p.ensures.1 w.1.0 w.1.1) in
    let k = c.settle in
    let e = c.write in
    inl (
      refl,
      subst (λ (l : Few). Restored a.s (few_list l) a.stripe.now e.new.stripe) p.ensures.0
          (restored a.s w.0.shape p.result p.ensures.1 a.stripe.now bytes k.new.slots e.new.stripe
          (λ i. (c.slice_known-5-1.given i).fits) (λ i. (c.slice_known-6-1.given i).fits) (e.ensures.long ∙ w.1.0)
          (k.ensures.so a.stripe.now bytes (c.solve_runs.ensures.all a.stripe.now bytes sy) (c.if-not-settle.false)) e.ensures),
    )
