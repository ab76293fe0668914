-- `judge_rest` meets its contract: each return is the first refusal, or all are 0.
use Prim.Native.Nat.{ℕ, ◌-◌, ◌*◌, ◌≤◌}
use mathlib.Core.List.{List}
use mathlib.Core.Path.{◌≡◌, sym, ap, ap₂, ◌∙◌}
use native.Mathlib.Nat.{mul-le-mul_right}
use native.Mathlib.Omega.{arith}
use lib.ListN.{length}
use Rattle.stripe.specs.declared.refusal.Refusal.TheVariants as refusal
use Rattle.stripe.specs.Shape.{columns}
use Rattle.stripe.proofs.Refused.{handed_on, refused_some}
use Rattle.number.specs.Number.{Standing, Value, number_at, number_refusal, value_of, next_of}
use Rattle.number.proofs.Reported.{flaw_refused}
use Rattle.number.specs.declared.Number.{Number}
use Rattle.record.specs.declared.read.Head.{Head}
use Rattle.record.specs.Reading.{head_read, shape_read, count_number, positions_refusal, after_positions, columns_refusal}
use Rattle.record.proofs.Refusals.{described, head_described, rest_count, rest_many, rest_positions, rest_columns, content_rest}
use Rattle.record.proofs.read.judge_rest.Goals as goal
use Rattle.record.proofs.read.judge_rest.Goals.{In_ok-count}

pub returns-in_err-count-clause-refusal : goal.returns-in_err-count-clause-refusal
returns-in_err-count-clause-refusal c =
    let s = c.args.s.now in
    let e = c.in_err-count in
    let g = e.ensures ∙ ap (λ (h : Head). number_at s h.next) c.requires.head_is in
    handed_on _ refusal.Cut c.from_residual.ensures.1
    ∙ rest_count s (shape_read s) (count_number s) 9 (flaw_refused e.field-0.0 _ g) (λ z. omega arith)
    ∙ content_rest s c.requires.accepted

-- the lost count stands after the front
counted : (c : In_ok-count) → let n = c.in_ok-count.count in Value n.value n.next ≡ count_number c.args.s.now
counted c = c.in_ok-count.ensures ∙ ap (λ (h : Head). number_at c.args.s.now h.next) c.requires.head_is

-- the front h and the count n that were read
module _ (s : List ℕ) (h : Head) (n : Number) (front : h ≡ head_read s) (g : Value n.value n.next ≡ count_number s) where
  columns_are : columns h.shape ≡ columns (shape_read s)
  columns_are = ap (λ (y : Head). columns y.shape) front

  few : n.value ≤ columns h.shape → value_of (count_number s) ≤ columns (shape_read s)
  few l = omega (arith, ap value_of g, columns_are)

  positions_are : positions_refusal s (columns h.shape) n.value 0 n.next
      ≡ positions_refusal s (columns (shape_read s)) (value_of (count_number s)) 0 (next_of (count_number s))
  positions_are =
      ap (λ (i : ℕ). positions_refusal s i n.value 0 n.next) columns_are
      ∙ ap (λ (w : Standing). positions_refusal s (columns (shape_read s)) (value_of w) 0 (next_of w)) g

  bytes_are : (end have : ℕ) → end ≡ after_positions s n.value n.next → have ≡ length s - end
      → columns_refusal have ((columns h.shape - n.value) * h.shape.l)
      ≡ columns_refusal (length s - after_positions s (value_of (count_number s)) (next_of (count_number s)))
      ((columns (shape_read s) - value_of (count_number s)) * (shape_read s).l)
  bytes_are end have e b =
      ap₂ (λ (x : ℕ) (y : Head). columns_refusal x ((columns y.shape - n.value) * y.shape.l)) (b ∙ ap (λ (i : ℕ). length s - i) e) front
      ∙ ap (λ (w : Standing). columns_refusal (length s - after_positions s (value_of w) (next_of w))
      ((columns (shape_read s) - value_of w) * (shape_read s).l)) g

pub returns-then-n-count-clause-refusal : goal.returns-then-n-count-clause-refusal
returns-then-n-count-clause-refusal c =
    let s = c.args.s.now in
    let d = (goal.at.returns-then-n-count-clause-refusal c).In_ok-count in
    let g = counted d in
    let wide = columns_are s c.args.head c.in_ok-count.count c.requires.head_is g in
    rest_many s (shape_read s) (count_number s) (sym (ap number_refusal g)) (omega (arith, ap value_of g, wide))
    ∙ content_rest s c.requires.accepted

pub returns-in_err-end-clause-refusal : goal.returns-in_err-end-clause-refusal
returns-in_err-end-clause-refusal c =
    let s = c.args.s.now in
    let n = c.in_ok-count.count in
    let g = counted (goal.at.returns-in_err-end-clause-refusal c).In_ok-count in
    let few = few s c.args.head n c.requires.head_is g c.if-n-count.false in
    let e = c.in_err-end in
    let some = refused_some e.field-0.0 in
    handed_on _ e.field-0.0 c.from_residual-in_err-end.ensures.1
    ∙ rest_positions s (shape_read s) (count_number s) (sym (ap number_refusal g)) few _
    (e.ensures.refusal ∙ positions_are s c.args.head n c.requires.head_is g) (λ z. omega arith)
    ∙ content_rest s c.requires.accepted

pub overflow_mul-n : goal.overflow_mul-n
overflow_mul-n c =
    let head = c.args.head in
    let d = (goal.at.overflow_mul-n c).In_ok-count in
    let w = described (shape_read c.args.s.now) (head_described c.args.s.now c.requires.accepted) in
    let short = ap (λ (h : Head). columns h.shape * h.shape.l) c.requires.head_is in
    omega (
      arith,
      w.1,
      short,
      mul-le-mul_right {m = columns head.shape - c.in_ok-count.count.value} {n = columns head.shape} head.shape.l (omega arith),
    )

pub returns-in_err-columns_refusal-clause-refusal : goal.returns-in_err-columns_refusal-clause-refusal
returns-in_err-columns_refusal-clause-refusal c =
    let s = c.args.s.now in
    let n = c.in_ok-count.count in
    let g = counted (goal.at.returns-in_err-columns_refusal-clause-refusal c).In_ok-count in
    let few = few s c.args.head n c.requires.head_is g c.if-n-count.false in
    let e = c.in_err-columns_refusal in
    let p = c.in_ok-end.ensures in
    handed_on _ e.field-0.0 c.from_residual-in_err-columns_refusal.ensures.1
    ∙ rest_columns s (shape_read s) (count_number s) (sym (ap number_refusal g)) few
    (sym (p.refusal ∙ positions_are s c.args.head n c.requires.head_is g)) _
    (e.ensures ∙ bytes_are s c.args.head n c.requires.head_is g _ _ p.ok c.saturating_sub.ensures)
    ∙ content_rest s c.requires.accepted

pub returns-clause-refusal : goal.returns-clause-refusal
returns-clause-refusal c =
    let s = c.args.s.now in
    let n = c.in_ok-count.count in
    let g = counted (goal.at.returns-clause-refusal c).In_ok-count in
    let few = few s c.args.head n c.requires.head_is g c.if-n-count.false in
    let p = c.in_ok-end.ensures in
    rest_columns s (shape_read s) (count_number s) (sym (ap number_refusal g)) few
    (sym (p.refusal ∙ positions_are s c.args.head n c.requires.head_is g)) 0
    (c.in_ok-columns_refusal.ensures ∙ bytes_are s c.args.head n c.requires.head_is g _ _ p.ok c.saturating_sub.ensures)
    ∙ content_rest s c.requires.accepted
