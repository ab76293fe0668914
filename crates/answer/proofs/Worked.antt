-- What reading leaves in the buffers, what mending there gives, and what a caller knows of a record that was mended.
use Prim.Native.Nat.{ℕ, ◌+◌, ◌*◌, ◌≤◌}
use mathlib.Core.Path.{◌≡◌, sym, ap, ap₂, ◌∙◌, subst}
use mathlib.Core.Bool.{Bool, true, cond}
use mathlib.Core.Logic.{◌⊎◌, inl, inr}
use mathlib.Core.List.{List, ◌++◌}
use native.Mathlib.Omega.{arith}
use borrow.Author.Tests.{eq-eqb, le-leb}
use lib.ListN.{length, take}
use lib.Seq.{take_at}
use Rattle.field.proofs.Cases.{zero_or_not}
use Rattle.stripe.specs.declared.Shape.{Shape}
use Rattle.stripe.specs.Shape.{shape_refusal, columns, stripe_length}
use Rattle.record.specs.Reading.{Got, read_refusal, got_of, stripe_read, lost_read, shape_read, count_of, lost_listed, columns_filled, positions_filled}
use Rattle.record.proofs.Listing.{positions-length}
use Rattle.mending.specs.Mend.{Mended}
use Rattle.field.specs.Bytes.{over}
use Rattle.field.proofs.Over.{over_front}
use Rattle.text.specs.Text.{stripe_text, refusal_text, printable, stripe_printed, text_room}
use Rattle.answer.specs.Answer.{Answer, pairs, blank_stripe, described, RecordMended, answer_of, Worked, Answered, Printed}
use Rattle.answer.proofs.Reading.{blank_long, whole, got_number, got_whole, read_says, count_most, read_shaped}
use Rattle.text.proofs.Printed.{printed}
use Rattle.answer.proofs.Outcome.{outcome_read, outcome_lent, printed_front}

lost_long : (bs : List ℕ) → length (lost_listed bs) ≡ count_of bs
lost_long bs = positions-length bs (count_of bs) _

-- ---- the buffers after reading

module _ (bs held₀ list₀ : List ℕ) (got : Got) (held list : List ℕ) (pre : (held₀ ≡ blank_stripe) × (length list₀ ≡ 258))
    (e : (got ≡ got_of bs (length held₀) (length list₀)) × ((held ≡ stripe_read bs held₀ (length list₀)) × (list ≡ lost_read bs (length held₀) list₀))) where
  rooms : read_refusal bs (length held₀) (length list₀) ≡ read_refusal bs 65536 258
  rooms = ap₂ (λ (a b : ℕ). read_refusal bs a b) (ap length pre.0 ∙ blank_long) pre.1

  pub number_is : got.number ≡ read_refusal bs 65536 258
  number_is = ap (λ (g : Got). g.number) e.0 ∙ got_number bs (length held₀) (length list₀) ∙ rooms

  module _ (z : got.number ≡ 0) where
    pub none_refused : read_refusal bs 65536 258 ≡ 0
    none_refused = sym number_is ∙ z

    here : read_refusal bs (length held₀) (length list₀) ≡ 0
    here = rooms ∙ none_refused

    got_is : got ≡ whole bs
    got_is = e.0 ∙ got_whole bs (length held₀) (length list₀) here

    pub shape_is : got.shape ≡ shape_read bs
    shape_is = ap (λ (g : Got). g.shape) got_is

    pub lost_is : got.lost ≡ count_of bs
    lost_is = ap (λ (g : Got). g.lost) got_is

    held_is : held ≡ columns_filled bs blank_stripe
    held_is =
        e.1.0 ∙ ap (λ (p : Bool). cond p (columns_filled bs held₀) held₀) (eq-eqb (read_refusal bs (length held₀) (length list₀)) 0 here)
        ∙ ap (columns_filled bs) pre.0

    list_is : list ≡ positions_filled bs list₀
    list_is = e.1.1 ∙ ap (λ (p : Bool). cond p (positions_filled bs list₀) list₀) (eq-eqb (read_refusal bs (length held₀) (length list₀)) 0 here)

    pub columns_most : got.shape.k + got.shape.r ≤ 258
    columns_most =
        let a = (read_says bs 65536 258 none_refused).shape_allowed in
        omega (arith, a.columns_most, ap (λ (s : Shape). columns s) shape_is)

    pub stripe_most : (got.shape.k + got.shape.r) * got.shape.l ≤ 65536
    stripe_most = omega (arith, (read_says bs 65536 258 none_refused).stripe_short, ap stripe_length shape_is)

    pub list_most : got.lost ≤ 258
    list_most = omega (arith, lost_is, count_most bs 65536 258 none_refused)

    pub front_is : take ((got.shape.k + got.shape.r) * got.shape.l) held ≡ described bs
    front_is = ap₂ (λ (n : ℕ) (l : List ℕ). take n l) (ap stripe_length shape_is) held_is

    pub listed_is : take got.lost list ≡ lost_listed bs
    listed_is = ap₂ (λ (n : ℕ) (l : List ℕ). take n l) lost_is list_is ∙ ap (take (count_of bs)) (over_front list₀ (lost_listed bs))
        ∙ take_at (lost_listed bs) _ (count_of bs) (lost_long bs)

    -- the buffers mended
    module _ (v : ℕ) (ys : List ℕ)
        (m : Mended got.shape (pairs (take got.lost list)) (take ((got.shape.k + got.shape.r) * got.shape.l) held) v ys) where
      pub mended_outcome : RecordMended bs 65536 258 v ys
      mended_outcome =
          outcome_read bs 65536 258 v ys none_refused
          (subst (λ (s : Shape). Mended s (pairs (lost_listed bs)) (described bs) v ys) shape_is
          (subst (λ (es : List ℕ). Mended got.shape (pairs es) (described bs) v ys) listed_is
          (subst (λ (xs : List ℕ). Mended got.shape (pairs (take got.lost list)) xs v ys) front_is m)))

      pub worked : v ≡ 0 → length ys ≡ (got.shape.k + got.shape.r) * got.shape.l → (rest : List ℕ)
          → Worked bs (record { number = 0; shape = got.shape; lost = got.lost }) (ys ++ rest) list
      worked y h rest =
          record {
            bytes = ys;
            outcome = subst (λ (n : ℕ). RecordMended bs 65536 258 n ys) y mended_outcome;
            reported = λ i. record { number = 0; shape = shape_is i; lost = lost_is i };
            stripe = λ _. ap (λ (s : Shape). take (stripe_length s) (ys ++ rest)) (sym shape_is) ∙ take_at ys rest _ h;
            list = λ _. ap (λ (n : ℕ). take n list) (sym lost_is) ∙ listed_is;
          }

-- ---- what a caller knows

module _ (bs : List ℕ) (a : Answer) (xs es : List ℕ) (w : Worked bs a xs es) (z : a.number ≡ 0) where
  pub was_read : read_refusal bs 65536 258 ≡ 0
  was_read = go (zero_or_not (read_refusal bs 65536 258))
    where
      go : (read_refusal bs 65536 258 ≡ 0) ⊎ (read_refusal bs 65536 258 ≡ 0 → ⊥) → read_refusal bs 65536 258 ≡ 0
      go (inl e) = e
      go (inr n) = sym (w.outcome.unread n).0 ∙ z

  answer_is : a ≡ record { number = 0; shape = shape_read bs; lost = count_of bs }
  answer_is = w.reported ∙ ap (answer_of bs) z

  pub answer_shape : a.shape ≡ shape_read bs
  answer_shape = ap (λ (b : Answer). b.shape) answer_is

  pub answer_lost : a.lost ≡ count_of bs
  answer_lost = ap (λ (b : Answer). b.lost) answer_is

  pub answer_columns : a.shape.k + a.shape.r ≤ 258
  answer_columns =
      let b = (read_says bs 65536 258 was_read).shape_allowed in
      omega (arith, b.columns_most, ap (λ (s : Shape). columns s) answer_shape)

  pub answer_stripe : (a.shape.k + a.shape.r) * a.shape.l ≤ 65536
  answer_stripe = omega (arith, (read_says bs 65536 258 was_read).stripe_short, ap stripe_length answer_shape)

  pub answer_list : a.lost ≤ 258
  answer_list = omega (arith, answer_lost, count_most bs 65536 258 was_read)

  pub answer_bytes : take ((a.shape.k + a.shape.r) * a.shape.l) xs ≡ w.bytes
  answer_bytes = ap (λ (s : Shape). take (stripe_length s) xs) answer_shape ∙ w.stripe z

  pub answer_positions : take a.lost es ≡ lost_listed bs
  answer_positions = ap (λ (n : ℕ). take n es) answer_lost ∙ w.list z

  -- the buffers handed out
  pub answered : (xs₀ es₀ xs' es' : List ℕ) → length xs₀ ≡ 65536 → length es₀ ≡ 258
      → xs' ≡ over xs₀ 0 (take ((a.shape.k + a.shape.r) * a.shape.l) xs) → es' ≡ over es₀ 0 (take a.lost es) → Answered bs xs₀ es₀ a xs' es'
  answered xs₀ es₀ xs' es' e f g h =
      let zero = sym (eq-eqb a.number 0 z) in
      record {
        bytes = w.bytes;
        outcome = outcome_lent bs (length xs₀) (length es₀) a.number w.bytes e f w.outcome;
        reported = w.reported;
        stripe = g ∙ ap (over xs₀ 0) answer_bytes ∙ ap (λ (p : Bool). cond p (over xs₀ 0 w.bytes) xs₀) zero;
        list = h ∙ ap (over es₀ 0) answer_positions ∙ ap (λ (p : Bool). cond p (over es₀ 0 (lost_listed bs)) es₀) zero;
      }

  -- the buffers printed
  module _ (xs₁ es₁ : List ℕ) (e : xs₁ ≡ take ((a.shape.k + a.shape.r) * a.shape.l) xs) (f : es₁ ≡ take a.lost es)
      (long : length xs₁ ≡ (a.shape.k + a.shape.r) * a.shape.l) (out : List ℕ) (room : text_room ≤ length out) where
    can : printable a.shape (length xs₁) (length out) ≡ true
    unfolding printable
    can =
        simp (
          eq-eqb (shape_refusal a.shape) 0 (ap shape_refusal answer_shape ∙ read_shaped bs 65536 258 was_read),
          eq-eqb (length xs₁) (stripe_length a.shape) long,
          le-leb (length xs₁) 65536 (omega (arith, answer_stripe)),
          le-leb text_room (length out) room,
        )

    text_is : stripe_text a.shape es₁ xs₁ ≡ stripe_text (shape_read bs) (lost_listed bs) w.bytes
    text_is =
        ap (λ (s : Shape). stripe_text s es₁ xs₁) answer_shape
        ∙ ap₂ (λ (l x : List ℕ). stripe_text (shape_read bs) l x) (f ∙ answer_positions) (e ∙ answer_bytes)

    pub text_front : (v : ℕ) (out' : List ℕ) → v ≡ length (stripe_printed a.shape es₁ xs₁ (length out))
        → out' ≡ over out 0 (stripe_printed a.shape es₁ xs₁ (length out)) → Printed bs out v out'
    text_front v out' g h =
        printed_front bs out out' v a.number w.bytes w.outcome room (stripe_printed a.shape es₁ xs₁ (length out))
        (printed a.shape es₁ xs₁ (length out) can ∙ text_is
        ∙ ap (λ (p : Bool). cond p (stripe_text (shape_read bs) (lost_listed bs) w.bytes) (refusal_text a.number)) (sym (eq-eqb a.number 0 z))) g h
