-- Writing a record: its length, its positions one at a time, and its refusals in their order.
use Prim.Native.Nat.{ℕ, zero, suc, ◌+◌, ◌-◌, ◌*◌, ◌≤◌, ◌<◌}
use mathlib.Core.Path.{◌≡◌, refl, sym, ap, ap₂, ◌∙◌}
use mathlib.Core.Bool.{Bool, true, false, cond}
use mathlib.Core.List.{List, [], ◌∷◌, ◌++◌}
use mathlib.Core.Logic.{⊎_elim}
use native.Mathlib.Nat.{suc-mul, add-mul, zero-add}
use native.Mathlib.Numerals.{add-one}
use native.Mathlib.Omega.{arith}
use lib.Dec.{leb, eqb}
use lib.ListN.{length, get_or, take, drop, length-append, length-drop, drop_of_length-le}
use lib.Seq.{sets, length-take-le}
use borrow.Author.Tests.{le-leb, lt-leb, eq-eqb, ne_eqb, leb-true, eqb-true}
use Rattle.std.specs.Prelude.{IsErrAnd}
use Rattle.std.specs.declared.result.Result.{Result}
use Rattle.std.specs.declared.result.Result.TheVariants.{Ok, Err}
use Rattle.stripe.specs.declared.Shape.{Shape}
use Rattle.stripe.specs.declared.refusal.Refusal.{Refusal}
use Rattle.stripe.specs.Refusal.{refusal_number, refusal_of}
use Rattle.stripe.proofs.Refused.{refused_some, same_answer}
use Rattle.stripe.specs.Shape.{columns, stripe_length, most_rows}
use Rattle.stripe.specs.Stripe.{among, Ascending, ascending}
use Rattle.stripe.proofs.Allowed.{Allowed}
use Rattle.stripe.proofs.Ascending.{ascending-nil, ascending_low, ascending_high, ascending_next, ascending_says}
use Rattle.number.specs.Number.{written}
use Rattle.record.specs.Layout.{positions_written, survivors, kept, record_head, record_of}
use Rattle.record.specs.Reading.{unless, stripe_refusal}
use Rattle.writing.specs.Writing.{Written, write_refusal, reported, written_of, out_written}
use Rattle.number.proofs.Written.{drop_next, groups_most}
use Rattle.field.proofs.Over.{sets_over}
use Rattle.record.proofs.Survivors.{survivors_lost, survivors_kept}
use Rattle.record.proofs.Refusals.{stop, skip, end, passed, failed, first_zero, described}
use Rattle.record.proofs.Accepted.{kept_lost, unless-zero}
use Rattle.writing.proofs.Surviving.{sets_append}

-- ---- positions in order

module _ (xs : List ℕ) (n least i : ℕ) (inside : i < length xs) where
  pub ascends_low : get_or xs i 0 < least → ascending least n (drop i xs) ≡ false
  ascends_low h = ap (ascending least n) (drop_next xs i inside) ∙ ascending_low least n _ _ h

  pub ascends_high : least ≤ get_or xs i 0 → n ≤ get_or xs i 0 → ascending least n (drop i xs) ≡ false
  ascends_high l h = ap (ascending least n) (drop_next xs i inside) ∙ ascending_high least n _ _ l h

  pub ascends_turn : least ≤ get_or xs i 0 → get_or xs i 0 < n → ascending least n (drop i xs) ≡ ascending (get_or xs i 0 + 1) n (drop (i + 1) xs)
  ascends_turn l h =
      ap (ascending least n) (drop_next xs i inside) ∙ ascending_next least n _ _ l h
      ∙ ap (λ (a : ℕ). ascending a n (drop (i + 1) xs)) (sym (add-one (get_or xs i 0)))

pub ascends_done : (xs : List ℕ) (n least i : ℕ) → length xs ≤ i → ascending least n (drop i xs) ≡ true
ascends_done xs n least i h = ap (ascending least n) (drop_of_length-le xs h) ∙ ascending-nil least n

-- ---- positions written

pub positions_here : (xs : List ℕ) (i : ℕ) → i < length xs → positions_written (drop i xs) ≡ written (get_or xs i 0) ++ positions_written (drop (i + 1) xs)
unfolding positions_written
positions_here xs i h = ap positions_written (drop_next xs i h)

pub positions_end : (xs : List ℕ) (i : ℕ) → length xs ≤ i → positions_written (drop i xs) ≡ []
unfolding positions_written
positions_end xs i h = ap positions_written (drop_of_length-le xs h)

pub positions_bytes : (xs : List ℕ) (i : ℕ) → i < length xs
    → length (positions_written (drop i xs)) ≡ length (written (get_or xs i 0)) + length (positions_written (drop (i + 1) xs))
positions_bytes xs i h = ap length (positions_here xs i h) ∙ length-append (written (get_or xs i 0)) (positions_written (drop (i + 1) xs))

pub positions_most : (xs : List ℕ) → length (positions_written xs) ≤ 5 * length xs
unfolding positions_written
positions_most [] = omega arith
positions_most (x ∷ xs) = omega (arith, length-append (written x) (positions_written xs), groups_most 5 x, positions_most xs)

pub positions_turn : (out out' xs : List ℕ) (at i : ℕ) → i < length xs → out' ≡ sets out at (written (get_or xs i 0))
    → sets out' (at + length (written (get_or xs i 0))) (positions_written (drop (i + 1) xs)) ≡ sets out at (positions_written (drop i xs))
positions_turn out out' xs at i h e =
    ap (λ (o : List ℕ). sets o (at + length (written (get_or xs i 0))) (positions_written (drop (i + 1) xs))) e
    ∙ sets_append (written (get_or xs i 0)) (positions_written (drop (i + 1) xs)) out at ∙ ap (sets out at) (sym (positions_here xs i h))

-- ---- how long a record is

pub head_bytes : (s : Shape) (es : List ℕ)
    → length (record_head s es)
    ≡ length (written s.k) + length (written s.r) + length (written s.t) + length (written s.l) + length (written (length es))
    + length (positions_written es)
unfolding record_head
head_bytes s es = simp length-append (omega arith)

pub head_most : (s : Shape) (es : List ℕ) → length es ≤ 258 → length (record_head s es) ≤ 1315
head_most s es h =
    omega (
      arith,
      head_bytes s es,
      groups_most 5 s.k,
      groups_most 5 s.r,
      groups_most 5 s.t,
      groups_most 5 s.l,
      groups_most 5 (length es),
      positions_most es,
    )

survivors-one : (l c m : ℕ) (es xs : List ℕ) (b : Bool) → among c es ≡ b → l ≤ length xs
    → length (survivors l es c (suc m) xs) ≡ cond b 0 1 * l + length (survivors l es (suc c) m (drop l xs))
survivors-one l c m es xs true e h = ap length (survivors_lost l c m es xs e) ∙ omega arith
survivors-one l c m es xs false e h =
    ap length (survivors_kept l c m es xs e) ∙ length-append (take l xs) (survivors l es (suc c) m (drop l xs)) ∙ omega (arith, length-take-le l xs h)

pub survivors_bytes : (l c m : ℕ) (es xs : List ℕ) → m * l ≤ length xs → length (survivors l es c m xs) ≡ kept es c m * l
unfolding survivors kept
survivors_bytes l c zero es xs h = omega arith
survivors_bytes l c (suc m) es xs h =
    let e = suc-mul m l in
    survivors-one l c m es xs (among c es) refl (omega arith)
    ∙ ap (λ (x : ℕ). cond (among c es) 0 1 * l + x) (survivors_bytes l (suc c) m es (drop l xs) (omega (arith, length-drop l xs)))
    ∙ sym (add-mul (cond (among c es) 0 1) (kept es (suc c) m) l)

pub few_lost : (n : ℕ) (es : List ℕ) → Ascending 0 n es → kept es 0 n + length es ≡ n
few_lost n es h = kept_lost n n 0 es h (omega arith)

pub record_bytes : (s : Shape) (es xs : List ℕ) → Ascending 0 (columns s) es → length xs ≡ stripe_length s
    → length (record_of s es xs) ≡ length (record_head s es) + (columns s - length es) * s.l
unfolding record_of
record_bytes s es xs h e =
    let k : kept es 0 (columns s) ≡ columns s - length es = omega (arith, few_lost (columns s) es h) in
    length-append (record_head s es) (survivors s.l es 0 (columns s) xs)
    ∙ ap (λ (x : ℕ). length (record_head s es) + x) (survivors_bytes s.l 0 (columns s) es xs (omega arith) ∙ ap (λ (n : ℕ). n * s.l) k)

-- ---- an allowed shape's numbers fit 32 bits

pub mark_small : (s : Shape) → Allowed s → s.t ≤ most_rows
mark_small s a = ⊎_elim (λ e. omega arith) (λ p. p.mark_most) a.mark

-- ---- numbers put one after the other

pub put_then : (out out' xs ys : List ℕ) (at at' : ℕ) → out' ≡ sets out at xs → at' ≡ at + length xs → sets out' at' ys ≡ sets out at (xs ++ ys)
put_then out out' xs ys at at' e p =
    ap₂ (λ (o : List ℕ) (n : ℕ). sets o n ys) e p ∙ sets_append xs ys out at

pub head_is : (s : Shape) (es : List ℕ)
    → written s.k ++ (written s.r ++ (written s.t ++ (written s.l ++ (written (length es) ++ positions_written es)))) ≡ record_head s es
unfolding record_head
head_is s es = refl

pub head_put : (s : Shape) (es o o1 o2 o3 o4 o5 o6 : List ℕ) (a1 a2 a3 a4 a5 : ℕ)
    → a1 ≡ 0 + length (written s.k) → o1 ≡ sets o 0 (written s.k)
    → a2 ≡ a1 + length (written s.r) → o2 ≡ sets o1 a1 (written s.r)
    → a3 ≡ a2 + length (written s.t) → o3 ≡ sets o2 a2 (written s.t)
    → a4 ≡ a3 + length (written s.l) → o4 ≡ sets o3 a3 (written s.l)
    → a5 ≡ a4 + length (written (length es)) → o5 ≡ sets o4 a4 (written (length es))
    → o6 ≡ sets o5 a5 (positions_written es) → o6 ≡ sets o 0 (record_head s es)
head_put s es o o1 o2 o3 o4 o5 o6 a1 a2 a3 a4 a5 e1 q1 e2 q2 e3 q3 e4 q4 e5 q5 q6 =
    let m = written (length es) ++ positions_written es in
    let l = written s.l ++ m in
    let t = written s.t ++ l in
    q6 ∙ put_then o4 o5 (written (length es)) (positions_written es) a4 a5 q5 e5 ∙ put_then o3 o4 (written s.l) m a3 a4 q4 e4
    ∙ put_then o2 o3 (written s.t) l a2 a3 q3 e3 ∙ put_then o1 o2 (written s.r) t a1 a2 q2 e2
    ∙ put_then o o1 (written s.k) (written s.r ++ t) 0 a1 q1 e1 ∙ ap (sets o 0) (head_is s es)

pub record_is : (s : Shape) (es xs : List ℕ) → record_head s es ++ survivors s.l es 0 (columns s) xs ≡ record_of s es xs
unfolding record_of
record_is s es xs = refl

pub record_put : (s : Shape) (es xs out out' out'' : List ℕ) (at : ℕ) → out' ≡ sets out 0 (record_head s es) → at ≡ length (record_head s es)
    → out'' ≡ sets out' at (survivors s.l es 0 (columns s) xs) → out'' ≡ sets out 0 (record_of s es xs)
record_put s es xs out out' out'' at e p q =
    q ∙ put_then out out' (record_head s es) (survivors s.l es 0 (columns s) xs) 0 at e (p ∙ sym (zero-add (length (record_head s es))))
    ∙ ap (sets out 0) (record_is s es xs)

-- ---- the refusals of writing, in their order

module _ (s : Shape) (xs es : List ℕ) (room : ℕ) where
  pub write_stripe : (num : ℕ) → num ≡ stripe_refusal s → (num ≡ 0 → ⊥) → num ≡ write_refusal s xs es room
  unfolding write_refusal
  write_stripe num e z = stop num _ _ e z

  module _ (one : stripe_refusal s ≡ 0) where
    pub write_buffer : (length xs ≡ stripe_length s → ⊥) → ◌≡◌ {A = ℕ} 5 (write_refusal s xs es room)
    unfolding write_refusal
    write_buffer h = stop 5 _ _ (failed _ 5 (ne_eqb (length xs) (stripe_length s) h)) (λ z. omega arith) ∙ skip _ _ one

    module _ (exact : length xs ≡ stripe_length s) where
      two : unless (eqb (length xs) (stripe_length s)) 5 ≡ 0
      two = passed _ 5 (eq-eqb (length xs) (stripe_length s) exact)

      pub write_order : ascending 0 (columns s) es ≡ false → ◌≡◌ {A = ℕ} 6 (write_refusal s xs es room)
      unfolding write_refusal
      write_order h = stop 6 _ _ (failed _ 6 h) (λ z. omega arith) ∙ skip _ _ two ∙ skip _ _ one

      module _ (ordered : ascending 0 (columns s) es ≡ true) where
        three : unless (ascending 0 (columns s) es) 6 ≡ 0
        three = passed _ 6 ordered

        pub write_long : 65536 < length (record_of s es xs) → ◌≡◌ {A = ℕ} 5 (write_refusal s xs es room)
        unfolding write_refusal
        write_long h = stop 5 _ _ (failed _ 5 (lt-leb (length (record_of s es xs)) 65536 h)) (λ z. omega arith) ∙ skip _ _ three ∙ skip _ _ two ∙ skip _ _ one

        module _ (short : length (record_of s es xs) ≤ 65536) where
          four : unless (leb (length (record_of s es xs)) 65536) 5 ≡ 0
          four = passed _ 5 (le-leb (length (record_of s es xs)) 65536 short)

          pub write_room : room < length (record_of s es xs) → ◌≡◌ {A = ℕ} 5 (write_refusal s xs es room)
          unfolding write_refusal
          write_room h =
              stop 5 _ [] (failed _ 5 (lt-leb (length (record_of s es xs)) room h)) (λ z. omega arith) ∙ skip _ _ four ∙ skip _ _ three ∙ skip _ _ two
              ∙ skip _ _ one

          pub write_lawful : length (record_of s es xs) ≤ room → ◌≡◌ {A = ℕ} 0 (write_refusal s xs es room)
          unfolding write_refusal
          write_lawful h =
              end ∙ skip _ [] (passed _ 5 (le-leb (length (record_of s es xs)) room h)) ∙ skip _ _ four ∙ skip _ _ three ∙ skip _ _ two ∙ skip _ _ one

-- what a stripe and a list that can be written say
pub record Writable (s : Shape) (xs es : List ℕ) (room : ℕ) : Type 0 where
  pub stripe_described : stripe_refusal s ≡ 0
  pub exact : length xs ≡ stripe_length s
  pub ascending : Ascending 0 (columns s) es
  pub short : length (record_of s es xs) ≤ 65536
  pub fits : length (record_of s es xs) ≤ room

pub writable : (s : Shape) (xs es : List ℕ) (room : ℕ) → write_refusal s xs es room ≡ 0 → Writable s xs es room
unfolding write_refusal
writable s xs es room e =
    let a = first_zero (stripe_refusal s) _ e in
    let b = first_zero (unless (eqb (length xs) (stripe_length s)) 5) _ a.1 in
    let c = first_zero (unless (ascending 0 (columns s) es) 6) _ b.1 in
    let d = first_zero (unless (leb (length (record_of s es xs)) 65536) 5) _ c.1 in
    let f = first_zero (unless (leb (length (record_of s es xs)) room) 5) [] d.1 in
    record {
      stripe_described = a.0;
      exact = eqb-true (length xs) (stripe_length s) (unless-zero _ 5 (omega arith) b.0);
      ascending = ascending_says 0 (columns s) es (unless-zero _ 6 (omega arith) c.0);
      short = leb-true _ _ (unless-zero _ 5 (omega arith) d.0);
      fits = leb-true _ _ (unless-zero _ 5 (omega arith) f.0);
    }

-- what the functions that put a record need of it
module _ (s : Shape) (xs es : List ℕ) (room : ℕ) (w : Writable s xs es room) where
  pub lost_few : length es ≤ columns s
  lost_few = omega (arith, few_lost (columns s) es w.ascending)

  pub lost_most : length es ≤ 258
  lost_most = omega (arith, lost_few, (described s w.stripe_described).0.columns_most)

  pub columns_bytes : length (record_head s es) + kept es 0 (columns s) * s.l ≡ length (record_of s es xs)
  columns_bytes =
      let k : kept es 0 (columns s) ≡ columns s - length es = omega (arith, few_lost (columns s) es w.ascending) in
      ap (λ (n : ℕ). length (record_head s es) + n * s.l) k ∙ sym (record_bytes s es xs w.ascending w.exact)

-- ---- the answers

pub write_refused : (s : Shape) (xs es out : List ℕ) (r : Result ℕ Refusal) (e : Refusal) → IsErrAnd r (λ w. w ≡ e)
    → refusal_number e ≡ write_refusal s xs es (length out)
    → (reported r ≡ written_of s xs es (length out)) × (out ≡ out_written s xs es out)
write_refused s xs es out (Ok n) e h q = absurd h
write_refused s xs es out (Err w) e h q =
    let some = refused_some e in
    let b = ne_eqb (write_refusal s xs es (length out)) 0 (λ y. omega arith) in
    (ap (λ (v : Refusal). reported (Err v)) h ∙ rw (b, q), rw b)

pub write_accepted : (s : Shape) (xs es out out' : List ℕ) (n : ℕ) → write_refusal s xs es (length out) ≡ 0 → n ≡ length (record_of s es xs)
    → out' ≡ sets out 0 (record_of s es xs)
    → (reported (Ok n) ≡ written_of s xs es (length out)) × (out' ≡ out_written s xs es out)
write_accepted s xs es out out' n z e p =
    let b = eq-eqb (write_refusal s xs es (length out)) 0 z in
    (rw (b, e), p ∙ sets_over out 0 (record_of s es xs) (omega (arith, (writable s xs es (length out) z).fits)) ∙ rw b)

-- an answer is told by what it reports
pub same_reported : (r s : Result ℕ Refusal) → reported r ≡ reported s → r ≡ s
same_reported r s h = same_answer r s (numbers r ∙ (ap (λ (w : Written). w.number) h ∙ sym (numbers s))) (same r s h)
  where
    numbers : (r : Result ℕ Refusal) → refusal_of r ≡ (reported r).number
    numbers (Ok n) = refl
    numbers (Err e) = refl

    same : (r s : Result ℕ Refusal) → reported r ≡ reported s → (x y : ℕ) → r ≡ Ok x → s ≡ Ok y → x ≡ y
    same r s h x y p q = ap (λ (w : Written). w.length) (ap reported (sym p) ∙ (h ∙ ap reported q))
