-- Each refusal is the first of its table: a refusal that comes after others is the first of the two tables joined.
use Prim.Native.Nat.{ℕ, zero, suc, ◌-◌, ◌*◌, ◌%◌}
use mathlib.Core.Path.{◌≡◌, refl, sym, ap, ◌∙◌}
use mathlib.Core.Bool.{Bool, true, false, cond, ◌&&◌}
use mathlib.Core.Logic.{◌⊎◌, inl, inr}
use mathlib.Core.List.{List, [], ◌∷◌, ◌++◌}
use borrow.Author.Tests.{leb-true, leb-false, lt-ltb, le-ltb}
use lib.Dec.{eqb, eqb-suc-zero, leb, ltb}
use lib.ListN.{length}
use Rattle.stripe.specs.declared.Shape.{Shape}
use Rattle.stripe.specs.Shape.{shape_refusal, length_allowed, columns, data_length, parity_length, stripe_length}
use Rattle.stripe.specs.Stripe.{parity, ascending}
use Rattle.stripe.specs.Column.{lent_refusal}
use Rattle.checking.specs.Compare.{agree}
use Rattle.checking.specs.Check.{number_of, first_wrong}
use Rattle.checking.proofs.Where.{wrong_refused, wrong_nowhere, wrong_at}
use Rattle.lost.specs.Positions.{positions, list_refusal}
use Rattle.mending.specs.Mend.{mend_refusal}
use Rattle.plan.specs.Plan.{stripes_allowed, new_allowed, fold_refusal, columns_read, bytes_read}
use Rattle.fold.specs.Fold.{fold_verdict}
use Rattle.number.specs.Number.{number_refusal, next_of}
use Rattle.record.specs.Layout.{record_of}
use Rattle.record.specs.Reading.{shape_read, first_of, unless, first_number, second_number, third_number, fourth_number, count_number, count_of, columns_start}
use Rattle.record.specs.Reading.{stripe_refusal, head_refusal, positions_refusal, columns_refusal, content_refusal, read_refusal}
use Rattle.writing.specs.Writing.{write_refusal}
use Rattle.shelf.specs.Shelf.{spans_refusal}
use Rattle.shelf.specs.Records.{read_number}
use Rattle.field.proofs.Cases.{zero_or_not}
use Rattle.demands.specs.Calls.{numbers_allowed, encode_table, mend_table, plan_table, fold_table, spans_table, write_table, read_table}
use Rattle.demands.specs.Calls.{check_table, read_record_table}
use Rattle.demands.proofs.Answers.{done, left}

-- ---- tables joined

after : (xs zs : List ℕ) (x y : ℕ) → x ≡ first_of xs → y ≡ first_of zs → cond (eqb x 0) y x ≡ first_of (xs ++ zs)
unfolding first_of
after xs zs x y e g = ap (λ (z : ℕ). cond (eqb z 0) y z) e ∙ go xs
  where
    go : (xs : List ℕ) → cond (eqb (first_of xs) 0) y (first_of xs) ≡ first_of (xs ++ zs)
    go [] = g
    go (zero ∷ xs) = go xs
    go (suc x ∷ xs) = ap (λ (b : Bool). cond b y (suc x)) (eqb-suc-zero x)

-- a first of several that stands first itself
nested : (xs zs : List ℕ) → first_of (first_of xs ∷ zs) ≡ first_of (xs ++ zs)
unfolding first_of
nested [] zs = refl
nested (zero ∷ xs) zs = nested xs zs
nested (suc x ∷ xs) zs = refl

-- and one that stands behind others
behind : (x : ℕ) (xs zs : List ℕ) → first_of xs ≡ first_of zs → first_of (x ∷ xs) ≡ first_of (x ∷ zs)
unfolding first_of
behind zero xs zs e = e
behind (suc x) xs zs e = refl

alone : (x : ℕ) → first_of (x ∷ []) ≡ x
unfolding first_of
alone zero = refl
alone (suc x) = refl

-- ---- the tests of a table

one : (a : Bool) (x : ℕ) → cond a 0 x ≡ first_of (unless a x ∷ [])
unfolding first_of
one true x = refl
one false zero = refl
one false (suc x) = refl

before : (a : Bool) (x y : ℕ) (zs : List ℕ) → y ≡ first_of zs → cond a y (suc x) ≡ first_of (unless a (suc x) ∷ zs)
unfolding first_of
before true x y zs e = e
before false x y zs e = refl

two : (a b : Bool) (x y : ℕ) → cond a (cond b 0 y) (suc x) ≡ first_of (unless a (suc x) ∷ unless b y ∷ [])
unfolding first_of
two true b x y = one b y
two false b x y = refl

lists : (a b c e : Bool) → cond a (cond b (cond c (cond e 0 7) 6) 5) 5 ≡ first_of (unless (a && b) 5 ∷ unless c 6 ∷ unless e 7 ∷ [])
unfolding first_of
lists true true c e = two c e 5 7
lists true false c e = refl
lists false b c e = refl

short : (m n : ℕ) → cond (ltb m n) 5 0 ≡ first_of (unless (leb n m) 5 ∷ [])
short m n = go (leb n m) refl ∙ one (leb n m) 5
  where
    go : (b : Bool) → leb n m ≡ b → ◌≡◌ {A = ℕ} (cond (ltb m n) 5 0) (cond (leb n m) 0 5)
    go true e = ap (λ (b : Bool). cond b 5 0) (le-ltb m n (leb-true n m e)) ∙ ap (λ (b : Bool). cond b 0 5) (sym e)
    go false e = ap (λ (b : Bool). cond b 5 0) (lt-ltb m n (leb-false n m e)) ∙ ap (λ (b : Bool). cond b 0 5) (sym e)

-- ---- the calls

abbrev shape_table : Shape → List ℕ
shape_table s = unless (numbers_allowed s) 1 ∷ unless (length_allowed s.t s.l) 2 ∷ []

shape_table_lem : (s : Shape) → shape_refusal s ≡ first_of (shape_table s)
unfolding shape_refusal
shape_table_lem s = two (numbers_allowed s) (length_allowed s.t s.l) 0 2

module _ (s : Shape) where
  pub encode_table_lem : (d p : ℕ) → lent_refusal s d p ≡ first_of (encode_table s d p)
  unfolding lent_refusal
  encode_table_lem d p =
      let fit = eqb d (data_length s) && eqb p (parity_length s) in
      after (shape_table s) (unless fit 5 ∷ []) (shape_refusal s) (cond fit 0 5) (shape_table_lem s) (one fit 5)

  -- a stripe that is not refused agrees with its parity or not
  check_number : (ds ps : List ℕ)
      → number_of (first_wrong s ds ps)
      ≡ cond (eqb (lent_refusal s (length ds) (length ps)) 0) (cond (agree ps (parity s ds)) 0 8) (lent_refusal s (length ds) (length ps))
  check_number ds ps = go (zero_or_not refusal) (agree ps (parity s ds)) refl
    where
      refusal : ℕ
      refusal = lent_refusal s (length ds) (length ps)

      told : ℕ
      told = cond (agree ps (parity s ds)) 0 8

      go : (refusal ≡ 0) ⊎ (refusal ≡ 0 → ⊥) → (b : Bool) → agree ps (parity s ds) ≡ b → number_of (first_wrong s ds ps) ≡ cond (eqb refusal 0) told refusal
      go (inr n) b h = ap number_of (wrong_refused s ds ps n) ∙ sym (left refusal told refusal n)
      go (inl z) true h = ap number_of (wrong_nowhere s ds ps z h) ∙ sym (done refusal told refusal z ∙ ap (λ (c : Bool). cond c 0 8) h)
      go (inl z) false h = ap number_of (wrong_at s ds ps z h) ∙ sym (done refusal told refusal z ∙ ap (λ (c : Bool). cond c 0 8) h)

  pub check_table_lem : (ds ps : List ℕ) → number_of (first_wrong s ds ps) ≡ first_of (check_table s ds ps)
  check_table_lem ds ps =
      let exact = agree ps (parity s ds) in
      let refusal = lent_refusal s (length ds) (length ps) in
      check_number ds ps
      ∙ after (encode_table s (length ds) (length ps)) (unless exact 8 ∷ []) refusal (cond exact 0 8) (encode_table_lem (length ds) (length ps)) (one exact 8)

  pub mend_table_lem : (d : ℕ) (ls : List ℕ) → mend_refusal s d ls ≡ first_of (mend_table s d ls)
  unfolding mend_refusal list_refusal
  mend_table_lem d ls =
      let whole = eqb d (stripe_length s) in
      let even = eqb (length ls % 2) 0 in
      let ascend = ascending 0 (columns s) (positions ls) in
      let few = leb (length (positions ls)) s.r in
      after (shape_table s) (unless (whole && even) 5 ∷ unless ascend 6 ∷ unless few 7 ∷ []) (shape_refusal s)
      (cond whole (cond even (cond ascend (cond few 0 7) 6) 5) 5) (shape_table_lem s) (lists whole even ascend few)

  module _ (n f : ℕ) where
    pub plan_table_lem : fold_refusal s n f ≡ first_of (plan_table s n f [])
    unfolding fold_refusal
    plan_table_lem =
        let stripes = stripes_allowed s.k s.r n in
        let new = new_allowed s.r s.t f in
        after (shape_table s) (unless stripes 3 ∷ unless new 4 ∷ []) (shape_refusal s) (cond stripes (cond new 0 4) 3) (shape_table_lem s) (two stripes new 2 4)

    pub fold_table_lem : (a b : ℕ) → fold_verdict s n f a b ≡ first_of (fold_table s n f a b)
    unfolding fold_verdict
    fold_table_lem a b =
        let fit = eqb a (bytes_read s n f) && eqb b (f * s.l) in
        after (plan_table s n f []) (unless fit 5 ∷ []) (fold_refusal s n f) (cond fit 0 5) plan_table_lem (one fit 5)

    pub spans_table_lem : (room : ℕ) → spans_refusal s n f room ≡ first_of (spans_table s n f room)
    unfolding spans_refusal
    spans_table_lem room =
        after (plan_table s n f []) (unless (leb (columns_read s n f) room) 5 ∷ []) (fold_refusal s n f)
        (cond (ltb room (columns_read s n f)) 5 0) plan_table_lem
        (short room (columns_read s n f))

  -- ---- records

  shape_then : (zs : List ℕ) → first_of (shape_refusal s ∷ zs) ≡ first_of (shape_table s ++ zs)
  shape_then zs = ap (λ (x : ℕ). first_of (x ∷ zs)) (shape_table_lem s) ∙ nested (shape_table s) zs

  stripe_then : (zs : List ℕ) → first_of (stripe_refusal s ∷ zs) ≡ first_of (shape_table s ++ (unless (leb (stripe_length s) 65536) 5 ∷ zs))
  unfolding stripe_refusal
  stripe_then zs = nested (shape_refusal s ∷ unless (leb (stripe_length s) 65536) 5 ∷ []) zs ∙ shape_then (unless (leb (stripe_length s) 65536) 5 ∷ zs)

  pub write_table_lem : (xs es : List ℕ) (room : ℕ) → write_refusal s xs es room ≡ first_of (write_table s xs es room)
  unfolding write_refusal
  write_table_lem xs es room =
      stripe_then (unless (eqb (length xs) (stripe_length s)) 5
      ∷ unless (ascending 0 (columns s) es) 6
      ∷ unless (leb (length (record_of s es xs)) 65536) 5
      ∷ unless (leb (length (record_of s es xs)) room) 5
      ∷ [])

-- two tables that begin alike
alike : (xs ys zs : List ℕ) → first_of ys ≡ first_of zs → first_of (xs ++ ys) ≡ first_of (xs ++ zs)
alike [] ys zs e = e
alike (x ∷ xs) ys zs e = behind x (xs ++ ys) (xs ++ zs) (alike xs ys zs e)

module _ (bs : List ℕ) where
  abbrev numbers : List ℕ
  numbers = number_refusal (first_number bs) ∷ number_refusal (second_number bs) ∷ number_refusal (third_number bs) ∷ number_refusal (fourth_number bs) ∷ []

  abbrev rest : List ℕ
  rest =
      number_refusal (count_number bs)
      ∷ unless (leb (count_of bs) (columns (shape_read bs))) 6
      ∷ positions_refusal bs (columns (shape_read bs)) (count_of bs) 0 (next_of (count_number bs))
      ∷ columns_refusal (length bs - columns_start bs) ((columns (shape_read bs) - count_of bs) * (shape_read bs).l)
      ∷ []

  content_table : content_refusal bs ≡ first_of (numbers ++ (shape_table (shape_read bs) ++ (unless (leb (stripe_length (shape_read bs)) 65536) 5 ∷ rest)))
  unfolding content_refusal head_refusal
  content_table =
      nested (numbers ++ (stripe_refusal (shape_read bs) ∷ [])) (first_of rest ∷ [])
      ∙ alike (numbers ++ (stripe_refusal (shape_read bs) ∷ [])) (first_of rest ∷ []) rest (nested rest [])
      ∙ alike numbers (stripe_refusal (shape_read bs) ∷ rest) _ (stripe_then (shape_read bs) rest)

  pub read_table_lem : (a b : ℕ) → read_refusal bs a b ≡ first_of (read_table bs a b)
  unfolding read_refusal
  read_table_lem a b =
      alike (unless (leb (length bs) 65536) 5 ∷ unless (eqb a 65536) 5 ∷ unless (eqb b 258) 5 ∷ []) (content_refusal bs ∷ []) _
      (alone (content_refusal bs) ∙ content_table)

  pub read_record_table_lem : (xs es ns : List ℕ) → read_number bs xs es ns ≡ first_of (read_record_table bs (length xs) (length es) (length ns))
  unfolding read_number
  read_record_table_lem xs es ns = before (eqb (length ns) 5) 4 (read_refusal bs (length xs) (length es)) _ (read_table_lem (length xs) (length es))
