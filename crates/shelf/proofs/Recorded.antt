-- Records, for C: each outcome of reading and of writing is that of the function below, which is refused or not.
use Prim.Native.Nat.{ℕ}
use mathlib.Core.Path.{◌≡◌, refl, sym, ap, ◌∙◌}
use mathlib.Core.Bool.{cond}
use mathlib.Core.Logic.{◌⊎◌, inl, inr}
use mathlib.Core.List.{List}
use borrow.Author.Tests.{eq-eqb, ne_eqb}
use lib.Dec.{eqb}
use lib.ListN.{length}
use Rattle.field.proofs.Cases.{zero_or_not}
use Rattle.stripe.specs.declared.Shape.{Shape}
use Rattle.record.specs.Reading.{Got, read_refusal, got_of, stripe_read, lost_read}
use Rattle.writing.specs.Writing.{Written, write_refusal, written_of, out_written}
use Rattle.shelf.specs.Records.{read_number, stripe_left, lost_left, numbers_of, numbers_left, write_number, length_left}

-- the number of an answer that is told by a refusal
pub number_told : {A : Type 0} (number : A → ℕ) (refusal : ℕ) (done other : A) → number done ≡ 0 → number other ≡ refusal
    → number (cond (eqb refusal 0) done other) ≡ refusal
number_told number refusal done other d o = go (zero_or_not refusal)
  where
    go : (refusal ≡ 0) ⊎ (refusal ≡ 0 → ⊥) → number (cond (eqb refusal 0) done other) ≡ refusal
    go (inl h) = simp (eq-eqb refusal 0 h) (d ∙ sym h)
    go (inr h) = simp (ne_eqb refusal 0 h) o

-- ---- reading

module _ (bs xs es ns : List ℕ) where
  -- the answer v, and what the stripe, the list and the numbers hold in the end
  abbrev pub Read : ℕ → List ℕ → List ℕ → List ℕ → Type 0
  Read v xs' es' ns' =
      (v ≡ read_number bs xs es ns)
      × ((xs' ≡ stripe_left bs xs es ns) × ((es' ≡ lost_left bs xs es ns) × (ns' ≡ numbers_left bs xs es ns)))

  refusal : ℕ
  refusal = read_refusal bs (length xs) (length es)

  other_five : (length ns ≡ 5 → ⊥) → read_number bs xs es ns ≡ 5
  unfolding read_number
  other_five h = simp (ne_eqb _ _ h)

  five : length ns ≡ 5 → read_number bs xs es ns ≡ refusal
  unfolding read_number refusal
  five h = simp (eq-eqb _ _ h)

  pub read_unlisted : (length ns ≡ 5 → ⊥) → Read 5 xs es ns
  read_unlisted h = let n = other_five h in (sym n, (simp n, (simp n, simp n)))

  module _ (h : length ns ≡ 5) (g : Got) (xs' es' : List ℕ) (is : g ≡ got_of bs (length xs) (length es))
      (filled : xs' ≡ stripe_read bs xs (length es)) (listed : es' ≡ lost_read bs (length xs) es) where
    number : g.number ≡ refusal
    unfolding refusal
    number = ap (λ (v : Got). v.number) is ∙ number_told (λ (v : Got). v.number) _ _ _ refl refl

    pub read_refused : (g.number ≡ 0 → ⊥) → Read g.number xs' es' ns
    unfolding refusal
    read_refused r =
        let n = five h in
        let w = ne_eqb refusal 0 (λ z. r (number ∙ z)) in
        (number ∙ sym n, (simp (filled, n, w), (simp (listed, n, w), simp (n, w))))

    pub read_done : g.number ≡ 0 → (ns' : List ℕ) → ns' ≡ numbers_of g.shape g.lost → Read 0 xs' es' ns'
    unfolding refusal
    read_done r ns' put =
        let n = five h in
        let z : refusal ≡ 0 = sym number ∙ r in
        let w = eq-eqb refusal 0 z in
        (sym z ∙ sym n, (simp (filled, n, w), (simp (listed, n, w), put ∙ simp (is, n, w))))

-- ---- writing

module _ (s : Shape) (xs es ys : List ℕ) (n : ℕ) where
  -- the answer v, and what the output and the lent number hold in the end
  abbrev pub Wrote : ℕ → List ℕ → ℕ → Type 0
  Wrote v ys' n' = (v ≡ write_number s xs es ys) × ((ys' ≡ out_written s xs es ys) × (n' ≡ length_left s xs es ys n))

  module _ (g : Written) (ys' : List ℕ) (is : g ≡ written_of s xs es (length ys)) (put : ys' ≡ out_written s xs es ys) where
    told : g.number ≡ write_refusal s xs es (length ys)
    told = ap (λ (v : Written). v.number) is ∙ number_told (λ (v : Written). v.number) _ _ _ refl refl

    pub write_refused : (g.number ≡ 0 → ⊥) → Wrote g.number ys' n
    write_refused r = (told, (put, simp (ne_eqb (write_refusal s xs es (length ys)) 0 (λ z. r (told ∙ z)))))

    pub write_done : g.number ≡ 0 → Wrote 0 ys' g.length
    write_done r =
        let z = sym told ∙ r in
        (sym z, (put, ap (λ (v : Written). v.length) is ∙ simp (eq-eqb (write_refusal s xs es (length ys)) 0 z)))
