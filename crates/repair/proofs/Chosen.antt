-- The positions that survive, found by one walk over all positions and over the lost ones beside them; and the positions that are computed.
use Prim.Native.Nat.{ℕ, suc, ◌+◌, ◌-◌, ◌<◌, ◌≤◌}
use mathlib.Core.Path.{◌≡◌, refl, sym, ap, ap₂, ◌∙◌, subst}
use mathlib.Core.Bool.{Bool, true, false, cond, ◌&&◌}
use mathlib.Core.Logic.{◌⊎◌, inl, inr}
use mathlib.Core.List.{List, [], ◌∷◌, ◌++◌, append-nil}
use native.Mathlib.Nat.{zero-add}
use native.Mathlib.Numerals.{add-one}
use native.Mathlib.Omega.{arith}
use lib.Dec.{ltb, eqb}
use lib.ListN.{length, get_or, set, take, drop, length-append, length-set, drop_of_length-le}
use lib.Seq.{drop-cons, take-suc-set, take_all, length-take-le, append_snoc, ext_get_or, get_or-take}
use borrow.Rule.Slice.PartMut.{put_mid, post_of, Post-is}
use borrow.Author.Tests.{ltb-true, lt-ltb, eqb-true, eqb-false}
use Rattle.field.proofs.Cases.{below_or_from, and_left, and_right}
use Rattle.stripe.specs.Stripe.{among, Ascending}
use Rattle.stripe.proofs.Lost.{not_among, among_turn, among_found}
use Rattle.equations.specs.Chosen.{survivors}
use Rattle.equations.proofs.Chosen.{survivors_length_from}
use Rattle.repair.specs.Windows.{next_is}

-- ---- one position more

survivors_none : (c : ℕ) (es : List ℕ) → survivors c 0 es ≡ []
unfolding survivors
survivors_none c es = refl

lost_next : (c m : ℕ) (es : List ℕ) → among c es ≡ true → survivors c (suc m) es ≡ survivors (suc c) m es
unfolding survivors
lost_next c m es h = ap (λ (b : Bool). cond b (survivors (suc c) m es) (c ∷ survivors (suc c) m es)) h

kept_next : (c m : ℕ) (es : List ℕ) → among c es ≡ false → survivors c (suc m) es ≡ c ∷ survivors (suc c) m es
unfolding survivors
kept_next c m es h = ap (λ (b : Bool). cond b (survivors (suc c) m es) (c ∷ survivors (suc c) m es)) h

-- by the number of all positions
one_more : (c n : ℕ) → c < n → n - c ≡ suc (n - (c + 1))
one_more c n h = omega arith

lost_step : (c n : ℕ) (es : List ℕ) → c < n → among c es ≡ true → survivors c (n - c) es ≡ survivors (c + 1) (n - (c + 1)) es
lost_step c n es h a =
    ap (λ (m : ℕ). survivors c m es) (one_more c n h) ∙ lost_next c (n - (c + 1)) es a ∙ ap (λ (d : ℕ). survivors d (n - (c + 1)) es) (sym (add-one c))

kept_step : (c n : ℕ) (es : List ℕ) → c < n → among c es ≡ false → survivors c (n - c) es ≡ c ∷ survivors (c + 1) (n - (c + 1)) es
kept_step c n es h a =
    ap (λ (m : ℕ). survivors c m es) (one_more c n h) ∙ kept_next c (n - (c + 1)) es a ∙ ap (λ (d : ℕ). c ∷ survivors d (n - (c + 1)) es) (sym (add-one c))

-- ---- the walk

-- m survivors below c stand in out, and the lost positions from number v on are those from c on
pub record Walked (n : ℕ) (es : List ℕ) (c v m : ℕ) (out : List ℕ) : Type 0 where
  pub below : c ≤ n
  pub room : m ≤ length out
  pub all : length out + length es ≡ n
  pub ascend : Ascending 0 n es
  pub made : take m out ++ survivors c (n - c) es ≡ survivors 0 n es
  pub rest : Ascending c n (drop v es)
  pub later : (d : ℕ) → c ≤ d → among d es ≡ among d (drop v es)

pub walk_start : (n : ℕ) (es out : List ℕ) → length out + length es ≡ n → Ascending 0 n es → Walked n es 0 0 0 out
walk_start n es out long w =
    record {
      below = omega arith;
      room = omega arith;
      all = long;
      ascend = w;
      made = ap (λ (m : ℕ). survivors 0 m es) (omega arith);
      rest = w;
      later = λ d h. refl;
    }

-- as many survive as there is room for
all_long : (n : ℕ) (es : List ℕ) → Ascending 0 n es → length (survivors 0 n es) + length es ≡ n
all_long n es w = survivors_length_from 0 n es (subst (λ (m : ℕ). Ascending 0 m es) (sym (zero-add n)) w)

-- at the end all stand there
pub walk_done : (n : ℕ) (es : List ℕ) (c v m : ℕ) (out : List ℕ) → Walked n es c v m out → n ≤ c → out ≡ survivors 0 n es
walk_done n es c v m out w h = sym (take_all m out (omega (arith, ap length found, length-take-le m out w.room, all_long n es w.ascend, w.all))) ∙ found
  where
    none : n - c ≡ 0
    none = omega arith

    found : take m out ≡ survivors 0 n es
    found =
        sym (append-nil (take m out))
        ∙ ap (λ (ss : List ℕ). take m out ++ ss) (sym (ap (λ (k : ℕ). survivors c k es) none ∙ survivors_none c es)) ∙ w.made

pub walk_as : (n : ℕ) (es : List ℕ) (c v v' m m' : ℕ) (out out' : List ℕ) → out ≡ out' → v ≡ v' → m ≡ m' → Walked n es c v' m' out'
    → Walked n es c v m out
walk_as n es c v v' m m' out out' eo ev em w =
    subst (Walked n es c v m) (sym eo) (subst (λ (k : ℕ). Walked n es c v k out') (sym em) (subst (λ (u : ℕ). Walked n es c u m' out') (sym ev) w))

next_true : (es : List ℕ) (v c : ℕ) → next_is es v c ≡ true → (v < length es) × (get_or es v 0 ≡ c)
unfolding next_is
next_true es v c e = (ltb-true _ _ (and_left (ltb v (length es)) _ e), eqb-true _ _ (and_right (ltb v (length es)) _ e))

next_false : (es : List ℕ) (v c : ℕ) → next_is es v c ≡ false → v < length es → get_or es v 0 ≡ c → ⊥
unfolding next_is
next_false es v c e h = eqb-false (get_or es v 0) c (sym (ap (λ (b : Bool). b && eqb (get_or es v 0) c) (lt-ltb v (length es) h)) ∙ e)

rest_at : (es : List ℕ) (v : ℕ) → v < length es → drop v es ≡ get_or es v 0 ∷ drop (v + 1) es
rest_at es v h = drop-cons es v 0 h ∙ ap (λ (m : ℕ). get_or es v 0 ∷ drop m es) (sym (add-one v))

module _ (n : ℕ) (es : List ℕ) (c v m : ℕ) (out : List ℕ) (w : Walked n es c v m out) (more : c < n) where
  -- the lost position is the next
  module _ (is : next_is es v c ≡ true) where
    pub lost_in_lem : v < length es
    lost_in_lem = (next_true es v c is).0

    lost_here : among c es ≡ true
    lost_here = w.later c (omega arith) ∙ among_found es v c lost_in_lem (next_true es v c is).1

    lost_rest : Ascending (c + 1) n (drop (v + 1) es)
    unfolding Ascending
    lost_rest =
        let here = subst (Ascending c n) (rest_at es v lost_in_lem) w.rest in
        subst (λ (d : ℕ). Ascending d n (drop (v + 1) es)) (ap suc (next_true es v c is).1 ∙ sym (add-one c)) here.2

    lost_later : (d : ℕ) → c + 1 ≤ d → among d es ≡ among d (drop (v + 1) es)
    lost_later d h =
        w.later d (omega arith) ∙ among_turn es v d lost_in_lem (λ e. omega (arith, (next_true es v c is).1))

    pub walk_lost : Walked n es (c + 1) (v + 1) m out
    walk_lost = record {
      below = omega arith;
      room = w.room;
      all = w.all;
      ascend = w.ascend;
      made = ap (λ (ss : List ℕ). take m out ++ ss) (sym (lost_step c n es more lost_here)) ∙ w.made;
      rest = lost_rest;
      later = lost_later;
    }

  -- it is not
  module _ (is : next_is es v c ≡ false) where
    kept_rest : Ascending (c + 1) n (drop v es)
    unfolding Ascending
    kept_rest = go (below_or_from v (length es))
      where
        go : (v < length es) ⊎ (length es ≤ v) → Ascending (c + 1) n (drop v es)
        go (inr h) = subst (Ascending (c + 1) n) (sym (drop_of_length-le es h)) tt
        go (inl h) =
            let here = subst (Ascending c n) (rest_at es v h) w.rest in
            let other : c + 1 ≤ get_or es v 0 = omega (arith, here.0, next_false es v c is h) in
            subst (Ascending (c + 1) n) (sym (rest_at es v h)) (other, here.1, here.2)

    kept_here : among c es ≡ false
    kept_here = w.later c (omega arith) ∙ not_among c (c + 1) n (drop v es) kept_rest (omega arith)

    step : survivors c (n - c) es ≡ c ∷ survivors (c + 1) (n - (c + 1)) es
    step = kept_step c n es more kept_here

    -- so there is room for it
    pub kept_room : m < length out
    kept_room =
        omega (
          arith,
          w.room,
          w.all,
          all_long n es w.ascend,
          ap length (sym w.made) ∙ length-append (take m out) (survivors c (n - c) es),
          ap length step,
          length-take-le m out w.room,
        )

    pub walk_kept : Walked n es (c + 1) v (m + 1) (set out m c)
    walk_kept = record {
      below = omega arith;
      room = omega (arith, kept_room, length-set out m c);
      all = ap (λ (k : ℕ). k + length es) (length-set out m c) ∙ w.all;
      ascend = w.ascend;
      made =
          ap (λ (k : ℕ). take k (set out m c) ++ survivors (c + 1) (n - (c + 1)) es) (add-one m)
          ∙ ap (λ (ss : List ℕ). ss ++ survivors (c + 1) (n - (c + 1)) es) (take-suc-set out m c kept_room)
          ∙ append_snoc (take m out) c (survivors (c + 1) (n - (c + 1)) es)
          ∙ ap (λ (ss : List ℕ). take m out ++ ss) (sym step) ∙ w.made;
      rest = kept_rest;
      later = λ d h. w.later d (omega arith);
    }

-- ---- the lost positions, and then the spares

pub computed_made : (es ss out xs : List ℕ) (n : ℕ) → length out ≡ n → n ≡ length es + length ss
    → ((i : ℕ) → i < length es → get_or out i 0 ≡ get_or es i 0)
    → xs ≡ ss → put_mid (length es) (n - length es) out xs ≡ es ++ ss
computed_made es ss out xs n long all first is =
    ap₂ (λ (l m : List ℕ). l ++ (xs ++ m)) front none ∙ ap (λ (l : List ℕ). es ++ l) (append-nil xs ∙ is)
  where
    front_long : length (take (length es) out) ≡ length es
    front_long = length-take-le (length es) out (omega arith)

    front : take (length es) out ≡ es
    front = ext_get_or 0 _ es front_long (λ i h. get_or-take (length es) out i 0 (omega (arith, front_long)) ∙ first i (omega (arith, front_long)))

    none : post_of (length es) (n - length es) out ≡ []
    none = Post-is (length es) n out (omega arith) ∙ drop_of_length-le out {i = n} (omega arith)
