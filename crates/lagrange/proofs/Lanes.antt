-- Blocks of sixteen lanes, place by place: an entry stored, two blocks multiplied, a row put back, and rows laid out.
use mathlib.Core.Path.{◌≡◌, refl, sym, ap, ap₂, subst, ◌∙◌}
use mathlib.Core.Bool.{Bool, cond}
use mathlib.Core.List.{List, ◌++◌}
use mathlib.Core.Logic.{◌⊎◌, inl, inr, ⊎_elim}
use Prim.Native.Nat.{ℕ, suc, ◌+◌, ◌-◌, ◌*◌, ◌<◌, ◌≤◌}
use native.Mathlib.Nat.{not-suc-le-zero, mul-le-mul_right, suc-mul}
use native.Mathlib.Omega.{arith}
use borrow.Rule.Slice.PartMut.{put_mid}
use lib.Dec.{leb, ltb, lit<}
use lib.ListN.{length, get_or, set, take, drop, replicate, get_or-append, get_or-replicate, length-replicate}
use lib.Seq.{get_or-append-add}
use borrow.Author.Tests.{lt-ltb, le-ltb, le-leb, lt-leb}
use Rattle.std.proofs.lemmas.List.Edits.{fill_by_more}
use Rattle.field.specs.Field.{◌⊕◌, ◌⊗◌}
use Rattle.field.proofs.Cases.{below_or_from, same_or_not}
use Rattle.field.proofs.Mul.{mul-one, one-mul, mul_comm, mul_assoc, inverse_lt}
use Rattle.lanes.specs.Lanes.{onto}
use Rattle.lanes.proofs.Onto.{onto_at, onto-length}
use Rattle.lanes.proofs.Parts.{part_length, part_at, back_length, back_inside, back_outside}
use Rattle.points.specs.Lagrange.{away, others, lagrange}
use Rattle.lagrange.specs.Lanes.{lane, Spread, RowTimes, Polynomials, Constants, Laid}
use Rattle.lagrange.proofs.Away.{away-lt, away_first, away_next, away_end, away_back, away_last, away_none, around_next, lagrange_made}

-- ---- one block

-- the entries before place q are those of f, and the next is stored
pub set_turn : (xs : List ℕ) (f : ℕ → ℕ) (q x : ℕ) → q < length xs → x ≡ f q → ((i : ℕ) → i < q → get_or xs i 0 ≡ f i)
    → (i : ℕ) → i < q + 1 → get_or (set xs q x) i 0 ≡ f i
set_turn xs f q x h is old = rw is (fill_by_more f xs q 0 h old)

-- what `multiply` leaves
pub product_at : (p d r : List ℕ) → length p ≡ 16 → length d ≡ 16 → r ≡ onto (λ (x y : ℕ). x ⊗ y) p d
    → (q : ℕ) → q < 16 → get_or r q 0 ≡ get_or p q 0 ⊗ get_or d q 0
product_at p d r hp hd e q h = ap (λ (l : List ℕ). get_or l q 0) e ∙ onto_at _ p d q (omega arith) (omega arith)

-- ---- one row of a block

-- zs is xs but for row v, whose lanes are those of f
pub record RowSet (f : ℕ → ℕ) (v : ℕ) (xs zs : List ℕ) : Type 0 where
  pub long : length zs ≡ length xs
  pub own : (q : ℕ) → q < 16 → lane zs v q ≡ f q
  pub other : (u q : ℕ) → (u ≡ v → ⊥) → q < 16 → lane zs u q ≡ lane xs u q

module _ (v : ℕ) (xs ys : List ℕ) (fits : v * 16 + 16 ≤ length xs) where
  -- the lanes of row v, taken out
  abbrev row : List ℕ
  row = take (v * 16 + 16 - v * 16) (drop (v * 16) xs)

  row-length : length row ≡ 16
  row-length = part_length xs (v * 16) 16 fits

  -- and ys put back in their place
  abbrev back : List ℕ
  back = put_mid (v * 16) (v * 16 + 16 - v * 16) xs ys

  row_at : (q : ℕ) → q < 16 → get_or row q 0 ≡ lane xs v q
  row_at q h = part_at xs (v * 16) 16 q h

  row_back : (f : ℕ → ℕ) → length ys ≡ 16 → ((q : ℕ) → q < 16 → get_or ys q 0 ≡ f q) → RowSet f v xs back
  row_back f long is =
      record {
        long = back_length xs ys (v * 16) 16 long fits;
        own = λ q h. back_inside xs ys (v * 16) 16 long fits q h ∙ is q h;
        other = λ u q k h. back_outside xs ys (v * 16) 16 long fits (u * 16 + q) (far u q k h (below_or_from u v));
      }
    where
      far : (u q : ℕ) → (u ≡ v → ⊥) → q < 16 → (u < v) ⊎ (v ≤ u) → (u * 16 + q < v * 16) ⊎ (v * 16 + 16 ≤ u * 16 + q)
      far u q k h (inl l) = inl (omega arith)
      far u q k h (inr l) = let less : v < u = omega arith in inr (omega arith)

  pub row_onto : (f : ℕ → ℕ → ℕ) (p : List ℕ) → length p ≡ 16 → ys ≡ onto f row p → RowSet (λ q. f (lane xs v q) (get_or p q 0)) v xs back
  row_onto f p long is =
      row_back (λ q. f (lane xs v q) (get_or p q 0)) (ap length is ∙ onto-length f row p ∙ row-length)
      (λ q h. ap (λ (l : List ℕ). get_or l q 0) is ∙ onto_at f row p q (omega (arith, row-length)) (omega arith)
      ∙ ap (λ (x : ℕ). f x (get_or p q 0)) (row_at q h))

  pub row_filled : (x : ℕ) → ys ≡ replicate (length row) x → RowSet (λ q. x) v xs back
  row_filled x is =
      row_back (λ q. x) (ap length is ∙ length-replicate (length row) x ∙ row-length)
      (λ q h. ap (λ (l : List ℕ). get_or l q 0) is ∙ get_or-replicate (length row) q x 0 (omega (arith, row-length)))

-- ---- the rows of a block

pub spread_start : (cs rows : List ℕ) → length rows ≡ 256 → Spread cs 0 rows
spread_start cs rows long = record { long = long; at = λ v q h. absurd (not-suc-le-zero h) }

pub spread_turn : (cs : List ℕ) {rows rows' : List ℕ} (v : ℕ) → RowSet (λ q. get_or cs v 0) v rows rows' → Spread cs v rows → Spread cs (v + 1) rows'
spread_turn cs {rows} {rows'} v put h = record { long = put.long ∙ h.long; at = at }
  where
    at : (u q : ℕ) → u < v + 1 → q < 16 → lane rows' u q ≡ get_or cs u 0
    at u q l k = ⊎_elim own old (same_or_not u v)
      where
        own : u ≡ v → lane rows' u q ≡ get_or cs u 0
        own e = subst (λ (x : ℕ). lane rows' x q ≡ get_or cs x 0) (sym e) (put.own q k)

        old : (u ≡ v → ⊥) → lane rows' u q ≡ get_or cs u 0
        old e = put.other u q e k ∙ h.at u q (omega arith) k

pub spread_done : {cs rows : List ℕ} (n v : ℕ) → n ≤ v → Spread cs v rows → Spread cs n rows
spread_done n v h s = record { long = s.long; at = λ u q l k. s.at u q (omega arith) k }

pub row_times : (p : List ℕ) {rows rows' : List ℕ} (v : ℕ) → RowSet (λ q. lane rows v q ⊗ get_or p q 0) v rows rows' → RowTimes v p rows rows'
row_times p v put = record { long = put.long; own = put.own; other = put.other }

-- as factors, ps are what each lane is apart from the points
abbrev pub Counts : List ℕ → List ℕ → List ℕ → Type 0
Counts ps bs ys = (q x : ℕ) → q < 16 → x ⊗ get_or ps q 0 ≡ x ⊗ away bs (get_or ys q 0)

module _ (bs ys : List ℕ) where
  pub counts_first : (d : List ℕ) → ((q : ℕ) → q < 16 → get_or d q 0 ≡ get_or ys q 0 ⊕ get_or bs 0 0) → 0 < length bs → Counts d (take 1 bs) ys
  counts_first d is h q x k = ap (λ (z : ℕ). x ⊗ z) (is q k) ∙ away_first bs (get_or ys q 0) x h

  pub counts_next : (p d : List ℕ) (v : ℕ) → v < length bs → Counts p (take v bs) ys
      → ((q : ℕ) → q < 16 → get_or d q 0 ≡ (get_or ys q 0 ⊕ get_or bs v 0) ⊗ get_or p q 0) → Counts d (take (v + 1) bs) ys
  counts_next p d v h old is q x k = ap (λ (z : ℕ). x ⊗ z) (is q k ∙ old q (get_or ys q 0 ⊕ get_or bs v 0) k ∙ away_next bs v (get_or ys q 0) h)

  pub counts_last : (d : List ℕ) (v : ℕ) → ((q : ℕ) → q < 16 → get_or d q 0 ≡ get_or ys q 0 ⊕ get_or bs v 0) → suc v ≡ length bs → Counts d (drop v bs) ys
  counts_last d v is e q x k = ap (λ (z : ℕ). x ⊗ z) (is q k) ∙ away_last bs v (get_or ys q 0) x e

  pub counts_back : (p d : List ℕ) (v : ℕ) → v < length bs → Counts p (drop (suc v) bs) ys
      → ((q : ℕ) → q < 16 → get_or d q 0 ≡ (get_or ys q 0 ⊕ get_or bs v 0) ⊗ get_or p q 0) → Counts d (drop v bs) ys
  counts_back p d v h old is q x k = ap (λ (z : ℕ). x ⊗ z) (is q k ∙ old q (get_or ys q 0 ⊕ get_or bs v 0) k ∙ away_back bs v (get_or ys q 0) h)

module _ (bs cs ys : List ℕ) where
  -- what row u is multiplied by from the first row on, where it is one of the first i, and from the last row back, where it is one of the last j
  abbrev before : ℕ → ℕ → ℕ → ℕ
  before i u q = cond (ltb u i) (away (take u bs) (get_or ys q 0)) 1

  abbrev after : ℕ → ℕ → ℕ → ℕ
  after j u q = cond (leb (length bs) (u + j)) (away (drop (suc u) bs) (get_or ys q 0)) 1

  pub record Both (i j : ℕ) (rows : List ℕ) : Type 0 where
    pub long : length rows ≡ 256
    pub at : (u q : ℕ) → u < length bs → q < 16 → lane rows u q ≡ get_or cs u 0 ⊗ (before i u q ⊗ after j u q)

  before_in : (i u q : ℕ) → u < i → before i u q ≡ away (take u bs) (get_or ys q 0)
  before_in i u q h = ap (λ (b : Bool). cond b (away (take u bs) (get_or ys q 0)) 1) (lt-ltb u i h)

  before_out : (i u q : ℕ) → i ≤ u → before i u q ≡ 1
  before_out i u q h = ap (λ (b : Bool). cond b (away (take u bs) (get_or ys q 0)) 1) (le-ltb u i h)

  after_in : (j u q : ℕ) → length bs ≤ u + j → after j u q ≡ away (drop (suc u) bs) (get_or ys q 0)
  after_in j u q h = ap (λ (b : Bool). cond b (away (drop (suc u) bs) (get_or ys q 0)) 1) (le-leb (length bs) (u + j) h)

  after_out : (j u q : ℕ) → u + j < length bs → after j u q ≡ 1
  after_out j u q h = ap (λ (b : Bool). cond b (away (drop (suc u) bs) (get_or ys q 0)) 1) (lt-leb (length bs) (u + j) h)

  -- one row more from the first on changes no other row
  before_other : (i u q : ℕ) → (u ≡ i → ⊥) → before i u q ≡ before (i + 1) u q
  before_other i u q e = ⊎_elim less more (below_or_from u i)
    where
      less : u < i → before i u q ≡ before (i + 1) u q
      less h = before_in i u q h ∙ sym (before_in (i + 1) u q (omega arith))

      more : i ≤ u → before i u q ≡ before (i + 1) u q
      more h = before_out i u q h ∙ sym (before_out (i + 1) u q (omega arith))

  -- nor does one row more from the last back
  after_other : (j u v q : ℕ) → v + j + 1 ≡ length bs → (u ≡ v → ⊥) → after j u q ≡ after (j + 1) u q
  after_other j u v q last e = ⊎_elim less more (below_or_from u v)
    where
      less : u < v → after j u q ≡ after (j + 1) u q
      less h = after_out j u q (omega arith) ∙ sym (after_out (j + 1) u q (omega arith))

      more : v ≤ u → after j u q ≡ after (j + 1) u q
      more h = after_in j u q (omega arith) ∙ sym (after_in (j + 1) u q (omega arith))

  pub both_start : {rows : List ℕ} → Constants bs cs → Spread cs (length bs) rows → Both 1 1 rows
  both_start {rows} constants h = record { long = h.long; at = at }
    where
      first : (u q : ℕ) → before 1 u q ≡ 1
      first u q = ⊎_elim own other (same_or_not u 0)
        where
          own : u ≡ 0 → before 1 u q ≡ 1
          own e = subst (λ (x : ℕ). before 1 x q ≡ 1) (sym e) (before_in 1 0 q (omega arith) ∙ sym (away_none bs (get_or ys q 0)))

          other : (u ≡ 0 → ⊥) → before 1 u q ≡ 1
          other e = before_out 1 u q (omega arith)

      last : (u q : ℕ) → after 1 u q ≡ 1
      last u q = ⊎_elim other own (below_or_from (u + 1) (length bs))
        where
          other : u + 1 < length bs → after 1 u q ≡ 1
          other e = after_out 1 u q e

          own : length bs ≤ u + 1 → after 1 u q ≡ 1
          own e = after_in 1 u q e ∙ sym (away_end bs (suc u) (get_or ys q 0) (omega arith))

      byte : (u : ℕ) → u < length bs → get_or cs u 0 < 256
      byte u h = rw (constants.at u h) (inverse_lt (away (others bs u) (get_or bs u 0)))

      at : (u q : ℕ) → u < length bs → q < 16 → lane rows u q ≡ get_or cs u 0 ⊗ (before 1 u q ⊗ after 1 u q)
      at u q l k =
          h.at u q l k ∙ sym (mul-one (get_or cs u 0) (byte u l))
          ∙ ap (λ (x : ℕ). get_or cs u 0 ⊗ x) (sym (ap₂ ◌⊗◌ (first u q) (last u q) ∙ mul-one 1 (lit< tt)))

  -- row v is multiplied, and the others stay
  both_turn : (i j i' j' v : ℕ) (p : List ℕ) {rows rows' : List ℕ} → RowTimes v p rows rows' → v < length bs
      → ((q : ℕ) → q < 16 → before i v q ⊗ after j v q ⊗ get_or p q 0 ≡ before i' v q ⊗ after j' v q)
      → ((u q : ℕ) → (u ≡ v → ⊥) → before i u q ⊗ after j u q ≡ before i' u q ⊗ after j' u q) → Both i j rows → Both i' j' rows'
  both_turn i j i' j' v p {rows} {rows'} times less here there h = record { long = times.long ∙ h.long; at = at }
    where
      made : ℕ → ℕ → Type 0
      made u q = lane rows' u q ≡ get_or cs u 0 ⊗ (before i' u q ⊗ after j' u q)

      at : (u q : ℕ) → u < length bs → q < 16 → made u q
      at u q l k = ⊎_elim own other (same_or_not u v)
        where
          own : u ≡ v → made u q
          own e =
              subst (λ (x : ℕ). made x q) (sym e)
              (times.own q k ∙ ap (λ (x : ℕ). x ⊗ get_or p q 0) (h.at v q less k)
              ∙ mul_assoc (get_or cs v 0) (before i v q ⊗ after j v q) (get_or p q 0) ∙ ap (λ (x : ℕ). get_or cs v 0 ⊗ x) (here q k))

          other : (u ≡ v → ⊥) → made u q
          other e = times.other u q e k ∙ h.at u q l k ∙ ap (λ (x : ℕ). get_or cs u 0 ⊗ x) (there u q e)

  -- the next row from the first on
  pub both_first : (i j : ℕ) (p : List ℕ) {rows rows' : List ℕ} → Counts p (take i bs) ys → i < length bs → RowTimes i p rows rows'
      → Both i j rows → Both (i + 1) j rows'
  both_first i j p is less times = both_turn i j (i + 1) j i p times less here (λ u q e. ap (λ (x : ℕ). x ⊗ after j u q) (before_other i u q e))
    where
      here : (q : ℕ) → q < 16 → before i i q ⊗ after j i q ⊗ get_or p q 0 ≡ before (i + 1) i q ⊗ after j i q
      here q k =
          let a = away (take i bs) (get_or ys q 0) in
          is q (before i i q ⊗ after j i q) k ∙ ap (λ (x : ℕ). x ⊗ after j i q ⊗ a) (before_out i i q (omega arith))
          ∙ mul_comm (1 ⊗ after j i q) a ∙ sym (mul_assoc a 1 (after j i q))
          ∙ ap (λ (x : ℕ). x ⊗ after j i q) (mul-one a (away-lt (take i bs) (get_or ys q 0)) ∙ sym (before_in (i + 1) i q (omega arith)))

  -- the next row from the last back
  pub both_last : (i j v : ℕ) (p : List ℕ) {rows rows' : List ℕ} → Counts p (drop (suc v) bs) ys → v + j + 1 ≡ length bs
      → RowTimes v p rows rows' → Both i j rows → Both i (j + 1) rows'
  both_last i j v p is last times =
      both_turn i j i (j + 1) v p times (omega arith) here (λ u q e. ap (λ (x : ℕ). before i u q ⊗ x) (after_other j u v q last e))
    where
      here : (q : ℕ) → q < 16 → before i v q ⊗ after j v q ⊗ get_or p q 0 ≡ before i v q ⊗ after (j + 1) v q
      here q k =
          let a = away (drop (suc v) bs) (get_or ys q 0) in
          is q (before i v q ⊗ after j v q) k ∙ ap (λ (x : ℕ). before i v q ⊗ x ⊗ a) (after_out j v q (omega arith))
          ∙ mul_assoc (before i v q) 1 a
          ∙ ap (λ (x : ℕ). before i v q ⊗ x)
          (one-mul a (away-lt (drop (suc v) bs) (get_or ys q 0)) ∙ sym (after_in (j + 1) v q (omega arith)))

  pub both_none : {rows : List ℕ} → length rows ≡ 256 → length bs ≡ 0 → Polynomials bs ys rows
  both_none long none = record { long = long; at = λ u q l k. omega arith }

  pub both_done : {rows : List ℕ} (v : ℕ) → length bs ≤ v → Constants bs cs → Both v v rows → Polynomials bs ys rows
  both_done {rows} v h constants b = record { long = b.long; at = at }
    where
      at : (u q : ℕ) → u < length bs → q < 16 → lane rows u q ≡ lagrange bs u (get_or ys q 0)
      at u q l k =
          b.at u q l k ∙ ap (λ (x : ℕ). get_or cs u 0 ⊗ x) (ap₂ ◌⊗◌ (before_in v u q (omega arith)) (after_in v u q (omega arith)))
          ∙ lagrange_made bs u (get_or ys q 0) (get_or cs u 0) (constants.at u l)

-- ---- what each point is apart from the others

-- lane q is what point q is apart from the points less than s places on
abbrev pub Apart : List ℕ → ℕ → List ℕ → Type 0
Apart bs s p = (q : ℕ) → q < length bs → (s ≤ length bs) × (get_or p q 0 ≡ away (take (s - 1) (drop (suc q) (bs ++ bs))) (get_or bs q 0))

-- the points stand in z twice in a row
pub twice_at : (bs z : List ℕ) {z' ys : List ℕ} → length bs + length bs ≤ length z → z' ≡ onto (λ (x y : ℕ). y) z bs
    → ys ≡ onto (λ (x y : ℕ). y) (take (length bs + length bs - length bs) (drop (length bs) z')) bs
    → (i : ℕ) → i < length bs + length bs → get_or (put_mid (length bs) (length bs + length bs - length bs) z' ys) i 0 ≡ get_or (bs ++ bs) i 0
twice_at bs z {z'} {ys} room one two i h = ⊎_elim early late (below_or_from i (length bs))
  where
    n : ℕ
    n = length bs

    inside : n + n ≤ length z'
    inside = omega (arith, ap length one, onto-length (λ (x y : ℕ). y) z bs)

    ys_long : length ys ≡ n
    ys_long = ap length two ∙ onto-length _ _ _ ∙ part_length z' n n inside

    early : i < n → get_or (put_mid n (n + n - n) z' ys) i 0 ≡ get_or (bs ++ bs) i 0
    early k =
        back_outside z' ys n n ys_long inside i (inl k) ∙ ap (λ (l : List ℕ). get_or l i 0) one ∙ onto_at _ z bs i (omega arith) k
        ∙ sym (get_or-append bs bs 0 i k)

    late : n ≤ i → get_or (put_mid n (n + n - n) z' ys) i 0 ≡ get_or (bs ++ bs) i 0
    late k =
        let place : n + (i - n) ≡ i = omega arith in
        subst (λ (x : ℕ). get_or (put_mid n (n + n - n) z' ys) x 0 ≡ get_or (bs ++ bs) x 0) place
        (back_inside z' ys n n ys_long inside (i - n) (omega arith) ∙ ap (λ (l : List ℕ). get_or l (i - n) 0) two
        ∙ onto_at _ _ bs (i - n) (omega (arith, part_length z' n n inside)) (omega arith) ∙ sym (get_or-append-add bs bs (i - n) 0))

-- what each point is apart from the one s places on is multiplied in
pub apart_turn : (bs z p d r : List ℕ) (s : ℕ) → 1 ≤ s → s < length bs → length bs ≤ 16 → length p ≡ 16 → length d ≡ 16
    → ((i : ℕ) → i < length bs + length bs → get_or z i 0 ≡ get_or (bs ++ bs) i 0)
    → ((q : ℕ) → q < 16 → get_or d q 0 ≡ get_or z q 0 ⊕ get_or z (q + s) 0) → r ≡ onto (λ (x y : ℕ). x ⊗ y) p d → Apart bs s p → Apart bs (s + 1) r
apart_turn bs z p d r s one less few hp hd twice by is h q k = (omega arith, made)
  where
    other : get_or d q 0 ≡ get_or bs q 0 ⊕ get_or (bs ++ bs) (q + s) 0
    other =
        by q (omega arith) ∙ ap₂ ◌⊕◌ (twice q (omega arith) ∙ get_or-append bs bs 0 q k) (twice (q + s) (omega arith))

    made : get_or r q 0 ≡ away (take (s + 1 - 1) (drop (suc q) (bs ++ bs))) (get_or bs q 0)
    made = product_at p d r hp hd is q (omega arith) ∙ ap₂ ◌⊗◌ (h q k).1 other ∙ around_next bs q s (get_or bs q 0) k one less

-- ---- rows laid out

pub laid_start : (rows : List ℕ) (m at w : ℕ) (out : List ℕ) → Laid rows 0 m at w out out
laid_start rows m at w out = record { long = refl; own = λ v q h. absurd (not-suc-le-zero h); before = λ v c h. refl }

-- w lanes of row v, copied to row v of the others
pub laid_turn : {rows out out' ys : List ℕ} (m at w v : ℕ) → at + w ≤ m → w ≤ 16 → v * 16 + 16 ≤ length rows
    → v * m + m ≤ length out'
    → ys ≡ onto (λ (x y : ℕ). y) (take (v * m + at + w - (v * m + at)) (drop (v * m + at) out')) (take (v * 16 + w - v * 16) (drop (v * 16) rows))
    → Laid rows v m at w out out' → Laid rows (v + 1) m at w out (put_mid (v * m + at) (v * m + at + w - (v * m + at)) out' ys)
laid_turn {rows} {out} {out'} {ys} m at w v fits few inside room is h =
    record { long = back_length out' ys (v * m + at) w ys_long there ∙ h.long; own = own; before = before }
  where
    next : List ℕ
    next = put_mid (v * m + at) (v * m + at + w - (v * m + at)) out' ys

    there : v * m + at + w ≤ length out'
    there = omega arith

    ys_long : length ys ≡ w
    ys_long = ap length is ∙ onto-length _ _ _ ∙ part_length out' (v * m + at) w there

    ys_at : (q : ℕ) → q < w → get_or ys q 0 ≡ lane rows v q
    ys_at q k =
        ap (λ (l : List ℕ). get_or l q 0) is
        ∙ onto_at _ _ _ q (omega (arith, part_length out' (v * m + at) w there)) (omega (arith, part_length rows (v * 16) w (omega arith)))
        ∙ part_at rows (v * 16) w q k

    -- place c of row u is not written, where it is none of the w places of row v
    far : (u c : ℕ) → c < m → (u ≡ v → ⊥) ⊎ (c < at) → (u * m + c < v * m + at) ⊎ (v * m + at + w ≤ u * m + c)
    far u c k side = go side (below_or_from u v) (below_or_from v u)
      where
        go : (u ≡ v → ⊥) ⊎ (c < at) → (u < v) ⊎ (v ≤ u) → (v < u) ⊎ (u ≤ v) → (u * m + c < v * m + at) ⊎ (v * m + at + w ≤ u * m + c)
        go e (inl l) r = inl (omega (arith, mul-le-mul_right m l, suc-mul u m))
        go e (inr l) (inl r) = inr (omega (arith, mul-le-mul_right m r, suc-mul v m))
        go (inl e) (inr l) (inr r) = absurd (e (omega arith))
        go (inr e) (inr l) (inr r) = let same : u * m ≡ v * m = ap (λ (x : ℕ). x * m) (omega arith) in inl (omega arith)

    stays : (u c : ℕ) → c < m → (u ≡ v → ⊥) ⊎ (c < at) → get_or next (u * m + c) 0 ≡ get_or out' (u * m + c) 0
    stays u c k side = back_outside out' ys (v * m + at) w ys_long there (u * m + c) (far u c k side)

    here : (q : ℕ) → q < w → get_or next (v * m + (at + q)) 0 ≡ lane rows v q
    here q k =
        let place : v * m + (at + q) ≡ v * m + at + q = omega arith in
        ap (λ (x : ℕ). get_or next x 0) place ∙ back_inside out' ys (v * m + at) w ys_long there q k ∙ ys_at q k

    own : (u q : ℕ) → u < v + 1 → q < w → get_or next (u * m + (at + q)) 0 ≡ lane rows u q
    own u q l k = ⊎_elim mine old (same_or_not u v)
      where
        mine : u ≡ v → get_or next (u * m + (at + q)) 0 ≡ lane rows u q
        mine e = subst (λ (x : ℕ). get_or next (x * m + (at + q)) 0 ≡ lane rows x q) (sym e) (here q k)

        old : (u ≡ v → ⊥) → get_or next (u * m + (at + q)) 0 ≡ lane rows u q
        old e = stays u (at + q) (omega arith) (inl e) ∙ h.own u q (omega arith) k

    before : (u c : ℕ) → c < at → get_or next (u * m + c) 0 ≡ get_or out (u * m + c) 0
    before u c k = stays u c (omega arith) (inr k) ∙ h.before u c k

pub laid_done : {rows out out' : List ℕ} {m at w : ℕ} (r v : ℕ) → r ≤ v → Laid rows v m at w out out' → Laid rows r m at w out out'
laid_done r v h l = record { long = l.long; own = λ u q k. l.own u q (omega arith); before = l.before }
