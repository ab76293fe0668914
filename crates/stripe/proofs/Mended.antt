-- The mended stripe, by rows: at each place the lost data bytes are solved for, first in the runs below r, whose parity is the rows alone, then in
-- the others, where what is added to the rows comes from those runs. It is a codeword, and the only one that can agree with all survivors;
-- it does exactly when the surviving rows that were not solved by hold too.
use mathlib.Core.Path.{◌≡◌, sym, ap, ap₂, ◌∙◌, subst}
use mathlib.Core.Bool.{Bool, false, cond}
use mathlib.Core.Logic.{◌⊎◌, inl, inr, ◌↔◌}
use mathlib.Core.List.{List, ◌++◌}
use Prim.Native.Nat.{ℕ, ◌+◌, ◌-◌, ◌*◌, ◌/◌, ◌%◌, ◌<◌, ◌≤◌}
use native.Mathlib.Omega.{arith}
use lib.Dec.{ltb}
use lib.ListN.{length, get_or, get_or-append}
use lib.Seq.{ext_get_or, get_or-take}
use borrow.Author.Tests.{lt-ltb, le-ltb}
use Rattle.field.specs.Field.{◌⊕◌}
use Rattle.field.specs.Bytes.{Bytes, tabulate}
use Rattle.field.specs.Row.{row}
use Rattle.field.proofs.Xor.{add-lt, sums}
use Rattle.field.proofs.Bytes.{tabulate-length, tabulate_at, tabulate_bytes}
use Rattle.field.proofs.Rows.{row_lt}
use Rattle.field.proofs.Cases.{below_or_from}
use Rattle.stripe.specs.declared.Shape.{Shape}
use Rattle.stripe.specs.Shape.{columns, data_length}
use Rattle.stripe.specs.Stripe.{by_points, across, row_at, run_length, parity_byte, parity, data_of, Codeword, among, Ascending, Agree, plain_runs}
use Rattle.stripe.proofs.Allowed.{Allowed, rows_most}
use Rattle.stripe.proofs.Places.{place_lt, place_column, place_byte, by_places, across-length, across_first}
use Rattle.stripe.proofs.Places.{across_bytes, parity_below, parity_from, row_at_stripe, data_of-length}
use Rattle.stripe.proofs.Codewords.{codeword_checks}
use Rattle.stripe.proofs.Places.{run_place_lt, run_place_run}
use Rattle.stripe.proofs.Codewords.{encoded_data, encoded_codeword, codeword_encoded}
use Rattle.stripe.proofs.Errors.{AgreeOff}
use Rattle.stripe.proofs.Word.{SurvivingRows, word_mended, word_mended_length, word_mended_bytes, word_mended_agrees, word_only, word_completed}

-- ---- definitions

-- the data bytes at place p of a whole stripe, and the byte of its parity column j there
abbrev pub data_at : Shape → List ℕ → ℕ → List ℕ
data_at s xs p = across xs s.l p 0 s.k

abbrev pub check_at : Shape → List ℕ → ℕ → ℕ → ℕ
check_at s xs p j = get_or xs ((s.k + j) * s.l + p) 0

-- the data bytes at a place of a run below r
unfoldable pub word_below : Shape → List ℕ → List ℕ → ℕ → List ℕ
word_below s es xs p = word_mended s.k es (data_at s xs p) (check_at s xs p)

-- what row j is to be at place p: the byte of parity column j, less the piggyback in a run from r on
unfoldable pub wanted : Shape → List ℕ → List ℕ → ℕ → ℕ → ℕ
wanted s es xs p j =
    cond (ltb (p / run_length s) (plain_runs s)) (check_at s xs p j)
    (check_at s xs p j ⊕ row (p / run_length s) (word_below s es xs (j * run_length s + p % run_length s)))

-- the data bytes at place p
unfoldable pub word_at : Shape → List ℕ → List ℕ → ℕ → List ℕ
word_at s es xs p = word_mended s.k es (data_at s xs p) (wanted s es xs p)

unfoldable pub data_mended : Shape → List ℕ → List ℕ → List ℕ
data_mended s es xs = tabulate (data_length s) (λ n. get_or (word_at s es xs (n % s.l)) (n / s.l) 0)

unfoldable pub stripe_mended : Shape → List ℕ → List ℕ → List ℕ
stripe_mended s es xs = data_mended s es xs ++ parity s (data_mended s es xs)

-- ---- what they are by runs

pub wanted_below : (s : Shape) (es xs : List ℕ) (p j : ℕ) → p / run_length s < plain_runs s → wanted s es xs p j ≡ check_at s xs p j
unfolding wanted
wanted_below s es xs p j h =
    ap (λ (b : Bool). cond b (check_at s xs p j) (check_at s xs p j ⊕ row (p / run_length s) (word_below s es xs (j * run_length s + p % run_length s))))
    (lt-ltb _ _ h)

pub wanted_from : (s : Shape) (es xs : List ℕ) (p j : ℕ) → plain_runs s ≤ p / run_length s
    → wanted s es xs p j ≡ check_at s xs p j ⊕ row (p / run_length s) (word_below s es xs (j * run_length s + p % run_length s))
unfolding wanted
wanted_from s es xs p j h =
    ap (λ (b : Bool). cond b (check_at s xs p j) (check_at s xs p j ⊕ row (p / run_length s) (word_below s es xs (j * run_length s + p % run_length s))))
    (le-ltb _ _ h)

pub word_below_lem : (s : Shape) (es xs : List ℕ) (p : ℕ) → p / run_length s < plain_runs s → word_at s es xs p ≡ word_below s es xs p
unfolding word_at word_below wanted
word_below_lem s es xs p h =
    ap
    (λ (b : Bool). word_mended s.k es (data_at s xs p)
    (λ j. cond b (check_at s xs p j) (check_at s xs p j ⊕ row (p / run_length s) (word_below s es xs (j * run_length s + p % run_length s)))))
    (lt-ltb _ _ h)

pub word_length : (s : Shape) (es xs : List ℕ) (p : ℕ) → length (word_at s es xs p) ≡ s.k
unfolding word_at
word_length s es xs p = word_mended_length s.k es (data_at s xs p) (wanted s es xs p) ∙ across-length xs s.l p 0 s.k

pub wanted_lt : (s : Shape) (es xs : List ℕ) (p j : ℕ) → Bytes xs → wanted s es xs p j < 256
wanted_lt s es xs p j b = go (below_or_from (p / run_length s) (plain_runs s))
  where
    go : (p / run_length s < plain_runs s) ⊎ (plain_runs s ≤ p / run_length s) → wanted s es xs p j < 256
    go (inl h) = subst (λ (z : ℕ). z < 256) (sym (wanted_below s es xs p j h)) (b _)
    go (inr h) = subst (λ (z : ℕ). z < 256) (sym (wanted_from s es xs p j h)) (add-lt 8 _ _ (b _) (row_lt (p / run_length s) _))

-- ---- its data, place by place

pub data_mended_length : (s : Shape) (es xs : List ℕ) → length (data_mended s es xs) ≡ data_length s
unfolding data_mended
data_mended_length s es xs = tabulate-length (data_length s) _

pub data_mended_at : (s : Shape) (es xs : List ℕ) (c p : ℕ) → c < s.k → p < s.l → get_or (data_mended s es xs) (c * s.l + p) 0 ≡ get_or (word_at s es xs p) c 0
unfolding data_mended
data_mended_at s es xs c p hc hp =
    tabulate_at (data_length s) _ (c * s.l + p) (place_lt hc hp)
    ∙ ap₂ (λ (x y : ℕ). get_or (word_at s es xs x) y 0) (place_byte c hp) (place_column c hp)

pub data_mended_across : (s : Shape) (es xs : List ℕ) (p : ℕ) → p < s.l → across (data_mended s es xs) s.l p 0 s.k ≡ word_at s es xs p
data_mended_across s es xs p hp =
    ext_get_or 0 _ _ (across-length (data_mended s es xs) s.l p 0 s.k ∙ sym (word_length s es xs p))
    (λ c l. at c (subst (λ (z : ℕ). c < z) (across-length (data_mended s es xs) s.l p 0 s.k) l))
  where
    at : (c : ℕ) → c < s.k → get_or (across (data_mended s es xs) s.l p 0 s.k) c 0 ≡ get_or (word_at s es xs p) c 0
    at c hc = across_first (data_mended s es xs) s.l p s.k c hc ∙ data_mended_at s es xs c p hc hp

mended_row_at : (s : Shape) (es xs : List ℕ) (j p : ℕ) → p < s.l → row_at s (data_mended s es xs) j p ≡ row j (word_at s es xs p)
unfolding row_at
mended_row_at s es xs j p hp = ap (row j) (data_mended_across s es xs p hp)

cancel_right : (x y z : ℕ) → x ≡ y ⊕ z → x ⊕ z ≡ y
cancel_right x y z e = ap (λ (w : ℕ). w ⊕ z) e ∙ simp sums

add_right : (x y z : ℕ) → x ⊕ z ≡ y → x ≡ y ⊕ z
add_right x y z e = undo ∙ ap (λ (w : ℕ). w ⊕ z) e
  where
    undo : x ≡ x ⊕ z ⊕ z
    undo = simp sums

-- its parity byte, in a run below r and in the others
pub mended_parity_below : (s : Shape) (es xs : List ℕ) (i p : ℕ) → by_points s ≡ false → p < s.l → p / run_length s < plain_runs s
    → parity_byte s (data_mended s es xs) i p ≡ row i (word_at s es xs p)
mended_parity_below s es xs i p rows hp h = parity_below s (data_mended s es xs) i p rows h ∙ mended_row_at s es xs i p hp

pub mended_parity_from : (s : Shape) (es xs : List ℕ) (i p : ℕ) → by_points s ≡ false → Allowed s → i < s.r → p < s.l → plain_runs s ≤ p / run_length s
    → parity_byte s (data_mended s es xs) i p
    ≡ row i (word_at s es xs p) ⊕ row (p / run_length s) (word_below s es xs (i * run_length s + p % run_length s))
mended_parity_from s es xs i p rows a hi hp h =
    parity_from s (data_mended s es xs) i p rows h
    ∙ ap₂ ◌⊕◌ (mended_row_at s es xs i p hp)
    (mended_row_at s es xs (p / run_length s) (i * run_length s + p % run_length s) (run_place_lt s i p a hi hp h)
    ∙ ap (row (p / run_length s)) (word_below_lem s es xs _ (subst (λ (z : ℕ). z < plain_runs s) (sym (run_place_run s i p a)) hi)))

-- it is the one that the stripe has exactly when the row is the one wanted
pub parity_wanted : (s : Shape) (es xs : List ℕ) (i p : ℕ) → by_points s ≡ false → Allowed s → i < s.r → p < s.l
    → (row i (word_at s es xs p) ≡ wanted s es xs p i) ↔ (parity_byte s (data_mended s es xs) i p ≡ check_at s xs p i)
parity_wanted s es xs i p rows a hi hp = go (below_or_from (p / run_length s) (plain_runs s))
  where
    go : (p / run_length s < plain_runs s) ⊎ (plain_runs s ≤ p / run_length s)
        → (row i (word_at s es xs p) ≡ wanted s es xs p i) ↔ (parity_byte s (data_mended s es xs) i p ≡ check_at s xs p i)
    go (inl h) = (
      λ e. mended_parity_below s es xs i p rows hp h ∙ e ∙ wanted_below s es xs p i h,
      λ e. sym (mended_parity_below s es xs i p rows hp h) ∙ e ∙ sym (wanted_below s es xs p i h),
    )
    go (inr h) = (
      λ e. mended_parity_from s es xs i p rows a hi hp h ∙ cancel_right _ _ _ (e ∙ wanted_from s es xs p i h),
      λ e. add_right _ _ _ (sym (mended_parity_from s es xs i p rows a hi hp h) ∙ e) ∙ sym (wanted_from s es xs p i h),
    )

-- ---- the theorems

module _ (s : Shape) (rows : by_points s ≡ false) (a : Allowed s) (es : List ℕ) (asc : Ascending 0 (columns s) es) (few : length es ≤ s.r)
    (xs : List ℕ) (bytes : Bytes xs) where
  word_bytes : (p : ℕ) → Bytes (word_at s es xs p)
  unfolding word_at
  word_bytes p =
      word_mended_bytes s.k s.r es a.data_most (rows_most s a rows) asc few (data_at s xs p) (across-length xs s.l p 0 s.k) _
      (across_bytes xs s.l p 0 s.k bytes)

  data_mended_bytes : Bytes (data_mended s es xs)
  unfolding data_mended
  data_mended_bytes = tabulate_bytes (data_length s) _ (λ n. word_bytes (n % s.l) (n / s.l))

  pub mended_codeword : Codeword s (stripe_mended s es xs)
  unfolding stripe_mended
  mended_codeword = encoded_codeword s (data_mended s es xs) data_mended_bytes (data_mended_length s es xs)

  -- the data columns that survive stay
  mended_data : (c p : ℕ) → c < s.k → p < s.l → among c es ≡ false → get_or xs (c * s.l + p) 0 ≡ get_or (stripe_mended s es xs) (c * s.l + p) 0
  unfolding stripe_mended word_at
  mended_data c p hc hp n =
      sym (across_first xs s.l p s.k c hc)
      ∙ word_mended_agrees s.k s.r es a.data_most (rows_most s a rows) asc few (data_at s xs p) (across-length xs s.l p 0 s.k) _ c hc n
      ∙ sym (data_mended_at s es xs c p hc hp)
      ∙ sym (get_or-append (data_mended s es xs) _ 0 (c * s.l + p) (subst (λ (z : ℕ). c * s.l + p < z) (sym (data_mended_length s es xs)) (place_lt hc hp)))

  mended_check : (i p : ℕ) → i < s.r → p < s.l → check_at s (stripe_mended s es xs) p i ≡ parity_byte s (data_mended s es xs) i p
  unfolding stripe_mended
  mended_check i p hi hp =
      codeword_checks s (stripe_mended s es xs) mended_codeword i p hi hp
      ∙ ap (λ (ds : List ℕ). parity_byte s ds i p) (encoded_data s (data_mended s es xs) _ (data_mended_length s es xs))

  -- the mended stripe agrees with all survivors exactly when at every place all surviving rows have the values wanted
  pub mended_agrees_exactly : Agree s es xs (stripe_mended s es xs) ↔ ((p : ℕ) → p < s.l → SurvivingRows s.k s.r es (wanted s es xs p) (word_at s es xs p))
  mended_agrees_exactly = (there, back)
    where
      there : Agree s es xs (stripe_mended s es xs) → (p : ℕ) → p < s.l → SurvivingRows s.k s.r es (wanted s es xs p) (word_at s es xs p)
      there h p hp j hj n =
          (parity_wanted s es xs j p rows a hj hp).1 (sym (mended_check j p hj hp) ∙ sym (h (s.k + j) p (omega arith) hp n))

      back : ((p : ℕ) → p < s.l → SurvivingRows s.k s.r es (wanted s es xs p) (word_at s es xs p)) → Agree s es xs (stripe_mended s es xs)
      back h c p hc hp n = go (below_or_from c s.k)
        where
          go : (c < s.k) ⊎ (s.k ≤ c) → get_or xs (c * s.l + p) 0 ≡ get_or (stripe_mended s es xs) (c * s.l + p) 0
          go (inl l) = mended_data c p l hp n
          go (inr m) =
              let i : ℕ = c - s.k in
              let e : c ≡ s.k + i = omega arith in
              let hi : i < s.r = omega arith in
              subst (λ (z : ℕ). get_or xs (z * s.l + p) 0 ≡ get_or (stripe_mended s es xs) (z * s.l + p) 0) (sym e)
              (sym (mended_check i p hi hp ∙ (parity_wanted s es xs i p rows a hi hp).0 (h p hp i hi (subst (λ (z : ℕ). among z es ≡ false) e n))))

  -- with r lost it always does
  pub mended_full : length es ≡ s.r → Agree s es xs (stripe_mended s es xs)
  unfolding word_at
  mended_full full =
      mended_agrees_exactly.1
      (λ p hp.
      word_completed s.k s.r es a.data_most (rows_most s a rows) asc few (data_at s xs p) (across-length xs s.l p 0 s.k) (wanted s es xs p) full
      (λ j. wanted_lt s es xs p j bytes))

  -- a codeword that agrees with all survivors is the mended stripe
  module _ (ys : List ℕ) (w : Codeword s ys) (agree : Agree s es xs ys) where
    same_data : (p : ℕ) → p < s.l → AgreeOff s.k es (data_at s xs p) (data_at s ys p)
    same_data p hp c hc n =
        across_first xs s.l p s.k c hc ∙ agree c p (omega arith) hp n ∙ sym (across_first ys s.l p s.k c hc)

    same_check : (p j : ℕ) → p < s.l → j < s.r → among (s.k + j) es ≡ false → check_at s xs p j ≡ parity_byte s (data_of s ys) j p
    same_check p j hp hj n = agree (s.k + j) p (omega arith) hp n ∙ codeword_checks s ys w j p hj hp

    only_word : (t : ℕ → ℕ) (p : ℕ) → p < s.l → SurvivingRows s.k s.r es t (data_at s ys p) → data_at s ys p ≡ word_mended s.k es (data_at s xs p) t
    only_word t p hp h =
        word_only s.k s.r es a.data_most (rows_most s a rows) asc few (data_at s xs p) (across-length xs s.l p 0 s.k) t
        (data_at s ys p) (across-length ys s.l p 0 s.k) (across_bytes xs s.l p 0 s.k bytes) (across_bytes ys s.l p 0 s.k w.bytes)
        (same_data p hp) h

    -- in a run below r
    only_below : (p : ℕ) → p < s.l → p / run_length s < plain_runs s → data_at s ys p ≡ word_below s es xs p
    unfolding word_below
    only_below p hp h =
        only_word (check_at s xs p) p hp
        (λ j hj n. sym (row_at_stripe s ys j p hp) ∙ sym (parity_below s (data_of s ys) j p rows h) ∙ sym (same_check p j hp hj n))

    -- in any run
    only_at : (p : ℕ) → p < s.l → data_at s ys p ≡ word_at s es xs p
    unfolding word_at
    only_at p hp = only_word (wanted s es xs p) p hp (λ j hj n. go j hj n (below_or_from (p / run_length s) (plain_runs s)))
      where
        go : (j : ℕ) → j < s.r → among (s.k + j) es ≡ false → (p / run_length s < plain_runs s) ⊎ (plain_runs s ≤ p / run_length s)
            → row j (data_at s ys p) ≡ wanted s es xs p j
        go j hj n (inl h) =
            sym (row_at_stripe s ys j p hp) ∙ sym (parity_below s (data_of s ys) j p rows h) ∙ sym (same_check p j hp hj n)
            ∙ sym (wanted_below s es xs p j h)
        go j hj n (inr h) =
            add_right _ _ _ (sym (ap₂ ◌⊕◌ (row_at_stripe s ys j p hp) from) ∙ sym (parity_from s (data_of s ys) j p rows h) ∙ sym (same_check p j hp hj n))
            ∙ sym (wanted_from s es xs p j h)
          where
            q : ℕ
            q = j * run_length s + p % run_length s

            from : row_at s (data_of s ys) (p / run_length s) q ≡ row (p / run_length s) (word_below s es xs q)
            from =
                row_at_stripe s ys (p / run_length s) q (run_place_lt s j p a hj hp h)
                ∙ ap (row (p / run_length s))
                (only_below q (run_place_lt s j p a hj hp h) (subst (λ (z : ℕ). z < plain_runs s) (sym (run_place_run s j p a)) hj))

    only_data : data_of s ys ≡ data_mended s es xs
    only_data =
        by_places s.k s.l _ _ (data_of-length s ys w.long) (data_mended_length s es xs)
        (λ c p hc hp.
        get_or-take (data_length s) ys (c * s.l + p) 0 (place_lt hc hp)
        ∙ sym (across_first ys s.l p s.k c hc)
        ∙ ap (λ (ms : List ℕ). get_or ms c 0) (only_at p hp)
        ∙ sym (data_mended_at s es xs c p hc hp))

    pub mended_only : ys ≡ stripe_mended s es xs
    unfolding stripe_mended
    mended_only = codeword_encoded s ys w ∙ ap (λ (ds : List ℕ). ds ++ parity s ds) only_data
