-- Columns by their places, and codewords as data with their parity.
use mathlib.Core.Path.{◌≡◌, sym, ap, ap₂, ◌∙◌, subst}
use mathlib.Core.Logic.{◌↔◌}
use mathlib.Core.List.{List}
use Prim.Native.Nat.{ℕ, ◌+◌, ◌*◌, ◌/◌, ◌%◌, ◌<◌, ◌≤◌}
use native.Mathlib.Nat.{add-mul}
use native.Mathlib.Omega.{arith}
use lib.ListN.{length, get_or, take, drop, length-drop}
use lib.Seq.{ext_get_or}
use Rattle.field.specs.Bytes.{Bytes}
use Rattle.field.proofs.Bytes.{tabulate-length, tabulate_at, tabulate_bytes, drop_bytes}
use Rattle.stripe.specs.Stripe.{across}
use Rattle.stripe.proofs.Codewords.{across_both}
use Rattle.stripe.proofs.Places.{place_lt, place_column, place_byte, by_places, across-length, across_first, across_bytes, across-take}
use Rattle.points.specs.Points.{points, sum_at, check_sum, parity_of}
use Rattle.points.proofs.Parity.{parity-length, parity_bytes, parity_checked, parity_only, word_sum}
use Rattle.equations.specs.Whole.{columns_of, sum_of, Codeword, parity}

-- ---- columns that hold given words

pub columns-length : (n l : ℕ) (w : ℕ → List ℕ) → length (columns_of n l w) ≡ n * l
unfolding columns_of
columns-length n l w = tabulate-length (n * l) _

pub columns_bytes : (n l : ℕ) (w : ℕ → List ℕ) → ((p : ℕ) → Bytes (w p)) → Bytes (columns_of n l w)
unfolding columns_of
columns_bytes n l w h = tabulate_bytes (n * l) _ (λ i. h (i % l) (i / l))

pub columns_at : (n l : ℕ) (w : ℕ → List ℕ) (c p : ℕ) → c < n → p < l → get_or (columns_of n l w) (c * l + p) 0 ≡ get_or (w p) c 0
unfolding columns_of
columns_at n l w c p hc hp =
    tabulate_at (n * l) _ (c * l + p) (place_lt hc hp) ∙ ap₂ (λ (x y : ℕ). get_or (w x) y 0) (place_byte c hp) (place_column c hp)

pub columns_across : (n l : ℕ) (w : ℕ → List ℕ) (p : ℕ) → p < l → length (w p) ≡ n → across (columns_of n l w) l p 0 n ≡ w p
columns_across n l w p hp e =
    ext_get_or 0 _ (w p) (across-length (columns_of n l w) l p 0 n ∙ sym e)
    (λ c m.
    let hc : c < n = subst (λ (x : ℕ). c < x) (across-length (columns_of n l w) l p 0 n) m in
    across_first (columns_of n l w) l p n c hc ∙ columns_at n l w c p hc hp)

-- ---- sums of two parts

-- sum s at a place is the check sum of the data bytes and the parity bytes there
pub sum_of_parts : (k r l : ℕ) (xs : List ℕ) (p s : ℕ) → sum_of k r l xs p s ≡ check_sum s (across xs l p 0 k) (across (drop (k * l) xs) l p 0 r)
unfolding sum_of
sum_of_parts k r l xs p s =
    ap (λ (ys : List ℕ). sum_at (points k r) ys s) (across_both xs k r l p)
    ∙ word_sum k r (across xs l p 0 k) (across (drop (k * l) xs) l p 0 r) s (across-length xs l p 0 k) (across-length (drop (k * l) xs) l p 0 r)

-- ---- parity

pub stripe_parity_length : (k r l : ℕ) (ds : List ℕ) → length (parity k r l ds) ≡ r * l
unfolding parity
stripe_parity_length k r l ds = columns-length r l _

pub stripe_parity_bytes : (k r l : ℕ) (ds : List ℕ) → Bytes (parity k r l ds)
unfolding parity
stripe_parity_bytes k r l ds = columns_bytes r l _ (λ p. parity_bytes r (across ds l p 0 k))

pub stripe_parity_across : (k r l : ℕ) (ds : List ℕ) (p : ℕ) → p < l → across (parity k r l ds) l p 0 r ≡ parity_of r (across ds l p 0 k)
unfolding parity
stripe_parity_across k r l ds p hp = columns_across r l _ p hp (parity-length r (across ds l p 0 k))

-- r columns of l bytes are told by their words
pub told_across : (n l : ℕ) (xs ys : List ℕ) → length xs ≡ n * l → length ys ≡ n * l
    → ((p : ℕ) → p < l → across xs l p 0 n ≡ across ys l p 0 n) → xs ≡ ys
told_across n l xs ys ex ey h =
    by_places n l xs ys ex ey
    (λ c p hc hp. sym (across_first xs l p n c hc) ∙ ap (λ (zs : List ℕ). get_or zs c 0) (h p hp) ∙ across_first ys l p n c hc)

-- a stripe is a codeword exactly when its parity columns are the parity of its data columns
module _ (k r l : ℕ) (r-most : r ≤ 255) (xs : List ℕ) (b : Bytes xs) (long : length xs ≡ (k + r) * l) where
  parity_long : length (drop (k * l) xs) ≡ r * l
  parity_long = length-drop (k * l) xs ∙ omega (arith, long, add-mul k r l)

  pub codeword_parity : Codeword k r l xs ↔ (drop (k * l) xs ≡ parity k r l (take (k * l) xs))
  codeword_parity = (there, back)
    where
      there : Codeword k r l xs → drop (k * l) xs ≡ parity k r l (take (k * l) xs)
      there w =
          told_across r l _ _ parity_long (stripe_parity_length k r l (take (k * l) xs))
          (λ p hp.
          parity_only r (across xs l p 0 k) (across (drop (k * l) xs) l p 0 r) r-most
          (across_bytes (drop (k * l) xs) l p 0 r (drop_bytes (k * l) xs b)) (across-length (drop (k * l) xs) l p 0 r)
          (λ s hs. sym (sum_of_parts k r l xs p s) ∙ w.zero_sums p s hp hs)
          ∙ ap (parity_of r) (sym (across-take xs l p k hp))
          ∙ sym (stripe_parity_across k r l (take (k * l) xs) p hp))

      back : drop (k * l) xs ≡ parity k r l (take (k * l) xs) → Codeword k r l xs
      back e =
          record {
            bytes = b;
            long = long;
            zero_sums = λ p s hp hs.
                sum_of_parts k r l xs p s
                ∙ ap (λ (ps : List ℕ). check_sum s (across xs l p 0 k) (across ps l p 0 r)) e
                ∙ ap (check_sum s (across xs l p 0 k))
                (stripe_parity_across k r l (take (k * l) xs) p hp ∙ ap (parity_of r) (across-take xs l p k hp))
                ∙ parity_checked r (across xs l p 0 k) r-most s hs;
          }
