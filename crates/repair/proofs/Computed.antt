-- Columns computed window by window: one window, and one more.
use Prim.Native.Nat.{ℕ, ◌+◌, ◌-◌, ◌*◌, ◌/◌, ◌%◌, ◌<◌, ◌≤◌}
use mathlib.Core.Path.{◌≡◌, refl, sym, ap, ap₂, ◌∙◌, subst}
use mathlib.Core.Bool.{Bool, true}
use mathlib.Core.Logic.{◌⊎◌, inl, inr, ⊎_elim}
use mathlib.Core.List.{List, [], ◌∷◌, map}
use native.Mathlib.Nat.{not-suc-le-zero}
use native.Mathlib.Omega.{arith}
use lib.ListN.{length, get_or}
use Rattle.field.specs.Field.{◌⊕◌}
use Rattle.field.proofs.Xor.{add_self}
use Rattle.field.proofs.Powers.{sum_zero}
use Rattle.field.proofs.Cases.{below_or_from}
use Rattle.lanes.specs.Lanes.{all_zero}
use Rattle.lanes.proofs.Zero.{zero_at, zero_not}
use Rattle.stripe.proofs.Places.{place_split, place_column_lt, place_byte_lt}
use Rattle.points.specs.Lagrange.{dot}
use Rattle.matrix.specs.Matrix.{row_of, matrix_fits, becomes}
use Rattle.matrix.proofs.Shape.{fit_lengths, becomes_fits, applied_place, applied-length}
use Rattle.constants.proofs.Applied.{bytes_window}
use Rattle.repair.specs.Windows.{Says, row_byte, column_byte, Lent, Window, Holds, NoneOf, Put, Added}

map_same : (f g : ℕ → ℕ) (xs : List ℕ) → ((x : ℕ) → f x ≡ g x) → map f xs ≡ map g xs
map_same f g [] h = refl
map_same f g (x ∷ xs) h = ap₂ (λ (y : ℕ) (ys : List ℕ). y ∷ ys) (h x) (map_same f g xs h)

-- the same bytes at a place are the same rows there
row_same : (ws cs xs ys : List ℕ) (l v p : ℕ) → ((c : ℕ) → get_or xs (c * l + p) 0 ≡ get_or ys (c * l + p) 0)
    → row_byte ws cs xs l v p ≡ row_byte ws cs ys l v p
unfolding row_byte
row_same ws cs xs ys l v p h = ap (dot (row_of (length cs) ws v)) (map_same _ _ cs h)

-- ---- one window

module _ (ws cs ts xs ms : List ℕ) (l at n : ℕ) (h : Lent ws cs ts l (length xs)) (w : Window ts l at n (length ms)) where
  fit : matrix_fits (length ts) cs at l n (length ws) (length xs) (length ms) ≡ true
  fit =
      fit_lengths (length ts) cs at l n (length ws) (length xs) (length ms)
      record {
        numbers = record {
          rows_some = w.rows_some;
          rows_most = h.rows_most;
          columns_some = h.columns_some;
          columns_most = h.columns_most;
          places_some = w.places_some;
          places_most = omega (arith, w.ends, h.places_most);
        };
        matrix = h.matrix;
        columns = λ i k. omega (arith, h.read i k, w.ends);
        out = w.room;
      }

  module _ (rs : List ℕ) (is : rs ≡ becomes (length ts) cs ws xs at l n ms) where
    pub window_long : length rs ≡ length ts * n
    window_long =
        ap length (is ∙ becomes_fits (length ts) cs ws xs at l n ms fit) ∙ applied-length (length ts) cs ws xs at l n

    -- each row of the window, place by place
    pub window_row : (v q : ℕ) → v < length ts → q < n → get_or rs (v * n + q) 0 ≡ row_byte ws cs xs l v (at + q)
    unfolding row_byte
    window_row v q hv hq =
        ap (λ (zs : List ℕ). get_or zs (v * n + q) 0) (is ∙ becomes_fits (length ts) cs ws xs at l n ms fit)
        ∙ applied_place (length ts) cs ws xs at l n v q hv hq ∙ ap (dot (row_of (length cs) ws v)) (bytes_window xs at l q cs)

    module _ (zs : List ℕ) (a : Added ts (length ts) l at n xs rs zs) where
      zs_long : length zs ≡ length ts * n
      zs_long = a.long ∙ window_long

      summed : (v q : ℕ) → v < length ts → q < n → get_or zs (v * n + q) 0 ≡ row_byte ws cs xs l v (at + q) ⊕ column_byte ts xs l v (at + q)
      summed v q hv hq = a.own v q hv hq ∙ ap (λ (x : ℕ). x ⊕ column_byte ts xs l v (at + q)) (window_row v q hv hq)

      equal : all_zero zs ≡ true → (v p : ℕ) → v < length ts → at ≤ p → p < at + n → column_byte ts xs l v p ≡ row_byte ws cs xs l v p
      equal e v p hv from to =
          let place : at + (p - at) ≡ p = omega arith in
          subst (λ (z : ℕ). column_byte ts xs l v z ≡ row_byte ws cs xs l v z) place
          (sym (sum_zero _ _ (sym (summed v (p - at) hv (omega arith)) ∙ zero_at zs e (v * n + (p - at)))))

      zeros : Holds (row_byte ws cs xs l) ts l at (at + n) xs → (i : ℕ) → i < length zs → get_or zs i 0 ≡ 0
      zeros g i hi = subst (λ (z : ℕ). get_or zs z 0 ≡ 0) (place_split i n)
          (at_place (i / n) (i % n) (place_column_lt i _ n inside) (place_byte_lt i _ n inside))
        where
          inside : i < length ts * n
          inside = omega (arith, zs_long)

          at_place : (v q : ℕ) → v < length ts → q < n → get_or zs (v * n + q) 0 ≡ 0
          at_place v q hv hq =
              summed v q hv hq ∙ ap (λ (x : ℕ). row_byte ws cs xs l v (at + q) ⊕ x) (g.own v (at + q) hv (omega arith) (omega arith)) ∙ add_self _

      -- the columns are what they are computed to be exactly where all their sums are zero
      pub window_judged : (b : Bool) → b ≡ all_zero zs → Says b (Holds (row_byte ws cs xs l) ts l at (at + n) xs)
      window_judged b e = record { so = λ y. record { own = equal (sym e ∙ y) }; not_so = λ y g. zero_not zs (sym e ∙ y) (zeros g) }

    -- rows put into their columns
    pub window_put : (ys : List ℕ) → Put (λ v p. get_or rs (v * n + (p - at)) 0) ts (length ts) l at (at + n) xs ys
        → Put (row_byte ws cs xs l) ts (length ts) l at (at + n) xs ys
    window_put ys g = record { long = g.long; own = own; other = g.other }
      where
        own : (v p : ℕ) → v < length ts → at ≤ p → p < at + n → column_byte ts ys l v p ≡ row_byte ws cs xs l v p
        own v p hv from to =
            let place : at + (p - at) ≡ p = omega arith in
            g.own v p hv from to ∙ window_row v (p - at) hv (omega arith) ∙ ap (row_byte ws cs xs l v) place

-- ---- one window more

module _ (f : ℕ → ℕ → ℕ) (ts : List ℕ) (l : ℕ) (xs : List ℕ) where
  pub holds_none : Holds f ts l 0 0 xs
  holds_none = record { own = λ v p h from to. absurd (not-suc-le-zero to) }

  pub holds_more : (a b : ℕ) → Holds f ts l 0 a xs → Holds f ts l a b xs → Holds f ts l 0 b xs
  holds_more a b g h = record { own = λ v p hv from to. ⊎_elim (λ k. g.own v p hv from k) (λ k. h.own v p hv k to) (below_or_from p a) }

  pub holds_part : (a b : ℕ) → b ≤ l → Holds f ts l 0 l xs → Holds f ts l a b xs
  holds_part a b h g = record { own = λ v p hv from to. g.own v p hv (omega arith) (omega arith) }

  pub holds_all : (a : ℕ) → l ≤ a → Holds f ts l 0 a xs → Holds f ts l 0 l xs
  holds_all a h g = record { own = λ v p hv from to. g.own v p hv from (omega arith) }

module _ (f : ℕ → ℕ → ℕ) (ts : List ℕ) (l : ℕ) (xs : List ℕ) where
  pub put_all : (a : ℕ) (ys : List ℕ) → a ≡ l → Put f ts (length ts) l 0 a xs ys → Put f ts (length ts) l 0 l xs ys
  put_all a ys e g = subst (λ (b : ℕ). Put f ts (length ts) l 0 b xs ys) e g

-- the windows before leave the places from a on as they were, so that the next is computed from the bytes that were there at first
pub put_more : (ws cs ts : List ℕ) (l a b : ℕ) (xs ys zs : List ℕ) → a ≤ b → b ≤ l → Put (row_byte ws cs xs l) ts (length ts) l 0 a xs ys
    → Put (row_byte ws cs ys l) ts (length ts) l a b ys zs → Put (row_byte ws cs xs l) ts (length ts) l 0 b xs zs
put_more ws cs ts l a b xs ys zs ab bl g h = record { long = h.long ∙ g.long; own = own; other = other }
  where
    same : (v p : ℕ) → a ≤ p → p < l → row_byte ws cs ys l v p ≡ row_byte ws cs xs l v p
    same v p from hp = row_same ws cs ys xs l v p (λ c. g.other c p hp (inr (inr from)))

    own : (v p : ℕ) → v < length ts → 0 ≤ p → p < b → column_byte ts zs l v p ≡ row_byte ws cs xs l v p
    own v p hv from to = ⊎_elim before here (below_or_from p a)
      where
        before : p < a → column_byte ts zs l v p ≡ row_byte ws cs xs l v p
        before k = h.other (get_or ts v 0) p (omega arith) (inr (inl k)) ∙ g.own v p hv from k

        here : a ≤ p → column_byte ts zs l v p ≡ row_byte ws cs xs l v p
        here k = h.own v p hv k to ∙ same v p k (omega arith)

    other : (c p : ℕ) → p < l → NoneOf ts (length ts) c ⊎ ((p < 0) ⊎ (b ≤ p)) → get_or zs (c * l + p) 0 ≡ get_or xs (c * l + p) 0
    other c p hp (inl k) = h.other c p hp (inl k) ∙ g.other c p hp (inl k)
    other c p hp (inr (inl k)) = absurd (not-suc-le-zero k)
    other c p hp (inr (inr k)) = h.other c p hp (inr (inr k)) ∙ g.other c p hp (inr (inr (omega arith)))
