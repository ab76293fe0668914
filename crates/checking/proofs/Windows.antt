-- A check by windows: what is kept after each row and each window is, at the end, the first difference; and a window holds the parity of the data.
use mathlib.Core.Path.{◌≡◌, sym, ap, ap₂, ◌∙◌, subst}
use mathlib.Core.Bool.{true}
use mathlib.Core.List.{List}
use mathlib.Core.Logic.{◌⊎◌, inl, inr, ⊎_elim}
use Prim.Native.Nat.{ℕ, ◌+◌, ◌-◌, ◌*◌, ◌/◌, ◌%◌, ◌<◌, ◌≤◌, min}
use native.Mathlib.Nat.{mul-le-mul_left, mul-le-mul_right, le-div_iff_mul-le, div-add-mod}
use native.Mathlib.Omega.{arith}
use lib.ListN.{length, get_or, take, drop}
use lib.Seq.{get_or-take, get_or-drop}
use borrow.Rule.Slice.PartMut.{mid_len}
use Rattle.std.proofs.lemmas.Grind.{div_ceil_times}
use Rattle.field.specs.Bytes.{tabulate}
use Rattle.field.proofs.Bytes.{tabulate-length, tabulate_at}
use Rattle.field.proofs.Cases.{below_or_from}
use Rattle.points.specs.Lagrange.{dot}
use Rattle.stripe.specs.declared.Shape.{Shape}
use Rattle.stripe.specs.Stripe.{by_points, parity}
use Rattle.stripe.specs.Column.{lent_refusal}
use Rattle.stripe.proofs.Places.{column_inside, place_split, place_byte_lt, parity_at, parity_by_points}
use Rattle.stripe.proofs.Allowed.{allowed}
use Rattle.stripe.proofs.Lent.{lent}
use Rattle.matrix.specs.Matrix.{row_of, bytes_at, applied, becomes}
use Rattle.matrix.proofs.Shape.{Lengths, fit_lengths, applied_place, becomes_fits}
use Rattle.constants.specs.Constants.{encoding_of}
use Rattle.constants.proofs.Made.{encoding_length}
use Rattle.constants.proofs.Applied.{parity_applied}
use Rattle.coding.proofs.ByPoints.{pointed}
use Rattle.checking.specs.Compare.{first_difference}
use Rattle.checking.specs.Windows.{Kept, Below, Window}
use Rattle.checking.proofs.Comparing.{first_before, differs_within, first_unique}

-- ---- the places of a window

pub step_some : (r : ℕ) → 1 ≤ r → r ≤ 16 → 1 ≤ 2048 / r / 64 * 64
step_some r h few = let most : 128 * r ≤ 2048 = omega arith in omega (arith, (le-div_iff_mul-le {k = r} {x = 128} {y = 2048} h).1 most)

pub step_most : (r : ℕ) → r * (2048 / r / 64 * 64) ≤ 2048
step_most r =
    let less : 2048 / r / 64 * 64 ≤ 2048 / r = omega arith in omega (arith, mul-le-mul_left r less, div-add-mod 2048 r)

-- the window i starts within the columns, and the last one ends them
pub window_starts : (l most i : ℕ) → 1 ≤ most → i < l / most + min 1 (l % most) → i * most < l
window_starts l most i some h = ⊎_elim below last (below_or_from i (l / most))
  where
    below : i < l / most → i * most < l
    below g = omega (arith, mul-le-mul_right most g, div-add-mod l most)

    last : l / most ≤ i → i * most < l
    last g = let same : i ≡ l / most = omega arith in omega (arith, ap (λ (x : ℕ). x * most) same, div-add-mod l most)

pub windows_end : (l most i : ℕ) → 1 ≤ most → l / most + min 1 (l % most) ≤ i → l ≤ min (i * most) l
windows_end l most i some h = omega (arith, mul-le-mul_right most h, (div_ceil_times l most some).0)

-- ---- a row

part_at : (xs : List ℕ) (a e t : ℕ) → t < e - a → get_or (take (e - a) (drop a xs)) t 0 ≡ get_or xs (a + t) 0
part_at xs a e t h = get_or-take (e - a) (drop a xs) t 0 h ∙ get_or-drop a xs t 0

row_ends : (r l p n i : ℕ) → i < r → p + n ≤ l → i * l + p + n ≤ r * l
row_ends r l p n i hi fits = omega (arith, column_inside i r l hi)

module _ (xs zs : List ℕ) (r l p n i : ℕ) (hi : i < r) (fits : p + n ≤ l) (lx : length xs ≡ r * l) (lz : length zs ≡ r * n) where
  abbrev here : List ℕ
  here = take (i * l + p + n - (i * l + p)) (drop (i * l + p) xs)

  abbrev there : List ℕ
  there = take (i * n + n - i * n) (drop (i * n) zs)

  row_inside : i * l + p + n ≤ length xs
  row_inside = omega (arith, lx, row_ends r l p n i hi fits)

  made_inside : i * n + n ≤ length zs
  made_inside = omega (arith, lz, column_inside i r n hi)

  here_length : length here ≡ n
  here_length = omega (arith, mid_len (i * l + p) (i * l + p + n) xs row_inside)

  there_length : length there ≡ n
  there_length = omega (arith, mid_len (i * n) (i * n + n) zs made_inside)

  row-length : length here ≡ length there
  row-length = here_length ∙ sym there_length

  module _ (ys : List ℕ) (w : Window r l p n zs ys) where
    here_at : (t : ℕ) → t < n → get_or here t 0 ≡ get_or xs (i * l + p + t) 0
    here_at t h = part_at xs (i * l + p) (i * l + p + n) t (omega arith)

    there_at : (t : ℕ) → t < n → get_or there t 0 ≡ get_or ys (i * l + p + t) 0
    there_at t h =
        part_at zs (i * n) (i * n + n) t (omega arith) ∙ w i t hi h ∙ ap (λ (x : ℕ). get_or ys x 0) (omega arith)

    turn : (b v : ℕ) → v ≤ b → (v < r * l → get_or xs v 0 ≡ get_or ys v 0 → ⊥)
        → ((t : ℕ) → t < n → i * l + p + t < v → get_or xs (i * l + p + t) 0 ≡ get_or ys (i * l + p + t) 0)
        → Kept l (r * l) i (p + n) p xs ys b → Kept l (r * l) (i + 1) (p + n) p xs ys v
    turn b v less differs new h =
        record { most = omega (arith, h.most); differs = differs; first = first; all = λ j q hq x. h.all j q hq (omega arith) }
      where
        first : (j q : ℕ) → j < i + 1 → q < p + n → j * l + q < v → get_or xs (j * l + q) 0 ≡ get_or ys (j * l + q) 0
        first j q hj hq x = ⊎_elim below last (below_or_from j i)
          where
            below : j < i → get_or xs (j * l + q) 0 ≡ get_or ys (j * l + q) 0
            below g = h.first j q g hq (omega arith)

            before : q < p → get_or xs (j * l + q) 0 ≡ get_or ys (j * l + q) 0
            before y = h.all j q y (omega arith)

            inside : i ≤ j → p ≤ q → get_or xs (j * l + q) 0 ≡ get_or ys (j * l + q) 0
            inside g y =
                let same : j ≡ i = omega arith in
                let place : j * l + q ≡ i * l + p + (q - p) = ap (λ (c : ℕ). c * l + q) same ∙ omega arith in
                subst (λ (x : ℕ). get_or xs x 0 ≡ get_or ys x 0) (sym place) (new (q - p) (omega arith) (omega (arith, place)))

            last : i ≤ j → get_or xs (j * l + q) 0 ≡ get_or ys (j * l + q) 0
            last g = ⊎_elim before (inside g) (below_or_from q p)

    module _ (b d v : ℕ) (is : d ≡ first_difference here there) where
      equal : (t : ℕ) → t < n → t < d → get_or xs (i * l + p + t) 0 ≡ get_or ys (i * l + p + t) 0
      equal t h g = sym (here_at t h) ∙ first_before here there t (omega arith) ∙ there_at t h

      differ : d < n → get_or xs (i * l + p + d) 0 ≡ get_or ys (i * l + p + d) 0 → ⊥
      differ h e =
          differs_within here there row-length (omega (arith, here_length))
          (subst (λ (x : ℕ). get_or here x 0 ≡ get_or there x 0) is (here_at d h ∙ e ∙ sym (there_at d h)))

      pub row_turn : ((v ≡ b) × ((n ≤ d) ⊎ (b ≤ i * l + p + d))) ⊎ ((v ≡ i * l + p + d) × ((d < n) × (i * l + p + d < b)))
          → Kept l (r * l) i (p + n) p xs ys b → Kept l (r * l) (i + 1) (p + n) p xs ys v
      row_turn (inl (e, o)) h = subst (Kept l (r * l) (i + 1) (p + n) p xs ys) (sym e) (turn b b (omega arith) h.differs (new o) h)
        where
          new : (n ≤ d) ⊎ (b ≤ i * l + p + d) → (t : ℕ) → t < n → i * l + p + t < b → get_or xs (i * l + p + t) 0 ≡ get_or ys (i * l + p + t) 0
          new (inl g) t ht x = equal t ht (omega arith)
          new (inr g) t ht x = equal t ht (omega arith)
      row_turn (inr (e, (hd, less))) h =
          subst (Kept l (r * l) (i + 1) (p + n) p xs ys) (sym e)
          (turn b (i * l + p + d) (omega arith) (λ _. differ hd) (λ t ht x. equal t ht (omega arith)) h)

-- ---- a window

module _ (r l : ℕ) (xs ys : List ℕ) where
  pub rows_none : (p e b : ℕ) → Below l (r * l) p xs ys b → Kept l (r * l) 0 e p xs ys b
  rows_none p e b h = record { most = h.most; differs = h.differs; first = λ j q hj hq x. omega arith; all = h.all }

  pub rows_done : (i p e b : ℕ) → r ≤ i → Kept l (r * l) i e p xs ys b → Below l (r * l) e xs ys b
  rows_done i p e b end h =
      record {
        most = h.most;
        differs = h.differs;
        first = λ j q hj hq x. omega arith;
        all = λ j q hq x. h.first j q (⊎_elim (λ g. omega arith) (λ g. omega (arith, h.most, mul-le-mul_right l g)) (below_or_from j r)) hq x;
      }

  pub windows_none : Below l (r * l) 0 xs ys (r * l)
  windows_none =
      record {
        most = omega arith;
        differs = λ x. omega arith;
        first = λ j q hj hq x. omega arith;
        all = λ j q hq x. omega arith;
      }

  pub windows_done : (p b : ℕ) → l ≤ p → length xs ≡ r * l → length ys ≡ r * l → Below l (r * l) p xs ys b → b ≡ first_difference xs ys
  windows_done p b end lx ly h =
      first_unique xs ys (lx ∙ sym ly) b (omega (arith, h.most)) (λ x. h.differs (omega (arith, lx)))
      (λ x g.
      let inside : x < r * l = omega (arith, h.most) in
      subst (λ (x : ℕ). get_or xs x 0 ≡ get_or ys x 0) (place_split x l)
      (h.all (x / l) (x % l) (omega (arith, place_byte_lt x r l inside)) (omega (arith, place_split x l))))

pub lent_long : (s : Shape) (d p : ℕ) → lent_refusal s d p ≡ 0 → p ≡ s.r * s.l
lent_long s d p h = (lent s d p h).parity_long

pub lent_most : (s : Shape) (d p : ℕ) → lent_refusal s d p ≡ 0 → s.r * s.l ≤ 65536
lent_most s d p h = (allowed s (lent s d p h).shape).parity-length

module _ (s : Shape) (ds ps : List ℕ) (h : lent_refusal s (length ds) (length ps) ≡ 0) (e : by_points s ≡ true) where
  abbrev order : List ℕ
  order = tabulate s.k (λ i. i)

  module _ (p n : ℕ) (some : 1 ≤ n) (fits : p + n ≤ s.l) where
    order-length : length order ≡ s.k
    order-length = tabulate-length s.k _

    lengths : (ms : List ℕ) → length ms ≡ s.r * n → Lengths s.r order p s.l n (length (encoding_of s.k s.r)) (length ds) (length ms)
    lengths ms long =
        let f = lent s (length ds) (length ps) h in
        let a = pointed s f.shape e in
        record {
          numbers =
              record {
                rows_some = a.parity_some;
                rows_most = a.few;
                columns_some = omega (arith, order-length, a.data_some);
                columns_most = omega (arith, order-length, a.fits);
                places_some = some;
                places_most = omega (arith, a.length_most);
              };
          matrix = encoding_length s.k s.r ∙ ap (λ (n : ℕ). s.r * n) (sym order-length);
          columns = λ i m.
              let l : i < s.k = subst (λ (n : ℕ). i < n) order-length m in
              subst (λ (c : ℕ). p + c * s.l + n ≤ length ds) (sym (tabulate_at s.k (λ i. i) i l))
              (omega (arith, column_inside i s.k s.l l, f.data_long));
          out = long;
        }

    pub window_made : (at w ms zs : List ℕ) → at ≡ order → w ≡ encoding_of s.k s.r → length ms ≡ s.r * n
        → zs ≡ becomes s.r at w ds p s.l n ms → Window s.r s.l p n zs (parity s ds)
    window_made at w ms zs o c long is i q hi hq =
        let f = lent s (length ds) (length ps) h in
        let a = pointed s f.shape e in
        let made = applied s.r order (encoding_of s.k s.r) ds p s.l n in
        let are : zs ≡ made = is ∙ ap₂ (λ (cs us : List ℕ). becomes s.r cs us ds p s.l n ms) o c
        ∙ becomes_fits s.r order (encoding_of s.k s.r) ds p s.l n ms
        (fit_lengths s.r order p s.l n (length (encoding_of s.k s.r)) (length ds) (length ms) (lengths ms long)) in
        ap (λ (us : List ℕ). get_or us (i * n + q) 0) are
        ∙ applied_place s.r order (encoding_of s.k s.r) ds p s.l n i q hi hq
        ∙ ap (λ (m : ℕ). dot (row_of m (encoding_of s.k s.r) i) (bytes_at ds p s.l q order)) order-length
        ∙ parity_applied s.k s.r s.l ds p i q (omega (arith, a.few)) hi
        ∙ sym (parity_by_points s ds i (p + q) e) ∙ sym (parity_at s ds i (p + q) hi (omega arith))
