-- The constants of the shape times the data columns are the parity by check equations.
use mathlib.Core.Path.{◌≡◌, sym, ap, ap₂, ◌∙◌, subst}
use mathlib.Core.Bool.{true}
use mathlib.Core.List.{List}
use Prim.Native.Nat.{ℕ, ◌+◌, ◌-◌, ◌*◌, ◌%◌, ◌<◌, ◌≤◌}
use native.Mathlib.Omega.{arith}
use lib.ListN.{length, get_or}
use borrow.Rule.Slice.PartMut.{mid_of, mid_len}
use Rattle.field.specs.Bytes.{tabulate}
use Rattle.field.proofs.Bytes.{tabulate-length, tabulate_at}
use Rattle.points.specs.Points.{parity_of as solvedParity}
use Rattle.points.specs.Lagrange.{dot}
use Rattle.stripe.specs.declared.Shape.{Shape}
use Rattle.stripe.specs.Shape.{shape_refusal}
use Rattle.stripe.specs.Stripe.{across, by_points, parity_byte, parity}
use Rattle.stripe.specs.Column.{lent_refusal}
use Rattle.stripe.proofs.Allowed.{allowed, points_fit}
use Rattle.stripe.proofs.Places.{column_inside, parity_exact, parity_by_points}
use Rattle.stripe.proofs.Lent.{lent}
use Rattle.matrix.specs.Matrix.{row_of, bytes_at, applied, becomes}
use Rattle.matrix.proofs.Shape.{Lengths, fit_lengths, applied-length, applied_place, becomes_fits}
use Rattle.constants.specs.Constants.{most_constants, encoding_of, encodes}
use Rattle.constants.proofs.Made.{few_constants, encoding_made, encoding_length}
use Rattle.constants.proofs.Applied.{order_small, parity_applied}

-- the numbers of a shape by points
pub record Pointed (s : Shape) : Type 0 where
  pub data_some : 1 ≤ s.k
  pub parity_some : 1 ≤ s.r
  pub few : s.r ≤ 16
  pub fits : s.k + s.r ≤ 255
  pub length_some : 1 ≤ s.l
  pub length_most : s.l ≤ 4096
  pub small : s.r * s.k ≤ most_constants

pub pointed : (s : Shape) → shape_refusal s ≡ 0 → by_points s ≡ true → Pointed s
pointed s h e =
    let a = allowed s h in
    record {
      data_some = a.data_some;
      parity_some = a.parity_some;
      few = a.parity_most;
      fits = points_fit s a e;
      length_some = a.length_some;
      length_most = a.length_most;
      small = few_constants s.r s.k a.parity_most (points_fit s a e);
    }

-- the first n bytes of a buffer
pub front_length : (xs : List ℕ) (n : ℕ) → n ≤ length xs → length (mid_of 0 (n - 0) xs) ≡ n
front_length xs n h = omega (arith, mid_len 0 n xs h)

-- the columns in order, filled into the first places of a buffer
pub order_filled : (k : ℕ) (zs ys : List ℕ) → k ≤ length zs → ys ≡ tabulate (length (mid_of 0 (k - 0) zs)) (λ i. i % 256) → ys ≡ tabulate k (λ i. i % 256)
order_filled k zs ys h is =
    is ∙ ap (λ (n : ℕ). tabulate n (λ i. i % 256)) (front_length zs k h)

order_at : (k i : ℕ) → i < k → get_or (tabulate k (λ i. i)) i 0 ≡ i
order_at k i h = tabulate_at k (λ i. i) i h

module _ (s : Shape) (ds ps : List ℕ) (h : lent_refusal s (length ds) (length ps) ≡ 0) (e : by_points s ≡ true) where
  abbrev order : List ℕ
  order = tabulate s.k (λ i. i)

  order-length : length order ≡ s.k
  order-length = tabulate-length s.k _

  lengths : Lengths s.r order 0 s.l s.l (length (encoding_of s.k s.r)) (length ds) (length ps)
  lengths =
      let f = lent s (length ds) (length ps) h in
      let a = pointed s f.shape e in
      record {
        numbers =
            record {
              rows_some = a.parity_some;
              rows_most = a.few;
              columns_some = omega (arith, order-length, a.data_some);
              columns_most = omega (arith, order-length, a.fits);
              places_some = a.length_some;
              places_most = a.length_most;
            };
        matrix = encoding_length s.k s.r ∙ ap (λ (n : ℕ). s.r * n) (sym order-length);
        columns = λ i m.
            let l : i < s.k = subst (λ (n : ℕ). i < n) order-length m in
            subst (λ (c : ℕ). 0 + c * s.l + s.l ≤ length ds) (sym (order_at s.k i l))
            (omega (arith, column_inside i s.k s.l l, f.data_long));
        out = f.parity_long;
      }

  pub parity_made : applied s.r order (encoding_of s.k s.r) ds 0 s.l s.l ≡ parity s ds
  parity_made =
      parity_exact s ds _ (applied-length s.r order (encoding_of s.k s.r) ds 0 s.l s.l) at
    where
      at : (i p : ℕ) → i < s.r → p < s.l
          → get_or (applied s.r order (encoding_of s.k s.r) ds 0 s.l s.l) (i * s.l + p) 0 ≡ parity_byte s ds i p
      at i p hi hp =
          let f = lent s (length ds) (length ps) h in
          let a = pointed s f.shape e in
          applied_place s.r order (encoding_of s.k s.r) ds 0 s.l s.l i p hi hp
          ∙ ap (λ (n : ℕ). dot (row_of n (encoding_of s.k s.r) i) (bytes_at ds 0 s.l p order)) order-length
          ∙ parity_applied s.k s.r s.l ds 0 i p (omega (arith, a.few)) hi
          ∙ ap (λ (n : ℕ). get_or (solvedParity s.r (across ds s.l n 0 s.k)) i 0) (omega arith)
          ∙ sym (parity_by_points s ds i p e)

  pub parity_filled : (w at : List ℕ) → length w ≡ s.r * s.k → at ≡ tabulate s.k (λ i. i % 256)
      → becomes s.r at (encodes s.k s.r w) ds 0 s.l s.l ps ≡ parity s ds
  parity_filled w at g o =
      let f = lent s (length ds) (length ps) h in
      let a = pointed s f.shape e in
      ap₂ (λ (cs ms : List ℕ). becomes s.r cs ms ds 0 s.l s.l ps) (o ∙ order_small s.k (omega (arith, a.fits)))
      (encoding_made s.k s.r w a.fits a.few g)
      ∙ becomes_fits s.r order (encoding_of s.k s.r) ds 0 s.l s.l ps
      (fit_lengths s.r order 0 s.l s.l (length (encoding_of s.k s.r)) (length ds) (length ps) lengths)
      ∙ parity_made
