-- The weights as `mending` leaves them, cut into the rows of the lost columns and those of the spares; and what the computed columns say of codewords.
use Prim.Native.Nat.{ℕ, ◌+◌, ◌-◌, ◌*◌, ◌<◌, ◌≤◌}
use mathlib.Core.Path.{◌≡◌, sym, ap, ap₂, ◌∙◌, subst}
use mathlib.Core.Logic.{◌⊎◌, inl, inr}
use mathlib.Core.List.{List, ◌++◌, map}
use native.Mathlib.Nat.{zero-add}
use native.Mathlib.Omega.{arith}
use lib.Dec.{lit<}
use lib.ListN.{length, get_or, take, drop, length-append, length-drop, get_or-eq_default}
use lib.Seq.{ext_get_or, get_or-take, get_or-drop, take_all, take_at, take-append-le, drop-append-le, length-take-le}
use borrow.Author.Tests.{le-leb, eq-eqb}
use borrow.Rule.Slice.PartMut.{mid_of, put_mid, post_of, mid_len}
use Rattle.field.specs.Bytes.{Bytes, tabulate}
use Rattle.field.proofs.Bytes.{tabulate-length, tabulate_at}
use Rattle.field.proofs.Cases.{below_or_from}
use Rattle.stripe.specs.Stripe.{Ascending}
use Rattle.stripe.proofs.Places.{place_lt, column_inside}
use Rattle.stripe.proofs.Lost.{ascending_at}
use Rattle.points.specs.Points.{points}
use Rattle.points.specs.Lagrange.{dot}
use Rattle.points.proofs.Mended.{positions_below, entries-length}
use Rattle.lagrange.specs.Weights.{weights_fit, weights_of, weighed}
use Rattle.matrix.specs.Matrix.{row_of}
use Rattle.constants.specs.Constants.{mending_of, mends}
use Rattle.constants.proofs.Applied.{bytes_window, computed_applied}
use Rattle.equations.specs.Whole.{Codeword, Agree}
use Rattle.equations.specs.Chosen.{survivors, sources, spares, computed, computed_byte}
use Rattle.equations.proofs.Lost.{among_kept}
use Rattle.equations.proofs.Chosen.{survivors-length, survivor_below, sources_positions, sources-length, spares-length, spare_not_lost}
use Rattle.equations.proofs.Chosen.{computed-length, computed_spare, computed_only, computed_codeword}
use Rattle.repair.specs.Windows.{Lent, Computing, Restores, Holds, Put, row_byte, column_byte}
use Rattle.repair.proofs.Refused.{Lawful, ascending_distinct}

-- ---- rows of a part of a matrix

tabulate_same : (n : ℕ) (f g : ℕ → ℕ) → ((i : ℕ) → i < n → f i ≡ g i) → tabulate n f ≡ tabulate n g
tabulate_same n f g h =
    ext_get_or 0 _ _ (tabulate-length n f ∙ sym (tabulate-length n g))
    (λ i k.
    let m : i < n = subst (λ (z : ℕ). i < z) (tabulate-length n f) k in tabulate_at n f i m ∙ h i m ∙ sym (tabulate_at n g i m))

row_of_part : (ws vs : List ℕ) (m u v : ℕ) → ((i : ℕ) → i < m → get_or vs (v * m + i) 0 ≡ get_or ws (u * m + i) 0) → row_of m vs v ≡ row_of m ws u
unfolding row_of
row_of_part ws vs m u v h = tabulate_same m _ _ h

row_part_lem : (ws vs cs xs : List ℕ) (l u v p : ℕ) → ((i : ℕ) → i < length cs → get_or vs (v * length cs + i) 0 ≡ get_or ws (u * length cs + i) 0)
    → row_byte vs cs xs l v p ≡ row_byte ws cs xs l u p
unfolding row_byte
row_part_lem ws vs cs xs l u v p h = ap (λ (ms : List ℕ). dot ms (map (λ c. get_or xs (c * l + p) 0) cs)) (row_of_part ws vs (length cs) u v h)

-- ---- the parts of what `restore` is lent

module _ (ws ks ts xs : List ℕ) (k l : ℕ) (fits : k ≤ length ks) (h : Computing ws (take k ks) ts (drop k ks) l (length xs)) where
  abbrev first : ℕ
  first = length ts * k

  abbrev source_part : List ℕ
  source_part = mid_of 0 (k - 0) ks

  abbrev spare_part : List ℕ
  spare_part = mid_of k (length ks - k) ks

  -- the rows of the spares, and those of the lost columns
  abbrev judge_rows : List ℕ
  judge_rows = mid_of first (length ws - first) ws

  abbrev write_rows : List ℕ
  write_rows = mid_of 0 (first - 0) ws

  source_is : source_part ≡ take k ks
  source_is = let same : k - 0 ≡ k = omega arith in ap (λ (m : ℕ). take m ks) same

  spare_is : spare_part ≡ drop k ks
  spare_is = take_all (length ks - k) (drop k ks) (omega (arith, length-drop k ks))

  source_long : length (take k ks) ≡ k
  source_long = length-take-le k ks fits

  all_rows : length ws ≡ first + length (drop k ks) * k
  all_rows = h.matrix ∙ ap (λ (m : ℕ). (length ts + length (drop k ks)) * m) source_long ∙ omega arith

  pub first_inside : first ≤ length ws
  first_inside = omega (arith, all_rows)

  pub judge_lent : Lent judge_rows source_part spare_part l (length xs)
  judge_lent =
      subst (λ (cs : List ℕ). Lent judge_rows cs spare_part l (length xs)) (sym source_is)
      (subst (λ (ss : List ℕ). Lent judge_rows (take k ks) ss l (length xs)) (sym spare_is)
      record {
        rows_most = omega (arith, h.rows_most);
        columns_some = h.columns_some;
        columns_most = h.columns_most;
        places_most = h.places_most;
        matrix = mid_len first (length ws) ws (omega arith) ∙ omega (arith, all_rows) ∙ ap (λ (m : ℕ). length (drop k ks) * m) (sym source_long);
        read = h.read;
        own = h.spare;
      })

  pub write_lent : Lent write_rows source_part ts l (length xs)
  write_lent =
      subst (λ (cs : List ℕ). Lent write_rows cs ts l (length xs)) (sym source_is)
      record {
        rows_most = omega (arith, h.rows_most);
        columns_some = h.columns_some;
        columns_most = h.columns_most;
        places_most = h.places_most;
        matrix = mid_len 0 first ws first_inside ∙ omega arith ∙ ap (λ (m : ℕ). length ts * m) (sym source_long);
        read = h.read;
        own = h.own;
      }

  judge_row : (v p : ℕ) → v < length (drop k ks) → row_byte judge_rows source_part xs l v p ≡ row_byte ws (take k ks) xs l (length ts + v) p
  judge_row v p hv =
      ap (λ (cs : List ℕ). row_byte judge_rows cs xs l v p) source_is
      ∙ row_part_lem ws judge_rows (take k ks) xs l (length ts + v) v p
      (λ i hi.
      let m : length (take k ks) ≡ k = source_long in
      let inside : v * length (take k ks) + i < length (drop k ks) * length (take k ks) = place_lt hv hi in
      let part : v * length (take k ks) + i < length ws - first = omega (arith, all_rows, ap (λ (z : ℕ). length (drop k ks) * z) m) in
      get_or-take (length ws - first) (drop first ws) (v * length (take k ks) + i) 0 part
      ∙ get_or-drop first ws (v * length (take k ks) + i) 0
      ∙ ap (λ (z : ℕ). get_or ws z 0) (omega (arith, ap (λ (z : ℕ). length ts * z) m)))

  write_row : (v p : ℕ) → v < length ts → row_byte write_rows source_part xs l v p ≡ row_byte ws (take k ks) xs l v p
  write_row v p hv =
      ap (λ (cs : List ℕ). row_byte write_rows cs xs l v p) source_is
      ∙ row_part_lem ws write_rows (take k ks) xs l v v p
      (λ i hi.
      let inside : v * length (take k ks) + i < length ts * length (take k ks) = place_lt hv hi in
      get_or-take (first - 0) ws (v * length (take k ks) + i) 0 (omega (arith, ap (λ (z : ℕ). length ts * z) source_long)))

  abbrev judged : ℕ → ℕ → ℕ
  judged u p = row_byte ws (take k ks) xs l (length ts + u) p

  pub part_holds : Holds (row_byte judge_rows source_part xs l) spare_part l 0 l xs → Holds judged (drop k ks) l 0 l xs
  part_holds g = record {
    own = λ v p hv from to.
        ap (λ (ss : List ℕ). column_byte ss xs l v p) (sym spare_is) ∙ g.own v p (subst (λ (ss : List ℕ). v < length ss) (sym spare_is) hv) from to
        ∙ judge_row v p hv;
  }

  pub whole_holds : Holds judged (drop k ks) l 0 l xs → Holds (row_byte judge_rows source_part xs l) spare_part l 0 l xs
  whole_holds g = record {
    own = λ v p hv from to.
        let hs : v < length (drop k ks) = subst (λ (ss : List ℕ). v < length ss) spare_is hv in
        ap (λ (ss : List ℕ). column_byte ss xs l v p) spare_is ∙ g.own v p hs from to ∙ sym (judge_row v p hs);
  }

  pub part_put : (ys : List ℕ) → Put (row_byte write_rows source_part xs l) ts (length ts) l 0 l xs ys
      → Put (row_byte ws (take k ks) xs l) ts (length ts) l 0 l xs ys
  part_put ys g =
      record { long = g.long; own = λ v p hv from to. g.own v p hv from to ∙ write_row v p hv; other = g.other }

-- ---- parts of the front of a buffer, read again

-- the part from a to e of a buffer whose first n bytes were filled with xs
pub front_part : (zs : List ℕ) {ys : List ℕ} (xs : List ℕ) (n a e : ℕ) → length xs ≡ n → ys ≡ xs → a ≤ e → e ≤ n
    → mid_of a (e - a) (put_mid 0 (n - 0) zs ys) ≡ mid_of a (e - a) xs
front_part zs {ys} xs n a e long is from to =
    ap (λ (l : List ℕ). take (e - a) (drop a (l ++ post_of 0 (n - 0) zs))) is
    ∙ ap (take (e - a)) (drop-append-le a xs (post_of 0 (n - 0) zs) (omega arith))
    ∙ take-append-le (e - a) (drop a xs) (post_of 0 (n - 0) zs) (omega (arith, length-drop a xs))

pub front_within : (zs : List ℕ) {ys : List ℕ} (xs : List ℕ) (n e : ℕ) → length xs ≡ n → ys ≡ xs → e ≤ n → e ≤ length (put_mid 0 (n - 0) zs ys)
front_within zs {ys} xs n e long is to = omega (arith, length-append ys (post_of 0 (n - 0) zs), ap length is)

-- ---- what is chosen

module _ (k r l : ℕ) (es : List ℕ) (d : ℕ) (h : Lawful k r l es d) where
  abbrev all : List ℕ
  all = survivors 0 (k + r) es

  pub all_long : length all ≡ k + r - length es
  all_long = omega (arith, survivors-length k r es h.ascend)

  pub source_part_lem : mid_of 0 (k - 0) all ≡ sources k r es
  unfolding sources
  source_part_lem = let same : k - 0 ≡ k = omega arith in ap (λ (m : ℕ). take m (survivors 0 (k + r) es)) same

  pub spare_part_lem : mid_of k (k + r - length es - k) all ≡ spares k r es
  unfolding spares
  spare_part_lem = take_all (k + r - length es - k) (drop k (survivors 0 (k + r) es)) (omega (arith, length-drop k all, all_long))

  pub all_part : mid_of 0 (k + r - length es - 0) all ≡ all
  all_part = take_all (k + r - length es - 0) all (omega (arith, all_long))

  pub computed_part : mid_of 0 (r - 0) (computed k r es) ≡ computed k r es
  computed_part = take_all (r - 0) (computed k r es) (omega (arith, computed-length k r es h.ascend h.few))

  pub lost_part : mid_of 0 (length es - 0) (computed k r es) ≡ es
  unfolding computed
  lost_part = take_at es (spares k r es) (length es - 0) (omega arith)

  lost_bytes : Bytes es
  lost_bytes i = go (below_or_from i (length es))
    where
      go : (i < length es) ⊎ (length es ≤ i) → get_or es i 0 < 256
      go (inl m) = omega (arith, (ascending_at i 0 (k + r) es h.ascend m).1, h.numbers.points_most)
      go (inr m) = subst (λ (x : ℕ). x < 256) (sym (get_or-eq_default es 0 m)) (lit< tt)

  -- ---- the steps of `repair_by`

  room_all : (zs : List ℕ) → k + r - length es ≤ length zs → length (mid_of 0 (k + r - length es - 0) zs) + length es ≡ k + r
  room_all zs room = omega (arith, mid_len 0 (k + r - length es) zs room, survivors-length k r es h.ascend)

  pub survive_lent : (zs : List ℕ) → k + r - length es ≤ length zs
      → (length (mid_of 0 (k + r - length es - 0) zs) + length es ≤ 255) × Ascending 0 (length (mid_of 0 (k + r - length es - 0) zs) + length es) es
  survive_lent zs room =
      (omega (arith, room_all zs room, h.numbers.points_most), subst (λ (n : ℕ). Ascending 0 n es) (sym (room_all zs room)) h.ascend)

  pub survived : (zs : List ℕ) {ys : List ℕ} → k + r - length es ≤ length zs
      → ys ≡ survivors 0 (length (mid_of 0 (k + r - length es - 0) zs) + length es) es → ys ≡ all
  survived zs room is = is ∙ ap (λ (n : ℕ). survivors 0 n es) (room_all zs room)

  spares_read : (zs : List ℕ) {ys : List ℕ} → ys ≡ all
      → mid_of k (k + r - length es - k) (put_mid 0 (k + r - length es - 0) zs ys) ≡ spares k r es
  spares_read zs found =
      front_part zs all (k + r - length es) k (k + r - length es) all_long found (omega (arith, h.few)) (omega arith) ∙ spare_part_lem

  pub fill_lent : (zs us : List ℕ) {ys : List ℕ} → r ≤ length us → ys ≡ all
      → (length (mid_of 0 (r - 0) us) ≡ length es + length (mid_of k (k + r - length es - k) (put_mid 0 (k + r - length es - 0) zs ys))) × Bytes es
  fill_lent zs us room found =
      (omega (arith, mid_len 0 r us room, ap length (spares_read zs found), spares-length k r es h.ascend h.few), lost_bytes)

  pub chosen : (zs : List ℕ) {ys ss : List ℕ} → ys ≡ all
      → ss ≡ es ++ mid_of k (k + r - length es - k) (put_mid 0 (k + r - length es - 0) zs ys) → ss ≡ computed k r es
  unfolding computed
  chosen zs found is = is ∙ ap (λ (l : List ℕ). es ++ l) (spares_read zs found)

  pub weights_made : (out : List ℕ) → length out ≡ r * k → mends k r (computed k r es) (sources k r es) out ≡ mending_of k r (computed k r es) (sources k r es)
  unfolding mends mending_of weighed weights_fit
  weights_made out long =
      simp (
        le-leb (k + r) 255 h.numbers.points_most,
        entries-length (points k r) (computed k r es),
        entries-length (points k r) (sources k r es),
        computed-length k r es h.ascend h.few,
        sources-length k r es h.ascend h.few,
        le-leb r 16 h.numbers.parity_most,
        le-leb k 255 few,
        eq-eqb (length out) (r * k) long,
      )
    where
      few : k ≤ 255
      few = omega (arith, h.numbers.points_most)

  pub weighted : (zs us : List ℕ) {ys ss : List ℕ} (out : List ℕ) {out' : List ℕ} → ys ≡ all → ss ≡ computed k r es → length out ≡ r * k
      → out' ≡ mends k r (mid_of 0 (r - 0) (put_mid 0 (r - 0) us ss)) (mid_of 0 (k - 0) (put_mid 0 (k + r - length es - 0) zs ys)) out
      → out' ≡ mending_of k r (computed k r es) (sources k r es)
  weighted zs us out found made long is =
      is
      ∙ ap₂ (λ (ts cs : List ℕ). mends k r ts cs out)
      (front_part us (computed k r es) r 0 r (computed-length k r es h.ascend h.few) made (omega arith) (omega arith) ∙ computed_part)
      (front_part zs all (k + r - length es) 0 k all_long found (omega arith) (omega (arith, h.few)) ∙ source_part_lem)
      ∙ weights_made out long

  pub kept_is : (zs : List ℕ) {ys : List ℕ} → ys ≡ all → mid_of 0 (k + r - length es - 0) (put_mid 0 (k + r - length es - 0) zs ys) ≡ all
  kept_is zs found =
      front_part zs all (k + r - length es) 0 (k + r - length es) all_long found (omega arith) (omega arith) ∙ all_part

  pub lost_is : (us : List ℕ) {ss : List ℕ} → ss ≡ computed k r es → mid_of 0 (length es - 0) (put_mid 0 (r - 0) us ss) ≡ es
  lost_is us made =
      front_part us (computed k r es) r 0 (length es) (computed-length k r es h.ascend h.few) made (omega arith) h.few ∙ lost_part

  abbrev weights : List ℕ
  weights = mending_of k r (computed k r es) (sources k r es)

  weights_long : length weights ≡ r * k
  unfolding mending_of weights_of
  weights_long =
      tabulate-length _ _
      ∙ ap₂ (λ (a b : ℕ). a * b) (entries-length (points k r) (computed k r es) ∙ computed-length k r es h.ascend h.few)
      (entries-length (points k r) (sources k r es) ∙ sources-length k r es h.ascend h.few)

  column_ends : (c : ℕ) → c < k + r → c * l + l ≤ d
  column_ends c m = omega (arith, column_inside c (k + r) l m, h.numbers.long)

  spare_below : (u : ℕ) → u < length (spares k r es) → get_or (spares k r es) u 0 < k + r
  unfolding spares
  spare_below u m =
      subst (λ (c : ℕ). c < k + r) (sym (get_or-drop k all u 0)) (survivor_below (k + r) es (k + u) (omega (arith, length-drop k all)))

  pub computing : Computing weights (sources k r es) es (spares k r es) l d
  computing =
      record {
        rows_most = omega (arith, spares-length k r es h.ascend h.few, h.numbers.parity_most);
        columns_some = omega (arith, sources-length k r es h.ascend h.few, h.numbers.data_some);
        columns_most = omega (arith, sources-length k r es h.ascend h.few, h.numbers.points_most);
        places_most = h.numbers.length_most;
        matrix = weights_long ∙ ap₂ (λ (a b : ℕ). a * b) (omega (arith, spares-length k r es h.ascend h.few))
            (sym (sources-length k r es h.ascend h.few));
        read = λ i m. column_ends _ (positions_below (k + r) (sources k r es) (sources_positions k r es) i m);
        own = λ v m. column_ends _ (ascending_at v 0 (k + r) es h.ascend m).1;
        spare = λ v m. column_ends _ (spare_below v m);
        distinct = ascending_distinct 0 (k + r) es h.ascend;
      }

  -- a row is what is computed
  row_computed : (xs : List ℕ) (v p : ℕ) → v < r → row_byte weights (sources k r es) xs l v p ≡ computed_byte k r l es xs v p
  unfolding row_byte
  row_computed xs v p m =
      ap₂ (λ (n : ℕ) (ys : List ℕ). dot (row_of n weights v) ys) (sources-length k r es h.ascend h.few)
      (ap (λ (n : ℕ). map (λ c. get_or xs (c * l + n) 0) (sources k r es)) (sym (zero-add p)) ∙ sym (bytes_window xs 0 l p (sources k r es)))
      ∙ computed_applied k r l es xs 0 v p h.ascend h.few m ∙ ap (computed_byte k r l es xs v) (zero-add p)

  module _ (xs : List ℕ) (long : length xs ≡ d) where
    abbrev SparesHold : Type 0
    SparesHold = Holds (λ u p. row_byte weights (sources k r es) xs l (length es + u) p) (spares k r es) l 0 l xs

    -- a codeword that agrees with the survivors has the spares as they are computed
    codeword_holds : (zs : List ℕ) → Codeword k r l zs → Agree (k + r) l es xs zs → SparesHold
    codeword_holds zs w agree = record { own = own }
      where
        own : (u p : ℕ) → u < length (spares k r es) → 0 ≤ p → p < l
            → column_byte (spares k r es) xs l u p ≡ row_byte weights (sources k r es) xs l (length es + u) p
        own u p hu from hp =
            let v : ℕ = length es + u in
            let hv : length es + u < r = omega (arith, spares-length k r es h.ascend h.few) in
            let back : length es + u - length es ≡ u = omega arith in
            agree (get_or (spares k r es) u 0) p (spare_below u hu) hp (spare_not_lost k r es u hu)
            ∙ ap (λ (c : ℕ). get_or zs (c * l + p) 0)
            (sym (computed_spare k r es (length es + u) (omega arith) ∙ ap (λ (n : ℕ). get_or (spares k r es) n 0) back))
            ∙ computed_only k r l h.numbers.points_most es h.ascend h.few xs zs w agree (length es + u) p hv hp
            ∙ sym (row_computed xs (length es + u) p hv)

    module _ (ys : List ℕ) (bytes : Bytes ys) (s : SparesHold) (g : Put (row_byte weights (sources k r es) xs l) es (length es) l 0 l xs ys) where
      agrees : Agree (k + r) l es xs ys
      agrees c p hc hp m = sym (g.other c p hp (inl (among_kept c es m)))

      spare_bytes : (v p : ℕ) → length es ≤ v → v < r → p < l → get_or xs (get_or (computed k r es) v 0 * l + p) 0 ≡ computed_byte k r l es xs v p
      spare_bytes v p from hv hp =
          let split : length es + (v - length es) ≡ v = omega arith in
          ap (λ (c : ℕ). get_or xs (c * l + p) 0) (computed_spare k r es v from)
          ∙ s.own (v - length es) p (omega (arith, spares-length k r es h.ascend h.few)) (omega arith) hp
          ∙ ap (λ (u : ℕ). row_byte weights (sources k r es) xs l u p) split ∙ row_computed xs v p hv

      lost_column : (v p : ℕ) → v < length es → p < l → get_or ys (get_or es v 0 * l + p) 0 ≡ computed_byte k r l es xs v p
      lost_column v p hv hp = g.own v p hv (omega arith) hp ∙ row_computed xs v p (omega (arith, h.few))

      codeword : Codeword k r l ys
      codeword =
          computed_codeword k r l h.numbers.points_most es h.ascend h.few xs ys bytes (g.long ∙ long ∙ h.numbers.long) spare_bytes
          lost_column agrees

    -- restored, or no codeword agrees with all survivors
    pub restored : (v : ℕ) (ys : List ℕ) → Bytes ys → Restores weights (sources k r es) es (spares k r es) l xs v ys
        → ((v ≡ 0) × (Codeword k r l ys × Agree (k + r) l es xs ys))
        ⊎ ((v ≡ 8) × ((ys ≡ xs) × ((zs : List ℕ) → Codeword k r l zs → Agree (k + r) l es xs zs → ⊥)))
    restored v ys bytes (inl (z, (s, g))) = inl (z, (codeword ys bytes s g, agrees ys bytes s g))
    restored v ys bytes (inr (z, (e, wrong))) = inr (z, (e, λ zs w agree. wrong (codeword_holds zs w agree)))

  -- ---- the same of what `restore` is lent, and of what it leaves

  module _ (ws ks ts : List ℕ) (made : ws ≡ weights) (kept : ks ≡ all) (lost : ts ≡ es) where
    pub lent : (k ≤ length ks) × Computing ws (take k ks) ts (drop k ks) l d
    unfolding sources spares
    lent = (
      omega (arith, ap length kept, all_long, h.few),
      subst (λ (v : List ℕ). Computing v (take k ks) ts (drop k ks) l d) (sym made)
          (subst (λ (v : List ℕ). Computing weights (take k v) ts (drop k v) l d) (sym kept)
          (subst (λ (v : List ℕ). Computing weights (take k all) v (drop k all) l d) (sym lost) computing)),
    )

    pub outcome : (xs : List ℕ) → length xs ≡ d → (v : ℕ) (ys : List ℕ) → Bytes ys → Restores ws (take k ks) ts (drop k ks) l xs v ys
        → ((v ≡ 0) × (Codeword k r l ys × Agree (k + r) l es xs ys))
        ⊎ ((v ≡ 8) × ((ys ≡ xs) × ((zs : List ℕ) → Codeword k r l zs → Agree (k + r) l es xs zs → ⊥)))
    unfolding sources spares
    outcome xs long v ys bytes g =
        restored xs long v ys bytes
        (subst (λ (u : List ℕ). Restores weights (take k all) u (drop k all) l xs v ys) lost
        (subst (λ (u : List ℕ). Restores weights (take k u) ts (drop k u) l xs v ys) kept
        (subst (λ (u : List ℕ). Restores u (take k ks) ts (drop k ks) l xs v ys) made g)))
