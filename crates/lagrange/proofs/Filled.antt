-- The weights as one list, block by block.
use mathlib.Core.Path.{◌≡◌, sym, ap, ap₂, subst, ◌∙◌}
use mathlib.Core.Bool.{Bool, true, false, cond, and-eq-true_iff}
use mathlib.Core.List.{List}
use mathlib.Core.Logic.{⊎_elim}
use Prim.Native.Nat.{ℕ, ◌+◌, ◌-◌, ◌*◌, ◌<◌, ◌≤◌}
use native.Mathlib.Nat.{not-suc-le-zero}
use native.Mathlib.Omega.{arith}
use lib.ListN.{length, get_or}
use borrow.Author.Tests.{leb-true, eqb-true}
use Rattle.field.proofs.Cases.{below_or_from}
use Rattle.field.proofs.Bytes.{tabulate-length, tabulate_at}
use Rattle.points.specs.Lagrange.{lagrange}
use Rattle.stripe.proofs.Places.{place_lt, place_column, place_byte, by_places}
use Rattle.lagrange.specs.Weights.{weights_fit, weights_of, weighed}
use Rattle.lagrange.specs.Lanes.{lane, Polynomials, Laid, Filled}

-- ---- numbers that fit

pub record Fit (r m c : ℕ) : Type 0 where
  pub rows_most : r ≤ 16
  pub points_most : m ≤ 255
  pub out : c ≡ r * m

pub weights_fit_lem : (r m c : ℕ) → weights_fit r m c ≡ true → Fit r m c
unfolding weights_fit
weights_fit_lem r m c e =
    let a = (and-eq-true_iff _ _).0 e in
    let b = (and-eq-true_iff _ _).0 a.0 in
    record { rows_most = leb-true _ _ b.0; points_most = leb-true _ _ b.1; out = eqb-true _ _ a.1 }

-- ---- blocks of points

pub filled_start : (bs ys out : List ℕ) → length out ≡ length bs * length ys → Filled bs ys 0 out
filled_start bs ys out long = record { long = long; at = λ v c h k. absurd (not-suc-le-zero k) }

pub filled_to : (bs ys : List ℕ) {out : List ℕ} {m n : ℕ} → m ≡ n → Filled bs ys m out → Filled bs ys n out
filled_to bs ys {out} e h = subst (λ (x : ℕ). Filled bs ys x out) e h

-- the w points from `at` on, one to a lane
pub filled_turn : (bs ys y : List ℕ) {rows out out' : List ℕ} (at w : ℕ) → w ≤ 16 → ((q : ℕ) → q < w → get_or y q 0 ≡ get_or ys (at + q) 0)
    → Polynomials bs y rows → Laid rows (length bs) (length ys) at w out out' → Filled bs ys at out → Filled bs ys (at + w) out'
filled_turn bs ys y {rows} {out} {out'} at w few same polynomials laid h = record { long = laid.long ∙ h.long; at = made }
  where
    value : (v q : ℕ) → v < length bs → q < w → lane rows v q ≡ lagrange bs v (get_or ys (at + q) 0)
    value v q hv hq = polynomials.at v q hv (omega arith) ∙ ap (lagrange bs v) (same q hq)

    made : (v c : ℕ) → v < length bs → c < at + w → get_or out' (v * length ys + c) 0 ≡ lagrange bs v (get_or ys c 0)
    made v c hv hc = ⊎_elim old new (below_or_from c at)
      where
        old : c < at → get_or out' (v * length ys + c) 0 ≡ lagrange bs v (get_or ys c 0)
        old k = laid.before v c k ∙ h.at v c hv k

        new : at ≤ c → get_or out' (v * length ys + c) 0 ≡ lagrange bs v (get_or ys c 0)
        new k =
            let place : at + (c - at) ≡ c = omega arith in
            subst (λ (x : ℕ). get_or out' (v * length ys + x) 0 ≡ lagrange bs v (get_or ys x 0)) place
            (laid.own v (c - at) hv (omega arith) ∙ value v (c - at) hv (omega arith))

-- ---- all weights

weights_at : (bs ys : List ℕ) (v c : ℕ) → v < length bs → c < length ys
    → get_or (weights_of bs ys) (v * length ys + c) 0 ≡ lagrange bs v (get_or ys c 0)
unfolding weights_of
weights_at bs ys v c hv hc =
    tabulate_at (length bs * length ys) _ (v * length ys + c) (place_lt hv hc)
    ∙ ap₂ (λ (a b : ℕ). lagrange bs a (get_or ys b 0)) (place_column v hc) (place_byte v hc)

pub weights_length : (bs ys : List ℕ) → length (weights_of bs ys) ≡ length bs * length ys
unfolding weights_of
weights_length bs ys = tabulate-length (length bs * length ys) _

pub weighed_made : (bs ys out : List ℕ) {out' : List ℕ} (n : ℕ) → weights_fit (length bs) (length ys) (length out) ≡ true → length ys ≤ n
    → Filled bs ys n out' → out' ≡ weighed bs ys out
unfolding weighed
weighed_made bs ys out {out'} n e all h =
    by_places (length bs) (length ys) out' (weights_of bs ys) h.long (weights_length bs ys)
    (λ v c hv hc. h.at v c hv (omega arith) ∙ sym (weights_at bs ys v c hv hc))
    ∙ sym (ap (λ (t : Bool). cond t (weights_of bs ys) out) e)

pub weighed_left : (bs ys out : List ℕ) → weights_fit (length bs) (length ys) (length out) ≡ false → out ≡ weighed bs ys out
unfolding weighed
weighed_left bs ys out e = sym (ap (λ (t : Bool). cond t (weights_of bs ys) out) e)
