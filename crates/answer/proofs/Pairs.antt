-- Positions as pairs of bytes, one more at a time.
use Prim.Native.Nat.{ℕ, ◌+◌, ◌*◌, ◌/◌, ◌%◌, ◌≤◌, ◌<◌}
use mathlib.Core.Path.{◌≡◌, refl, sym, ap, ap₂, ◌∙◌}
use mathlib.Core.List.{List, [], ◌∷◌, ◌++◌}
use native.Mathlib.Omega.{arith}
use native.Mathlib.Nat.{div-add-mod'}
use lib.ListN.{length, get_or, take}
use lib.Seq.{length-take-le}
use Rattle.lost.specs.Positions.{positions}
use Rattle.field.specs.Bytes.{over}
use Rattle.answer.specs.Answer.{pairs}
use Rattle.field.proofs.Over.{over_all, over_on}
use Rattle.text.proofs.Pieces.{take_more, take_whole}

pub pairs-length : (es : List ℕ) → length (pairs es) ≡ 2 * length es
unfolding pairs
pairs-length [] = refl
pairs-length (e ∷ es) = omega (arith, pairs-length es)

pairs-append : (es fs : List ℕ) → pairs (es ++ fs) ≡ pairs es ++ pairs fs
unfolding pairs
pairs-append [] fs = refl
pairs-append (e ∷ es) fs = ap (λ (l : List ℕ). e % 256 ∷ e / 256 ∷ l) (pairs-append es fs)

-- a position's two bytes
pub pairs-one : (e : ℕ) → e < 65536 → e % 256 ∷ e / 256 % 256 ∷ [] ≡ pairs (e ∷ [])
unfolding pairs
pairs-one e h =
    let f : e / 256 % 256 ≡ e / 256 = omega arith in
    ap (λ (b : ℕ). e % 256 ∷ b ∷ []) f

-- the pairs name the positions
pub positions_pairs : (es : List ℕ) → positions (pairs es) ≡ es
unfolding pairs positions
positions_pairs [] = refl
positions_pairs (e ∷ es) =
    let h : e % 256 + e / 256 * 256 ≡ e = omega (arith, div-add-mod' e 256) in
    ap₂ (λ (n : ℕ) (l : List ℕ). n ∷ l) h (positions_pairs es)

-- one turn: the two bytes of a position
pub pairs_turn : (out₀ w out out' : List ℕ) (q : ℕ) → q < length w → length out₀ ≡ 2 * length w → out ≡ over out₀ 0 (pairs (take q w))
    → out' ≡ over out (2 * q) (pairs (get_or w q 0 ∷ [])) → out' ≡ over out₀ 0 (pairs (take (q + 1) w))
pairs_turn out₀ w out out' q below room e f =
    let n : length (take q w) ≡ q = length-take-le q w (omega arith) in
    over_on out₀ out out' 0 (2 * q) (pairs (take q w)) (pairs (get_or w q 0 ∷ [])) e (omega (arith, pairs-length (take q w))) f
    (omega (arith, pairs-length (take q w), pairs-length (get_or w q 0 ∷ [])))
    ∙ ap (over out₀ 0) (sym (ap pairs (take_more w q below) ∙ pairs-append (take q w) (get_or w q 0 ∷ [])))

pub pairs_done : (out₀ w out : List ℕ) (q : ℕ) → length w ≤ q → length out₀ ≡ 2 * length w → out ≡ over out₀ 0 (pairs (take q w)) → out ≡ pairs w
pairs_done out₀ w out q h room e =
    e ∙ ap (λ (l : List ℕ). over out₀ 0 (pairs l)) (take_whole w q h) ∙ over_all out₀ (pairs w) (pairs-length w ∙ sym room)
