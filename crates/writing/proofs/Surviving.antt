-- The surviving columns written one at a time: those left over what is written are all of them.
use Prim.Native.Nat.{ℕ, suc, ◌+◌, ◌-◌, ◌*◌, ◌≤◌, ◌<◌}
use mathlib.Core.Path.{◌≡◌, sym, ap, ap₂, ◌∙◌}
use mathlib.Core.List.{List, [], ◌∷◌, ◌++◌}
use mathlib.Core.Logic.{inl, inr}
use native.Mathlib.Nat.{add-zero, zero-mul}
use native.Mathlib.Numerals.{add-one}
use native.Mathlib.Omega.{arith}
use lib.ListN.{length, take, drop, set, length-drop}
use lib.Seq.{sets, drop-drop, length-take-le}
use Rattle.record.specs.Layout.{survivors}
use Rattle.record.proofs.Survivors.{survivors_lost, survivors_kept, left_one, next_column, all_left, Passed}

-- bytes stored one after the other
pub sets_append : (xs ys out : List ℕ) (at : ℕ) → sets (sets out at xs) (at + length xs) ys ≡ sets out at (xs ++ ys)
sets_append [] ys out at = ap (λ (n : ℕ). sets out n ys) (add-zero at)
sets_append (x ∷ xs) ys out at =
    let p : at + suc (length xs) ≡ suc at + length xs = omega arith in
    ap (λ (n : ℕ). sets (sets (set out at x) (suc at) xs) n ys) p ∙ sets_append xs ys (set out at x) (suc at)

-- a turn of the loop that writes n columns
survive_column : (l c m at at' : ℕ) (es xs out out' : List ℕ) → l ≤ length xs → Passed l c es at (take l xs) at at' out out'
    → sets out' at' (survivors l es (suc c) m (drop l xs)) ≡ sets out at (survivors l es c (suc m) xs)
survive_column l c m at at' es xs out out' long (inl w) =
    ap₂ (λ (o : List ℕ) (n : ℕ). sets o n (survivors l es (suc c) m (drop l xs))) w.1.1 w.1.0
    ∙ ap (sets out at) (sym (survivors_lost l c m es xs w.0))
survive_column l c m at at' es xs out out' long (inr w) =
    ap₂ (λ (o : List ℕ) (n : ℕ). sets o n (survivors l es (suc c) m (drop l xs))) w.1.1 w.1.0
    ∙ ap (λ (n : ℕ). sets (sets out at (take l xs)) (at + n) (survivors l es (suc c) m (drop l xs))) (sym (length-take-le l xs long))
    ∙ sets_append (take l xs) (survivors l es (suc c) m (drop l xs)) out at
    ∙ ap (sets out at) (sym (survivors_kept l c m es xs w.0))

pub survive_turn : (l n c at at' : ℕ) (es xs out out' : List ℕ) → c < n → c * l + l ≤ length xs
    → Passed l c es at (take l (drop (c * l) xs)) at at' out out'
    → sets out' at' (survivors l es (c + 1) (n - (c + 1)) (drop ((c + 1) * l) xs)) ≡ sets out at (survivors l es c (n - c) (drop (c * l) xs))
survive_turn l n c at at' es xs out out' h fits w =
    ap (λ (i : ℕ). sets out' at' (survivors l es i (n - (c + 1)) (drop ((c + 1) * l) xs))) (add-one c)
    ∙ ap (λ (from : ℕ). sets out' at' (survivors l es (suc c) (n - (c + 1)) (drop from xs))) (next_column c l)
    ∙ ap (λ (zs : List ℕ). sets out' at' (survivors l es (suc c) (n - (c + 1)) zs)) (sym (drop-drop l (c * l) xs))
    ∙ survive_column l c (n - (c + 1)) at at' es (drop (c * l) xs) out out' (omega (arith, length-drop (c * l) xs)) w
    ∙ ap (λ (m : ℕ). sets out at (survivors l es c m (drop (c * l) xs))) (sym (left_one n c h))

pub survive_start : (l n at : ℕ) (es xs out : List ℕ) → sets out at (survivors l es 0 (n - 0) (drop (0 * l) xs)) ≡ sets out at (survivors l es 0 n xs)
survive_start l n at es xs out =
    ap (λ (from : ℕ). sets out at (survivors l es 0 (n - 0) (drop from xs))) (zero-mul l)
    ∙ ap (λ (m : ℕ). sets out at (survivors l es 0 m xs)) (all_left n)

pub survive_done : (l n c from at : ℕ) (es xs out : List ℕ) → n ≤ c → sets out at (survivors l es c (n - c) (drop from xs)) ≡ out
unfolding survivors
survive_done l n c from at es xs out h =
    let p : n - c ≡ 0 = omega arith in
    ap (λ (m : ℕ). sets out at (survivors l es c m (drop from xs))) p
