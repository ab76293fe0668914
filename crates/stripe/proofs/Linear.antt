-- Parity is linear: a sum of data has the sum of the parities, so the sum of two codewords is a codeword.
use mathlib.Core.Path.{◌≡◌, refl, sym, ap, ap₂, ◌∙◌}
use mathlib.Core.Bool.{Bool, true, false, cond}
use mathlib.Core.List.{List, [], ◌∷◌}
use Prim.Native.Nat.{ℕ, zero, suc, ◌+◌, ◌*◌, ◌/◌, ◌%◌, ◌<◌}
use lib.Dec.{ltb}
use lib.ListN.{length, get_or, take}
use Rattle.field.specs.Field.{◌⊕◌}
use Rattle.field.specs.Bytes.{◌⊞◌}
use Rattle.field.specs.Row.{row}
use Rattle.field.proofs.Xor.{zero-add, sums}
use Rattle.field.proofs.Bytes.{add-length, add_at, add_bytes}
use Rattle.field.proofs.Rows.{row-add}
use native.Mathlib.Omega.{arith}
use Rattle.points.specs.Points.{parity_of as solvedParity}
use Rattle.points.proofs.Parity.{parity-length as solved-length}
use Rattle.points.proofs.Linear.{parity-add as solved-add}
use Rattle.stripe.specs.declared.Shape.{Shape}
use Rattle.stripe.specs.Shape.{data_length, parity_length}
use Rattle.stripe.specs.Stripe.{across, by_points, row_at, run_length, piggyback, parity_byte, parity, data_of, Codeword, plain_runs}
use Rattle.stripe.proofs.Allowed.{by_points_many}
use Rattle.stripe.proofs.Places.{across-length, across-add, parity_at, parity-length, parity_exact, data_of-length}
use Rattle.stripe.proofs.Codewords.{checks_codeword, codeword_checks}

pub row_at-add : (s : Shape) (xs ys : List ℕ) (j p : ℕ) → length xs ≡ length ys → row_at s (xs ⊞ ys) j p ≡ row_at s xs j p ⊕ row_at s ys j p
unfolding row_at
row_at-add s xs ys j p e =
    ap (row j) (across-add xs ys s.l p 0 s.k e)
    ∙ row-add j _ _ (across-length xs s.l p 0 s.k ∙ sym (across-length ys s.l p 0 s.k))

pub piggyback-add : (s : Shape) (xs ys : List ℕ) (i p : ℕ) → length xs ≡ length ys
    → piggyback s (xs ⊞ ys) i p ≡ piggyback s xs i p ⊕ piggyback s ys i p
unfolding piggyback
piggyback-add s xs ys i p e = go (ltb (p / run_length s) (plain_runs s))
  where
    j : ℕ
    j = p / run_length s

    q : ℕ
    q = i * run_length s + p % run_length s

    go : (b : Bool) → cond b 0 (row_at s (xs ⊞ ys) j q) ≡ cond b 0 (row_at s xs j q) ⊕ cond b 0 (row_at s ys j q)
    go true = sym (zero-add 0)
    go false = row_at-add s xs ys j q e

pub parity_byte-add : (s : Shape) (xs ys : List ℕ) (i p : ℕ) → length xs ≡ length ys
    → parity_byte s (xs ⊞ ys) i p ≡ parity_byte s xs i p ⊕ parity_byte s ys i p
unfolding parity_byte
parity_byte-add s xs ys i p e = go (by_points s) refl
  where
    word : List ℕ → List ℕ
    word ds = solvedParity s.r (across ds s.l p 0 s.k)

    solved : by_points s ≡ true → get_or (word (xs ⊞ ys)) i 0 ≡ get_or (word xs) i 0 ⊕ get_or (word ys) i 0
    solved q =
        ap (λ (ds : List ℕ). get_or (solvedParity s.r ds) i 0) (across-add xs ys s.l p 0 s.k e)
        ∙ ap (λ (ps : List ℕ). get_or ps i 0)
        (solved-add s.r _ _ (let h = (by_points_many s q).1 in omega arith) (across-length xs s.l p 0 s.k ∙ sym (across-length ys s.l p 0 s.k)))
        ∙ add_at (word xs) (word ys) i (solved-length s.r _ ∙ sym (solved-length s.r _))

    go : (b : Bool) → by_points s ≡ b
        → cond b (get_or (word (xs ⊞ ys)) i 0) (row_at s (xs ⊞ ys) i p ⊕ piggyback s (xs ⊞ ys) i p)
        ≡ cond b (get_or (word xs) i 0) (row_at s xs i p ⊕ piggyback s xs i p) ⊕ cond b (get_or (word ys) i 0) (row_at s ys i p ⊕ piggyback s ys i p)
    go true q = solved q
    go false q = ap₂ ◌⊕◌ (row_at-add s xs ys i p e) (piggyback-add s xs ys i p e) ∙ simp sums

pub parity-add : (s : Shape) (xs ys : List ℕ) → length xs ≡ length ys → parity s (xs ⊞ ys) ≡ parity s xs ⊞ parity s ys
parity-add s xs ys e = sym (parity_exact s (xs ⊞ ys) (parity s xs ⊞ parity s ys) long at)
  where
    same : length (parity s xs) ≡ length (parity s ys)
    same = parity-length s xs ∙ sym (parity-length s ys)

    long : length (parity s xs ⊞ parity s ys) ≡ parity_length s
    long = add-length _ _ same ∙ parity-length s xs

    at : (i p : ℕ) → i < s.r → p < s.l → get_or (parity s xs ⊞ parity s ys) (i * s.l + p) 0 ≡ parity_byte s (xs ⊞ ys) i p
    at i p hi hp =
        add_at _ _ (i * s.l + p) same ∙ ap₂ ◌⊕◌ (parity_at s xs i p hi hp) (parity_at s ys i p hi hp) ∙ sym (parity_byte-add s xs ys i p e)

pub take_add_lists : (n : ℕ) (xs ys : List ℕ) → take n (xs ⊞ ys) ≡ take n xs ⊞ take n ys
unfolding ◌⊞◌
take_add_lists zero xs ys = refl
take_add_lists (suc n) [] ys = refl
take_add_lists (suc n) (x ∷ xs) [] = refl
take_add_lists (suc n) (x ∷ xs) (y ∷ ys) = ap (λ (zs : List ℕ). (x ⊕ y) ∷ zs) (take_add_lists n xs ys)

-- ---- codewords

pub codeword_add : (s : Shape) (xs ys : List ℕ) → Codeword s xs → Codeword s ys → Codeword s (xs ⊞ ys)
codeword_add s xs ys u v =
    checks_codeword s (xs ⊞ ys) (add_bytes xs ys u.bytes v.bytes) (add-length xs ys same ∙ u.long)
    (λ i p hi hp.
    add_at xs ys ((s.k + i) * s.l + p) same
    ∙ ap₂ ◌⊕◌ (codeword_checks s xs u i p hi hp) (codeword_checks s ys v i p hi hp)
    ∙ sym (parity_byte-add s (data_of s xs) (data_of s ys) i p (data_of-length s xs u.long ∙ sym (data_of-length s ys v.long)))
    ∙ ap (λ (ds : List ℕ). parity_byte s ds i p) (sym (take_add_lists (data_length s) xs ys)))
  where
    same : length xs ≡ length ys
    same = u.long ∙ sym v.long
