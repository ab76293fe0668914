-- The list of lost positions as it is lent (document 01, 'Mending'), and what is refused of it.
use Rattle.std.specs.Prelude.{ℕ, ◌+◌, ◌*◌, ◌%◌, cond, List, [], ◌∷◌, leb, eqb, length}
use Rattle.stripe.specs.Stripe.{ascending}

-- the positions that pairs of bytes name, low byte first
unfoldable pub positions : List ℕ → List ℕ
positions [] = []
positions (a ∷ []) = []
positions (a ∷ b ∷ ls) = (a + b * 256) ∷ positions ls

-- the refusal of a lent list: 5 for an odd length, 6 for positions that do not ascend below n, 7 for more than r of them, 0 for none
unfoldable pub list_refusal : ℕ → ℕ → List ℕ → ℕ
list_refusal n r ls =
    cond (eqb (length ls % 2) 0)
    (cond (ascending 0 n (positions ls)) (cond (leb (length (positions ls)) r) 0 7) 6) 5
