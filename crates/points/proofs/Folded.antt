-- Folding from parity alone. Sum s of the wide stripe is the sum over the stripes l of g^(l*(k*s)) times sum s of stripe l, for all bytes; so
-- where every stripe is sound the fold is the parity of all data, and one stale stripe always shows.
use mathlib.Core.Path.{◌≡◌, refl, sym, ap, ap₂, ◌∙◌, subst}
use mathlib.Core.List.{List, [], ◌∷◌, ◌++◌, map, map-append}
use Prim.Native.Nat.{ℕ, zero, suc, ◌+◌, ◌-◌, ◌*◌, ◌<◌, ◌≤◌, zero-le, suc-le-suc}
use native.Mathlib.Nat.{le_of_suc-le-suc, not-suc-le-zero}
use native.Mathlib.Omega.{arith}
use lib.ListN.{length, get_or, take, drop, length-map, length-drop}
use lib.Seq.{split_at, length-take-le, get_or-take, get_or-drop}
use Rattle.field.specs.Field.{◌⊕◌, ◌⊗◌, gpow}
use Rattle.field.specs.Bytes.{Bytes}
use Rattle.field.specs.Row.{row, row_from}
use Rattle.field.proofs.Xor.{add-zero, zero-add, add-lt, sums}
use Rattle.field.proofs.Mul.{mul-add, mul-zero, gpow-lt, gpow_pos}
use Rattle.field.proofs.Powers.{no_divisors}
use Rattle.field.proofs.Rows.{row_parts, row-nil, row_cons, row_lt}
use Rattle.points.specs.Points.{parity_points, parity_sum, check_sum, parity_of}
use Rattle.points.specs.Folding.{fold_sum, fold_parity, Stripe, Long, Sound, Each, joined, wide_data, parities, wide_stripe}
use Rattle.points.proofs.Sums.{parity_sum-lt, solve_at_bytes}
use Rattle.points.proofs.Parity.{parity_solution, parity_solution_length, parity_solution_same, checked_rows}

-- ---- all in a list, by their places

pub each_at : {A : Type 0} (P : A → Type 0) (d : A) (xs : List A) → Each P xs → (l : ℕ) → l < length xs → P (get_or xs l d)
unfolding Each
each_at P d [] p l m = absurd (not-suc-le-zero m)
each_at P d (x ∷ xs) p zero m = p.0
each_at P d (x ∷ xs) p (suc l) m = each_at P d xs p.1 l (le_of_suc-le-suc m)

pub each_from : {A : Type 0} (P : A → Type 0) (d : A) (xs : List A) → ((l : ℕ) → l < length xs → P (get_or xs l d)) → Each P xs
unfolding Each
each_from P d [] h = tt
each_from P d (x ∷ xs) h = (h 0 (suc-le-suc zero-le), each_from P d xs (λ l m. h (suc l) (suc-le-suc m)))

-- ---- rows of values that stripes have

pub map_same : {A B : Type 0} (f g : A → B) (P : A → Type 0) → ((x : A) → P x → f x ≡ g x) → (xs : List A) → Each P xs → map f xs ≡ map g xs
unfolding Each
map_same f g P h [] p = refl
map_same f g P h (x ∷ xs) p = ap₂ ◌∷◌ (h x p.0) (map_same f g P h xs p.1)

-- the same by their places
pub map_same_at : {A B : Type 0} (d : A) (f g : A → B) (xs : List A) → ((l : ℕ) → l < length xs → f (get_or xs l d) ≡ g (get_or xs l d)) → map f xs ≡ map g xs
map_same_at d f g xs h = map_same f g (λ x. f x ≡ g x) (λ x e. e) xs (each_from (λ x. f x ≡ g x) d xs h)

add_step : (p x y r t : ℕ) → p ⊗ x ⊕ r ⊕ (p ⊗ y ⊕ t) ≡ p ⊗ (x ⊕ y) ⊕ (r ⊕ t)
add_step p x y r t = simp (mul-add, sums)

rows_add : {A : Type 0} (j i : ℕ) (f g : A → ℕ) (xs : List A)
    → row_from j i (map f xs) ⊕ row_from j i (map g xs) ≡ row_from j i (map (λ x. f x ⊕ g x) xs)
unfolding row_from
rows_add j i f g [] = zero-add 0
rows_add j i f g (x ∷ xs) =
    add_step (gpow (i * j)) (f x) (g x) (row_from j (suc i) (map f xs)) (row_from j (suc i) (map g xs))
    ∙ ap (λ (y : ℕ). gpow (i * j) ⊗ (f x ⊕ g x) ⊕ y) (rows_add j (suc i) f g xs)

row_map_add : {A : Type 0} (j : ℕ) (f g : A → ℕ) (xs : List A) → row j (map f xs) ⊕ row j (map g xs) ≡ row j (map (λ x. f x ⊕ g x) xs)
unfolding row
row_map_add j f g xs = rows_add j 0 f g xs

rows_zero : {A : Type 0} (j i : ℕ) (f : A → ℕ) (P : A → Type 0) → ((x : A) → P x → f x ≡ 0) → (xs : List A) → Each P xs → row_from j i (map f xs) ≡ 0
unfolding row_from Each
rows_zero j i f P h [] p = refl
rows_zero j i f P h (x ∷ xs) p =
    ap₂ (λ (y z : ℕ). gpow (i * j) ⊗ y ⊕ z) (h x p.0) (rows_zero j (suc i) f P h xs p.1)
    ∙ ap (λ (y : ℕ). y ⊕ 0) (mul-zero (gpow (i * j))) ∙ add-zero 0

row_zero : {A : Type 0} (j : ℕ) (f : A → ℕ) (P : A → Type 0) → ((x : A) → P x → f x ≡ 0) → (xs : List A) → Each P xs → row j (map f xs) ≡ 0
unfolding row
row_zero j f P h xs p = rows_zero j 0 f P h xs p

check_sum-lt : (s : ℕ) (ds ps : List ℕ) → check_sum s ds ps < 256
unfolding check_sum
check_sum-lt s ds ps = add-lt 8 _ _ (row_lt s ds) (parity_sum-lt s ps)

-- ---- the fold's sums

pub fold_sum-lt : (k s : ℕ) (pss : List (List ℕ)) → fold_sum k s pss < 256
unfolding fold_sum
fold_sum-lt k s pss = row_lt _ _

pub fold_sum-append : (k s : ℕ) (pss qss : List (List ℕ))
    → fold_sum k s (pss ++ qss) ≡ fold_sum k s pss ⊕ gpow (length pss * (k * s)) ⊗ fold_sum k s qss
unfolding fold_sum
fold_sum-append k s pss qss =
    ap (row (k * s)) (map-append (parity_sum s) pss qss) ∙ row_parts (k * s) (map (parity_sum s) pss) (map (parity_sum s) qss)
    ∙ ap (λ (n : ℕ). row (k * s) (map (parity_sum s) pss) ⊕ gpow (n * (k * s)) ⊗ row (k * s) (map (parity_sum s) qss)) (length-map pss (parity_sum s))

pub no_stripes : (k s : ℕ) → fold_sum k s [] ≡ 0
unfolding fold_sum
no_stripes k s = row-nil (k * s)

-- one stripe in front
pub one_more : (k s : ℕ) (ps : List ℕ) (pss : List (List ℕ)) → fold_sum k s (ps ∷ pss) ≡ parity_sum s ps ⊕ gpow (k * s) ⊗ fold_sum k s pss
unfolding fold_sum
one_more k s ps pss = row_cons (k * s) (parity_sum s ps) (map (parity_sum s) pss) (parity_sum-lt s ps)

pub fold_length : (k r : ℕ) (pss : List (List ℕ)) → length (fold_parity k r pss) ≡ r
unfolding fold_parity
fold_length k r pss = parity_solution_length r _

pub fold_bytes : (k r : ℕ) (pss : List (List ℕ)) → Bytes (fold_parity k r pss)
unfolding fold_parity
fold_bytes k r pss = solve_at_bytes (parity_points r) _

-- the new parity has them
pub fold_sums : (k r : ℕ) (pss : List (List ℕ)) → r ≤ 255 → (s : ℕ) → s < r → parity_sum s (fold_parity k r pss) ≡ fold_sum k s pss
unfolding fold_parity
fold_sums k r pss h s l = parity_solution r (λ u. fold_sum k u pss) h (λ u. fold_sum-lt k u pss) s l

-- ---- the wide stripe

-- row s of all data, from row s of each stripe's
pub wide_row : (k s : ℕ) (zs : List Stripe) → Each (Long k) zs → row s (wide_data zs) ≡ row (k * s) (map (λ z. row s z.0) zs)
unfolding wide_data joined Each
wide_row k s [] p = row-nil s ∙ sym (row-nil (k * s))
wide_row k s (z ∷ zs) p =
    row_parts s z.0 (joined (map (λ z. z.0) zs))
    ∙ ap₂ (λ (n x : ℕ). row s z.0 ⊕ gpow (n * s) ⊗ x) p.0 (wide_row k s zs p.1)
    ∙ sym (row_cons (k * s) (row s z.0) (map (λ z. row s z.0) zs) (row_lt s z.0))

parity_values : (s : ℕ) (zs : List Stripe) → map (parity_sum s) (parities zs) ≡ map (λ z. parity_sum s z.1) zs
unfolding parities
parity_values s [] = refl
parity_values s (z ∷ zs) = ap (λ (ys : List ℕ). parity_sum s z.1 ∷ ys) (parity_values s zs)

fold_values : (k s : ℕ) (zs : List Stripe) → fold_sum k s (parities zs) ≡ row (k * s) (map (λ z. parity_sum s z.1) zs)
unfolding fold_sum
fold_values k s zs = ap (row (k * s)) (parity_values s zs)

-- for all bytes: sum s of the wide stripe, from sum s of each stripe
pub wide_sum : (k r : ℕ) (zs : List Stripe) → r ≤ 255 → Each (Long k) zs → (s : ℕ) → s < r
    → check_sum s (wide_stripe k r zs).0 (wide_stripe k r zs).1 ≡ row (k * s) (map (λ z. check_sum s z.0 z.1) zs)
unfolding check_sum wide_stripe
wide_sum k r zs h p s l =
    ap₂ ◌⊕◌ (wide_row k s zs p) (fold_sums k r (parities zs) h s l ∙ fold_values k s zs)
    ∙ row_map_add (k * s) (λ z. row s z.0) (λ z. parity_sum s z.1) zs

-- ---- sound stripes

-- the fold is the parity of all data
pub fold_parity_lem : (k r : ℕ) (zs : List Stripe) → Each (Long k) zs → Each (Sound r) zs → fold_parity k r (parities zs) ≡ parity_of r (wide_data zs)
unfolding fold_parity parity_of
fold_parity_lem k r zs p q =
    parity_solution_same r (λ s. fold_sum k s (parities zs)) (λ s. row s (wide_data zs))
    (λ s l.
    fold_values k s zs
    ∙ ap (row (k * s)) (map_same (λ z. parity_sum s z.1) (λ z. row s z.0) (Sound r) (λ z c. sym (checked_rows r z.0 z.1 c s l)) zs q)
    ∙ sym (wide_row k s zs p))

-- and the wide stripe is sound
pub wide_sound : (k r : ℕ) (zs : List Stripe) → r ≤ 255 → Each (Long k) zs → Each (Sound r) zs → Sound r (wide_stripe k r zs)
wide_sound k r zs h p q s l = wide_sum k r zs h p s l ∙ row_zero (k * s) (λ z. check_sum s z.0 z.1) (Sound r) (λ z c. c s l) zs q

-- ---- one stale stripe

-- where all others are sound, the wide stripe's sum is the stripe's own times a power of g
one_left : (k s r : ℕ) (zs ws : List Stripe) (z : Stripe) → s < r → Each (Sound r) zs → Each (Sound r) ws
    → row (k * s) (map (λ y. check_sum s y.0 y.1) (zs ++ z ∷ ws)) ≡ gpow (length zs * (k * s)) ⊗ check_sum s z.0 z.1
one_left k s r zs ws z l p q =
    ap (row (k * s)) (map-append c zs (z ∷ ws))
    ∙ row_parts (k * s) (map c zs) (map c (z ∷ ws))
    ∙ ap₂ (λ (x n : ℕ). x ⊕ gpow (n * (k * s)) ⊗ row (k * s) (c z ∷ map c ws)) (row_zero (k * s) c (Sound r) (λ y h. h s l) zs p) (length-map zs c)
    ∙ zero-add _
    ∙ ap (λ (x : ℕ). gpow (length zs * (k * s)) ⊗ x)
    (row_cons (k * s) (c z) (map c ws) (check_sum-lt s z.0 z.1)
    ∙ ap (λ (x : ℕ). c z ⊕ gpow (k * s) ⊗ x) (row_zero (k * s) c (Sound r) (λ y h. h s l) ws q)
    ∙ ap (λ (x : ℕ). c z ⊕ x) (mul-zero (gpow (k * s)))
    ∙ add-zero (c z))
  where
    c : Stripe → ℕ
    c y = check_sum s y.0 y.1

-- if the wide stripe is sound, so is the one that was in doubt
pub sound_shows : (k r : ℕ) (zs ws : List Stripe) (z : Stripe) → r ≤ 255 → Each (Long k) (zs ++ z ∷ ws) → Each (Sound r) zs → Each (Sound r) ws
    → Sound r (wide_stripe k r (zs ++ z ∷ ws)) → Sound r z
sound_shows k r zs ws z h p q q' wide s l =
    no_divisors (gpow (length zs * (k * s))) (check_sum s z.0 z.1) (gpow-lt _) (check_sum-lt s z.0 z.1) (gpow_pos _)
    (sym (wide_sum k r (zs ++ z ∷ ws) h p s l ∙ one_left k s r zs ws z l q q') ∙ wide s l)

-- a stale stripe among sound ones shows: the wide stripe is not sound
pub stale_shows : (k r : ℕ) (zs ws : List Stripe) (z : Stripe) → r ≤ 255 → Each (Long k) (zs ++ z ∷ ws) → Each (Sound r) zs → Each (Sound r) ws
    → (Sound r z → ⊥) → Sound r (wide_stripe k r (zs ++ z ∷ ws)) → ⊥
stale_shows k r zs ws z h p q q' stale wide = stale (sound_shows k r zs ws z h p q q' wide)

-- the same by the stripe's number
pub sound_shows_at : (k r : ℕ) (zs : List Stripe) (l : ℕ) → l < length zs → r ≤ 255 → Each (Long k) zs
    → ((m : ℕ) → m < length zs → (m ≡ l → ⊥) → Sound r (get_or zs m ([], []))) → Sound r (wide_stripe k r zs) → Sound r (get_or zs l ([], []))
sound_shows_at k r zs l inside h p others wide =
    sound_shows k r (take l zs) (drop (suc l) zs) (get_or zs l ([], [])) h (subst (Each (Long k)) here p) before after
    (subst (λ (ys : List Stripe). Sound r (wide_stripe k r ys)) here wide)
  where
    here : zs ≡ take l zs ++ get_or zs l ([], []) ∷ drop (suc l) zs
    here = split_at zs l ([], []) inside

    before : Each (Sound r) (take l zs)
    before =
        each_from (Sound r) ([], []) (take l zs)
        (λ m inner.
        let lower : m < l = subst (λ (n : ℕ). m < n) (length-take-le l zs (omega arith)) inner in
        subst (Sound r) (sym (get_or-take l zs m ([], []) lower)) (others m (omega arith) (λ e. omega arith)))

    after : Each (Sound r) (drop (suc l) zs)
    after =
        each_from (Sound r) ([], []) (drop (suc l) zs)
        (λ m inner.
        let higher : m < length zs - suc l = subst (λ (n : ℕ). m < n) (length-drop (suc l) zs) inner in
        subst (Sound r) (sym (get_or-drop (suc l) zs m ([], []))) (others (suc l + m) (omega arith) (λ e. omega arith)))

pub stale_shows_at : (k r : ℕ) (zs : List Stripe) (l : ℕ) → l < length zs → r ≤ 255 → Each (Long k) zs
    → ((m : ℕ) → m < length zs → (m ≡ l → ⊥) → Sound r (get_or zs m ([], []))) → (Sound r (get_or zs l ([], [])) → ⊥) → Sound r (wide_stripe k r zs) → ⊥
stale_shows_at k r zs l inside h p others stale wide = stale (sound_shows_at k r zs l inside h p others wide)

-- ---- two sittings

sittings_sum : (k r n s : ℕ) (psss : List (List (List ℕ))) → r ≤ 255 → s < r → Each (λ pss. length pss ≡ n) psss
    → fold_sum (n * k) s (map (fold_parity k r) psss) ≡ fold_sum k s (joined psss)
unfolding Each joined
sittings_sum k r n s [] h l p = no_stripes (n * k) s ∙ sym (no_stripes k s)
sittings_sum k r n s (pss ∷ psss) h l p =
    one_more (n * k) s (fold_parity k r pss) (map (fold_parity k r) psss)
    ∙ ap₂ (λ (x y : ℕ). x ⊕ gpow (n * k * s) ⊗ y) (fold_sums k r pss h s l) (sittings_sum k r n s psss h l p.1)
    ∙ ap (λ (m : ℕ). fold_sum k s pss ⊕ gpow m ⊗ fold_sum k s (joined psss)) (turn (length pss) p.0)
    ∙ sym (fold_sum-append k s pss (joined psss))
  where
    turn : (m : ℕ) → m ≡ n → n * k * s ≡ m * (k * s)
    turn m e = ap (λ (x : ℕ). x * k * s) (sym e) ∙ omega arith

-- n stripes of each group folded, then the groups: for all bytes this is the fold of all stripes at once
pub two_sittings : (k r n : ℕ) (psss : List (List (List ℕ))) → r ≤ 255 → Each (λ pss. length pss ≡ n) psss
    → fold_parity (n * k) r (map (fold_parity k r) psss) ≡ fold_parity k r (joined psss)
unfolding fold_parity
two_sittings k r n psss h p = parity_solution_same r _ _ (λ s l. sittings_sum k r n s psss h l p)
