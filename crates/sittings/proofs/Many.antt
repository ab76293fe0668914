-- Any number of sittings gives the wide stripe of one fold: for all bytes where every sitting is of kind A, else for codewords.
use mathlib.Core.Path.{◌≡◌, refl, sym, ap, ap₂, ◌∙◌, subst}
use mathlib.Core.List.{List, [], ◌∷◌}
use mathlib.Core.Logic.{◌⊎◌, inl}
use Prim.Native.Nat.{ℕ, zero, suc, ◌+◌, ◌-◌, ◌*◌, ◌<◌}
use native.Mathlib.Nat.{mul-one, mul_comm, not-suc-le-zero, le_of_suc-le-suc}
use native.Mathlib.Omega.{arith}
use lib.ListN.{length, get_or, drop, length-drop}
use lib.Seq.{take_all, get_or-take, get_or-drop, length-take-le}
use Rattle.field.specs.Bytes.{Bytes}
use Rattle.points.specs.Folding.{parts}
use Rattle.points.proofs.Joined.{parts_count, parts_each, joined_parts}
use Rattle.stripe.specs.declared.Shape.{Shape}
use Rattle.stripe.specs.Shape.{stripe_length}
use Rattle.stripe.specs.Stripe.{Codeword}
use Rattle.plan.specs.declared.Kind.TheVariants.{A}
use Rattle.plan.specs.Plan.{kind_of, fold_refusal, wide_shape}
use Rattle.plan.proofs.Foldable.{foldable}
use Rattle.fold.specs.Fold.{wide_stripe}
use Rattle.sittings.specs.Sittings.{Groups, Codewords, halves, in_two, at_once}
use Rattle.sittings.specs.Many.{Sitting, stripes_of, last_new, after_all, AllPass, AllA}
use Rattle.sittings.proofs.One.{halves_count, halves_long, halves_bytes, codewords_halves}
use Rattle.sittings.proofs.Steps.{is_a, once_passed, a_then_a}
use Rattle.sittings.proofs.Same.{a_a, codewords_same}

-- ---- stripes cut into groups

-- what holds of every stripe holds of every stripe of every group
groups_every : (P : List ℕ → Type 0) (n m : ℕ) (zss : List (List ℕ)) → length zss ≡ m * n → ((x : ℕ) → x < length zss → P (get_or zss x []))
    → (i x : ℕ) → i < length (parts n m zss) → x < length (get_or (parts n m zss) i []) → P (get_or (get_or (parts n m zss) i []) x [])
unfolding parts
groups_every P n zero zss e h i x hi hx = absurd (not-suc-le-zero hi)
groups_every P n (suc m) zss e h zero x hi hx =
    let k : x < n = subst (λ (y : ℕ). x < y) (length-take-le n zss (omega arith)) hx in
    subst P (sym (get_or-take n zss x [] k)) (h x (omega arith))
groups_every P n (suc m) zss e h (suc i) x hi hx =
    groups_every P n m (drop n zss) (length-drop n zss ∙ omega arith)
    (λ y k. let b : y < length zss - n = subst (λ (z : ℕ). y < z) (length-drop n zss) k in subst P (sym (get_or-drop n zss y [])) (h (n + y) (omega arith)))
    i x (le_of_suc-le-suc hi) hx

-- stripes as many bytes as their shape has
pub record Stripes (s : Shape) (zss : List (List ℕ)) : Type 0 where
  pub long : (i : ℕ) → i < length zss → length (get_or zss i []) ≡ stripe_length s
  pub bytes : (i : ℕ) → i < length zss → Bytes (get_or zss i [])

groups_of : (s : Shape) (n m : ℕ) (zss : List (List ℕ)) → length zss ≡ m * n → Stripes s zss → Groups s n m (parts n m zss)
groups_of s n m zss e h =
    record {
      many = parts_count n m zss;
      each = parts_each n m zss e;
      long = groups_every (λ (zs : List ℕ). length zs ≡ stripe_length s) n m zss e h.long;
      bytes = groups_every Bytes n m zss e h.bytes;
    }

-- ---- the last sitting, and one before it

one_group : (s : Shape) (n f : ℕ) (zss : List (List ℕ)) → length zss ≡ n * 1 → halves s n f (parts n 1 zss) ≡ wide_stripe s (n * 1) f zss ∷ []
unfolding halves parts
one_group s n f zss e =
    ap₂ (λ (m : ℕ) (yss : List (List ℕ)). wide_stripe s m f yss ∷ []) (sym (mul-one n)) (take_all n zss (omega (arith, mul-one n)))

module _ (s : Shape) (n₁ f₁ n₂ f₂ : ℕ) (zss : List (List ℕ)) (first : fold_refusal s n₁ f₁ ≡ 0) (second : fold_refusal (wide_shape s n₁ f₁) n₂ f₂ ≡ 0)
    (count : length zss ≡ n₁ * n₂) (stripes : Stripes s zss) where
  abbrev gs : List (List (List ℕ))
  gs = parts n₁ n₂ zss

  counted : length zss ≡ n₂ * n₁
  counted = count ∙ mul_comm n₁ n₂

  grouped : Groups s n₁ n₂ gs
  grouped = groups_of s n₁ n₂ zss counted stripes

  halves_stripes : Stripes (wide_shape s n₁ f₁) (halves s n₁ f₁ gs)
  halves_stripes = record { long = halves_long s n₁ f₁ n₂ gs grouped first; bytes = halves_bytes s n₁ f₁ n₂ gs grouped first }

  wide_same : in_two s n₁ f₁ n₂ f₂ gs ≡ at_once s (n₁ * n₂) f₂ gs
      → wide_stripe (wide_shape s n₁ f₁) n₂ f₂ (halves s n₁ f₁ gs) ≡ wide_stripe s (n₁ * n₂) f₂ zss
  unfolding in_two at_once
  wide_same e = e ∙ ap (wide_stripe s (n₁ * n₂) f₂) (joined_parts n₁ n₂ zss counted)

-- ---- every sitting of kind A, for all bytes

-- the fold at once is then of kind A too, and not refused
pub once_a : (s : Shape) (x : Sitting) (xs : List Sitting) → AllPass s (x ∷ xs) → AllA s (x ∷ xs)
    → (fold_refusal s (stripes_of (x ∷ xs)) (last_new x xs) ≡ 0) × (kind_of s (last_new x xs) ≡ A)
unfolding AllPass AllA stripes_of last_new
once_a s x [] p a = (subst (λ (m : ℕ). fold_refusal s m x.new ≡ 0) (sym (mul-one x.stripes)) p.0, a.0)
once_a s x (y ∷ ys) p a =
    let rest = once_a (wide_shape s x.stripes x.new) y ys p.1 a.1 in (
      once_passed s x.stripes x.new (stripes_of (y ∷ ys)) (last_new y ys) p.0 rest.0
          (inl (is_a s x.new (foldable s x.stripes x.new p.0).kinds a.0).plain),
      a_then_a s x.stripes x.new (stripes_of (y ∷ ys)) (last_new y ys) p.0 rest.0 a.0 rest.1,
    )

pub many_a : (s : Shape) (x : Sitting) (xs : List Sitting) (zss : List (List ℕ)) → AllPass s (x ∷ xs) → AllA s (x ∷ xs)
    → length zss ≡ stripes_of (x ∷ xs) → Stripes s zss → after_all s (x ∷ xs) zss ≡ wide_stripe s (stripes_of (x ∷ xs)) (last_new x xs) zss ∷ []
unfolding AllPass AllA stripes_of last_new after_all
many_a s x [] zss p a e h = one_group s x.stripes x.new zss e
many_a s x (y ∷ ys) zss p a e h =
    let n = x.stripes in
    let f = x.new in
    let m = stripes_of (y ∷ ys) in
    let g = last_new y ys in
    let rest = once_a (wide_shape s n f) y ys p.1 a.1 in
    let of = grouped s n f m g zss p.0 rest.0 e h in
    many_a (wide_shape s n f) y ys (halves s n f (parts n m zss)) p.1 a.1 (halves_count s n f m (parts n m zss) of p.0)
    (halves_stripes s n f m g zss p.0 rest.0 e h)
    ∙ ap (λ (zs : List ℕ). zs ∷ []) (wide_same s n f m g zss p.0 rest.0 e h (a_a s n f m g (parts n m zss) of p.0 rest.0 a.0 rest.1))

-- ---- sittings of any kind, for codewords; if they are prepared, the last sitting has f = t too

pub once_any : (s : Shape) (x : Sitting) (xs : List Sitting) → AllPass s (x ∷ xs) → (s.t ≡ 0) ⊎ (s.t ≡ last_new x xs)
    → fold_refusal s (stripes_of (x ∷ xs)) (last_new x xs) ≡ 0
unfolding AllPass stripes_of last_new
once_any s x [] p t = subst (λ (m : ℕ). fold_refusal s m x.new ≡ 0) (sym (mul-one x.stripes)) p.0
once_any s x (y ∷ ys) p t =
    once_passed s x.stripes x.new (stripes_of (y ∷ ys)) (last_new y ys) p.0 (once_any (wide_shape s x.stripes x.new) y ys p.1 (inl refl)) t

pub many_codewords : (s : Shape) (x : Sitting) (xs : List Sitting) (zss : List (List ℕ)) → AllPass s (x ∷ xs) → (s.t ≡ 0) ⊎ (s.t ≡ last_new x xs)
    → length zss ≡ stripes_of (x ∷ xs) → ((i : ℕ) → i < length zss → Codeword s (get_or zss i []))
    → after_all s (x ∷ xs) zss ≡ wide_stripe s (stripes_of (x ∷ xs)) (last_new x xs) zss ∷ []
unfolding AllPass stripes_of last_new after_all
many_codewords s x [] zss p t e c = one_group s x.stripes x.new zss e
many_codewords s x (y ∷ ys) zss p t e c =
    let n = x.stripes in
    let f = x.new in
    let m = stripes_of (y ∷ ys) in
    let g = last_new y ys in
    let rest = once_any (wide_shape s n f) y ys p.1 (inl refl) in
    let h : Stripes s zss = record { long = λ i k. (c i k).long; bytes = λ i k. (c i k).bytes } in
    let of = grouped s n f m g zss p.0 rest e h in
    let cs : Codewords s (parts n m zss) = groups_every (Codeword s) n m zss (counted s n f m g zss p.0 rest e h) c in
    many_codewords (wide_shape s n f) y ys (halves s n f (parts n m zss)) p.1 (inl refl) (halves_count s n f m (parts n m zss) of p.0)
    (codewords_halves s n f m (parts n m zss) of p.0 cs)
    ∙ ap (λ (zs : List ℕ). zs ∷ []) (wide_same s n f m g zss p.0 rest e h (codewords_same s n f m g (parts n m zss) of p.0 rest cs t))
