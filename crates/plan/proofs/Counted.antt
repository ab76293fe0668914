-- The plan's counts: as many spans as columns read, and their lengths add up to the bytes read. Each is shown of a stretch of columns,
-- then of a stripe, then of all stripes.
use mathlib.Core.Path.{◌≡◌, refl, sym, ap, ap₂, ◌∙◌, subst}
use mathlib.Core.Bool.{Bool, true, false, cond}
use mathlib.Core.List.{List, [], ◌∷◌, ◌++◌}
use mathlib.Core.Logic.{◌⊎◌, inl, inr}
use Prim.Native.Nat.{ℕ, zero, suc, ◌+◌, ◌-◌, ◌*◌, ◌/◌}
use native.Mathlib.Nat.{suc-mul, zero-mul, add_comm, add_assoc, add-mul, mul_assoc, zero-add}
use lib.Dec.{eqb}
use lib.ListN.{length, length-append}
use borrow.Author.Tests.{eqb-true}
use Rattle.stripe.specs.declared.Shape.{Shape}
use Rattle.stripe.proofs.Allowed.{Allowed}
use Rattle.plan.specs.declared.Span.{Span}
use Rattle.plan.specs.declared.Kind.{Kind}
use Rattle.plan.specs.declared.Kind.TheVariants.{A, B, C}
use Rattle.plan.specs.Plan.{kind_of, fold_refusal, column_spans, kind_spans, spans_from, plan, summed, columns_each, bytes_each, columns_read, bytes_read}
use Rattle.plan.proofs.Foldable.{IsA, IsB, IsC, Foldable, foldable, runs_whole}

-- ---- how many

pub columns_many : (n a m c k : ℕ) → length (column_spans n a m c k) ≡ k
unfolding column_spans
columns_many n a m c zero = refl
columns_many n a m c (suc k) = ap suc (columns_many n a m (suc c) k)

pub kind_many : (κ : Kind) (s : Shape) (f n : ℕ) → length (kind_spans κ s f n) ≡ columns_each κ s f
unfolding kind_spans columns_each
kind_many A s f n = columns_many n 0 s.l s.k f
kind_many B s f n = length-append (column_spans n _ _ 0 s.k) _ ∙ ap₂ ◌+◌ (columns_many n _ _ 0 s.k) (columns_many n _ _ s.k s.r)
kind_many C s f n = columns_many n 0 s.l 0 s.k

pub stripes_many : (s : Shape) (f n m : ℕ) → length (spans_from s f n m) ≡ m * columns_each (kind_of s f) s f
unfolding spans_from
stripes_many s f n zero = sym (zero-mul _)
stripes_many s f n (suc m) =
    length-append (kind_spans (kind_of s f) s f n) _ ∙ ap₂ ◌+◌ (kind_many (kind_of s f) s f n) (stripes_many s f (suc n) m)
    ∙ add_comm _ _ ∙ sym (suc-mul m _)

cond_ap : {X Y : Type 0} (h : X → Y) (b : Bool) (x y : X) → h (cond b x y) ≡ cond b (h x) (h y)
cond_ap h true x y = refl
cond_ap h false x y = refl

-- the number of spans is the number of columns read
pub columns_counted : (s : Shape) (n f : ℕ) → length (plan s n f) ≡ columns_read s n f
unfolding plan columns_read
columns_counted s n f =
    cond_ap length (eqb (fold_refusal s n f) 0) (spans_from s f 0 n) []
    ∙ ap (λ (m : ℕ). cond (eqb (fold_refusal s n f) 0) m 0) (stripes_many s f 0 n)

-- ---- their lengths

summed-nil : summed [] ≡ 0
unfolding summed
summed-nil = refl

summed-append : (xs ys : List Span) → summed (xs ++ ys) ≡ summed xs + summed ys
unfolding summed
summed-append [] ys = sym (zero-add _)
summed-append (x ∷ xs) ys = ap (λ (m : ℕ). x.length + m) (summed-append xs ys) ∙ sym (add_assoc x.length _ _)

columns_long : (n a m c k : ℕ) → summed (column_spans n a m c k) ≡ k * m
unfolding column_spans summed
columns_long n a m c zero = sym (zero-mul m)
columns_long n a m c (suc k) = ap (λ (x : ℕ). m + x) (columns_long n a m (suc c) k) ∙ add_comm m _ ∙ sym (suc-mul k m)

-- the parts of the data columns and the parity columns, in runs of q bytes
pub runs_sum : (k r t q l : ℕ) → t * q ≡ l → k * ((t - r) * q) + r * l ≡ (r * t + k * (t - r)) * q
runs_sum k r t q l e =
    ap (λ (x : ℕ). k * ((t - r) * q) + r * x) (sym e)
    ∙ ap₂ ◌+◌ (sym (mul_assoc k (t - r) q)) (sym (mul_assoc r t q))
    ∙ add_comm _ _ ∙ sym (add-mul (r * t) (k * (t - r)) q)

kind_long : (s : Shape) (f n : ℕ) → Allowed s → IsA s f ⊎ (IsB s f ⊎ IsC s f) → summed (kind_spans (kind_of s f) s f n) ≡ bytes_each (kind_of s f) s f
unfolding kind_spans bytes_each
kind_long s f n a (inl h) =
    subst (λ (κ : Kind). summed (kind_spans κ s f n) ≡ bytes_each κ s f) (sym h.kind) (columns_long n 0 s.l s.k f)
kind_long s f n a (inr (inl h)) =
    subst (λ (κ : Kind). summed (kind_spans κ s f n) ≡ bytes_each κ s f) (sym h.kind)
    (summed-append (column_spans n _ _ 0 s.k) _
    ∙ ap₂ ◌+◌ (columns_long n _ _ 0 s.k) (columns_long n _ _ s.k s.r)
    ∙ runs_sum s.k s.r s.t (s.l / s.t) s.l (runs_whole s a h.prepared))
kind_long s f n a (inr (inr h)) =
    subst (λ (κ : Kind). summed (kind_spans κ s f n) ≡ bytes_each κ s f) (sym h.kind) (columns_long n 0 s.l 0 s.k)

stripes_long : (s : Shape) (f n m : ℕ) → Allowed s → IsA s f ⊎ (IsB s f ⊎ IsC s f) → summed (spans_from s f n m) ≡ m * bytes_each (kind_of s f) s f
unfolding spans_from summed
stripes_long s f n zero a h = sym (zero-mul _)
stripes_long s f n (suc m) a h =
    summed-append (kind_spans (kind_of s f) s f n) _ ∙ ap₂ ◌+◌ (kind_long s f n a h) (stripes_long s f (suc n) m a h)
    ∙ add_comm _ _ ∙ sym (suc-mul m _)

-- the lengths of the spans add up to the bytes read
pub bytes_counted : (s : Shape) (n f : ℕ) → summed (plan s n f) ≡ bytes_read s n f
unfolding plan bytes_read
bytes_counted s n f = go (eqb (fold_refusal s n f) 0) refl
  where
    go : (b : Bool) → eqb (fold_refusal s n f) 0 ≡ b → summed (cond b (spans_from s f 0 n) []) ≡ cond b (n * bytes_each (kind_of s f) s f) 0
    go true e = let h : Foldable s n f = foldable s n f (eqb-true _ _ e) in stripes_long s f 0 n h.shape h.kinds
    go false e = summed-nil
