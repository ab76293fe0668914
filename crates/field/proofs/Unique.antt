-- Any two outcomes that a contract of this crate allows are equal. An element is told by its byte.
use mathlib.Core.Path.{◌≡◌, sym, ap, ◌∙◌}
use Prim.Native.Nat.{ℕ}
use contract.Lifetimes.{Lfts}
use borrow.Fn.World.{ArgsD, ResD}
use denote.Triple.Clauses.{AtExit}
use Rattle.field.specs.declared.Gf.{Gf}
use Rattle.field.specs.contracts.Gf.polynomial as polynomial
use Rattle.field.proofs.Gf.polynomial.Reads as polynomial-reads
use Rattle.field.specs.contracts.Gf.generator as generator
use Rattle.field.proofs.Gf.generator.Reads as generator-reads
use Rattle.field.specs.contracts.Gf.order as order
use Rattle.field.proofs.Gf.order.Reads as order-reads
use Rattle.field.specs.contracts.Gf.sum as sum
use Rattle.field.proofs.Gf.sum.Reads as sum-reads
use Rattle.field.specs.contracts.Gf.product as product
use Rattle.field.proofs.Gf.product.Reads as product-reads
use Rattle.field.specs.contracts.Gf.inverse as inverse
use Rattle.field.proofs.Gf.inverse.Reads as inverse-reads
use Rattle.field.specs.contracts.Gf.power as power
use Rattle.field.proofs.Gf.power.Reads as power-reads
use Rattle.field.specs.contracts.double as double
use Rattle.field.proofs.double.Reads as double-reads

told : (v w : Gf) → v.0 ≡ w.0 → v ≡ w
told v w e = ap (λ (b : ℕ). record { 0 = b }) e

pub gf_polynomial_unique : (κs : Lfts 0) (a : ArgsD polynomial.signature κs) (r r' : ResD polynomial.signature κs) (s s' : AtExit polynomial.ended κs)
    → polynomial-reads.Post κs a r s → polynomial-reads.Post κs a r' s' → r ≡ r'
gf_polynomial_unique κs a r r' s s' p q = p.0 ∙ sym q.0

pub gf_generator_unique : (κs : Lfts 0) (a : ArgsD generator.signature κs) (r r' : ResD generator.signature κs) (s s' : AtExit generator.ended κs)
    → generator-reads.Post κs a r s → generator-reads.Post κs a r' s' → r ≡ r'
gf_generator_unique κs a r r' s s' p q = p.0 ∙ sym q.0

pub gf_order_unique : (κs : Lfts 0) (a : ArgsD order.signature κs) (r r' : ResD order.signature κs) (s s' : AtExit order.ended κs)
    → order-reads.Post κs a r s → order-reads.Post κs a r' s' → r ≡ r'
gf_order_unique κs a r r' s s' p q = p.0 ∙ sym q.0

pub gf_sum_unique : (κs : Lfts 0) (a : ArgsD sum.signature κs) (r r' : ResD sum.signature κs) (s s' : AtExit sum.ended κs)
    → sum-reads.Post κs a r s → sum-reads.Post κs a r' s' → r ≡ r'
gf_sum_unique κs a r r' s s' p q = told r r' (p ∙ sym q)

pub gf_product_unique : (κs : Lfts 0) (a : ArgsD product.signature κs) (r r' : ResD product.signature κs) (s s' : AtExit product.ended κs)
    → product-reads.Post κs a r s → product-reads.Post κs a r' s' → r ≡ r'
gf_product_unique κs a r r' s s' p q = told r r' (p ∙ sym q)

pub gf_inverse_unique : (κs : Lfts 0) (a : ArgsD inverse.signature κs) (r r' : ResD inverse.signature κs) (s s' : AtExit inverse.ended κs)
    → inverse-reads.Post κs a r s → inverse-reads.Post κs a r' s' → r ≡ r'
gf_inverse_unique κs a r r' s s' p q = told r r' (p ∙ sym q)

pub gf_power_unique : (κs : Lfts 0) (a : ArgsD power.signature κs) (r r' : ResD power.signature κs) (s s' : AtExit power.ended κs)
    → power-reads.Post κs a r s → power-reads.Post κs a r' s' → r ≡ r'
gf_power_unique κs a r r' s s' p q = told r r' (p ∙ sym q)

pub double_unique : (κs : Lfts 0) (a : ArgsD double.signature κs) (r r' : ResD double.signature κs) (s s' : AtExit double.ended κs)
    → double-reads.Post κs a r s → double-reads.Post κs a r' s' → r ≡ r'
double_unique κs a r r' s s' p q = p ∙ sym q
