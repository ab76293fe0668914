-- A sum of counts fits, or is 2^64-1; a bill of them.
use mathlib.Core.Path.{◌≡◌, sym, ap, ◌∙◌}
use mathlib.Core.Bool.{Bool, cond}
use mathlib.Core.Logic.{◌⊎◌, inl, inr}
use Prim.Native.Nat.{ℕ, ◌-◌, ◌<◌, ◌≤◌, ◌^◌, min}
use native.Mathlib.Omega.{arith}
use Rattle.field.proofs.Cases.{below_or_from}
use borrow.Author.Tests.{lt-ltb, le-ltb}
use Rattle.plan.specs.declared.counts.Bill.{Bill}
use Rattle.plan.specs.Counts.{capped}

pub capped_is : (n : ℕ) → n < 2 ^ 64 → n ≡ capped n
capped_is n h = sym (ap (λ (b : Bool). cond b n (2 ^ 64 - 1)) (lt-ltb n (2 ^ 64) h))

pub capped_most : (n : ℕ) → 2 ^ 64 ≤ n → 2 ^ 64 - 1 ≡ capped n
capped_most n h = sym (ap (λ (b : Bool). cond b n (2 ^ 64 - 1)) (le-ltb n (2 ^ 64) h))

pub capped_least : (n : ℕ) → min n (2 ^ 64 - 1) ≡ capped n
capped_least n = go (below_or_from n (2 ^ 64))
  where
    go : (n < 2 ^ 64) ⊎ (2 ^ 64 ≤ n) → min n (2 ^ 64 - 1) ≡ capped n
    go (inl h) = omega arith ∙ capped_is n h
    go (inr h) = omega arith ∙ capped_most n h

-- a bill is told by its six numbers
pub same_bill : (a b : Bill) → a.columns.read.0 ≡ b.columns.read.0 → a.columns.written.0 ≡ b.columns.written.0
    → a.columns.sum.0 ≡ b.columns.sum.0 → a.bytes.read.0 ≡ b.bytes.read.0 → a.bytes.written.0 ≡ b.bytes.written.0
    → a.bytes.sum.0 ≡ b.bytes.sum.0 → a ≡ b
same_bill a b c d e f g h i =
    record {
      columns = record { read = record { 0 = c i }; written = record { 0 = d i }; sum = record { 0 = e i } };
      bytes = record { read = record { 0 = f i }; written = record { 0 = g i }; sum = record { 0 = h i } };
    }
