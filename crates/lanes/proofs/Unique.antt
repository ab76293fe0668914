-- Any two outcomes that a contract allows are equal: of a loop that writes, what the first list holds; of a comparison or a count, the answer.
use mathlib.Core.Path.{◌≡◌, sym, ◌∙◌}
use mathlib.Core.Logic.{◌⊎◌, inl, inr}
use Prim.Native.Nat.{ℕ, ◌≤◌}
use native.Mathlib.Omega.{arith}
use contract.Lifetimes.{Lfts}
use borrow.Fn.World.{ArgsD, ResD}
use denote.Triple.Clauses.{AtExit}
use Rattle.lanes.specs.contracts.add as add
use Rattle.lanes.proofs.add.Reads as add_reads
use Rattle.lanes.specs.contracts.copy as copy
use Rattle.lanes.proofs.copy.Reads as copy-reads
use Rattle.lanes.specs.contracts.all_zero as all_zero_lem
use Rattle.lanes.proofs.all_zero.Reads as all-zero-reads
use Rattle.lanes.specs.contracts.shorter as shorter
use Rattle.lanes.proofs.shorter.Reads as shorter-reads

lesser : {m n : ℕ} (v w : ℕ) → (v ≤ m) × ((v ≤ n) × ((m ≤ v) ⊎ (n ≤ v))) → (w ≤ m) × ((w ≤ n) × ((m ≤ w) ⊎ (n ≤ w))) → v ≡ w
lesser {m} {n} v w p q = go p.1.1 q.1.1
  where
    go : (m ≤ v) ⊎ (n ≤ v) → (m ≤ w) ⊎ (n ≤ w) → v ≡ w
    go (inl k) (inl l) = omega (arith, p.0, q.0)
    go (inl k) (inr l) = omega (arith, p.0, p.1.0, q.0, q.1.0)
    go (inr k) (inl l) = omega (arith, p.0, p.1.0, q.0, q.1.0)
    go (inr k) (inr l) = omega (arith, p.1.0, q.1.0)

pub add_unique : (κs : Lfts 2) (a : ArgsD add.signature κs) (r r' : ResD add.signature κs) (s s' : AtExit add.ended κs)
    → add_reads.Post κs a r s → add_reads.Post κs a r' s' → s.0.now ≡ s'.0.now
add_unique κs a r r' s s' p q = p ∙ sym q

pub copy_unique : (κs : Lfts 2) (a : ArgsD copy.signature κs) (r r' : ResD copy.signature κs) (s s' : AtExit copy.ended κs)
    → copy-reads.Post κs a r s → copy-reads.Post κs a r' s' → s.0.now ≡ s'.0.now
copy_unique κs a r r' s s' p q = p ∙ sym q

pub all_zero_unique : (κs : Lfts 1) (a : ArgsD all_zero_lem.signature κs) (r r' : ResD all_zero_lem.signature κs) (s s' : AtExit all_zero_lem.ended κs)
    → all-zero-reads.Post κs a r s → all-zero-reads.Post κs a r' s' → r ≡ r'
all_zero_unique κs a r r' s s' p q = p ∙ sym q

pub shorter_unique : (κs : Lfts 0) (a : ArgsD shorter.signature κs) (r r' : ResD shorter.signature κs) (s s' : AtExit shorter.ended κs)
    → shorter-reads.Post κs a r s → shorter-reads.Post κs a r' s' → r ≡ r'
shorter_unique κs a r r' s s' p q = lesser r r' p q
