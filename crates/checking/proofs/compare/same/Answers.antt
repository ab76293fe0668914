-- `same` meets its contract: the places that differ leave something in the fold.
use mathlib.Core.Path.{◌≡◌, ap, ◌∙◌}
use Prim.Native.Nat.{ℕ}
use lib.Bits.{bit_or, bit_xor}
use lib.Dec.{eqb}
use Rattle.std.proofs.Common.{rules, tests}
use Rattle.std.proofs.lemmas.Iterator.{YieldsList-from_slice, YieldsList-from_zip}
use Rattle.std.proofs.lemmas.Iterator.Consumers.{fold_from_yields_List}
use Rattle.std.specs.List.{fold, zip}
use Rattle.checking.proofs.Comparing.{fold_agree}
use Rattle.checking.proofs.compare.same.Goals as goal

pub returns : goal.returns
returns c =
    let e : c.fold.result ≡ fold (λ z p. bit_or z (bit_xor p.0 p.1)) 0 (zip c.args.a.now c.args.d.now) =
    fold_from_yields_List _ (λ z p. bit_or z (bit_xor p.0 p.1)) 0 c.fold.result c.fold.ensures.ran
    (YieldsList-from_zip (YieldsList-from_slice c.args.a.now cc) (YieldsList-from_slice c.args.d.now cc)) (λ z x b q k. search (rules, tests)) in
    ap (λ (z : ℕ). eqb z 0) e ∙ fold_agree _ _ 0
