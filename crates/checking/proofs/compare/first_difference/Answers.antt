-- `first_difference` meets its contract: it is the first place at which the two differ.
use mathlib.Core.Path.{◌≡◌, ap₂, ◌∙◌}
use mathlib.Core.Bool.{not}
use lib.Dec.{eqb}
use Rattle.std.proofs.Common.{rules, tests}
use Rattle.std.proofs.lemmas.Iterator.{YieldsList-from_slice, YieldsList-from_zip}
use Rattle.std.proofs.lemmas.Iterator.Search.{position_from_yields_List}
use Rattle.std.specs.List.{zip, position}
use Rattle.std.specs.Option.{unwrap_or}
use Rattle.checking.proofs.Comparing.{first_position}
use Rattle.checking.proofs.compare.first_difference.Goals as goal

pub returns : goal.returns
returns c =
    let e : c.position.result ≡ position (λ p. not (eqb p.0 p.1)) (zip c.args.a.now c.args.d.now) =
    position_from_yields_List (λ p. not (eqb p.0 p.1)) c.position.new.self _ c.position.result c.position.ensures.ran
    (YieldsList-from_zip (YieldsList-from_slice c.args.a.now cc) (YieldsList-from_slice c.args.d.now cc)) (λ x b q k. search (rules, tests)) in
    c.unwrap_or.ensures ∙ ap₂ unwrap_or e c.min.ensures ∙ first_position _ _
