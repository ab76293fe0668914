-- One byte set.
use borrow.Author.Rules.{rules}
use mathlib.Core.Path.{refl}
use Rattle.field.proofs.Over.{over-one}
use Rattle.text.proofs.put.put_byte.Goals as goal

pub returns : goal.returns
returns c = record { value = refl; out_after = over-one _ _ _ (search rules) }
