-- `compared` meets its contract: the buffer holds the parity by definition, and the answer is where the parity lent first differs from it.
use mathlib.Core.Path.{◌≡◌, sym, ap, ◌∙◌}
use lib.ListN.{length}
use borrow.Author.Rules.{rules}
use Rattle.checking.specs.Compare.{first_difference}
use Rattle.stripe.proofs.Allowed.{allowed, rows_most}
use Rattle.stripe.proofs.Lent.{lent}
use Rattle.coding.proofs.Encoded.{made, encoded_by_rows_lem}
use Rattle.checking.proofs.by_rows.compared.Goals as goal

pub difference-requires : goal.difference-requires
difference-requires c =
    let same : length c.encode_by_rows.new.parity ≡ length c.args.made.now = search rules in
    sym (same ∙ c.requires.1)

pub returns : goal.returns
returns c =
    let a = c.args.lent.now in
    let few = rows_most a.shape (allowed a.shape (lent a.shape _ _ a.allowed).shape) c.requires.0 in
    let e = made a.shape a.«data».now a.parity.now c.args.made.now _ a.allowed c.requires.1
    (c.encode_by_rows.ensures ∙ encoded_by_rows_lem a.shape a.«data».now c.args.made.now few) in
    c.difference.ensures ∙ ap (first_difference a.parity.now) e
