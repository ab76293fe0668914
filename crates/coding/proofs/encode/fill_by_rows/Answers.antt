-- `fill_by_rows` meets its contract: rows are the parity of a plain stripe, rows and piggybacks of a prepared one.
use mathlib.Core.Path.{◌≡◌, ap, ◌∙◌}
use native.Mathlib.Omega.{arith}
use lib.ListN.{length}
use borrow.Author.Rules.{rules}
use Rattle.coding.specs.Encode.{encode_refusal}
use Rattle.coding.proofs.Encoded.{rows_filled, rows_are, plain_exact, prepared_exact}
use Rattle.coding.proofs.encode.fill_by_rows.Goals as goal

pub returns-then-t-lt1 : goal.returns-then-t-lt1
returns-then-t-lt1 c =
    let ps = c.fill_rows.new.out in
    let same : length ps ≡ length c.args.out.now = search rules in
    plain_exact c.args.s _ c.args.out.now ps c.requires.0 same c.requires.1 (omega arith)
    (rows_filled c.args.s _ _ ps c.requires.1 c.requires.0 c.fill_rows.ensures)

pub add_piggybacks-requires : goal.add_piggybacks-requires
add_piggybacks-requires c =
    let ps = c.fill_rows.new.out in
    let same : length ps ≡ length c.args.out.now = search rules in (
      ap (encode_refusal c.args.s (length c.args.«data».now)) same ∙ c.requires.0,
      (
        omega arith,
        rows_are c.args.s _ ps (rows_filled c.args.s _ _ ps c.requires.1 c.requires.0 c.fill_rows.ensures),
      ),
    )

pub returns : goal.returns
returns c =
    let qs = c.add_piggybacks.new.out in
    let same : length qs ≡ length c.args.out.now = search rules in
    prepared_exact c.args.s _ c.args.out.now qs c.requires.0 same c.add_piggybacks.ensures
