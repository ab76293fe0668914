-- Any two outcomes that a contract of this crate allows are equal.
use mathlib.Core.Path.{◌≡◌, sym, ◌∙◌}
use contract.Lifetimes.{Lfts}
use borrow.Fn.World.{ArgsD, ResD}
use denote.Triple.Clauses.{AtExit}
use Rattle.rows.specs.contracts.fill_rows as fill-rows
use Rattle.rows.proofs.fill_rows.Reads as fill-rows-reads
use Rattle.rows.specs.contracts.add_row as add_row
use Rattle.rows.proofs.add_row.Reads as add-row-reads

pub fill_rows_unique : (κs : Lfts 2) (a : ArgsD fill-rows.signature κs) (r r' : ResD fill-rows.signature κs) (s s' : AtExit fill-rows.ended κs)
    → fill-rows-reads.Post κs a r s → fill-rows-reads.Post κs a r' s' → s.1.1.1.1.0.now ≡ s'.1.1.1.1.0.now
fill_rows_unique κs a r r' s s' p q = p ∙ sym q

pub add_row_unique : (κs : Lfts 2) (a : ArgsD add_row.signature κs) (r r' : ResD add_row.signature κs) (s s' : AtExit add_row.ended κs)
    → add-row-reads.Post κs a r s → add-row-reads.Post κs a r' s' → s.1.1.1.1.1.0.now ≡ s'.1.1.1.1.1.0.now
add_row_unique κs a r r' s s' p q = p ∙ sym q
