-- `two_more` meets its contract: rows 0 and 1 take one column after the other, row 2 takes both.
use Prim.Native.Nat.{ℕ}
use mathlib.Core.Path.{ap, ◌∙◌}
use mathlib.Core.List.{List}
use Rattle.field.specs.Field.{◌⊕◌, ◌⊗◌}
use Rattle.lanes.specs.Lanes.{onto}
use Rattle.rows.proofs.two_more.Goals as goal

pub returns : goal.returns
returns c = let add = c.add in
    let a = c.args in
    record {
      row0_after = c.add-2.ensures ∙ ap (λ (z : List ℕ). onto (λ (x y : ℕ). x ⊕ y) z a.f.now) add.ensures;
      row1_after = c.double_add-2.ensures
          ∙ ap (λ (z : List ℕ). onto (λ (x y : ℕ). 2 ⊗ x ⊕ y) z a.f.now) c.double_add.ensures;
      row2_after = c.quadruple_add_two.ensures;
    }
