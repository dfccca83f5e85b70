-- Two views that have the same of a row's own cells let the same be concluded from it, by the same
-- needs.
use Rattle.std.proofs.Common.{ℕ, inl, sym, ◌∙◌}
use Rattle.std.specs.List.{Contains}
use Rattle.rept_isa.specs.declared.row.StepRow.{StepRow}
use Rattle.rept_reason.specs.declared.fact.Cell.{Cell}
use Rattle.rept_reason.specs.declared.fact.Cell.TheVariants.{Register, Byte}
use Rattle.rept_reason.specs.declared.view.inferred.When.{When}
use Rattle.rept_reason.specs.declared.view.inferred.When.TheVariants.{Before, After}
use Rattle.rept_reason.specs.declared.view.inferred.Conclusion.{Conclusion}
use Rattle.rept_reason.specs.View.Seen.{Seen, IsLawful}
use Rattle.rept_reason.specs.View.Rules.{Rules, AreLawfulRules, IsRowCell, IsRowByte, HasSameCells}

module _ (rules : Rules) (row : StepRow) where
  -- the row's own bytes are where its base is, and that is one of its own cells
  byte_of : (s t : Seen) (a : ℕ) → HasSameCells rules row s t → IsRowByte rules row t a → IsRowByte rules row s a
  byte_of s t a same h = record {
    base_register = h.base_register;
    base = h.base;
    k = h.k;
    read = h.read;
    base_known = sym (same Before (Register h.base_register) (inl h.read)) ∙ h.base_known;
    below_places = h.below_places;
    below_four = h.below_four;
    address = h.address;
  }

  cell_of : (s t : Seen) (w : When) (c : Cell) → HasSameCells rules row s t → IsRowCell rules row t w c → IsRowCell rules row s w c
  cell_of s t Before (Register r) same h = h
  cell_of s t After (Register r) same h = h
  cell_of s t Before (Byte a) same h = byte_of s t a same h
  cell_of s t After (Byte a) same h = byte_of s t a same h

  -- the same the other way round
  pub same_cells_back : (s t : Seen) → HasSameCells rules row s t → HasSameCells rules row t s
  same_cells_back s t same w c own = sym (same w c (cell_of s t w c same own))

  -- what one of them lets one conclude, so does the other
  pub inferred_alike : AreLawfulRules rules → (s t : Seen) (d : Conclusion) → IsLawful s → IsLawful t → HasSameCells rules row s t → Contains (rules.infer row s) d → Contains (rules.infer row t) d
  inferred_alike lawful s t d ls lt same has = lawful.needs_enough row s t d ls lt has (λ n needed. same n.when n.cell (lawful.needs_own row s d n ls has needed).0)
