-- One row or two.
use Rattle.std.specs.Prelude.{◌≡◌, ℕ, List, [], ◌∷◌, Option, Some, None}
use Rattle.rept_isa.specs.declared.row.StepRow.{StepRow}

-- newest first
abbrev pub rows_of : StepRow → Option StepRow → List StepRow
rows_of first None = first ∷ []
rows_of first (Some second) = second ∷ first ∷ []

-- They lead from an address to another.
abbrev pub LeadAcross : ℕ → ℕ → StepRow → Option StepRow → Type 0
LeadAcross at to first None = (first.at ≡ at) × (first.next ≡ to)
LeadAcross at to first (Some second) = (first.at ≡ at) × (first.next ≡ second.at) × (second.next ≡ to)
