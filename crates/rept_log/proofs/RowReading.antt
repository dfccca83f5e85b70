-- The bytes that a row's rules look at, from where its base is known on.
use Rattle.std.proofs.Common.{◌≡◌, ◌∙◌, ap, ℕ, Option, Some, min}
use Rattle.rept_isa.specs.declared.row.StepRow.{StepRow}
use Rattle.rept_isa.specs.Numbers.{plus}
use Rattle.rept_reason.specs.View.Rules.{Rules, offset_of}
use Rattle.rept_reason.specs.View.Seen.{Seen}
use Rattle.rept_log.specs.RowBytes.{bytes_from, bytes_from_base}

pub bytes_by : (rules : Rules) (row : StepRow) (s : Seen) (base first count : ℕ) (b : Option ℕ) → first ≡ plus base (offset_of row.instr) → count ≡ min (rules.places row) 4 → Some base ≡ b → bytes_from s first count ≡ bytes_from_base rules row s b
bytes_by rules row s base first count b at many known = ap (λ (n : ℕ). bytes_from s n count) at ∙ ap (λ (n : ℕ). bytes_from s (plus base (offset_of row.instr)) n) many ∙ ap (λ (o : Option ℕ). bytes_from_base rules row s o) known
