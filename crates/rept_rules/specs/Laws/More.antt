-- Where more is known, no less is concluded; bytes are bytes.
use Rattle.std.proofs.Common.{◌≡◌, ℕ, ◌<◌, ◌^◌, refl, sym, subst, ◌∙◌, arith, Some}
use Rattle.std.specs.List.{Contains}
use Rattle.rept_isa.specs.declared.row.StepRow.{StepRow}
use Rattle.rept_machine.specs.Arithmetic.{byte_of}
use Rattle.rept_reason.specs.declared.fact.Cell.{Cell}
use Rattle.rept_reason.specs.declared.fact.Cell.TheVariants.{Register, Byte}
use Rattle.rept_reason.specs.declared.view.inferred.When.{When}
use Rattle.rept_reason.specs.declared.view.inferred.When.TheVariants.{Before, After}
use Rattle.rept_reason.specs.declared.view.inferred.Conclusion.{Conclusion}
use Rattle.rept_reason.specs.View.Seen.{Seen, IsLawful, KnowsMore, seen_cell}
use Rattle.rept_reason.specs.View.Rules.{Fits}
use Rattle.rept_rules.specs.Conclusions.{ConcludesByRow, on_byte, IsOnRegister}
use Rattle.rept_rules.specs.Conclusions as rules
use Rattle.rept_rules.specs.Listing.{conclusions}
use Rattle.rept_rules.specs.Laws.Listed.{listed, concluded}
use Rattle.rept_rules.specs.Laws.NeedLemmas.{good_by, again_by}
use Rattle.rept_rules.specs.Laws.Own.{not_byte}

more_cell : (s t : Seen) (when : When) (c : Cell) (v : ℕ) → KnowsMore s t → seen_cell s when c ≡ Some v → seen_cell t when c ≡ seen_cell s when c
more_cell s t when (Register r) v more e = more.register when r v e ∙ sym e
more_cell s t when (Byte a) v more e = more.byte when a v e ∙ sym e

-- what was concluded is concluded again
pub again_more : (row : StepRow) (s t : Seen) (d : Conclusion) → IsLawful s → IsLawful t → KnowsMore s t → Contains (conclusions row s) d → Contains (conclusions row t) d
again_more row s t d ls lt more has =
    let c = listed row s d has in
    concluded row t d (again_by row s t d ls lt (λ n needed. let g = good_by row s d c n needed in more_cell s t n.when n.cell g.value more g.is_known) c)

pub byte_small : (v k : ℕ) → byte_of v k < 2 ^ 8
byte_small v k = omega arith

byte_value : (d : Conclusion) (rule : ℕ) (when : When) (base v k : ℕ) → d ≡ on_byte rule when base v k → d.value < 2 ^ 8
byte_value d rule when base v k e = subst (λ (x : Conclusion). x.value < 2 ^ 8) (sym e) (byte_small v k)

small_by : (row : StepRow) (s : Seen) (d : Conclusion) (a : ℕ) → d.cell ≡ Byte a → ConcludesByRow row s d → d.value < 2 ^ 8
small_by row s d a e (rules.result rd v named value says) = absurd (not_byte d 7 After rd v a says e)
small_by row s d a e (rules.load op rd rs1 imm b memory is base bytes says) = absurd (not_byte d 8 After rd _ a says e)
small_by row s d a e (rules.store op rs1 rs2 imm b v k is base value below f) = byte_value d 9 After _ v k f
small_by row s d a e (rules.solved rule rd r v w side by named read value solved says) = absurd (not_byte d rule Before r w a says e)
small_by row s d a e (rules.equal_second op rs1 rs2 imm v is way value says) = absurd (not_byte d 14 Before rs2 v a says e)
small_by row s d a e (rules.equal_first op rs1 rs2 imm v is way value says) = absurd (not_byte d 14 Before rs1 v a says e)
small_by row s d a e (rules.load_back op rd rs1 imm b v k is named base value below f) = byte_value d 15 Before _ v k f
small_by row s d a e (rules.store_back rs1 rs2 imm b memory is base bytes says) = absurd (not_byte d 16 Before rs2 _ a says e)
small_by row s d a e (rules.copy rd source v named from value says) = absurd (not_byte d 18 After rd v a says e)
small_by row s d a e (rules.copy_back rd source v named from value says) = absurd (not_byte d 18 Before source v a says e)

-- a conclusion on a byte is below 2 ^ 8
pub small_bytes : (row : StepRow) (s : Seen) (d : Conclusion) (a : ℕ) → Contains (conclusions row s) d → d.cell ≡ Byte a → d.value < 2 ^ 8
small_bytes row s d a has e = small_by row s d a e (listed row s d has)

pub fits_if : (c : Cell) (v : ℕ) → ((a : ℕ) → c ≡ Byte a → v < 2 ^ 8) → Fits c v
fits_if (Register r) v small = search
fits_if (Byte a) v small = small a refl

-- so it fits its cell
pub fits_by : (row : StepRow) (s : Seen) (d : Conclusion) → Contains (conclusions row s) d → Fits d.cell d.value
fits_by row s d has = fits_if d.cell d.value (λ a on. small_bytes row s d a has on)
