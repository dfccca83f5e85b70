use Rattle.std.proofs.Common.{◌≡◌, ◌∙◌, sym, length, List, ℕ, rules}
use Rattle.std.specs.Prelude.{Some}
use Rattle.std.specs.Result.{result_err}
use Rattle.rept_elf.specs.Checks.{Check, header_checks, table_checks}
use Rattle.rept_elf.specs.Segments.{segments}
use Rattle.rept_elf.specs.declared.fault.Want.{Want}
use Rattle.rept_elf.proofs.SegmentLemmas.{checks_passed, checks_failed}
use Rattle.rept_elf.proofs.image.Image.read.Goals as goal

abbrev table : Want → List ℕ → List Check
table want bytes = table_checks want (length bytes) 0 (segments bytes)

pub returns-in_err-check_header-clause-fault : goal.returns-in_err-check_header-clause-fault
returns-in_err-check_header-clause-fault c =
    let told : result_err c.from_residual.result ≡ Some c.in_err-check_header.field-0.0 = search rules in
    told ∙ sym (checks_failed (header_checks c.args.want c.args.bytes.now) (table c.args.want c.args.bytes.now) c.in_err-check_header.field-0.0 (sym c.in_err-check_header.ensures.fault))

pub returns-in_err-check_segments-clause-fault : goal.returns-in_err-check_segments-clause-fault
returns-in_err-check_segments-clause-fault c =
    let told : result_err c.from_residual-in_err-check_segments.result ≡ Some c.in_err-check_segments.field-0.0 = search rules in
    told
    ∙ c.in_err-check_segments.ensures
    ∙ sym (checks_passed (header_checks c.args.want c.args.bytes.now) (table c.args.want c.args.bytes.now) (sym c.in_ok-check_header.ensures.fault))
