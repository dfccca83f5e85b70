use Rattle.std.proofs.Common.{◌≡◌, ◌∙◌, ap, w32, FitsSigned, ℕ, min}
use Rattle.std.proofs.lemmas.Int.{to_z-of_z}
use Rattle.std.proofs.lemmas.Result.{IfOk-weaker}
use Rattle.rept_isa.specs.Numbers.{plus}
use Rattle.rept_isa.specs.Operands.{first_read}
use Rattle.rept_log.specs.Fronts.{basis_of, front_of, seen_in}
use Rattle.rept_log.specs.RowBytes.{base_seen, bytes_from, bytes_from_base}
use Rattle.rept_log.proofs.RowReading.{bytes_by}
use Rattle.rept_log.proofs.front.Front.row_bytes.Goals as goal

pub returns-in-Some : goal.returns-in-Some
returns-in-Some g c =
    let s = seen_in (front_of g.W.Partial.sets g.W.Transfer.moves g.R.RowRules.rules (basis_of c.args.self.now)) c.args.i in
    let fits : FitsSigned w32 c.offset_of.result = record { sfits = c.offset_of.type_inv } in
    let first : c.plus-first.result ≡ plus c.in-Some.base c.offset_of.result = rw (to_z-of_z w32 c.offset_of.result fits) at c.plus-first.ensures in
    let at = first ∙ ap (plus c.in-Some.base) c.offset_of.ensures in
    let many = c.min-count.ensures ∙ ap (λ (n : ℕ). min n 4) c.places.ensures.value in
    IfOk-weaker c.bytes_from.result
    (λ v. v.items ≡ bytes_from s c.plus-first.result c.min-count.result)
    (λ v. v.items ≡ bytes_from_base g.R.RowRules.rules c.args.row.now s (base_seen (first_read c.args.row.now.instr) s))
    (λ v h. h ∙ bytes_by g.R.RowRules.rules c.args.row.now s c.in-Some.base c.plus-first.result c.min-count.result (base_seen (first_read c.args.row.now.instr) s) at many c.in-Some.ensures)
    c.bytes_from.ensures
