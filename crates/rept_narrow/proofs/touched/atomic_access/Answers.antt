use Rattle.std.proofs.Common.{◌≡◌, ◌≤◌, ◌<◌, ◌^◌, ◌+◌, ℕ, length, refl, arith}
use Rattle.rept_havoc.specs.Havoc.{Lies}
use Rattle.rept_narrow.proofs.Sentences.{inside_rows}
use Rattle.rept_narrow.proofs.Touching.{lies, at_base, atomic_hit, first_part}
use Rattle.rept_alias.specs.Accesses.{hits}
use Rattle.rept_narrow.proofs.touched.atomic_access.Goals as goal

pub returns : goal.returns
returns c = λ story run row a at form h w.
    let inside = inside_rows story.rows c.args.index row at in
    let le : c.args.index ≤ length story.rows = omega (arith, inside) in
    let within : Lies ((run c.args.index).register c.args.rs1) c.range-base.result = lies story run c.args.table.now c.args.index c.args.rs1 c.args.rs1 c.at.result c.range-base.result refl c.at.ensures.value c.range-base.ensures h le in
    let small : (run c.args.index).register c.args.rs1 < 2 ^ 32 = (h.admitted.execution.states c.args.index le).words c.args.rs1 in
    first_part (hits c.access.result a) (atomic_hit row.instr story.image_end (run c.args.index) (run (c.args.index + 1)) a c.args.rs1 c.access.result form w (at_base c.access.result c.range-base.result.lo c.range-base.result.hi ((run c.args.index).register c.args.rs1) c.access.ensures.covers small within))
