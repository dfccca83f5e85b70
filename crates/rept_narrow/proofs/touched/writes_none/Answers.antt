use Rattle.std.proofs.Common.{◌≡◌, ◌<◌, ◌≤◌, ◌+◌, ℕ, length, arith}
use Rattle.rept_narrow.proofs.Sentences.{inside_rows}
use Rattle.rept_narrow.proofs.Touching.{none_of_row}
use Rattle.rept_narrow.proofs.touched.writes_none.Goals as goal

pub returns-in-Amo : goal.returns-in-Amo
returns-in-Amo c = λ yes story run a at h.
    let inside = inside_rows story.rows c.args.index c.args.row.now at in
    none_of_row c.args.row.now.instr c.in-Amo.op c.in-Amo.rd c.in-Amo.rs1 c.in-Amo.rs2 story.image_end (run c.args.index) (run (c.args.index + 1)) a c.in-Amo.is (λ base. c.atomic_writes_none.ensures yes story run base a (omega (arith, inside)) h)
