use Rattle.std.proofs.Common.{◌≡◌, ◌≤◌, length, ◌∙◌, arith}
use Rattle.rept_narrow.specs.Sweeps.{memory_of}
use Rattle.rept_narrow.proofs.Sentences.{inside_rows}
use Rattle.rept_infer.proofs.Carrying.{stays_on}
use Rattle.rept_infer.proofs.sweeping.cross_on.Goals as goal

pub returns-clause-holds : goal.returns-clause-holds
returns-clause-holds g c = λ story run at h around t.
    let inside = inside_rows story.rows c.args.index c.args.row.now at in
    let here = c.requires.here in
    let le : c.args.sweep.now.point ≤ length story.rows = omega (arith, inside, here) in
    let kept = c.in_ok-let_written_go.ensures.rest story run at h le around t in
    c.go_on.ensures.holds (memory_of run) (stays_on story run c.args.index c.args.row.now c.let_written_go.new.sweep at h.admitted (c.let_written_go.ensures.point ∙ here) kept) (c.in_ok-let_written_go.ensures.holds story run t)
