use Rattle.std.proofs.Common.{◌≡◌, ◌<◌, length, Some, slice_get, sym, ap, subst, ◌∙◌, arith}
use Rattle.std.proofs.lemmas.Option.{slice_get-get_or}
use Rattle.rept_dump.specs.Dump.{exe_of}
use Rattle.rept_steps.specs.Runs.{course_of}
use Rattle.rept_timeline.specs.Ends.{thread_on}
use Rattle.rept_timeline.specs.Ends.{Ends, last_values_in}
use Rattle.rept_timeline.proofs.Enders.{thread_inside, value_there}
use Rattle.rept_timeline.proofs.ends.ThreadEnds.value.Goals as goal

pub returns : goal.returns
returns c =
    let e : Ends = record { course = course_of c.self.inside.run.now; statuses = c.self.inside.statuses.items; program = exe_of c.self.inside.dump.now } in
    let ends = c.self.invariant.0 in
    let same = c.thread_of-thread.ensures in
    let below = thread_inside e.course c.args.point c.self.invariant.1 in
    let count = ends.count in
    let inside : c.thread_of-thread.result < length e.statuses = omega (arith, same, below, count) in
    let here = slice_get-get_or e.statuses c.thread_of-thread.result c.index.result.now inside ∙ ap Some (sym c.index.ensures) in
    let at : slice_get e.statuses (thread_on e.course c.args.point) ≡ Some c.index.result.now = ap (slice_get e.statuses) (sym same) ∙ here in
    subst (λ (x : Ends). c.left_of.result ≡ last_values_in x c.args.point c.args.r) c.self.view_is (c.left_of.ensures ∙ value_there e ends c.self.invariant.1 c.args.point c.args.r c.index.result.now at)
