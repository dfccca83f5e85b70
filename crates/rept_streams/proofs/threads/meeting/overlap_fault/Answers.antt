use Rattle.std.proofs.Common.{◌∙◌, List, get_or, sym, subst}
use Rattle.std.proofs.lemmas.List.{get_or_default}
use Rattle.rept_streams.specs.Slices.Order.{slices_of}
use Rattle.rept_streams.specs.Slices.Entries.{AreEntriesOf}
use Rattle.rept_streams.specs.declared.threads.walks.Walked.{Walked}
use Rattle.rept_streams.proofs.ThreadsLemmas.Turning.{slices_in_turn}
use Rattle.rept_streams.proofs.ThreadsLemmas.MeetLemmas.{slices_in, told_of_thread, none_here, found_here}
use Rattle.rept_streams.proofs.threads.meeting.overlap_fault.Goals as goal

pub first_met-requires : goal.first_met-requires
first_met-requires c = told_of_thread (get_or c.args.processes.now c.loop-process.process-index 0) c.args.slices.now c.of_thread.result.now c.requires.told.0 c.of_thread.ensures c.requires.told.1

pub returns-in-Some : goal.returns-in-Some
returns-in-Some c = λ ts a keeps.
    let process = get_or c.args.processes.now c.loop-process.process-index 0 in
    let at = get_or_default c.args.processes.now c.loop-process.process-index 0 process c.loop-process-test.true in
    let own : AreEntriesOf (slices_in c.of_thread.result.now) (slices_of process ts) = subst (λ (ws : List Walked). AreEntriesOf (slices_in ws) (slices_of process ts)) (sym c.of_thread.ensures) (a process) in
    let found = c.first_met.ensures (slices_of process ts) own (slices_in_turn process ts) ∙ keeps process in
    found_here ts c.args.processes.now c.loop-process.process-index process c.loop-process-test.true at c.first_met.result found c.in-Some.time c.in-Some.is (c.loop-process.invariant ts a keeps)

pub loop-process-preserved : goal.loop-process-preserved
loop-process-preserved c = λ ts a keeps.
    let process = get_or c.args.processes.now c.loop-process.process-index 0 in
    let at = get_or_default c.args.processes.now c.loop-process.process-index 0 process c.loop-process-test.true in
    let own : AreEntriesOf (slices_in c.of_thread.result.now) (slices_of process ts) = subst (λ (ws : List Walked). AreEntriesOf (slices_in ws) (slices_of process ts)) (sym c.of_thread.ensures) (a process) in
    let found = c.first_met.ensures (slices_of process ts) own (slices_in_turn process ts) ∙ keeps process in
    none_here ts c.args.processes.now c.loop-process.process-index process c.loop-process-test.true at c.first_met.result found c.in_default.is (c.loop-process.invariant ts a keeps)
