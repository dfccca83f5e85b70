use Rattle.std.proofs.Common.{◌++◌, ◌∷◌, ◌∙◌, [], List, ap, map, sym, take}
use Rattle.rept_path.specs.Program.{code_of}
use Rattle.rept_steps.specs.declared.threads.ThreadRows.{ThreadRows}
use Rattle.rept_streams.specs.declared.threads.notes.KeptNote.{KeptNote}
use Rattle.rept_streams.specs.Runs.Calls.{with_calls}
use Rattle.rept_streams.proofs.RunsLemmas.Adding.{calls_more, thread_there}
use Rattle.rept_streams.proofs.runs.calls.with_calls.Goals as goal

pub loop-t-preserved : goal.loop-t-preserved
loop-t-preserved c = λ takes same.
    let ns = c.args.notes.now in
    let old = c.args.old.now in
    let i = c.loop-t.t in
    let th = c.index-old-t.result in
    let there = thread_there old i th c.loop-t-test.true c.index-old-t.is in
    let own = c.in_ok-thread.ensures.ok (takes i th there) in
    let more = calls_more (code_of c.args.program.now) ns old i th c.pc_at.result c.loop-t-test.true c.index-old-t.is same c.pc_at.ensures in
    let before = with_calls (code_of c.args.program.now) (map (λ (n : KeptNote). n.pc) (take i ns)) (take i old) in
    c.in_default.ensures.ok ∙ ap (λ (xs : List ThreadRows). xs ++ c.in_ok-thread.thread ∷ []) (c.loop-t.invariant takes same) ∙ ap (λ (x : ThreadRows). before ++ x ∷ []) own ∙ sym more
