use Rattle.std.proofs.Common.{◌≡◌, ◌⊎◌, ◌+◌, List, Ok, Err, get_or, map, drop, subst}
use Rattle.std.proofs.lemmas.List.{at_drop_all, get_or_default}
use Rattle.rept_path.specs.declared.fault.PathFault.TheVariants.{OutOfMemory}
use Rattle.rept_streams.specs.Slices.Joins.{ThreadGround, ThreadNote, join, of_thread, threads}
use Rattle.rept_streams.specs.Threads.Joining.{ground_of}
use Rattle.rept_streams.specs.Threads.Notes.{known_by}
use Rattle.rept_streams.specs.declared.threads.notes.KeptNote.{KeptNote}
use Rattle.rept_streams.proofs.ThreadsLemmas.Joinery.{Left, one_thread, one_thread_fails, all_threads, asked_thread, same_ending, goes_on, note_left}
use Rattle.rept_streams.proofs.threads.joins.Joins.threads.Goals as goal

pub thread-requires-clause-ran : goal.thread-requires-clause-ran
thread-requires-clause-ran c =
    let q = c.requires.ran in
    let note : KeptNote = get_or c.args.notes.now c.loop-note.note-index (record { process = 0; pc = 0 }) in
    let process = note.process in
    (of_thread process q.0, asked_thread c.args.self.now c.loop-note.self c.loop-note.self.count _ _ (of_thread process q.0) c.loop-note.invariant.1 c.slices_of-own.ensures (q.1 process), q.2 process)

pub returns-in-Err-clause-err : goal.returns-in-Err-clause-err
returns-in-Err-clause-err c = λ rs a.
    let j = c.args.self.now in
    let note : KeptNote = get_or c.args.notes.now c.loop-note.note-index (record { process = 0; pc = 0 }) in
    let at = get_or_default c.args.notes.now c.loop-note.note-index (record { process = 0; pc = 0 }) note c.loop-note-test.true in
    let g = c.loop-note.invariant.1 in
    let f = c.in-Err.fault in
    let left = subst (λ (ns : List ThreadNote). Left (ground_of j) rs (threads (ground_of j) j.count (map known_by c.args.notes.now) rs) c.loop-note.threads c.loop-note.self.count ns) (note_left c.args.notes.now c.loop-note.note-index note c.loop-note-test.true at) (c.loop-note.invariant.0 rs a) in
    let h = c.in-Err.ensures.err (of_thread note.process rs) (asked_thread j c.loop-note.self c.loop-note.self.count _ _ (of_thread note.process rs) g c.slices_of-own.ensures (a note.process)) in
    one_thread_fails (ground_of j) rs (threads (ground_of j) j.count (map known_by c.args.notes.now) rs) c.loop-note.threads c.loop-note.self.count (known_by note) (map known_by (drop (c.loop-note.note-index + 1) c.args.notes.now)) f left
    (subst (λ (e : ThreadGround). (f ≡ OutOfMemory) ⊎ (join e c.loop-note.self.count (of_thread note.process rs) ≡ Err f)) (same_ending j c.loop-note.self c.loop-note.self.count note.pc g) h)

pub loop-note-preserved : goal.loop-note-preserved
loop-note-preserved c =
    let j = c.args.self.now in
    let note : KeptNote = get_or c.args.notes.now c.loop-note.note-index (record { process = 0; pc = 0 }) in
    let at = get_or_default c.args.notes.now c.loop-note.note-index (record { process = 0; pc = 0 }) note c.loop-note-test.true in
    let g = c.loop-note.invariant.1 in
    let q = c.requires.ran in
    let there = c.in-Ok.ensures.ok (of_thread note.process q.0) (asked_thread j c.loop-note.self c.loop-note.self.count _ _ (of_thread note.process q.0) g c.slices_of-own.ensures (q.1 note.process)) in (
      (λ rs a.
          let left = subst (λ (ns : List ThreadNote). Left (ground_of j) rs (threads (ground_of j) j.count (map known_by c.args.notes.now) rs) c.loop-note.threads c.loop-note.self.count ns) (note_left c.args.notes.now c.loop-note.note-index note c.loop-note-test.true at) (c.loop-note.invariant.0 rs a) in
          let h = c.in-Ok.ensures.ok (of_thread note.process rs) (asked_thread j c.loop-note.self c.loop-note.self.count _ _ (of_thread note.process rs) g c.slices_of-own.ensures (a note.process)) in
          let joined = subst (λ (e : ThreadGround). join e c.loop-note.self.count (of_thread note.process rs) ≡ Ok h.0) (same_ending j c.loop-note.self c.loop-note.self.count note.pc g) h.1 in
          let new = one_thread (ground_of j) rs (threads (ground_of j) j.count (map known_by c.args.notes.now) rs) c.loop-note.threads c.loop-note.self.count c.thread.new.self.count (known_by note) (map known_by (drop (c.loop-note.note-index + 1) c.args.notes.now)) h.0 left joined h.3.count in
          rw c.in_default.ensures.ok (rw h.2 new)),
      goes_on j c.loop-note.self c.thread.new.self c.loop-note.self.count _ g there.3,
      there.4,
    )

pub returns-clause-ok : goal.returns-clause-ok
returns-clause-ok c = λ rs a.
    let j = c.args.self.now in
    let none = at_drop_all (map known_by) c.args.notes.now c.loop-note.note-index c.loop-note-test.false in
    all_threads (ground_of j) rs (threads (ground_of j) j.count (map known_by c.args.notes.now) rs) c.loop-note.threads c.loop-note.self.count
    (subst (λ (ns : List ThreadNote). Left (ground_of j) rs (threads (ground_of j) j.count (map known_by c.args.notes.now) rs) c.loop-note.threads c.loop-note.self.count ns) none (c.loop-note.invariant.0 rs a))
