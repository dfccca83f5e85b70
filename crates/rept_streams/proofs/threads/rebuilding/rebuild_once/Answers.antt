use Rattle.std.proofs.Common.{◌≡◌, ◌==◌, ◌⊎◌, ◌∙◌, inl, inr, ℕ, List, Ok, Err, map, sym, subst, ap}
use Rattle.rept_path.specs.declared.fault.PathFault.TheVariants.{OutOfMemory}
use Rattle.rept_path.specs.Program.{code_of}
use Rattle.rept_dump.specs.Dump.{exe_of}
use Rattle.rept_dump.specs.Program.{contents}
use Rattle.rept_streams.specs.Slices.Checks.{first_fault}
use Rattle.rept_streams.specs.Slices.Entries.{AreEntriesOf}
use Rattle.rept_streams.specs.Threads.Joining.{AreRanInOrder}
use Rattle.rept_streams.specs.Slices.Joins.{threads}
use Rattle.rept_streams.specs.Slices.Many.{overlap_fault}
use Rattle.rept_streams.specs.Threads.Notes.{known_by}
use Rattle.std.specs.List.{filter}
use Rattle.std.specs.List.Sorted.{IsNonDecreasingBy}
use Rattle.rept_streams.specs.Slices.Order.{slices_of}
use Rattle.rept_streams.specs.Slices.Stamps.{context_of}
use Rattle.rept_streams.specs.Slices.Parts.{slices_told}
use Rattle.rept_streams.specs.Slices.Raw.{code_in, files_of}
use Rattle.rept_streams.specs.Slices.Skipping.{kept}
use Rattle.rept_streams.specs.Slices.Stretches.{ran}
use Rattle.rept_streams.specs.declared.threads.notes.KeptNote.{KeptNote}
use Rattle.rept_streams.specs.declared.threads.walks.Walked.{Walked}
use Rattle.rept_streams.proofs.ThreadsLemmas.Turning.{keeps_turn}
use Rattle.rept_streams.proofs.ThreadsLemmas.Apting.{apt_of}
use Rattle.rept_streams.proofs.ThreadsLemmas.Chaining.{thread_chained, all_chained}
use Rattle.rept_streams.proofs.ThreadsLemmas.Walking.{all_gathered}
use Rattle.rept_streams.proofs.ThreadsLemmas.Joinery.{ran_in_order, told_in_order, told_again}
use Rattle.rept_streams.proofs.ThreadsLemmas.Wholes.{Parts, some_stream, untraced_is, no_walk, no_turn, no_join, has_run, refused_before}
use Rattle.rept_streams.proofs.threads.rebuilding.rebuild_once.Goals as goal

pub returns-in-Err-clause-err : goal.returns-in-Err-clause-err
returns-in-Err-clause-err c = λ descs h e.
    let notes = c.in_ok-notes.notes.items in
    let processes = c.deref-2.result.now in
    let processes_is : processes ≡ map (λ (n : KeptNote). n.process) notes = c.deref-2.ensures.value ∙ c.in_ok-processes.ensures.ok ∙ ap (map (λ (n : KeptNote). n.process)) c.deref.ensures.value in
    elim c.in-Err.ensures.err [
      | inl m ↦ inl m
      | inr r ↦ inr (refused_before c.args.dump.now c.args.streams descs c.args.from processes notes c.in-Err.fault (c.in_ok-notes.ensures.ok descs h e) processes_is r)
    ]

pub returns-in-Err-walk_all-clause-err : goal.returns-in-Err-walk_all-clause-err
returns-in-Err-walk_all-clause-err c = λ descs h e.
    let notes = c.in_ok-notes.notes.items in
    let processes = c.deref-2.result.now in
    let processes_is : processes ≡ map (λ (n : KeptNote). n.process) notes = c.deref-2.ensures.value ∙ c.in_ok-processes.ensures.ok ∙ ap (map (λ (n : KeptNote). n.process)) c.deref.ensures.value in
    let s = c.in-Ok.ensures.ok in
    let lists = s.0 in
    let ts = slices_told (kept c.args.from lists) in
    let parts : Parts c.args.streams descs c.args.from processes notes lists = record { passed = s.1; noted = c.in_ok-notes.ensures.ok descs h e; processes = processes_is } in
    let code_is : code_of c.new-program.result ≡ code_in (files_of c.args.dump.now c.args.streams descs c.args.from) =
    ap code_of c.new-program.ensures ∙ (λ i. record { contents = contents (exe_of c.args.dump.now); halves = c.halves_of.ensures (some_stream c.args.streams c.args.from processes lists s.1) i }) in
    let told_is : AreEntriesOf c.deref-3.result.now ts = rw c.deref-3.ensures.value s.2.slices in
    elim (c.in-Err-walk_all.ensures.err c.args.from lists told_is) [
      | inl m ↦ inl m
      | inr f ↦ inr (no_walk c.args.dump.now c.args.streams descs c.args.from processes notes lists parts (code_of c.new-program.result) c.in-Err-walk_all.fault code_is f)
    ]

pub overlap_fault-requires-clause-told : goal.overlap_fault-requires-clause-told
overlap_fault-requires-clause-told c =
    let s = c.in-Ok.ensures.ok in
    let lists = s.0 in
    let ts = slices_told (kept c.args.from lists) in
    let told_is : AreEntriesOf c.deref-3.result.now ts = rw c.deref-3.ensures.value s.2.slices in
    let w = c.in-Ok-walk_all.ensures.ok c.args.from lists told_is in
    let rs = ran (code_of c.new-program.result) ts w.0 in
    let old = c.in-Ok-walk_all.walks.slices.items in
    let new = c.put_in_order.new.slices.items in
    let all = c.in-Ok-walk_all.walks.stretches.items in
    let r = told_again all old new rs w.2.slices c.put_in_order.ensures.permutation in
    (r.0, rw c.deref-4.ensures.value r.1)

pub returns-in-Some-clause-err : goal.returns-in-Some-clause-err
returns-in-Some-clause-err c = λ descs h e.
    let notes = c.in_ok-notes.notes.items in
    let processes = c.deref-2.result.now in
    let processes_is : processes ≡ map (λ (n : KeptNote). n.process) notes = c.deref-2.ensures.value ∙ c.in_ok-processes.ensures.ok ∙ ap (map (λ (n : KeptNote). n.process)) c.deref.ensures.value in
    let s = c.in-Ok.ensures.ok in
    let lists = s.0 in
    let ts = slices_told (kept c.args.from lists) in
    let parts : Parts c.args.streams descs c.args.from processes notes lists = record { passed = s.1; noted = c.in_ok-notes.ensures.ok descs h e; processes = processes_is } in
    let code_is : code_of c.new-program.result ≡ code_in (files_of c.args.dump.now c.args.streams descs c.args.from) =
    ap code_of c.new-program.ensures ∙ (λ i. record { contents = contents (exe_of c.args.dump.now); halves = c.halves_of.ensures (some_stream c.args.streams c.args.from processes lists s.1) i }) in
    let told_is : AreEntriesOf c.deref-3.result.now ts = rw c.deref-3.ensures.value s.2.slices in
    let w = c.in-Ok-walk_all.ensures.ok c.args.from lists told_is in
    let rs = ran (code_of c.new-program.result) ts w.0 in
    let old = c.in-Ok-walk_all.walks.slices.items in
    let new = c.put_in_order.new.slices.items in
    let all = c.in-Ok-walk_all.walks.stretches.items in
    let same_processes : c.deref-5.result.now ≡ processes = c.deref-5.ensures.value ∙ sym c.deref-2.ensures.value in
    let times = told_in_order all old new rs ts w.2.slices (all_gathered (code_of c.new-program.result) c.args.from lists w.0 w.1) c.in_ok-put_in_order.ensures.times in
    let seen = subst (λ (ws : List Walked). (n : ℕ) → AreEntriesOf (map (λ (v : Walked). v.slice) (filter (λ (v : Walked). context_of v.slice.start == n) ws)) (slices_of n ts)) (sym c.deref-4.ensures.value) times in
    let found = c.overlap_fault.ensures ts seen (keeps_turn c.args.from processes lists s.1.1) ∙ ap (first_fault (overlap_fault ts)) same_processes in
    inr (no_turn c.args.dump.now c.args.streams descs c.args.from processes notes lists parts (code_of c.new-program.result) code_is w.0 w.1 c.in-Some.fault (sym c.in-Some.is ∙ found))

pub threads-requires-clause-ran : goal.threads-requires-clause-ran
threads-requires-clause-ran c =
    let s = c.in-Ok.ensures.ok in
    let lists = s.0 in
    let ts = slices_told (kept c.args.from lists) in
    let told_is : AreEntriesOf c.deref-3.result.now ts = rw c.deref-3.ensures.value s.2.slices in
    let w = c.in-Ok-walk_all.ensures.ok c.args.from lists told_is in
    let rs = ran (code_of c.new-program.result) ts w.0 in
    let old = c.in-Ok-walk_all.walks.slices.items in
    let new = c.put_in_order.new.slices.items in
    let all = c.in-Ok-walk_all.walks.stretches.items in
    let processes = c.deref-2.result.now in
    let gathered = all_gathered (code_of c.new-program.result) c.args.from lists w.0 w.1 in
    let same_processes : c.deref-5.result.now ≡ processes = c.deref-5.ensures.value ∙ sym c.deref-2.ensures.value in
    let times = told_in_order all old new rs ts w.2.slices gathered c.in_ok-put_in_order.ensures.times in
    let seen = subst (λ (ws : List Walked). (n : ℕ) → AreEntriesOf (map (λ (v : Walked). v.slice) (filter (λ (v : Walked). context_of v.slice.start == n) ws)) (slices_of n ts)) (sym c.deref-4.ensures.value) times in
    let found = c.overlap_fault.ensures ts seen (keeps_turn c.args.from processes lists s.1.1) ∙ ap (first_fault (overlap_fault ts)) same_processes in
    let none = sym found ∙ c.in_default.is in (
      rs,
      subst (λ (ws : List Walked). AreRanInOrder all ws rs) (sym c.deref-6.ensures.value) (ran_in_order all old new rs w.2.slices c.in_ok-put_in_order.ensures.times),
      (λ process. thread_chained (code_of c.new-program.result) rs ts process gathered (all_chained (code_of c.new-program.result) c.args.from lists w.0 w.1) (apt_of c.args.from processes lists process s.1.1 none)),
    )

pub returns-in-Ok-threads-clause-ok : goal.returns-in-Ok-threads-clause-ok
returns-in-Ok-threads-clause-ok c = λ descs h e.
    let notes = c.in_ok-notes.notes.items in
    let processes = c.deref-2.result.now in
    let processes_is : processes ≡ map (λ (n : KeptNote). n.process) notes = c.deref-2.ensures.value ∙ c.in_ok-processes.ensures.ok ∙ ap (map (λ (n : KeptNote). n.process)) c.deref.ensures.value in
    let s = c.in-Ok.ensures.ok in
    let lists = s.0 in
    let ts = slices_told (kept c.args.from lists) in
    let parts : Parts c.args.streams descs c.args.from processes notes lists = record { passed = s.1; noted = c.in_ok-notes.ensures.ok descs h e; processes = processes_is } in
    let code_is : code_of c.new-program.result ≡ code_in (files_of c.args.dump.now c.args.streams descs c.args.from) =
    ap code_of c.new-program.ensures ∙ (λ i. record { contents = contents (exe_of c.args.dump.now); halves = c.halves_of.ensures (some_stream c.args.streams c.args.from processes lists s.1) i }) in
    let told_is : AreEntriesOf c.deref-3.result.now ts = rw c.deref-3.ensures.value s.2.slices in
    let w = c.in-Ok-walk_all.ensures.ok c.args.from lists told_is in
    let rs = ran (code_of c.new-program.result) ts w.0 in
    let old = c.in-Ok-walk_all.walks.slices.items in
    let new = c.put_in_order.new.slices.items in
    let all = c.in-Ok-walk_all.walks.stretches.items in
    let same_processes : c.deref-5.result.now ≡ processes = c.deref-5.ensures.value ∙ sym c.deref-2.ensures.value in
    let times = told_in_order all old new rs ts w.2.slices (all_gathered (code_of c.new-program.result) c.args.from lists w.0 w.1) c.in_ok-put_in_order.ensures.times in
    let seen = subst (λ (ws : List Walked). (n : ℕ) → AreEntriesOf (map (λ (v : Walked). v.slice) (filter (λ (v : Walked). context_of v.slice.start == n) ws)) (slices_of n ts)) (sym c.deref-4.ensures.value) times in
    let found = c.overlap_fault.ensures ts seen (keeps_turn c.args.from processes lists s.1.1) ∙ ap (first_fault (overlap_fault ts)) same_processes in
    let joins = c.in-Ok-threads.ensures.ok rs (subst (λ (ws : List Walked). AreRanInOrder all ws rs) (sym c.deref-6.ensures.value) (ran_in_order all old new rs w.2.slices c.in_ok-put_in_order.ensures.times)) in
    let joined = subst (λ (ns : List KeptNote). threads (record { code = code_of c.new-program.result; packets = c.in-Ok.survey.packets }) c.in-Ok-walk_all.walks.rows (map known_by ns) rs ≡ Ok c.in-Ok-threads.threads) c.deref-7.ensures.value joins in
    has_run c.args.dump.now c.args.streams descs c.args.from processes notes lists parts (code_of c.new-program.result) code_is w.0 w.1 c.in-Ok.survey.packets c.in-Ok-walk_all.walks.rows c.in-Ok-threads.threads c.in_ok-untraced.untraced c.in-Ok.survey.skipped
    (sym c.in_default.is ∙ found) s.2.packets w.2.rows joined (untraced_is c.args.from lists c.in-Ok.survey c.in_ok-untraced.untraced s.2 (c.in_ok-untraced.ensures.ok c.args.from lists s.2.windows)) s.2.skipped

pub returns-clause-err : goal.returns-clause-err
returns-clause-err c = λ descs h e.
    let notes = c.in_ok-notes.notes.items in
    let processes = c.deref-2.result.now in
    let processes_is : processes ≡ map (λ (n : KeptNote). n.process) notes = c.deref-2.ensures.value ∙ c.in_ok-processes.ensures.ok ∙ ap (map (λ (n : KeptNote). n.process)) c.deref.ensures.value in
    let s = c.in-Ok.ensures.ok in
    let lists = s.0 in
    let ts = slices_told (kept c.args.from lists) in
    let parts : Parts c.args.streams descs c.args.from processes notes lists = record { passed = s.1; noted = c.in_ok-notes.ensures.ok descs h e; processes = processes_is } in
    let code_is : code_of c.new-program.result ≡ code_in (files_of c.args.dump.now c.args.streams descs c.args.from) =
    ap code_of c.new-program.ensures ∙ (λ i. record { contents = contents (exe_of c.args.dump.now); halves = c.halves_of.ensures (some_stream c.args.streams c.args.from processes lists s.1) i }) in
    let told_is : AreEntriesOf c.deref-3.result.now ts = rw c.deref-3.ensures.value s.2.slices in
    let w = c.in-Ok-walk_all.ensures.ok c.args.from lists told_is in
    let rs = ran (code_of c.new-program.result) ts w.0 in
    let old = c.in-Ok-walk_all.walks.slices.items in
    let new = c.put_in_order.new.slices.items in
    let all = c.in-Ok-walk_all.walks.stretches.items in
    let same_processes : c.deref-5.result.now ≡ processes = c.deref-5.ensures.value ∙ sym c.deref-2.ensures.value in
    let times = told_in_order all old new rs ts w.2.slices (all_gathered (code_of c.new-program.result) c.args.from lists w.0 w.1) c.in_ok-put_in_order.ensures.times in
    let seen = subst (λ (ws : List Walked). (n : ℕ) → AreEntriesOf (map (λ (v : Walked). v.slice) (filter (λ (v : Walked). context_of v.slice.start == n) ws)) (slices_of n ts)) (sym c.deref-4.ensures.value) times in
    let found = c.overlap_fault.ensures ts seen (keeps_turn c.args.from processes lists s.1.1) ∙ ap (first_fault (overlap_fault ts)) same_processes in
    let failed = c.in-Err-threads.ensures.err rs (subst (λ (ws : List Walked). AreRanInOrder all ws rs) (sym c.deref-6.ensures.value) (ran_in_order all old new rs w.2.slices c.in_ok-put_in_order.ensures.times)) in
    let fault = c.in-Err-threads.fault in
    let here = subst (λ (ns : List KeptNote). (fault ≡ OutOfMemory) ⊎ (threads (record { code = code_of c.new-program.result; packets = c.in-Ok.survey.packets }) c.in-Ok-walk_all.walks.rows (map known_by ns) rs ≡ Err fault)) c.deref-7.ensures.value failed in
    elim here [
      | inl m ↦ inl m
      | inr f ↦ inr (no_join c.args.dump.now c.args.streams descs c.args.from processes notes lists parts (code_of c.new-program.result) code_is w.0 w.1 c.in-Ok.survey.packets c.in-Ok-walk_all.walks.rows fault (sym c.in_default.is ∙ found) s.2.packets w.2.rows f)
    ]

pub overlap_fault-requires-clause-order : goal.overlap_fault-requires-clause-order
overlap_fault-requires-clause-order c = subst (λ (walked : List Walked). IsNonDecreasingBy (λ (w : Walked). context_of w.slice.start) walked) (sym c.deref-4.ensures.value) c.in_ok-put_in_order.ensures.processes

pub threads-requires-clause-order : goal.threads-requires-clause-order
threads-requires-clause-order c = subst (λ (walked : List Walked). IsNonDecreasingBy (λ (w : Walked). context_of w.slice.start) walked) (sym c.deref-6.ensures.value) c.in_ok-put_in_order.ensures.processes
