use Rattle.std.proofs.Common.{◌≤◌, List, sym, subst, arith}
use Rattle.rept_isa.specs.declared.instr.Instr.{Instr}
use Rattle.rept_steps.specs.declared.threads.ThreadRows.{ThreadRows}
use Rattle.test_kit.specs.declared.threads.turns.turn.Turn.{Turn}
use Rattle.test_kit.specs.Threads.Turns.Turns.{rows_in}
use Rattle.test_kit.specs.Threads.Play.Code.{IsPlayCode}
use Rattle.test_kit.specs.Threads.Maderuns.Harts.{HaveRows}
use Rattle.test_kit.proofs.ThreadsLemmas.MaderunsLemmas.Saving.{few_rows, have_rows, harts_count, harts_sendable, made_run}
use Rattle.test_kit.proofs.ThreadsLemmas.MaderunsLemmas.Telling.{is_told}
use Rattle.test_kit.proofs.threads.maderuns.made.save.Goals as goal

pub words_of-requires : goal.words_of-requires
words_of-requires c = subst (λ (is : List Instr). IsPlayCode is) (sym c.as_slice.ensures.value) c.requires.made.playable.slots

pub core_file-requires : goal.core_file-requires
core_file-requires c = λ t. subst (λ (ts : List Turn). rows_in t ts ≤ 65536) (sym c.as_slice-turns.ensures.value) (few_rows c.args.seed c.args.sizes c.args.made c.requires.made t)

pub harts_of-requires : goal.harts_of-requires
harts_of-requires c =
    subst (λ (ts : List Turn). HaveRows c.all.result.now ts) (sym c.as_slice-turns.ensures.value)
    (subst (λ (threads : List ThreadRows). HaveRows threads c.args.made.turns.items) (sym c.all.ensures) (have_rows c.args.seed c.args.sizes c.args.made c.requires.made))

pub trace_of-requires-clause-some : goal.trace_of-requires-clause-some
trace_of-requires-clause-some c =
    let count = harts_count c.args.seed c.args.sizes c.args.made c.requires.made c.all.result.now c.as_slice-turns.result.now c.in_ok-harts.harts c.all.ensures c.as_slice-turns.ensures.value c.in_ok-harts.ensures in
    omega (arith, count, c.requires.streams)

pub trace_of-requires-clause-few : goal.trace_of-requires-clause-few
trace_of-requires-clause-few c =
    let count = harts_count c.args.seed c.args.sizes c.args.made c.requires.made c.all.result.now c.as_slice-turns.result.now c.in_ok-harts.harts c.all.ensures c.as_slice-turns.ensures.value c.in_ok-harts.ensures in
    omega (arith, count, c.requires.few)

pub trace_of-requires-clause-sendable : goal.trace_of-requires-clause-sendable
trace_of-requires-clause-sendable c = harts_sendable c.args.seed c.args.sizes c.args.made c.requires.made c.all.result.now c.as_slice-turns.result.now c.in_ok-harts.harts c.all.ensures c.as_slice-turns.ensures.value c.in_ok-harts.ensures

pub returns-clause-told : goal.returns-clause-told
returns-clause-told c =
    let run = made_run c.args.seed c.args.sizes c.args.made c.requires.made c.all.result.now c.as_slice-turns.result.now c.in_ok-harts.harts c.all.ensures c.as_slice-turns.ensures.value c.in_ok-harts.ensures
    c.as_slice.result.now c.in_ok-words.words.items c.as_slice-2.result.now c.as_slice-3.result.now c.in_ok-exe.exe c.in_ok-core.core c.in_ok-trace.trace c.as_slice.ensures.value c.in_ok-words.ensures
    c.as_slice-2.ensures.value c.in_ok-exe.ensures c.as_slice-3.ensures.value c.in_ok-core.ensures c.in_ok-trace.ensures in
    is_told c.args.seed c.args.sizes (record { made = c.args.made; exe = c.in_ok-exe.exe; core = c.in_ok-core.core; trace = c.in_ok-trace.trace }) run c.requires.turns c.are_words.ensures c.runs_are_whole.ensures
