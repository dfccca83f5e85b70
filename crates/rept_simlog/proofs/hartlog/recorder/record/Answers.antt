use Rattle.std.proofs.Common.{◌≡◌, List, sym, ◌∙◌, ap, subst}
use Rattle.std.proofs.lemmas.Result.{IfErr-weaker}
use Rattle.rept_path.specs.Code.{Code}
use Rattle.rept_simlog.specs.Lines.{last_entries}
use Rattle.rept_simlog.specs.Program.{program_of, built}
use Rattle.rept_simlog.specs.declared.hartlog.log.HartLogLine.{HartLogLine}
use Rattle.rept_simlog.specs.Hartlog.Log.{AreLines}
use Rattle.rept_simlog.specs.Hartlog.Recorded.{IsNotRecorded}
use Rattle.rept_simlog.proofs.HartlogLemmas.Lines.{last_lines}
use Rattle.rept_simlog.proofs.HartlogLemmas.Recording.{stopped}
use Rattle.rept_simlog.proofs.hartlog.recorder.record.Goals as goal

pub returns-in-Err-clause-err : goal.returns-in-Err-clause-err
returns-in-Err-clause-err c = c.refusal_of.ensures c.args.exe.now c.args.log.now c.in-Err.ensures.err

pub record_entries-requires-clause-lines : goal.record_entries-requires-clause-lines
record_entries-requires-clause-lines c =
    let last : c.last_entries.result.now ≡ last_entries c.in-Ok.log.entries.items = c.last_entries.ensures.last ∙ ap (last_entries {E = HartLogLine}) c.as_slice.ensures.value in
    subst AreLines (sym last) (last_lines c.args.log.now c.in-Ok.log.entries.items c.requires c.in-Ok.ensures.entries)

pub returns-clause-err : goal.returns-clause-err
returns-clause-err c =
    let code : program_of c.in-Ok.log.program ≡ built c.args.exe.now = c.in-Ok.ensures.code in
    let last : c.last_entries.result.now ≡ last_entries c.in-Ok.log.entries.items = c.last_entries.ensures.last ∙ ap (last_entries {E = HartLogLine}) c.as_slice.ensures.value in
    IfErr-weaker c.record_entries.result _ _ (λ refusal h. stopped c.args.exe.now c.args.log.now c.in-Ok.log.entries.items refusal c.in-Ok.ensures.entries (subst (λ (es : List HartLogLine). IsNotRecorded (built c.args.exe.now) es refusal) last (subst (λ (code : Code). IsNotRecorded code c.last_entries.result.now refusal) code h))) c.record_entries.ensures.err
