use Rattle.std.proofs.Common.{ℕ, List, subst}
use Rattle.rept_simlog.specs.Recording.Logs.{IsRecordedLog, IsRefusedLog}
use Rattle.rept_simlog.proofs.RecordingLemmas.Working.{told, there}
use Rattle.rept_simlog.proofs.recording.work.trace_of.Goals as goal

pub returns-in-Ok-record-clause-ok : goal.returns-in-Ok-record-clause-ok
returns-in-Ok-record-clause-ok g c =
    let held : IsRecordedLog c.in-Ok.exe.items c.in-Ok-read_all.log.items c.in-Ok-record.trace = subst (λ (e : List ℕ). IsRecordedLog e c.in-Ok-read_all.log.items c.in-Ok-record.trace) c.as_slice.ensures.value (subst (λ (l : List ℕ). IsRecordedLog c.as_slice.result.now l c.in-Ok-record.trace) c.as_slice-2.ensures.value c.in-Ok-record.ensures.ok) in
    record {
      loaded = record { calm = c.in-Ok.ensures.loads.calm; file = there (g.H.FileStore.port c.args.file_store.now).files c.args.name.now c.in-Ok.exe.items c.in-Ok.ensures.bytes c.in-Ok.ensures.within };
      input_calm = c.in-Ok-read_all.ensures.calm;
      hold = told (λ exe log. IsRecordedLog exe log c.in-Ok-record.trace) (g.H.FileStore.port c.args.file_store.now).files c.args.name.now c.in-Ok.exe.items c.in-Ok-read_all.log.items (g.S.Source.port c.args.input.now).bytes (g.S.Source.port c.read_all.new.input).bytes c.in-Ok.ensures.bytes c.in-Ok.ensures.within c.in-Ok-read_all.ensures.bytes c.in-Ok-read_all.ensures.all c.in-Ok-read_all.ensures.within held;
    }

pub returns-clause-err : goal.returns-clause-err
returns-clause-err g c =
    let held : IsRefusedLog c.in-Ok.exe.items c.in-Ok-read_all.log.items c.in-Err-record.refusal = subst (λ (e : List ℕ). IsRefusedLog e c.in-Ok-read_all.log.items c.in-Err-record.refusal) c.as_slice.ensures.value (subst (λ (l : List ℕ). IsRefusedLog c.as_slice.result.now l c.in-Err-record.refusal) c.as_slice-2.ensures.value c.in-Err-record.ensures.err) in
    record {
      loaded = record { calm = c.in-Ok.ensures.loads.calm; file = there (g.H.FileStore.port c.args.file_store.now).files c.args.name.now c.in-Ok.exe.items c.in-Ok.ensures.bytes c.in-Ok.ensures.within };
      input_calm = c.in-Ok-read_all.ensures.calm;
      hold = told (λ exe log. IsRefusedLog exe log c.in-Err-record.refusal) (g.H.FileStore.port c.args.file_store.now).files c.args.name.now c.in-Ok.exe.items c.in-Ok-read_all.log.items (g.S.Source.port c.args.input.now).bytes (g.S.Source.port c.read_all.new.input).bytes c.in-Ok.ensures.bytes c.in-Ok.ensures.within c.in-Ok-read_all.ensures.bytes c.in-Ok-read_all.ensures.all c.in-Ok-read_all.ensures.within held;
    }
