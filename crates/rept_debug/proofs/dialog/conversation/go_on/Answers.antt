use Rattle.std.proofs.Common.{◌≡◌, Ok, Err, Result, sym, subst, ◌∙◌}
use Rattle.rept_ports.specs.Port.{move}
use Rattle.rept_remote.specs.Reading.{PacketReader}
use Rattle.rept_remote.specs.declared.arrival.Arrival.{Arrival}
use Rattle.rept_findings.specs.Shown.{session_told}
use Rattle.rept_debug.specs.Dialog.Greeting.{Awaits, GreetsUpTo, early_rules}
use Rattle.rept_debug.specs.declared.dialog.conversation.SessionEnd.{SessionEnd}
use Rattle.rept_debug.proofs.DialogLemmas.Early.{full_arrival, full_awaits, full_end}
use Rattle.rept_debug.proofs.dialog.conversation.go_on.Goals as goal

pub returns-in-Err : goal.returns-in-Err
returns-in-Err g c = record {
  talk = λ input output h.
      let source = move input (g.S.Source.port c.args.input.now) in
      let sink = move output (g.K.Sink.port c.args.out.now) in
      full_end (session_told (g.F.Findings.shown c.args.findings.now) c.args.setting.skipped (g.F.Findings.reasons c.args.findings.now)) c.args.setting source sink c.in-Err.end
      (subst (λ (next : Result Arrival SessionEnd). GreetsUpTo source sink c.args.greeting.now next) c.in-Err.is h);
}

pub returns-in-Err-begin : goal.returns-in-Err-begin
returns-in-Err-begin g c = record {
  talk = λ input output h.
      let source = move input (g.S.Source.port c.args.input.now) in
      let sink = move output (g.K.Sink.port c.args.out.now) in
      let waits = subst (λ (next : Result Arrival SessionEnd). GreetsUpTo source sink c.args.greeting.now next) c.in-Ok.is h in
      full_arrival (session_told (g.F.Findings.shown c.args.findings.now) c.args.setting.skipped (g.F.Findings.reasons c.args.findings.now)) c.args.setting source sink waits.0.arrival;
}

pub returns : goal.returns
returns g c = record {
  talk = λ input output h.
      let source = move input (g.S.Source.port c.args.input.now) in
      let sink = move output (g.K.Sink.port c.args.out.now) in
      let waits = subst (λ (next : Result Arrival SessionEnd). GreetsUpTo source sink c.args.greeting.now next) c.in-Ok.is h in
      c.answer_on.ensures.talk input output
      (full_awaits (session_told (g.F.Findings.shown c.args.findings.now) c.args.setting.skipped (g.F.Findings.reasons c.args.findings.now)) c.args.setting source sink c.args.greeting.now.dialog _ c.in-Ok.arrival c.in-Ok-begin.dialog c.in-Ok-begin.ensures.dialog
      (subst (λ (packets : PacketReader). Awaits early_rules source sink c.args.greeting.now.dialog packets c.in-Ok.arrival) (sym c.replace-packets.ensures.value) waits.0));
}
