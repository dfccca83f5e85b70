use Rattle.std.proofs.Common.{◌-◌}
use Rattle.rept_ports.specs.Port.{Port, move}
use Rattle.rept_remote.specs.Reading.{most_input}
use Rattle.rept_findings.specs.Shown.{session_told}
use Rattle.rept_stub.specs.Standing.{IsStandLawful}
use Rattle.rept_debug.specs.Dialog.Converse.{parties_over, rules_of}
use Rattle.rept_debug.specs.Dialog.Greeting.{Awaits}
use Rattle.rept_debug.proofs.dialog.conversation.answer_on.Given as goal

abbrev pub invariant-dialog : goal.invariant-dialog
invariant-dialog g l =
    let source = g.S.Source.port in
    let sink = g.K.Sink.port in
    let shown = g.F.Findings.shown in
    let reasons = g.F.Findings.reasons in
    let rules = rules_of (parties_over (session_told (shown l.findings) l.setting.skipped (reasons l.findings)) l.setting) in
    record {
      within : IsStandLawful (shown l.findings) l.dialog.stand;
      waits : (input output : Port) → Awaits rules (move input (source l.fn.input)) (move output (sink l.fn.out)) l.fn.waiting.dialog l.fn.waiting.packets l.fn.waiting.arrival → Awaits rules (move input (source l.input)) (move output (sink l.out)) l.dialog l.packets l.arrival;
    }

abbrev pub decreases-dialog : goal.decreases-dialog
decreases-dialog g l = most_input - l.packets.count
