use Rattle.std.proofs.Common.{◌≡◌, None, IfSome}
use Rattle.rept_ports.specs.Lines.{to_come}
use Rattle.rept_findings.specs.Shown.{IsThreadPoint, session_told}
use Rattle.rept_session.specs.Serving.Kept.{IsKept}
use Rattle.rept_session.proofs.ServingLemmas.ServeLemmas.{SoFar}
use Rattle.rept_session.proofs.serving.serving.serve.Given as goal

abbrev pub invariant-session : goal.invariant-session
invariant-session g l =
    let source = g.S.Source.port in
    let sink = g.K.Sink.port in
    let shown = g.F.Findings.shown in
    let reasons = g.F.Findings.reasons in
    record {
      same : l.lines.source.ghost_name ≡ l.initial.lines.source.ghost_name;
      none : l.lines.fault ≡ None;
      within : IsThreadPoint (shown l.findings) l.cursor;
      kept : IfSome l.kept (IsKept (session_told (shown l.findings) l.skipped (reasons l.findings)));
      read_calm : (source l.lines.source.now).faults ≡ (source l.initial.lines.source.now).faults;
      write_calm : (sink l.out).faults ≡ (sink l.initial.out).faults;
      so_far : IfSome (source l.initial.lines.source.now).bytes (λ input. SoFar (session_told (shown l.findings) l.skipped (reasons l.findings)) input (source l.lines.source.now).bytes l.lines.intake l.cursor (sink l.initial.out).bytes (sink l.out).bytes);
    }

abbrev pub decreases-session : goal.decreases-session
decreases-session g l = to_come l.lines.intake
