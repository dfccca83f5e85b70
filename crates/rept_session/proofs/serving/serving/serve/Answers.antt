use Rattle.std.proofs.Common.{Ok, Some, refl, ap, ◌∙◌, rules}
use Rattle.rept_ports.specs.declared.lines.limits.LineFault.TheVariants.{ReadFault, TooMuchInput}
use Rattle.rept_findings.specs.Shown.{SessionTold, session_told}
use Rattle.rept_session.specs.Serving.Replies.{said_of_line}
use Rattle.rept_session.specs.declared.serving.serving.Served.TheVariants as served
use Rattle.rept_session.proofs.ServingLemmas.ReadLemmas.{Came, over, line_came, fault_came, end_came}
use Rattle.rept_session.proofs.ServingLemmas.ServeLemmas.{SoFar, served_so, starts, line_said, end_said, fault_said, at_end, at_fault, at_too_much, line_on, at_quit, at_no_memory, at_output_fault}
use Rattle.rept_session.proofs.serving.serving.serve.Goals as goal
use Rattle.rept_session.proofs.serving.serving.serve.Goals.{In-Ok-Some}

-- the line that came
came : (g : _) (c : In-Ok-Some g) → Came g.S.Source.port c.session.lines c.next_line.follows.lender-at-none c.session.invariant.none (Ok (Some (said_of_line c.in-Ok-Some.line)))
came g c =
    line_came g.S.Source.port c.session.lines c.next_line.follows.lender-at-none c.session.invariant.none _ (said_of_line c.in-Ok-Some.line)
    (line_said c.next_line.result c.in-Ok-Some.field-0 c.in-Ok-Some.line c.in-Ok-Some.is c.in-Ok-Some.field-0-is) c.next_line.follows.holds-at-none.1

pub session-init : goal.session-init
session-init g c = record {
  same = refl;
  none = c.new-lines.ensures.no_fault;
  within = c.last_of-cursor.ensures.within;
  kept = tt;
  read_calm = refl;
  write_calm = refl;
  so_far = starts (session_told (g.F.Findings.shown c.args.findings.now) c.args.skipped (g.F.Findings.reasons c.args.findings.now)) (g.S.Source.port c.new-lines.result.source.now).bytes c.new-lines.result.intake c.last_of-cursor.result (g.K.Sink.port c.args.out.now).bytes c.new-lines.ensures.none c.last_of-cursor.ensures.value;
}

pub session-preserved : goal.session-preserved
session-preserved g c =
    let line = came g (goal.at.session-preserved g c).In-Ok-Some in
    let t : SessionTold = session_told (g.F.Findings.shown c.args.findings.now) c.args.skipped (g.F.Findings.reasons c.args.findings.now) in
    let h = c.in-Line.ensures.came in
    record {
      same = c.next_line.follows.holds-at-none.0 ∙ c.session.invariant.same;
      none = line.2;
      within = h.within;
      kept = c.in-Line.ensures.kept;
      read_calm = line.1.calm ∙ c.session.invariant.read_calm;
      write_calm = h.calm ∙ c.session.invariant.write_calm;
      so_far = over (g.S.Source.port c.new-lines.result.source.now).bytes (g.S.Source.port c.new-lines.result.source.now).bytes
          (λ input. SoFar t input (g.S.Source.port c.session.lines.source.now).bytes c.session.lines.intake c.session.cursor (g.K.Sink.port c.args.out.now).bytes (g.K.Sink.port c.session.out).bytes)
          (λ input. SoFar t input (g.S.Source.port c.next_line.follows.lender-at-none.source.now).bytes c.next_line.follows.lender-at-none.intake c.in-Line.next (g.K.Sink.port c.args.out.now).bytes (g.K.Sink.port c.reply.new.out).bytes)
          refl c.session.invariant.so_far
          (λ input so_far. line_on t input (g.S.Source.port c.session.lines.source.now) (g.S.Source.port c.next_line.follows.lender-at-none.source.now) _ _ c.session.cursor (g.K.Sink.port c.args.out.now) (g.K.Sink.port c.session.out) so_far line.0 (said_of_line c.in-Ok-Some.line) line.1 (g.K.Sink.port c.reply.new.out) c.in-Line.next h);
    }

pub returns-in-Ok-None-clause-text : goal.returns-in-Ok-None-clause-text
returns-in-Ok-None-clause-text g c =
    let t : SessionTold = session_told (g.F.Findings.shown c.args.findings.now) c.args.skipped (g.F.Findings.reasons c.args.findings.now) in
    let e = end_came g.S.Source.port c.session.lines c.next_line.follows.lender-at-none c.session.invariant.none _ (end_said c.next_line.result c.in-Ok-None.field-0 c.in-Ok-None.is c.in-Ok-None.field-0-is) c.next_line.follows.holds-at-none.1 in
    served_so g.S.Source.port t (g.S.Source.port c.new-lines.result.source.now).bytes (g.S.Source.port c.args.input.now).bytes (g.S.Source.port c.session.lines.source.now).bytes c.next_line.follows.lender-at-none.source.now c.next_line.follows.lender-at-none.source.now c.session.lines.intake c.session.cursor (g.K.Sink.port c.args.out.now) (g.K.Sink.port c.session.out) (g.K.Sink.port c.session.out) served.Ended
    (ap (λ s. (g.S.Source.port s).bytes) c.new-lines.ensures.source) refl c.session.invariant.so_far
    (λ input so_far. at_end t input (g.S.Source.port c.session.lines.source.now) (g.S.Source.port c.next_line.follows.lender-at-none.source.now) _ c.next_line.follows.lender-at-none.intake c.session.cursor (g.K.Sink.port c.args.out.now) (g.K.Sink.port c.session.out) so_far e)

pub returns-in-OutputFault-clause-text : goal.returns-in-OutputFault-clause-text
returns-in-OutputFault-clause-text g c =
    let t : SessionTold = session_told (g.F.Findings.shown c.args.findings.now) c.args.skipped (g.F.Findings.reasons c.args.findings.now) in
    let line = came g (goal.at.returns-in-OutputFault-clause-text g c).In-Ok-Some in
    let h = c.in-OutputFault.ensures.came in
    served_so g.S.Source.port t (g.S.Source.port c.new-lines.result.source.now).bytes (g.S.Source.port c.args.input.now).bytes (g.S.Source.port c.session.lines.source.now).bytes c.next_line.follows.lender-at-none.source.now c.next_line.follows.lender-at-none.source.now c.session.lines.intake c.session.cursor (g.K.Sink.port c.args.out.now) (g.K.Sink.port c.session.out) (g.K.Sink.port c.reply.new.out) served.OutputFault
    (ap (λ s. (g.S.Source.port s).bytes) c.new-lines.ensures.source) refl c.session.invariant.so_far
    (λ input so_far. at_output_fault t input (g.S.Source.port c.session.lines.source.now) (g.S.Source.port c.next_line.follows.lender-at-none.source.now) _ c.next_line.follows.lender-at-none.intake c.session.cursor (g.K.Sink.port c.args.out.now) (g.K.Sink.port c.session.out) so_far line.0 (said_of_line c.in-Ok-Some.line) line.1 (g.K.Sink.port c.reply.new.out) h)

pub returns-in-Quit-clause-text : goal.returns-in-Quit-clause-text
returns-in-Quit-clause-text g c =
    let t : SessionTold = session_told (g.F.Findings.shown c.args.findings.now) c.args.skipped (g.F.Findings.reasons c.args.findings.now) in
    let line = came g (goal.at.returns-in-Quit-clause-text g c).In-Ok-Some in
    let h = c.in-Quit.ensures.came in
    served_so g.S.Source.port t (g.S.Source.port c.new-lines.result.source.now).bytes (g.S.Source.port c.args.input.now).bytes (g.S.Source.port c.session.lines.source.now).bytes c.next_line.follows.lender-at-none.source.now c.next_line.follows.lender-at-none.source.now c.session.lines.intake c.session.cursor (g.K.Sink.port c.args.out.now) (g.K.Sink.port c.session.out) (g.K.Sink.port c.reply.new.out) served.Ended
    (ap (λ s. (g.S.Source.port s).bytes) c.new-lines.ensures.source) refl c.session.invariant.so_far
    (λ input so_far. at_quit t input (g.S.Source.port c.session.lines.source.now) (g.S.Source.port c.next_line.follows.lender-at-none.source.now) _ c.next_line.follows.lender-at-none.intake c.session.cursor (g.K.Sink.port c.args.out.now) (g.K.Sink.port c.session.out) so_far line.0 (said_of_line c.in-Ok-Some.line) line.1 (g.K.Sink.port c.reply.new.out) h.1 h.0)

pub returns-in-OutOfMemory-clause-text : goal.returns-in-OutOfMemory-clause-text
returns-in-OutOfMemory-clause-text g c =
    let t : SessionTold = session_told (g.F.Findings.shown c.args.findings.now) c.args.skipped (g.F.Findings.reasons c.args.findings.now) in
    let line = came g (goal.at.returns-in-OutOfMemory-clause-text g c).In-Ok-Some in
    let h = c.in-OutOfMemory.ensures.came in
    served_so g.S.Source.port t (g.S.Source.port c.new-lines.result.source.now).bytes (g.S.Source.port c.args.input.now).bytes (g.S.Source.port c.session.lines.source.now).bytes c.next_line.follows.lender-at-none.source.now c.next_line.follows.lender-at-none.source.now c.session.lines.intake c.session.cursor (g.K.Sink.port c.args.out.now) (g.K.Sink.port c.session.out) (g.K.Sink.port c.reply.new.out) served.OutOfMemory
    (ap (λ s. (g.S.Source.port s).bytes) c.new-lines.ensures.source) refl c.session.invariant.so_far
    (λ input so_far. at_no_memory t input (g.S.Source.port c.session.lines.source.now) (g.S.Source.port c.next_line.follows.lender-at-none.source.now) _ c.next_line.follows.lender-at-none.intake c.session.cursor (g.K.Sink.port c.args.out.now) (g.K.Sink.port c.session.out) so_far line.0 (said_of_line c.in-Ok-Some.line) line.1 (g.K.Sink.port c.reply.new.out) h)

pub returns-in-Err-ReadFault-clause-text : goal.returns-in-Err-ReadFault-clause-text
returns-in-Err-ReadFault-clause-text g c =
    let t : SessionTold = session_told (g.F.Findings.shown c.args.findings.now) c.args.skipped (g.F.Findings.reasons c.args.findings.now) in
    let f = fault_came g.S.Source.port c.session.lines c.next_line.follows.lender-at-none c.session.invariant.none _ ReadFault (fault_said c.next_line.result c.in-Err-ReadFault.field-0 ReadFault c.in-Err-ReadFault.is c.in-Err-ReadFault.field-0-is) c.next_line.follows.holds-at-none.1 in
    served_so g.S.Source.port t (g.S.Source.port c.new-lines.result.source.now).bytes (g.S.Source.port c.args.input.now).bytes (g.S.Source.port c.session.lines.source.now).bytes c.next_line.follows.lender-at-none.source.now _ c.session.lines.intake c.session.cursor (g.K.Sink.port c.args.out.now) (g.K.Sink.port c.session.out) (g.K.Sink.port c.session.out) served.ReadFault
    (ap (λ s. (g.S.Source.port s).bytes) c.new-lines.ensures.source) (search rules) c.session.invariant.so_far
    (λ input so_far. at_fault t input (g.S.Source.port c.session.lines.source.now) (g.S.Source.port c.next_line.follows.lender-at-none.source.now) _ c.next_line.follows.lender-at-none.intake c.session.cursor (g.K.Sink.port c.args.out.now) (g.K.Sink.port c.session.out) so_far f.0 f.1)

pub returns-in-Err-TooMuchInput-clause-text : goal.returns-in-Err-TooMuchInput-clause-text
returns-in-Err-TooMuchInput-clause-text g c =
    let t : SessionTold = session_told (g.F.Findings.shown c.args.findings.now) c.args.skipped (g.F.Findings.reasons c.args.findings.now) in
    let f = fault_came g.S.Source.port c.session.lines c.next_line.follows.lender-at-none c.session.invariant.none _ TooMuchInput (fault_said c.next_line.result c.in-Err-TooMuchInput.field-0 TooMuchInput c.in-Err-TooMuchInput.is c.in-Err-TooMuchInput.field-0-is) c.next_line.follows.holds-at-none.1 in
    served_so g.S.Source.port t (g.S.Source.port c.new-lines.result.source.now).bytes (g.S.Source.port c.args.input.now).bytes (g.S.Source.port c.session.lines.source.now).bytes c.next_line.follows.lender-at-none.source.now c.next_line.follows.lender-at-none.source.now c.session.lines.intake c.session.cursor (g.K.Sink.port c.args.out.now) (g.K.Sink.port c.session.out) (g.K.Sink.port c.session.out) served.TooMuchInput
    (ap (λ s. (g.S.Source.port s).bytes) c.new-lines.ensures.source) refl c.session.invariant.so_far
    (λ input so_far. at_too_much t input (g.S.Source.port c.session.lines.source.now) (g.S.Source.port c.next_line.follows.lender-at-none.source.now) _ c.next_line.follows.lender-at-none.intake c.session.cursor (g.K.Sink.port c.args.out.now) (g.K.Sink.port c.session.out) so_far f.0 f.1)
