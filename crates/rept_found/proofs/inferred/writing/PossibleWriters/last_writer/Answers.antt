use Rattle.std.proofs.Common.{◌≡◌, ◌∙◌, ◌≤◌, ◌<◌, length, sym, subst, arith}
use Rattle.rept_findings.specs.Shown.{Shown}
use Rattle.rept_infer.specs.Holding.{Holding}
use Rattle.rept_infer.specs.Path.{path_reader, told_in}
use Rattle.rept_found.proofs.InferredLemmas.Lined.{on_line, past_line}
use Rattle.rept_found.proofs.inferred.writing.PossibleWriters.last_writer.Goals as goal

pub returns-then-moment-steps : goal.returns-then-moment-steps
returns-then-moment-steps g c =
    let h : Holding = told_in (path_reader g.K.KnownPath.set g.K.KnownPath.byte g.P.PathPremises.premises) c.args.self.now.inferred.now in
    let s : Shown = g.F.Findings.shown c.args.self.now.found.now in
    let size = c.steps.ensures.value in
    let inside = c.if-moment-steps.true in
    c.writer_before.ensures ∙ sym (on_line h s c.args.moment c.args.address c.requires.line (omega (arith, size, inside)))

pub returns-else-moment-steps : goal.returns-else-moment-steps
returns-else-moment-steps g c =
    let h : Holding = told_in (path_reader g.K.KnownPath.set g.K.KnownPath.byte g.P.PathPremises.premises) c.args.self.now.inferred.now in
    let s : Shown = g.F.Findings.shown c.args.self.now.found.now in
    let size = c.steps.ensures.value in
    let past = c.if-moment-steps.false in
    c.writer.ensures.value ∙ sym (past_line h s c.args.moment c.args.address (omega (arith, size, past)))
