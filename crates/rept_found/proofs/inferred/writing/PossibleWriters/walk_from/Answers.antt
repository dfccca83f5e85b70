use Rattle.std.proofs.Common.{◌≡◌, ◌∙◌, None, Some, sym, ap, true, arith}
use Rattle.rept_findings.specs.LastWriters.{AreLastWriters}
use Rattle.rept_findings.specs.Shown.{Shown}
use Rattle.rept_infer.specs.Holding.{Holding}
use Rattle.rept_infer.specs.Path.{path_reader, told_in}
use Rattle.rept_found.specs.Inferred.Writing.{step_below}
use Rattle.rept_found.proofs.InferredLemmas.Walking.{IsNext, below_none, found_next, onward_next, walk_none, walk_on}
use Rattle.rept_found.proofs.inferred.writing.PossibleWriters.walk_from.Goals as goal

pub returns-in-None-clause-found : goal.returns-in-None-clause-found
returns-in-None-clause-found g c =
    let h : Holding = told_in (path_reader g.K.KnownPath.set g.K.KnownPath.byte g.P.PathPremises.premises) c.args.self.now.inferred.now in
    let s : Shown = g.F.Findings.shown c.args.self.now.found.now in
    walk_none h s c.requires.line c.args.address (c.writer.ensures.last 0) c.args.point c.requires.point (sym c.writer.ensures.value ∙ below_none c.writer.result c.args.point (sym c.step_below.ensures.value ∙ c.in-None.is))

pub refined_step-requires-clause-step : goal.refined_step-requires-clause-step
refined_step-requires-clause-step g c =
    let h : Holding = told_in (path_reader g.K.KnownPath.set g.K.KnownPath.byte g.P.PathPremises.premises) c.args.self.now.inferred.now in
    let s : Shown = g.F.Findings.shown c.args.self.now.found.now in
    let next = walk_on h s c.requires.line c.args.address (c.writer.ensures.last 0) c.args.point c.requires.point c.requires.some c.in-Some.step c.writer.result (sym c.writer.ensures.value) (sym c.step_below.ensures.value ∙ c.in-Some.is) in
    let less = next.less in
    let last = c.requires.point in
    omega (arith, less, last)

pub refined_step-requires-clause-moment : goal.refined_step-requires-clause-moment
refined_step-requires-clause-moment g c =
    let h : Holding = told_in (path_reader g.K.KnownPath.set g.K.KnownPath.byte g.P.PathPremises.premises) c.args.self.now.inferred.now in
    let s : Shown = g.F.Findings.shown c.args.self.now.found.now in
    let next = walk_on h s c.requires.line c.args.address (c.writer.ensures.last 0) c.args.point c.requires.point c.requires.some c.in-Some.step c.writer.result (sym c.writer.ensures.value) (sym c.step_below.ensures.value ∙ c.in-Some.is) in
    let less = next.less in
    let last = c.requires.moment in
    omega (arith, less, last)

pub returns-in-Some-clause-found : goal.returns-in-Some-clause-found
returns-in-Some-clause-found g c =
    let h : Holding = told_in (path_reader g.K.KnownPath.set g.K.KnownPath.byte g.P.PathPremises.premises) c.args.self.now.inferred.now in
    let s : Shown = g.F.Findings.shown c.args.self.now.found.now in
    let laws = c.writer.ensures.last 0 in
    let next = walk_on h s c.requires.line c.args.address laws c.args.point c.requires.point c.requires.some c.in-Some.step c.writer.result (sym c.writer.ensures.value) (sym c.step_below.ensures.value ∙ c.in-Some.is) in
    found_next h s c.requires.line c.args.address laws c.args.point c.requires.point c.in-Some.step next _ c.refined_step.ensures

pub returns-in-Some-clause-onward : goal.returns-in-Some-clause-onward
returns-in-Some-clause-onward g c =
    let h : Holding = told_in (path_reader g.K.KnownPath.set g.K.KnownPath.byte g.P.PathPremises.premises) c.args.self.now.inferred.now in
    let s : Shown = g.F.Findings.shown c.args.self.now.found.now in
    let laws = c.writer.ensures.last 0 in
    let next = walk_on h s c.requires.line c.args.address laws c.args.point c.requires.point c.requires.some c.in-Some.step c.writer.result (sym c.writer.ensures.value) (sym c.step_below.ensures.value ∙ c.in-Some.is) in
    onward_next h s c.requires.line c.args.address laws c.args.point c.requires.point c.in-Some.step next _ c.refined_step.ensures
