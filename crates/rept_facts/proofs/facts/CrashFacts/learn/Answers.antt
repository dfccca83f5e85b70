use Rattle.std.proofs.Common.{◌<◌, ◌^◌, inl, ap, arith}
use Rattle.rept_facts.specs.State.{AnalysisState}
use Rattle.rept_reason.specs.declared.fact.Cell.TheVariants.{Register}
use Rattle.rept_facts.specs.Inferring.{Knows}
use Rattle.rept_facts.proofs.Conclusion.{Grows_same, HasInferred_new, clash_found}
use Rattle.rept_facts.proofs.facts.CrashFacts.learn.Goals as goal

pub returns-in-New-clause-inferred : goal.returns-in-New-clause-inferred
returns-in-New-clause-inferred g c =
    let told = rw c.in-New.is at c.tell.ensures in
    HasInferred_new _ _ (Knows c.args.point (Register c.args.r) c.args.value) told.news told.still

pub returns-in-Clash-clause-halt : goal.returns-in-Clash-clause-halt
returns-in-Clash-clause-halt g c =
    let told = rw c.in-Clash.is at c.tell.ensures in
    let small : c.args.value < 2 ^ 32 = omega arith in
    clash_found _ _ c.args.point (Register c.args.r) c.in-Clash.known c.args.value told.0 told.1 told.2 (c.requires.follows small)

pub returns-in-Old-clause-grows : goal.returns-in-Old-clause-grows
returns-in-Old-clause-grows g c =
    let told = rw c.in-Old.is at c.tell.ensures in
    Grows_same _ _ told.0

pub returns-in-Clash-clause-grows : goal.returns-in-Clash-clause-grows
returns-in-Clash-clause-grows g c =
    let told = rw c.in-Clash.is at c.tell.ensures in
    Grows_same _ _ told.0

pub returns-in-Old-clause-log : goal.returns-in-Old-clause-log
returns-in-Old-clause-log g c =
    let told = rw c.in-Old.is at c.tell.ensures in
    inl (ap (λ (s : AnalysisState g.row.W.Denot). s.known.log) told.0)

pub returns-in-New-clause-log : goal.returns-in-New-clause-log
returns-in-New-clause-log g c =
    let told = rw c.in-New.is at c.tell.ensures in
    told.log

pub returns-in-Clash-clause-log : goal.returns-in-Clash-clause-log
returns-in-Clash-clause-log g c =
    let told = rw c.in-Clash.is at c.tell.ensures in
    inl (ap (λ (s : AnalysisState g.row.W.Denot). s.known.log) told.0)

pub returns-in-Clash-clause-loud : goal.returns-in-Clash-clause-loud
returns-in-Clash-clause-loud g c =
    let told = rw c.in-Clash.is at c.tell.ensures in
    (c.in-Clash.known, (told.1, told.2))
