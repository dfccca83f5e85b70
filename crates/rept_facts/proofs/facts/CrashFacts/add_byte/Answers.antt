use Rattle.std.proofs.Common.{true, sym, subst, ap, ◌∙◌}
use Rattle.rept_reason.specs.declared.fact.Cell.TheVariants.{Byte}
use Rattle.rept_facts.specs.State.{AnalysisState, state_of}
use Rattle.rept_facts.specs.Inferring.{Knows}
use Rattle.rept_facts.proofs.Conclusion.{Grows_same, HasInferred_new, clash_found, HasInferred_none}
use Rattle.rept_facts.proofs.facts.CrashFacts.add_byte.Goals as goal

pub returns-in-Ok-New-clause-inferred : goal.returns-in-Ok-New-clause-inferred
returns-in-Ok-New-clause-inferred g c =
    let told = rw c.in-Ok-New.field-0-is at c.in-Ok-New.ensures in
    let P : AnalysisState g.row.W.Denot → Type 0 = Knows c.args.point (Byte c.args.a) c.args.value in
    HasInferred_new (state_of g.W.Partial.sets g.W.Transfer.moves g.R.RowRules.rules g.B.ByteFacts.store c.args.self.now) (state_of g.W.Partial.sets g.W.Transfer.moves g.R.RowRules.rules g.B.ByteFacts.store c.tell_byte.new.self) P told.news told.still

pub returns-in-Ok-Clash-clause-halt : goal.returns-in-Ok-Clash-clause-halt
returns-in-Ok-Clash-clause-halt g c =
    let told = rw c.in-Ok-Clash.field-0-is at c.in-Ok-Clash.ensures in
    clash_found _ _ c.args.point (Byte c.args.a) c.in-Ok-Clash.known c.args.value told.0 told.1 told.2 c.requires.follows

pub returns-in-Err-clause-grows : goal.returns-in-Err-clause-grows
returns-in-Err-clause-grows g c = Grows_same _ _ c.in-Err.ensures.0

pub returns-in-Ok-Old-clause-grows : goal.returns-in-Ok-Old-clause-grows
returns-in-Ok-Old-clause-grows g c =
    let told = rw c.in-Ok-Old.field-0-is at c.in-Ok-Old.ensures in
    Grows_same _ _ told.0

pub returns-in-Ok-Clash-clause-grows : goal.returns-in-Ok-Clash-clause-grows
returns-in-Ok-Clash-clause-grows g c =
    let told = rw c.in-Ok-Clash.field-0-is at c.in-Ok-Clash.ensures in
    Grows_same _ _ told.0

pub returns-in-Ok-New-clause-grows : goal.returns-in-Ok-New-clause-grows
returns-in-Ok-New-clause-grows g c =
    let told = rw c.in-Ok-New.field-0-is at c.in-Ok-New.ensures in
    told.grows

pub returns-in-Ok-New-clause-known : goal.returns-in-Ok-New-clause-known
returns-in-Ok-New-clause-known g c =
    let told = rw c.in-Ok-New.field-0-is at c.in-Ok-New.ensures in
    told.here

pub returns-in-Ok-New-clause-still : goal.returns-in-Ok-New-clause-still
returns-in-Ok-New-clause-still g c =
    let told = rw c.in-Ok-New.field-0-is at c.in-Ok-New.ensures in
    told.still

pub returns-in-Ok-Old-clause-inferred : goal.returns-in-Ok-Old-clause-inferred
returns-in-Ok-Old-clause-inferred g c =
    let told = rw c.in-Ok-Old.field-0-is at c.in-Ok-Old.ensures in
    let P : AnalysisState g.row.W.Denot → Type 0 = Knows c.args.point (Byte c.args.a) c.args.value in
    HasInferred_none (state_of g.W.Partial.sets g.W.Transfer.moves g.R.RowRules.rules g.B.ByteFacts.store c.args.self.now) (state_of g.W.Partial.sets g.W.Transfer.moves g.R.RowRules.rules g.B.ByteFacts.store c.tell_byte.new.self) P told.0 told.1

pub returns-in-Ok-Old-clause-known : goal.returns-in-Ok-Old-clause-known
returns-in-Ok-Old-clause-known g c =
    let told = rw c.in-Ok-Old.field-0-is at c.in-Ok-Old.ensures in
    subst (λ (x : AnalysisState g.row.W.Denot). Knows c.args.point (Byte c.args.a) c.args.value x) (sym told.0) told.1

pub returns-in-Ok-Old-clause-still : goal.returns-in-Ok-Old-clause-still
returns-in-Ok-Old-clause-still g c =
    let told = rw c.in-Ok-Old.field-0-is at c.in-Ok-Old.ensures in
    ap (λ (x : AnalysisState g.row.W.Denot). x.work) told.0

pub returns-in-Ok-Clash-clause-still : goal.returns-in-Ok-Clash-clause-still
returns-in-Ok-Clash-clause-still g c =
    let told = rw c.in-Ok-Clash.field-0-is at c.in-Ok-Clash.ensures in
    ap (λ (x : AnalysisState g.row.W.Denot). x.work) told.0

pub returns-in-Err-clause-still : goal.returns-in-Err-clause-still
returns-in-Err-clause-still g c = ap (λ (x : AnalysisState g.row.W.Denot). x.work) c.in-Err.ensures.0

pub returns-in-Err-clause-halt : goal.returns-in-Err-clause-halt
returns-in-Err-clause-halt g c = c.in-Err.ensures.1
