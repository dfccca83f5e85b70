use Rattle.std.proofs.Common.{◌∙◌, ap}
use Rattle.rept_dump.specs.Dump.{exe_of, core_of}
use Rattle.rept_facts.specs.Work.{work_of}
use Rattle.rept_facts.specs.State.{Whole}
use Rattle.rept_facts.specs.Reasoned.{front_below}
use Rattle.rept_facts.proofs.Fronts.{prefix_words, prefix_last, front_same}
use Rattle.rept_facts.proofs.facts.CrashFacts.registers.Goals as goal

pub new-requires-clause-words : goal.new-requires-clause-words
new-requires-clause-words g c =
    let a : Whole g.row.B.Denot g.row.W.Denot g.row.R.Denot = record { paths = c.self.inside.paths.now; last = c.self.inside.last.now; exe = exe_of c.self.inside.dump; core = core_of c.self.inside.dump; known = c.self.inside.known; spans = c.self.inside.spans; filled = c.self.inside.filled; rules = c.self.inside.rules; shown = c.self.inside.shown; complete = c.self.inside.complete; conflict = c.self.inside.conflict; work = work_of g.B.ByteFacts.JOINS (g.R.RowRules.infers c.self.inside.rules) c.self.inside.writing c.self.inside.inferred } in
    prefix_words g.W.Partial.sets g.W.Transfer.moves g.R.RowRules.rules g.B.ByteFacts.store a c.self.invariant c.args.limit

pub new-requires-clause-last : goal.new-requires-clause-last
new-requires-clause-last g c =
    let a : Whole g.row.B.Denot g.row.W.Denot g.row.R.Denot = record { paths = c.self.inside.paths.now; last = c.self.inside.last.now; exe = exe_of c.self.inside.dump; core = core_of c.self.inside.dump; known = c.self.inside.known; spans = c.self.inside.spans; filled = c.self.inside.filled; rules = c.self.inside.rules; shown = c.self.inside.shown; complete = c.self.inside.complete; conflict = c.self.inside.conflict; work = work_of g.B.ByteFacts.JOINS (g.R.RowRules.infers c.self.inside.rules) c.self.inside.writing c.self.inside.inferred } in
    prefix_last g.W.Partial.sets g.W.Transfer.moves g.R.RowRules.rules g.B.ByteFacts.store a c.self.invariant

pub returns : goal.returns
returns g c =
    let a : Whole g.row.B.Denot g.row.W.Denot g.row.R.Denot = record { paths = c.self.inside.paths.now; last = c.self.inside.last.now; exe = exe_of c.self.inside.dump; core = core_of c.self.inside.dump; known = c.self.inside.known; spans = c.self.inside.spans; filled = c.self.inside.filled; rules = c.self.inside.rules; shown = c.self.inside.shown; complete = c.self.inside.complete; conflict = c.self.inside.conflict; work = work_of g.B.ByteFacts.JOINS (g.R.RowRules.infers c.self.inside.rules) c.self.inside.writing c.self.inside.inferred } in
    front_same g.W.Partial.sets g.W.Transfer.moves g.R.RowRules.rules a c.args.limit c.new.result c.new.ensures ∙ ap (λ (x : Whole g.row.B.Denot g.row.W.Denot g.row.R.Denot). front_below g.W.Partial.sets g.W.Transfer.moves g.R.RowRules.rules x c.args.limit) c.self.view_is
