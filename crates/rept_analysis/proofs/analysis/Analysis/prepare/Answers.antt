use Rattle.std.proofs.Common.{◌≡◌, None, sym, subst}
use Rattle.std.proofs.lemmas.Result.{IfOk-weaker}
use Rattle.rept_dump.specs.Dump.{exe_of, core_of}
use Rattle.rept_facts.specs.State.{Whole, state_of}
use Rattle.rept_facts.specs.Begun.{LearnsEndsFirst}
use Rattle.rept_analysis.proofs.analysis.Analysis.prepare.Goals as goal

pub returns-in-Ok-clause-path : goal.returns-in-Ok-clause-path
returns-in-Ok-clause-path g c = IfOk-weaker c.over.result _ _ (λ a e. subst (λ (x : Whole g.row.B.Denot g.row.W.Denot g.row.R.Denot). (x.paths ≡ c.args.input.paths.now) × (x.last ≡ c.args.input.last.now)) (sym e) c.in-Ok.ensures.path) c.over.ensures

pub returns-in-Ok-clause-memory : goal.returns-in-Ok-clause-memory
returns-in-Ok-clause-memory g c = IfOk-weaker c.over.result _ _ (λ a e. subst (λ (x : Whole g.row.B.Denot g.row.W.Denot g.row.R.Denot). (x.exe ≡ exe_of c.args.input.dump.now) × (x.core ≡ core_of c.args.input.dump.now)) (sym e) c.in-Ok.ensures.memory) c.over.ensures

pub returns-in-Ok-clause-begins : goal.returns-in-Ok-clause-begins
returns-in-Ok-clause-begins g c = IfOk-weaker c.over.result _ _ (λ a e. subst (λ (x : Whole g.row.B.Denot g.row.W.Denot g.row.R.Denot). LearnsEndsFirst (state_of g.W.Partial.sets g.W.Transfer.moves g.R.RowRules.rules g.B.ByteFacts.store x)) (sym e) c.in-Ok.ensures.begins) c.over.ensures

pub returns-in-Ok-clause-calm : goal.returns-in-Ok-clause-calm
returns-in-Ok-clause-calm g c = IfOk-weaker c.over.result _ _ (λ a e. subst (λ (x : Whole g.row.B.Denot g.row.W.Denot g.row.R.Denot). x.conflict ≡ None) (sym e) c.in-Ok.ensures.calm) c.over.ensures
