use Rattle.rept_timeline.specs.Paths.{lawful}
use Rattle.std.proofs.Common.{refl, ◌<◌, ◌∙◌, sym, ap, subst}
use Rattle.rept_facts.specs.State.{state_of, with_infers, AnalysisState, Subject}
use Rattle.rept_facts.specs.Inferring.{InferredKnown}
use Rattle.rept_facts.proofs.Conclusion.{list_conclusions}
use Rattle.rept_facts.proofs.Learning.{known_words}
use Rattle.rept_facts.proofs.Following.{inferred_conclusion}
use Rattle.rept_facts.proofs.Passing.{anew_grows, cut_grows, anew_inferred, anew_pass, halt_after}
use Rattle.rept_analysis.proofs.analysis.Analysis.infer_anew.Goals as goal

pub conclude_all-requires-clause-conclusions : goal.conclude_all-requires-clause-conclusions
conclude_all-requires-clause-conclusions g c =
    let s = with_infers (state_of g.W.Partial.sets g.W.Transfer.moves g.R.RowRules.rules g.B.ByteFacts.store c.args.self.now.propagation.facts) c.list_inferred-list.new.self.work.infers in
    let kept = rw c.list_inferred-list.ensures.same at c.held-2.ensures in
    let all = list_conclusions s c.args.i c.list_inferred-list.result.items (λ d h. inferred_conclusion s (record { sets = g.met.W.Partial.lawful; moves = g.met.W.Transfer.covers; rules = g.met.R.RowRules.lawful; legs = (lawful c.args.self.now.propagation.facts.paths).legs; moments = (lawful c.args.self.now.propagation.facts.paths).moments }) (known_words s kept) c.args.i c.args.row.now c.requires.row c.requires.inside c.requires.tracked d (rw c.list_inferred-list.ensures.list at h)) in
    rw (c.as_slice.ensures, c.list_inferred-list.ensures.same) all

pub keep_pass-requires-clause-pass : goal.keep_pass-requires-clause-pass
keep_pass-requires-clause-pass g c = anew_pass (state_of g.W.Partial.sets g.W.Transfer.moves g.R.RowRules.rules g.B.ByteFacts.store c.args.self.now.propagation.facts) (state_of g.W.Partial.sets g.W.Transfer.moves g.R.RowRules.rules g.B.ByteFacts.store c.list_inferred-list.new.self) (state_of g.W.Partial.sets g.W.Transfer.moves g.R.RowRules.rules g.B.ByteFacts.store c.conclude_all.new.self.propagation.facts) (record { sets = g.met.W.Partial.lawful; moves = g.met.W.Transfer.covers; rules = g.met.R.RowRules.lawful; legs = (lawful c.args.self.now.propagation.facts.paths).legs; moments = (lawful c.args.self.now.propagation.facts.paths).moments }) c.held.ensures (known_words (state_of g.W.Partial.sets g.W.Transfer.moves g.R.RowRules.rules g.B.ByteFacts.store c.args.self.now.propagation.facts) c.held.ensures) c.args.i c.args.cells c.args.row.now c.requires.inside c.requires.row c.requires.cells c.requires.few c.requires.more c.requires.uncut c.list_inferred-list.ensures.once c.list_inferred-list.ensures.same c.conclude_all.ensures.grows c.conclude_all.ensures.still c.list_inferred-list.result.items c.list_inferred-list.ensures.list (rw c.as_slice.ensures at c.in-Ok.ensures.known)

pub returns-in-Ok-clause-grows : goal.returns-in-Ok-clause-grows
returns-in-Ok-clause-grows g c = anew_grows (state_of g.W.Partial.sets g.W.Transfer.moves g.R.RowRules.rules g.B.ByteFacts.store c.args.self.now.propagation.facts) (state_of g.W.Partial.sets g.W.Transfer.moves g.R.RowRules.rules g.B.ByteFacts.store c.list_inferred-list.new.self) (state_of g.W.Partial.sets g.W.Transfer.moves g.R.RowRules.rules g.B.ByteFacts.store c.conclude_all.new.self.propagation.facts) (record { sets = g.met.W.Partial.lawful; moves = g.met.W.Transfer.covers; rules = g.met.R.RowRules.lawful; legs = (lawful c.args.self.now.propagation.facts.paths).legs; moments = (lawful c.args.self.now.propagation.facts.paths).moments }) c.held.ensures (known_words (state_of g.W.Partial.sets g.W.Transfer.moves g.R.RowRules.rules g.B.ByteFacts.store c.args.self.now.propagation.facts) c.held.ensures) c.args.i c.args.cells c.args.row.now c.requires.inside c.requires.row c.requires.cells c.requires.few c.requires.more c.requires.uncut c.list_inferred-list.ensures.once c.list_inferred-list.ensures.same c.conclude_all.ensures.grows c.conclude_all.ensures.still (state_of g.W.Partial.sets g.W.Transfer.moves g.R.RowRules.rules g.B.ByteFacts.store c.keep_pass.new.self) c.keep_pass.ensures

pub returns-in-Ok-clause-inferred : goal.returns-in-Ok-clause-inferred
returns-in-Ok-clause-inferred g c = anew_inferred (state_of g.W.Partial.sets g.W.Transfer.moves g.R.RowRules.rules g.B.ByteFacts.store c.args.self.now.propagation.facts) (state_of g.W.Partial.sets g.W.Transfer.moves g.R.RowRules.rules g.B.ByteFacts.store c.list_inferred-list.new.self) (state_of g.W.Partial.sets g.W.Transfer.moves g.R.RowRules.rules g.B.ByteFacts.store c.conclude_all.new.self.propagation.facts) (record { sets = g.met.W.Partial.lawful; moves = g.met.W.Transfer.covers; rules = g.met.R.RowRules.lawful; legs = (lawful c.args.self.now.propagation.facts.paths).legs; moments = (lawful c.args.self.now.propagation.facts.paths).moments }) c.held.ensures (known_words (state_of g.W.Partial.sets g.W.Transfer.moves g.R.RowRules.rules g.B.ByteFacts.store c.args.self.now.propagation.facts) c.held.ensures) c.args.i c.args.cells c.args.row.now c.requires.inside c.requires.row c.requires.cells c.requires.few c.requires.more c.requires.uncut c.list_inferred-list.ensures.once c.list_inferred-list.ensures.same c.conclude_all.ensures.grows c.conclude_all.ensures.still (state_of g.W.Partial.sets g.W.Transfer.moves g.R.RowRules.rules g.B.ByteFacts.store c.keep_pass.new.self) (InferredKnown c.args.row.now c.args.i) c.keep_pass.ensures

pub returns-clause-grows : goal.returns-clause-grows
returns-clause-grows g c = cut_grows (state_of g.W.Partial.sets g.W.Transfer.moves g.R.RowRules.rules g.B.ByteFacts.store c.args.self.now.propagation.facts) (state_of g.W.Partial.sets g.W.Transfer.moves g.R.RowRules.rules g.B.ByteFacts.store c.list_inferred-list.new.self) (state_of g.W.Partial.sets g.W.Transfer.moves g.R.RowRules.rules g.B.ByteFacts.store c.conclude_all.new.self.propagation.facts) (record { sets = g.met.W.Partial.lawful; moves = g.met.W.Transfer.covers; rules = g.met.R.RowRules.lawful; legs = (lawful c.args.self.now.propagation.facts.paths).legs; moments = (lawful c.args.self.now.propagation.facts.paths).moments }) c.held.ensures (known_words (state_of g.W.Partial.sets g.W.Transfer.moves g.R.RowRules.rules g.B.ByteFacts.store c.args.self.now.propagation.facts) c.held.ensures) c.args.i c.args.cells c.args.row.now c.requires.inside c.requires.row c.requires.cells c.requires.few c.requires.more c.requires.uncut c.list_inferred-list.ensures.once c.list_inferred-list.ensures.same c.conclude_all.ensures.grows c.conclude_all.ensures.still (state_of g.W.Partial.sets g.W.Transfer.moves g.R.RowRules.rules g.B.ByteFacts.store c.keep_pass-in-Err.new.self) c.keep_pass-in-Err.ensures

pub returns-clause-halt : goal.returns-clause-halt
returns-clause-halt g c = halt_after (state_of g.W.Partial.sets g.W.Transfer.moves g.R.RowRules.rules g.B.ByteFacts.store c.conclude_all.new.self.propagation.facts) (state_of g.W.Partial.sets g.W.Transfer.moves g.R.RowRules.rules g.B.ByteFacts.store c.keep_pass-in-Err.new.self) _ c.in-Err.halt c.keep_pass-in-Err.ensures refl c.in-Err.ensures.halt

pub conclude_all-requires-clause-inside : goal.conclude_all-requires-clause-inside
conclude_all-requires-clause-inside g c = subst (λ (P : Subject g.row.W.Denot). c.args.i < P.given.legs.count) (sym (ap (λ (x : AnalysisState g.row.W.Denot). x.path) c.list_inferred-list.ensures.same)) c.requires.inside

pub conclude_all-requires-clause-open : goal.conclude_all-requires-clause-open
conclude_all-requires-clause-open g c = ap (λ (x : AnalysisState g.row.W.Denot). x.complete) c.list_inferred-list.ensures.same ∙ c.requires.open

pub keep_pass-requires-clause-inside : goal.keep_pass-requires-clause-inside
keep_pass-requires-clause-inside g c = subst (λ (P : Subject g.row.W.Denot). c.args.i < P.given.legs.count) (sym (c.conclude_all.ensures.grows.path ∙ ap (λ (x : AnalysisState g.row.W.Denot). x.path) c.list_inferred-list.ensures.same)) c.requires.inside

pub keep_pass-requires-clause-open : goal.keep_pass-requires-clause-open
keep_pass-requires-clause-open g c = c.conclude_all.ensures.grows.complete ∙ (ap (λ (x : AnalysisState g.row.W.Denot). x.complete) c.list_inferred-list.ensures.same ∙ c.requires.open)

pub keep_pass-requires-in-Err-clause-inside : goal.keep_pass-requires-in-Err-clause-inside
keep_pass-requires-in-Err-clause-inside g c = subst (λ (P : Subject g.row.W.Denot). c.args.i < P.given.legs.count) (sym (c.conclude_all.ensures.grows.path ∙ ap (λ (x : AnalysisState g.row.W.Denot). x.path) c.list_inferred-list.ensures.same)) c.requires.inside

pub keep_pass-requires-in-Err-clause-open : goal.keep_pass-requires-in-Err-clause-open
keep_pass-requires-in-Err-clause-open g c = c.conclude_all.ensures.grows.complete ∙ (ap (λ (x : AnalysisState g.row.W.Denot). x.complete) c.list_inferred-list.ensures.same ∙ c.requires.open)
