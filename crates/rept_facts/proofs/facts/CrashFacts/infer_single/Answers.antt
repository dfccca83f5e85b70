use Rattle.rept_timeline.specs.Paths.{lawful}
use Rattle.std.proofs.Common.{◌≡◌, ◌<◌, true, is_some, Some, sym, ap, subst, ◌∙◌, arith}
use Rattle.rept_partial.specs.declared.flat.Flat.TheVariants.{Known}
use Rattle.rept_reason.specs.Facts.{told, register_known}
use Rattle.rept_report.specs.Log.{oldest}
use Rattle.rept_facts.specs.State.{Whole, state_of}
use Rattle.rept_facts.specs.Inferring.{IsLearntAt, SingleKnown}
use Rattle.rept_facts.proofs.Conclusion.{HasInferred_if, HasInferred_same}
use Rattle.rept_facts.proofs.Learning.{known_words}
use Rattle.rept_facts.proofs.Following.{single_follows, told_single, single_known, no_single, same_flat}
use Rattle.rept_facts.proofs.facts.CrashFacts.infer_single.Goals as goal

pub learn_if-requires-clause-follows : goal.learn_if-requires-clause-follows
learn_if-requires-clause-follows g c =
    let s = state_of g.W.Partial.sets g.W.Transfer.moves g.R.RowRules.rules g.B.ByteFacts.store c.args.self.now in
    λ v is named in_file small. single_follows s (record { sets = g.met.W.Partial.lawful; moves = g.met.W.Transfer.covers; rules = g.met.R.RowRules.lawful; legs = (lawful c.args.self.now.paths).legs; moments = (lawful c.args.self.now.paths).moments }) (known_words s c.held.ensures) c.held.ensures.once c.requires.fitted c.args.point c.args.r v c.span-span.result c.requires.point named in_file small c.span-span.ensures (sym c.as_exact.ensures ∙ c.in-Some.is ∙ ap Some (same_flat is))

pub returns-in-Some-clause-inferred : goal.returns-in-Some-clause-inferred
returns-in-Some-clause-inferred g c =
    HasInferred_if _ _ c.learn_if.result (IsLearntAt c.args.point c.args.r (Known c.in-Some.v)) (SingleKnown c.args.point c.args.r) c.learn_if.ensures.inferred (λ h. single_known (state_of g.W.Partial.sets g.W.Transfer.moves g.R.RowRules.rules g.B.ByteFacts.store c.args.self.now) c.args.point c.args.r c.in-Some.v c.span-span.result c.span-span.ensures (sym c.as_exact.ensures ∙ c.in-Some.is) h)

pub returns-in-None-clause-inferred : goal.returns-in-None-clause-inferred
returns-in-None-clause-inferred g c = HasInferred_same (state_of g.W.Partial.sets g.W.Transfer.moves g.R.RowRules.rules g.B.ByteFacts.store c.args.self.now) (SingleKnown c.args.point c.args.r) (no_single (state_of g.W.Partial.sets g.W.Transfer.moves g.R.RowRules.rules g.B.ByteFacts.store c.args.self.now) c.args.point c.args.r c.span-span.result c.span-span.ensures (sym c.as_exact.ensures ∙ c.in-None.is))

pub returns-then-is_known_below-clause-inferred : goal.returns-then-is_known_below-clause-inferred
returns-then-is_known_below-clause-inferred g c =
    let s = state_of g.W.Partial.sets g.W.Transfer.moves g.R.RowRules.rules g.B.ByteFacts.store c.args.self.now in
    let in_file : c.args.r < 32 = omega arith in
    let known = subst (λ (x : Whole g.row.B.Denot g.row.W.Denot g.row.R.Denot). true ≡ is_some (register_known (told (oldest x.filled x.known.log)) c.args.point c.args.r)) c.self.view_is (sym c.if-is_known_below.true ∙ c.is_known_below.ensures) in
    HasInferred_same s (SingleKnown c.args.point c.args.r) (told_single s (record { sets = g.met.W.Partial.lawful; moves = g.met.W.Transfer.covers; rules = g.met.R.RowRules.lawful; legs = (lawful c.args.self.now.paths).legs; moments = (lawful c.args.self.now.paths).moments }) (known_words s c.held.ensures) c.held.ensures.once c.requires.fitted c.args.point c.args.r c.requires.point in_file known)
