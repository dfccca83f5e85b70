use Rattle.std.proofs.Common.{◌<◌, ◌≡◌, Some, refl, sym, subst, arith}
use Rattle.rept_reason.specs.declared.fact.Cell.TheVariants.{Register}
use Rattle.rept_report.specs.Why.{fact_of}
use Rattle.rept_facts.specs.State.{Subject, along, state_of}
use Rattle.rept_facts.specs.Begun.{AreEndFacts, HasEndsAlone}
use Rattle.rept_facts.specs.Inferring.{Knows, LastKnownAt}
use Rattle.rept_facts.proofs.Begun.{any_err, ends_at, ends_agree, ends_with, last_known_by}
use Rattle.rept_facts.proofs.Conclusion.{HasInferred_as}
use Rattle.rept_facts.proofs.Following.{last_follows}
use Rattle.rept_analysis.proofs.analysis.Analysis.learn_last.Goals as goal

pub learn-requires-clause-point : goal.learn-requires-clause-point
learn-requires-clause-point g c = c.requires.point.0

pub learn-requires-clause-follows : goal.learn-requires-clause-follows
learn-requires-clause-follows g c =
    let in_file : c.args.r < 32 = let n = c.number-number.ensures.value in let h = c.number-number.ensures.in_file in omega (arith, n, h) in
    λ small. last_follows (state_of g.W.Partial.sets g.W.Transfer.moves g.R.RowRules.rules g.B.ByteFacts.store c.args.self.now.propagation.facts) c.args.point c.args.r c.args.value c.args.value c.requires.point c.requires.found refl c.requires.named in_file small

pub returns-clause-inferred : goal.returns-clause-inferred
returns-clause-inferred g c = HasInferred_as _ _ c.in_ok-learnt.learnt (Knows c.args.point (Register c.args.r) c.args.value) (LastKnownAt c.args.point c.args.r) c.in_ok-learnt.ensures.inferred (λ h. last_known_by (state_of g.W.Partial.sets g.W.Transfer.moves g.R.RowRules.rules g.B.ByteFacts.store c.args.self.now.propagation.facts) c.args.point c.args.r c.args.value c.requires.found h)

pub returns-clause-known : goal.returns-clause-known
returns-clause-known g c =
    let found = subst (λ (P : Subject g.row.W.Denot). P.given.last c.args.point c.args.r ≡ Some c.args.value) (sym c.in_ok-learnt.ensures.grows.path) c.requires.found in
    last_known_by (state_of g.W.Partial.sets g.W.Transfer.moves g.R.RowRules.rules g.B.ByteFacts.store c.learn.new.self) c.args.point c.args.r c.args.value found c.in_ok-learnt.ensures.known

pub returns-clause-ends : goal.returns-clause-ends
returns-clause-ends g c = λ alone.
    let a = (state_of g.W.Partial.sets g.W.Transfer.moves g.R.RowRules.rules g.B.ByteFacts.store c.args.self.now.propagation.facts) in
    let b = (state_of g.W.Partial.sets g.W.Transfer.moves g.R.RowRules.rules g.B.ByteFacts.store c.learn.new.self) in
    let here = ends_at (along a.path) c.args.point c.args.r c.args.value c.requires.point c.requires.named c.requires.found in
    subst (λ (P : Subject g.row.W.Denot). AreEndFacts (along P) b.known.log) (sym c.in_ok-learnt.ensures.grows.path) (ends_with (along a.path) (fact_of c.args.point (Register c.args.r) c.args.value) a.known.log b.known.log here c.in_ok-learnt.ensures.log alone)

pub returns-in_err-learnt-clause-ends : goal.returns-in_err-learnt-clause-ends
returns-in_err-learnt-clause-ends g c = λ alone.
    let a = (state_of g.W.Partial.sets g.W.Transfer.moves g.R.RowRules.rules g.B.ByteFacts.store c.args.self.now.propagation.facts) in
    let b = (state_of g.W.Partial.sets g.W.Transfer.moves g.R.RowRules.rules g.B.ByteFacts.store c.learn.new.self) in
    let here = ends_at (along a.path) c.args.point c.args.r c.args.value c.requires.point c.requires.named c.requires.found in
    subst (λ (P : Subject g.row.W.Denot). AreEndFacts (along P) b.known.log) (sym c.learn.ensures.grows.path) (ends_with (along a.path) (fact_of c.args.point (Register c.args.r) c.args.value) a.known.log b.known.log here c.learn.ensures.log alone)

pub returns-in_err-learnt-clause-calm : goal.returns-in_err-learnt-clause-calm
returns-in_err-learnt-clause-calm g c = any_err c.from_residual.result (HasEndsAlone (state_of g.W.Partial.sets g.W.Transfer.moves g.R.RowRules.rules g.B.ByteFacts.store c.args.self.now.propagation.facts) → ⊥) (λ alone.
    let a = (state_of g.W.Partial.sets g.W.Transfer.moves g.R.RowRules.rules g.B.ByteFacts.store c.args.self.now.propagation.facts) in
    let here = ends_at (along a.path) c.args.point c.args.r c.args.value c.requires.point c.requires.named c.requires.found in
    let other = c.in_err-learnt.ensures.loud in
    ends_agree (along a.path) a.known.log c.args.point c.args.r c.args.value other.0 alone here other.1.0 other.1.1)
