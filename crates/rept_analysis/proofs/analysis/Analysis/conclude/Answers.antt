use Rattle.std.proofs.Common.{◌<◌, ◌^◌, ℕ, sym, ap, subst, arith}
use Rattle.std.specs.Option.{is_some}
use Rattle.rept_reason.specs.declared.fact.Cell.{Cell}
use Rattle.rept_reason.specs.declared.fact.Cell.TheVariants.{Register, Byte}
use Rattle.rept_reason.specs.View.Rules.{Fits}
use Rattle.rept_report.specs.Views.{instant_of}
use Rattle.rept_report.specs.Why.{fact_of}
use Rattle.rept_facts.specs.State.{state_of}
use Rattle.rept_facts.specs.Inferring.{Knows, IsFollowing, KnowsInferred}
use Rattle.rept_facts.proofs.Conclusion.{HasInferred_as}
use Rattle.rept_analysis.proofs.analysis.Analysis.conclude.Goals as goal

pub learn-requires-clause-follows : goal.learn-requires-clause-follows
learn-requires-clause-follows g c =
    λ small.
    let s = state_of g.W.Partial.sets g.W.Transfer.moves g.R.RowRules.rules g.B.ByteFacts.store c.args.self.now.propagation.facts in
    let at = subst (λ (x : Cell). IsFollowing s (fact_of (instant_of s.path.given.moments c.args.i c.args.inferred.now.when x) x c.args.inferred.now.value)) c.in-Register.is (c.requires.conclusion.follows small) in
    subst (λ (p : ℕ). IsFollowing s (fact_of p (Register c.in-Register.r) c.args.inferred.now.value)) (sym c.point_at-point.ensures.point) at

pub moment_at-moment-requires : goal.moment_at-moment-requires
moment_at-moment-requires g c = ap is_some (c.requires.conclusion.byte c.in-Byte.a c.in-Byte.is).found

pub learn_byte-requires-clause-follows : goal.learn_byte-requires-clause-follows
learn_byte-requires-clause-follows g c =
    let s = state_of g.W.Partial.sets g.W.Transfer.moves g.R.RowRules.rules g.B.ByteFacts.store c.args.self.now.propagation.facts in
    let byte : c.args.inferred.now.value < 2 ^ 8 = subst (λ (x : Cell). Fits x c.args.inferred.now.value) c.in-Byte.is c.requires.conclusion.fits in
    let small : c.args.inferred.now.value < 2 ^ 32 = omega (arith, byte) in
    let at = subst (λ (x : Cell). IsFollowing s (fact_of (instant_of s.path.given.moments c.args.i c.args.inferred.now.when x) x c.args.inferred.now.value)) c.in-Byte.is (c.requires.conclusion.follows small) in
    subst (λ (p : ℕ). IsFollowing s (fact_of p (Byte c.in-Byte.a) c.args.inferred.now.value)) (sym c.moment_at-moment.ensures.value) at

pub learn_byte-requires-clause-place : goal.learn_byte-requires-clause-place
learn_byte-requires-clause-place g c = record { number = c.args.i; conclusion = c.args.inferred.now; moment = c.moment_at-moment.ensures.value; cell = c.in-Byte.is; inferred = c.requires.conclusion.byte c.in-Byte.a c.in-Byte.is }

pub returns-in_ok-learnt-in-Register-clause-inferred : goal.returns-in_ok-learnt-in-Register-clause-inferred
returns-in_ok-learnt-in-Register-clause-inferred g c =
    let s = state_of g.W.Partial.sets g.W.Transfer.moves g.R.RowRules.rules g.B.ByteFacts.store c.args.self.now.propagation.facts in
    HasInferred_as _ _ c.in_ok-learnt-in-Register.learnt (Knows c.point_at-point.result (Register c.in-Register.r) c.args.inferred.now.value) (KnowsInferred c.args.i c.args.inferred.now) c.in_ok-learnt-in-Register.ensures.inferred
    (λ h. subst (λ (x : Cell). Knows (instant_of s.path.given.moments c.args.i c.args.inferred.now.when x) x c.args.inferred.now.value s) (sym c.in-Register.is) (subst (λ (p : ℕ). Knows p (Register c.in-Register.r) c.args.inferred.now.value s) c.point_at-point.ensures.point h))

pub returns-in_ok-learnt-in-Byte-clause-inferred : goal.returns-in_ok-learnt-in-Byte-clause-inferred
returns-in_ok-learnt-in-Byte-clause-inferred g c =
    let s = state_of g.W.Partial.sets g.W.Transfer.moves g.R.RowRules.rules g.B.ByteFacts.store c.args.self.now.propagation.facts in
    HasInferred_as _ _ c.in_ok-learnt-in-Byte.learnt (Knows c.moment_at-moment.result (Byte c.in-Byte.a) c.args.inferred.now.value) (KnowsInferred c.args.i c.args.inferred.now) c.in_ok-learnt-in-Byte.ensures.inferred
    (λ h. subst (λ (x : Cell). Knows (instant_of s.path.given.moments c.args.i c.args.inferred.now.when x) x c.args.inferred.now.value s) (sym c.in-Byte.is) (subst (λ (p : ℕ). Knows p (Byte c.in-Byte.a) c.args.inferred.now.value s) c.moment_at-moment.ensures.value h))
