use Rattle.std.proofs.Common.{◌<◌, arith}
use Rattle.rept_reason.specs.declared.fact.Cell.TheVariants.{Register}
use Rattle.rept_facts.specs.State.{state_of}
use Rattle.rept_facts.specs.Inferring.{Knows, IsLearntAt}
use Rattle.rept_facts.proofs.Conclusion.{HasInferred_if}
use Rattle.rept_facts.proofs.Following.{learnt_at}
use Rattle.rept_facts.proofs.facts.CrashFacts.learn_if.Goals as goal

pub learn-requires-clause-follows : goal.learn-requires-clause-follows
learn-requires-clause-follows g c =
    let named : 0 < c.args.r = let n = c.number.ensures.value in let h = c.if-number-eq0.false in omega (arith, n, h) in
    let in_file : c.args.r < 32 = let n = c.number.ensures.value in let h = c.number.ensures.in_file in omega (arith, n, h) in
    λ small. c.requires.follows c.in-Known.value c.in-Known.is named in_file small

pub returns-in-Known-clause-inferred : goal.returns-in-Known-clause-inferred
returns-in-Known-clause-inferred g c =
    HasInferred_if _ _ c.learn.result (Knows c.args.point (Register c.args.r) c.in-Known.value) (IsLearntAt c.args.point c.args.r c.args.value) c.learn.ensures.inferred (λ h. learnt_at (state_of g.W.Partial.sets g.W.Transfer.moves g.R.RowRules.rules g.B.ByteFacts.store c.args.self.now) c.args.point c.args.r c.in-Known.value c.args.value c.in-Known.is h)
