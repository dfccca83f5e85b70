use Rattle.rept_timeline.specs.Paths.{lawful}
use Rattle.std.proofs.Common.{◌+◌, ◌/◌, ◌-◌, List, subst, arith}
use Rattle.rept_reason.specs.declared.fact.Fact.{Fact}
use Rattle.rept_reason.specs.Facts.{told}
use Rattle.rept_report.specs.Log.{oldest}
use Rattle.rept_report.specs.Conflicts.{IsQuiet}
use Rattle.rept_report.proofs.Places.{oldest_all}
use Rattle.rept_log.specs.Known.{Known}
use Rattle.rept_facts.specs.State.{state_of, Subject, along}
use Rattle.rept_facts.proofs.Ending.{Same_itself, Same_trans, back_to}
use Rattle.rept_facts.proofs.Stopping.{quiet_before}
use Rattle.rept_analysis.proofs.analysis.Analysis.bisect.Goals as goal

pub loop-low-init : goal.loop-low-init
loop-low-init g c =
    let s = state_of g.W.Partial.sets g.W.Transfer.moves g.R.RowRules.rules g.B.ByteFacts.store c.args.self.now.propagation.facts in
    let e = c.len-high.ensures.value in
    let all = oldest_all c.len-high.result s.known.log (omega (arith, e)) in
    record {
      same = Same_itself s;
      low = omega arith;
      high = omega (arith, e);
      quiet = λ u below. absurd (omega (arith, below));
      loud = λ q. c.requires.loud (subst (λ (fs : List Fact). IsQuiet (along s.path) (told fs)) all q);
    }

pub loop-low-preserved-then-quiet : goal.loop-low-preserved-then-quiet
loop-low-preserved-then-quiet g c =
    let a = state_of g.W.Partial.sets g.W.Transfer.moves g.R.RowRules.rules g.B.ByteFacts.store c.args.self.now.propagation.facts in
    let b = state_of g.W.Partial.sets g.W.Transfer.moves g.R.RowRules.rules g.B.ByteFacts.store c.loop-low.self.propagation.facts in
    let i = c.loop-low.invariant in
    let less = c.loop-low-test.true in
    let middle = c.loop-low.low + (c.loop-low.high - c.loop-low.low) / 2 in
    let here = back_to a b i.same (λ (P : Subject g.row.W.Denot) (k : Known). IsQuiet (along P) (told (oldest middle k.log))) (c.is_quiet-quiet.ensures.quiet c.if-quiet.true) in
    record {
      same = Same_trans a b _ i.same c.is_quiet-quiet.ensures.same;
      low = omega (arith, less);
      high = i.high;
      quiet = λ u below. quiet_before a (record { sets = g.met.W.Partial.lawful; moves = g.met.W.Transfer.covers; rules = g.met.R.RowRules.lawful; legs = (lawful c.args.self.now.propagation.facts.paths).legs; moments = (lawful c.args.self.now.propagation.facts.paths).moments }) c.held.ensures middle u (omega (arith, below)) here;
      loud = i.loud;
    }
