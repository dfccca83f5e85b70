use Rattle.rept_timeline.specs.Paths.{lawful}
use Rattle.std.proofs.Common.{ℕ, sym, subst, ◌∙◌, arith}
use Rattle.std.proofs.lemmas.Bool.{false≢true}
use Rattle.rept_report.specs.Log.{oldest}
use Rattle.rept_report.specs.Reasons.{StandsIn}
use Rattle.rept_facts.specs.Reasoned.{AreSetsOf}
use Rattle.rept_facts.specs.State.{setting_of, state_of}
use Rattle.rept_facts.proofs.Explaining.{front_more}
use Rattle.rept_facts.proofs.Fronts.{stands_all}
use Rattle.rept_analysis.proofs.analysis.Analysis.least_front.Goals as goal

pub loop-low-init : goal.loop-low-init
loop-low-init g c =
    let e = c.len-high.ensures.value in
    record {
      low = omega arith;
      high = omega (arith, e);
      sets = c.requires.sets;
      stands = subst (λ (t : ℕ). StandsIn (setting_of g.W.Partial.sets g.W.Transfer.moves g.R.RowRules.rules c.args.self.now.propagation.facts) (oldest t c.args.self.now.propagation.facts.known.log) c.args.fact.now) (sym e) (stands_all (state_of g.W.Partial.sets g.W.Transfer.moves g.R.RowRules.rules g.B.ByteFacts.store c.args.self.now.propagation.facts) (record { sets = g.met.W.Partial.lawful; moves = g.met.W.Transfer.covers; rules = g.met.R.RowRules.lawful; legs = (lawful c.args.self.now.propagation.facts.paths).legs; moments = (lawful c.args.self.now.propagation.facts.paths).moments }) c.held.ensures (c.held.ensures.finished c.requires.complete) c.args.fact.now c.requires.known);
      below = λ u less. absurd (omega (arith, less));
    }

pub stands_below-requires-clause-sets : goal.stands_below-requires-clause-sets
stands_below-requires-clause-sets g c = subst (λ (t : ℕ). AreSetsOf (setting_of g.W.Partial.sets g.W.Transfer.moves g.R.RowRules.rules c.args.self.now.propagation.facts) (oldest t c.args.self.now.propagation.facts.known.log) c.fill_to.new.sets.spans) c.fill_to.ensures.limit c.fill_to.ensures.sets

pub loop-low-preserved-then-stands : goal.loop-low-preserved-then-stands
loop-low-preserved-then-stands g c =
    let i = c.loop-low.invariant in
    let high = i.high in
    let from = c.probe-limit.ensures.from in
    let below = c.probe-limit.ensures.below in
    record {
      low = from;
      high = omega (arith, below, high);
      sets = c.fill_to.ensures.sets;
      stands = c.in_ok-stands.ensures.0 c.if-stands.true;
      below = i.below;
    }

pub loop-low-preserved : goal.loop-low-preserved
loop-low-preserved g c =
    let i = c.loop-low.invariant in
    let below = c.probe-limit.ensures.below in
    let limit = c.probe-limit.result in
    record {
      low = omega (arith, below);
      high = i.high;
      sets = c.fill_to.ensures.sets;
      stands = i.stands;
      below = λ u here h. false≢true (sym c.if-stands.false ∙ c.in_ok-stands.ensures.1 (front_more (state_of g.W.Partial.sets g.W.Transfer.moves g.R.RowRules.rules g.B.ByteFacts.store c.args.self.now.propagation.facts) (record { sets = g.met.W.Partial.lawful; moves = g.met.W.Transfer.covers; rules = g.met.R.RowRules.lawful; legs = (lawful c.args.self.now.propagation.facts.paths).legs; moments = (lawful c.args.self.now.propagation.facts.paths).moments }) c.held.ensures (c.held.ensures.finished c.requires.complete) u limit c.args.fact.now (omega (arith, here)) h));
    }
