use Rattle.std.proofs.Common.{sym, ◌∙◌, arith}
use Rattle.rept_log.specs.Fronts.{basis_of, front_of, IsNotInferredBy}
use Rattle.rept_log.proofs.Reasoning.{if_none, not_before_first, not_before_more, not_before_none, not_before_past}
use Rattle.rept_log.proofs.front.Front.inferred_before.Goals as goal

pub loop-least-init : goal.loop-least-init
loop-least-init g c = record { before = not_before_first (front_of g.W.Partial.sets g.W.Transfer.moves g.R.RowRules.rules (basis_of c.args.self.now)) c.args.fact.now; count = c.count-count.ensures.value }

pub loop-least-preserved : goal.loop-least-preserved
loop-least-preserved g c =
    let f = front_of g.W.Partial.sets g.W.Transfer.moves g.R.RowRules.rules (basis_of c.args.self.now) in
    let none = if_none (IsNotInferredBy f c.in-Some.i c.args.fact.now) c.in_ok-found.found (sym c.is_some.ensures ∙ c.if-is_some.false) c.in_ok-found.ensures.none in
    record {
      before = not_before_more f c.args.fact.now c.loop-least.least c.in-Some.i c.in-Some.ensures none c.loop-least.invariant.before;
      count = c.loop-least.invariant.count;
    }

pub returns-in_default-clause-none : goal.returns-in_default-clause-none
returns-in_default-clause-none g c = not_before_none (front_of g.W.Partial.sets g.W.Transfer.moves g.R.RowRules.rules (basis_of c.args.self.now)) c.args.fact.now c.loop-least.least c.in_default.ensures c.loop-least.invariant.before

pub returns-clause-none : goal.returns-clause-none
returns-clause-none g c =
    let count = c.loop-least.invariant.count in
    let test = c.loop-least-test.false in
    not_before_past (front_of g.W.Partial.sets g.W.Transfer.moves g.R.RowRules.rules (basis_of c.args.self.now)) c.args.fact.now c.loop-least.least (omega (arith, count, test)) c.loop-least.invariant.before
