use Rattle.std.proofs.Common.{get_or, refl, ◌∙◌}
use Rattle.rept_narrow.proofs.Sweeping.{none_listed, all_listed}
use Rattle.rept_narrow.proofs.lanes.sweep.Sweep.let_all_go.Goals as goal

pub loop-index-preserved : goal.loop-index-preserved
loop-index-preserved c =
    let i = c.loop-index.invariant in
    record {
      point = c.let_go.ensures.point ∙ i.point;
      holds = λ memory t. c.in_ok-let_go.ensures.holds memory (i.holds memory t);
      rest = λ a h e. let r = c.let_go.ensures.rest a h e in let before = i.rest a h r.0 in (before.0, none_listed c.args.list.now c.loop-index.index a (get_or c.args.list.now c.loop-index.index 0) 0 refl r.1 before.1);
    }

pub returns-clause-rest : goal.returns-clause-rest
returns-clause-rest c =
    let past = c.loop-index-test.false in
    λ a h e. let r = c.loop-index.invariant.rest a h e in (r.0, all_listed c.args.list.now c.loop-index.index a past r.1)
