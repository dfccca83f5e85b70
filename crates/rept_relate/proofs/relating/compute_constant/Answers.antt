use Rattle.std.proofs.lemmas.Result.{on_ok_weaker, on_err_weaker}
use Rattle.rept_relate.proofs.Rowing.{of_constant}
use Rattle.rept_relate.proofs.relating.compute_constant.Goals as goal

pub returns-clause-keeps : goal.returns-clause-keeps
returns-clause-keeps c = on_ok_weaker c.compute.result (λ keeps value h valued results.
    let r = c.in_ok-first.ensures.keeps value h.zero h.small valued in
    keeps value (h.zero, of_constant value c.args.op c.args.node c.args.base c.args.constant c.in_ok-first.first c.ranges.constant.fits h r.1) r.0 results) c.compute.ensures.keeps

pub returns-clause-refuses : goal.returns-clause-refuses
returns-clause-refuses c = on_err_weaker c.compute.result (λ refuses value h valued results.
    let r = c.in_ok-first.ensures.keeps value h.zero h.small valued in
    refuses value (h.zero, of_constant value c.args.op c.args.node c.args.base c.args.constant c.in_ok-first.first c.ranges.constant.fits h r.1) r.0 results) c.compute.ensures.refuses
