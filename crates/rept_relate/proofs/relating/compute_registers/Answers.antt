use Rattle.std.proofs.lemmas.Result.{on_ok_weaker, on_err_weaker}
use Rattle.rept_relate.proofs.Rowing.{of_terms}
use Rattle.rept_relate.proofs.relating.compute_registers.Goals as goal

pub returns-clause-keeps : goal.returns-clause-keeps
returns-clause-keeps c = on_ok_weaker c.compute.result (λ keeps value h valued results.
    let r = c.in_ok-first.ensures.keeps value h.zero h.small_first valued in
    let q = c.in_ok-second.ensures.keeps value h.zero h.small_second r.0 in
    keeps value (h.zero, of_terms value c.args.op c.args.node c.args.nodes.first c.args.nodes.second c.in_ok-first.first c.in_ok-second.second h r.1 q.1) q.0 results) c.compute.ensures.keeps

pub returns-clause-refuses : goal.returns-clause-refuses
returns-clause-refuses c = on_err_weaker c.compute.result (λ refuses value h valued results.
    let r = c.in_ok-first.ensures.keeps value h.zero h.small_first valued in
    let q = c.in_ok-second.ensures.keeps value h.zero h.small_second r.0 in
    refuses value (h.zero, of_terms value c.args.op c.args.node c.args.nodes.first c.args.nodes.second c.in_ok-first.first c.in_ok-second.second h r.1 q.1) q.0 results) c.compute.ensures.refuses
