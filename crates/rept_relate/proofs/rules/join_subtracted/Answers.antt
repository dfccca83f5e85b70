use Rattle.std.proofs.Common.{◌<◌, ◌^◌, rules}
use Rattle.std.proofs.lemmas.Result.{on_ok_weaker, on_err_weaker}
use Rattle.rept_relate.proofs.Summing.{rest_of_first, rest_of_alike}
use Rattle.rept_relate.proofs.rules.join_subtracted.Goals as goal

pub returns-then-second-eq0-clause-keeps : goal.returns-then-second-eq0-clause-keeps
returns-then-second-eq0-clause-keeps c =
    let small : c.args.second.offset < 2 ^ 32 = search rules in
    on_ok_weaker c.join_sum.result (λ keeps value h valued. keeps value (rest_of_first value c.args.node c.args.first c.args.second h.0 c.if-second-eq0.true small h.1) valued) c.join_sum.ensures.keeps

pub returns-then-second-eq0-clause-refuses : goal.returns-then-second-eq0-clause-refuses
returns-then-second-eq0-clause-refuses c =
    let small : c.args.second.offset < 2 ^ 32 = search rules in
    on_err_weaker c.join_sum.result (λ refuses value h valued. refuses value (rest_of_first value c.args.node c.args.first c.args.second h.0 c.if-second-eq0.true small h.1) valued) c.join_sum.ensures.refuses

pub returns-then-first-second-clause-keeps : goal.returns-then-first-second-clause-keeps
returns-then-first-second-clause-keeps c =
    let small : c.args.second.offset < 2 ^ 32 = search rules in
    on_ok_weaker c.join_sum-then-first-second.result (λ keeps value h valued. keeps value (rest_of_alike value c.args.node c.args.first c.args.second h.0 c.if-first-second.true small h.1) valued) c.join_sum-then-first-second.ensures.keeps

pub returns-then-first-second-clause-refuses : goal.returns-then-first-second-clause-refuses
returns-then-first-second-clause-refuses c =
    let small : c.args.second.offset < 2 ^ 32 = search rules in
    on_err_weaker c.join_sum-then-first-second.result (λ refuses value h valued. refuses value (rest_of_alike value c.args.node c.args.first c.args.second h.0 c.if-first-second.true small h.1) valued) c.join_sum-then-first-second.ensures.refuses
