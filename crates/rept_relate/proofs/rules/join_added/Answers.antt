use Rattle.std.proofs.lemmas.Result.{on_ok_weaker, on_err_weaker}
use Rattle.rept_relate.proofs.Summing.{sum_of_first, sum_of_second}
use Rattle.rept_relate.proofs.rules.join_added.Goals as goal

pub returns-then-second-eq0-clause-keeps : goal.returns-then-second-eq0-clause-keeps
returns-then-second-eq0-clause-keeps c =
    on_ok_weaker c.join_sum.result (λ keeps value h valued. keeps value (sum_of_first value c.args.node c.args.first c.args.second h.0 c.if-second-eq0.true h.1) valued) c.join_sum.ensures.keeps

pub returns-then-second-eq0-clause-refuses : goal.returns-then-second-eq0-clause-refuses
returns-then-second-eq0-clause-refuses c =
    on_err_weaker c.join_sum.result (λ refuses value h valued. refuses value (sum_of_first value c.args.node c.args.first c.args.second h.0 c.if-second-eq0.true h.1) valued) c.join_sum.ensures.refuses

pub returns-then-first-eq0-clause-keeps : goal.returns-then-first-eq0-clause-keeps
returns-then-first-eq0-clause-keeps c =
    on_ok_weaker c.join_sum-then-first-eq0.result (λ keeps value h valued. keeps value (sum_of_second value c.args.node c.args.first c.args.second h.0 c.if-first-eq0.true h.1) valued) c.join_sum-then-first-eq0.ensures.keeps

pub returns-then-first-eq0-clause-refuses : goal.returns-then-first-eq0-clause-refuses
returns-then-first-eq0-clause-refuses c =
    on_err_weaker c.join_sum-then-first-eq0.result (λ refuses value h valued. refuses value (sum_of_second value c.args.node c.args.first c.args.second h.0 c.if-first-eq0.true h.1) valued) c.join_sum-then-first-eq0.ensures.refuses
