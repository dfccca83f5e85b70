use Rattle.std.proofs.lemmas.Result.{on_ok_weaker, on_err_weaker}
use Rattle.rept_relate.proofs.Summing.{plain_sum}
use Rattle.rept_relate.proofs.rules.join_sum.Goals as goal

pub returns-clause-keeps : goal.returns-clause-keeps
returns-clause-keeps c = on_ok_weaker c.join.result (λ keeps value e valued. keeps value valued (plain_sum value c.args.node c.args.sum e)) c.join.ensures.keeps

pub returns-clause-refuses : goal.returns-clause-refuses
returns-clause-refuses c = on_err_weaker c.join.result (λ refuses value e valued. refuses value valued (plain_sum value c.args.node c.args.sum e)) c.join.ensures.refuses
