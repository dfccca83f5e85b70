use Rattle.std.proofs.lemmas.Result.{IfOk-weaker}
use Rattle.rept_infer.proofs.round.finish.Goals as goal

pub returns : goal.returns
returns c = IfOk-weaker c.of.result _ _ (λ l f memory t. f memory (c.in_ok-spans.ensures memory t)) c.of.ensures
