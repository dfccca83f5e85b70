use Rattle.std.proofs.Common.{◌∷◌, [], arith}
use Rattle.rept_trace.specs.Grammar.{timed}
use Rattle.rept_encode.specs.Weaving.Woven.{ended}
use Rattle.rept_encode.proofs.WeavingLemmas.Stamping.{adds_one}
use Rattle.rept_encode.proofs.WeavingLemmas.Weaving.{ended_spells}
use Rattle.rept_encode.proofs.weaving.writer.push_ended.Goals as goal

pub returns : goal.returns
returns c = adds_one c.args.out.now _ (79 ∷ []) c.in_ok-push.ensures.ok (omega arith) (timed c.args.halves) ended (ended_spells c.args.halves)
