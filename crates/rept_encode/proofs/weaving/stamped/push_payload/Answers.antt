use Rattle.std.proofs.Common.{◌++◌, ◌∷◌, [], List, ℕ, length, ◌∙◌, ap, append_assoc}
use Rattle.rept_encode.proofs.WeavingLemmas.Stamping.{adds_one}
use Rattle.rept_encode.proofs.weaving.stamped.push_payload.Goals as goal

pub returns : goal.returns
returns c = λ widths packet spells. adds_one c.args.out.now _ c.cut-payload.result.now (c.in_ok-push-2.ensures.ok ∙ ap (λ (xs : List ℕ). xs ++ c.cut-payload.result.now) c.in_ok-push.ensures.ok ∙ append_assoc c.args.out.now (length c.cut-payload.result.now ∷ []) c.cut-payload.result.now) c.cut-payload.ensures.some widths packet (c.cut-payload.ensures.spells widths packet spells)
