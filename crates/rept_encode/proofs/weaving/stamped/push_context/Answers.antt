use Rattle.std.proofs.Common.{List, ℕ, ◌∙◌, take, sym, subst, ap, arith}
use Rattle.std.specs.Int.{w128, to_le_bytes}
use Rattle.rept_trace.specs.declared.packet.Packet.TheVariants.{Context}
use Rattle.rept_trace.specs.Grammar.{timed, IsPacket}
use Rattle.rept_encode.proofs.WeavingLemmas.Stamping.{context_spells}
use Rattle.rept_encode.proofs.weaving.stamped.push_context.Goals as goal

pub returns : goal.returns
returns c =
    let t = c.ranges.time.fits in
    let x = c.ranges.context.fits in
    c.in_ok-push_payload.ensures (timed c.args.halves) (Context 0 c.args.time c.args.context) (subst (λ (xs : List ℕ). IsPacket (timed c.args.halves) (take 13 xs) (Context 0 c.args.time c.args.context)) (sym (c.to_le_bytes-bytes.ensures ∙ ap (to_le_bytes w128) c.context_number.ensures)) (context_spells c.args.time c.args.context (omega arith) (omega arith) c.args.halves))
