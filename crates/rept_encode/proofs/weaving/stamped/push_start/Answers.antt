use Rattle.std.proofs.Common.{List, ℕ, sym, subst}
use Rattle.rept_trace.specs.declared.packet.Packet.TheVariants.{Start}
use Rattle.rept_trace.specs.Grammar.{timed, IsPacket}
use Rattle.rept_encode.proofs.WeavingLemmas.Stamping.{start_spells}
use Rattle.rept_encode.proofs.weaving.stamped.push_start.Goals as goal

pub returns : goal.returns
returns c = c.in_ok-push_payload.ensures (timed c.args.halves) (Start c.args.start.now.branch 0 c.args.start.now.address c.args.start.now.time c.args.start.now.context) (subst (λ (xs : List ℕ). IsPacket (timed c.args.halves) xs (Start c.args.start.now.branch 0 c.args.start.now.address c.args.start.now.time c.args.start.now.context)) (sym c.bytes.ensures) (subst (λ (xs : List ℕ). IsPacket (timed c.args.halves) xs (Start c.args.start.now.branch 0 c.args.start.now.address c.args.start.now.time c.args.start.now.context)) (sym c.in_ok-payload.ensures.bytes) (start_spells c.args.halves c.args.start.now c.in_ok-payload.ensures.small c.in_ok-payload.ensures.soon c.in_ok-payload.ensures.few c.requires)))
