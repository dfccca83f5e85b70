use Rattle.std.proofs.Common.{◌∙◌, ◌+◌, ◌-◌, length, take}
use Rattle.std.specs.List.{range_with_len}
use Rattle.rept_findings.specs.Texts.{at}
use Rattle.rept_remote.specs.Moves.Halts.{is_stop}
use Rattle.rept_remote.proofs.MovesLemmas.Forward.{one_byte_more}
use Rattle.rept_remote.proofs.moves.moves.first_stop.Goals as goal

pub loop-address-preserved : goal.loop-address-preserved
loop-address-preserved g c =
    let s = g.F.Findings.shown c.args.findings.now in
    let t = c.args.here.thread in
    let breaks = c.args.breaks.now in
    let addresses = c.args.addresses.now in
    let i = c.loop-address.address-index in
    record {
      first = c.earlier-first.ensures.value (λ p. is_stop s breaks (take i addresses) (at t p)) c.loop-address.invariant.first
          ∙ one_byte_more s breaks addresses t (range_with_len (c.args.here.point + 1) (length (s.rows t) - c.args.here.point)) i 0 c.loop-address-test.true;
      within = c.earlier-first.ensures.within;
    }
