use Rattle.std.proofs.Common.{◌≡◌, ◌<◌, ◌≤◌, ◌+◌, ◌-◌, length, take, IfSome}
use Rattle.std.specs.List.{find, range_with_len}
use Rattle.rept_findings.specs.Texts.{at}
use Rattle.rept_remote.specs.Moves.Halts.{is_stop}
use Rattle.rept_remote.proofs.moves.moves.first_stop.Given as goal

abbrev pub invariant-loop-address : goal.invariant-loop-address
invariant-loop-address g l =
    let s = g.F.Findings.shown l.findings in
    let rows = s.rows l.here.thread in
    record {
      first : l.first ≡ find (λ p. is_stop s l.breaks (take l.address-index l.addresses) (at l.here.thread p)) (range_with_len (l.here.point + 1) (length rows - l.here.point));
      within : IfSome l.first (λ f. (l.here.point < f) × (f ≤ length rows));
    }
