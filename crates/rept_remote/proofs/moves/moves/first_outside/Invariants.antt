use Rattle.std.proofs.Common.{◌≡◌, ◌+◌, ◌-◌, length}
use Rattle.std.specs.List.{find, range_with_len}
use Rattle.rept_findings.specs.Texts.{at}
use Rattle.rept_remote.specs.Moves.Halts.{is_outside}
use Rattle.rept_remote.proofs.moves.moves.first_outside.Given as goal

abbrev pub invariant-loop-next : goal.invariant-loop-next
invariant-loop-next g l =
    let s = g.F.Findings.shown l.findings in
    let rows = s.rows l.here.thread in
    find (λ p. is_outside s l.range (at l.here.thread p)) (range_with_len (l.here.point + 1) (length rows - l.here.point)) ≡ find (λ p. is_outside s l.range (at l.here.thread p)) (range_with_len l.next (length rows + 1 - l.next))
