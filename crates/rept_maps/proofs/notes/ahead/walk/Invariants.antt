use Rattle.std.proofs.Common.{length}
use Rattle.rept_maps.specs.Notes.Ahead.{IsAhead}
use Rattle.rept_maps.specs.Notes.Found.{wanted}
use Rattle.rept_maps.proofs.notes.ahead.walk.Given as goal

abbrev pub invariant-loop-ahead : goal.invariant-loop-ahead
invariant-loop-ahead l = IsAhead (wanted l.sought) l.at l.bytes l.ahead

abbrev pub decreases-loop-ahead : goal.decreases-loop-ahead
decreases-loop-ahead l = length l.ahead.rest.now
