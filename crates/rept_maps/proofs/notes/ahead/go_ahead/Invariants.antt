use Rattle.std.proofs.Common.{◌≡◌, length}
use Rattle.rept_elf.specs.Image.{file_of, segments_of}
use Rattle.rept_maps.specs.Notes.Ahead.{AreLeaps, AreAhead}
use Rattle.rept_maps.specs.Notes.Found.{wanted}
use Rattle.rept_maps.proofs.notes.ahead.go_ahead.Given as goal

abbrev pub invariant-loop-block : goal.invariant-loop-block
invariant-loop-block l = record {
  room : length l.aheads ≡ 4096;
  aheads : AreAhead (wanted l.sought) (segments_of l.core) l.aheads;
  places : length l.leaps ≡ 4096;
  leaps : AreLeaps (wanted l.sought) (file_of l.core) l.leaps;
}
