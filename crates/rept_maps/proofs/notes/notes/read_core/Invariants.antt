use Rattle.std.proofs.Common.{◌*◌, ◌≤◌, length, drop}
use Rattle.rept_elf.specs.Image.{file_of, segments_of}
use Rattle.rept_maps.specs.Notes.Notes.{note_segments}
use Rattle.rept_maps.specs.Notes.Found.{wanted}
use Rattle.rept_maps.proofs.NotesLemmas.NoteLemmas.{Through}
use Rattle.rept_maps.proofs.notes.notes.read_core.Given as goal

abbrev pub invariant-loop-i : goal.invariant-loop-i
invariant-loop-i l = record {
  few : l.found.count ≤ l.i * 4294967296;
  through : Through (wanted l.sought) (length (file_of l.core)) (note_segments (segments_of l.core)) (note_segments (drop l.i (segments_of l.core))) l.found;
}
