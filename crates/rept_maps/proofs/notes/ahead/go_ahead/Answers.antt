use Rattle.std.proofs.Common.{refl}
use Rattle.rept_elf.specs.Image.{file_of}
use Rattle.rept_maps.specs.Notes.Found.{wanted}
use Rattle.rept_maps.proofs.NotesLemmas.Leaping.{no_leaps}
use Rattle.rept_maps.proofs.notes.ahead.go_ahead.Goals as goal

pub loop-block-init : goal.loop-block-init
loop-block-init c = record {
  room = c.requires.room;
  aheads = c.requires.aheads;
  places = refl;
  leaps = no_leaps (wanted c.args.sought) (file_of c.args.core.now) 4096;
}
