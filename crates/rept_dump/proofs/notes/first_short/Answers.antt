use Rattle.std.proofs.Common.{List, length, refl, sym, ◌∙◌, ap}
use Rattle.std.specs.List.{filter}
use Rattle.std.specs.Option.{option_map}
use Rattle.rept_elf.specs.Image.{file_of, segments_of}
use Rattle.rept_maps.specs.Notes.Notes.{Note, note_segments}
use Rattle.rept_maps.specs.Notes.Sought.{is_short}
use Rattle.rept_maps.proofs.NotesLemmas.NoteLemmas.{found_said, cut_said, same_all}
use Rattle.rept_dump.specs.Registers.{is_status, first_short, status_size}
use Rattle.rept_dump.proofs.NoteLemmas.{short_is_first}
use Rattle.rept_dump.proofs.notes.first_short.Goals as goal

pub returns-in-Ok-clause-ok : goal.returns-in-Ok-clause-ok
returns-in-Ok-clause-ok c notes have =
    let size = length (file_of c.args.core.now) in
    let ss = segments_of c.args.core.now in
    let f = found_said (is_short 1 status_size) size ss c.in-Ok.found c.in-Ok.ensures.said in
    c.size_of.ensures ∙ ap (option_map (λ (n : Note). length n.desc)) f.2.first ∙ sym (short_is_first f.0) ∙ ap (λ (ns : List Note). first_short (filter is_status ns)) (same_all size (note_segments ss) f.0 notes f.1 have)

pub returns-in-Err-clause-cut : goal.returns-in-Err-clause-cut
returns-in-Err-clause-cut c = (c.in-Err.cut.offset, cut_said (is_short 1 status_size) (length (file_of c.args.core.now)) (segments_of c.args.core.now) c.in-Err.cut.offset c.in-Err.ensures.said, refl)
