-- What maps and entries of the code stand for.
use Rattle.std.specs.Prelude.{ℕ, List, Result, Ok, Err}
use Rattle.rept_maps.specs.FileMap.{MapEntry}
use Rattle.rept_maps.specs.declared.entry.Entry.{Entry}
use Rattle.rept_maps.specs.declared.fault.MapFault.{MapFault}
use Rattle.rept_maps.specs.declared.maps.Maps.{Maps}

-- the descriptor of the file note
abbrev pub desc_of : Maps → List ℕ
desc_of maps = maps.desc.now

-- what was said of the core file's file note
abbrev pub said_of : Result Maps MapFault → Result (List ℕ) MapFault
said_of (Ok maps) = Ok (desc_of maps)
said_of (Err fault) = Err fault

-- the fields and the name of an entry
abbrev pub entry_of : Entry → MapEntry
entry_of e = record { start = e.start; end = e.end; offset = e.offset; name = e.name.now }
