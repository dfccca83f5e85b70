use Rattle.std.proofs.Common.{◌≡◌, take, map}
use Rattle.rept_elf.specs.Image.{file_of}
use Rattle.rept_maps.specs.Mapped.Naming.{asked_in}
use Rattle.rept_maps.specs.Mapped.Views.{asked_of}
use Rattle.rept_maps.proofs.mapped.naming.ask.Given as goal

abbrev pub invariant-loop-i : goal.invariant-loop-i
invariant-loop-i l = map asked_of l.more.items ≡ map (asked_in (file_of l.image) l.mapping) (map asked_of (take l.i l.asked))
