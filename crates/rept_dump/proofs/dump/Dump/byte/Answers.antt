use Rattle.std.proofs.Common.{ap}
use Rattle.std.specs.Prelude.{Option, ℕ, slice_index}
use Rattle.std.specs.Option.{option_map, option_or}
use Rattle.rept_elf.specs.Image.{segment_of}
use Rattle.rept_dump.specs.Memory.{bytes_from, kept_byte}
use Rattle.rept_dump.specs.Program.{contents}
use Rattle.rept_dump.specs.Stretch.{sought_saved, fits}
use Rattle.rept_dump.specs.Dump.{exe_of, core_of}
use Rattle.rept_dump.proofs.Stretches.{read_first, read_second}
use Rattle.rept_dump.proofs.dump.Dump.byte.Goals as goal

pub returns-in-Some : goal.returns-in-Some
returns-in-Some c =
    let core = core_of c.args.self.now in
    let a = c.args.a in
    read_first (fits (sought_saved core) a) (λ s. slice_index (bytes_from a s) 0) core (segment_of c.in-Some.segment) c.byte_in.result (kept_byte (contents (exe_of c.args.self.now)) core a)
    (rw c.in-Some.is at c.saved_near.ensures.alike a c.saved_near.ensures.within.0 c.saved_near.ensures.within.1) c.byte_in.ensures

pub returns-in-None : goal.returns-in-None
returns-in-None c =
    let core = core_of c.args.self.now in
    let a = c.args.a in
    read_second (fits (sought_saved core) a) (λ s. slice_index (bytes_from a s) 0) core c.kept.result (kept_byte (contents (exe_of c.args.self.now)) core a)
    (rw c.in-None.is at c.saved_near.ensures.alike a c.saved_near.ensures.within.0 c.saved_near.ensures.within.1) c.kept.ensures
