use Rattle.std.proofs.Common.{ap, sym}
use Rattle.std.specs.Prelude.{slice_index}
use Rattle.std.specs.Option.{option_map}
use Rattle.rept_elf.specs.Image.{segment_of}
use Rattle.rept_dump.specs.Code.{parts_of}
use Rattle.rept_dump.specs.Memory.{bytes_from}
use Rattle.rept_dump.specs.Stretch.{sought_kept, fits}
use Rattle.rept_dump.proofs.Stretches.{read_found}
use Rattle.rept_dump.proofs.executable.Executable.kept.Goals as goal

pub returns-in-Some : goal.returns-in-Some
returns-in-Some c =
    let exe = parts_of c.args.self.now.code in
    let a = c.args.a in
    read_found (fits (sought_kept exe) a) (λ s. slice_index (bytes_from a s) 0) exe (segment_of c.in-Some.segment) c.byte_in.result
    (rw c.in-Some.is at c.stretch.ensures.alike a c.stretch.ensures.within.0 c.stretch.ensures.within.1) c.byte_in.ensures

pub returns-in-None : goal.returns-in-None
returns-in-None c =
    let a = c.args.a in
    sym (ap (option_map (λ s. slice_index (bytes_from a s) 0)) (rw c.in-None.is at c.stretch.ensures.alike a c.stretch.ensures.within.0 c.stretch.ensures.within.1))
