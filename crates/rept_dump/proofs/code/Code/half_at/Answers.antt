use Rattle.std.proofs.Common.{ap, sym}
use Rattle.std.specs.Option.{option_map}
use Rattle.rept_elf.specs.Header.{half_at}
use Rattle.rept_elf.specs.Image.{segments_of, segment_of}
use Rattle.rept_dump.specs.Memory.{bytes_from}
use Rattle.rept_dump.specs.Stretch.{sought_half, fits}
use Rattle.rept_dump.proofs.Stretches.{read_found}
use Rattle.rept_dump.proofs.code.Code.half_at.Goals as goal

pub returns-in-Some : goal.returns-in-Some
returns-in-Some c =
    let exe = segments_of c.args.self.now.exe in
    let a = c.args.a in
    read_found (fits (sought_half exe) a) (λ s. half_at (bytes_from a s) 0) exe (segment_of c.in-Some.segment) c.half_in.result
    (rw c.in-Some.is at c.half_stretch.ensures.alike a c.half_stretch.ensures.within.0 c.half_stretch.ensures.within.1) c.half_in.ensures

pub returns-in-None : goal.returns-in-None
returns-in-None c =
    let a = c.args.a in
    sym (ap (option_map (λ s. half_at (bytes_from a s) 0)) (rw c.in-None.is at c.half_stretch.ensures.alike a c.half_stretch.ensures.within.0 c.half_stretch.ensures.within.1))
