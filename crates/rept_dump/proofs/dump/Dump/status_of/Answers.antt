use Rattle.std.proofs.Common.{◌≡◌, length, Some, slice_get, ℕ, subst, sym}
use Rattle.rept_elf.specs.Image.{file_of, segments_of}
use Rattle.rept_dump.specs.Dump.{registers_of}
use Rattle.rept_dump.proofs.ThreadLemmas.{is_first, found_long, is_found}
use Rattle.rept_dump.proofs.dump.Dump.status_of.Goals as goal

pub returns-then-t-eq0 : goal.returns-then-t-eq0
returns-then-t-eq0 c = λ descs h.
    let d = c.args.self.now in
    (registers_of d, subst (λ (k : ℕ). slice_get descs k ≡ Some (registers_of d)) (sym c.if-t-eq0.true) (is_first (length (file_of d.core)) (segments_of d.core) (registers_of d) d.threads d.are_threads descs h), c.status.ensures)

pub read_status-requires : goal.read_status-requires
read_status-requires c =
    let d = c.args.self.now in
    found_long (length (file_of d.core)) (segments_of d.core) (registers_of d) d.threads c.args.t c.in-Some.desc.now d.are_threads c.in-Some.ensures

pub unreachable-requires : goal.unreachable-requires
unreachable-requires c =
    let d = c.args.self.now in
    is_found (length (file_of d.core)) (segments_of d.core) (registers_of d) d.threads c.args.t d.are_threads c.requires c.in-None.ensures
