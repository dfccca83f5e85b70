use Rattle.std.proofs.Common.{◌≡◌, ℕ, List, Some, length, slice_get, arith, sym, ap, subst}
use Rattle.std.specs.List.{filter}
use Rattle.rept_maps.specs.Notes.Found.{note_of}
use Rattle.rept_dump.specs.Registers.{is_status}
use Rattle.rept_dump.proofs.ThreadLemmas.{desc_at, length-descs}
use Rattle.rept_dump.proofs.threads.search_core.Goals as goal

pub returns-in-Some : goal.returns-in-Some
returns-in-Some c = λ descs h.
    subst (λ (ds : List (List ℕ)). slice_get ds c.args.skip ≡ Some c.in-Some.note.desc.now) (sym h.2) (desc_at (filter is_status h.0) c.args.skip (note_of c.in-Some.note) (c.in-Some.ensures h.0 h.1))

pub returns-in-None : goal.returns-in-None
returns-in-None c = λ descs h. omega (arith, ap (length {A = List ℕ}) h.2, length-descs (filter is_status h.0), c.in-None.ensures h.0 h.1)
