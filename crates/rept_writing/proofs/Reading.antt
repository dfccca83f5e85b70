-- The row at an index of the list.
use Rattle.std.proofs.Common.{◌≡◌, ℕ, ◌<◌, List, length, get_or, ap}
use Rattle.std.proofs.lemmas.Option.{slice_get-get_or}
use Rattle.rept_alias.specs.Accesses.{call_hits}
use Rattle.rept_writing.specs.declared.list.Writing.{Writing}
use Rattle.rept_writing.specs.Hits.{hits_at, writing_hits}

pub hits_read : (list : List Writing) (j a : ℕ) (d : Writing) → j < length list → hits_at list j a ≡ call_hits (get_or list j d).access a
hits_read list j a d lt = ap (λ w. writing_hits w a) (slice_get-get_or list j d lt)
