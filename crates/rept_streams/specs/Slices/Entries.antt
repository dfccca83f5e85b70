-- Slices as they are kept, one after the other. This project's own.
use Rattle.std.specs.Prelude.{◌≡◌, ◌==◌, nat_le, ℕ, List, [], ◌∷◌, Option, Some, None, if◌then◌else◌}
use Rattle.std.specs.List.{list_any}
use Rattle.rept_path.specs.declared.fault.PathFault.{PathFault}
use Rattle.rept_path.specs.declared.fault.PathFault.TheVariants.{UnknownThread, OtherThread}
use Rattle.rept_trace.specs.Packets.{rest_of}
use Rattle.rept_trace.specs.Stream.{Hold}
use Rattle.rept_streams.specs.Slices.Stamps.{clock_of}
use Rattle.rept_streams.specs.Slices.Parts.{ToldSlice}
use Rattle.rept_streams.specs.declared.slices.telling.StreamSlice.{StreamSlice}

pub record IsEntryOf (e : StreamSlice) (t : ToldSlice) : Type 0 where
  pub stream : e.stream ≡ t.stream
  pub number : e.number ≡ t.number
  pub start : e.start ≡ t.start
  pub later : Hold (rest_of e.later) t.later
  pub inside : e.inside ≡ t.inside

abbrev pub AreEntriesOf : List StreamSlice → List ToldSlice → Type 0
AreEntriesOf [] ts = ts ≡ []
AreEntriesOf (e ∷ es) [] = ⊥
AreEntriesOf (e ∷ es) (t ∷ ts) = IsEntryOf e t × AreEntriesOf es ts

-- why a slice is refused for its thread: by the number of its start packet, its thread, and the
-- thread that runs as it begins
abbrev pub judged_inside : ℕ → ℕ → Option ℕ → Option PathFault
judged_inside number thread None = None
judged_inside number thread (Some inside) = if inside == thread then None else Some (OtherThread number thread)

abbrev pub judged : List ℕ → ℕ → ℕ → Option ℕ → Option PathFault
judged threads number thread inside = if list_any (λ known. known == thread) threads then judged_inside number thread inside else Some (UnknownThread number thread)

-- slices of a stream, the first one as it is where nothing before it is known
abbrev pub with_head : List StreamSlice → List StreamSlice
with_head [] = []
with_head (e ∷ es) = record { stream = e.stream; number = e.number; start = e.start; later = e.later; inside = None } ∷ es

-- those from the first one on that begins at a time or later
abbrev pub entries_from : ℕ → List StreamSlice → List StreamSlice
entries_from time [] = []
entries_from time (e ∷ es) = if nat_le time (clock_of e.start) then with_head (e ∷ es) else entries_from time es
