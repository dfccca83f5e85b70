-- Which files of a list of mapped files are loaded, and what is kept of them. This project's own.
use Rattle.std.specs.Prelude.{ℕ, zero, suc, ◌+◌, ◌<◌, ◌≤◌, ◌-◌, min, List, [], ◌∷◌, ◌++◌, length, take, Bool, ◌≡◌, ◌&&◌, nat_le, slice_get, Option, None, Some, is_none, is_some, if◌then◌else◌}
use Rattle.std.specs.List.{position}
use Rattle.std.specs.Option.{option_and_then, option_map_or}
use Rattle.std.specs.Str.{bytes_eq}
use Rattle.rept_elf.specs.Checks.{checks, first_failure}
use Rattle.rept_elf.specs.declared.fault.Want.TheVariants.{Shared}
use Rattle.rept_maps.specs.FileMap.{map_count, names}
use Rattle.rept_ports.specs.Causes.{Rose, next_count}
use Rattle.rept_ports.specs.Port.{PortMove}
use Rattle.rept_ports.specs.Shelves.{Files, Shelved}
use Rattle.rept_maps.specs.declared.mapfiles.load.LoadStop.{LoadStop}
use Rattle.rept_maps.specs.declared.mapfiles.load.LoadStop.TheVariants as stops

-- the place of a name among these
abbrev pub place_in : List (List ℕ) → List ℕ → Option ℕ
place_in names name = position (λ n. bytes_eq n name) names

-- these names, each at its first place, without those that were seen
abbrev pub distinct_from : List (List ℕ) → List (List ℕ) → List (List ℕ)
distinct_from seen [] = []
distinct_from seen (n ∷ ns) = if is_some (place_in seen n) then distinct_from seen ns else n ∷ distinct_from (seen ++ n ∷ []) ns

-- the most names that are loaded, the most bytes of one file, and of all files together
abbrev pub most_names : ℕ
most_names = 64

abbrev pub most_bytes : ℕ
most_bytes = 67108864

abbrev pub most_in_all : ℕ
most_in_all = 536870912

-- the names of a file note's entries
abbrev pub names_of : List ℕ → List (List ℕ)
names_of desc = take (map_count desc) (names desc)

-- the names of a file note's entries that are loaded: the first 64 of them that differ, in table
-- order, the empty one among them
abbrev pub asked_names : List ℕ → List (List ℕ)
asked_names desc = take most_names (distinct_from [] (names_of desc))

-- the bytes are those of an executable or a shared object that passes the checks
abbrev pub is_image : List ℕ → Bool
is_image bytes = is_none (first_failure (checks Shared bytes))

-- what is kept of the file of a name: its bytes where it is there, is within the limit and has an
-- image
abbrev pub kept_by : Files → ℕ → List ℕ → Option (List ℕ)
kept_by files limit name = option_and_then (λ bytes. if nat_le (length bytes) limit && is_image bytes then Some bytes else None) (files name)

-- the bytes that it takes
abbrev pub taken : Option (List ℕ) → ℕ
taken kept = option_map_or length kept 0

-- the bytes that all of these take
abbrev pub total : List (Option (List ℕ)) → ℕ
total [] = 0
total (k ∷ ks) = taken k + total ks

-- What is kept of these names, one after the other, with room for so many bytes: a file that
-- doesn't fit in what is left of it is passed over.
abbrev pub kept_all : Files → ℕ → List (List ℕ) → List (Option (List ℕ))
kept_all files room [] = []
kept_all files room (n ∷ ns) = kept_by files (min most_bytes room) n ∷ kept_all files (room - taken (kept_by files (min most_bytes room) n)) ns

-- what is kept at a place
abbrev pub kept_in : List (Option (List ℕ)) → ℕ → Option (List ℕ)
kept_in kept place = option_map_or (λ k. k) (slice_get kept place) None

-- what is kept of the file of a name, where that is one of those that are loaded
abbrev pub kept_at : List (List ℕ) → List (Option (List ℕ)) → List ℕ → Option (List ℕ)
kept_at names kept name = option_and_then (kept_in kept) (place_in names name)

-- the bytes, if they have an image
abbrev pub as_image : List ℕ → Option (List ℕ)
as_image bytes = if is_image bytes then Some bytes else None

-- the same, if they have an image
abbrev pub image_at : List (List ℕ) → List (Option (List ℕ)) → List ℕ → Option (List ℕ)
image_at names kept name = option_and_then as_image (kept_at names kept name)

-- how many loads a file store was asked for, after so many more
abbrev pub loads_after : ℕ → ℕ → ℕ
loads_after zero loads = loads
loads_after (suc count) loads = next_count (loads_after count loads)

-- Why the files of so many names aren't all loaded: the load of the one at this place failed, where
-- a fault was counted, and no other was asked for after it; or memory ran out.
abbrev pub StopsAtFile : ℕ → LoadStop → PortMove Shelved → Type 0
StopsAtFile names (stops.Failed place) file_store = (place < names) × (file_store.after.loads ≡ loads_after (suc place) file_store.before.loads) × Rose file_store.before.faults file_store.after.faults
StopsAtFile names stops.OutOfMemory file_store = (count : ℕ) × (count ≤ names) × (file_store.after.loads ≡ loads_after count file_store.before.loads)
