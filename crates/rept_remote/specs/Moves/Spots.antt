-- Where a debugger wants to be stopped: at addresses of instructions, and where bytes are written.
-- This project's own.
use Rattle.std.specs.Prelude.{ℕ, ◌+◌, ◌%◌, ◌^◌, List, [], ◌∷◌, ◌++◌, map, Bool, true, false, ◌&&◌, ◌==◌, nat_lt, nat_le, Option, None, Some, if◌then◌else◌}
use Rattle.std.specs.List.{flat_map, list_any, position, range_with_len, remove}
use Rattle.rept_remote.specs.declared.request.request.WatchKind.{WatchKind}
use Rattle.rept_remote.specs.declared.request.request.WatchKind.TheVariants as kind
use Rattle.rept_remote.specs.declared.moves.spots.Region.{Region}

-- addresses of breakpoints, and regions of bytes whose writes are watched
pub record Spots : Type 0 where
  pub breaks : List ℕ
  pub regions : List Region

abbrev pub is_address : ℕ → ℕ → Bool
is_address address a = a == address

abbrev pub is_kind : WatchKind → WatchKind → Bool
is_kind kind.Writes kind.Writes = true
is_kind kind.Accesses kind.Accesses = true
is_kind _ _ = false

-- the region that is wanted
abbrev pub is_same : Region → Region → Bool
is_same wanted region = region.address == wanted.address && (region.length == wanted.length && is_kind wanted.kind region.kind)

abbrev pub region : WatchKind → ℕ → ℕ → Region
region kind address length = record { kind = kind; address = address; length = length }

-- a region may have 1 to 1024 bytes
abbrev pub is_small : ℕ → Bool
is_small length = nat_lt 0 length && nat_le length 1024

abbrev pub has_break : Spots → ℕ → Bool
has_break spots address = list_any (is_address address) spots.breaks

abbrev pub has_region : Spots → Region → Bool
has_region spots region = list_any (is_same region) spots.regions

-- what is there already isn't set again
abbrev pub with_break : Spots → ℕ → Spots
with_break spots address = if has_break spots address then spots else record spots { breaks = spots.breaks ++ address ∷ [] }

abbrev pub with_region : Spots → Region → Spots
with_region spots region = if has_region spots region then spots else record spots { regions = spots.regions ++ region ∷ [] }

abbrev pub removed : {X : Type 0} → List X → Option ℕ → List X
removed items None = items
removed items (Some i) = remove items i

abbrev pub without_break : Spots → ℕ → Spots
without_break spots address = record spots { breaks = removed spots.breaks (position (is_address address) spots.breaks) }

abbrev pub without_region : Spots → Region → Spots
without_region spots region = record spots { regions = removed spots.regions (position (is_same region) spots.regions) }

-- the addresses of a region, which go on from the highest address to 0
abbrev pub address_in : Region → ℕ → ℕ
address_in region i = (region.address + i) % 2 ^ 32

abbrev pub addresses_of : Region → List ℕ
addresses_of region = map (address_in region) (range_with_len 0 region.length)

abbrev pub watched : Spots → List ℕ
watched spots = flat_map addresses_of spots.regions

-- those of a region of which each write is to be told
abbrev pub accesses_by : WatchKind → Region → List ℕ
accesses_by kind.Writes region = []
accesses_by kind.Accesses region = addresses_of region

abbrev pub accesses_of : Region → List ℕ
accesses_of region = accesses_by region.kind region

abbrev pub accessed : Spots → List ℕ
accessed spots = flat_map accesses_of spots.regions

-- all bytes that are watched, those of them of which each write is to be told, and whether gdb's
-- own copy of the others may be older than the cursor
pub record Watch : Type 0 where
  pub addresses : List ℕ
  pub accesses : List ℕ
  pub is_stale : Bool

abbrev pub watch_of : Spots → Bool → Watch
watch_of spots is_stale = record { addresses = watched spots; accesses = accessed spots; is_stale = is_stale }
