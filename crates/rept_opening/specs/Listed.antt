-- The files of a core file's list, and why there are none. This project's own.
use Rattle.std.specs.Prelude.{◌≡◌, ◌⊎◌, ℕ, suc, ◌<◌, ◌≤◌, List, length, map, None, Some, Result, Ok, Err, slice_get, IfSome}
use Rattle.std.specs.Option.{option_map}
use Rattle.rept_elf.specs.Image.{file_of}
use Rattle.rept_elf.specs.declared.fault.ElfFault.{ElfFault}
use Rattle.rept_maps.specs.Views.{desc_of}
use Rattle.rept_maps.specs.declared.fault.MapFault.{MapFault}
use Rattle.rept_maps.specs.Mapfiles.Kept.{asked_names, kept_all, loads_after, most_in_all}
use Rattle.rept_ports.specs.Causes.{Rose}
use Rattle.rept_ports.specs.Port.{PortMove, move}
use Rattle.rept_ports.specs.Shelves.{Shelved}
use Rattle.rept_opening.specs.Forms.{core_image_fault}
use Rattle.rept_opening.specs.Mapped.{ListSays}
use Rattle.rept_opening.specs.declared.listed.ListedFiles.{ListedFiles}
use Rattle.rept_opening.specs.declared.listed.ListStop.{ListStop}
use Rattle.rept_opening.specs.declared.listed.ListStop.TheVariants as stops
use Rattle.rept_opening.specs.declared.refusal.Refusal.{Refusal}
use Rattle.rept_opening.specs.declared.refusal.Refusal.TheVariants as refusal

-- The core file is accepted as an image, and so is its list, which says nothing else. The names are
-- those of the list, the file store was asked for the file of each, and what is kept is what is
-- kept of these files.
pub record AreLoaded (core : List ℕ) (file_store : PortMove Shelved) (l : ListedFiles) : Type 0 where
  pub image : file_of l.core ≡ core
  pub accepted : core_image_fault core ≡ None
  pub listed : ListSays core (Ok (desc_of l.maps))
  pub only : (said : Result (List ℕ) MapFault) → ListSays core said → said ≡ Ok (desc_of l.maps)
  pub names : map (λ n. n.now) l.names.items ≡ asked_names (desc_of l.maps)
  pub kept : IfSome file_store.before.files (λ files. map (option_map (λ v. v.items)) l.kept.items ≡ kept_all files most_in_all (asked_names (desc_of l.maps)))
  pub loads : file_store.after.loads ≡ loads_after (length (asked_names (desc_of l.maps))) file_store.before.loads

-- the core file is refused as an image; or its list is, which says nothing else
abbrev pub IsListRefused : List ℕ → Refusal → Type 0
IsListRefused core r =
    ((fault : ElfFault) × (core_image_fault core ≡ Some fault) × (r ≡ refusal.CoreImage fault))
    ⊎ ((fault : MapFault) × (core_image_fault core ≡ None) × ListSays core (Err fault) × ((said : Result (List ℕ) MapFault) → ListSays core said → said ≡ Err fault) × (r ≡ refusal.Maps fault))

-- the list is accepted, and the file store was asked for the files of so many of its names
pub record IsListCutShort (core : List ℕ) (asked : PortMove ℕ) : Type 0 where
  pub desc : List ℕ
  pub listed : ListSays core (Ok desc)
  pub count : ℕ
  pub within : count ≤ length (asked_names desc)
  pub loads : asked.after ≡ loads_after count asked.before

-- The load of the file of this name, which is one of the accepted list's, failed, where a fault was
-- counted: it was the last.
pub record LoadStops (core : List ℕ) (file_store : PortMove Shelved) (name : List ℕ) : Type 0 where
  pub accepted : core_image_fault core ≡ None
  pub desc : List ℕ
  pub listed : ListSays core (Ok desc)
  pub place : ℕ
  pub within : place < length (asked_names desc)
  pub named : slice_get (asked_names desc) place ≡ Some name
  pub loads : file_store.after.loads ≡ loads_after (suc place) file_store.before.loads
  pub rose : Rose file_store.before.faults file_store.after.faults

-- why no files are listed: a refusal, before any load; or memory ran out; or a load failed
abbrev pub HasNoFiles : List ℕ → PortMove Shelved → ListStop → Type 0
HasNoFiles core file_store (stops.Refused r) = (IsListRefused core r × (file_store.after ≡ file_store.before)) ⊎ ((r ≡ refusal.OutOfMemory) × IsListCutShort core (move file_store.before.loads file_store.after.loads))
HasNoFiles core file_store (stops.LoadFault name) = LoadStops core file_store name.now
