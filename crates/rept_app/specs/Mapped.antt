-- The loads that the list of a core file brings, and how they end a call.
use Rattle.std.specs.Prelude.{◌≡◌, ◌⊎◌, ℕ, suc, ◌+◌, ◌≤◌, List, ◌∷◌, ◌++◌, length, None, Some, Ok, slice_get, IfSome}
use Rattle.rept_maps.specs.Mapfiles.Kept.{asked_names, loads_after}
use Rattle.rept_ports.specs.Causes.{Rose}
use Rattle.rept_ports.specs.Port.{PortMove}
use Rattle.rept_ports.specs.Shelves.{Shelved}
use Rattle.rept_app.specs.Ends.{Stopped, FaultEnds}
use Rattle.rept_opening.specs.Forms.{core_image_fault}
use Rattle.rept_opening.specs.declared.status.ExitStatus.{ExitStatus}
use Rattle.rept_opening.specs.declared.status.ExitStatus.TheVariants as ends
use Rattle.rept_opening.specs.Mapped.{MappedCrash, ListSays, name_line}

-- The load of the file of one of the names failed: it was the last, and what was written is its
-- line.
pub record NameFails (m : MappedCrash) (asked : PortMove ℕ) (text : List ℕ) (status : ExitStatus) : Type 0 where
  pub accepted : core_image_fault m.bytes.core ≡ None
  pub desc : List ℕ
  pub listed : ListSays m.bytes.core (Ok desc)
  pub place : ℕ
  pub name : List ℕ
  pub named : slice_get (asked_names desc) place ≡ Some name
  pub loads : asked.after ≡ loads_after (suc place) asked.before
  pub line : text ≡ name_line name
  pub ending : status ≡ ends.LoadFault

-- How many of the names' files a file store was asked for: all of them, unless the call ends
-- before.
pub record AreAsked (desc : List ℕ) (asked : PortMove ℕ) (status : ExitStatus) : Type 0 where
  pub count : ℕ
  pub within : count ≤ length (asked_names desc)
  pub loads : asked.after ≡ loads_after count asked.before
  pub all : (count ≡ length (asked_names desc)) ⊎ (status ≡ ends.LoadFault) ⊎ Stopped status

-- The loads that a core file's list brings: none where the core file or its list is refused.
abbrev pub NamesLoaded : List ℕ → PortMove ℕ → ExitStatus → Type 0
NamesLoaded core asked status =
    ((asked.after ≡ asked.before) × ((status ≡ ends.Core) ⊎ Stopped status))
    ⊎ ((desc : List ℕ) × ListSays core (Ok desc) × AreAsked desc asked status)

-- What these loads do to a file store: its files stay. Where it tells them, a fault ends the call;
-- where it doesn't, each file that is passed over may count one.
pub record NamesMove (file_store : PortMove Shelved) (status : ExitStatus) : Type 0 where
  pub files : file_store.after.files ≡ file_store.before.files
  pub later : file_store.before.faults ≤ file_store.after.faults
  pub told : IfSome file_store.before.files (λ _. FaultEnds file_store.before.faults file_store.after.faults ((status ≡ ends.LoadFault) ⊎ Stopped status))
  pub failed : status ≡ ends.LoadFault → Rose file_store.before.faults file_store.after.faults
