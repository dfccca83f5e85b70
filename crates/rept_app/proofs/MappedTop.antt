-- How the top call ends on words that ask for mapped files, from how its parts end.
use Rattle.std.proofs.Common.{◌≡◌, ◌⊎◌, ℕ, ◌≤◌, List, Option, None, Some, IfSome, MatchOption, Result, Ok, IfOk, inl, inr, refl, sym, subst, ◌∙◌, arith}
use Rattle.rept_ports.specs.Causes.{Rose, OneFault}
use Rattle.rept_ports.specs.Port.{Port, PortMove, move}
use Rattle.rept_ports.specs.Shelves.{Files, Shelved}
use Rattle.rept_session.specs.Serving.Serving.{Reading}
use Rattle.rept_app.specs.Ends.{EndsSession, FaultEnds, Stopped}
use Rattle.rept_app.specs.Examine.{IsWalkStatus}
use Rattle.rept_opening.specs.Loading.{CoreBytes, CrashBytes, Loading, loading, LoadsBoth, NamesNone, IsAsked, core_loads_to, FaultsEnd}
use Rattle.rept_opening.specs.Loading.Loading.{LoadedCore}
use Rattle.rept_opening.specs.Mapped.{IsMappedAs, mapped_crash}
use Rattle.rept_app.specs.Mapped.{NameFails, NamesLoaded}
use Rattle.rept_app.specs.MappedEnds.{ExaminesMapped, IsExaminedMapped, MappedEnd, MappedExcludes, MappedHolds, mapped_call, port_moves}
use Rattle.rept_app.specs.Claims.{ComeToReport, NoExecution}
use Rattle.rept_app.specs.Told.{CallInput, call_input, ToldOf, CallWrites}
use Rattle.rept_opening.specs.Opened.{IsCrashOf}
use Rattle.rept_app.specs.Top.{AskedEnds, EndsAt, EndsByFiles, LacksFile, LoadEnds, LoadsOf, FileStoreCauses, TopCauses}
use Rattle.rept_opening.specs.Words.Words.{Meaning}
use Rattle.rept_opening.specs.Words.Words.Meaning.{Open, Maps, Made}
use Rattle.rept_opening.specs.declared.load.LoadedRequest.{LoadedRequest}
use Rattle.rept_opening.specs.declared.load.LoadedRequest.TheVariants as asked
use Rattle.rept_opening.specs.declared.load.CoreFiles.{CoreFiles}
use Rattle.rept_opening.specs.declared.refusal.FileKind.TheVariants as file
use Rattle.rept_opening.specs.declared.refusal.Refusal.{Refusal}
use Rattle.rept_opening.specs.declared.status.ExitStatus.{ExitStatus}
use Rattle.rept_opening.specs.declared.status.ExitStatus.TheVariants as ends
use Rattle.rept_app.proofs.MappedLemmas.{not_walked_so}
use Rattle.rept_opening.proofs.LoadingLemmas.{ok_at}
use Rattle.rept_app.proofs.TopLemmas.{opening}

-- both files were loaded
pub both_at : (r : Result LoadedRequest Refusal) (a : LoadedRequest) (l : CoreFiles) (m : Option Meaning) (old new : Shelved) → r ≡ Ok a → a ≡ asked.Maps l → IfOk r (λ x. IsAsked x m (move old new)) → LoadsBoth m l.core.items (move old new)
both_at r a l m old new e same h = (ok_at r a (asked.Maps l) (λ x. IsAsked x m (move old new)) e same h).0

pub both_loads : (m : Option Meaning) (core : List ℕ) (old mid : Shelved) → LoadsBoth m core (move old mid) → mid.loads ≡ core_loads_to file.Trace old.loads
both_loads None core old mid h = absurd h
both_loads (Some (Made seed steps)) core old mid h = absurd h
both_loads (Some (Maps d names from)) core old mid h = h.loads
both_loads (Some (Open d names from)) core old mid h = absurd h

pub both_named : {P : Type 0} (m : Option Meaning) (core : List ℕ) (old mid : Shelved) → LoadsBoth m core (move old mid) → NamesNone m → P
both_named None core old mid h none = absurd h
both_named (Some (Made seed steps)) core old mid h none = absurd h
both_named (Some (Maps d names from)) core old mid h none = absurd none
both_named (Some (Open d names from)) core old mid h none = absurd h

pub both_mean : {P : Type 0} (m : Option Meaning) (core : List ℕ) (old mid : Shelved) → LoadsBoth m core (move old mid) → m ≡ None → P
both_mean {P} m core old mid h e =
    let none : LoadsBoth None core (move old mid) = subst (λ (x : Option Meaning). LoadsBoth x core (move old mid)) e h in
    absurd none

pub both_asks : (m : Option Meaning) (core : List ℕ) (old mid : Shelved) (status : ExitStatus) → LoadsBoth m core (move old mid) → AskedEnds m status
both_asks None core old mid status h = tt
both_asks (Some (Made seed steps)) core old mid status h = absurd h
both_asks (Some (Maps d names from)) core old mid status h = tt
both_asks (Some (Open d names from)) core old mid status h = tt

-- statuses of words and files are none of a trace
no_walk_missing : IsWalkStatus ends.NoFile → ⊥
no_walk_missing (inl h) = cc
no_walk_missing (inr (inl h)) = cc
no_walk_missing (inr (inr (inl h))) = cc
no_walk_missing (inr (inr (inr (inl h)))) = cc
no_walk_missing (inr (inr (inr (inr (inl h))))) = cc
no_walk_missing (inr (inr (inr (inr (inr (inl h)))))) = cc
no_walk_missing (inr (inr (inr (inr (inr (inr h)))))) = cc

no_walk_large : IsWalkStatus ends.TooLarge → ⊥
no_walk_large (inl h) = cc
no_walk_large (inr (inl h)) = cc
no_walk_large (inr (inr (inl h))) = cc
no_walk_large (inr (inr (inr (inl h)))) = cc
no_walk_large (inr (inr (inr (inr (inl h))))) = cc
no_walk_large (inr (inr (inr (inr (inr (inl h)))))) = cc
no_walk_large (inr (inr (inr (inr (inr (inr h)))))) = cc

no_walk_usage : IsWalkStatus ends.Usage → ⊥
no_walk_usage (inl h) = cc
no_walk_usage (inr (inl h)) = cc
no_walk_usage (inr (inr (inl h))) = cc
no_walk_usage (inr (inr (inr (inl h)))) = cc
no_walk_usage (inr (inr (inr (inr (inl h))))) = cc
no_walk_usage (inr (inr (inr (inr (inr (inl h)))))) = cc
no_walk_usage (inr (inr (inr (inr (inr (inr h)))))) = cc

-- the ports
module _ (old mid new : Shelved) (c : CoreBytes) (source sink : PortMove Port) (status : ExitStatus) (files : mid.files ≡ old.files) (calm : mid.faults ≡ old.faults) (is : IsExaminedMapped c (port_moves (move mid new) source sink) status) where
  rose : Rose mid.faults new.faults → Rose old.faults new.faults
  rose h = subst (λ n. Rose n new.faults) calm h

  lacks_none : LacksFile status → ⊥
  lacks_none (inl e) = not_walked_so status ends.NoFile (λ (k : ends.LoadFault ≡ ends.NoFile). cc) (λ (k : ends.Core ≡ ends.NoFile). cc) no_walk_missing is.ends_so e
  lacks_none (inr e) = not_walked_so status ends.TooLarge (λ (k : ends.LoadFault ≡ ends.TooLarge). cc) (λ (k : ends.Core ≡ ends.TooLarge). cc) no_walk_large is.ends_so e

  any : (o : Option Files) → MatchOption o (LacksFile status → OneFault old.faults new.faults) (λ _. Unit {0})
  any None = λ h. absurd (lacks_none h)
  any (Some fs) = tt

  pub mapped_causes : TopCauses (move old new) source sink status
  mapped_causes = record {
    ports = is.ports;
    load = λ e. rose (is.file_store.failed e);
    untold = any old.files;
    later = subst (λ n. n ≤ new.faults) calm is.file_store.later;
    files = is.file_store.files ∙ files;
  }

  abbrev Counts : Type 0
  Counts = FaultEnds old.faults new.faults ((status ≡ ends.LoadFault) ⊎ Stopped status)

  one_fault : Counts → status ≡ ends.LoadFault → OneFault old.faults new.faults
  one_fault (inl same) e = record { rose = rose (is.file_store.failed e); later = omega (arith, same); once = omega (arith, same) }
  one_fault (inr (one, so)) e = one

  load_ends : (o : Option Files) → Counts → FaultEnds old.faults new.faults (LoadEnds o status)
  load_ends o (inl same) = inl same
  load_ends o (inr (one, inl e)) = inr (one, inl e)
  load_ends o (inr (one, inr s)) = inr (one, inr (inr s))

  told_counts : (o : Option Files) → MatchOption o ⊥ (λ _. Unit {0}) → IfSome o (λ _. Counts) → Counts
  told_counts None never h = absurd never
  told_counts (Some fs) never h = h

  counts_here : IfSome old.files (λ _. Counts)
  counts_here =
      let P : ℕ → Type 0 = λ n. IfSome mid.files (λ _. FaultEnds n new.faults ((status ≡ ends.LoadFault) ⊎ Stopped status)) in
      let Q : Option Files → Type 0 = λ o. IfSome o (λ _. Counts) in
      subst Q files (subst P calm is.file_store.told)

  by_counts : Counts → FileStoreCauses (move old new) status
  by_counts h = record { load = one_fault h; load_ends = load_ends old.files h }

  pub mapped_once : (m : Option Meaning) → LoadsBoth m c.core (move old mid) → FaultsEnd m old.files → FileStoreCauses (move old new) status
  mapped_once None h ends_all = absurd h
  mapped_once (Some (Made seed steps)) h ends_all = absurd h
  mapped_once (Some (Open d names from)) h ends_all = absurd h
  mapped_once (Some (Maps d names from)) h ends_all = by_counts (told_counts old.files ends_all counts_here)

  pub mapped_loads : (m : Option Meaning) → LoadsBoth m c.core (move old mid) → LoadsOf m (move old new) status
  mapped_loads None h = absurd h
  mapped_loads (Some (Made seed steps)) h = absurd h
  mapped_loads (Some (Open d names from)) h = absurd h
  mapped_loads (Some (Maps d names from)) h =
      inr (inl (record { core = c.core; found = h.found; named = subst (λ n. NamesLoaded c.core (move n new.loads) status) h.loads is.loads }))

  pub mapped_usage : {P : Type 0} → status ≡ ends.Usage → P
  mapped_usage e = absurd (not_walked_so status ends.Usage (λ (k : ends.LoadFault ≡ ends.Usage). cc) (λ (k : ends.Core ≡ ends.Usage). cc) no_walk_usage is.ends_so e)

-- what is said where the file store told its files before, is said where it tells them later
pub as_before : (o o' : Option Files) (P : Files → Type 0) → o' ≡ o → IfSome o' P → IfSome o P
as_before o o' P e h = let Q : Option Files → Type 0 = λ w. IfSome w P in subst Q e h

-- what the files say
module _ (words : List (List ℕ)) (files : Files) (c : CoreBytes) (at : loading words files ≡ LoadedCore c) where
  opens_as : (bytes : CrashBytes) → IsMappedAs (mapped_crash files c) bytes → IsCrashOf files (loading words files) bytes
  opens_as bytes is = subst (λ (l : Loading). IsCrashOf files l bytes) (sym at) is

  pub mapped_ends : (status : ExitStatus) → MappedEnd (mapped_crash files c) status ⊎ (status ≡ ends.LoadFault) → EndsByFiles words files status
  mapped_ends status h = subst (λ (l : Loading). EndsAt files l status) (sym at) h

  pub mapped_holds : (status : ExitStatus) → MappedHolds (mapped_crash files c) status → ComeToReport words files
  mapped_holds status (bytes, is, ((notes, run, read, traced, consistent), so)) = (opening bytes notes run, record { loaded = opens_as bytes is; read = read; told = traced }, consistent)

  pub mapped_excludes : MappedExcludes (mapped_crash files c) → NoExecution words files
  mapped_excludes none o opens = none o.bytes (subst (λ (l : Loading). IsCrashOf files l o.bytes) at opens.loaded) o.notes opens.read o.run opens.told

  module _ (file_store : PortMove Shelved) (asked_before : ℕ) (reading : Reading) (text : List ℕ) (status : ExitStatus) (loads : asked_before ≡ core_loads_to file.Trace file_store.before.loads) where
    abbrev Here : CallInput
    Here = call_input words files file_store reading

    pub mapped_writes : ExaminesMapped (mapped_call (mapped_crash files c) (move asked_before file_store.after.loads) reading) text status → CallWrites Here text status
    mapped_writes (inl told) = inl (subst (λ (l : Loading). ToldOf Here l text status) (sym at) told)
    mapped_writes (inr (inl says)) = inr (inr (inl says))
    mapped_writes (inr (inr (inl fails))) = inr (inl (inr (inr (c, at, subst (λ n. NameFails (mapped_crash files c) (move n file_store.after.loads) text status) loads fails))))
    mapped_writes (inr (inr (inr (bytes, notes, is, read, (run, a, traced, account, cut))))) =
        inr (inr (inr (inl (opening bytes notes run, a, record { loaded = opens_as bytes is; read = read; told = traced }, account, cut))))

-- a session may have been held where the files are told
pub mapped_stays : {P : Type 0} (o o' : Option Files) (H K : Files → Type 0) (status : ExitStatus) → o' ≡ o → ((files : Files) → o ≡ Some files → K files → H files) → P ⊎ (EndsSession status × IfSome o' K) → P ⊎ (EndsSession status × IfSome o H)
mapped_stays o o' H K status e h (inl p) = inl p
mapped_stays o o' H K status e h (inr (so, k)) = inr (so, each o (as_before o o' K e k) h)
  where
    each : (o : Option Files) → IfSome o K → ((files : Files) → o ≡ Some files → K files → H files) → IfSome o H
    each None k h = tt
    each (Some files) k h = h files refl k
