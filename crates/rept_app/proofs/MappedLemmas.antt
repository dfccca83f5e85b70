-- How a core file that lists the files of its program ends the call, and what is written of it.
use Rattle.std.proofs.Common.{◌≡◌, ◌⊎◌, ℕ, suc, ◌+◌, ◌-◌, ◌<◌, ◌≤◌, List, ◌∷◌, ◌&&◌, Option, None, Some, IfSome, MatchOption, Result, Ok, Err, MatchResult, inl, inr, refl, sym, ap, subst, ◌∙◌, arith}
use Rattle.std.specs.Prelude.{slice_get}
use Rattle.rept_elf.specs.declared.fault.ElfFault.{ElfFault}
use Rattle.rept_maps.specs.declared.fault.MapFault.{MapFault}
use Rattle.rept_maps.specs.Mapfiles.Kept.{asked_names, loads_after}
use Rattle.rept_ports.specs.Causes.{Rose, OneFault}
use Rattle.rept_ports.specs.Port.{Port, PortMove, move}
use Rattle.rept_ports.specs.Shelves.{Files, Shelved}
use Rattle.rept_opening.specs.Delivered.{Delivers, SaysOrNoMemory, SaysRefusal, TellsName}
use Rattle.rept_app.specs.Ends.{FaultEnds, PortsEnd, Stopped, Yields}
use Rattle.rept_app.specs.Examine.{Examines, FilesExclude, FilesHold, IsWalkStatus}
use Rattle.rept_opening.specs.Forms.{core_image_fault}
use Rattle.rept_opening.specs.Loading.{CoreBytes}
use Rattle.rept_opening.specs.Mapped.{ListSays, MappedCrash, mapped_bytes, mapped_crash}
use Rattle.rept_app.specs.Mapped.{NamesMove}
use Rattle.rept_app.specs.MappedEnds.{ExaminesMapped, ListEnds, MappedCall, MappedEnd, MappedExcludes, MappedHolds}
use Rattle.rept_app.specs.Told.{Examined}
use Rattle.rept_opening.specs.declared.refusal.Refusal.TheVariants as refusal
use Rattle.rept_opening.specs.declared.status.ExitStatus.{ExitStatus}
use Rattle.rept_opening.specs.declared.status.ExitStatus.TheVariants as ends
use Rattle.rept_app.proofs.ExamineLemmas.{all_walks, stopped_end}
use Rattle.rept_app.proofs.Counted.{counted}

-- a call that stopped ends so whatever the core file lists
pub mapped_stopped : (m : MappedCrash) (status : ExitStatus) → Stopped status → MappedEnd m status
mapped_stopped m status s = at (core_image_fault m.bytes.core)
  where
    list : (said : Result (List ℕ) MapFault) → ListEnds m said status
    list (Err fault) = inr s
    list (Ok desc) = stopped_end (mapped_bytes m desc) status s

    at : (o : Option ElfFault) → MatchOption o ((said : Result (List ℕ) MapFault) → ListSays m.bytes.core said → ListEnds m said status) (λ _. Yields ends.Core status)
    at (Some f) = inr s
    at None = λ said says. list said

-- a trace that is walked isn't ended by its executable
pub not_executable : (status : ExitStatus) → IsWalkStatus status → status ≡ ends.Executable → ⊥
not_executable status (inl h) e = cc
not_executable status (inr (inl h)) e = cc
not_executable status (inr (inr (inl h))) e = cc
not_executable status (inr (inr (inr (inl h)))) e = cc
not_executable status (inr (inr (inr (inr (inl h))))) e = cc
not_executable status (inr (inr (inr (inr (inr (inl h)))))) e = cc
not_executable status (inr (inr (inr (inr (inr (inr h)))))) e = cc

not_load_fault : (status : ExitStatus) → IsWalkStatus status → status ≡ ends.LoadFault → ⊥
not_load_fault status (inl h) e = cc
not_load_fault status (inr (inl h)) e = cc
not_load_fault status (inr (inr (inl h))) e = cc
not_load_fault status (inr (inr (inr (inl h)))) e = cc
not_load_fault status (inr (inr (inr (inr (inl h))))) e = cc
not_load_fault status (inr (inr (inr (inr (inr (inl h)))))) e = cc
not_load_fault status (inr (inr (inr (inr (inr (inr h)))))) e = cc

stopped_fails : (status : ExitStatus) → Stopped status → status ≡ ends.LoadFault → ⊥
stopped_fails status s e = not_load_fault status (all_walks status (inr s)) e

-- where there was no memory
pub memory_stopped : (out : PortMove Port) (status : ExitStatus) → Delivers (SaysRefusal refusal.OutOfMemory) out status → Stopped status
memory_stopped out status (inl (text, says, written, calm)) = inr says.ending
memory_stopped out status (inr (e, fault, whole)) = inl e

-- the line of a name
pub name_told : (name : List ℕ) (out : PortMove Port) (status : ExitStatus) → Delivers (TellsName name) out status → (status ≡ ends.LoadFault) ⊎ Stopped status
name_told name out status (inl (text, inl h, written, calm)) = inl h.1
name_told name out status (inl (text, inr says, written, calm)) = inr (inr says.ending)
name_told name out status (inr (e, fault, whole)) = inr (inl e)

pub name_ports : (name : List ℕ) (source : Port) (out : PortMove Port) (status : ExitStatus) → Delivers (TellsName name) out status → PortsEnd (move source source) out status
name_ports name source out status d = record {
  input = λ e. absurd (unread (name_told name out status d) e);
  input_ends = inl refl;
  output = failed d;
  output_ends = count d;
}
  where
    unread : (status ≡ ends.LoadFault) ⊎ Stopped status → status ≡ ends.InputFault → ⊥
    unread (inl h) e = let bad : ends.LoadFault ≡ ends.InputFault = sym h ∙ e in cc
    unread (inr (inl h)) e = let bad : ends.OutputFault ≡ ends.InputFault = sym h ∙ e in cc
    unread (inr (inr h)) e = let bad : ends.OutOfMemory ≡ ends.InputFault = sym h ∙ e in cc

    failed : Delivers (TellsName name) out status → status ≡ ends.OutputFault → OneFault out.before.faults out.after.faults
    failed (inl (text, inl h, written, calm)) e = let bad : ends.LoadFault ≡ ends.OutputFault = sym h.1 ∙ e in let no : ⊥ = cc in absurd no
    failed (inl (text, inr says, written, calm)) e = let bad : ends.OutOfMemory ≡ ends.OutputFault = sym says.ending ∙ e in let no : ⊥ = cc in absurd no
    failed (inr (so, fault, whole)) e = fault

    count : Delivers (TellsName name) out status → FaultEnds out.before.faults out.after.faults (status ≡ ends.OutputFault)
    count (inl h) = inl h.3
    count (inr h) = inr (h.1, h.0)

-- what loads of names did to a file store
module _ (old new : Shelved) (status : ExitStatus) where
  told_move : (o : Option Files) → old.faults ≤ new.faults → IfSome o (λ _. new.faults ≤ old.faults + 1) → (status ≡ ends.LoadFault) ⊎ Stopped status
      → IfSome o (λ _. FaultEnds old.faults new.faults ((status ≡ ends.LoadFault) ⊎ Stopped status))
  told_move None later once so = tt
  told_move (Some files) later once so = elim (counted old.faults new.faults later once) [ inl h ↦ inl h | inr h ↦ inr (h, so) ]

  pub ended_move : new.files ≡ old.files → old.faults ≤ new.faults → IfSome old.files (λ _. new.faults ≤ old.faults + 1) → (status ≡ ends.LoadFault) ⊎ Stopped status → (status ≡ ends.LoadFault → Rose old.faults new.faults)
      → NamesMove (move old new) status
  ended_move files later once so failed = record { files = files; later = later; told = told_move old.files later once so; failed = failed }

  pub stopped_move : new.files ≡ old.files → old.faults ≤ new.faults → IfSome old.files (λ _. new.faults ≤ old.faults + 1) → Stopped status → NamesMove (move old new) status
  stopped_move files later once s = ended_move files later once (inr s) (λ e. absurd (stopped_fails status s e))

  calm_told : (P : Type 0) (o : Option Files) → IfSome o (λ _. new.faults ≡ old.faults) → IfSome o (λ _. FaultEnds old.faults new.faults P)
  calm_told P None h = tt
  calm_told P (Some files) h = inl h

  pub calm_move : new.files ≡ old.files → old.faults ≤ new.faults → IfSome old.files (λ _. new.faults ≡ old.faults) → (status ≡ ends.LoadFault → ⊥) → NamesMove (move old new) status
  calm_move files later calm never = record { files = files; later = later; told = calm_told ((status ≡ ends.LoadFault) ⊎ Stopped status) old.files calm; failed = λ e. absurd (never e) }

pub idle_move : (old : Shelved) (status : ExitStatus) → (status ≡ ends.LoadFault → ⊥) → NamesMove (move old old) status
idle_move old status never = calm_move old old status refl (omega arith) (same old.files) never
  where
    same : (o : Option Files) → IfSome o (λ _. old.faults ≡ old.faults)
    same None = tt
    same (Some files) = refl

-- a refusal of the core file or its list
pub core_not_loading : (status : ExitStatus) → Yields ends.Core status → status ≡ ends.LoadFault → ⊥
core_not_loading status (inl h) e = cc
core_not_loading status (inr s) e = stopped_fails status s e

pub core_ends : (status : ExitStatus) → Yields ends.Core status → (status ≡ ends.LoadFault) ⊎ (status ≡ ends.Core) ⊎ IsWalkStatus status
core_ends status (inl h) = inr (inl h)
core_ends status (inr s) = inr (inr (all_walks status (inr s)))

pub stopped_so : (status : ExitStatus) → Stopped status → (status ≡ ends.LoadFault) ⊎ (status ≡ ends.Core) ⊎ IsWalkStatus status
stopped_so status s = inr (inr (all_walks status (inr s)))

pub named_so : (status : ExitStatus) → (status ≡ ends.LoadFault) ⊎ Stopped status → (status ≡ ends.LoadFault) ⊎ (status ≡ ends.Core) ⊎ IsWalkStatus status
named_so status (inl h) = inl h
named_so status (inr s) = stopped_so status s

-- the files, where the file store tells them, and a core file
module _ (o : Option Files) (c : CoreBytes) (status : ExitStatus) where
  abbrev pub Ended : Type 0
  Ended = IfSome o (λ files. MappedEnd (mapped_crash files c) status ⊎ (status ≡ ends.LoadFault))

pub where_files : (o : Option Files) (P : Files → Type 0) → ((files : Files) → o ≡ Some files → P files) → IfSome o P
where_files None P h = tt
where_files (Some files) P h = h files refl

pub stopped_yields : (o : Option Files) (c : CoreBytes) (status : ExitStatus) → Stopped status → Ended o c status
stopped_yields o c status s = where_files o (λ files. MappedEnd (mapped_crash files c) status ⊎ (status ≡ ends.LoadFault)) (λ files is. inl (mapped_stopped (mapped_crash files c) status s))

pub named_yields : (o : Option Files) (c : CoreBytes) (status : ExitStatus) → (status ≡ ends.LoadFault) ⊎ Stopped status → Ended o c status
named_yields o c status (inl e) = where_files o (λ files. MappedEnd (mapped_crash files c) status ⊎ (status ≡ ends.LoadFault)) (λ files is. inr e)
named_yields o c status (inr s) = stopped_yields o c status s

pub image_yields : (o : Option Files) (c : CoreBytes) (status : ExitStatus) (f : ElfFault) → Some f ≡ core_image_fault c.core → Yields ends.Core status → Ended o c status
image_yields o c status f e so = where_files o (λ files. MappedEnd (mapped_crash files c) status ⊎ (status ≡ ends.LoadFault)) (λ files is. inl (at files))
  where
    at : (files : Files) → MappedEnd (mapped_crash files c) status
    at files =
        let P : Option ElfFault → Type 0 = λ w. MatchOption w ((said : Result (List ℕ) MapFault) → ListSays c.core said → ListEnds (mapped_crash files c) said status) (λ _. Yields ends.Core status) in
        subst P e so

-- how an accepted core file ends the call, by what its list says
module _ (m : MappedCrash) (accepted : core_image_fault m.bytes.core ≡ None) (here : Result (List ℕ) MapFault) (only : (said : Result (List ℕ) MapFault) → ListSays m.bytes.core said → said ≡ here) where
  pub list_ends : (status : ExitStatus) → ListEnds m here status → MappedEnd m status
  list_ends status yields =
      let P : Option ElfFault → Type 0 = λ w. MatchOption w ((said : Result (List ℕ) MapFault) → ListSays m.bytes.core said → ListEnds m said status) (λ _. Yields ends.Core status) in
      subst P (sym accepted) (λ said says. subst (λ (s : Result (List ℕ) MapFault). ListEnds m s status) (sym (only said says)) yields)

pub list_yields : (o : Option Files) (c : CoreBytes) (status : ExitStatus) (f : MapFault) → core_image_fault c.core ≡ None → ((said : Result (List ℕ) MapFault) → ListSays c.core said → said ≡ Err f) → Yields ends.Core status → Ended o c status
list_yields o c status f accepted only so = where_files o (λ files. MappedEnd (mapped_crash files c) status ⊎ (status ≡ ends.LoadFault)) (λ files is. inl (list_ends (mapped_crash files c) accepted (Err f) only status so))

-- what is written
module _ (c : MappedCall) (text : List ℕ) (status : ExitStatus) where
  abbrev Whole : Option ElfFault → Type 0
  Whole o = MatchOption o
      ((said : Result (List ℕ) MapFault) × ListSays c.crash.bytes.core said × MatchResult said (λ desc. Examined (mapped_bytes c.crash desc) c.reading.input text status) (λ fault. SaysRefusal (refusal.Maps fault) text status))
      (λ fault. SaysRefusal (refusal.CoreImage fault) text status)

  pub image_written : (f : ElfFault) → Some f ≡ core_image_fault c.crash.bytes.core → SaysOrNoMemory (refusal.CoreImage f) text status → ExaminesMapped c text status
  image_written f e (inl says) = inl (subst Whole e says)
  image_written f e (inr says) = inr (inl says)

  pub list_written : (f : MapFault) → core_image_fault c.crash.bytes.core ≡ None → ListSays c.crash.bytes.core (Err f) → SaysOrNoMemory (refusal.Maps f) text status → ExaminesMapped c text status
  list_written f accepted listed (inl says) = inl (subst Whole (sym accepted) (Err f, listed, says))
  list_written f accepted listed (inr says) = inr (inl says)

  module _ (accepted : core_image_fault c.crash.bytes.core ≡ None) (desc : List ℕ) (listed : ListSays c.crash.bytes.core (Ok desc)) where
    pub files_written : Examines (mapped_bytes c.crash desc) c.reading text status → ExaminesMapped c text status
    files_written (inl h) = inl (subst Whole (sym accepted) (Ok desc, listed, h))
    files_written (inr (inl h)) = inr (inl h)
    files_written (inr (inr (notes, read, cut))) = inr (inr (inr (mapped_bytes c.crash desc, notes, record { accepted = accepted; desc = desc; listed = listed; same = refl }, read, cut)))

    pub name_written : (place : ℕ) (name : List ℕ) → slice_get (asked_names desc) place ≡ Some name → c.loads.after ≡ loads_after (suc place) c.loads.before → TellsName name text status → ExaminesMapped c text status
    name_written place name named loads (inl h) =
        inr (inr (inl (record { accepted = accepted; desc = desc; listed = listed; place = place; name = name; named = named; loads = loads; line = h.0; ending = h.1 })))
    name_written place name named loads (inr h) = inr (inl h)

abbrev said_list : List ℕ → Result (List ℕ) MapFault
said_list desc = Ok desc

-- a session may have been held, and no execution ends in the crash
module _ (m : MappedCrash) (accepted : core_image_fault m.bytes.core ≡ None) (desc : List ℕ) where
  pub files_held : (status : ExitStatus) → ListSays m.bytes.core (Ok desc) → FilesHold (mapped_bytes m desc) status → MappedHolds m status
  files_held status listed h = (mapped_bytes m desc, record { accepted = accepted; desc = desc; listed = listed; same = refl }, h)

  same_desc : (other : List ℕ) → said_list other ≡ said_list desc → other ≡ desc
  same_desc other e = cc

  pub files_excluded : ((said : Result (List ℕ) MapFault) → ListSays m.bytes.core said → said ≡ Ok desc) → FilesExclude (mapped_bytes m desc) → MappedExcludes m
  files_excluded only none bytes is =
      let same : bytes ≡ mapped_bytes m desc = is.same ∙ ap (mapped_bytes m) (same_desc is.desc (only (Ok is.desc) is.listed)) in
      subst FilesExclude (sym same) none

-- how an examination ends, as one of mapped files
pub examined_so : (status : ExitStatus) → (status ≡ ends.Executable → ⊥) → (status ≡ ends.Executable) ⊎ (status ≡ ends.Core) ⊎ IsWalkStatus status → (status ≡ ends.LoadFault) ⊎ (status ≡ ends.Core) ⊎ IsWalkStatus status
examined_so status never (inl h) = absurd (never h)
examined_so status never (inr h) = inr h

pub never_loading : (status : ExitStatus) → (status ≡ ends.Executable) ⊎ (status ≡ ends.Core) ⊎ IsWalkStatus status → status ≡ ends.LoadFault → ⊥
never_loading status (inl h) e = cc
never_loading status (inr (inl h)) e = cc
never_loading status (inr (inr h)) e = not_load_fault status h e

pub not_walked_so : (status other : ExitStatus) → (ends.LoadFault ≡ other → ⊥) → (ends.Core ≡ other → ⊥) → (IsWalkStatus other → ⊥) → (status ≡ ends.LoadFault) ⊎ (status ≡ ends.Core) ⊎ IsWalkStatus status → status ≡ other → ⊥
not_walked_so status other a b d (inl h) e = a (sym h ∙ e)
not_walked_so status other a b d (inr (inl h)) e = b (sym h ∙ e)
not_walked_so status other a b d (inr (inr h)) e = d (subst IsWalkStatus e h)

-- where two ports tell
pub where_both : {S T : Type 0} (o : Option S) (p : Option T) (Q : S → T → Type 0) → ((x : S) (y : T) → Q x y) → IfSome o (λ x. IfSome p (Q x))
where_both None p Q h = tt
where_both (Some x) None Q h = tt
where_both (Some x) (Some y) Q h = h x y
