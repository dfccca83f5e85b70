-- The exits of the call that loads the files of a core file's list.
use Rattle.std.proofs.Common.{◌≡◌, ◌⊎◌, ℕ, suc, ◌+◌, ◌≤◌, List, length, Option, None, Some, IfSome, Result, Ok, inl, inr, refl, sym, subst, ◌∙◌, arith}
use Rattle.rept_maps.specs.Views.{desc_of}
use Rattle.rept_maps.specs.declared.fault.MapFault.{MapFault}
use Rattle.rept_maps.specs.Mapped.Mapped.{Mapping}
use Rattle.rept_maps.specs.Mapfiles.Kept.{asked_names, loads_after}
use Rattle.rept_ports.specs.Port.{Port, PortMove, move}
use Rattle.rept_ports.specs.Shelves.{Files, Shelved}
use Rattle.rept_opening.specs.Delivered.{Delivers, SaysOrNoMemory, SaysRefusal, TellsName}
use Rattle.rept_app.specs.Ends.{EndsSession, Stopped, Yields}
use Rattle.rept_app.specs.Examine.{Examines, FilesEnd, FilesExclude, FilesHold, IsExamined}
use Rattle.rept_opening.specs.Forms.{core_image_fault}
use Rattle.rept_opening.specs.Lines.{status_of}
use Rattle.rept_opening.specs.Listed.{AreLoaded, HasNoFiles, IsListRefused, LoadStops}
use Rattle.rept_opening.specs.Loading.{CoreBytes, parts_bytes}
use Rattle.rept_opening.specs.Mapped.{ListSays, mapped_crash, mapped_files}
use Rattle.rept_app.specs.Mapped.{NamesLoaded}
use Rattle.rept_app.specs.MappedEnds.{ExaminesMapped, IsExaminedMapped, MappedCall, MappedEnd, MappedExcludes, MappedHolds, mapped_call, port_moves}
use Rattle.rept_opening.specs.declared.listed.ListStop.TheVariants as stops
use Rattle.rept_opening.specs.declared.listed.ListedFiles.{ListedFiles}
use Rattle.rept_opening.specs.declared.refusal.Refusal.{Refusal}
use Rattle.rept_opening.specs.declared.refusal.Refusal.TheVariants as refusal
use Rattle.rept_opening.specs.declared.status.ExitStatus.{ExitStatus}
use Rattle.rept_opening.specs.declared.status.ExitStatus.TheVariants as ends
use Rattle.rept_opening.proofs.DeliveredLemmas.{delivers_as}
use Rattle.rept_app.proofs.DeliveredLemmas.{ends_told, not_yielded, told_ports}
use Rattle.rept_app.proofs.MadeLemmas.{memory_ports}
use Rattle.rept_app.proofs.MappedLemmas.{Ended, calm_move, core_ends, core_not_loading, ended_move, examined_so, files_excluded, files_held, files_written, idle_move, image_written, image_yields, list_ends, list_written, list_yields, memory_stopped, name_ports, name_told, name_written, named_so, named_yields, never_loading, stopped_move, stopped_so, stopped_yields, where_both, where_files}

-- so many loads of the names of a list
pub are_asked : (core desc : List ℕ) (asked : PortMove ℕ) (status : ExitStatus) (count : ℕ) → ListSays core (Ok desc) → count ≤ length (asked_names desc) → asked.after ≡ loads_after count asked.before
    → (count ≡ length (asked_names desc)) ⊎ (status ≡ ends.LoadFault) ⊎ Stopped status → NamesLoaded core asked status
are_asked core desc asked status count listed within loads all = inr (desc, listed, record { count = count; within = within; loads = loads; all = all })

-- all files of the list were asked for
pub loaded_all : (core : List ℕ) (file_store : PortMove Shelved) (l : ListedFiles) (status : ExitStatus) → AreLoaded core file_store l → NamesLoaded core (move file_store.before.loads file_store.after.loads) status
loaded_all core file_store l status is =
    are_asked core (desc_of l.maps) (move file_store.before.loads file_store.after.loads) status (length (asked_names (desc_of l.maps))) is.listed (omega arith) is.loads (inl refl)

-- there was no memory
module _ (c : CoreBytes) (old new : Shelved) (source : Port) (out : PortMove Port) (status : ExitStatus) (d : Delivers (SaysRefusal refusal.OutOfMemory) out status) where
  pub memory_written : (left : Option (List ℕ)) → IfSome old.files (λ told. IfSome source.bytes (λ input. Delivers (ExaminesMapped (mapped_call (mapped_crash told c) (move old.loads new.loads) (record { input = input; left = left }))) out status))
  memory_written left = where_both old.files source.bytes _ (λ told input.
      delivers_as (SaysRefusal refusal.OutOfMemory) (ExaminesMapped (mapped_call (mapped_crash told c) (move old.loads new.loads) (record { input = input; left = left }))) out status (λ text s says. inr (inl says)) d)

  pub memory_causes : new.files ≡ old.files → old.faults ≤ new.faults → IfSome old.files (λ _. new.faults ≤ old.faults + 1) → (Stopped status → NamesLoaded c.core (move old.loads new.loads) status)
      → IsExaminedMapped c (port_moves (move old new) (move source source) out) status
  memory_causes files later once loads =
      let s = memory_stopped out status d in
      record {
        ports = memory_ports out status d source;
        file_store = stopped_move old new status files later once s;
        loads = loads s;
        ends_so = stopped_so status s;
        yields = stopped_yields old.files c status s;
      }

  pub memory_impossible : {P : Type 0} → status ≡ ends.Inconsistent → P
  memory_impossible {P} e = never (memory_stopped out status d)
    where
      never : Stopped status → P
      never (inl h) = let bad : ends.OutputFault ≡ ends.Inconsistent = sym h ∙ e in let no : ⊥ = cc in absurd no
      never (inr h) = let bad : ends.OutOfMemory ≡ ends.Inconsistent = sym h ∙ e in let no : ⊥ = cc in absurd no

-- the load of a name failed
module _ (c : CoreBytes) (old new : Shelved) (source : Port) (out : PortMove Port) (status : ExitStatus) (name : List ℕ) (d : Delivers (TellsName name) out status) where
  pub name_impossible : {P : Type 0} → status ≡ ends.Inconsistent → P
  name_impossible {P} e = never (name_told name out status d)
    where
      never : (status ≡ ends.LoadFault) ⊎ Stopped status → P
      never (inl h) = let bad : ends.LoadFault ≡ ends.Inconsistent = sym h ∙ e in let no : ⊥ = cc in absurd no
      never (inr (inl h)) = let bad : ends.OutputFault ≡ ends.Inconsistent = sym h ∙ e in let no : ⊥ = cc in absurd no
      never (inr (inr h)) = let bad : ends.OutOfMemory ≡ ends.Inconsistent = sym h ∙ e in let no : ⊥ = cc in absurd no

  module _ (stop : LoadStops c.core (move old new) name) where
    pub name_lines : (left : Option (List ℕ))
        → IfSome old.files (λ told. IfSome source.bytes (λ input. Delivers (ExaminesMapped (mapped_call (mapped_crash told c) (move old.loads new.loads) (record { input = input; left = left }))) out status))
    name_lines left = where_both old.files source.bytes _ (λ told input.
        let call : MappedCall = mapped_call (mapped_crash told c) (move old.loads new.loads) (record { input = input; left = left }) in
        delivers_as (TellsName name) (ExaminesMapped call) out status (λ text s h. name_written call text s stop.accepted stop.desc stop.listed stop.place name stop.named stop.loads h) d)

    pub name_causes : new.files ≡ old.files → old.faults ≤ new.faults → IfSome old.files (λ _. new.faults ≤ old.faults + 1) → IsExaminedMapped c (port_moves (move old new) (move source source) out) status
    name_causes files later once =
        let so = name_told name out status d in
        let within = stop.within in
        record {
          ports = name_ports name source out status d;
          file_store = ended_move old new status files later once so (λ _. stop.rose);
          loads = are_asked c.core stop.desc (move old.loads new.loads) status (suc stop.place) stop.listed (omega (arith, within)) stop.loads (inr so);
          ends_so = named_so status so;
          yields = named_yields old.files c status so;
        }

-- the core file or its list is refused, or there was no memory for it
module _ (c : CoreBytes) (old new : Shelved) (source : Port) (out : PortMove Port) (status : ExitStatus) (r : Refusal) (why : HasNoFiles c.core (move old new) (stops.Refused r)) (d : Delivers (SaysOrNoMemory r) out status) where
  -- what is written of a refusal is that of the same one
  told_as : (other : Refusal) → r ≡ other → Delivers (SaysOrNoMemory other) out status
  told_as other is = subst (λ (x : Refusal). Delivers (SaysOrNoMemory x) out status) is d

  no_memory : r ≡ refusal.OutOfMemory → Delivers (SaysRefusal refusal.OutOfMemory) out status
  no_memory is = delivers_as (SaysOrNoMemory refusal.OutOfMemory) (SaysRefusal refusal.OutOfMemory) out status (λ text s told. alike text s told) (told_as refusal.OutOfMemory is)
    where
      alike : (text : List ℕ) (s : ExitStatus) → SaysOrNoMemory refusal.OutOfMemory text s → SaysRefusal refusal.OutOfMemory text s
      alike text s (inl says) = says
      alike text s (inr says) = says

  refused_written : (call : MappedCall) → call.crash.bytes ≡ c → (text : List ℕ) (s : ExitStatus) → SaysOrNoMemory r text s → ExaminesMapped call text s
  refused_written call same text s told = by why
    where
      said_as : (other : Refusal) → r ≡ other → SaysOrNoMemory other text s
      said_as other is = subst (λ (x : Refusal). SaysOrNoMemory x text s) is told

      either : SaysOrNoMemory refusal.OutOfMemory text s → ExaminesMapped call text s
      either (inl says) = inr (inl says)
      either (inr says) = inr (inl says)

      at : IsListRefused call.crash.bytes.core r → ExaminesMapped call text s
      at (inl (fault, refused, is)) = image_written call text s fault (sym refused) (said_as (refusal.CoreImage fault) is)
      at (inr (fault, accepted, listed, only, is)) = list_written call text s fault accepted listed (said_as (refusal.Maps fault) is)

      by : HasNoFiles c.core (move old new) (stops.Refused r) → ExaminesMapped call text s
      by (inl (refused, idle)) = at (subst (λ (b : CoreBytes). IsListRefused b.core r) (sym same) refused)
      by (inr (is, cut)) = either (said_as refusal.OutOfMemory is)

  pub refused_lines : (left : Option (List ℕ)) → IfSome old.files (λ told. IfSome source.bytes (λ input. Delivers (ExaminesMapped (mapped_call (mapped_crash told c) (move old.loads new.loads) (record { input = input; left = left }))) out status))
  refused_lines left = where_both old.files source.bytes _ (λ told input.
      let call : MappedCall = mapped_call (mapped_crash told c) (move old.loads new.loads) (record { input = input; left = left }) in
      delivers_as (SaysOrNoMemory r) (ExaminesMapped call) out status (λ text s told. refused_written call refl text s told) d)

  -- a refusal of the core file or its list, after which the file store is as it was
  core_causes : (f : Refusal) → r ≡ f → (status_of f ≡ ends.Core) → (Yields ends.Core status → Ended old.files c status) → new ≡ old → IsExaminedMapped c (port_moves (move old new) (move source source) out) status
  core_causes f is core yields idle =
      let its = told_as f is in
      let so = subst (λ (e : ExitStatus). Yields e status) core (ends_told f out status its) in
      subst (λ (s : Shelved). IsExaminedMapped c (port_moves (move old s) (move source source) out) status) (sym idle)
      (record {
        ports = told_ports f source out status (λ e. not_input (sym core ∙ e)) (λ e. not_output (sym core ∙ e)) its;
        file_store = idle_move old status (core_not_loading status so);
        loads = inl (refl, so);
        ends_so = core_ends status so;
        yields = yields so;
      })
    where
      not_input : ends.Core ≡ ends.InputFault → ⊥
      not_input same = cc

      not_output : ends.Core ≡ ends.OutputFault → ⊥
      not_output same = cc

  pub refused_causes : new.files ≡ old.files → old.faults ≤ new.faults → IfSome old.files (λ _. new.faults ≤ old.faults + 1) → IsExaminedMapped c (port_moves (move old new) (move source source) out) status
  refused_causes files later once = by why
    where
      by : HasNoFiles c.core (move old new) (stops.Refused r) → IsExaminedMapped c (port_moves (move old new) (move source source) out) status
      by (inl (inl (fault, refused, is), idle)) = core_causes (refusal.CoreImage fault) is refl (image_yields old.files c status fault (sym refused)) idle
      by (inl (inr (fault, accepted, listed, only, is), idle)) = core_causes (refusal.Maps fault) is refl (list_yields old.files c status fault accepted only) idle
      by (inr (is, cut)) =
          memory_causes c old new source out status (no_memory is) files later once (λ s. are_asked c.core cut.desc (move old.loads new.loads) status cut.count cut.listed cut.within cut.loads (inr (inr s)))

  pub refused_impossible : {P : Type 0} → status ≡ ends.Inconsistent → P
  refused_impossible {P} e = by why
    where
      never : (f : Refusal) → status_of f ≡ ends.Core → r ≡ f → P
      never f core is =
          absurd (not_yielded ends.Core ends.Inconsistent status (λ (same : ends.Core ≡ ends.Inconsistent). cc) (λ (same : ends.Inconsistent ≡ ends.OutputFault). cc) (λ (same : ends.Inconsistent ≡ ends.OutOfMemory). cc)
          (subst (λ (s : ExitStatus). Yields s status) core (ends_told f out status (told_as f is))) e)

      by : HasNoFiles c.core (move old new) (stops.Refused r) → P
      by (inl (inl (fault, refused, is), idle)) = never (refusal.CoreImage fault) refl is
      by (inl (inr (fault, accepted, listed, only, is), idle)) = never (refusal.Maps fault) refl is
      by (inr (is, cut)) = memory_impossible c old new source out status (no_memory is) e

-- all that are there were loaded, and the files are examined
module _ (c : CoreBytes) (old new : Shelved) (source out : PortMove Port) (status : ExitStatus) (desc : List ℕ) (ms : List Mapping) (program : IfSome old.files (λ files. ms ≡ mapped_files files desc)) (accepted : core_image_fault c.core ≡ None) (listed : ListSays c.core (Ok desc)) where
  program_at : (files : Files) → old.files ≡ Some files → ms ≡ mapped_files files desc
  program_at files told = let P : Option Files → Type 0 = λ o. IfSome o (λ fs. ms ≡ mapped_files fs desc) in subst P told program

  pub files_lines : IfSome source.before.bytes (λ input. Delivers (Examines (parts_bytes ms c) (record { input = input; left = source.after.bytes })) out status)
      → IfSome old.files (λ told. IfSome source.before.bytes (λ input. Delivers (ExaminesMapped (mapped_call (mapped_crash told c) (move old.loads new.loads) (record { input = input; left = source.after.bytes }))) out status))
  files_lines h = where_files old.files _ (λ files told. lines files (program_at files told) source.before.bytes h)
    where
      lines : (files : Files) → ms ≡ mapped_files files desc → (p : Option (List ℕ)) → IfSome p (λ input. Delivers (Examines (parts_bytes ms c) (record { input = input; left = source.after.bytes })) out status)
          → IfSome p (λ input. Delivers (ExaminesMapped (mapped_call (mapped_crash files c) (move old.loads new.loads) (record { input = input; left = source.after.bytes }))) out status)
      lines files same None h = tt
      lines files same (Some input) h =
          let call : MappedCall = mapped_call (mapped_crash files c) (move old.loads new.loads) (record { input = input; left = source.after.bytes }) in
          delivers_as (Examines (parts_bytes ms c) call.reading) (ExaminesMapped call) out status
          (λ text s e. files_written call text s accepted desc listed (subst (λ (parts : List Mapping). Examines (parts_bytes parts c) call.reading text s) same e)) h

  module _ (only : (said : Result (List ℕ) MapFault) → ListSays c.core said → said ≡ Ok desc) where
    files_end : FilesEnd (parts_bytes ms c) status → Ended old.files c status
    files_end h = where_files old.files (λ files. MappedEnd (mapped_crash files c) status ⊎ (status ≡ ends.LoadFault)) (λ files told.
        inl (list_ends (mapped_crash files c) accepted (Ok desc) only status (subst (λ (parts : List Mapping). FilesEnd (parts_bytes parts c) status) (program_at files told) h)))

    pub files_causes : (status ≡ ends.Executable → ⊥) → new.files ≡ old.files → old.faults ≤ new.faults → IfSome old.files (λ _. new.faults ≡ old.faults) → new.loads ≡ loads_after (length (asked_names desc)) old.loads
        → IsExamined (parts_bytes ms c) source out status → IsExaminedMapped c (port_moves (move old new) source out) status
    files_causes never files later calm loads is = record {
      ports = is.ports;
      file_store = calm_move old new status files later calm (never_loading status is.ends_so);
      loads = are_asked c.core desc (move old.loads new.loads) status (length (asked_names desc)) listed (omega arith) loads (inl refl);
      ends_so = examined_so status never is.ends_so;
      yields = files_end is.yields;
    }

    pub files_impossible : FilesExclude (parts_bytes ms c) → IfSome old.files (λ told. MappedExcludes (mapped_crash told c))
    files_impossible none = where_files old.files _ (λ files told.
        files_excluded (mapped_crash files c) accepted desc only (subst (λ (parts : List Mapping). FilesExclude (parts_bytes parts c)) (program_at files told) none))

  pub files_stay : {P : Type 0} → P ⊎ FilesHold (parts_bytes ms c) status → P ⊎ (EndsSession status × IfSome old.files (λ told. MappedHolds (mapped_crash told c) status))
  files_stay (inl p) = inl p
  files_stay (inr h) = inr (
    h.1,
    where_files old.files _ (λ files told.
        files_held (mapped_crash files c) accepted desc status listed (subst (λ (parts : List Mapping). FilesHold (parts_bytes parts c) status) (program_at files told) h)),
  )
