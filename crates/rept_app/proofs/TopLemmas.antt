-- How the top call ends, from how its parts end.
use Rattle.std.proofs.Common.{◌≡◌, ◌⊎◌, ℕ, ◌+◌, ◌<◌, ◌≤◌, List, Option, None, Some, MatchOption, IfSome, Result, Ok, IfOk, OnOk, inl, inr, refl, sym, ap, subst, ◌∙◌, arith}
use Rattle.rept_ports.specs.Causes.{Rose, OneFault}
use Rattle.rept_ports.specs.Port.{Port, PortMove, move}
use Rattle.rept_ports.specs.Shelves.{Files, Shelved, IsOver}
use Rattle.rept_steps.specs.declared.run.Run.{Run}
use Rattle.rept_findings.specs.Shown.{SessionTold}
use Rattle.rept_session.specs.Serving.Serving.{Reading}
use Rattle.rept_opening.specs.Delivered.{Delivers, SaysOrNoMemory, SaysRefusal}
use Rattle.rept_app.specs.Ends.{Stopped, Yields, EndsSession, FaultEnds, PortsEnd}
use Rattle.rept_app.specs.Held.{CutOff}
use Rattle.rept_app.specs.Examine.{Examines, IsExamined, IsWalkStatus, FilesExclude, FilesHold}
use Rattle.rept_opening.specs.Lines.{status_of}
use Rattle.rept_opening.specs.Loading.{CrashBytes, crash_bytes, Loading, loading, loading_by, limit_of, name_of, core_name_of, MeaningStops, LoadingStops, LoadsAll, NamesNone, IsAsked, manner_of}
use Rattle.rept_opening.specs.Loading.Loading.{Refused, Loaded, LoadedCore, MadeRun}
use Rattle.rept_opening.specs.Mapped.{mapped_crash}
use Rattle.rept_app.specs.MadeRun.{Sums}
use Rattle.rept_app.specs.Claims.{ComeToReport, MadeHolds, AskedHolds, NoExecution}
use Rattle.rept_app.specs.Told.{CallInput, call_input, ToldOf, summary_line, CallWrites}
use Rattle.rept_opening.specs.Opened.{IsCrashOf, Opening, run_at, told_in}
use Rattle.rept_app.specs.Top.{TopCauses, FileStoreCauses, LacksFile, LoadEnds, LoadsOf, EndsAt, EndsByFiles, AskedEnds, NoneFails, Completes}
use Rattle.rept_opening.specs.Words.Words.{Meaning, meaning_of}
use Rattle.rept_opening.specs.Words.Words.Meaning.{Open, Maps, Made}
use Rattle.rept_opening.specs.declared.load.OpenOptions.{OpenOptions}
use Rattle.rept_opening.specs.declared.load.LoadedRequest.{LoadedRequest}
use Rattle.rept_opening.specs.declared.load.LoadedRequest.TheVariants as asked
use Rattle.rept_opening.specs.declared.load.CrashFiles.{CrashFiles}
use Rattle.rept_opening.specs.declared.refusal.FileKind.{FileKind}
use Rattle.rept_opening.specs.declared.refusal.FileKind.TheVariants as file
use Rattle.rept_opening.specs.declared.refusal.Refusal.{Refusal}
use Rattle.rept_opening.specs.declared.refusal.Refusal.TheVariants as refusal
use Rattle.rept_opening.specs.declared.status.ExitStatus.{ExitStatus}
use Rattle.rept_opening.specs.declared.status.ExitStatus.TheVariants as ends
use Rattle.rept_app.proofs.ExamineLemmas.{stopped_end}
use Rattle.rept_app.proofs.Counted.{counted}
use Rattle.rept_app.proofs.Failing.{load_ending}
use Rattle.rept_app.proofs.MappedLemmas.{mapped_stopped}
use Rattle.rept_opening.proofs.LoadingLemmas.{Why, why, LoadsFiles, all_fetched, core_fetched, ok_at, Stops, Came}

abbrev pub opening : CrashBytes → List (List ℕ) → Run → Opening
opening bytes notes run = record { bytes = bytes; notes = notes; run = run }

module _ (words : List (List ℕ)) (files : Files) where
  abbrev Ends : ExitStatus → Loading → Type 0
  Ends status l = EndsAt files l status

  -- a call that stopped, or that couldn't load a file
  stopped_at : (status : ExitStatus) → Stopped status → (l : Loading) → Ends status l
  stopped_at status h (Refused r) = inr (inr h)
  stopped_at status h (Loaded bytes) = inl (stopped_end bytes status h)
  stopped_at status h (LoadedCore bytes) = inl (mapped_stopped (mapped_crash files bytes) status h)
  stopped_at status h (MadeRun seed steps) = inr h

  unloaded_at : (status : ExitStatus) → status ≡ ends.LoadFault → (l : Loading) → LoadsFiles l → Ends status l
  unloaded_at status h (Refused r) some = inr (inl h)
  unloaded_at status h (Loaded bytes) some = inr h
  unloaded_at status h (LoadedCore bytes) some = inr h
  unloaded_at status h (MadeRun seed steps) some = absurd some

  interrupted : (status : ExitStatus) → Yields ends.LoadFault status → (l : Loading) → LoadsFiles l → Ends status l
  interrupted status (inl h) l some = unloaded_at status h l some
  interrupted status (inr h) l some = stopped_at status h l

  named_loads : (old new : Shelved) (kind : FileKind) → Came words files old new kind → LoadsFiles (loading words files)
  named_loads old new kind (inl ((d, names, from, named, before), loads)) = subst LoadsFiles (sym (ap (loading_by files) named)) (all_fetched files names (manner_of d from))
  named_loads old new kind (inr ((d, names, from, named, before), loads)) = subst LoadsFiles (sym (ap (loading_by files) named)) (core_fetched files names (manner_of d from))

  by_refusal : (r s : Refusal) (status : ExitStatus) → r ≡ s → Yields (status_of r) status → Yields (status_of s) status
  by_refusal r s status e h = subst (λ (x : Refusal). Yields (status_of x) status) e h

  memory_stops : (status : ExitStatus) → Yields ends.OutOfMemory status → Stopped status
  memory_stops status (inl h) = inr h
  memory_stops status (inr h) = h

  -- where no files were loaded
  pub refused_ends : (old new : Shelved) (r : Refusal) (status : ExitStatus) → Stops words files old new r → Yields (status_of r) status → EndsByFiles words files status
  refused_ends old new r status (inl (kind, e, came)) so = interrupted status (by_refusal r (refusal.LoadFault kind) status e so) (loading words files) (named_loads old new kind came)
  refused_ends old new r status (inr (inl e)) so = stopped_at status (memory_stops status (by_refusal r refusal.OutOfMemory status e so)) (loading words files)
  refused_ends old new r status (inr (inr h)) (inl e) = subst (Ends status) (sym h) (inl e)
  refused_ends old new r status (inr (inr h)) (inr s) = stopped_at status s (loading words files)

  -- of a made run
  pub made_ends : (seed steps : ℕ) (status : ExitStatus) → loading words files ≡ MadeRun seed steps → Yields ends.Ok status → EndsByFiles words files status
  made_ends seed steps status at so = subst (Ends status) (sym at) so

  module _ (file_store : PortMove Shelved) (source : PortMove Port) (input text : List ℕ) (status : ExitStatus) where
    abbrev Here : CallInput
    Here = call_input words files file_store (record { input = input; left = source.after.bytes })

    abbrev Whole : Loading → Type 0
    Whole l = ToldOf Here l text status

    says_so : (r s : Refusal) → r ≡ s → SaysRefusal r text status → SaysRefusal s text status
    says_so r s e h = subst (λ (x : Refusal). SaysRefusal x text status) e h

    pub refused_writes : (r : Refusal) → Stops words files file_store.before file_store.after r → SaysOrNoMemory r text status → CallWrites Here text status
    refused_writes r h (inr s) = inr (inr (inl s))
    refused_writes r (inl (kind, e, inl (comes, loads))) (inl s) = inr (inl (inl (kind, comes, loads, says_so r (refusal.LoadFault kind) e s)))
    refused_writes r (inl (kind, e, inr (comes, loads))) (inl s) = inr (inl (inr (inl (kind, comes, loads, says_so r (refusal.LoadFault kind) e s))))
    refused_writes r (inr (inl e)) (inl s) = inr (inr (inl (says_so r refusal.OutOfMemory e s)))
    refused_writes r (inr (inr h)) (inl s) = inl (subst Whole (sym h) s)

    pub examined_writes : (bytes : CrashBytes) → loading words files ≡ Loaded bytes → Examines bytes (record { input = input; left = source.after.bytes }) text status → CallWrites Here text status
    examined_writes bytes at (inl h) = inl (subst Whole (sym at) h)
    examined_writes bytes at (inr (inl h)) = inr (inr (inl h))
    examined_writes bytes at (inr (inr (notes, read, (run, a, is, account, cut)))) =
        inr (inr (inr (inl (opening bytes notes run, a, record { loaded = subst (λ (l : Loading). IsCrashOf files l bytes) (sym at) refl; read = read; told = is }, account, cut))))

    pub made_writes : (seed steps : ℕ) → loading words files ≡ MadeRun seed steps → meaning_of words ≡ Some (Made seed steps) → Sums seed steps text status → CallWrites Here text status
    made_writes seed steps at named (inl h) = inl (subst Whole (sym at) h)
    made_writes seed steps at named (inr (inl says)) = inr (inr (inl says))
    made_writes seed steps at named (inr (inr cut)) = inr (inr (inr (inr (seed, steps, named, cut))))

  module _ (bytes : CrashBytes) (at : loading words files ≡ Loaded bytes) where
    pub files_hold : (status : ExitStatus) → FilesHold bytes status → ComeToReport words files
    files_hold status ((notes, run, read, is, consistent), so) = (opening bytes notes run, record { loaded = subst (λ (l : Loading). IsCrashOf files l bytes) (sym at) refl; read = read; told = is }, consistent)

    pub examined_ends : (source sink : PortMove Port) (status : ExitStatus) → IsExamined bytes source sink status → EndsByFiles words files status
    examined_ends source sink status c = subst (Ends status) (sym at) (inl c.yields)

    same_files : (other : CrashBytes) → IsCrashOf files (loading words files) other → bytes ≡ other
    same_files other h = let same : other ≡ bytes = subst (λ (l : Loading). IsCrashOf files l other) at h in sym same

    pub examined_excludes : FilesExclude bytes → NoExecution words files
    examined_excludes none o opens = subst (λ (b : CrashBytes). FilesExclude b) (same_files o.bytes opens.loaded) none o.notes opens.read o.run opens.told

-- a session that was cut short ends with one of two statuses
cut_ends : (t : SessionTold) (reading : Reading) (text : List ℕ) (status : ExitStatus) → CutOff t reading text status → (status ≡ ends.InputFault) ⊎ (status ≡ ends.OutOfMemory)
cut_ends t reading text ends.InputFault h = inl refl
cut_ends t reading text ends.OutOfMemory h = inr refl
cut_ends t reading text ends.Ok h = absurd h
cut_ends t reading text ends.Inconsistent h = absurd h
cut_ends t reading text ends.Usage h = absurd h
cut_ends t reading text ends.LoadFault h = absurd h
cut_ends t reading text ends.NoFile h = absurd h
cut_ends t reading text ends.TooLarge h = absurd h
cut_ends t reading text ends.Executable h = absurd h
cut_ends t reading text ends.Core h = absurd h
cut_ends t reading text ends.Trace h = absurd h
cut_ends t reading text ends.OutputFault h = absurd h
cut_ends t reading text ends.TooMuchInput h = absurd h

-- what is written where no count rose
pub completed : (g : CallInput) (file_store : PortMove Shelved) (source sink : PortMove Port) (status : ExitStatus) → TopCauses file_store source sink status → Delivers (CallWrites g) sink status → NoneFails file_store source sink → Completes g sink status
completed g file_store source sink status c (inr h) calm_ports = absurd (calm_ports.written h.1.rose)
completed g file_store source sink status c (inl (text, inl h, appended, calm)) calm_ports = inr (text, h, appended)
completed g file_store source sink status c (inl (text, inr (inl failed), appended, calm)) calm_ports = absurd (calm_ports.loaded (c.load (load_ending g text status failed)))
completed g file_store source sink status c (inl (text, inr (inr (inl says)), appended, calm)) calm_ports = inl says.ending
completed g file_store source sink status c (inl (text, inr (inr (inr (inl (o, a, opens, account, cut)))), appended, calm)) calm_ports =
    elim (cut_ends (told_in (run_at o) a) g.reading text status cut) [ inl e ↦ absurd (calm_ports.read (c.ports.input e).rose) | inr e ↦ inl e ]
completed g file_store source sink status c (inl (text, inr (inr (inr (inr (seed, steps, named, (made, is, o, opens, a, account, left, cut))))), appended, calm)) calm_ports =
    elim (cut_ends (told_in (run_at o) a) (record { input = summary_line; left = left }) text status cut) [ inl e ↦ absurd (calm_ports.read (c.ports.input e).rose) | inr e ↦ inl e ]

-- what is said of a call of which one fault of the file store at most was counted
pub record AllCauses (file_store : PortMove Shelved) (source sink : PortMove Port) (status : ExitStatus) : Type 0 where
  pub ports : PortsEnd source sink status
  pub load : status ≡ ends.LoadFault → OneFault file_store.before.faults file_store.after.faults
  pub untold : MatchOption file_store.before.files (LacksFile status → OneFault file_store.before.faults file_store.after.faults) (λ _. Unit {0})
  pub load_ends : FaultEnds file_store.before.faults file_store.after.faults (LoadEnds file_store.before.files status)
  pub files : file_store.after.files ≡ file_store.before.files

not_less : {P : Type 0} (before now : ℕ) → FaultEnds before now P → before ≤ now
not_less before now (inl same) = omega (arith, same)
not_less before now (inr (fault, so)) = fault.later

pub causes_of : (file_store : PortMove Shelved) (source sink : PortMove Port) (status : ExitStatus) → AllCauses file_store source sink status → TopCauses file_store source sink status
causes_of file_store source sink status c = record {
  ports = c.ports;
  load = λ e. (c.load e).rose;
  untold = c.untold;
  later = not_less file_store.before.faults file_store.after.faults c.load_ends;
  files = c.files;
}

pub once_of : (file_store : PortMove Shelved) (source sink : PortMove Port) (status : ExitStatus) → AllCauses file_store source sink status → FileStoreCauses file_store status
once_of file_store source sink status c = record { load = c.load; load_ends = c.load_ends }

-- how a call ends whose files aren't loaded
module _ (old new : Shelved) (source : Port) (sink : PortMove Port) (status : ExitStatus) (files : new.files ≡ old.files) (later : old.faults ≤ new.faults) (once : new.faults ≤ old.faults + 1) (ports : PortsEnd (move source source) sink status) where
  one : Rose old.faults new.faults → OneFault old.faults new.faults
  one rose = record { rose = rose; later = later; once = once }

  not_stopped : (other : ExitStatus) → (other ≡ ends.OutputFault → ⊥) → (other ≡ ends.OutOfMemory → ⊥) → Stopped status → status ≡ other → ⊥
  not_stopped other a b (inl h) e = a (sym e ∙ h)
  not_stopped other a b (inr h) e = b (sym e ∙ h)

  no_load_fault : Stopped status → status ≡ ends.LoadFault → ⊥
  no_load_fault s e = not_stopped ends.LoadFault (λ (same : ends.LoadFault ≡ ends.OutputFault). cc) (λ (same : ends.LoadFault ≡ ends.OutOfMemory). cc) s e

  no_lack : Stopped status → LacksFile status → ⊥
  no_lack s (inl e) = not_stopped ends.NoFile (λ (same : ends.NoFile ≡ ends.OutputFault). cc) (λ (same : ends.NoFile ≡ ends.OutOfMemory). cc) s e
  no_lack s (inr e) = not_stopped ends.TooLarge (λ (same : ends.TooLarge ≡ ends.OutputFault). cc) (λ (same : ends.TooLarge ≡ ends.OutOfMemory). cc) s e

  abbrev Untold : Option Files → Type 0
  Untold o = MatchOption o (LacksFile status → OneFault old.faults new.faults) (λ _. Unit {0})

  untold_by : (o : Option Files) → (LacksFile status → OneFault old.faults new.faults) → Untold o
  untold_by None h = h
  untold_by (Some fs) h = tt

  stopped_causes : Stopped status → FaultEnds old.faults new.faults (LoadEnds old.files status) → AllCauses (move old new) (move source source) sink status
  stopped_causes s count = record { ports = ports; load = λ e. absurd (no_load_fault s e); untold = untold_by old.files (λ l. absurd (no_lack s l)); load_ends = count; files = files }

  either_way : LoadEnds old.files status → FaultEnds old.faults new.faults (LoadEnds old.files status)
  either_way so = elim (counted old.faults new.faults later once) [ inl h ↦ inl h | inr h ↦ inr (h, so) ]

  -- words that name no files
  pub idle_causes : (expected : ExitStatus) → (expected ≡ ends.LoadFault → ⊥) → (expected ≡ ends.NoFile → ⊥) → (expected ≡ ends.TooLarge → ⊥) → new.faults ≡ old.faults → Yields expected status → AllCauses (move old new) (move source source) sink status
  idle_causes expected a b c calm (inr s) = stopped_causes s (inl calm)
  idle_causes expected a b c calm (inl e) = record {
    ports = ports;
    load = λ k. absurd (a (sym e ∙ k));
    untold = untold_by old.files lack;
    load_ends = inl calm;
    files = files;
  }
    where
      lack : LacksFile status → OneFault old.faults new.faults
      lack (inl k) = absurd (b (sym e ∙ k))
      lack (inr k) = absurd (c (sym e ∙ k))

  failed_causes : Rose old.faults new.faults → Yields ends.LoadFault status → AllCauses (move old new) (move source source) sink status
  failed_causes rose (inr s) = stopped_causes s (inr (one rose, inr (inr s)))
  failed_causes rose (inl e) = record { ports = ports; load = λ _. one rose; untold = untold_by old.files (λ _. one rose); load_ends = inr (one rose, inl e); files = files }

  -- a file that is missing or too large
  lacking : (o : Option Files) → (P : Files → Type 0) → LacksFile status → MatchOption o (Rose old.faults new.faults) (λ fs. P fs × (new.faults ≡ old.faults)) → Untold o × FaultEnds old.faults new.faults (LoadEnds o status)
  lacking None P so rose = (λ _. one rose, inr (one rose, inr (inl so)))
  lacking (Some fs) P so h = (tt, inl h.1)

  lacks_causes : (P : Files → Type 0) → (LacksFile status ⊎ Stopped status) → MatchOption old.files (Rose old.faults new.faults) (λ fs. P fs × (new.faults ≡ old.faults)) → AllCauses (move old new) (move source source) sink status
  lacks_causes P (inr s) h = stopped_causes s (either_way (inr (inr s)))
  lacks_causes P (inl so) h =
      let both = lacking old.files P so h in
      record { ports = ports; load = λ e. absurd (no_fault so e); untold = both.0; load_ends = both.1; files = files }
    where
      no_fault : LacksFile status → status ≡ ends.LoadFault → ⊥
      no_fault (inl a) e = let bad : ends.NoFile ≡ ends.LoadFault = sym a ∙ e in let no : ⊥ = cc in no
      no_fault (inr a) e = let bad : ends.TooLarge ≡ ends.LoadFault = sym a ∙ e in let no : ⊥ = cc in no

  memory : Yields ends.OutOfMemory status → Stopped status
  memory (inl h) = inr h
  memory (inr h) = h

  as_missing : Yields ends.NoFile status → LacksFile status ⊎ Stopped status
  as_missing (inl h) = inl (inl h)
  as_missing (inr h) = inr h

  as_large : Yields ends.TooLarge status → LacksFile status ⊎ Stopped status
  as_large (inl h) = inl (inr h)
  as_large (inr h) = inr h

  by : (r s : Refusal) → r ≡ s → Yields (status_of r) status → Yields (status_of s) status
  by r s e h = subst (λ (x : Refusal). Yields (status_of x) status) e h

  file_causes : (name : List ℕ) (kind : FileKind) (r : Refusal) → Why old new name kind r → Yields (status_of r) status → AllCauses (move old new) (move source source) sink status
  file_causes name kind r (inl h) so = failed_causes h.1 (by r (refusal.LoadFault kind) h.0 so)
  file_causes name kind r (inr (inl h)) so = lacks_causes (λ fs. fs name ≡ None) (as_missing (by r (refusal.NoFile kind) h.0 so)) h.1
  file_causes name kind r (inr (inr (inl h))) so = lacks_causes (λ fs. IsOver fs name (limit_of kind)) (as_large (by r (refusal.TooLarge kind) h.0 so)) h.1
  file_causes name kind r (inr (inr (inr h))) so = let s = memory (by r refusal.OutOfMemory h so) in stopped_causes s (either_way (inr (inr s)))

  meaning_causes : (m : Option Meaning) (r : Refusal) → MeaningStops m (move old new) r → Yields (status_of r) status → AllCauses (move old new) (move source source) sink status
  meaning_causes None r h so =
      idle_causes ends.Usage (λ (e : ends.Usage ≡ ends.LoadFault). cc) (λ (e : ends.Usage ≡ ends.NoFile). cc) (λ (e : ends.Usage ≡ ends.TooLarge). cc) (ap (λ (s : Shelved). s.faults) h.1) (by r refusal.Usage h.0 so)
  meaning_causes (Some (Made seed steps)) r h so = absurd h
  meaning_causes (Some (Maps d names from)) r (kind, s) so = file_causes (core_name_of names kind) kind r (why old new (core_name_of names kind) kind r s.why) so
  meaning_causes (Some (Open d names from)) r (kind, s) so = file_causes (name_of names kind) kind r (why old new (name_of names kind) kind r s.why) so

  -- a made run
  pub made_causes : new.faults ≡ old.faults → Yields ends.Ok status → AllCauses (move old new) (move source source) sink status
  made_causes calm so = idle_causes ends.Ok (λ (e : ends.Ok ≡ ends.LoadFault). cc) (λ (e : ends.Ok ≡ ends.NoFile). cc) (λ (e : ends.Ok ≡ ends.TooLarge). cc) calm so

  pub refused_causes : (m : Option Meaning) (r : Refusal) → LoadingStops m (move old new) r → Yields (status_of r) status → AllCauses (move old new) (move source source) sink status
  refused_causes m r (inl h) so = stopped_causes (memory (by r refusal.OutOfMemory h.0 so)) (inl (ap (λ (s : Shelved). s.faults) h.1))
  refused_causes m r (inr h) so = meaning_causes m r h so

  -- the loads that were made
  ends_loading : (name : List ℕ) (kind : FileKind) (r : Refusal) → Why old new name kind r → Yields (status_of r) status → (status ≡ ends.LoadFault) ⊎ LacksFile status ⊎ Stopped status
  ends_loading name kind r (inl h) so = elim (by r (refusal.LoadFault kind) h.0 so) [ inl e ↦ inl e | inr s ↦ inr (inr s) ]
  ends_loading name kind r (inr (inl h)) so = inr (as_missing (by r (refusal.NoFile kind) h.0 so))
  ends_loading name kind r (inr (inr (inl h))) so = inr (as_large (by r (refusal.TooLarge kind) h.0 so))
  ends_loading name kind r (inr (inr (inr h))) so = inr (inr (memory (by r refusal.OutOfMemory h so)))

  meaning_loads : (m : Option Meaning) (r : Refusal) → MeaningStops m (move old new) r → Yields (status_of r) status → LoadsOf m (move old new) status
  meaning_loads None r h so = tt
  meaning_loads (Some (Made seed steps)) r h so = absurd h
  meaning_loads (Some (Maps d names from)) r (kind, s) so = inl (record {
    last = kind;
    one = s.one;
    before = s.before;
    loads = s.loads;
    ended = ends_loading (core_name_of names kind) kind r (why old new (core_name_of names kind) kind r s.why) so;
  })
  meaning_loads (Some (Open d names from)) r (kind, s) so = inl (record {
    last = kind;
    before = s.before;
    loads = s.loads;
    all = inr (ends_loading (name_of names kind) kind r (why old new (name_of names kind) kind r s.why) so);
  })

  none_loads : (m : Option Meaning) → new ≡ old → Stopped status → LoadsOf m (move old new) status
  none_loads None same stopped = tt
  none_loads (Some (Made seed steps)) same stopped = tt
  none_loads (Some (Maps d names from)) same stopped = inr (inr (same, stopped))
  none_loads (Some (Open d names from)) same stopped = inr (same, stopped)

  pub refused_loads : (m : Option Meaning) (r : Refusal) → LoadingStops m (move old new) r → Yields (status_of r) status → LoadsOf m (move old new) status
  refused_loads m r (inl h) so = none_loads m h.1 (memory (by r refusal.OutOfMemory h.0 so))
  refused_loads m r (inr h) so = meaning_loads m r h so

-- a status with which no call ends that loads no files
pub record IsOther (other : ExitStatus) : Type 0 where
  pub usage : ends.Usage ≡ other → ⊥
  pub failed : ends.LoadFault ≡ other → ⊥
  pub missing : ends.NoFile ≡ other → ⊥
  pub large : ends.TooLarge ≡ other → ⊥
  pub memory : ends.OutOfMemory ≡ other → ⊥

pub input_only : IsOther ends.InputFault
input_only = record { usage = λ e. cc; failed = λ e. cc; missing = λ e. cc; large = λ e. cc; memory = λ e. cc }

pub output_only : IsOther ends.OutputFault
output_only = record { usage = λ e. cc; failed = λ e. cc; missing = λ e. cc; large = λ e. cc; memory = λ e. cc }

pub conflict_only : IsOther ends.Inconsistent
conflict_only = record { usage = λ e. cc; failed = λ e. cc; missing = λ e. cc; large = λ e. cc; memory = λ e. cc }

file_status : (old new : Shelved) (name : List ℕ) (kind : FileKind) (r : Refusal) (other : ExitStatus) → IsOther other → Why old new name kind r → status_of r ≡ other → ⊥
file_status old new name kind r other is (inl h) e = is.failed (ap status_of (sym h.0) ∙ e)
file_status old new name kind r other is (inr (inl h)) e = is.missing (ap status_of (sym h.0) ∙ e)
file_status old new name kind r other is (inr (inr (inl h))) e = is.large (ap status_of (sym h.0) ∙ e)
file_status old new name kind r other is (inr (inr (inr h))) e = is.memory (ap status_of (sym h) ∙ e)

meaning_status : (old new : Shelved) (m : Option Meaning) (r : Refusal) (other : ExitStatus) → IsOther other → MeaningStops m (move old new) r → status_of r ≡ other → ⊥
meaning_status old new None r other is h e = is.usage (ap status_of (sym h.0) ∙ e)
meaning_status old new (Some (Made seed steps)) r other is h e = absurd h
meaning_status old new (Some (Maps d names from)) r other is (kind, s) e = file_status old new (core_name_of names kind) kind r other is (why old new (core_name_of names kind) kind r s.why) e
meaning_status old new (Some (Open d names from)) r other is (kind, s) e = file_status old new (name_of names kind) kind r other is (why old new (name_of names kind) kind r s.why) e

pub no_status : (old new : Shelved) (m : Option Meaning) (r : Refusal) (other : ExitStatus) → IsOther other → LoadingStops m (move old new) r → status_of r ≡ other → ⊥
no_status old new m r other is (inl h) e = is.memory (ap status_of (sym h.0) ∙ e)
no_status old new m r other is (inr h) e = meaning_status old new m r other is h e

-- all files were loaded
pub all_loads : (old new : Shelved) (m : Option Meaning) (status : ExitStatus) → LoadsAll m (move old new) → LoadsOf m (move old new) status
all_loads old new None status h = absurd h
all_loads old new (Some (Made seed steps)) status h = absurd h
all_loads old new (Some (Maps d names from)) status h = absurd h
all_loads old new (Some (Open d names from)) status h = inl (record { last = file.Trace; before = h.before; loads = h.loads; all = inl refl })

-- the causes of a call whose files were loaded
pub examined_causes : (old new : Shelved) (bytes : CrashBytes) (source sink : PortMove Port) (status : ExitStatus) → new.files ≡ old.files → new.faults ≡ old.faults → IsExamined bytes source sink status → AllCauses (move old new) source sink status
examined_causes old new bytes source sink status files calm c = record {
  ports = c.ports;
  load = λ e. absurd (not_loading (inl e) c.ends_so);
  untold = any old.files;
  load_ends = inl calm;
  files = files;
}
  where
    not_walked : (status ≡ ends.LoadFault) ⊎ (status ≡ ends.NoFile) ⊎ (status ≡ ends.TooLarge) → IsWalkStatus status → ⊥
    not_walked (inl e) (inl h) = cc
    not_walked (inl e) (inr (inl h)) = cc
    not_walked (inl e) (inr (inr (inl h))) = cc
    not_walked (inl e) (inr (inr (inr (inl h)))) = cc
    not_walked (inl e) (inr (inr (inr (inr (inl h))))) = cc
    not_walked (inl e) (inr (inr (inr (inr (inr (inl h)))))) = cc
    not_walked (inl e) (inr (inr (inr (inr (inr (inr h)))))) = cc
    not_walked (inr (inl e)) (inl h) = cc
    not_walked (inr (inl e)) (inr (inl h)) = cc
    not_walked (inr (inl e)) (inr (inr (inl h))) = cc
    not_walked (inr (inl e)) (inr (inr (inr (inl h)))) = cc
    not_walked (inr (inl e)) (inr (inr (inr (inr (inl h))))) = cc
    not_walked (inr (inl e)) (inr (inr (inr (inr (inr (inl h)))))) = cc
    not_walked (inr (inl e)) (inr (inr (inr (inr (inr (inr h)))))) = cc
    not_walked (inr (inr e)) (inl h) = cc
    not_walked (inr (inr e)) (inr (inl h)) = cc
    not_walked (inr (inr e)) (inr (inr (inl h))) = cc
    not_walked (inr (inr e)) (inr (inr (inr (inl h)))) = cc
    not_walked (inr (inr e)) (inr (inr (inr (inr (inl h))))) = cc
    not_walked (inr (inr e)) (inr (inr (inr (inr (inr (inl h)))))) = cc
    not_walked (inr (inr e)) (inr (inr (inr (inr (inr (inr h)))))) = cc

    not_loading : (status ≡ ends.LoadFault) ⊎ (status ≡ ends.NoFile) ⊎ (status ≡ ends.TooLarge) → (status ≡ ends.Executable) ⊎ (status ≡ ends.Core) ⊎ IsWalkStatus status → ⊥
    not_loading (inl e) (inl h) = cc
    not_loading (inr (inl e)) (inl h) = cc
    not_loading (inr (inr e)) (inl h) = cc
    not_loading (inl e) (inr (inl h)) = cc
    not_loading (inr (inl e)) (inr (inl h)) = cc
    not_loading (inr (inr e)) (inr (inl h)) = cc
    not_loading e (inr (inr h)) = not_walked e h

    any : (o : Option Files) → MatchOption o (LacksFile status → OneFault old.faults new.faults) (λ _. Unit {0})
    any None = λ h. absurd (not_loading (inr h) c.ends_so)
    any (Some fs) = tt

-- where both ports tell
pub both : (o : Option Files) (p : Option (List ℕ)) (Q : Files → List ℕ → Type 0) → ((files : Files) → o ≡ Some files → (input : List ℕ) → p ≡ Some input → Q files input) → IfSome o (λ files. IfSome p (Q files))
both None p Q h = tt
both (Some files) None Q h = tt
both (Some files) (Some input) Q h = h files refl input refl

pub of_both : (o : Option Files) (p : Option (List ℕ)) (Q : Files → List ℕ → Type 0) (files : Files) (input : List ℕ) → o ≡ Some files → p ≡ Some input → IfSome o (λ files. IfSome p (Q files)) → Q files input
of_both o p Q files input e e' h =
    let h₁ : IfSome p (Q files) = subst (λ (x : Option Files). IfSome x (λ fs. IfSome p (Q fs))) e h in
    subst (λ (x : Option (List ℕ)). IfSome x (Q files)) e' h₁

pub loaded_at : (l : Loading) (exe exe' core core' trace trace' : List ℕ) (manner : OpenOptions) → l ≡ Loaded (crash_bytes exe core trace manner) → exe' ≡ exe → core' ≡ core → trace' ≡ trace → l ≡ Loaded (crash_bytes exe' core' trace' manner)
loaded_at l exe exe' core core' trace trace' manner h e c t =
    h ∙ ap (λ x. Loaded (crash_bytes x core trace manner)) (sym e) ∙ ap (λ x. Loaded (crash_bytes exe' x trace manner)) (sym c) ∙ ap (λ x. Loaded (crash_bytes exe' core' x manner)) (sym t)

-- a session may have been held where the files are told
pub holds_where : {P : Type 0} (o : Option Files) (H : Files → Type 0) (bytes : CrashBytes) (status : ExitStatus) → ((files : Files) → o ≡ Some files → FilesHold bytes status → H files) → P ⊎ FilesHold bytes status → P ⊎ (EndsSession status × IfSome o H)
holds_where o H bytes status h (inl p) = inl p
holds_where o H bytes status h (inr f) = inr (f.1, where_some o H (λ files at. h files at f))
  where
    where_some : (o : Option Files) (H : Files → Type 0) → ((files : Files) → o ≡ Some files → H files) → IfSome o H
    where_some None H k = tt
    where_some (Some files) H k = k files refl

-- what is said of words that ask for a made run, and isn't of others
pub asked_holds : (m : Option Meaning) → ((seed steps : ℕ) → MadeHolds seed steps) → AskedHolds m
asked_holds None h = tt
asked_holds (Some (Maps d names from)) h = tt
asked_holds (Some (Open d names from)) h = tt
asked_holds (Some (Made seed steps)) h = h seed steps

pub loaded_asks : (m : Option Meaning) (old new : Shelved) (status : ExitStatus) → LoadsAll m (move old new) → AskedEnds m status
loaded_asks None old new status h = tt
loaded_asks (Some (Maps d names from)) old new status h = tt
loaded_asks (Some (Open d names from)) old new status h = tt
loaded_asks (Some (Made seed steps)) old new status h = absurd h

pub loads_named : {P : Type 0} (m : Option Meaning) (old new : Shelved) → LoadsAll m (move old new) → NamesNone m → P
loads_named None old new h none = absurd h
loads_named (Some (Maps d names from)) old new h none = absurd none
loads_named (Some (Open d names from)) old new h none = absurd none
loads_named (Some (Made seed steps)) old new h none = absurd h

memory_ends : (r : Refusal) (status : ExitStatus) → r ≡ refusal.OutOfMemory → Yields (status_of r) status → Yields ends.Ok status
memory_ends r status e so = stop (subst (λ (x : Refusal). Yields (status_of x) status) e so)
  where
    stop : Yields ends.OutOfMemory status → Yields ends.Ok status
    stop (inl h) = inr (inr h)
    stop (inr h) = inr h

pub refused_asks : (m : Option Meaning) (old new : Shelved) (r : Refusal) (status : ExitStatus) → LoadingStops m (move old new) r → Yields (status_of r) status → AskedEnds m status
refused_asks None old new r status h so = tt
refused_asks (Some (Maps d names from)) old new r status h so = tt
refused_asks (Some (Open d names from)) old new r status h so = tt
refused_asks (Some (Made seed steps)) old new r status (inl h) so = memory_ends r status h.0 so
refused_asks (Some (Made seed steps)) old new r status (inr h) so = absurd h

-- of words that ask for a made run
module _ (m : Option Meaning) (seed steps : ℕ) (named : m ≡ Some (Made seed steps)) where
  pub made_asks : (status : ExitStatus) → Yields ends.Ok status → AskedEnds m status
  made_asks status so = subst (λ (x : Option Meaning). AskedEnds x status) (sym named) so

  pub made_loads : (file_store : PortMove Shelved) (status : ExitStatus) → LoadsOf m file_store status
  made_loads file_store status = subst (λ (x : Option Meaning). LoadsOf x file_store status) (sym named) tt

  pub made_means : {P : Type 0} → m ≡ None → P
  made_means none = let bad : Some (Made seed steps) ≡ None = sym named ∙ none in let no : ⊥ = cc in absurd no

-- a call that ends well, or stops, ends with no other status
pub no_other : {P : Type 0} (other status : ExitStatus) → (ends.Ok ≡ other → ⊥) → (ends.OutputFault ≡ other → ⊥) → (ends.OutOfMemory ≡ other → ⊥) → Yields ends.Ok status → status ≡ other → P
no_other other status a b c (inl h) e = absurd (a (sym h ∙ e))
no_other other status a b c (inr (inl h)) e = absurd (b (sym h ∙ e))
no_other other status a b c (inr (inr h)) e = absurd (c (sym h ∙ e))

pub done_at : {T E : Type 0} {P : Type 0} (r : Result T E) (a : T) → r ≡ Ok a → OnOk r P → P
done_at {T} {E} {P} r a e h = subst (λ (x : Result T E). OnOk x P) e h

module _ (r : Result LoadedRequest Refusal) (a : LoadedRequest) where
  pub all_at : (l : CrashFiles) (m : Option Meaning) (old new : Shelved) → r ≡ Ok a → a ≡ asked.Files l → IfOk r (λ x. IsAsked x m (move old new)) → LoadsAll m (move old new)
  all_at l m old new e same h = (ok_at r a (asked.Files l) (λ x. IsAsked x m (move old new)) e same h).0

  pub made_at : (seed steps : ℕ) (m : Option Meaning) (old new : Shelved) → r ≡ Ok a → a ≡ asked.Made seed steps → IfOk r (λ x. IsAsked x m (move old new)) → m ≡ Some (Made seed steps)
  made_at seed steps m old new e same h = (ok_at r a (asked.Made seed steps) (λ x. IsAsked x m (move old new)) e same h).0
