-- How the bytes of the files end the call.
use Rattle.std.proofs.Common.{◌≡◌, ◌≢◌, ◌⊎◌, ℕ, Bool, List, Option, None, Some, Result, Ok, Err, MatchOption, inl, inr, refl, sym, ap, subst, ◌∙◌}
use Rattle.rept_elf.specs.declared.fault.ElfFault.{ElfFault}
use Rattle.rept_dump.specs.declared.fault.CoreFault.{CoreFault}
use Rattle.rept_path.specs.declared.fault.PathFault.{PathFault}
use Rattle.rept_path.specs.declared.fault.PathFault.TheVariants as fault
use Rattle.rept_steps.specs.declared.run.Run.{Run}
use Rattle.rept_streams.specs.Runs.Kind.{is_several}
use Rattle.rept_ports.specs.Port.{Port, PortMove}
use Rattle.rept_session.specs.Serving.Serving.{Reading}
use Rattle.rept_opening.specs.Delivered.{SaysOrNoMemory, SaysRefusal}
use Rattle.rept_app.specs.Ends.{Stopped, Yields, PortsEnd}
use Rattle.rept_app.specs.Examine.{WalksTrace, Examines, RunYields, WalkYields, NoteYields, FilesEnd, FilesHold, IsRunStatus, IsWalkStatus, IsWalked, IsExamined, TraceExcludes, FilesExclude, WalkHolds}
use Rattle.rept_opening.specs.Forms.{executable_fault, program_fault, core_image_fault}
use Rattle.rept_opening.specs.Lines.{status_of}
use Rattle.rept_opening.specs.Reading.{HasNoCrash, HasNoDump, NotesRefuse}
use Rattle.rept_app.specs.Study.{Studies, IsStudied, StudyHolds}
use Rattle.rept_opening.specs.Loading.{CrashBytes}
use Rattle.rept_opening.specs.Opened.{CoreSays, CrashTrace, trace_in, run_in, ReadsNotes}
use Rattle.rept_app.specs.Told.{Examined, NotesTold}
use Rattle.rept_opening.specs.TraceRun.{IsRunFor, HasNoRunOf}
use Rattle.rept_opening.specs.True.{IsExcluded}
use Rattle.rept_opening.specs.declared.refusal.Refusal.{Refusal}
use Rattle.rept_opening.specs.declared.refusal.Refusal.TheVariants as refusal
use Rattle.rept_opening.specs.declared.status.ExitStatus.{ExitStatus}
use Rattle.rept_opening.specs.declared.status.ExitStatus.TheVariants as ends

-- how a call ends that tells why there is no run
abbrev pub WalkTold : ExitStatus → Type 0
WalkTold status = (status ≡ ends.Trace) ⊎ Stopped status

pub stopped_run : (status : ExitStatus) → Stopped status → IsRunStatus status
stopped_run status h = inr (inr (inr (inr h)))

pub all_walks : (status : ExitStatus) → WalkTold status → IsWalkStatus status
all_walks status (inl h) = inl h
all_walks status (inr h) = inr (stopped_run status h)

-- a run that is told has another status than a trace that has none
no_trace : (status : ExitStatus) → IsRunStatus status → status ≡ ends.Trace → ⊥
no_trace status (inl h) e = cc
no_trace status (inr (inl h)) e = cc
no_trace status (inr (inr (inl h))) e = cc
no_trace status (inr (inr (inr (inl h)))) e = cc
no_trace status (inr (inr (inr (inr (inl h))))) e = cc
no_trace status (inr (inr (inr (inr (inr h))))) e = cc

-- the status of a trace without a run
trace_told : (f : PathFault) (status : ExitStatus) → (f ≡ fault.OutOfMemory → ⊥) → Yields (status_of (refusal.Path f)) status → Yields ends.Trace status
trace_told (fault.NoStart k) status never h = h
trace_told (fault.NotCode a) status never h = h
trace_told (fault.NotRv32im a w) status never h = h
trace_told (fault.Unaligned a) status never h = h
trace_told (fault.NoBranchBit k a) status never h = h
trace_told (fault.BranchesLeft k n) status never h = h
trace_told (fault.JumpInMap k a) status never h = h
trace_told (fault.Gap k a b) status never h = h
trace_told (fault.End a b) status never h = h
trace_told (fault.TooLong k) status never h = h
trace_told (fault.Packet p) status never h = h
trace_told (fault.Trapped k a) status never h = h
trace_told (fault.TimeBack k) status never h = h
trace_told (fault.SliceOverlap pid time) status never h = h
trace_told (fault.UnknownThread k context) status never h = h
trace_told (fault.OtherThread k context) status never h = h
trace_told fault.OutOfMemory status never h = absurd (never refl)

pub not_output : (f : PathFault) → status_of (refusal.Path f) ≡ ends.OutputFault → ⊥
not_output (fault.NoStart k) e = cc
not_output (fault.NotCode a) e = cc
not_output (fault.NotRv32im a w) e = cc
not_output (fault.Unaligned a) e = cc
not_output (fault.NoBranchBit k a) e = cc
not_output (fault.BranchesLeft k n) e = cc
not_output (fault.JumpInMap k a) e = cc
not_output (fault.Gap k a b) e = cc
not_output (fault.End a b) e = cc
not_output (fault.TooLong k) e = cc
not_output (fault.Packet p) e = cc
not_output (fault.Trapped k a) e = cc
not_output (fault.TimeBack k) e = cc
not_output (fault.SliceOverlap pid time) e = cc
not_output (fault.UnknownThread k context) e = cc
not_output (fault.OtherThread k context) e = cc
not_output fault.OutOfMemory e = cc

pub not_input : (f : PathFault) → status_of (refusal.Path f) ≡ ends.InputFault → ⊥
not_input (fault.NoStart k) e = cc
not_input (fault.NotCode a) e = cc
not_input (fault.NotRv32im a w) e = cc
not_input (fault.Unaligned a) e = cc
not_input (fault.NoBranchBit k a) e = cc
not_input (fault.BranchesLeft k n) e = cc
not_input (fault.JumpInMap k a) e = cc
not_input (fault.Gap k a b) e = cc
not_input (fault.End a b) e = cc
not_input (fault.TooLong k) e = cc
not_input (fault.Packet p) e = cc
not_input (fault.Trapped k a) e = cc
not_input (fault.TimeBack k) e = cc
not_input (fault.SliceOverlap pid time) e = cc
not_input (fault.UnknownThread k context) e = cc
not_input (fault.OtherThread k context) e = cc
not_input fault.OutOfMemory e = cc

module _ (t : CrashTrace) (status : ExitStatus) where
  pub told_walked : (source sink : PortMove Port) → PortsEnd source sink status → WalkTold status → WalkYields t status → IsWalked t source sink status
  told_walked source sink ports so yields = record {
    ports = ports;
    yields = yields;
    ends_so = all_walks status so;
  }

  -- a call that stopped ends so whatever the run is
  stopped_rows : Stopped status → (run : Run) → RunYields (run_in t run) status
  stopped_rows s run = record { conflict = λ _ _. inr s; report = λ _. inl (inr (inr (inr s))) }

  pub memory_yields : Stopped status → WalkYields t status
  memory_yields s = record {
    refused = λ _ _. inr s;
    walked = λ run _. stopped_rows s run;
    only = λ e. absurd (no_trace status (stopped_run status s) e);
  }

  -- where memory ran out
  memory_stops : (f : PathFault) → f ≡ fault.OutOfMemory → Yields (status_of (refusal.Path f)) status → Stopped status
  memory_stops f e y = stops (subst (λ (g : PathFault). Yields (status_of (refusal.Path g)) status) e y)
    where
      stops : Yields ends.OutOfMemory status → Stopped status
      stops (inl h) = inr h
      stops (inr h) = h

  module _ (f : PathFault) (none : (run : Run) → IsRunFor t.crash t.trace t.manner run → f ≡ fault.OutOfMemory) (one : (g : PathFault) → HasNoRunOf t.crash t.trace t.manner.from g → (f ≡ fault.OutOfMemory) ⊎ (f ≡ g)) (no_memory : (g : PathFault) → HasNoRunOf t.crash t.trace t.manner.from g → g ≢ fault.OutOfMemory) where
    pub refused_told : (f ≡ fault.OutOfMemory) ⊎ HasNoRunOf t.crash t.trace t.manner.from f → Yields (status_of (refusal.Path f)) status → WalkTold status
    refused_told (inl e) so = inr (memory_stops f e so)
    refused_told (inr has) so = trace_told f status (no_memory f has) so

    pub refused_yields : (f ≡ fault.OutOfMemory) ⊎ HasNoRunOf t.crash t.trace t.manner.from f → Yields (status_of (refusal.Path f)) status → WalkYields t status
    refused_yields why so = record {
      refused = λ g has. same g has (one g has);
      walked = λ run is. stopped_rows (memory_stops f (none run is) so) run;
      only = λ e. which e why;
    }
      where
        same : (g : PathFault) → HasNoRunOf t.crash t.trace t.manner.from g → (f ≡ fault.OutOfMemory) ⊎ (f ≡ g) → Yields ends.Trace status
        same g has (inl e) = inr (memory_stops f e so)
        same g has (inr e) = trace_told g status (no_memory g has) (subst (λ (x : PathFault). Yields (status_of (refusal.Path x)) status) e so)

        which : status ≡ ends.Trace → (f ≡ fault.OutOfMemory) ⊎ HasNoRunOf t.crash t.trace t.manner.from f → (g : PathFault) × HasNoRunOf t.crash t.trace t.manner.from g
        which e (inl m) = absurd (no_trace status (stopped_run status (memory_stops f m so)) e)
        which e (inr has) = (f, has)

  -- where it tells a run
  module _ (run : Run) (only : (others : Run) → IsRunFor t.crash t.trace t.manner others → run ≡ others) (none : (f : PathFault) → HasNoRunOf t.crash t.trace t.manner.from f → ⊥) where
    run_yields : RunYields (run_in t run) status → (status ≡ ends.Trace → ⊥) → WalkYields t status
    run_yields yields never = record {
      refused = λ f has. absurd (none f has);
      walked = λ others is. subst (λ (p : Run). RunYields (run_in t p) status) (only others is) yields;
      only = λ e. absurd (never e);
    }

    pub studied_walked : (source sink : PortMove Port) → IsStudied (run_in t run) source sink status → IsWalked t source sink status
    studied_walked source sink s = record {
      ports = s.ports;
      yields = run_yields (record { conflict = s.conflict; report = s.report }) (no_trace status s.ends_so);
      ends_so = inr s.ends_so;
    }

module _ (t : CrashTrace) (reading : Reading) (text : List ℕ) (status : ExitStatus) where
  as_memory : (f : PathFault) → f ≡ fault.OutOfMemory → SaysRefusal (refusal.Path f) text status → SaysRefusal refusal.OutOfMemory text status
  as_memory f e h = plain (subst (λ (g : PathFault). SaysRefusal (refusal.Path g) text status) e h)
    where
      plain : SaysRefusal (refusal.Path fault.OutOfMemory) text status → SaysRefusal refusal.OutOfMemory text status
      plain s = record { line = s.line; ending = s.ending }

  pub refused_walks : (f : PathFault) → (f ≡ fault.OutOfMemory) ⊎ HasNoRunOf t.crash t.trace t.manner.from f → SaysOrNoMemory (refusal.Path f) text status → WalksTrace t reading text status
  refused_walks f (inl e) (inl h) = inr (inl (as_memory f e h))
  refused_walks f (inr has) (inl h) = inl (inl (f, has, h))
  refused_walks f why (inr h) = inr (inl h)

  pub studies_walk : (run : Run) → IsRunFor t.crash t.trace t.manner run → Studies (run_in t run) reading text status → WalksTrace t reading text status
  studies_walk run is (inl h) = inl (inr (run, is, inl h))
  studies_walk run is (inr (inl (a, account, inl h))) = inl (inr (run, is, inr (a, account, h)))
  studies_walk run is (inr (inl (a, account, inr h))) = inr (inr (run, a, is, account, h))
  studies_walk run is (inr (inr h)) = inr (inl h)

pub trace_excludes : (t : CrashTrace) (run : Run) → ((others : Run) → IsRunFor t.crash t.trace t.manner others → run ≡ others) → IsExcluded (run_in t run) → TraceExcludes t
trace_excludes t run only none others is = subst (λ (p : Run). IsExcluded (run_in t p)) (only others is) none

-- where a session may have been held over a run, so it may over its trace and its files
pub study_holds : {P : Type 0} (t : CrashTrace) (run : Run) (status : ExitStatus) → IsRunFor t.crash t.trace t.manner run → P ⊎ StudyHolds (run_in t run) status → P ⊎ WalkHolds t status
study_holds t run status is (inl p) = inl p
study_holds t run status is (inr (consistent, so)) = inr ((run, is, consistent), so)

-- the files are accepted, and these are the notes
pub reads_here : (bytes : CrashBytes) (notes : List (List ℕ)) → None ≡ program_fault bytes.program → None ≡ core_image_fault bytes.core → CoreSays bytes (Ok notes) → ReadsNotes bytes notes
reads_here bytes notes e k says = record { program_accepted = sym e; core_accepted = sym k; noted = says }

pub walk_holds : {P : Type 0} (bytes : CrashBytes) (notes : List (List ℕ)) (status : ExitStatus) → ReadsNotes bytes notes → P ⊎ WalkHolds (trace_in bytes notes) status → P ⊎ FilesHold bytes status
walk_holds bytes notes status read (inl p) = inl p
walk_holds bytes notes status read (inr ((run, is, consistent), so)) = inr ((notes, run, read, is, consistent), so)

-- the files of the examination
module _ (bytes : CrashBytes) (status : ExitStatus) where
  abbrev AfterExe : Option ElfFault → Type 0
  AfterExe o = MatchOption o (MatchOption (core_image_fault bytes.core) ((said : Result (List (List ℕ)) CoreFault) → CoreSays bytes said → NoteYields bytes said status) (λ _. Yields ends.Core status)) (λ _. Yields ends.Executable status)

  abbrev AfterCore : Option ElfFault → Type 0
  AfterCore o = MatchOption o ((said : Result (List (List ℕ)) CoreFault) → CoreSays bytes said → NoteYields bytes said status) (λ _. Yields ends.Core status)

  -- a refusal of the files ends the call with its status
  pub refused_ends : (r : Refusal) → HasNoCrash (is_several bytes.trace) bytes r → Yields (status_of r) status → FilesEnd bytes status
  refused_ends r why so = at (program_fault bytes.program) (core_image_fault bytes.core) why
    where
      named : (s : Refusal) → r ≡ s → Yields (status_of s) status
      named s e = subst (λ (x : Refusal). Yields (status_of x) status) e so

      at : (a b : Option ElfFault) → MatchOption a (MatchOption b (NotesRefuse (is_several bytes.trace) bytes.core r) (λ f. r ≡ refusal.CoreImage f)) (λ f. r ≡ refusal.Executable f)
          → MatchOption a (MatchOption b ((said : Result (List (List ℕ)) CoreFault) → CoreSays bytes said → NoteYields bytes said status) (λ _. Yields ends.Core status)) (λ _. Yields ends.Executable status)
      at (Some f) b e = named (refusal.Executable f) e
      at None (Some f) e = named (refusal.CoreImage f) e
      at None None (f, says, only, e) = λ said says'. subst (λ (x : Result (List (List ℕ)) CoreFault). NoteYields bytes x status) (sym (only said says')) (named (refusal.Core f) e)

  module _ (e : None ≡ program_fault bytes.program) (k : None ≡ core_image_fault bytes.core) (here : Result (List (List ℕ)) CoreFault) (only : (said : Result (List (List ℕ)) CoreFault) → CoreSays bytes said → said ≡ here) where
    pub notes_end : NoteYields bytes here status → FilesEnd bytes status
    notes_end yields = subst AfterExe e (subst AfterCore k (λ said says. subst (λ s. NoteYields bytes s status) (sym (only said says)) yields))

  -- a call that stopped ends so whatever the files are
  pub stopped_end : Stopped status → FilesEnd bytes status
  stopped_end s = at (program_fault bytes.program) (core_image_fault bytes.core)
    where
      notes : (said : Result (List (List ℕ)) CoreFault) → NoteYields bytes said status
      notes (Err fault) = inr s
      notes (Ok n) = memory_yields (trace_in bytes n) status s

      at : (a b : Option ElfFault) → MatchOption a (MatchOption b ((said : Result (List (List ℕ)) CoreFault) → CoreSays bytes said → NoteYields bytes said status) (λ _. Yields ends.Core status)) (λ _. Yields ends.Executable status)
      at (Some f) b = inr s
      at None (Some f) = inr s
      at None None = λ said says. notes said

  all_statuses : (status ≡ ends.Executable) ⊎ (status ≡ ends.Core) ⊎ Stopped status → (status ≡ ends.Executable) ⊎ (status ≡ ends.Core) ⊎ IsWalkStatus status
  all_statuses (inl h) = inl h
  all_statuses (inr (inl h)) = inr (inl h)
  all_statuses (inr (inr h)) = inr (inr (inr (stopped_run status h)))

  pub told_examined : (source sink : PortMove Port) → PortsEnd source sink status → (status ≡ ends.Executable) ⊎ (status ≡ ends.Core) ⊎ Stopped status → FilesEnd bytes status → IsExamined bytes source sink status
  told_examined source sink ports so yields = record { ports = ports; yields = yields; ends_so = all_statuses so }

  pub walked_examined : (notes : List (List ℕ)) → FilesEnd bytes status → (source sink : PortMove Port) → IsWalked (trace_in bytes notes) source sink status → IsExamined bytes source sink status
  walked_examined notes yields source sink w = record { ports = w.ports; yields = yields; ends_so = inr (inr w.ends_so) }

-- what is written of them
module _ (bytes : CrashBytes) (reading : Reading) (text : List ℕ) (status : ExitStatus) where
  abbrev TextExe : Option ElfFault → Type 0
  TextExe o = MatchOption o (MatchOption (core_image_fault bytes.core) (NotesTold bytes reading.input text status) (λ fault. SaysRefusal (refusal.CoreImage fault) text status)) (λ fault. SaysRefusal (refusal.Executable fault) text status)

  abbrev TextCore : Option ElfFault → Type 0
  TextCore o = MatchOption o (NotesTold bytes reading.input text status) (λ fault. SaysRefusal (refusal.CoreImage fault) text status)

  -- what is told of a refusal of the files
  pub refused_examines : (r : Refusal) → HasNoCrash (is_several bytes.trace) bytes r → SaysOrNoMemory r text status → Examines bytes reading text status
  refused_examines r why (inr h) = inr (inl h)
  refused_examines r why (inl h) = inl (at (program_fault bytes.program) (core_image_fault bytes.core) why)
    where
      named : (s : Refusal) → r ≡ s → SaysRefusal s text status
      named s e = subst (λ (x : Refusal). SaysRefusal x text status) e h

      at : (a b : Option ElfFault) → MatchOption a (MatchOption b (NotesRefuse (is_several bytes.trace) bytes.core r) (λ f. r ≡ refusal.CoreImage f)) (λ f. r ≡ refusal.Executable f)
          → MatchOption a (MatchOption b (NotesTold bytes reading.input text status) (λ f. SaysRefusal (refusal.CoreImage f) text status)) (λ f. SaysRefusal (refusal.Executable f) text status)
      at (Some f) b e = named (refusal.Executable f) e
      at None (Some f) e = named (refusal.CoreImage f) e
      at None None (f, says, only, e) = (Err f, says, named (refusal.Core f) e)

  module _ (e : None ≡ program_fault bytes.program) (k : None ≡ core_image_fault bytes.core) where
    notes_examine : NotesTold bytes reading.input text status → Examined bytes reading.input text status
    notes_examine h = subst TextExe e (subst TextCore k h)

    module _ (notes : List (List ℕ)) (says : CoreSays bytes (Ok notes)) where
      pub walks_examine : WalksTrace (trace_in bytes notes) reading text status → Examines bytes reading text status
      walks_examine (inl h) = inl (notes_examine (Ok notes, says, h))
      walks_examine (inr (inl h)) = inr (inl h)
      walks_examine (inr (inr cut)) = inr (inr (notes, reads_here bytes notes e k says, cut))

abbrev pub said_ok : List (List ℕ) → Result (List (List ℕ)) CoreFault
said_ok n = Ok n

module _ (bytes : CrashBytes) (notes : List (List ℕ)) (only : (said : Result (List (List ℕ)) CoreFault) → CoreSays bytes said → said ≡ Ok notes) where
  same_note : (n : List (List ℕ)) → said_ok n ≡ said_ok notes → n ≡ notes
  same_note n e = cc

  pub files_exclude : TraceExcludes (trace_in bytes notes) → FilesExclude bytes
  files_exclude none n read =
      let same = same_note n (only (Ok n) read.noted) in
      subst (λ m. TraceExcludes (trace_in bytes m)) (sym same) none

-- the status of a refusal of the files
pub refused_status : (many : Bool) (exe core : List ℕ) (r : Refusal) → HasNoDump many exe core r → (status_of r ≡ ends.Executable) ⊎ (status_of r ≡ ends.Core)
refused_status many exe core r why = at (executable_fault exe) (core_image_fault core) why
  where
    at : (a b : Option ElfFault) → MatchOption a (MatchOption b (NotesRefuse many core r) (λ f. r ≡ refusal.CoreImage f)) (λ f. r ≡ refusal.Executable f) → (status_of r ≡ ends.Executable) ⊎ (status_of r ≡ ends.Core)
    at (Some f) b e = inl (ap status_of e)
    at None (Some f) e = inr (ap status_of e)
    at None None (f, says, only, e) = inr (ap status_of e)

-- such a status is neither that of a fault of a port nor that of a conflict
pub not_refused : (status other : ExitStatus) → (ends.Executable ≡ other → ⊥) → (ends.Core ≡ other → ⊥) → (status ≡ ends.Executable) ⊎ (status ≡ ends.Core) → status ≡ other → ⊥
not_refused status other a b (inl h) e = a (sym h ∙ e)
not_refused status other a b (inr h) e = b (sym h ∙ e)

-- how a call ends that tells a refusal of the files
pub as_refused : (r : Refusal) (status : ExitStatus) → (status_of r ≡ ends.Executable) ⊎ (status_of r ≡ ends.Core) → Yields (status_of r) status → (status ≡ ends.Executable) ⊎ (status ≡ ends.Core) ⊎ Stopped status
as_refused r status (inl h) (inl so) = inl (so ∙ h)
as_refused r status (inr h) (inl so) = inr (inl (so ∙ h))
as_refused r status which (inr so) = inr (inr so)
