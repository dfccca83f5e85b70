-- The promise of the whole program, from what is written, what the files say, and what is true of
-- every report.
use Rattle.std.proofs.Common.{◌≡◌, ◌⊎◌, ℕ, List, [], length, Bool, true, false, Option, None, Some, MatchOption, Result, Ok, Err, MatchResult, inl, inr, refl, sym, subst, ◌∙◌, cond, nat_lt}
use Rattle.std.specs.Io.KnownBytes.{Appends}
use Rattle.rept_ports.specs.Port.{Port, PortMove}
use Rattle.rept_ports.specs.Shelves.{Files}
use Rattle.rept_elf.specs.declared.fault.ElfFault.{ElfFault}
use Rattle.rept_maps.specs.declared.fault.MapFault.{MapFault}
use Rattle.rept_path.specs.declared.fault.PathFault.{PathFault}
use Rattle.rept_path.specs.declared.fault.PathFault.TheVariants as fault
use Rattle.rept_opening.specs.Delivered.{Delivers, SaysRefusal}
use Rattle.rept_app.specs.Ends.{Yields}
use Rattle.rept_opening.specs.Forms.{program_fault, core_image_fault}
use Rattle.rept_opening.specs.Lines.{status_of, status_of_path}
use Rattle.rept_opening.specs.Loading.{CrashBytes, crash_bytes, CoreBytes, core_bytes, Loading, loading, loading_by, fetched, fetched_all, fetched_core, manner_of, limit_of}
use Rattle.rept_opening.specs.Loading.Loading.{Refused, Loaded, LoadedCore, MadeRun}
use Rattle.rept_opening.specs.Mapped.{mapped_crash, mapped_bytes, ListSays}
use Rattle.rept_app.specs.Claims.{NoExecution}
use Rattle.rept_app.specs.Promise.{IsOpened, IsAnswered, IsImpossible, Promise}
use Rattle.rept_app.specs.Told.{CallInput, Analysed, WalkedTrace, NotesTold, Examined, CallTold, ToldOf, CallWrites, made_bytes, summary_line}
use Rattle.rept_opening.specs.Opened.{Opening, ReadsNotes, IsCrashOf, crash_at, domain_at, run_at, trace_in}
use Rattle.rept_opening.specs.TraceRun.{IsRunFor}
use Rattle.rept_app.specs.Top.{EndsAt, EndsByFiles}
use Rattle.rept_opening.specs.declared.refusal.FileKind.{FileKind}
use Rattle.rept_opening.specs.declared.refusal.FileKind.TheVariants as file
use Rattle.rept_opening.specs.declared.refusal.Refusal.{Refusal}
use Rattle.rept_opening.specs.declared.refusal.Refusal.TheVariants as refusal
use Rattle.rept_opening.specs.declared.status.ExitStatus.{ExitStatus}
use Rattle.rept_opening.specs.declared.status.ExitStatus.TheVariants as ends
use Rattle.rept_opening.specs.declared.load.OpenOptions.{OpenOptions}
use Rattle.rept_app.proofs.Failing.{load_ending}
use Rattle.rept_app.proofs.TrueLineLemmas.{true_lines}
use Rattle.rept_session.specs.Serving.Serving.{lines_read}
use Rattle.rept_opening.proofs.BeyondLemmas.{told_beyond}
use Rattle.rept_opening.proofs.RunLemmas.{IsWhole}
use Rattle.rept_opening.proofs.TrueLemmas.{ReportsAreTrue, opened_whole}
use Rattle.rept_opening.specs.Words.Words.{CoreNames, Names, Meaning, meaning_of}
use Rattle.rept_opening.specs.Words.Words.Meaning.{Open, Maps, Made as MadeWords}

-- a trace that is refused, or no memory
path_status : (f : PathFault) → (status_of_path f ≡ ends.Trace) ⊎ (status_of_path f ≡ ends.OutOfMemory)
path_status (fault.NoStart k) = inl refl
path_status (fault.NotCode a) = inl refl
path_status (fault.NotRv32im a w) = inl refl
path_status (fault.Unaligned a) = inl refl
path_status (fault.NoBranchBit k a) = inl refl
path_status (fault.BranchesLeft k n) = inl refl
path_status (fault.JumpInMap k a) = inl refl
path_status (fault.Gap k a b) = inl refl
path_status (fault.End a b) = inl refl
path_status (fault.TooLong k) = inl refl
path_status (fault.Packet p) = inl refl
path_status (fault.Trapped k a) = inl refl
path_status (fault.TimeBack k) = inl refl
path_status (fault.SliceOverlap pid time) = inl refl
path_status (fault.UnknownThread k context) = inl refl
path_status (fault.OtherThread k context) = inl refl
path_status fault.OutOfMemory = inr refl

-- no refusal has the status of a session that ended well
refused_badly : (r : Refusal) → status_of r ≡ ends.Ok → ⊥
refused_badly refusal.Usage e = cc
refused_badly (refusal.LoadFault k) e = cc
refused_badly (refusal.NoFile k) e = cc
refused_badly (refusal.TooLarge k) e = cc
refused_badly (refusal.Executable f) e = cc
refused_badly (refusal.CoreImage f) e = cc
refused_badly (refusal.Core f) e = cc
refused_badly (refusal.Maps f) e = cc
refused_badly (refusal.Path f) e = by_path (path_status f)
  where
    by_path : (status_of_path f ≡ ends.Trace) ⊎ (status_of_path f ≡ ends.OutOfMemory) → ⊥
    by_path (inl h) = let bad : ends.Trace ≡ ends.Ok = sym h ∙ e in cc
    by_path (inr h) = let bad : ends.OutOfMemory ≡ ends.Ok = sym h ∙ e in cc
refused_badly (refusal.Inconsistent kind) e = cc
refused_badly (refusal.Refuted point reg) e = cc
refused_badly refusal.InputFault e = cc
refused_badly refusal.OutOfMemory e = cc
refused_badly refusal.TooMuchInput e = cc

-- words and files are refused by no conflict
abbrev pub IsNoConflict : Loading → Type 0
IsNoConflict (Refused r) = status_of r ≡ ends.Inconsistent → ⊥
IsNoConflict (Loaded bytes) = Unit {0}
IsNoConflict (LoadedCore bytes) = Unit {0}
IsNoConflict (MadeRun seed steps) = Unit {0}

either : (b : Bool) (x y : Loading) → IsNoConflict x → IsNoConflict y → IsNoConflict (cond b x y)
either true x y hx hy = hx
either false x y hx hy = hy

one_file : (kind : FileKind) (o : Option (List ℕ)) (next : List ℕ → Loading) → ((bytes : List ℕ) → IsNoConflict (next bytes)) → IsNoConflict (fetched kind o next)
one_file kind None next h = λ (e : ends.NoFile ≡ ends.Inconsistent). cc
one_file kind (Some bytes) next h = either (nat_lt (limit_of kind) (length bytes)) (Refused (refusal.TooLarge kind)) (next bytes) (λ (e : ends.TooLarge ≡ ends.Inconsistent). cc) (h bytes)

all_files : (files : Files) (names : Names) (manner : OpenOptions) → IsNoConflict (fetched_all files names manner)
all_files files names manner =
    one_file file.Exe (files names.exe) (λ exe. fetched file.Core (files names.core) (λ core. fetched file.Trace (files names.trace) (λ trace. Loaded (crash_bytes exe core trace manner))))
    (λ exe. one_file file.Core (files names.core) (λ core. fetched file.Trace (files names.trace) (λ trace. Loaded (crash_bytes exe core trace manner)))
    (λ core. one_file file.Trace (files names.trace) (λ trace. Loaded (crash_bytes exe core trace manner)) (λ trace. tt)))

two_files : (files : Files) (names : CoreNames) (manner : OpenOptions) → IsNoConflict (fetched_core files names manner)
two_files files names manner =
    one_file file.Core (files names.core) (λ core. fetched file.Trace (files names.trace) (λ trace. LoadedCore (core_bytes core trace manner)))
    (λ core. one_file file.Trace (files names.trace) (λ trace. LoadedCore (core_bytes core trace manner)) (λ trace. tt))

no_conflict : (files : Files) (m : Option Meaning) → IsNoConflict (loading_by files m)
no_conflict files None = λ (e : ends.Usage ≡ ends.Inconsistent). cc
no_conflict files (Some (MadeWords seed steps)) = tt
no_conflict files (Some (Maps d names from)) = two_files files names (manner_of d from)
no_conflict files (Some (Open d names from)) = all_files files names (manner_of d from)

-- the trace of these files tells a run, and it is analysed
pub record Analyses (bytes : CrashBytes) (lines text : List ℕ) (status : ExitStatus) : Type 0 where
  pub opening : Opening
  pub same : opening.bytes ≡ bytes
  pub read : ReadsNotes opening.bytes opening.notes
  pub told : IsRunFor (crash_at opening) opening.bytes.trace opening.bytes.manner opening.run
  pub analysed : Analysed (run_at opening) lines text status

module _ (lines text : List ℕ) (status : ExitStatus) (promised : (status ≡ ends.Ok) ⊎ (status ≡ ends.Inconsistent)) where
  never : {P : Type 0} (other : ExitStatus) → (other ≡ ends.Ok → ⊥) → (other ≡ ends.Inconsistent → ⊥) → status ≡ other → P
  never {P = P} other not_ok consistent e = by_status promised
    where
      by_status : (status ≡ ends.Ok) ⊎ (status ≡ ends.Inconsistent) → P
      by_status (inl h) = absurd (not_ok (sym e ∙ h))
      by_status (inr h) = absurd (consistent (sym e ∙ h))

  no_path : {P : Type 0} (f : PathFault) → status ≡ status_of_path f → P
  no_path {P = P} f e = by_fault (path_status f)
    where
      by_fault : (status_of_path f ≡ ends.Trace) ⊎ (status_of_path f ≡ ends.OutOfMemory) → P
      by_fault (inl h) = never ends.Trace (λ (k : ends.Trace ≡ ends.Ok). cc) (λ (k : ends.Trace ≡ ends.Inconsistent). cc) (e ∙ h)
      by_fault (inr h) = never ends.OutOfMemory (λ (k : ends.OutOfMemory ≡ ends.Ok). cc) (λ (k : ends.OutOfMemory ≡ ends.Inconsistent). cc) (e ∙ h)

  no_core : {P : Type 0} → status ≡ ends.Core → P
  no_core e = never ends.Core (λ (k : ends.Core ≡ ends.Ok). cc) (λ (k : ends.Core ≡ ends.Inconsistent). cc) e

  module _ (bytes : CrashBytes) where
    walked : (notes : List (List ℕ)) → ReadsNotes bytes notes → WalkedTrace (trace_in bytes notes) lines text status → Analyses bytes lines text status
    walked notes read (inl (f, has, says)) = no_path f says.ending
    walked notes read (inr (run, is, analysed)) = record { opening = record { bytes = bytes; notes = notes; run = run }; same = refl; read = read; told = is; analysed = analysed }

    noted : program_fault bytes.program ≡ None → core_image_fault bytes.core ≡ None → NotesTold bytes lines text status → Analyses bytes lines text status
    noted exe core (Ok notes, said, h) = walked notes (record { program_accepted = exe; core_accepted = core; noted = said }) h
    noted exe core (Err f, said, says) = no_core says.ending

    core_read : (o : Option ElfFault) → core_image_fault bytes.core ≡ o → program_fault bytes.program ≡ None → MatchOption o (NotesTold bytes lines text status) (λ f. SaysRefusal (refusal.CoreImage f) text status) → Analyses bytes lines text status
    core_read None core exe h = noted exe core h
    core_read (Some f) core exe says = no_core says.ending

    exe_read : (o : Option ElfFault) → program_fault bytes.program ≡ o
        → MatchOption o (MatchOption (core_image_fault bytes.core) (NotesTold bytes lines text status) (λ f. SaysRefusal (refusal.CoreImage f) text status)) (λ f. SaysRefusal (refusal.Executable f) text status)
        → Analyses bytes lines text status
    exe_read None exe h = core_read (core_image_fault bytes.core) refl exe h
    exe_read (Some f) exe says = never ends.Executable (λ (k : ends.Executable ≡ ends.Ok). cc) (λ (k : ends.Executable ≡ ends.Inconsistent). cc) says.ending

    pub examined : Examined bytes lines text status → Analyses bytes lines text status
    examined h = exe_read (program_fault bytes.program) refl h

-- What was written is that of a run which is analysed: that of the files of the words, or of a made
-- crash.
abbrev pub IsOf : CallInput → List ℕ → ExitStatus → Type 0
IsOf g text status = (o : Opening) × (lines : List ℕ) × IsOpened g o lines × Analysed (run_at o) lines text status

module _ (g : CallInput) (text : List ℕ) (status : ExitStatus) (promised : (status ≡ ends.Ok) ⊎ (status ≡ ends.Inconsistent)) where
  refused : (r : Refusal) → loading g.words g.files ≡ Refused r → status ≡ status_of r → IsOf g text status
  refused r e ending = by_status promised
    where
      consistent : status_of r ≡ ends.Inconsistent → ⊥
      consistent = subst IsNoConflict e (no_conflict g.files (meaning_of g.words))

      by_status : (status ≡ ends.Ok) ⊎ (status ≡ ends.Inconsistent) → IsOf g text status
      by_status (inl h) = absurd (refused_badly r (sym ending ∙ h))
      by_status (inr h) = absurd (consistent (sym ending ∙ h))

  -- what was loaded is that of a crash
  opens_by : (l : Loading) (bytes : CrashBytes) → loading g.words g.files ≡ l → IsCrashOf g.files l bytes → IsCrashOf g.files (loading g.words g.files) bytes
  opens_by l bytes e h = subst (λ (x : Loading). IsCrashOf g.files x bytes) (sym e) h

  examined_of : (l : Loading) (bytes : CrashBytes) → loading g.words g.files ≡ l → IsCrashOf g.files l bytes → Examined bytes g.reading.input text status → IsOf g text status
  examined_of l bytes e is h =
      let a = examined g.reading.input text status promised bytes h in
      (a.opening, g.reading.input, inl (record { loaded = subst (λ (b : CrashBytes). IsCrashOf g.files (loading g.words g.files) b) (sym a.same) (opens_by l bytes e is); read = a.read; told = a.told }, refl), a.analysed)

  never_core : {P : Type 0} → status ≡ ends.Core → P
  never_core e = no_core [] text status promised e

  listed : (bytes : CoreBytes) → loading g.words g.files ≡ LoadedCore bytes → core_image_fault bytes.core ≡ None → (said : Result (List ℕ) MapFault) → ListSays bytes.core said
      → MatchResult said (λ desc. Examined (mapped_bytes (mapped_crash g.files bytes) desc) g.reading.input text status) (λ fault. SaysRefusal (refusal.Maps fault) text status) → IsOf g text status
  listed bytes e ok (Ok desc) says h =
      examined_of (LoadedCore bytes) (mapped_bytes (mapped_crash g.files bytes) desc) e (record { accepted = ok; desc = desc; listed = says; same = refl }) h
  listed bytes e ok (Err fault) says h = never_core h.ending

  mapped : (bytes : CoreBytes) → loading g.words g.files ≡ LoadedCore bytes → (o : Option ElfFault) → core_image_fault bytes.core ≡ o
      → MatchOption o ((said : Result (List ℕ) MapFault) × ListSays bytes.core said × MatchResult said (λ desc. Examined (mapped_bytes (mapped_crash g.files bytes) desc) g.reading.input text status) (λ fault. SaysRefusal (refusal.Maps fault) text status)) (λ fault. SaysRefusal (refusal.CoreImage fault) text status)
      → IsOf g text status
  mapped bytes e None ok (said, says, h) = listed bytes e ok said says h
  mapped bytes e (Some fault) ok h = never_core h.ending

  by_loading : (l : Loading) → loading g.words g.files ≡ l → ToldOf g l text status → IsOf g text status
  by_loading (Refused r) e says = refused r e says.ending
  by_loading (Loaded bytes) e h = examined_of (Loaded bytes) bytes e refl h
  by_loading (LoadedCore bytes) e h = mapped bytes e (core_image_fault bytes.core) refl h
  by_loading (MadeRun seed steps) e (made, is, h) =
      let a = examined summary_line text status promised (made_bytes made) h in
      (a.opening, summary_line, inr (seed, steps, made, e, is, record { bytes = a.same; read = a.read; told = a.told }, refl), a.analysed)

  pub told_of_run : CallTold g text status → IsOf g text status
  told_of_run h = by_loading (loading g.words g.files) refl h

-- a call that was cut short ends with neither status
no_memory_ok : {P : Type 0} (text : List ℕ) → SaysRefusal refusal.OutOfMemory text ends.Ok → P
no_memory_ok text says = let bad : ends.Ok ≡ ends.OutOfMemory = says.ending in let no : ⊥ = cc in absurd no

no_memory_conflict : {P : Type 0} (text : List ℕ) → SaysRefusal refusal.OutOfMemory text ends.Inconsistent → P
no_memory_conflict text says = let bad : ends.Inconsistent ≡ ends.OutOfMemory = says.ending in let no : ⊥ = cc in absurd no

whole_ok : (g : CallInput) (text : List ℕ) → CallWrites g text ends.Ok → IsOf g text ends.Ok
whole_ok g text (inl told) = told_of_run g text ends.Ok (inl refl) told
whole_ok g text (inr (inl failed)) = let bad : ends.Ok ≡ ends.LoadFault = load_ending g text ends.Ok failed in let no : ⊥ = cc in absurd no
whole_ok g text (inr (inr (inl says))) = no_memory_ok text says
whole_ok g text (inr (inr (inr (inl (o, a, opens, is, cut))))) = absurd cut
whole_ok g text (inr (inr (inr (inr (seed, steps, asked, (made, m, o, opens, a, is, left, cut)))))) = absurd cut

whole_conflict : (g : CallInput) (text : List ℕ) → CallWrites g text ends.Inconsistent → IsOf g text ends.Inconsistent
whole_conflict g text (inl told) = told_of_run g text ends.Inconsistent (inr refl) told
whole_conflict g text (inr (inl failed)) = let bad : ends.Inconsistent ≡ ends.LoadFault = load_ending g text ends.Inconsistent failed in let no : ⊥ = cc in absurd no
whole_conflict g text (inr (inr (inl says))) = no_memory_conflict text says
whole_conflict g text (inr (inr (inr (inl (o, a, opens, is, cut))))) = absurd cut
whole_conflict g text (inr (inr (inr (inr (seed, steps, asked, (made, m, o, opens, a, is, left, cut)))))) = absurd cut

module _ (true_of : ReportsAreTrue) (g : CallInput) (out : PortMove Port) where
  whole_of : (o : Opening) (lines : List ℕ) → IsOpened g o lines → IsWhole (crash_at o) o.run
  whole_of o lines (inl (opens, same)) = opened_whole o opens.read opens.told
  whole_of o lines (inr (seed, steps, made, asked, is, opens, same)) = opened_whole o opens.read opens.told

  answered_by : (text : List ℕ) → Appends out.before.bytes out.after.bytes text → IsOf g text ends.Ok → IsAnswered g out
  answered_by text written (o, lines, opened, inl (inl (kind, has, says))) = let bad : ends.Ok ≡ ends.Inconsistent = says.ending in let no : ⊥ = cc in absurd no
  answered_by text written (o, lines, opened, inl (inr (point, reg, refuted, says))) = let bad : ends.Ok ≡ ends.Inconsistent = says.ending in let no : ⊥ = cc in absurd no
  answered_by text written (o, lines, opened, inr (a, is, answers)) =
      let holds = true_of (domain_at o) (crash_at o) o.run a.known (whole_of o lines opened) is.report in
      let beyond = told_beyond (run_at o) a holds is.beyond in
      record {
        opening = o;
        lines = lines;
        opened = opened;
        account = a;
        report = is;
        text = text;
        answers = answers;
        written = written;
        holds = holds;
        beyond = beyond;
        true_lines = true_lines (run_at o) a (whole_of o lines opened) is holds beyond (lines_read lines) text answers.answers;
      }

  -- a made run isn't inconsistent
  made_ends_well : (l : Loading) (seed steps : ℕ) → l ≡ MadeRun seed steps → EndsAt g.files l ends.Inconsistent → ⊥
  made_ends_well l seed steps e h = bad (subst (λ (x : Loading). EndsAt g.files x ends.Inconsistent) e h)
    where
      bad : Yields ends.Ok ends.Inconsistent → ⊥
      bad (inl k) = cc
      bad (inr (inl k)) = cc
      bad (inr (inr k)) = cc

  impossible_by : EndsByFiles g.words g.files ends.Inconsistent → NoExecution g.words g.files → (text : List ℕ) → IsOf g text ends.Inconsistent → IsImpossible g
  impossible_by files none text (o, lines, inl (opens, same), analysed) = record { opening = o; opened = opens; none = none o opens }
  impossible_by files none text (o, lines, inr (seed, steps, made, asked, is, opens, same), analysed) = absurd (made_ends_well (loading g.words g.files) seed steps asked files)

  ok_delivered : Delivers (CallWrites g) out ends.Ok → IsAnswered g out
  ok_delivered (inl (text, goes, written, calm)) = answered_by text written (whole_ok g text goes)
  ok_delivered (inr (e, fault, rest)) = let bad : ends.Ok ≡ ends.OutputFault = e in let no : ⊥ = cc in absurd no

  conflict_delivered : EndsByFiles g.words g.files ends.Inconsistent → NoExecution g.words g.files → Delivers (CallWrites g) out ends.Inconsistent → IsImpossible g
  conflict_delivered files none (inl (text, goes, written, calm)) = impossible_by files none text (whole_conflict g text goes)
  conflict_delivered files none (inr (e, fault, rest)) = let bad : ends.Inconsistent ≡ ends.OutputFault = e in let no : ⊥ = cc in absurd no

  pub promised : (status : ExitStatus) → Delivers (CallWrites g) out status → EndsByFiles g.words g.files status → (status ≡ ends.Inconsistent → NoExecution g.words g.files) → Promise g out status
  promised status delivers files none = record {
    answered = λ e. ok_delivered (subst (Delivers (CallWrites g) out) e delivers);
    impossible = λ e. conflict_delivered (subst (EndsByFiles g.words g.files) e files) (none e) (subst (Delivers (CallWrites g) out) e delivers);
  }
