-- What a process opens, from what is opened of the files.
use Rattle.std.proofs.Common.{◌≡◌, ℕ, List, Result, Ok, Err, IfErr, IfOk, IfSome, inl, inr, refl, sym, ap, subst}
use Rattle.std.specs.Prelude.{string_bytes}
use Rattle.rept_ports.specs.Port.{PortMove, move}
use Rattle.rept_ports.specs.Shelves.{Files, Shelved}
use Rattle.rept_ports.specs.declared.arguments.Unreadable.{Unreadable}
use Rattle.rept_streams.specs.Runs.Kind.{is_several}
use Rattle.rept_opening.proofs.Notes.{some_said}
use Rattle.rept_opening.proofs.EndedLemmas.{analysed_whole}
use Rattle.rept_opening.proofs.RunLemmas.{IsWhole}
use Rattle.rept_opening.proofs.LoadingLemmas.{Stops}
use Rattle.rept_opening.proofs.BeyondLemmas.{told_beyond}
use Rattle.rept_opening.proofs.TrueLemmas.{ReportsAreTrue}
use Rattle.rept_opening.specs.Lines.{status_of}
use Rattle.rept_opening.specs.Loading.{CoreBytes, CrashBytes, Loading, core_loads_to, crash_bytes, loading}
use Rattle.rept_opening.specs.Loading.Loading.{Loaded, LoadedCore}
use Rattle.rept_opening.specs.Mapped.{mapped_crash}
use Rattle.rept_opening.specs.Opened.{IsCrashOf, run_in, trace_in}
use Rattle.rept_opening.specs.True.{IsTrue}
use Rattle.rept_opening.specs.declared.refusal.FileKind.TheVariants as file
use Rattle.rept_opening.specs.declared.load.OpenOptions.{OpenOptions}
use Rattle.rept_opening.specs.declared.refusal.Refusal.{Refusal}
use Rattle.rept_debug.specs.Begin.{beginning}
use Rattle.rept_debug.specs.Debugged.{HasNoTalk, IsDebugged, IsHeld, IsHeldMapped, IsRefusedLoading, IsUnheld, NameStops, Notices, Streams, streams}
use Rattle.rept_debug.specs.Process.{MayHaveGreeted, DebugProcess, OpensAs, OpensTalk, RefusesAs, session_words}
use Rattle.rept_debug.specs.declared.no_talk.GdbError.{GdbError}
use Rattle.rept_debug.specs.declared.no_talk.GdbError.TheVariants as no_talk
use Rattle.rept_debug.specs.declared.talk.GdbSession.{GdbSession}

-- the same bytes
pub same_bytes : (exe exe' core core' trace trace' : List ℕ) (manner : OpenOptions) (P : CrashBytes → Type 0) → exe' ≡ exe → core' ≡ core → trace' ≡ trace → P (crash_bytes exe' core' trace' manner) → P (crash_bytes exe core trace manner)
same_bytes exe exe' core core' trace trace' manner P e k t h =
    subst (λ (x : List ℕ). P (crash_bytes x core trace manner)) e (subst (λ (x : List ℕ). P (crash_bytes exe' x trace manner)) k (subst (λ (x : List ℕ). P (crash_bytes exe' core' x manner)) t h))

-- the run that was held over is one of some threads, each of which has a note
held_whole : (bytes : CrashBytes) (io : Streams) (talk : GdbSession) (h : IsHeld bytes io talk) → IsWhole (trace_in bytes h.notes).crash h.held.run
held_whole bytes io talk h = analysed_whole (trace_in bytes h.notes).crash bytes.trace (beginning bytes.manner talk.from) h.held.run (some_said (is_several bytes.trace) bytes.core h.notes h.read.noted) h.held.is

-- its report is true
held_true : (bytes : CrashBytes) (io : Streams) (talk : GdbSession) → ReportsAreTrue → (h : IsHeld bytes io talk) → IsTrue (run_in (trace_in bytes h.notes) h.held.run) h.held.over.account.known
held_true bytes io talk true_of h = true_of bytes.manner.domain (trace_in bytes h.notes).crash h.held.run h.held.over.account.known (held_whole bytes io talk h) h.held.over.report.report

-- what was held over the files is true
pub debugged : (words : List (List ℕ)) (files : Files) (bytes : CrashBytes) (io : Streams) (talk : GdbSession) → ReportsAreTrue → IsCrashOf files (loading words files) bytes → IsHeld bytes io talk → IsDebugged words files io talk
debugged words files bytes io talk true_of loaded h = record {
  bytes = bytes;
  loaded = loaded;
  held = h;
  holds = held_true bytes io talk true_of h;
  beyond = told_beyond (run_in (trace_in bytes h.notes) h.held.run) h.held.over.account (held_true bytes io talk true_of h) h.held.over.report.beyond;
}

pub debugged_files : (words : List (List ℕ)) (files : Files) (bytes : CrashBytes) (io : Streams) (talk : GdbSession) → ReportsAreTrue → loading words files ≡ Loaded bytes → IsHeld bytes io talk → IsDebugged words files io talk
debugged_files words files bytes io talk true_of e h = debugged words files bytes io talk true_of (subst (λ (l : Loading). IsCrashOf files l bytes) (sym e) refl) h

pub debugged_mapped : (words : List (List ℕ)) (files : Files) (core : CoreBytes) (io : Streams) (talk : GdbSession) → ReportsAreTrue → loading words files ≡ LoadedCore core → IsHeldMapped (mapped_crash files core) io talk → IsDebugged words files io talk
debugged_mapped words files core io talk true_of e h = debugged words files h.bytes io talk true_of (subst (λ (l : Loading). IsCrashOf files l h.bytes) (sym e) h.is) h.held

-- why the words or the files aren't opened
pub refused_words : (words : List (List ℕ)) (files : Files) (old new : Shelved) (r : Refusal) → Stops words files old new r → HasNoTalk words files (move old new) (no_talk.Refused r)
refused_words words files old new r (inl h) = inr (inl h)
refused_words words files old new r (inr (inl e)) = inr (inr (ap status_of e))
refused_words words files old new r (inr (inr e)) =
    inl (subst (λ (l : Loading). IsRefusedLoading files l r) (sym e) refl)

-- why what was loaded isn't
pub refused_loaded : (words : List (List ℕ)) (files : Files) (file_store : PortMove Shelved) (l : Loading) (r : Refusal) → loading words files ≡ l → IsRefusedLoading files l r → HasNoTalk words files file_store (no_talk.Refused r)
refused_loaded words files file_store l r e h = inl (subst (λ (x : Loading). IsRefusedLoading files x r) (sym e) h)

pub refused_core : (words : List (List ℕ)) (files : Files) (core : CoreBytes) (old between new : Shelved) (why : GdbError) → loading words files ≡ LoadedCore core → between.loads ≡ core_loads_to file.Trace old.loads
    → IsUnheld (mapped_crash files core) (move between.loads new.loads) why → HasNoTalk words files (move old new) why
refused_core words files core old between new (no_talk.Refused r) e loads (inl h) = refused_loaded words files (move old new) (LoadedCore core) r e h
refused_core words files core old between new (no_talk.Refused r) e loads (inr h) = inr (inr h)
refused_core words files core old between new (no_talk.LoadFault name) e loads h = (core, e, subst (λ (n : ℕ). NameStops (mapped_crash files core) (move n new.loads) (string_bytes name)) loads h)

-- the process opens what its words name
pub opened : (p : DebugProcess) (words ws : List (List ℕ)) (r : Result GdbSession GdbError) → p.words ≡ Ok words → ws ≡ session_words words
    → IfOk r (λ talk. IfSome p.file_store.before.files (λ files. IsDebugged ws files (streams p.input p.output p.errors) talk))
    → IfErr r (λ x. IfSome p.file_store.before.files (λ files. HasNoTalk ws files p.file_store x)) → IfErr r (λ _. MayHaveGreeted p) → IfErr r (λ _. Notices p.errors) → OpensTalk p r
opened p words ws (Ok talk) is same a b u n =
    subst (λ (w : Result (List (List ℕ)) Unreadable). OpensAs p w talk) (sym is) (subst (λ (x : List (List ℕ)). IfSome p.file_store.before.files (λ files. IsDebugged x files (streams p.input p.output p.errors) talk)) same a)
opened p words ws (Err x) is same a b u n = (
  subst (λ (w : Result (List (List ℕ)) Unreadable). RefusesAs p w x) (sym is) (inr (subst (λ (y : List (List ℕ)). IfSome p.file_store.before.files (λ files. HasNoTalk y files p.file_store x)) same b)),
  u,
  n,
)
