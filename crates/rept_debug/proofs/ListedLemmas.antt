-- From the files that a core file lists to the dialog over their crash.
use Rattle.std.proofs.Common.{◌≡◌, ◌≤◌, ◌+◌, ℕ, List, Option, None, Some, IfSome, MatchOption, Result, Ok, Err, OnOk, MatchResult, inl, inr, refl, sym, ap, subst, ◌∙◌, arith}
use Rattle.rept_elf.specs.Image.{file_of}
use Rattle.rept_elf.specs.Segments.{segments}
use Rattle.rept_elf.specs.declared.fault.ElfFault.{ElfFault}
use Rattle.rept_maps.specs.declared.fault.MapFault.{MapFault}
use Rattle.rept_maps.specs.Mapped.Mapped.{Mapping}
use Rattle.rept_dump.specs.Program.Program.{MappedFiles}
use Rattle.rept_dump.specs.Dump.{core_of, exe_of}
use Rattle.rept_dump.specs.declared.dump.Dump.{Dump}
use Rattle.rept_found.specs.Crash.{crash_of}
use Rattle.rept_streams.specs.Runs.Kind.{is_several}
use Rattle.rept_ports.specs.Port.{PortMove, move}
use Rattle.rept_ports.specs.Shelves.{Files, Shelved}
use Rattle.rept_opening.specs.Words.Words.{Meaning}
use Rattle.rept_opening.specs.Words.Words.Meaning.{Open, Maps, Made}
use Rattle.rept_opening.specs.Forms.{core_image_fault}
use Rattle.rept_opening.specs.Lines.{status_of}
use Rattle.rept_opening.specs.Listed.{HasNoFiles, LoadStops}
use Rattle.rept_opening.specs.Loading.{CoreBytes, LoadsBoth, FileStoreMoves, core_loads_to, parts_bytes, FaultsEnd}
use Rattle.rept_opening.specs.Mapped.{ListSays, MappedCrash, mapped_bytes, mapped_crash, mapped_files}
use Rattle.rept_opening.specs.Reading.{NotesSay}
use Rattle.rept_opening.specs.Opened.{CrashTrace, ReadsNotes, crash_trace}
use Rattle.rept_opening.specs.declared.listed.ListStop.TheVariants as stops
use Rattle.rept_opening.specs.declared.refusal.FileKind.TheVariants as file
use Rattle.rept_opening.specs.declared.refusal.Refusal.{Refusal}
use Rattle.rept_opening.specs.declared.refusal.Refusal.TheVariants as refusal
use Rattle.rept_opening.proofs.MappedLemmas.{over_files, parts_trace}
use Rattle.rept_debug.specs.Debugged.{IsHeld, IsHeldMapped, IsHeldTrace, IsLoadFault, IsRefusedCrash, IsRefusedMapped, IsRefusedTrace, IsUnheld, NameStops, Streams}
use Rattle.rept_stub.specs.CrashFiles.{AreFilesOf, program_of}
use Rattle.rept_stub.specs.declared.files.ProcessFiles.{ProcessFiles}
use Rattle.rept_debug.specs.declared.no_talk.GdbError.{GdbError}
use Rattle.rept_debug.specs.declared.no_talk.GdbError.TheVariants as no_talk
use Rattle.rept_debug.specs.declared.talk.GdbSession.{GdbSession}

-- of a dump of mapped files: what was held over its trace was held over these
module _ (ms : List Mapping) (b : CoreBytes) (dump : Dump) (notes : List (List ℕ)) (trace : List ℕ) (program : exe_of dump ≡ MappedFiles ms) (core : core_of dump ≡ segments b.core) (same : trace ≡ b.trace)
    (accepted : core_image_fault b.core ≡ None) (said : NotesSay (is_several b.trace) b.core (Ok notes)) where
  read_parts : ReadsNotes (parts_bytes ms b) notes
  read_parts = record { program_accepted = refl; core_accepted = accepted; noted = said }

  pub held_parts : (files : ProcessFiles) (io : Streams) → file_of files.core ≡ b.core → program_of files.program ≡ MappedFiles ms → AreFilesOf files → (talk : GdbSession) → IsHeldTrace (crash_trace (crash_of dump notes) trace b.manner) files io talk → IsHeld (parts_bytes ms b) io talk
  held_parts files io same_core same_program are talk h = record {
    notes = notes;
    read = read_parts;
    files = files;
    core = same_core;
    program = same_program;
    are = are;
    held = subst (λ (t : CrashTrace). IsHeldTrace t files io talk) (parts_trace (crash_of dump notes) ms b trace program core same) h;
  }

  pub refused_parts : (r : Refusal) → IsRefusedTrace (crash_trace (crash_of dump notes) trace b.manner) r → IsRefusedCrash (parts_bytes ms b) r
  refused_parts r h = inr (notes, read_parts, subst (λ (t : CrashTrace). IsRefusedTrace t r) (parts_trace (crash_of dump notes) ms b trace program core same) h)

-- what is refused of a core file
module _ (m : MappedCrash) (r : Refusal) where
  abbrev At : Option ElfFault → Type 0
  At o = MatchOption o
      ((said : Result (List ℕ) MapFault) × ListSays m.bytes.core said × MatchResult said (λ desc. IsRefusedCrash (mapped_bytes m desc) r) (λ fault. r ≡ refusal.Maps fault))
      (λ fault. r ≡ refusal.CoreImage fault)

  pub image_refused : (f : ElfFault) → Some f ≡ core_image_fault m.bytes.core → r ≡ refusal.CoreImage f → IsRefusedMapped m r
  image_refused f e is = subst At e is

  pub list_refused : (f : MapFault) → core_image_fault m.bytes.core ≡ None → ListSays m.bytes.core (Err f) → r ≡ refusal.Maps f → IsRefusedMapped m r
  list_refused f accepted listed is = subst At (sym accepted) (Err f, listed, is)

  pub files_refused : (desc : List ℕ) → core_image_fault m.bytes.core ≡ None → ListSays m.bytes.core (Ok desc) → IsRefusedCrash (mapped_bytes m desc) r → IsRefusedMapped m r
  files_refused desc accepted listed h = subst At (sym accepted) (Ok desc, listed, h)

-- of the files that a list names
module _ (o : Option Files) (ms : List Mapping) (b : CoreBytes) (desc : List ℕ) (accepted : core_image_fault b.core ≡ None) (listed : ListSays b.core (Ok desc)) (program : IfSome o (λ files. ms ≡ mapped_files files desc)) where
  pub held_listed : (io : Streams) (talk : GdbSession) → IsHeld (parts_bytes ms b) io talk → IfSome o (λ files. IsHeldMapped (mapped_crash files b) io talk)
  held_listed io talk h =
      over_files o (λ files. ms ≡ mapped_files files desc) (λ files. IsHeldMapped (mapped_crash files b) io talk)
      (λ files same. record {
        bytes = mapped_bytes (mapped_crash files b) desc;
        is = record { accepted = accepted; desc = desc; listed = listed; same = refl };
        held = subst (λ (parts : List Mapping). IsHeld (parts_bytes parts b) io talk) same h;
      }) program

  pub unheld_listed : (asked : PortMove ℕ) (r : Refusal) → IsRefusedCrash (parts_bytes ms b) r → IfSome o (λ files. IsUnheld (mapped_crash files b) asked (no_talk.Refused r))
  unheld_listed asked r h =
      over_files o (λ files. ms ≡ mapped_files files desc) (λ files. IsUnheld (mapped_crash files b) asked (no_talk.Refused r))
      (λ files same. inl (files_refused (mapped_crash files b) r desc accepted listed (subst (λ (parts : List Mapping). IsRefusedCrash (parts_bytes parts b) r) same h))) program

-- why no files are listed
module _ (m : MappedCrash) (file_store : PortMove Shelved) where
  pub refused_unheld : (asked : PortMove ℕ) (r : Refusal) → HasNoFiles m.bytes.core file_store (stops.Refused r) → IsUnheld m asked (no_talk.Refused r)
  refused_unheld asked r (inl (inl (fault, refused, is), idle)) = inl (image_refused m r fault (sym refused) is)
  refused_unheld asked r (inl (inr (fault, accepted, listed, only, is), idle)) = inl (list_refused m r fault accepted listed is)
  refused_unheld asked r (inr (is, cut)) = inr (ap status_of is)

  name_stops : (name : List ℕ) → LoadStops m.bytes.core file_store name → NameStops m (move file_store.before.loads file_store.after.loads) name
  name_stops name stop = record { accepted = stop.accepted; desc = stop.desc; listed = stop.listed; place = stop.place; named = stop.named; loads = stop.loads }

  pub name_unheld : (name : List ℕ) (why : GdbError) → LoadStops m.bytes.core file_store name → IsLoadFault name why → IsUnheld m (move file_store.before.loads file_store.after.loads) why
  name_unheld name (no_talk.Refused r) stop e = inr (ap status_of e)
  name_unheld name (no_talk.LoadFault told) stop e = subst (NameStops m (move file_store.before.loads file_store.after.loads)) (sym e) (name_stops name stop)

-- whatever is said of all files
pub where_any : (o : Option Files) (P : Files → Type 0) → ((files : Files) → P files) → IfSome o P
where_any None P h = tt
where_any (Some files) P h = h files

-- what is said of a call that answered
pub said_ok : {T E : Type 0} (r : Result T E) (x : T) (P : Type 0) → r ≡ Ok x → OnOk r P → P
said_ok {T} {E} r x P is h = let Q : Result T E → Type 0 = λ w. OnOk w P in subst Q is h

-- the core file and the trace were loaded
pub both_loads : (m : Option Meaning) (core : List ℕ) (file_store : PortMove Shelved) → LoadsBoth m core file_store → file_store.after.loads ≡ core_loads_to file.Trace file_store.before.loads
both_loads None core file_store h = absurd h
both_loads (Some (Made seed steps)) core file_store h = absurd h
both_loads (Some (Maps d names from)) core file_store h = h.loads
both_loads (Some (Open d names from)) core file_store h = absurd h

-- and what the loads of mapped files do to the file store after them
module _ {T E : Type 0} (old between new : Shelved) (same : between.files ≡ old.files) (calm : between.faults ≡ old.faults) (stay : new.files ≡ between.files) (later : between.faults ≤ new.faults) (r : Result T E) where
  told_moves : (o : Option Files) → IfSome o (λ _. new.faults ≤ between.faults + 1) → OnOk r (IfSome o (λ _. new.faults ≡ between.faults)) → MatchOption o ⊥ (λ _. Unit {0}) → FileStoreMoves (move old new) r
  told_moves None once quiet h = absurd h
  told_moves (Some files) once quiet h = record { files = stay ∙ same; later = omega (arith, later, calm); once = omega (arith, once, calm); calm = on_ok r quiet }
    where
      on_ok : (q : Result T E) → OnOk q (new.faults ≡ between.faults) → OnOk q (new.faults ≡ old.faults)
      on_ok (Ok x) e = e ∙ calm
      on_ok (Err x) e = tt

  pub mapped_moves : (m : Option Meaning) (core : List ℕ) → LoadsBoth m core (move old between) → IfSome between.files (λ _. new.faults ≤ between.faults + 1) → OnOk r (IfSome between.files (λ _. new.faults ≡ between.faults)) → FaultsEnd m old.files → FileStoreMoves (move old new) r
  mapped_moves None core h once quiet ends = absurd h
  mapped_moves (Some (Made seed steps)) core h once quiet ends = absurd h
  mapped_moves (Some (Maps d names from)) core h once quiet ends = told_moves between.files once quiet (subst (λ (o : Option Files). MatchOption o ⊥ (λ _. Unit {0})) (sym same) ends)
  mapped_moves (Some (Open d names from)) core h once quiet ends = absurd h
