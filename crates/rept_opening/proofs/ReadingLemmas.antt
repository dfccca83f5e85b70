-- What the files are read as, from what their readers say.
use Rattle.std.proofs.Common.{◌≡◌, ℕ, Bool, List, Option, None, Some, Err, MatchOption, refl, sym, ap, subst, ◌∙◌}
use Rattle.rept_elf.specs.Segments.{segments}
use Rattle.rept_elf.specs.declared.fault.ElfFault.{ElfFault}
use Rattle.rept_dump.specs.Program.Program.{OneFile}
use Rattle.rept_dump.specs.declared.dump.Dump.{Dump}
use Rattle.rept_dump.specs.declared.fault.CoreFault.{CoreFault}
use Rattle.rept_found.specs.Crash.{Crash, crash_of}
use Rattle.rept_opening.specs.Forms.{executable_fault, core_image_fault, crash_in}
use Rattle.rept_opening.specs.Reading.{HasNoDump, IsDumpOf, NotesRefuse}
use Rattle.rept_opening.specs.declared.refusal.Refusal.{Refusal}
use Rattle.rept_opening.specs.declared.refusal.Refusal.TheVariants as refusal
use Rattle.rept_opening.proofs.Notes.{AreReadNotes, AreSaid}

module _ (many : Bool) (exe core : List ℕ) where
  abbrev AfterExe : Refusal → Option ElfFault → Type 0
  AfterExe r o = MatchOption o (MatchOption (core_image_fault core) (NotesRefuse many core r) (λ f. r ≡ refusal.CoreImage f)) (λ f. r ≡ refusal.Executable f)

  abbrev AfterCore : Refusal → Option ElfFault → Type 0
  AfterCore r o = MatchOption o (NotesRefuse many core r) (λ f. r ≡ refusal.CoreImage f)

  pub exe_refused : (f : ElfFault) → Some f ≡ executable_fault exe → HasNoDump many exe core (refusal.Executable f)
  exe_refused f e = subst (AfterExe (refusal.Executable f)) e refl

  pub core_refused : (f : ElfFault) → None ≡ executable_fault exe → Some f ≡ core_image_fault core → HasNoDump many exe core (refusal.CoreImage f)
  core_refused f e k = subst (AfterExe (refusal.CoreImage f)) e (subst (AfterCore (refusal.CoreImage f)) k refl)

  pub notes_refused : (f : CoreFault) → None ≡ executable_fault exe → None ≡ core_image_fault core → AreSaid many core (Err f) → HasNoDump many exe core (refusal.Core f)
  notes_refused f e k says = subst (AfterExe (refusal.Core f)) e (subst (AfterCore (refusal.Core f)) k (f, says.said, says.only, refl))

  pub dump_read : (dump : Dump) → None ≡ executable_fault exe → None ≡ core_image_fault core → (read : AreReadNotes many core dump) → crash_of dump read.notes ≡ crash_in (OneFile exe) core read.notes → IsDumpOf many exe core dump
  dump_read dump e k read crash = record {
    exe_accepted = sym e;
    core_accepted = sym k;
    notes = read.notes;
    are = read.are;
    noted = read.said.said;
    only = read.said.only;
    crash = crash;
  }

-- the crash of a dump is that of the bytes that its images borrow
pub crash_is : (crash : Crash) (exe_bytes exe core_bytes core : List ℕ) → crash.exe ≡ OneFile exe_bytes → exe_bytes ≡ exe → crash.core ≡ segments core_bytes → core_bytes ≡ core → crash ≡ crash_in (OneFile exe) core crash.notes
crash_is crash exe_bytes exe core_bytes core e b k d =
    ap (λ x. record { exe = x; core = crash.core; notes = crash.notes }) (e ∙ ap OneFile b) ∙ ap (λ x. record { exe = OneFile exe; core = x; notes = crash.notes }) (k ∙ ap segments d)
