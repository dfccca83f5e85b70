-- From an analysis that has ended to the dialog over it.
use Rattle.std.proofs.Common.{◌≡◌, ◌⊎◌, ℕ, List, inl, inr, refl, sym, ap, subst, ◌∙◌}
use Rattle.rept_elf.specs.Image.{file_of}
use Rattle.rept_dump.specs.Program.Program.{OneFile}
use Rattle.rept_dump.specs.declared.dump.Dump.{Dump}
use Rattle.rept_path.specs.declared.fault.PathFault.{PathFault}
use Rattle.rept_path.specs.declared.fault.PathFault.TheVariants as fault
use Rattle.rept_ports.specs.Port.{Port, PortMove, move}
use Rattle.rept_streams.specs.Runs.Kind.{is_several}
use Rattle.rept_steps.specs.declared.run.Run.{Run}
use Rattle.rept_found.specs.Crash.{Crash, crash_of}
use Rattle.rept_opening.specs.Lines.{status_of}
use Rattle.rept_opening.specs.Loading.{crash_bytes}
use Rattle.rept_opening.specs.Reading.{IsDumpOf}
use Rattle.rept_opening.specs.Report.{HasNoReport, IsAsked}
use Rattle.rept_opening.specs.Opened.{CrashRun, CrashTrace, crash_trace, run_in}
use Rattle.rept_opening.specs.TraceRun.{IsRunFor}
use Rattle.rept_opening.specs.declared.load.OpenOptions.{OpenOptions}
use Rattle.rept_opening.specs.declared.refusal.Refusal.{Refusal}
use Rattle.rept_opening.specs.declared.refusal.Refusal.TheVariants as refusal
use Rattle.rept_debug.specs.Begin.{BeginsAt, NeverBegins, beginning}
use Rattle.rept_debug.specs.Debugged.{HoldsDialog, IsHeld, IsHeldTrace, IsNoticed, IsRefusedCrash, IsRefusedTrace, MayGreet, Streams, TalksOver}
use Rattle.rept_debug.specs.Dialog.Greeting.{IsGreeting}
use Rattle.rept_debug.specs.declared.dialog.conversation.SessionEnd.{SessionEnd}
use Rattle.rept_debug.specs.declared.dialog.greeting.Greeting.{Greeting}
use Rattle.rept_stub.specs.CrashFiles.{AreFilesOf, program_of}
use Rattle.rept_debug.specs.declared.talk.GdbSession.{GdbSession}
use Rattle.rept_debug.specs.declared.talk.OpenDialog.{OpenDialog}
use Rattle.rept_stub.specs.declared.files.ProcessFiles.{ProcessFiles}

-- what was asked over a run was answered over it
pub talks_over : {W : Type 0} (p : CrashRun W) (s0 s1 s2 k0 k1 k2 : Port) (d : OpenDialog) (end : SessionEnd) → IsGreeting (move s0 s1) (move k0 k1) d.greeting → IsAsked (HoldsDialog d) p (move s1 s2) (move k1 k2) end → TalksOver p d.files (move s0 s2) (move k0 k2) end
talks_over p s0 s1 s2 k0 k1 k2 d end greeted h = record { account = h.account; report = h.report; talks = h.asked s0 k0 greeted }

-- what was answered before a refusal stands
pub still_greeted : (s0 s1 s2 k0 k1 k2 : Port) (g : Greeting) → s2 ≡ s1 → k2 ≡ k1 → IsGreeting (move s0 s1) (move k0 k1) g → MayGreet (move s0 s2) (move k0 k2)
still_greeted s0 s1 s2 k0 k1 k2 g e f h = inr (g, subst (λ (s : Port). IsGreeting (move s0 s) (move k0 k2) g) (sym e) (subst (λ (k : Port). IsGreeting (move s0 s1) (move k0 k) g) (sym f) h))

-- of a trace
module _ (t : CrashTrace) where
  pub not_begun : (e : PathFault) → (e ≡ fault.OutOfMemory) ⊎ NeverBegins t.crash t.trace t.manner.from e → IsRefusedTrace t (refusal.Path e)
  not_begun e (inl memory) = inr (inr (ap (λ (x : PathFault). status_of (refusal.Path x)) memory))
  not_begun e (inr never) = inl (e, never, refl)

  pub no_room : IsRefusedTrace t refusal.OutOfMemory
  no_room = inr (inr refl)

  pub run_refused : (from : ℕ) (run : Run) (r : Refusal) → IsRunFor t.crash t.trace (beginning t.manner from) run → BeginsAt t.crash t.trace t.manner.from from → HasNoReport (run_in t run) r → IsRefusedTrace t r
  run_refused from run r is begins h = inr (inl (from, run, begins, is, h))

  pub run_held : (files : ProcessFiles) (io : Streams) (talk : GdbSession) (run : Run) → IsRunFor t.crash t.trace (beginning t.manner talk.from) run → BeginsAt t.crash t.trace t.manner.from talk.from → IsNoticed t.manner.from talk.from io.errors → TalksOver (run_in t run) files io.input io.output talk.end → IsHeldTrace t files io talk
  run_held files io talk run is begins noticed over = record { run = run; is = is; begins = begins; noticed = noticed; over = over }

-- what was held over the trace of a dump was held over its files
module _ (exe core trace : List ℕ) (manner : OpenOptions) (dump : Dump) (is : IsDumpOf (is_several trace) exe core dump) where
  pub held_at : (files : ProcessFiles) (io : Streams) (talk : GdbSession) → file_of files.core ≡ core → program_of files.program ≡ OneFile exe → AreFilesOf files → IsHeldTrace (crash_trace (crash_of dump is.notes) trace manner) files io talk → IsHeld (crash_bytes exe core trace manner) io talk
  held_at files io talk same program are h = record {
    notes = is.notes;
    read = record { program_accepted = is.exe_accepted; core_accepted = is.core_accepted; noted = is.noted };
    files = files;
    core = same;
    program = program;
    are = are;
    held = subst (λ (s : Crash). IsHeldTrace (crash_trace s trace manner) files io talk) is.crash h;
  }

  pub refused_at : (r : Refusal) → IsRefusedTrace (crash_trace (crash_of dump is.notes) trace manner) r → IsRefusedCrash (crash_bytes exe core trace manner) r
  refused_at r h =
      inr (is.notes, record { program_accepted = is.exe_accepted; core_accepted = is.core_accepted; noted = is.noted }, subst (λ (s : Crash). IsRefusedTrace (crash_trace s trace manner) r) is.crash h)
