-- What is written of a made run, and how it ends the call.
use Rattle.std.proofs.Common.{◌≡◌, ℕ, zero, suc, ◌+◌, ◌*◌, ◌<◌, ◌≤◌, eqb, cond, ◌&&◌, List, [], ◌∷◌, length, map, slice_get, slice_index, get_or, Option, None, Some, Result, Ok, Err, MatchOption, inl, inr, refl, sym, ap, subst, ◌∙◌, arith, Bool, true, false}
use Rattle.std.specs.List.{range_with_len}
use Rattle.std.proofs.lemmas.Bool.{cond-false, ne_eqb}
use Rattle.std.proofs.lemmas.List.FromFn.{length-range_with_len, get_or-range_with_len}
use Rattle.rept_elf.specs.Header.{word_at}
use Rattle.rept_elf.specs.declared.fault.ElfFault.{ElfFault}
use Rattle.rept_dump.specs.Memory.{of_executable}
use Rattle.rept_dump.specs.Program.{Program}
use Rattle.rept_dump.specs.Program.Program.{OneFile}
use Rattle.rept_dump.specs.declared.fault.CoreFault.{CoreFault}
use Rattle.rept_isa.specs.declared.row.StepRow.{StepRow}
use Rattle.rept_machine.specs.State.{State}
use Rattle.rept_trace.specs.Stream.{plain}
use Rattle.rept_path.specs.Code.{words}
use Rattle.rept_path.specs.Traced.{IsTracedPath}
use Rattle.rept_path.specs.declared.fault.PathFault.{PathFault}
use Rattle.rept_path.specs.declared.fault.PathFault.TheVariants as fault
use Rattle.rept_path.specs.declared.rebuilding.Path.{Path}
use Rattle.rept_steps.specs.Runs.{course_of, run_of_one}
use Rattle.rept_steps.specs.declared.run.Run.{Run}
use Rattle.rept_streams.specs.Runs.Kind.{is_several}
use Rattle.rept_ports.specs.Causes.{OneFault}
use Rattle.rept_ports.specs.Port.{Port, PortMove, move}
use Rattle.rept_report.specs.Closure.{ClosureHas, IsConsistent}
use Rattle.rept_report.specs.OneThread.{path_setting}
use Rattle.rept_report.specs.declared.conflict.ConflictKind.{ConflictKind}
use Rattle.rept_found.specs.Crash.{Crash, end_pc, last_value, last_values, left_of, path_of, setting}
use Rattle.rept_timeline.specs.Ends.{is_restarted}
use Rattle.rept_found.specs.Truth.{ExecutesPath, HasNoExecutionOfPath}
use Rattle.rept_make.specs.Files.{bytes_of_words}
use Rattle.rept_make.specs.Laid.{laid}
use Rattle.rept_make.specs.Made.{IsMade}
use Rattle.rept_make.specs.declared.made.Made.{Made}
use Rattle.rept_opening.specs.declared.words.request.Domain.TheVariants as domain
use Rattle.rept_opening.specs.Delivered.{Delivers, SaysOrNoMemory, SaysRefusal}
use Rattle.rept_opening.specs.Domains.{means_of}
use Rattle.rept_app.specs.Conflict.{EndsReport}
use Rattle.rept_app.specs.Ends.{Yields, EndsSession, PortsEnd}
use Rattle.rept_app.specs.Examine.{Examines, WalkYields, NoteYields, FilesEnd}
use Rattle.rept_opening.specs.Forms.{program_fault, core_image_fault, crash_in}
use Rattle.rept_opening.specs.Lines.{status_of}
use Rattle.rept_app.specs.MadeRun.{Sums}
use Rattle.rept_app.specs.Claims.{MadeHolds}
use Rattle.rept_opening.specs.Path.{IsTracePath}
use Rattle.rept_opening.specs.Reading.{NotesSay}
use Rattle.rept_opening.specs.Loading.{CrashBytes}
use Rattle.rept_opening.specs.Opened.{CoreSays, CrashTrace, trace_in, ReadsNotes, Opening, run_at}
use Rattle.rept_app.specs.Told.{NotesTold, WalkedTrace, OpensMade, made_bytes, summary_line}
use Rattle.rept_opening.specs.TraceRun.{IsRunFor}
use Rattle.rept_opening.specs.True.{IsExecuted}
use Rattle.rept_opening.specs.declared.refusal.Refusal.TheVariants as refusal
use Rattle.rept_opening.specs.declared.status.ExitStatus.{ExitStatus}
use Rattle.rept_opening.specs.declared.status.ExitStatus.TheVariants as ends
use Rattle.rept_opening.proofs.RunLemmas.{one_stream_file, path_told}
use Rattle.rept_opening.proofs.TrueLemmas.{TrueOf, opened_whole}
use Rattle.rept_opening.proofs.DeliveredLemmas.{delivers_as}
use Rattle.rept_app.proofs.DeliveredLemmas.{ends_told, told_ports}

-- the registers that an analysis begins from are those of the note
register_at : (note : List ℕ) (r : ℕ) → 0 < r → last_value note r ≡ word_at note (72 + 4 * r)
register_at note r above = cond-false (eqb r 0) 0 (word_at note (72 + 4 * r)) (ne_eqb r 0 (λ (e : r ≡ 0). omega arith))

mapped_at : (f : ℕ → ℕ) (xs : List ℕ) (i : ℕ) → i < length xs → get_or (map f xs) i 0 ≡ f (get_or xs i 0)
mapped_at f [] i within = absurd (omega arith)
mapped_at f (x ∷ xs) zero within = refl
mapped_at f (x ∷ xs) (suc i) within = mapped_at f xs i (omega arith)

mapped_size : (f : ℕ → ℕ) (xs : List ℕ) → length (map f xs) ≡ length xs
mapped_size f [] = refl
mapped_size f (x ∷ xs) = ap suc (mapped_size f xs)

last_size : (note : List ℕ) → length (last_values note) ≡ 32
unfolding last_values
last_size note = mapped_size (last_value note) (range_with_len 0 32) ∙ length-range_with_len 0 32

last_at : (note : List ℕ) (r : ℕ) → 0 < r → r < 32 → slice_index (last_values note) r ≡ word_at note (72 + 4 * r)
unfolding last_values
last_at note r above below =
    let size : length (range_with_len 0 32) ≡ 32 = length-range_with_len 0 32 in
    let here : get_or (range_with_len 0 32) r 0 ≡ r = omega (arith, get_or-range_with_len 0 32 r 0 below) in
    mapped_at (last_value note) (range_with_len 0 32) r (omega arith) ∙ ap (last_value note) here ∙ register_at note r above

-- what is left of the registers was saved of them
left_saved : (program : Program) (note : List ℕ) (r v : ℕ) → left_of program note r ≡ Some v → slice_get (last_values note) r ≡ Some v
left_saved program note r v = by (eqb r 17 && is_restarted program (end_pc note) (slice_index (last_values note) 17))
  where
    none_some : None ≡ Some v → ⊥
    none_some e = cc

    by : (hidden : Bool) → cond hidden None (slice_get (last_values note) r) ≡ Some v → slice_get (last_values note) r ≡ Some v
    by true e = absurd (none_some e)
    by false e = e

abbrev path_along : List StepRow → Path
path_along rows = record { steps = rows; skipped = 0 }

-- the files of a made crash are read, and an execution of the path ends in the dump
module _ (seed steps : ℕ) (made : Made) (m : IsMade seed steps made) where
  abbrev pub crash_made : Crash
  crash_made = crash_in (OneFile made.exe) made.core (m.status ∷ [])

  -- the trace is one of one stream
  one_made : is_several made.trace ≡ false
  one_made = one_stream_file made.trace (record { halves = false; bytes = m.rest }) m.layout

  says_made : CoreSays (made_bytes made) (Ok (m.status ∷ []))
  says_made = subst (λ (b : Bool). NotesSay b made.core (Ok (m.status ∷ []))) (sym one_made) (m.status, m.notes, refl)

  reads_made : ReadsNotes (made_bytes made) (m.status ∷ [])
  reads_made = record { program_accepted = m.exe_read; core_accepted = m.core_read; noted = says_made }

  traced_made : IsTracePath crash_made made.trace 0 (path_along m.rows)
  traced_made = (record { halves = false; bytes = m.rest }, m.layout, subst (λ (p : ℕ). IsTracedPath (record { code = words (of_executable made.exe); stream = plain false m.rest; from = 0; pc = p }) 0 m.rows) (sym m.last_pc) m.path)

  -- the run of its one thread
  abbrev run_made : Run
  run_made = run_of_one m.rows 0

  told_made : IsRunFor crash_made made.trace (made_bytes made).manner run_made
  told_made = (run_made, path_told crash_made made.trace 0 one_made (path_along m.rows) traced_made, refl)

  abbrev states_made : ℕ → State
  states_made = λ i. laid (bytes_of_words m.words) (m.run i)

  runs_made : ExecutesPath (path_of (means_of domain.Ranges) crash_made m.rows) states_made
  runs_made =
      let x = m.execution (last_values m.status) (last_size m.status) (λ r above below. last_at m.status r above below) in
      record {
        states = x.states;
        steps = x.steps;
        registers_end = λ r v some is. x.registers_end r v some (left_saved (OneFile made.exe) m.status r v is);
        bytes_end = x.bytes_end;
      }

  abbrev opening_made : Opening
  opening_made = record { bytes = made_bytes made; notes = m.status ∷ []; run = run_made }

  opens_made : OpensMade made opening_made
  opens_made = record { bytes = refl; read = reads_made; told = told_made }

  executed_made : IsExecuted (run_at opening_made)
  executed_made = (m.rows, refl, states_made, runs_made)

  -- so the closure has no conflict
  consistent_made : ((kind : ConflictKind) → ClosureHas (path_setting (path_of (means_of domain.Ranges) crash_made m.rows)) kind → HasNoExecutionOfPath (path_of (means_of domain.Ranges) crash_made m.rows)) → IsConsistent (setting (means_of domain.Ranges) crash_made (course_of run_made))
  consistent_made none kind has = none kind has states_made runs_made

  abbrev AfterCore : ExitStatus → Option ElfFault → Type 0
  AfterCore status o = MatchOption o ((said : Result (List (List ℕ)) CoreFault) → CoreSays (made_bytes made) said → NoteYields (made_bytes made) said status) (λ _. Yields ends.Core status)

  abbrev AfterExe : ExitStatus → Option ElfFault → Type 0
  AfterExe status o = MatchOption o (AfterCore status (core_image_fault made.core)) (λ _. Yields ends.Executable status)

  pub session_made : ((kind : ConflictKind) → ClosureHas (path_setting (path_of (means_of domain.Ranges) crash_made m.rows)) kind → HasNoExecutionOfPath (path_of (means_of domain.Ranges) crash_made m.rows)) → (status : ExitStatus) → FilesEnd (made_bytes made) status → EndsSession status
  session_made none status h =
      let notes : (said : Result (List (List ℕ)) CoreFault) → CoreSays (made_bytes made) said → NoteYields (made_bytes made) said status =
      subst (AfterCore status) m.core_read (subst (AfterExe status) m.exe_read h) in
      let walk : WalkYields (trace_in (made_bytes made) (m.status ∷ [])) status = notes (Ok (m.status ∷ [])) says_made in
      held ((walk.walked run_made told_made).report (consistent_made none))
    where
      held : EndsReport (run_at opening_made) status → EndsSession status
      held (inl so) = so
      held (inr (refuted, so)) = let bad : false ≡ true = refuted.asked in let no : ⊥ = cc in absurd no

pub made_holds : (seed steps : ℕ) → TrueOf (means_of domain.Ranges) → MadeHolds seed steps
made_holds seed steps true_of made m =
    let o = opening_made seed steps made m in
    let opens = opens_made seed steps made m in
    (o, opens, executed_made seed steps made m, λ known report. true_of (crash_made seed steps made m) (run_made seed steps made m) known (opened_whole o opens.read opens.told) report)

-- what is written, by what is written of the files
pub sums : (seed steps : ℕ) (made : Made) → IsMade seed steps made → (left : Option (List ℕ)) (text : List ℕ) (status : ExitStatus) → Examines (made_bytes made) (record { input = summary_line; left = left }) text status → Sums seed steps text status
sums seed steps made m left text status (inl h) = inl (made, m, h)
sums seed steps made m left text status (inr (inl h)) = inr (inl h)
sums seed steps made m left text status (inr (inr (notes, read, (run, a, is, account, cut)))) =
    inr (inr (made, m, record { bytes = made_bytes made; notes = notes; run = run }, record { bytes = refl; read = read; told = is }, a, account, left, cut))

-- the input isn't too long
no_path_status : (f : PathFault) → status_of (refusal.Path f) ≡ ends.TooMuchInput → ⊥
no_path_status (fault.NoStart k) e = cc
no_path_status (fault.NotCode a) e = cc
no_path_status (fault.NotRv32im a w) e = cc
no_path_status (fault.Unaligned a) e = cc
no_path_status (fault.NoBranchBit k a) e = cc
no_path_status (fault.BranchesLeft k n) e = cc
no_path_status (fault.JumpInMap k a) e = cc
no_path_status (fault.Gap k a b) e = cc
no_path_status (fault.End a b) e = cc
no_path_status (fault.TooLong k) e = cc
no_path_status (fault.Packet p) e = cc
no_path_status (fault.Trapped k a) e = cc
no_path_status (fault.TimeBack k) e = cc
no_path_status (fault.SliceOverlap pid time) e = cc
no_path_status (fault.UnknownThread k context) e = cc
no_path_status (fault.OtherThread k context) e = cc
no_path_status fault.OutOfMemory e = cc

module _ (bytes : CrashBytes) (text : List ℕ) where
  walked_short : (t : CrashTrace) → WalkedTrace t summary_line text ends.TooMuchInput → ⊥
  walked_short t (inl (f, has, says)) = no_path_status f (sym says.ending)
  walked_short t (inr (run, is, inl (inl (kind, has, says)))) = let bad : ends.TooMuchInput ≡ ends.Inconsistent = says.ending in cc
  walked_short t (inr (run, is, inl (inr (point, reg, refuted, says)))) = let bad : ends.TooMuchInput ≡ ends.Inconsistent = says.ending in cc
  walked_short t (inr (run, is, inr (a, account, (answered, over, e)))) = let long : 1048576 < 8 = over.long in omega arith

  notes_short : NotesTold bytes summary_line text ends.TooMuchInput → ⊥
  notes_short (Ok notes, said, h) = walked_short (trace_in bytes notes) h
  notes_short (Err f, said, says) = let bad : ends.TooMuchInput ≡ ends.Core = says.ending in cc

  examined_short : (a b : Option ElfFault) → MatchOption a (MatchOption b (NotesTold bytes summary_line text ends.TooMuchInput) (λ f. SaysRefusal (refusal.CoreImage f) text ends.TooMuchInput)) (λ f. SaysRefusal (refusal.Executable f) text ends.TooMuchInput) → ⊥
  examined_short (Some f) b says = let bad : ends.TooMuchInput ≡ ends.Executable = says.ending in cc
  examined_short None (Some f) says = let bad : ends.TooMuchInput ≡ ends.Core = says.ending in cc
  examined_short None None h = notes_short h

  pub never_long : (left : Option (List ℕ)) → Examines bytes (record { input = summary_line; left = left }) text ends.TooMuchInput → ⊥
  never_long left (inl h) = examined_short (program_fault bytes.program) (core_image_fault bytes.core) h
  never_long left (inr (inl says)) = let bad : ends.TooMuchInput ≡ ends.OutOfMemory = says.ending in cc
  never_long left (inr (inr (notes, read, (run, a, is, account, cut)))) = absurd cut

-- a source that counts no fault has none
never_failed : OneFault 0 0 → ⊥
never_failed h = let rose : 1 ≤ 0 = h.rose in omega arith

-- how the call ends, from how the session may end
pub yields_made : (bytes : CrashBytes) (left : Option (List ℕ)) (out : PortMove Port) (status : ExitStatus) → EndsSession status → (status ≡ ends.InputFault → OneFault 0 0)
    → Delivers (Examines bytes (record { input = summary_line; left = left })) out status → Yields ends.Ok status
yields_made bytes left out status so input (inr (e, fault, rest)) = inr (inl e)
yields_made bytes left out status (inl e) input (inl d) = inl e
yields_made bytes left out status (inr (inl e)) input (inl d) = absurd (never_failed (input e))
yields_made bytes left out status (inr (inr (inl e))) input (inl (text, goes, appended, calm)) =
    absurd (never_long bytes text left (subst (Examines bytes (record { input = summary_line; left = left }) text) e goes))
yields_made bytes left out status (inr (inr (inr s))) input (inl d) = inr s

-- a call that ends so reads nothing of the input of the program
pub ports_made : (source : Port) (inner out : PortMove Port) (status : ExitStatus) → Yields ends.Ok status → PortsEnd inner out status → PortsEnd (move source source) out status
ports_made source inner out status so p = record { input = λ e. absurd (never so e); input_ends = inl refl; output = p.output; output_ends = p.output_ends }
  where
    never : Yields ends.Ok status → status ≡ ends.InputFault → ⊥
    never (inl h) e = let bad : ends.Ok ≡ ends.InputFault = sym h ∙ e in cc
    never (inr (inl h)) e = let bad : ends.OutputFault ≡ ends.InputFault = sym h ∙ e in cc
    never (inr (inr h)) e = let bad : ends.OutOfMemory ≡ ends.InputFault = sym h ∙ e in cc

-- what holds of the slices of the files and of the input, holds of these
pub at_bytes : (P : List ℕ → List ℕ → List ℕ → List ℕ → Type 0) {exe exe' core core' trace trace' input input' : List ℕ} → exe ≡ exe' → core ≡ core' → trace ≡ trace' → input ≡ input' → P exe core trace input → P exe' core' trace' input'
at_bytes P {exe} {exe'} {core} {core'} {trace} {trace'} {input} {input'} e k t i h =
    subst (λ x. P exe' core' trace' x) i (subst (λ x. P exe' core' x input) t (subst (λ x. P exe' x trace input) k (subst (λ x. P x core trace input) e h)))

-- where there was no memory for the files
module _ (out : PortMove Port) (result : ExitStatus) (d : Delivers (SaysRefusal refusal.OutOfMemory) out result) where
  as_told : Delivers (SaysOrNoMemory refusal.OutOfMemory) out result
  as_told = delivers_as (SaysRefusal refusal.OutOfMemory) (SaysOrNoMemory refusal.OutOfMemory) out result (λ text status h. inl h) d

  pub memory_sums : (seed steps : ℕ) → Delivers (Sums seed steps) out result
  memory_sums seed steps = delivers_as (SaysRefusal refusal.OutOfMemory) (Sums seed steps) out result (λ text status h. inr (inl h)) d

  pub memory_yields : Yields ends.Ok result
  memory_yields = stop (ends_told refusal.OutOfMemory out result as_told)
    where
      stop : Yields ends.OutOfMemory result → Yields ends.Ok result
      stop (inl h) = inr (inr h)
      stop (inr h) = inr h

  pub memory_ports : (source : Port) → PortsEnd (move source source) out result
  memory_ports source = told_ports refusal.OutOfMemory source out result (λ (e : ends.OutOfMemory ≡ ends.InputFault). cc) (λ (e : ends.OutOfMemory ≡ ends.OutputFault). cc) as_told
