-- What is inferred beyond the report of a run that is one path.
use Rattle.std.proofs.Common.{◌≡◌, ◌≢◌, ℕ, ◌+◌, ◌<◌, ◌≤◌, ◌^◌, Bool, true, false, List, [], length, Option, None, Some, unwrap_or, inl, inr, refl, sym, ap, subst, ◌∙◌, arith}
use Rattle.std.specs.Prelude.{◌⊎◌, slice_get, drop, if◌then◌else◌}
use Rattle.std.specs.List.{list_any}
use Rattle.std.specs.Option.{option_map}
use Rattle.std.proofs.lemmas.List.{at_drop_all}
use Rattle.rept_elf.proofs.SegmentLemmas.{drop-slice_get}
use Rattle.rept_elf.specs.Image.{file_of}
use Rattle.rept_elf.specs.declared.image.Image.{Image}
use Rattle.rept_elf.specs.Header.{half_at}
use Rattle.rept_isa.specs.declared.row.StepRow.{StepRow}
use Rattle.rept_machine.specs.State.{State}
use Rattle.rept_known.specs.declared.both.Both.{Both}
use Rattle.rept_known.specs.Both.{both_has, both_sets}
use Rattle.rept_known.specs.BothMoves.{both_moves}
use Rattle.rept_amo.specs.Atomic.{atomic_rules}
use Rattle.rept_steps.specs.Runs.{course_of}
use Rattle.rept_steps.specs.declared.run.Run.{Run}
use Rattle.rept_streams.specs.Runs.Kind.{path_rows}
use Rattle.rept_ports.specs.Port.{Port, PortMove}
use Rattle.rept_reason.specs.Facts.{Knowledge}
use Rattle.rept_span.specs.Ranges.{range}
use Rattle.rept_report.specs.Closure.{IsReport}
use Rattle.rept_report.specs.OneThread.{ThreadPath, path_setting}
use Rattle.rept_report.specs.Setting.{Setting, way_of}
use Rattle.rept_report.specs.Why.{IsReason}
use Rattle.rept_facts.specs.Kept.{answers}
use Rattle.rept_findings.specs.Shown.{SessionTold, Shown, session_told}
use Rattle.rept_found.specs.Trip.Trip.{Trip, setting_on}
use Rattle.rept_found.specs.Crash.{Crash, Means, crash_of, means, means_beyond, note_at, path_of, route, scene_of}
use Rattle.rept_found.specs.Telling.{shown_of, shown_on}
use Rattle.rept_found.specs.Truth.{IsTrueOf, IsTrueReport}
use Rattle.rept_found.specs.View.{CrashView, IsFoundIn, scene_in, set_in, state_in, trip_in}
use Rattle.rept_found.proofs.Alone.{alone_setting, alone_shown}
use Rattle.rept_found.proofs.Single.{one_thread_shown}
use Rattle.rept_narrow.specs.Admitted.{IsAdmitted}
use Rattle.rept_infer.specs.Holding.{Has, Holds, Keeps, Refuses, holding_of}
use Rattle.rept_found.specs.Inferred.Narrowed.{Beyond, narrowed, shown_beyond}
use Rattle.rept_found.specs.Inferred.Known.{byte_known, set_known, shown_in}
use Rattle.rept_found.proofs.InferredLemmas.Kept.{knows_beyond, narrowed_true}
use Rattle.rept_found.proofs.InferredLemmas.Writers.{last_single}
use Rattle.rept_report.specs.declared.writer.Writer.TheVariants as writer
use Rattle.rept_found.specs.Single.{last_writer}
use Rattle.rept_found.proofs.InferredLemmas.KnownLaws.{known_holds}
use Rattle.rept_elf.specs.Segments.{ElfSegment}
use Rattle.rept_dump.specs.Dump.{core_of, exe_of, registers_of}
use Rattle.rept_dump.specs.declared.dump.Dump.{Dump}
use Rattle.rept_dump.specs.Memory.{crash_byte}
use Rattle.rept_dump.specs.Program.{contents}
use Rattle.rept_opening.specs.declared.areas.ProcessTold.{ProcessTold}
use Rattle.rept_opening.specs.Reading.{AreNotesOf}
use Rattle.rept_opening.specs.Beyond.{begun_file, executable_of, has_page, loaded_at, loaded_byte, premises_by, premises_of, process_told, story_of}
use Rattle.rept_opening.specs.Opened.{CrashRun, IsBeyond, RunAccount, crash_run, route_of, told_by, told_in}
use Rattle.rept_opening.specs.Report.{HasNoReport, IsAsked}
use Rattle.rept_opening.specs.True.{IsTrue, IsTrueAlone, IsTrueBeyond, path_by}
use Rattle.rept_opening.specs.Taken.{taken_of}
use Rattle.rept_opening.specs.declared.refusal.Refusal.{Refusal}

same_rows : {x y : List StepRow} → Some x ≡ Some y → x ≡ y
same_rows e = cc

clash : {b : Bool} → b ≡ false → b ≡ true → ⊥
clash e f = let bad : false ≡ true = sym e ∙ f in cc

-- what is asked of a run without more, or refused of it, is asked or refused where more is inferred
module _ {W : Type 0} (m : Means W) (crash : Crash) (run : Run) (plain : m.beyond ≡ false) where
  still_beyond : (o : Option Beyond) → IsBeyond (crash_run m crash run) o → IsBeyond (crash_run (means_beyond m) crash run) o
  still_beyond None b = tt
  still_beyond (Some more) b = absurd (clash plain b.asked)

  pub asked_still : {E : Type 0} (Asks : SessionTold → ℕ → PortMove Port → PortMove Port → E → Type 0) (source sink : PortMove Port) (end : E) → IsAsked Asks (crash_run m crash run) source sink end → IsAsked Asks (crash_run (means_beyond m) crash run) source sink end
  asked_still Asks source sink end h = record {
    account = h.account;
    report = record { report = h.report.report; log = h.report.log; scene = h.report.scene; skipped = h.report.skipped; beyond = still_beyond h.account.beyond h.report.beyond };
    asked = h.asked;
  }

  pub refused_still : (r : Refusal) → HasNoReport (crash_run m crash run) r → HasNoReport (crash_run (means_beyond m) crash run) r
  refused_still r (inl (kind, has, none, is)) = inl (kind, has, record { threads = none.threads; alone = none.alone }, is)
  refused_still r (inr (inl (point, reg, refuted, is))) = absurd (clash plain refuted.asked)
  refused_still r (inr (inr is)) = inr (inr is)

-- what was asked over a report with what was inferred beyond it
pub asked_inferred : {W R E : Type 0} (m : Means W) (v : CrashView W R) (crash : Crash) (run : Run) (rows : List StepRow) (b : Beyond) → IsFoundIn m (route m crash (course_of run)) (scene_of crash) v → path_rows run ≡ Some rows
    → ((states : ℕ → State) → IsAdmitted (story_of crash run.skipped rows) states → Holds (story_of crash run.skipped rows) b.told states)
    → b.taken ≡ taken_of crash run.skipped rows
    → (Asks : SessionTold → ℕ → PortMove Port → PortMove Port → E → Type 0) (signal : ℕ) (source sink : PortMove Port) (end : E) → signal ≡ half_at (note_at crash 0) 12
    → Asks (session_told (narrowed b (shown_on (trip_in m v) (answers (state_in m v)) (scene_in v))) run.skipped (IsReason (setting_on (trip_in m v)) (state_in m v).known.log)) signal source sink end
    → IsAsked Asks (crash_run (means_beyond m) crash run) source sink end
asked_inferred {W} m v crash run rows b found one holds taken Asks signal source sink end is asked =
    let account : RunAccount = record { known = answers (state_in m v); log = (state_in m v).known.log; scene = scene_in v; skipped = run.skipped; beyond = Some b } in
    record {
      account = account;
      report = record { report = found.report; log = found.log; scene = found.same_scene; skipped = refl; beyond = record { asked = refl; rows = rows; one = one; holds = holds; taken = taken } };
      asked = subst (λ (s : ℕ). Asks (told_by (route m crash (course_of run)) account) s source sink end) is (subst (λ (t : Trip W). Asks (told_by t account) signal source sink end) found.trip asked);
    }

-- the means of `bits`
abbrev bits : Means Both
bits = means both_sets both_moves atomic_rules

-- what the report of a path knows holds in each admitted execution of it
module _ {R : Type 0} (v : CrashView Both R) (crash : Crash) (run : Run) (rows : List StepRow) (found : IsFoundIn bits (route bits crash (course_of run)) (scene_of crash) v) (one : path_rows run ≡ Some rows) (noted : 0 < length crash.notes)
    (law : (crash : Crash) (rows : List StepRow) (K : Knowledge) → IsReport (path_setting (path_of bits crash rows)) K → IsTrueReport (path_of bits crash rows) K) (states : ℕ → State) (admitted : IsAdmitted (story_of crash run.skipped rows) states) where
  abbrev K : Knowledge
  K = answers (state_in bits v)

  abbrev P : ThreadPath Both
  P = path_of bits crash rows

  is_setting : setting_on (trip_in bits v) ≡ path_setting P
  is_setting = ap (λ (t : Trip Both). setting_on t) found.trip ∙ alone_setting bits rows crash (course_of run) one noted

  is_shown : shown_in bits v ≡ shown_of P K (scene_in v)
  is_shown = ap (λ (t : Trip Both). shown_on t K (scene_in v)) found.trip ∙ alone_shown bits rows crash (course_of run) K (scene_in v) one noted

  true_report : IsTrueReport P K
  true_report = law crash rows K (subst (λ (S : Setting Both). IsReport S K) (alone_setting bits rows crash (course_of run) one noted) found.report)

  in_sets : (p r : ℕ) (w : Both) → p ≤ length rows → set_in bits v p r ≡ Some w → both_has w ((states p).register r) ≡ true
  in_sets p r w early e = true_report.sets states admitted.execution p r w early (subst (λ (S : Setting Both). range (way_of S) K p r ≡ Some w) is_setting e)

  at_points : (p : ℕ) → p ≤ length rows → (shown_in bits v).moment p ≡ p
  at_points p early = subst (λ (s : Shown). s.moment p ≡ p) (sym is_shown) ((one_thread_shown P K (scene_in v)).moment p early)

  is_true : IsTrueOf P (shown_in bits v) states
  is_true = subst (λ (s : Shown). IsTrueOf P s states) (sym is_shown) (true_report.answers (scene_in v) states admitted.execution)

  pub has_known : Has (story_of crash run.skipped rows) (holding_of (set_known bits v) (byte_known bits v)) states
  has_known = record {
    admitted = admitted;
    holds = known_holds bits v P (story_of crash run.skipped rows) states refl (λ p r early. (admitted.execution.states p early).words r) in_sets at_points is_true;
  }

-- the executable with which the path of a dump begins
pub begins_here : (dump : Dump) (exe : Option Image) (given : List StepRow) (skipped : ℕ) (rows : List StepRow) (begun : Option (List ℕ)) → begun ≡ begun_file (option_map file_of exe) skipped given → option_map file_of exe ≡ executable_of (exe_of dump) → given ≡ rows
    → begun ≡ begun_file (executable_of (exe_of dump)) skipped rows
begins_here dump exe given skipped rows begun is same are = is ∙ ap (λ (o : Option (List ℕ)). begun_file o skipped given) same ∙ ap (begun_file (executable_of (exe_of dump)) skipped) are

-- the byte at an address by the segments from an index on
pub loaded-from : (a : ℕ) (ss : List ElfSegment) (i : ℕ) (s : ElfSegment) → slice_get ss i ≡ Some s → loaded_at (drop i ss) a ≡ (if has_page a s then (if list_any (has_page a) (drop (i + 1) ss) then None else loaded_byte a s) else loaded_at (drop (i + 1) ss) a)
loaded-from a ss i s h = ap (λ (rest : List ElfSegment). loaded_at rest a) (drop-slice_get ss i s h)

pub loaded-skips : (a : ℕ) (ss : List ElfSegment) (i : ℕ) (s : ElfSegment) → slice_get ss i ≡ Some s → has_page a s ≡ false → loaded_at (drop i ss) a ≡ loaded_at (drop (i + 1) ss) a
loaded-skips a ss i s h miss = loaded-from a ss i s h ∙ ap (λ (b : Bool). if b then (if list_any (has_page a) (drop (i + 1) ss) then None else loaded_byte a s) else loaded_at (drop (i + 1) ss) a) miss

pub loaded-only : (a : ℕ) (ss : List ElfSegment) (i : ℕ) (s : ElfSegment) → slice_get ss i ≡ Some s → has_page a s ≡ true → (more : Bool) → more ≡ list_any (has_page a) (drop (i + 1) ss) → loaded_at (drop i ss) a ≡ (if more then None else loaded_byte a s)
loaded-only a ss i s h hit more is = loaded-from a ss i s h ∙ ap (λ (b : Bool). if b then (if list_any (has_page a) (drop (i + 1) ss) then None else loaded_byte a s) else loaded_at (drop (i + 1) ss) a) hit ∙ ap (λ (b : Bool). if b then None else loaded_byte a s) (sym is)

pub loaded-past : (a : ℕ) (ss : List ElfSegment) (i : ℕ) → length ss ≤ i → loaded_at (drop i ss) a ≡ None
loaded-past a ss i h = at_drop_all (λ (rest : List ElfSegment). loaded_at rest a) ss i h

-- what is told of the process, by where the program ends
pub told_here : (dump : Dump) (core : List ElfSegment) (end : ℕ) (process : ProcessTold) → end ≡ (contents (exe_of dump)).end → process ≡ process_told core end (registers_of dump) → process ≡ process_told core (contents (exe_of dump)).end (registers_of dump)
told_here dump core end process same is = is ∙ ap (λ (n : ℕ). process_told core n (registers_of dump)) same

-- the premises of a dump are those of its crash
pub premises_are : (dump : Dump) (notes : List (List ℕ)) → AreNotesOf dump notes → (core : List ElfSegment) (process : ProcessTold) (begun : Option (List ℕ)) (skipped : ℕ) (rows : List StepRow) → core ≡ core_of dump → process ≡ process_told core (contents (exe_of dump)).end (registers_of dump) → begun ≡ begun_file (executable_of (exe_of dump)) skipped rows
    → premises_of (crash_of dump notes) skipped rows ≡ premises_by core (crash_byte (contents (exe_of dump)) (core_of dump)) process begun
premises_are dump notes are core process begun skipped rows same is begins =
    let byte = crash_byte (contents (exe_of dump)) (core_of dump) in
    let end = (contents (exe_of dump)).end in
    let noted : note_at (crash_of dump notes) 0 ≡ registers_of dump = ap (λ (o : Option (List ℕ)). unwrap_or o []) are.first in
    let here = begun_file (executable_of (exe_of dump)) skipped rows in
    ap (λ (n : List ℕ). premises_by (core_of dump) byte (process_told (core_of dump) end n) here) noted ∙ ap (λ (ss : List ElfSegment). premises_by ss byte (process_told ss end (registers_of dump)) here) (sym same) ∙ ap (λ (p : ProcessTold). premises_by core byte p here) (sym is) ∙ ap (premises_by core byte process) (sym begins)

-- what is told beyond the report of a run is true, too
module _ {W : Type 0} (p : CrashRun W) (a : RunAccount) (true_of : IsTrue p a.known) where
  abbrev there : Shown
  there = shown_on (route_of p) a.known a.scene

  module _ (rows : List StepRow) (alone : IsTrueAlone p a.known rows) (states : ℕ → State) (admitted : IsAdmitted (story_of p.crash p.run.skipped rows) states) where
    reported_true : IsTrueOf (path_by p rows) there states
    reported_true = subst (λ (s : Shown). IsTrueOf (path_by p rows) s states) (sym (alone.shown a.scene)) (alone.holds.answers a.scene states admitted.execution)

    moments_are : there.moments ≡ length rows + 1
    moments_are = subst (λ (s : Shown). s.moments ≡ length rows + 1) (sym (alone.shown a.scene)) ((one_thread_shown (path_by p rows) a.known a.scene).moments)

    rows_are : there.rows 0 ≡ rows
    rows_are = subst (λ (s : Shown). s.rows 0 ≡ rows) (sym (alone.shown a.scene)) ((one_thread_shown (path_by p rows) a.known a.scene).rows)

    singles : (q x : ℕ) → q ≤ length rows → there.writer q x ≢ writer.Several
    singles q x le e =
        let is = subst (λ (s : Shown). s.writer q x ≡ last_writer (path_setting (path_by p rows)) a.known q x) (sym (alone.shown a.scene)) ((one_thread_shown (path_by p rows) a.known a.scene).writer q x le) in
        last_single (path_setting (path_by p rows)) a.known q x (sym is ∙ e)

    beyond_true : path_rows p.run ≡ Some rows → (o : Option Beyond) → IsBeyond p o → IsTrueOf (path_by p rows) (shown_beyond o there) states
    beyond_true one None b = reported_true
    beyond_true one (Some more) b =
        let held = subst (λ (rs : List StepRow). IsAdmitted (story_of p.crash p.run.skipped rs) states → Holds (story_of p.crash p.run.skipped rs) more.told states) (same_rows (sym b.one ∙ one)) (b.holds states) in
        narrowed_true (path_by p rows) there (story_of p.crash p.run.skipped rows) more states refl moments_are rows_are singles reported_true (held admitted)

  none_beyond : (o : Option Beyond) → IsBeyond p o → p.means.beyond ≡ false → o ≡ None
  none_beyond None b e = refl
  none_beyond (Some more) b e = absurd (clash e b.asked)

  pub told_beyond : IsBeyond p a.beyond → IsTrueBeyond p a
  told_beyond b = record {
    holds = λ rows one states admitted. beyond_true rows (true_of.alone rows one) states admitted one a.beyond b;
    whole = knows_beyond a.beyond there;
    same = none_beyond a.beyond b;
  }
