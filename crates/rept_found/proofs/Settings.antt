-- An analysis over the paths of a run is of its trip.
use Rattle.std.proofs.Common.{◌≡◌, ℕ, zero, suc, get_or, cond, false, ◌+◌, ◌*◌, ◌<◌, List, [], ◌∷◌, length, map, Option, Some, None, slice_get, slice_index, unwrap_or, inl, inr, refl, Bool, true, ◌&&◌, eqb, arith, sym, ap, subst, ◌∙◌}
use mathlib.Core.Path.{fun_ext}
use Rattle.std.proofs.lemmas.List.FromFn.{fill_by_all}
use Rattle.std.proofs.lemmas.Bool.Decides.{nat_tests}
use Rattle.std.proofs.lemmas.Option.{slice_get_cases, slice_get_within}
use Rattle.rept_elf.specs.Header.{word_at}
use Rattle.rept_elf.specs.Segments.{ElfSegment}
use Rattle.rept_dump.specs.Memory.{crash_byte}
use Rattle.rept_dump.specs.Program.{Program, contents}
use Rattle.rept_dump.specs.Status.{IsStatus}
use Rattle.rept_dump.specs.declared.status.Status.{Status}
use Rattle.rept_isa.specs.declared.row.StepRow.{StepRow}
use Rattle.rept_steps.specs.declared.threads.ThreadRows.{ThreadRows}
use Rattle.rept_steps.specs.Course.{Course}
use Rattle.rept_steps.specs.Runs.{course_of, run_of_one}
use Rattle.rept_order.specs.Legs.{points_before}
use Rattle.rept_moments.proofs.NamingLemmas.Naming.{points_next}
use Rattle.rept_moments.specs.declared.course.NumberedRun as courses
use Rattle.rept_moments.specs.Courses.{seen_in, IsCourseOf}
use Rattle.rept_moments.specs.Points.{points_in}
use Rattle.rept_moments.specs.Seen.{SeenMoments, seen, seen_by, alone_by}
use Rattle.rept_timeline.proofs.Only.{is_only}
use Rattle.rept_report.specs.Closure.{ClosureHas, IsReport}
use Rattle.rept_report.specs.declared.conflict.ConflictKind.{ConflictKind}
use Rattle.rept_report.specs.Given.{Given, setting_by}
use Rattle.rept_report.specs.Setting.{Setting}
use Rattle.rept_timeline.specs.declared.run_paths.RunPaths.{RunPaths}
use Rattle.rept_facts.specs.State.{Subject as Read, Whole, given_of, path_of, setting_of}
use Rattle.rept_facts.specs.Kept.{answers}
use Rattle.rept_analysis.specs.Logged.{IsLogOf}
use Rattle.rept_found.specs.Trip.Alone.{registers_alone, trip_of}
use Rattle.rept_found.specs.Trip.Trip.{Trip, given_on, setting_on}
use Rattle.rept_timeline.specs.Ends.{thread_on}
use Rattle.rept_found.specs.Crash.{Crash, Means, ThreadEnd, Scene, end_pc, ended, last_value, last_values, left_of, path_of as crash_path, route, trip_by, values_of}
use Rattle.rept_timeline.specs.Ends.{is_restarted, left_by}
use Rattle.rept_timeline.specs.Ends.{Ends, registers_of_one, registers_in, last_values_in, AreEnds, AreNoted, AreWhole}
use Rattle.rept_found.specs.View.{CrashView, ended_as, IsFoundIn, IsOfRun, IsPreparedFor, scene_in, state_in, trip_in}
use Rattle.rept_timeline.proofs.Enders.{thread_inside, values_same}

-- the registers of a status are the last values
pub last_are : (note : List ℕ) (status : Status) → IsStatus note status → length status.regs ≡ 32 → status.regs ≡ last_values note
unfolding last_values
last_are note status is long = fill_by_all (last_value note) status.regs 32 0 long at
  where
    at : (k : ℕ) → k < 32 → get_or status.regs k 0 ≡ last_value note k
    at zero below = is.zero
    at (suc k) below =
        let named : eqb (suc k) 0 ≡ false = grind (arith, nat_tests) in
        is.regs (suc k) (omega arith) below ∙ ap (λ (b : Bool). cond b 0 (word_at note (72 + 4 * suc k))) (sym named)

some_is : {A : Type 0} {x y : A} → Some x ≡ Some y → x ≡ y
some_is e = cc

-- the notes and ends of all threads but the first one
rest_noted : (note : List ℕ) (notes : List (List ℕ)) (status : Status) (statuses : List Status) → AreNoted (note ∷ notes) (status ∷ statuses) → AreNoted notes statuses
rest_noted note notes status statuses noted = record { each = λ t x at. noted.each (suc t) x at }

-- the first thread's end has what its note has
first_noted : (note : List ℕ) (notes : List (List ℕ)) (status : Status) (statuses : List Status) → AreNoted (note ∷ notes) (status ∷ statuses) → IsStatus note status
first_noted note notes status statuses noted =
    let its = noted.each 0 status refl in
    subst (λ (d : List ℕ). IsStatus d status) (sym (some_is its.1)) its.2

pub registers_are : (program : Program) (notes : List (List ℕ)) (statuses : List Status) → AreWhole statuses → AreNoted notes statuses → length statuses ≡ length notes → (t : ℕ) → registers_of_one program (slice_get statuses t) ≡ values_of program (slice_get notes t)
registers_are program [] [] whole noted same t = refl
registers_are program [] (status ∷ statuses) whole noted same t = absurd (omega (arith, same))
registers_are program (note ∷ notes) [] whole noted same t = absurd (omega (arith, same))
registers_are program (note ∷ notes) (status ∷ statuses) whole noted same zero =
    let its = first_noted note notes status statuses noted in
    ap (λ (n : ℕ). left_by program n status.regs) its.pc ∙ ap (λ (xs : List ℕ). left_by program (end_pc note) xs) (last_are note status its (whole 0 status refl))
registers_are program (note ∷ notes) (status ∷ statuses) whole noted same (suc t) = registers_are program notes statuses (λ k x at. whole (suc k) x at) (rest_noted note notes status statuses noted) (omega (arith, same)) t

pub ended_are : (notes : List (List ℕ)) (statuses : List Status) → AreNoted notes statuses → length statuses ≡ length notes → map ended_as statuses ≡ map ended notes
ended_are [] [] noted same = refl
ended_are [] (status ∷ statuses) noted same = absurd (omega (arith, same))
ended_are (note ∷ notes) [] noted same = absurd (omega (arith, same))
ended_are (note ∷ notes) (status ∷ statuses) noted same =
    let its = first_noted note notes status statuses noted in
    let rest = ended_are notes statuses (rest_noted note notes status statuses noted) (omega (arith, same)) in
    ap (λ (n : ℕ). record { end_pc = n; process = status.pid } ∷ map ended_as statuses) its.pc
    ∙ ap (λ (n : ℕ). record { end_pc = word_at note 72; process = n } ∷ map ended_as statuses) its.pid
    ∙ ap (λ (xs : List ThreadEnd). ended note ∷ xs) rest

-- a thread's own end
pub status_ended : (statuses : List Status) (t : ℕ) (status : Status) → slice_get statuses t ≡ Some status → unwrap_or (slice_get (map ended_as statuses) t) (record { end_pc = 0; process = 0 }) ≡ ended_as status
status_ended [] t status at = absurd (none_is at)
  where
    none_is : {x : Status} → None ≡ Some x → ⊥
    none_is e = cc
status_ended (x ∷ statuses) zero status at = ap ended_as (some_is at)
status_ended (x ∷ statuses) (suc t) status at = status_ended statuses t status at

-- a run that ends so, and the scene of it
pub trip_is : {W R : Type 0} (m : Means W) (v : CrashView W R) (notes : List (List ℕ)) → v.ends.program ≡ v.program → AreWhole v.ends.statuses → AreNoted notes v.ends.statuses → length v.ends.statuses ≡ length notes → trip_in m v ≡ route m (record { exe = v.program; core = v.core; notes = notes }) v.ends.course
trip_is m v notes files whole noted same =
    ap (λ (f : ℕ → ℕ → Option ℕ). trip_by m v.ends.course (record { registers = f; dump = crash_byte (contents v.program) v.core; image_end = (contents v.program).end }))
    (fun_ext (λ t. ap (λ (x : Program). registers_of_one x (slice_get v.ends.statuses t)) files ∙ registers_are v.program notes v.ends.statuses whole noted same t))

pub scene_is : {W R : Type 0} (v : CrashView W R) (notes : List (List ℕ)) → AreNoted notes v.ends.statuses → length v.ends.statuses ≡ length notes → scene_in v ≡ record { threads = map ended notes; program = v.program }
scene_is v notes noted same = ap (λ (xs : List ThreadEnd). record { threads = xs; program = v.program }) (ended_are notes v.ends.statuses noted same)

-- the rows and moments of a course of the code are those of its run
pub seen_same : (C : Course) (c : courses.NumberedRun) → IsCourseOf C c → seen_in c ≡ seen C
seen_same C (courses.TheVariants.One steps) its = ap (seen_by C) (sym its)
seen_same C (courses.TheVariants.Many many) its = ap (λ (D : Course). seen_by D None) its.0 ∙ ap (seen_by C) (sym its.1)

abbrev given_with : SeenMoments → (ℕ → ℕ → Option ℕ) → Program → List ElfSegment → Given
given_with x last program core = record { legs = x.legs; moments = x.moments; last = last; dump = crash_byte (contents program) core; image_end = (contents program).end }

-- an analysis of these paths, ends and files
pub given_is : {B W R : Type 0} (a : Whole B W R) (paths : RunPaths) (ends : Ends) (program : Program) (core : List ElfSegment) → a.paths ≡ paths → a.last ≡ ends → (a.exe ≡ program) × (a.core ≡ core) → IsCourseOf ends.course paths.ways → given_of a ≡ given_on ends.course (record { registers = registers_in ends; dump = crash_byte (contents program) core; image_end = (contents program).end })
given_is a paths ends program core p l (e, k) its =
    ap (λ (x : RunPaths). given_with (seen_in x.ways) (last_values_in a.last) a.exe a.core) p
    ∙ ap (λ (x : Ends). given_with (seen_in paths.ways) (last_values_in x) a.exe a.core) l
    ∙ ap (λ (x : Program). given_with (seen_in paths.ways) (last_values_in ends) x a.core) e
    ∙ ap (λ (x : List ElfSegment). given_with (seen_in paths.ways) (last_values_in ends) program x) k
    ∙ ap (λ (x : SeenMoments). given_with x (last_values_in ends) program core) (seen_same ends.course paths.ways its)

-- there is one point more than the number of the last one
pub points_are : (C : Course) → 0 < length C.threads → suc (seen C).legs.count ≡ points_in C
points_are C some = by (alone_by C.threads C.untraced) refl
  where
    by : (o : Option (List StepRow)) → alone_by C.threads C.untraced ≡ o → suc (seen_by C o).legs.count ≡ points_in C
    by None e = let all = points_next C.threads 0 0 some (omega arith) in omega arith
    by (Some rows) e =
        let only = is_only C.threads C.untraced rows e in
        let own : length only.only.steps ≡ length rows = ap (λ (xs : List StepRow). length xs) only.own in
        let all : points_before (only.only ∷ []) 1 ≡ suc (length only.only.steps) = omega arith in
        let here : points_in C ≡ suc (length only.only.steps) = ap (λ (xs : List ThreadRows). points_before xs (length xs)) only.is ∙ all in
        omega arith

-- the setting of an analysis is that of its trip
pub setting_is : {W R : Type 0} (m : Means W) (v : CrashView W R) → IsOfRun v → setting_of m.sets m.moves m.rules v.analysis ≡ setting_on (trip_in m v)
setting_is m v of = ap (setting_by m.sets m.moves m.rules) of.given

-- an analysis that reads the same is of the same trip
pub still_of : {B W R : Type 0} (m : Means W) (a b : Whole B W R) (g : Given) → path_of m.sets m.moves m.rules b ≡ path_of m.sets m.moves m.rules a → given_of a ≡ g → given_of b ≡ g
still_of m a b g same is = ap (λ (x : Read _). x.given) same ∙ is

-- what it has, said of that setting
pub found_in : {W R : Type 0} (m : Means W) (v : CrashView W R) → IsOfRun v → IsReport (setting_of m.sets m.moves m.rules v.analysis) (answers (state_in m v)) → IsLogOf (setting_of m.sets m.moves m.rules v.analysis) (answers (state_in m v)) (state_in m v).known.log → IsFoundIn m (trip_in m v) (scene_in v) v
found_in {W} m v of report log = record {
  trip = refl;
  same_scene = refl;
  report = subst (λ (S : Setting W). IsReport S (answers (state_in m v))) (setting_is m v of) report;
  log = subst (λ (S : Setting W). IsLogOf S (answers (state_in m v)) (state_in m v).known.log) (setting_is m v of) log;
}

-- what is found of what was prepared for a trip is of that trip
pub found_there : {W R : Type 0} (m : Means W) (p v : CrashView W R) (t : Trip W) (scene : Scene) → IsPreparedFor m t scene p → IsFoundIn m (trip_in m p) (scene_in p) v → IsFoundIn m t scene v
found_there {W} m p v t scene at h = record {
  trip = h.trip ∙ at.trip;
  same_scene = h.same_scene ∙ at.same_scene;
  report = subst (λ (x : Trip W). IsReport (setting_on x) (answers (state_in m v))) at.trip h.report;
  log = subst (λ (x : Trip W). IsLogOf (setting_on x) (answers (state_in m v)) (state_in m v).known.log) at.trip h.log;
}

-- a conflict of one setting is one of the same setting
pub conflict_of : {W : Type 0} (S T : Setting W) (kind : ConflictKind) → S ≡ T → ClosureHas S kind → ClosureHas T kind
conflict_of {W} S T kind e h = subst (λ (U : Setting W). ClosureHas U kind) e h

-- a run of one thread is the trip of its path
pub single_trip : {W : Type 0} (m : Means W) (crash : Crash) (note : List ℕ) (rows : List StepRow) (skipped : ℕ) → crash.notes ≡ note ∷ [] → route m crash (course_of (run_of_one rows skipped)) ≡ trip_of (crash_path m crash rows)
single_trip {W} m crash note rows skipped only =
    subst (λ (notes : List (List ℕ)). route m (record { exe = crash.exe; core = crash.core; notes = notes }) (course_of (run_of_one rows skipped)) ≡ trip_of (crash_path m (record { exe = crash.exe; core = crash.core; notes = notes }) rows)) (sym only)
    (ap (λ (f : ℕ → ℕ → Option ℕ). trip_by m (course_of (run_of_one rows 0)) (record { registers = f; dump = crash_byte (contents crash.exe) crash.core; image_end = (contents crash.exe).end })) (fun_ext each))
  where
    each : (t : ℕ) → values_of crash.exe (slice_get (note ∷ []) t) ≡ registers_alone (left_of crash.exe note) t
    each zero = refl
    each (suc t) = refl
