-- The run of a trace of one stream or of several, by what was read of it.
use Rattle.std.proofs.Common.{◌≡◌, ◌≢◌, ◌⊎◌, ℕ, ◌<◌, ◌≤◌, Bool, true, false, List, [], ◌∷◌, length, slice_get, Some, Result, Ok, Err, IfOk, IfErr, MatchResult, inl, inr, refl, sym, ap, ◌∙◌, subst, arith}
use Rattle.std.specs.Prelude.{MatchBool}
use Rattle.rept_dump.specs.Dump.{registers_of, threads_of}
use Rattle.rept_dump.specs.declared.dump.Dump.{Dump}
use Rattle.rept_isa.specs.declared.row.StepRow.{StepRow}
use Rattle.rept_steps.specs.Course.{IsSoundCourse}
use Rattle.rept_steps.specs.Runs.{course_of, run_of_one}
use Rattle.rept_steps.specs.declared.run.Run.{Run}
use Rattle.rept_path.specs.declared.fault.PathFault.{PathFault}
use Rattle.rept_path.specs.declared.fault.PathFault.TheVariants as fault
use Rattle.rept_path.specs.declared.rebuilding.Path.{Path}
use Rattle.rept_timeline.specs.Small.{IsSmall}
use Rattle.rept_found.proofs.TripLemmas.Paths.{is_sound}
use Rattle.rept_streams.specs.Runs.Kind.{is_several}
use Rattle.rept_streams.specs.Runs.Told.{Traced, IsTracedRun, HasNoTracedRun}
use Rattle.rept_streams.proofs.RunsLemmas.Few.{each_noted, traced_sound}
use Rattle.rept_found.specs.Crash.{Crash}
use Rattle.rept_opening.specs.Path.{TraceFile, file_bytes, IsTracePath, HasNoPath}
use Rattle.rept_opening.specs.Reading.{AreNotesOf}
use Rattle.rept_opening.specs.TraceRun.{FitsDump, HasNoRunOf, HasNoSharedRun, IsRunAlone, IsRunOf, IsRunRead, IsSharedRun, traced_in}

-- want of memory, or another refusal
memory_or_other : (f : PathFault) → (f ≡ fault.OutOfMemory) ⊎ (f ≢ fault.OutOfMemory)
memory_or_other fault.OutOfMemory = inl refl
memory_or_other (fault.NoStart k) = inr (λ (e : fault.NoStart k ≡ fault.OutOfMemory). cc)
memory_or_other (fault.NotCode a) = inr (λ (e : fault.NotCode a ≡ fault.OutOfMemory). cc)
memory_or_other (fault.NotRv32im a w) = inr (λ (e : fault.NotRv32im a w ≡ fault.OutOfMemory). cc)
memory_or_other (fault.Unaligned a) = inr (λ (e : fault.Unaligned a ≡ fault.OutOfMemory). cc)
memory_or_other (fault.NoBranchBit k a) = inr (λ (e : fault.NoBranchBit k a ≡ fault.OutOfMemory). cc)
memory_or_other (fault.BranchesLeft k n) = inr (λ (e : fault.BranchesLeft k n ≡ fault.OutOfMemory). cc)
memory_or_other (fault.JumpInMap k a) = inr (λ (e : fault.JumpInMap k a ≡ fault.OutOfMemory). cc)
memory_or_other (fault.Gap k a b) = inr (λ (e : fault.Gap k a b ≡ fault.OutOfMemory). cc)
memory_or_other (fault.End a b) = inr (λ (e : fault.End a b ≡ fault.OutOfMemory). cc)
memory_or_other (fault.TooLong k) = inr (λ (e : fault.TooLong k ≡ fault.OutOfMemory). cc)
memory_or_other (fault.Packet p) = inr (λ (e : fault.Packet p ≡ fault.OutOfMemory). cc)
memory_or_other (fault.Trapped k a) = inr (λ (e : fault.Trapped k a ≡ fault.OutOfMemory). cc)
memory_or_other (fault.TimeBack k) = inr (λ (e : fault.TimeBack k ≡ fault.OutOfMemory). cc)
memory_or_other (fault.SliceOverlap pid time) = inr (λ (e : fault.SliceOverlap pid time ≡ fault.OutOfMemory). cc)
memory_or_other (fault.UnknownThread k context) = inr (λ (e : fault.UnknownThread k context ≡ fault.OutOfMemory). cc)
memory_or_other (fault.OtherThread k context) = inr (λ (e : fault.OtherThread k context ≡ fault.OutOfMemory). cc)

-- a choice whose Bool is known
to_many : {A : Type 0} (B : Type 0) (b : Bool) → b ≡ true → A → MatchBool b A B
to_many {A} B b e h = subst (λ (x : Bool). MatchBool x A B) (sym e) h

of_many : {A : Type 0} (B : Type 0) (b : Bool) → b ≡ true → MatchBool b A B → A
of_many {A} B b e h = subst (λ (x : Bool). MatchBool x A B) e h

pub to_one : (A : Type 0) {B : Type 0} (b : Bool) → b ≡ false → B → MatchBool b A B
to_one A {B} b e h = subst (λ (x : Bool). MatchBool x A B) (sym e) h

of_one : (A : Type 0) {B : Type 0} (b : Bool) → b ≡ false → MatchBool b A B → B
of_one A {B} b e h = subst (λ (x : Bool). MatchBool x A B) e h

-- a trace that begins with the header of one stream is none of several
pub one_stream_file : (trace : List ℕ) (file : TraceFile) → trace ≡ file_bytes file → is_several trace ≡ false
one_stream_file trace file e = ap is_several e

-- of several streams
module _ (crash : Crash) (trace : List ℕ) (from : ℕ) (several : is_several trace ≡ true) where
  to_run : (run : Run) → IsTracedRun (traced_in crash trace from) run → IsRunOf crash trace from run
  to_run run is = to_many (IsRunAlone crash trace from run) (is_several trace) several is

  pub of_run : (run : Run) → IsRunOf crash trace from run → IsTracedRun (traced_in crash trace from) run
  of_run run is = of_many (IsRunAlone crash trace from run) (is_several trace) several is

  of_none : (f : PathFault) → HasNoRunOf crash trace from f → HasNoSharedRun crash trace from f
  of_none f has = of_many (HasNoPath crash trace from f) (is_several trace) several has

  refusal_here : (f : PathFault) → (f ≡ fault.OutOfMemory) ⊎ HasNoTracedRun (traced_in crash trace from) f → (f ≡ fault.OutOfMemory) ⊎ HasNoRunOf crash trace from f
  refusal_here f (inl e) = inl e
  refusal_here f (inr has) = by_fault (memory_or_other f)
    where
      by_fault : (f ≡ fault.OutOfMemory) ⊎ (f ≢ fault.OutOfMemory) → (f ≡ fault.OutOfMemory) ⊎ HasNoRunOf crash trace from f
      by_fault (inl e) = inl e
      by_fault (inr other) = inr (to_many (HasNoPath crash trace from f) (is_several trace) several (record { refused = has; reason = other }))

  pub streams_read : (r : Result Run PathFault) → IfOk r (IsTracedRun (traced_in crash trace from)) → IfErr r (λ e. (e ≡ fault.OutOfMemory) ⊎ HasNoTracedRun (traced_in crash trace from) e)
      → ((other : Run) → IsTracedRun (traced_in crash trace from) other → MatchResult r (λ run. run ≡ other) (λ e. e ≡ fault.OutOfMemory))
      → ((f : PathFault) → HasNoTracedRun (traced_in crash trace from) f → MatchResult r (λ _. ⊥) (λ e. (e ≡ fault.OutOfMemory) ⊎ (e ≡ f))) → IsRunRead crash trace from r
  streams_read (Ok run) is why only none = record {
    run = to_run run is;
    refusal = tt;
    only_run = λ other has. only other (of_run other has);
    only_refusal = λ f has. none f (of_none f has).refused;
    reason = λ f has. (of_none f has).reason;
  }
  streams_read (Err e) is why only none = record {
    run = tt;
    refusal = refusal_here e why;
    only_run = λ other has. only other (of_run other has);
    only_refusal = λ f has. none f (of_none f has).refused;
    reason = λ f has. (of_none f has).reason;
  }

-- of one
module _ (crash : Crash) (trace : List ℕ) (from : ℕ) (one : is_several trace ≡ false) where
  of_alone : (run : Run) → IsRunOf crash trace from run → IsRunAlone crash trace from run
  of_alone run is = of_one (IsSharedRun crash trace from run) (is_several trace) one is

  of_no_path : (f : PathFault) → HasNoRunOf crash trace from f → HasNoPath crash trace from f
  of_no_path f has = of_one (HasNoSharedRun crash trace from f) (is_several trace) one has

  pub path_told : (path : Path) → IsTracePath crash trace from path → IsRunOf crash trace from (run_of_one path.steps path.skipped)
  path_told path is = to_one (IsSharedRun crash trace from (run_of_one path.steps path.skipped)) (is_several trace) one (path, is, refl)

  pub path_read : (path : Path) → IsTracePath crash trace from path → ((other : Path) → IsTracePath crash trace from other → path ≡ other) → ((f : PathFault) → HasNoPath crash trace from f → ⊥)
      → (run : Run) → run ≡ run_of_one path.steps path.skipped → IsRunRead crash trace from (Ok run)
  path_read path is only none run same = record {
    run = subst (λ (r : Run). IsRunOf crash trace from r) (sym same) (path_told path is);
    refusal = tt;
    only_run = λ other has. let its = of_alone other has in same ∙ ap (λ (p : Path). run_of_one p.steps p.skipped) (only its.0 its.1) ∙ sym its.2;
    only_refusal = λ f has. none f (of_no_path f has);
    reason = λ f has. absurd (none f (of_no_path f has));
  }

  pub path_refused : (e : PathFault) → (e ≡ fault.OutOfMemory) ⊎ HasNoPath crash trace from e → ((other : Path) → IsTracePath crash trace from other → e ≡ fault.OutOfMemory)
      → ((f : PathFault) → HasNoPath crash trace from f → (e ≡ fault.OutOfMemory) ⊎ (e ≡ f)) → ((f : PathFault) → HasNoPath crash trace from f → f ≢ fault.OutOfMemory) → IsRunRead crash trace from (Err e)
  path_refused e why only once reason = record {
    run = tt;
    refusal = so why;
    only_run = λ other has. let its = of_alone other has in only its.0 its.1;
    only_refusal = λ f has. once f (of_no_path f has);
    reason = λ f has. reason f (of_no_path f has);
  }
    where
      so : (e ≡ fault.OutOfMemory) ⊎ HasNoPath crash trace from e → (e ≡ fault.OutOfMemory) ⊎ HasNoRunOf crash trace from e
      so (inl m) = inl m
      so (inr has) = inr (to_one (HasNoSharedRun crash trace from e) (is_several trace) one has)

  pub no_memory_read : ((f : PathFault) → HasNoPath crash trace from f → f ≢ fault.OutOfMemory) → IsRunRead crash trace from (Err fault.OutOfMemory)
  no_memory_read reason = path_refused fault.OutOfMemory (inl refl) (λ other is. refl) (λ f has. inl refl) reason

-- where there is one note, it is that of the dump's own registers
pub only_note : (dump : Dump) (notes : List (List ℕ)) → AreNotesOf dump notes → threads_of dump ≡ 1 → notes ≡ registers_of dump ∷ []
only_note dump notes are one = by notes are.first (let count = are.count in omega (arith, count, one))
  where
    some_same : (a b : List ℕ) → Some a ≡ Some b → a ≡ b
    some_same a b e = cc

    by : (ns : List (List ℕ)) → slice_get ns 0 ≡ Some (registers_of dump) → length ns ≡ 1 → ns ≡ registers_of dump ∷ []
    by [] first count = let no : ⊥ = omega (arith, count) in absurd no
    by (n ∷ []) first count = ap (λ (x : List ℕ). x ∷ []) (some_same n (registers_of dump) first)
    by (n ∷ m ∷ ns) first count = let no : ⊥ = omega (arith, count) in absurd no

-- notes of which there is a first one are some
pub some_first : (notes : List (List ℕ)) (note : List ℕ) → slice_get notes 0 ≡ Some note → 0 < length notes
some_first [] note first = let no : ⊥ = cc in absurd no
some_first (n ∷ ns) note first = omega arith

-- a run of several streams has a thread for each note
pub traced_threads : (t : Traced) (run : Run) → IsTracedRun t run → length run.threads ≡ length t.notes
traced_threads t run is = each_noted t run is

module _ (dump : Dump) where
  pub fits_streams : (notes : List (List ℕ)) (t : Traced) (run : Run) → AreNotesOf dump notes → t.notes ≡ notes → IsTracedRun t run → IsSoundCourse (course_of run) → IsSmall (course_of run) → FitsDump dump run
  fits_streams notes t run are same is sound small =
      let count = are.count in
      let each = traced_threads t run is in
      let its = ap (λ (xs : List (List ℕ)). length xs) same in
      let some = some_first notes (registers_of dump) are.first in
      record { sound = sound; small = small; threads = omega (arith, count, each, its); some = omega (arith, count, each, its, some) }

  pub fits_result : (notes : List (List ℕ)) (t : Traced) → AreNotesOf dump notes → (r : Result Run PathFault) → IfOk r (IsTracedRun t) → IfOk r (λ run. IsSoundCourse (course_of run)) → IfOk r (λ run. IsSmall (course_of run)) → t.notes ≡ notes → IfOk r (FitsDump dump)
  fits_result notes t are (Ok run) is sound small same = fits_streams notes t run are same is sound small
  fits_result notes t are (Err e) is sound small same = tt

  pub fits_path : (rows : List StepRow) (skipped : ℕ) (run : Run) → threads_of dump ≡ 1 → length rows ≤ 65536 → run ≡ run_of_one rows skipped → IsSoundCourse (course_of run) → FitsDump dump run
  fits_path rows skipped run one few same sound =
      subst (λ (r : Run). IsSoundCourse (course_of r) → FitsDump dump r) (sym same)
      (λ its. record { sound = its; small = record { rows = omega (arith, few); threads = omega arith }; threads = one; some = omega arith }) sound

-- what the trace of a crash tells is a sound run of some threads
pub record IsWhole (crash : Crash) (run : Run) : Type 0 where
  pub sound : IsSoundCourse (course_of run)
  pub some : 0 < length run.threads
  pub noted : 0 < length crash.notes

pub whole_run : (crash : Crash) (trace : List ℕ) (from : ℕ) (run : Run) → 0 < length crash.notes → IsRunOf crash trace from run → IsWhole crash run
whole_run crash trace from run noted is = by (is_several trace) is
  where
    by : (b : Bool) → MatchBool b (IsSharedRun crash trace from run) (IsRunAlone crash trace from run) → IsWhole crash run
    by true h =
        let each = traced_threads (traced_in crash trace from) run h in
        record { sound = traced_sound (traced_in crash trace from) run h; some = omega (arith, each, noted); noted = noted }
    by false (path, told, same) =
        subst (λ (r : Run). IsWhole crash r) (sym same) (record { sound = is_sound path.steps; some = omega arith; noted = noted })
