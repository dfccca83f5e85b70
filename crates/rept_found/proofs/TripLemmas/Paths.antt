-- The run of one path is sound, and no other thread has registers that were saved.
use Rattle.std.proofs.Common.{ℕ, zero, suc, List, length, inl, refl, sym, arith, zero-add}
use Rattle.rept_isa.specs.declared.row.StepRow.{StepRow}
use Rattle.rept_steps.specs.Runs.{course_of, run_of_one, whole_slice, thread_of_one}
use Rattle.rept_steps.specs.Course.{rows_of, slices_of, TakeRows, KeepTime, IsAlone, IsSoundCourse}
use Rattle.rept_order.specs.Alone.{SavesOne}
use Rattle.rept_report.specs.OneThread.{ThreadPath}
use Rattle.rept_found.specs.Trip.Alone.{trip_of}

pub is_alone : (rows : List StepRow) → IsAlone (course_of (run_of_one rows 0))
is_alone rows = record { thread = thread_of_one rows; slice = whole_slice (length rows); only = refl; whole = refl; told = refl }

taken : (rows : List StepRow) (t : ℕ) → TakeRows 0 (slices_of (course_of (run_of_one rows 0)) t) (length (rows_of (course_of (run_of_one rows 0)) t))
taken rows zero = (refl, sym (zero-add (length rows)))
taken rows (suc t) = refl

in_time : (rows : List StepRow) (t : ℕ) → KeepTime (slices_of (course_of (run_of_one rows 0)) t)
in_time rows zero = (omega arith, tt, tt)
in_time rows (suc t) = tt

pub is_sound : (rows : List StepRow) → IsSoundCourse (course_of (run_of_one rows 0))
is_sound rows = record { taken = taken rows; in_time = in_time rows; calls = inl (is_alone rows) }

pub saves_one : {W : Type 0} (P : ThreadPath W) → SavesOne (trip_of P).ending
saves_one P zero s some = absurd (omega arith)
saves_one P (suc t) s some = refl
