-- A run that is one path, of one thread in one slice, all of which is told: it has the setting of
-- that path, and the same is shown of it.
use Rattle.std.proofs.Common.{◌≡◌, ℕ, zero, suc, ◌<◌, List, [], ◌∷◌, length, Option, None, Some, refl, sym, ap, ◌∙◌, subst, arith}
use mathlib.Core.Path.{fun_ext}
use Rattle.rept_elf.specs.Segments.{ElfSegment}
use Rattle.rept_dump.specs.Program.{Program}
use Rattle.rept_isa.specs.declared.row.StepRow.{StepRow}
use Rattle.rept_reason.specs.Facts.{Knowledge}
use Rattle.rept_steps.specs.declared.slice.Slice.{Slice}
use Rattle.rept_steps.specs.declared.threads.ThreadRows.{ThreadRows}
use Rattle.rept_steps.specs.Course.{Course, rows_of}
use Rattle.rept_steps.specs.Runs.{whole_slice}
use Rattle.rept_order.specs.Legs.{points_before}
use Rattle.rept_order.specs.Moments.{Moment}
use Rattle.rept_order.specs.Moments.Moment.{before, after, at_end}
use Rattle.rept_moments.specs.Seen.{alone_by, rows_in}
use Rattle.rept_found.specs.Places.Places.{last_on, named_on, place_on}
use Rattle.rept_report.specs.OneThread.{path_setting}
use Rattle.rept_findings.specs.Shown.{Shown}
use Rattle.rept_findings.specs.declared.place.ThreadPlace.{ThreadPlace}
use Rattle.rept_found.specs.Crash.{Crash, Means, Scene, path_of, route, setting}
use Rattle.rept_found.specs.Telling.{shown_of, shown_on}

same_rows : {x y : List StepRow} → Some x ≡ Some y → x ≡ y
same_rows e = cc

none_some : {x : List StepRow} → None ≡ Some x → ⊥
none_some e = cc

-- one thread with these rows in this slice
abbrev in_slice : List StepRow → Slice → Course
in_slice rows s = record { threads = record { steps = rows; slices = s ∷ [] } ∷ []; untraced = None }

by_slices : (own : List StepRow) (slices : List Slice) (rows : List StepRow) → rows_in slices own ≡ Some rows → (s : Slice) × (◌≡◌ {A = Course} (record { threads = record { steps = own; slices = slices } ∷ []; untraced = None }) (in_slice rows s))
by_slices own [] rows e = absurd (none_some e)
by_slices own (s ∷ []) rows e = (s, ap (λ (xs : List StepRow). in_slice xs s) (same_rows e))
by_slices own (s ∷ u ∷ slices) rows e = absurd (none_some e)

by_threads : (threads : List ThreadRows) (untraced : Option ℕ) (rows : List StepRow) → alone_by threads untraced ≡ Some rows → (s : Slice) × (◌≡◌ {A = Course} (record { threads = threads; untraced = untraced }) (in_slice rows s))
by_threads [] untraced rows e = absurd (none_some e)
by_threads (thread ∷ []) None rows e = by_slices thread.steps thread.slices rows e
by_threads (thread ∷ []) (Some d) rows e = absurd (none_some e)
by_threads (thread ∷ other ∷ threads) untraced rows e = absurd (none_some e)

-- so it is such a thread
is_in_slice : (C : Course) (rows : List StepRow) → alone_by C.threads C.untraced ≡ Some rows → (s : Slice) × (C ≡ in_slice rows s)
is_in_slice C rows e = by_threads C.threads C.untraced rows e

module _ {W : Type 0} (m : Means W) (rows : List StepRow) where
  -- in whichever slice it ran, its last values are those of the first note
  setting_so : (exe : Program) (core : List ElfSegment) (notes : List (List ℕ)) (s : Slice) → 0 < length notes → setting m (record { exe = exe; core = core; notes = notes }) (in_slice rows s) ≡ path_setting (path_of m (record { exe = exe; core = core; notes = notes }) rows)
  setting_so exe core [] s some = absurd (omega (arith, some))
  setting_so exe core (note ∷ notes) s some = refl

  -- and by its name it is told as any other slice of these rows
  named_so : (s u : Slice) (x : Moment) → named_on (in_slice rows s) x ≡ named_on (in_slice rows u) x
  named_so s u (before r) = refl
  named_so s u (after r) = refl
  named_so s u at_end = refl

  place_so : (s u : Slice) (k : ℕ) → place_on (in_slice rows s) k ≡ place_on (in_slice rows u) k
  place_so s u k = named_so s u (last_on (in_slice rows u) k)

  rows_so : (s u : Slice) (t : ℕ) → rows_of (in_slice rows s) t ≡ rows_of (in_slice rows u) t
  rows_so s u zero = refl
  rows_so s u (suc t) = refl

  first_so : (s u : Slice) (t : ℕ) → points_before (in_slice rows s).threads t ≡ points_before (in_slice rows u).threads t
  first_so s u zero = refl
  first_so s u (suc t) = refl

  -- what is shown, but for these three
  abbrev with : Shown → (ℕ → List StepRow) → (ℕ → ℕ) → (ℕ → ThreadPlace) → Shown
  with x r f p = record x { rows = r; first = f; place = p }

  shown_so : (exe : Program) (core : List ElfSegment) (notes : List (List ℕ)) (s : Slice) (K : Knowledge) (scene : Scene) → 0 < length notes → shown_on (route m (record { exe = exe; core = core; notes = notes }) (in_slice rows s)) K scene ≡ shown_of (path_of m (record { exe = exe; core = core; notes = notes }) rows) K scene
  shown_so exe core [] s K scene some = absurd (omega (arith, some))
  shown_so exe core (note ∷ notes) s K scene some =
      let all = shown_of (path_of m (record { exe = exe; core = core; notes = note ∷ notes }) rows) K scene in
      let one = shown_on (route m (record { exe = exe; core = core; notes = note ∷ notes }) (in_slice rows s)) K scene in
      ap (λ (r : ℕ → List StepRow). with all r one.first one.place) (fun_ext (λ t. rows_so s (whole_slice (length rows)) t))
      ∙ ap (λ (f : ℕ → ℕ). with all all.rows f one.place) (fun_ext (λ t. first_so s (whole_slice (length rows)) t))
      ∙ ap (λ (p : ℕ → ThreadPlace). with all all.rows all.first p) (fun_ext (λ k. place_so s (whole_slice (length rows)) k))

  pub alone_setting : (crash : Crash) (C : Course) → alone_by C.threads C.untraced ≡ Some rows → 0 < length crash.notes → setting m crash C ≡ path_setting (path_of m crash rows)
  alone_setting crash C e some =
      let its = is_in_slice C rows e in
      subst (λ (D : Course). setting m crash D ≡ path_setting (path_of m crash rows)) (sym its.1) (setting_so crash.exe crash.core crash.notes its.0 some)

  pub alone_shown : (crash : Crash) (C : Course) (K : Knowledge) (scene : Scene) → alone_by C.threads C.untraced ≡ Some rows → 0 < length crash.notes → shown_on (route m crash C) K scene ≡ shown_of (path_of m crash rows) K scene
  alone_shown crash C K scene e some =
      let its = is_in_slice C rows e in
      subst (λ (D : Course). shown_on (route m crash D) K scene ≡ shown_of (path_of m crash rows) K scene) (sym its.1) (shown_so crash.exe crash.core crash.notes its.0 K scene some)
