-- What the laws of rows and moments say of one row.
use Rattle.rept_timeline.specs.Paths.{timeline}
use Rattle.std.proofs.Common.{◌≡◌, ℕ, ◌<◌, ◌≤◌, Option, Some, None, IsSome, Result, Ok, Err, IfOk, refl, sym, subst}
use Rattle.rept_isa.specs.declared.row.StepRow.{StepRow}
use Rattle.rept_partial.specs.Sets.{Sets}
use Rattle.rept_span.specs.Moves.{Moves}
use Rattle.rept_span.specs.Ranges.{Legs, AreLegs}
use Rattle.rept_reason.specs.declared.view.inferred.When.{When}
use Rattle.rept_reason.specs.declared.view.inferred.When.TheVariants.{Before, After}
use Rattle.rept_reason.specs.View.Rules.{Rules}
use Rattle.rept_report.specs.Moments.{Moments, AreMoments}
use Rattle.rept_report.specs.Setting.{Setting}
use Rattle.rept_report.specs.Timeline.{Timeline}
use Rattle.rept_report.specs.Views.{moment_of}
use Rattle.rept_report.specs.Origin.Bridges.{ByteAlong}
use Rattle.rept_report.specs.Origin.Logs.{time_of, byte_in}
use Rattle.rept_log.specs.Fronts.{Stored, basis_of, front_of, setting_in}

no_row : IsSome {T = StepRow} None → ⊥
no_row e = cc

-- the row that is there
the_row : (x : Option StepRow) → IsSome x → (row : StepRow) × (x ≡ Some row)
the_row None there = absurd (no_row there)
the_row (Some row) there = (row, refl)

pub row_inside : (legs : Legs) → AreLegs legs → (i : ℕ) → IsSome (legs.row i) → i < legs.count
row_inside legs laws i there = let x = the_row (legs.row i) there in laws.inside i x.0 x.1

pub row_moment_end : (legs : Legs) (moments : Moments) → AreMoments legs moments → (i : ℕ) (when : When) → IsSome (legs.row i) → moment_of moments i when ≤ moments.end
row_moment_end legs moments laws i Before there = let x = the_row (legs.row i) there in laws.rows_before i x.0 x.1
row_moment_end legs moments laws i After there = let x = the_row (legs.row i) there in laws.rows_after i x.0 x.1

-- the byte and the rows and moments that a front's byte speaks of are the front's
module _ {W : Type 0} (sets : Sets W) (moves : Moves W) (rules : Rules) where
  abbrev setting_at : Stored → Setting W
  setting_at b = setting_in (front_of sets moves rules (basis_of b))

  pub moved : (inside now front : Stored) → inside ≡ now → front ≡ now → (a : ℕ) (Q : Timeline → ByteAlong → Type 0) → Q (timeline inside.paths) (byte_in (setting_at front) front.facts a) → Q (time_of (setting_at now)) (byte_in (setting_at now) now.facts a)
  moved inside now front here there a Q h = subst (λ (b : Stored). Q (timeline b.paths) (byte_in (setting_at now) now.facts a)) here (subst (λ (b : Stored). Q (timeline inside.paths) (byte_in (setting_at b) b.facts a)) there h)

  pub moved_back : (inside now front : Stored) → inside ≡ now → front ≡ now → (a : ℕ) (Q : Timeline → ByteAlong → Type 0) → Q (time_of (setting_at now)) (byte_in (setting_at now) now.facts a) → Q (timeline inside.paths) (byte_in (setting_at front) front.facts a)
  moved_back inside now front here there a Q h = subst (λ (b : Stored). Q (timeline inside.paths) (byte_in (setting_at b) b.facts a)) (sym there) (subst (λ (b : Stored). Q (timeline b.paths) (byte_in (setting_at now) now.facts a)) (sym here) h)

pub both_ok : {A E : Type 0} (r : Result A E) (P Q R : A → Type 0) → ((x : A) → P x → Q x → R x) → IfOk r P → IfOk r Q → IfOk r R
both_ok (Ok x) P Q R f p q = f x p q
both_ok (Err e) P Q R f p q = tt
