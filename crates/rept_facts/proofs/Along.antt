-- What is known of rows and moments.
use Rattle.std.proofs.Common.{◌≡◌, ℕ, ◌<◌, ◌≤◌, Option, Some, None, IfSome, refl, sym, arith}
use Rattle.rept_reason.specs.declared.view.inferred.When.{When}
use Rattle.rept_report.specs.Views.{moment_of}
use Rattle.rept_report.specs.Timeline.{Timeline, IsTimeline, IsLastFrom}
use Rattle.rept_span.specs.Ranges.{Legs, AreLegs}
use Rattle.std.specs.Option.{IsSome}
use Rattle.rept_reason.specs.declared.view.inferred.When.TheVariants.{Before, After}
use Rattle.rept_isa.specs.declared.row.StepRow.{StepRow}

-- a row isn't both there and not
pub no_row : (o : Option StepRow) (row : StepRow) → o ≡ None → o ≡ Some row → ⊥
no_row None row e f = cc
no_row (Some x) row e f = cc

-- a row that is there
pub some_row : (o : Option StepRow) → IsSome o → (row : StepRow) × (o ≡ Some row)
some_row None some = cc
some_row (Some row) some = (row, refl)

pub there_inside : (t : Timeline) → AreLegs t.legs → (i : ℕ) → IsSome (t.legs.row i) → i < t.legs.count
there_inside t laws i some = let its = some_row (t.legs.row i) some in laws.inside i its.0 its.1

pub moment_early : (t : Timeline) → IsTimeline t → (i : ℕ) (w : When) → IsSome (t.legs.row i) → moment_of t.moments i w ≤ t.moments.end
moment_early t laws i Before some = let its = some_row (t.legs.row i) some in laws.moments.rows_before i its.0 its.1
moment_early t laws i After some = let its = some_row (t.legs.row i) some in laws.moments.rows_after i its.0 its.1

pub row_inside : (legs : Legs) → AreLegs legs → (i : ℕ) (o : Option StepRow) → o ≡ legs.row i → IfSome o (λ row. i < legs.count)
row_inside legs laws i None is = tt
row_inside legs laws i (Some row) is = laws.inside i row (sym is)

pub last_few : (legs : Legs) (least : ℕ) (o : Option ℕ) → legs.count ≤ 66560 → IsLastFrom legs least o → IfSome o (λ p. p ≤ 66560)
last_few legs least None few its = tt
last_few legs least (Some p) few its = let early = its.1 in omega (arith, few, early)
