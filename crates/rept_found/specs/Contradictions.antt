-- Where a conflict is, as a session names it: at a point of a thread, of a byte at a moment. This
-- project's own.
use Rattle.std.specs.Prelude.{ℕ, length}
use Rattle.rept_reason.specs.declared.fact.Cell.TheVariants.{Register, Byte}
use Rattle.rept_report.specs.declared.conflict.ConflictKind.{ConflictKind}
use Rattle.rept_report.specs.declared.conflict.ConflictKind.TheVariants.{TwoValues, EmptyRange, WrongTurn}
use Rattle.rept_findings.specs.declared.place.ThreadPlace.{ThreadPlace}
use Rattle.rept_steps.specs.Course.{Course}
use Rattle.rept_found.specs.Places.Places.{place_on, point_named, point_on}
use Rattle.rept_found.specs.declared.contradiction.Contradiction.{Contradiction}

abbrev pub point_place : Course → ℕ → ThreadPlace
point_place C g = point_named (point_on C g).thread (point_on C g).point

abbrev pub conflict_place : Course → ConflictKind → ThreadPlace
conflict_place C (TwoValues point (Register r) v w) = point_place C point
conflict_place C (TwoValues moment (Byte a) v w) = place_on C moment
conflict_place C (EmptyRange point reg) = point_place C point
conflict_place C (WrongTurn step) = point_place C step

abbrev pub contradiction_on : Course → ConflictKind → Contradiction
contradiction_on C kind = record { threads = length C.threads; at = conflict_place C kind; kind = kind }
