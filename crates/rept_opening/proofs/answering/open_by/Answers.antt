use Rattle.std.proofs.Common.{inr, refl}
use Rattle.rept_opening.proofs.answering.open_by.Goals as goal

-- the paths that are dropped are those that were made
pub invariant_of-basis : goal.invariant_of-basis
invariant_of-basis g c = record { lined = c.in-Ok.basis.paths.lined; stripped = c.in-Ok.basis.paths.stripped; listed = c.in-Ok.basis.paths.listed; lawful = c.in-Ok.basis.paths.lawful; extended = c.in-Ok.basis.paths.extended; tabled = c.in-Ok.basis.paths.tabled }

-- there was no memory
pub returns-in-Err-clause-refused : goal.returns-in-Err-clause-refused
returns-in-Err-clause-refused g c = λ notes are. inr (inr refl)
