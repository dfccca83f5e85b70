-- Which moments go by one name, where another thread may do something between them. Worked out by
-- hand, over the courses of the examples of the order.
use Rattle.std.proofs.Common.{◌≡◌, ◌==◌, Bool, true, false, refl}
use Rattle.rept_isa.specs.declared.instr.Instr.{Instr}
use Rattle.rept_steps.specs.Course.{Course, row_of}
use Rattle.rept_order.specs.Moments.Moment.{before, after, at_end}
use Rattle.rept_order.proofs.Examples.{beside, reserve, try, blind_try, swap}
use Rattle.rept_moments.specs.Naming.Making.{names_in}

-- whether the moments after row 1 and before row 2 of the first thread go by one name, so that a
-- byte needs no step from the one to the other
abbrev go_by_one_name : Instr → Bool
go_by_one_name instr = (names_in (beside instr)).name (after (row_of 0 1)) == (names_in (beside instr)).name (before (row_of 0 2))

one_beside_a_reserve : go_by_one_name reserve ≡ true
one_beside_a_reserve = refl

parted_by_a_try : go_by_one_name try ≡ false
parted_by_a_try = refl

parted_by_a_blind_try : go_by_one_name blind_try ≡ false
parted_by_a_blind_try = refl

parted_by_a_swap : go_by_one_name swap ≡ false
parted_by_a_swap = refl
