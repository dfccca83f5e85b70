use Rattle.rept_order.proofs.Points.{plain_step, call_step, registers_saved, point_state}
use Rattle.std.proofs.lemmas.Option.{slice_get_within}
use Rattle.rept_steps.specs.Course.{rows_of}
use Rattle.rept_order.proofs.laws.rows_are_steps.Goals as goal

pub returns-clause-plain : goal.returns-clause-plain
returns-clause-plain c = λ C D h t i row x is plain. plain_step C D h x t i (slice_get_within (rows_of C t) i row is) row is plain

pub returns-clause-call : goal.returns-clause-call
returns-clause-call c = λ C D h t i row memory x is call. call_step C D h x t i (slice_get_within (rows_of C t) i row is) row memory is call

pub returns-clause-states : goal.returns-clause-states
returns-clause-states c = λ C D h t p m x is. point_state C D h x t p m is

pub returns-clause-registers : goal.returns-clause-registers
returns-clause-registers c = λ C D h t r v x some is. registers_saved C D h x t r v some is

pub returns-clause-bytes : goal.returns-clause-bytes
returns-clause-bytes c = λ C D h a v x is. x.bytes_end a v is
