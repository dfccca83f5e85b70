use Rattle.std.proofs.Common.{subst}
use Rattle.rept_encode.specs.declared.fault.EncodeFault.{EncodeFault}
use Rattle.rept_encode.specs.Encoded.{IsRefusal}
use Rattle.rept_simlog.specs.Program.{program_of}
use Rattle.rept_simlog.proofs.Entries.{records_is, within_entries, ends_jump}
use Rattle.rept_simlog.proofs.recorder.record_entries.Goals as goal

pub returns-in-Ok-clause-ok : goal.returns-in-Ok-clause-ok
returns-in-Ok-clause-ok c = records_is (program_of c.args.program.now) c.args.entries.now c.in_ok-steps.steps c.in-Ok.trace c.in_ok-steps.ensures.along c.in-Ok.ensures.tells

pub line_of-requires : goal.line_of-requires
line_of-requires c = within_entries (program_of c.args.program.now) c.args.entries.now c.in_ok-steps.steps c.in-JumpEnds.i c.in_ok-steps.ensures.along (subst (λ (f : EncodeFault). IsRefusal c.in_ok-steps.steps f) c.in-JumpEnds.is c.in-Err.ensures.refusal)

pub returns-in-JumpEnds-clause-err : goal.returns-in-JumpEnds-clause-err
returns-in-JumpEnds-clause-err c = ends_jump (program_of c.args.program.now) c.args.entries.now c.in_ok-steps.steps c.in-JumpEnds.i c.line_of.result c.in_ok-steps.ensures.along (subst (λ (f : EncodeFault). IsRefusal c.in_ok-steps.steps f) c.in-JumpEnds.is c.in-Err.ensures.refusal) c.line_of.ensures
