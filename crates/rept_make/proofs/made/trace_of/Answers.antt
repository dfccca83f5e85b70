use Rattle.std.proofs.Common.{subst}
use Rattle.rept_encode.specs.Encoded.{IsRefusal}
use Rattle.rept_encode.specs.Walkable.{IsFirstJumpEnd}
use Rattle.rept_encode.specs.declared.fault.EncodeFault.{EncodeFault}
use Rattle.rept_make.proofs.made.trace_of.Goals as goal

pub unreachable-requires : goal.unreachable-requires
unreachable-requires c =
    let first : IsFirstJumpEnd c.args.steps.now c.in-JumpEnds.field-0 = subst (λ (f : EncodeFault). IsRefusal c.args.steps.now f) c.in-JumpEnds.is c.in-Err.ensures.refusal in
    c.requires.entered c.in-JumpEnds.field-0 first.there
