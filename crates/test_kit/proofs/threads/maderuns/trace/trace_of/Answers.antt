use Rattle.std.proofs.Common.{false, subst}
use Rattle.rept_encode.specs.Weaving.Woven.{IsCause}
use Rattle.rept_encode.specs.declared.weaving.fault.WeaveFault.{WeaveFault}
use Rattle.test_kit.proofs.ThreadsLemmas.MaderunsLemmas.Refusing.{no_inner, no_jump, walkable}
use Rattle.test_kit.proofs.threads.maderuns.trace.trace_of.Goals as goal

pub weave-requires : goal.weave-requires
weave-requires c = walkable c.args.harts.now c.requires.sendable

pub unreachable-requires-in-InnerCall : goal.unreachable-requires-in-InnerCall
unreachable-requires-in-InnerCall c = no_inner c.args.harts.now c.requires.sendable c.in-InnerCall.field-0 (subst (λ (f : WeaveFault). IsCause false c.args.harts.now f) c.in-InnerCall.is c.in-Err.ensures.cause)

pub unreachable-requires-in-JumpEnds : goal.unreachable-requires-in-JumpEnds
unreachable-requires-in-JumpEnds c = no_jump c.args.harts.now c.requires.sendable c.in-JumpEnds.field-0 (subst (λ (f : WeaveFault). IsCause false c.args.harts.now f) c.in-JumpEnds.is c.in-Err.ensures.cause)
