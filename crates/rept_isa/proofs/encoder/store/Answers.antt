use Rattle.std.proofs.Common.{arith}
use Rattle.std.proofs.lemmas.Int.{to_z-of_z}
use mir.Syntax.{w32}
use Rattle.rept_isa.proofs.EncodeLemmas.{s_is}
use Rattle.rept_isa.proofs.encoder.store.Goals as goal

pub returns : goal.returns
returns c = record {
  form = c.fields.ensures.form;
  operation = c.fields.ensures.operation;
  base = omega arith;
  source = omega arith;
  number = s_is c.fields.result c.word-bits.result c.args.imm (rw (to_z-of_z w32 c.args.imm c.ranges.imm) at c.word-bits.ensures) c.requires.fits c.fields.ensures.target c.fields.ensures.high;
}
