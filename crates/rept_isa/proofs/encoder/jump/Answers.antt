use Rattle.std.proofs.Common.{sym}
use Rattle.std.proofs.lemmas.Int.{to_z-of_z}
use mir.Syntax.{w32}
use Rattle.rept_isa.proofs.EncodeLemmas.{j_is}
use Rattle.rept_isa.proofs.encoder.jump.Goals as goal

pub returns : goal.returns
returns c = record {
  form = c.with_upper.ensures.form;
  target = sym c.with_upper.ensures.target;
  number = j_is c.with_upper.result c.word.result c.args.imm (rw (to_z-of_z w32 c.args.imm c.ranges.imm) at c.word.ensures) c.requires.fits c.requires.even c.with_upper.ensures.high;
}
