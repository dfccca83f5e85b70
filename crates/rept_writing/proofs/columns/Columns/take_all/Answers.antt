use Rattle.std.proofs.Common.{refl}
use Rattle.rept_writing.proofs.Rising.{taken_none}
use Rattle.rept_writing.proofs.columns.Columns.take_all.Goals as goal

pub loop-k-init : goal.loop-k-init
loop-k-init c = record { taken = taken_none c.args.list.now c.args.self.now c.requires.places c.requires.firsts c.requires.lasts; kind = refl; room = refl }
