use Rattle.std.proofs.Common.{arith}
use Rattle.rept_maps.proofs.NotesLemmas.Leaping.{passed}
use Rattle.rept_maps.proofs.notes.ahead.pass.Goals as goal

pub returns : goal.returns
returns c sought offset segment is there = passed sought offset segment c.args.bytes.now c.args.ahead c.args.leap (record { found = c.join.result; rest = c.after.result }) is there c.requires.front (omega arith) c.after.ensures c.join.ensures
