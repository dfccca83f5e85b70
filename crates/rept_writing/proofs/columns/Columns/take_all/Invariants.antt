use Rattle.std.proofs.Common.{◌≡◌}
use Rattle.rept_writing.specs.Acting.{AreTaken, room_of}
use Rattle.rept_writing.proofs.columns.Columns.take_all.Given as goal

abbrev pub invariant-loop-k : goal.invariant-loop-k
invariant-loop-k l = record {
  taken : AreTaken l.list l.k l.self;
  kind : l.self.is_call ≡ l.fn.self.is_call;
  room : room_of l.self ≡ room_of l.fn.self;
}
