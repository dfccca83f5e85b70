use Rattle.std.proofs.Common.{◌∷◌, [], ◌++◌, sym, ◌∙◌}
use Rattle.rept_remote.proofs.Taking.{noise_more, passed_more}
use Rattle.rept_remote.proofs.bytes.take_call.Goals as goal

pub loop-byte-preserved : goal.loop-byte-preserved
loop-byte-preserved g c = record {
  noise = c.loop-byte.invariant.noise ++ c.in-Ok.byte ∷ [];
  quiet = noise_more c.loop-byte.invariant.noise c.in-Ok.byte c.loop-byte.invariant.quiet (sym c.asks.ensures ∙ c.if-asks.false);
  passed = passed_more _ _ _ _ _ _ _ _ c.loop-byte.invariant.passed c.in-Ok.ensures;
}
