use Rattle.std.proofs.Common.{arith, drop, ◌+◌, get_or, add-one, drop-cons, subst, ◌∷◌, ◌≡◌}
use Rattle.rept_remote.proofs.Escaping.{SoFar, stood, one_at_most}
use Rattle.rept_remote.proofs.unescape.unescape.Goals as goal

pub loop-byte-preserved : goal.loop-byte-preserved
loop-byte-preserved c =
    let bytes = c.args.bytes.now in
    let i = c.loop-byte.byte-index in
    let front : drop i bytes ≡ get_or bytes i 0 ∷ drop (i + 1) bytes = rw add-one (drop-cons bytes i 0 c.loop-byte-test.true) in
    record {
      few = omega (arith, one_at_most c.loop-byte.is_escaped c.loop-byte.carried.items c.stand-is_escaped.new.carried.items (get_or bytes i 0) c.stand-is_escaped.result c.stand-is_escaped.ensures);
      so_far = stood bytes c.loop-byte.carried.items (get_or bytes i 0) (drop (i + 1) bytes) c.loop-byte.is_escaped c.stand-is_escaped.new.carried.items c.stand-is_escaped.result c.stand-is_escaped.ensures
          (subst (λ rest. SoFar bytes c.loop-byte.carried.items c.loop-byte.is_escaped rest) front c.loop-byte.invariant.so_far);
    }
