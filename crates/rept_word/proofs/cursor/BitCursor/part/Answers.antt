use Rattle.std.proofs.Common.{◌≡◌, ◌<◌, ◌+◌, ◌-◌, ◌*◌, ℕ, length, arith}
use Rattle.rept_word.proofs.BitLemmas.{within_byte}
use Rattle.rept_word.proofs.cursor.BitCursor.part.Goals as goal
use Rattle.rept_word.proofs.cursor.BitCursor.part.Goals.{else-self-eq7-via-then-self-eq7+else-self, else-self-eq7-via-else-self-eq7}

pub returns-clause-value : goal.returns-clause-value
returns-clause-value c = λ payload i at.
    let inside = c.args.self.now.in_payload in
    let in_byte = c.args.self.now.in_byte in
    let early : 8 * c.args.self.now.byte + c.args.self.now.bit < 8 * length c.args.self.now.payload.now - 1 = elim c.else-self-eq7.branch [
      | else-self-eq7-via-then-self-eq7+else-self w ↦ omega (arith, inside, in_byte, w.if-self.false)
      | else-self-eq7-via-else-self-eq7 w ↦ omega (arith, inside, in_byte, w.if-self-eq7.false)
    ] in
    let few = c.min-count.ensures in
    within_byte c.args.self.now payload i c.min-count.result c.from-2.result at early inside (omega arith) c.from-2.ensures
