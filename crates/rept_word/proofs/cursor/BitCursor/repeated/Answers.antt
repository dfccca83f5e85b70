use Rattle.std.proofs.Common.{◌≡◌, ◌/◌, ◌%◌, ◌^◌, ℕ, ◌∙◌, sym, true, false, slice_index}
use Rattle.std.proofs.lemmas.Bool.{eq-eqb, ne_eqb}
use Rattle.rept_word.proofs.BitLemmas.{ends_at}
use Rattle.rept_word.proofs.cursor.BitCursor.repeated.Goals as goal

pub returns-then-last-clause-value : goal.returns-then-last-clause-value
returns-then-last-clause-value c = λ payload i at.
    c.ones-bits.ensures
    ∙ sym (ends_at c.args.self.now payload i c.args.count true at c.requires.last c.requires.whole (sym (eq-eqb (slice_index c.args.self.now.payload.now c.args.self.now.byte / 2 ^ c.args.self.now.bit % 2) 1 c.if-last.true)))

pub returns-else-last-clause-value : goal.returns-else-last-clause-value
returns-else-last-clause-value c = λ payload i at.
    sym (ends_at c.args.self.now payload i c.args.count false at c.requires.last c.requires.whole (sym (ne_eqb (slice_index c.args.self.now.payload.now c.args.self.now.byte / 2 ^ c.args.self.now.bit % 2) 1 c.if-last.false)))
