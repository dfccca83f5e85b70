use Rattle.std.proofs.Common.{sym, ap, ◌∙◌, string_bytes}
use Rattle.std.proofs.lemmas.List.Folds.{list_all-map, list_all_at}
use Rattle.std.proofs.lemmas.List.{take_all}
use Rattle.rept_opening.specs.Words.Words.{is_plain}
use Rattle.rept_opening.proofs.words.reading.are_plain.Goals as goal

pub returns-then-not-is_plain_word : goal.returns-then-not-is_plain_word
returns-then-not-is_plain_word c =
    let at = list_all_at (λ w. is_plain (string_bytes w)) c.args.words.now c.loop-word.word-index c.word-item.result c.loop-word-test.true
    (rw (← c.word-item.is) (ap is_plain (sym c.as_bytes.ensures.value) ∙ sym c.is_plain_word.ensures ∙ c.if-not-is_plain_word.true)) in
    sym (list_all-map is_plain string_bytes c.args.words.now ∙ at)

pub returns : goal.returns
returns c = sym (list_all-map is_plain string_bytes c.args.words.now ∙ rw (take_all c.loop-word.word-index c.args.words.now c.loop-word-test.false) at c.loop-word.invariant)
