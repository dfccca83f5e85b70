use Rattle.std.proofs.Common.{◌-◌, ◌+◌, ◌∷◌, length, take, drop, sym, ◌∙◌, ap}
use Rattle.std.proofs.lemmas.List.{take_rest}
use Rattle.rept_session.specs.Words.{words_in}
use Rattle.rept_session.proofs.WordLemmas.{no_words, word_ends, last_word}
use Rattle.rept_session.proofs.words.first_word.Goals as goal

pub returns-in_default : goal.returns-in_default
returns-in_default c = no_words c.args.text.now (sym c.in_default.is ∙ c.first_letter.ensures)

pub returns-in-Some-first_blank : goal.returns-in-Some-first_blank
returns-in-Some-first_blank c =
    let rest = take (length c.args.text.now - c.in-Some.start) (drop c.in-Some.start c.args.text.now) in
    word_ends c.args.text.now rest c.in-Some.start (sym c.in-Some.is ∙ c.first_letter.ensures) (take_rest c.args.text.now c.in-Some.start) c.in-Some-first_blank.end (sym c.in-Some-first_blank.is ∙ c.first_blank.ensures)
    ∙ ap (λ w. take c.in-Some-first_blank.end rest ∷ words_in w) (sym (take_rest rest (c.in-Some-first_blank.end + 1)))

pub returns-in-None : goal.returns-in-None
returns-in-None c =
    last_word c.args.text.now _ c.in-Some.start (sym c.in-Some.is ∙ c.first_letter.ensures) (take_rest c.args.text.now c.in-Some.start) (sym c.in-None.is ∙ c.first_blank.ensures)
