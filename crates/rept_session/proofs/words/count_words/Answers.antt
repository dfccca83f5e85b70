use Rattle.std.proofs.Common.{◌≡◌, suc, length, arith, ap}
use Rattle.rept_session.specs.Words.{words_in}
use Rattle.rept_session.proofs.WordLemmas.{few_words}
use Rattle.rept_session.proofs.words.count_words.Goals as goal

pub overflow_add-count : goal.overflow_add-count
overflow_add-count c =
    let fits = c.well_formed in
    let few = few_words c.args.text.now in
    let more : length (words_in c.words.rest.now) ≡ suc (length (words_in c.in-Some.after.now)) = ap length c.in-Some.ensures in
    omega (arith, fits.0.1, few, more, c.words.invariant)
