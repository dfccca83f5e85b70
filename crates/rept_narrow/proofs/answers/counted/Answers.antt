use Rattle.std.proofs.Common.{arith}
use Rattle.rept_known.specs.Laws.BothLaws.{both_lawful}
use Rattle.rept_narrow.proofs.Answering.{all_has_of, at_most, bits_all_has}
use Rattle.rept_narrow.proofs.answers.counted.Goals as goal

pub returns-then-has_no_error : goal.returns-then-has_no_error
returns-then-has_no_error c = λ v most has asked fits.
    let none = c.has_no_error.ensures c.if-has_no_error.true v has in
    c.words_between.ensures v (omega arith) (at_most c.args.asked c.hi.result v most none fits c.hi.ensures asked) (bits_all_has c.unknown.result v c.unknown.ensures (both_lawful.words c.args.answer v has))

pub returns-else-has_no_error : goal.returns-else-has_no_error
returns-else-has_no_error c = λ v most has asked fits. all_has_of c.args.answer c.unknown-else-has_no_error.result v c.unknown-else-has_no_error.ensures has
