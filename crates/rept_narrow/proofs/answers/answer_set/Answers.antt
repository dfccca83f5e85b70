use Rattle.std.proofs.Common.{◌≡◌, ℕ, ◌&&◌, Option, nat_le, true, sym, subst, ◌∙◌}
use Rattle.rept_narrow.specs.Admitted.{is_below}
use Rattle.rept_known.specs.Laws.BothLaws.{both_lawful}
use Rattle.rept_narrow.proofs.Answering.{all_has_of, bits_all_has, fits_heap, fits_count, fits_process}
use Rattle.rept_narrow.proofs.answers.answer_set.Goals as goal

pub returns-then-number-eq214 : goal.returns-then-number-eq214
returns-then-number-eq214 g c = λ v most asked has fits.
    let small = both_lawful.words c.args.sets.1 v has in
    let heap = fits_heap (g.P.PathPremises.premises c.args.premises.now) c.args.image_end c.args.number most v fits c.if-number-eq214.true in
    c.heap_words.ensures v small (bits_all_has c.unknown.result v c.unknown.ensures small) (subst (λ (o : Option ℕ). (nat_le c.args.image_end v && is_below o v) ≡ true) (sym c.stack_from.ensures) heap)

pub returns-then-counts_bytes : goal.returns-then-counts_bytes
returns-then-counts_bytes g c = λ v most asked has fits.
    c.counted.ensures v most has asked (fits_count (g.P.PathPremises.premises c.args.premises.now) c.args.image_end c.args.number most v fits c.if-number-eq214.false c.if-number-eq222.false (sym c.counts_bytes.ensures ∙ c.if-counts_bytes.true))

pub returns-then-asks_process : goal.returns-then-asks_process
returns-then-asks_process g c = λ v most asked has fits.
    c.process_number.ensures v (both_lawful.words c.args.sets.1 v has) (fits_process (g.P.PathPremises.premises c.args.premises.now) c.args.image_end c.args.number most v fits c.if-number-eq214.false c.if-number-eq222.false (sym c.counts_bytes.ensures ∙ c.if-counts_bytes.false) (sym c.asks_process.ensures ∙ c.if-asks_process.true))

pub returns-else-asks_process : goal.returns-else-asks_process
returns-else-asks_process g c = λ v most asked has fits. all_has_of c.args.sets.1 c.unknown-else-asks_process.result v c.unknown-else-asks_process.ensures has
