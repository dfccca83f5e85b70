use Rattle.rept_timeline.specs.Paths.{timeline}
use Rattle.std.proofs.Common.{◌∙◌, subst}
use Rattle.rept_log.specs.Fronts.{Stored, basis_of, front_of, seen_in, told_by}
use Rattle.rept_log.specs.RowBytes.{with_bytes}
use Rattle.rept_log.specs.Concluding.{seen_row, IsConcluded, IsNotConcluded}
use Rattle.rept_log.proofs.Reasoning.{some_after, none_after, inferred_by_bytes, not_inferred_by_bytes}
use Rattle.rept_log.proofs.front.Front.inferred_by.Goals as goal

pub returns-clause-none : goal.returns-clause-none
returns-clause-none g c =
    let f = front_of g.W.Partial.sets g.W.Transfer.moves g.R.RowRules.rules (basis_of c.args.self.now) in
    let bytes = c.as_slice.result.now in
    none_after _ _ c.concluded.result
    (λ none. not_inferred_by_bytes f g.met.R.RowRules.lawful c.count-count.ensures.words c.args.i c.args.fact.now c.args.row.now c.requires bytes (c.as_slice.ensures ∙ c.in_ok-bytes.ensures) (subst (λ (b : Stored). IsNotConcluded g.R.RowRules.rules (seen_row (timeline b.paths).moments c.args.i c.args.row.now (with_bytes (seen_in f c.args.i) bytes)) c.args.fact.now) c.self.view_is none))
    c.concluded.ensures.none

pub returns-clause-found : goal.returns-clause-found
returns-clause-found g c =
    let f = front_of g.W.Partial.sets g.W.Transfer.moves g.R.RowRules.rules (basis_of c.args.self.now) in
    let bytes = c.as_slice.result.now in
    some_after _ _ c.concluded.result
    (λ reason by. inferred_by_bytes f g.met.R.RowRules.lawful c.count-count.ensures.words c.args.i c.args.fact.now c.args.row.now c.requires bytes (c.as_slice.ensures ∙ c.in_ok-bytes.ensures) (told_by reason) (subst (λ (b : Stored). IsConcluded g.R.RowRules.rules (seen_row (timeline b.paths).moments c.args.i c.args.row.now (with_bytes (seen_in f c.args.i) bytes)) c.args.fact.now (told_by reason)) c.self.view_is by))
    c.concluded.ensures.found
