use Rattle.std.proofs.Common.{◌≡◌, ◌<◌, ℕ, Some, sym, subst, true, ◌∙◌}
use Rattle.rept_findings.specs.LastWriters.{IsNamed, named_row, writer_at}
use Rattle.rept_findings.specs.Texts.{at}
use Rattle.rept_findings.specs.declared.place.ThreadPoint.{ThreadPoint}
use Rattle.rept_remote.specs.Moves.Halts.{has_changed}
use Rattle.rept_remote.proofs.MovesLemmas.Forward.{new_row, new_there, not_named}
use Rattle.rept_remote.proofs.moves.moves.changed_by.Goals as goal

pub returns-in-Some-clause-new : goal.returns-in-Some-clause-new
returns-in-Some-clause-new g c =
    let s = g.F.Findings.shown c.args.findings.now in
    let a = c.args.address in
    let row = c.in-Some.row in
    let later = c.writer_at-later.result in
    let changed : has_changed s c.args.here a later ≡ true = sym (c.has_changed.ensures s c.args.here a c.requires.known) ∙ c.if-not-has_changed.false in
    let named : named_row later ≡ Some row = sym c.named_row.ensures ∙ c.in-Some.is in
    let there = subst (λ (p : ThreadPoint). IsNamed s (at p.thread c.since.result) a row) c.point_at-in-Some.ensures c.since.ensures.named in
    new_there s c.args.here a (writer_at s (at c.args.here.thread c.since.result) a) row there (new_row s c.args.here a later row named changed)

pub returns-in-Some-clause-least : goal.returns-in-Some-clause-least
returns-in-Some-clause-least g c low under old =
    let s = g.F.Findings.shown c.args.findings.now in
    let a = c.args.address in
    let row = c.in-Some.row in
    let later = c.writer_at-later.result in
    let changed : has_changed s c.args.here a later ≡ true = sym (c.has_changed.ensures s c.args.here a c.requires.known) ∙ c.if-not-has_changed.false in
    let named : named_row later ≡ Some row = sym c.named_row.ensures ∙ c.in-Some.is in
    let least = subst (λ (p : ThreadPoint). (n : ℕ) → n < p.point → (IsNamed s (at p.thread n) a row → ⊥) → n < c.since.result) c.point_at-in-Some.ensures c.since.ensures.least in
    least low under (not_named s c.args.here low a row old (new_row s c.args.here a later row named changed))
