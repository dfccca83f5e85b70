use Rattle.std.proofs.Common.{◌≤◌, ◌<◌, ◌∙◌, ◌+◌, ◌-◌, ℕ, Option, ap, length, subst, sym}
use Rattle.std.specs.Prelude.{IfSome, Some}
use Rattle.std.specs.List.{find, range_with_len}
use Rattle.std.specs.Option.{option_or}
use Rattle.rept_findings.specs.Texts.{at}
use Rattle.rept_remote.specs.Moves.Halts.{is_touched}
use Rattle.rept_remote.proofs.MovesLemmas.Forward.{either_none, up_to_stop}
use Rattle.rept_remote.proofs.moves.moves.earlier.Goals as goal

pub returns-in-Some-clause-value : goal.returns-in-Some-clause-value
returns-in-Some-clause-value g c = λ test e.
    let s = g.F.Findings.shown c.args.findings.now in
    let last = length (s.rows c.args.here.thread) in
    let within = subst (λ (o : Option ℕ). IfSome o (λ found. (c.args.here.point < found) × (found ≤ last))) c.in-Some.is c.requires.within in
    c.sooner.ensures ∙ ap (λ (o : Option ℕ). option_or o (Some c.in-Some.stop)) c.first_write-write.ensures.value
    ∙ up_to_stop test (λ p. is_touched s (at c.args.here.thread p) c.args.address) c.args.here.point (last - c.args.here.point) c.in-Some.stop within.0 (sym c.in-Some.is ∙ e)

pub returns-in-None-clause-value : goal.returns-in-None-clause-value
returns-in-None-clause-value g c = λ test e.
    let s = g.F.Findings.shown c.args.findings.now in
    c.first_write.ensures.value ∙ ap (λ n. find (λ p. is_touched s (at c.args.here.thread p) c.args.address) (range_with_len (c.args.here.point + 1) (n - c.args.here.point))) c.last_point-last.ensures.value
    ∙ either_none test (λ p. is_touched s (at c.args.here.thread p) c.args.address) (range_with_len (c.args.here.point + 1) (length (s.rows c.args.here.thread) - c.args.here.point)) (sym c.in-None.is ∙ e)
