use Rattle.std.proofs.Common.{ℕ, Bool, Option, Some, ap, sym, ◌∙◌}
use Rattle.std.specs.Prelude.{is_none}
use Rattle.std.specs.List.{find}
use Rattle.rept_findings.specs.Shown.{moment_at}
use Rattle.rept_questions.specs.Trail.{address_by, base_of, bytes_from, loaded}
use Rattle.rept_questions.proofs.lost.unknown_byte.Goals as goal

pub returns : goal.returns
returns g c =
    let s = g.F.Findings.shown c.args.findings.now in
    let i = c.args.instr.now in
    let test : ℕ → Bool = λ a. is_none (s.byte (moment_at s c.args.at) a) in
    c.first_unknown.ensures
    ∙ ap (λ m. find (λ a. is_none (s.byte m a)) (bytes_from c.loaded.result (Some c.in-Some.address))) c.moment_of.ensures.value
    ∙ ap (λ n. find test (bytes_from n (Some c.in-Some.address))) c.loaded.ensures
    ∙ ap (λ (o : Option ℕ). find test (bytes_from (loaded i) o)) (sym c.in-Some.is ∙ c.address_at.ensures ∙ ap (λ n. address_by s n (base_of i)) c.number_of.ensures.value)
