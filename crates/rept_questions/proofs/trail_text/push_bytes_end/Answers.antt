use Rattle.std.proofs.Common.{ℕ, ◌++◌, Bool, Option, Some, ap, sym, ◌∙◌}
use Rattle.std.specs.Prelude.{is_none}
use Rattle.std.specs.List.{find}
use Rattle.rept_questions.specs.Texts.{byte_end}
use Rattle.rept_questions.specs.Trail.{address_by, base_of, byte_source, bytes_from, loaded}
use Rattle.rept_questions.proofs.trail_text.push_bytes_end.Goals as goal

pub returns : goal.returns
returns g c =
    let s = g.F.Findings.shown c.args.findings.now in
    let i = c.args.instr.now in
    let test : ℕ → Bool = λ a. is_none (byte_source s c.args.at a) in
    c.in_ok-push_byte_end.ensures
    ∙ ap (λ (o : Option ℕ). c.args.text.now ++ byte_end s c.args.at o)
    (c.first_lacking-lacking.ensures ∙ ap (λ n. find test (bytes_from n (Some c.in-Some.address))) c.loaded.ensures
    ∙ ap (λ (o : Option ℕ). find test (bytes_from (loaded i) o)) (sym c.in-Some.is ∙ c.address_at.ensures ∙ ap (λ n. address_by s n (base_of i)) c.number_of.ensures.value))
