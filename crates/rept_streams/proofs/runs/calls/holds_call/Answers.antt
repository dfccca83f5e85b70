use Rattle.std.proofs.Common.{◌∙◌, ◌≡◌, ◌≢◌, ◌%◌, ℕ, ap, subst, sym}
use Rattle.rept_path.specs.Code.{by_word, calls_there}
use Rattle.rept_path.specs.Program.{code_of}
use Rattle.rept_streams.proofs.RunsLemmas.Adding.{half_there, no_call, word_there}
use Rattle.rept_streams.proofs.runs.calls.holds_call.Goals as goal

pub returns-then-address-alignment-ne0 : goal.returns-then-address-alignment-ne0
returns-then-address-alignment-ne0 c = no_call (code_of c.args.program.now) c.args.address (subst (λ (n : ℕ). c.args.address % n ≢ 0) c.alignment.ensures.value c.if-address-alignment-ne0.true)

pub returns-in-Some : goal.returns-in-Some
returns-in-Some c =
    let code = code_of c.args.program.now in
    let even = subst (λ (n : ℕ). c.args.address % n ≡ 0) c.alignment.ensures.value c.if-address-alignment-ne0.false in
    c.is_call.ensures ∙ ap calls_there (c.by_half.ensures ∙ half_there code c.args.address c.in-Some.half even (sym c.in-Some.is ∙ c.short_half.ensures))

pub returns-in-None : goal.returns-in-None
returns-in-None c =
    let code = code_of c.args.program.now in
    let even = subst (λ (n : ℕ). c.args.address % n ≡ 0) c.alignment.ensures.value c.if-address-alignment-ne0.false in
    c.is_call-in-None.ensures ∙ ap calls_there (c.by_word.ensures ∙ ap (by_word c.args.address) c.word_of_code.ensures ∙ word_there code c.args.address even (sym c.in-None.is ∙ c.short_half.ensures))
