use Rattle.std.proofs.Common.{◌≡◌, ◌∙◌, ap, codes, IfOk, Result}
use Rattle.std.specs.Prelude.{MatchResult, Ok, Err}
use Rattle.std.proofs.lemmas.Result.{IfOk-weaker}
use Rattle.clap.specs.Words.{App, app_of, with_subcommand}
use Rattle.clap.specs.declared.builder.command.Command.{Command}
use Rattle.rept_opening.specs.Words.CommandLine.{files_app, maps_app, self_app}
use Rattle.rept_opening.proofs.words.command.rept_command.Goals as goal

-- the program with the command that was made
added : {E : Type 0} (r : Result Command E) (program made : App) (p c : Command) → app_of p ≡ program → IfOk r (λ x. app_of x ≡ made) → MatchResult r (λ x. app_of c ≡ with_subcommand (app_of p) (app_of x).top) (λ _. ⊥)
    → app_of c ≡ with_subcommand program made.top
added (Ok x) program made p c of_program of_made e = e ∙ ap (λ a. with_subcommand (app_of p) a.top) of_made ∙ ap (λ a. with_subcommand a made.top) of_program
added (Err x) program made p c of_program of_made e = absurd e

pub returns : goal.returns
returns c =
    let opens = added c.files_command.result _ (files_app (codes "open")) _ _ c.bare_command.ensures c.files_command.ensures.app c.in_ok-program.ensures in
    let bits = added c.files_command-2.result _ (files_app (codes "bits")) _ _ opens c.files_command-2.ensures.app c.in_ok-program-2.ensures in
    let infers = added c.files_command-3.result _ (files_app (codes "infer")) _ _ bits c.files_command-3.ensures.app c.in_ok-program-3.ensures in
    let maps = added c.maps_command.result _ maps_app _ _ infers c.maps_command.ensures.app c.in_ok-program-4.ensures in
    IfOk-weaker c.with_command-5.result _ _ (λ x e. added c.self_command.result _ self_app _ x maps c.self_command.ensures.app e) c.with_command-5.ensures
