use Rattle.std.proofs.Common.{◌∙◌, ap, codes}
use Rattle.std.proofs.lemmas.Result.{IfOk-weaker}
use Rattle.clap.specs.Words.{with_rule}
use Rattle.rept_opening.specs.Words.CommandLine.{needed, other}
use Rattle.rept_opening.proofs.words.command.files_command.Goals as goal

pub returns-clause-app : goal.returns-clause-app
returns-clause-app c =
    let exe = c.in_ok-command.ensures.app ∙ ap (λ a. with_rule a (needed (codes "exe"))) c.plain_command.ensures.app in
    let core = c.in_ok-command-2.ensures.app ∙ ap (λ a. with_rule a (needed (codes "core"))) exe in
    let trace = c.in_ok-command-3.ensures.app ∙ ap (λ a. with_rule a (needed (codes "trace"))) core in
    IfOk-weaker c.with_other.result _ _ (λ _ e. e ∙ ap (λ a. with_rule a (other (codes "from"))) trace) c.with_other.ensures.app
