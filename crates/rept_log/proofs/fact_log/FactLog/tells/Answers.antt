use Rattle.std.proofs.Common.{◌≡◌, List, ap, sym, ◌∙◌, arith}
use Rattle.rept_reason.specs.declared.fact.Fact.{Fact}
use Rattle.rept_reason.specs.declared.fact.Cell.TheVariants.{Register}
use Rattle.rept_reason.specs.Facts.{told, register_fact}
use Rattle.rept_report.specs.Log.{oldest}
use Rattle.rept_report.proofs.Places.{oldest_all}
use Rattle.rept_log.proofs.Indexing.{fact_known}
use Rattle.rept_log.proofs.fact_log.FactLog.tells.Goals as goal

pub returns : goal.returns
returns g c =
    let facts = c.args.self.now.log in
    let all : oldest c.len-len.result facts ≡ facts = oldest_all c.len-len.result facts (omega arith) in
    let is : c.fact_below.result ≡ told facts c.args.point (Register c.args.r) = c.fact_below.ensures.value ∙ ap (λ (fs : List Fact). register_fact (told fs) c.args.point c.args.r) all ∙ fact_known facts c.args.point c.args.r c.requires.named in
    ((λ t. sym is ∙ c.has.ensures.0 t), (λ e. c.has.ensures.1 (is ∙ e)))
