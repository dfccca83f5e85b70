use Rattle.std.proofs.Common.{sym, ◌∙◌}
use Rattle.rept_narrow.proofs.Sentences.{has_met, none_met, has_before}
use Rattle.rept_narrow.proofs.table.Table.narrow.Goals as goal

pub returns-in-None-clause-refuses : goal.returns-in-None-clause-refuses
returns-in-None-clause-refuses c = λ story run h sound le. none_met story c.args.self.now c.args.point c.args.r c.at-old.result c.args.set c.at-old.ensures.value (sym c.meet.ensures ∙ c.in-None.is) run h sound le

pub returns-else-eq-2-clause-keeps : goal.returns-else-eq-2-clause-keeps
returns-else-eq-2-clause-keeps c = λ story run h sound.
    has_met story c.args.self.now c.set.new.self c.args.point c.args.r c.at-old.result c.args.set c.in-Some.met c.at-old.ensures.value (sym c.meet.ensures ∙ c.in-Some.is) c.set.ensures.here c.set.ensures.others run h sound

pub returns-else-eq-2-clause-narrower : goal.returns-else-eq-2-clause-narrower
returns-else-eq-2-clause-narrower c = λ story.
    has_before story c.args.self.now c.set.new.self c.args.point c.args.r c.at-old.result c.args.set c.in-Some.met c.at-old.ensures.value (sym c.meet.ensures ∙ c.in-Some.is) c.set.ensures.here c.set.ensures.others
