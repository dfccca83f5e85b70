-- The rules of RV32IM keep the laws of rules.
use Rattle.rept_reason.specs.declared.fact.Cell.TheVariants.{Register}
use Rattle.rept_reason.specs.declared.view.inferred.When.TheVariants.{Before}
use Rattle.rept_reason.specs.View.Rules.{AreLawfulRules}
use Rattle.rept_rules.specs.Base.{base_rules}
use Rattle.rept_rules.specs.Laws.Listed.{listed, concluded}
use Rattle.rept_rules.specs.Laws.Sound.{sound_by}
use Rattle.rept_rules.specs.Laws.Own.{own_by, slot_inside_by, slot_once_by}
use Rattle.rept_rules.specs.Laws.NeedLemmas.{good_by, again_by}
use Rattle.rept_rules.specs.Laws.Telling.{needs_told_by}
use Rattle.rept_rules.specs.Laws.WriteLemmas.{covers_by, certain_by, touched_less_by, sure_more_by, told_by}
use Rattle.rept_rules.specs.Laws.More.{fits_by}
use Rattle.rept_rules.specs.Laws.Lengths.{few_conclusions, few_needs_of, few_places_of}

pub base_lawful : AreLawfulRules base_rules
base_lawful = record {
  sound = λ image_end row view before after d lawful step has. sound_by image_end row view before after d step (listed row view d has);
  own = λ row view d lawful has. let o = own_by row view d (listed row view d has) in (o.0, o.1, fits_by row view d has);
  needs_own = λ row view d n lawful has needed. let g = good_by row view d (listed row view d has) n needed in (g.own, (g.value, g.is_known));
  needs_enough = λ row s t d ls lt has agree. concluded row t d (again_by row s t d ls lt agree (listed row s d has));
  needs_told = λ row s t d same. needs_told_by row.instr s t d (λ r read. same Before (Register r) read);
  few_inferred = few_conclusions;
  few_needs = λ row view d. few_needs_of row.instr view d;
  few_places = λ row. few_places_of row.instr;
  slot_inside = λ row view d a lawful has on. slot_inside_by row view d a (listed row view d has) on;
  slot_once = λ row s t d e a b r ls lt has also on_a on_b read same slots. slot_once_by row s t d e a b r (listed row s d has) (listed row t e also) on_a on_b read same slots;
  covers = λ image_end row view before after a lawful step fits writes. covers_by row.instr image_end view before after a step.meets step.state_before step.state_after writes;
  certain = λ image_end row view before after a lawful step fits sure may. certain_by row.instr image_end view before after a lawful step.meets fits sure may;
  touched_less = λ image_end row s t a ls lt more fits may. touched_less_by row.instr image_end s t a more may;
  told = λ image_end row s t a same. told_by row.instr image_end s t a same;
  sure_more = λ row s t ls lt more sure. sure_more_by row.instr s t more sure;
}
