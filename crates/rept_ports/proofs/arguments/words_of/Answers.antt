use Rattle.std.proofs.Common.{◌≡◌, ℕ, List, drop, Result, Ok, MatchResult, refl, sym, ap, subst, ◌∙◌}
use Rattle.std.proofs.lemmas.Iterator.{items_from_collect}
use Rattle.std.proofs.lemmas.Iterator.Adapters.{YieldsList-from_vec, YieldsList-from_skip}
use Rattle.std.specs.Vec.Iter.{into_iter_items}
use Rattle.rept_ports.proofs.arguments.words_of.Goals as goal

pub returns-in-Ok-collect-clause-words : goal.returns-in-Ok-collect-clause-words
returns-in-Ok-collect-clause-words c =
    let from : c.skip.result.iter ≡ c.in-Ok.arguments = c.skip.ensures.source in
    let all = YieldsList-from_vec (into_iter_items c.in-Ok.arguments) (ap into_iter_items from) (ap (λ x. x.rest.len) from ∙ c.in-Ok.arguments.rest.ok.0) in
    let rest = YieldsList-from_skip 1 all c.skip.ensures.count in
    let words : c.in-Ok-collect.words.items ≡ drop 1 (into_iter_items c.in-Ok.arguments) = items_from_collect {E = ℕ} (Ok c.in-Ok-collect.words) c.in-Ok-collect.ensures.ran rest in
    rw c.in-Ok.is words
