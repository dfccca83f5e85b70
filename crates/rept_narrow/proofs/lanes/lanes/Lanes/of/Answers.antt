use Rattle.std.proofs.lemmas.List.Sorted.{All-permutation}
use Rattle.rept_narrow.specs.Lanes.{IsTrueSpan}
use Rattle.rept_narrow.proofs.lanes.lanes.Lanes.of.Goals as goal

pub returns : goal.returns
returns c = λ memory are. All-permutation (IsTrueSpan memory) c.args.spans.items c.sort.new.spans.items c.sort.ensures.same are
