use Rattle.std.proofs.Common.{◌<◌, ℕ, List, length, subst}
use Rattle.rept_writing.specs.Bounded.{AreInBounds}
use Rattle.rept_writing.proofs.Within.{of_kind_within}
use Rattle.rept_writing.proofs.columns.Columns.bounds.Goals as goal

pub returns : goal.returns
returns c = of_kind_within c.args.list.now c.args.self.now c.bounds_of_all.result c.requires (subst (λ (xs : List ℕ). AreInBounds c.args.list.now xs (λ m. m < length xs) c.bounds_of_all.result) c.as_slice.ensures.value c.bounds_of_all.ensures)
