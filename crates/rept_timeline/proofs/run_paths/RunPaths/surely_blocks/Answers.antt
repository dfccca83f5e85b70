use Rattle.std.proofs.Common.{sym, subst}
use Rattle.rept_moments.specs.declared.course.NumberedRun.{NumberedRun}
use Rattle.rept_extents.specs.Timelines.{IsSoundIn}
use Rattle.rept_timeline.proofs.Lists.{listed_sound}
use Rattle.rept_timeline.proofs.run_paths.RunPaths.surely_blocks.Goals as goal

pub surely_blocks-requires-clause-sound : goal.surely_blocks-requires-clause-sound
surely_blocks-requires-clause-sound c = subst (λ (d : NumberedRun). ∥ IsSoundIn d ∥₁) (sym c.course.ensures.value) (listed_sound c.args.self.now.ways c.args.self.now.storing c.args.self.now.listed)
