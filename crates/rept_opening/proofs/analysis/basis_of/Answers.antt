use Rattle.rept_steps.specs.Runs.{course_of}
use Rattle.rept_opening.proofs.ReportLemmas.{few_points}
use Rattle.rept_opening.proofs.analysis.basis_of.Goals as goal

pub new-requires-clause-few : goal.new-requires-clause-few
new-requires-clause-few c = few_points (course_of c.args.run.now) c.requires.fits.small
