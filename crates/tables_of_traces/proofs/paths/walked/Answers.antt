use Rattle.rept_path.proofs.Whole.{begins, room}
use Rattle.tables_of_traces.proofs.paths.walked.Goals as goal

pub walk_stretch-requires-clause-starts : goal.walk_stretch-requires-clause-starts
walk_stretch-requires-clause-starts c = let f = c.in-Ok.ensures.ok in begins c.args.packets 0 f.0 c.in-Ok.survey c.in-Some.begin f.1 c.in-Some.is

pub walk_stretch-requires-clause-few : goal.walk_stretch-requires-clause-few
walk_stretch-requires-clause-few c = let f = c.in-Ok.ensures.ok in room c.args.packets 0 f.0 c.in-Ok.survey c.in-Some.begin f.1 c.in-Some.is
