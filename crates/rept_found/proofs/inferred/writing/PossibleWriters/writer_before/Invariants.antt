use Rattle.std.proofs.Common.{◌≡◌, ◌≤◌}
use Rattle.rept_infer.specs.Path.{path_reader, told_in}
use Rattle.rept_found.specs.Inferred.Writing.{writer_by}
use Rattle.rept_found.proofs.inferred.writing.PossibleWriters.writer_before.Given as goal

abbrev pub invariant-walk : goal.invariant-walk
invariant-walk g l = record {
  value : writer_by (told_in (path_reader g.K.KnownPath.set g.K.KnownPath.byte g.P.PathPremises.premises) l.self.inferred.now) (g.F.Findings.shown l.self.found.now) l.moment l.address ≡ writer_by (told_in (path_reader g.K.KnownPath.set g.K.KnownPath.byte g.P.PathPremises.premises) l.self.inferred.now) (g.F.Findings.shown l.self.found.now) l.point l.address;
  low : l.point ≤ l.moment;
}

abbrev pub decreases-walk : goal.decreases-walk
decreases-walk g l = l.point
