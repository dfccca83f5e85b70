use Rattle.rept_infer.specs.Path.{path_reader, told_in}
use Rattle.rept_found.specs.Inferred.Narrowed.{beyond_of}
use Rattle.rept_found.proofs.InferredLemmas.Lined.{last_beyond}
use Rattle.rept_found.proofs.inferred.overlay.InferredCrashFindings.writer.Goals as goal

pub returns-then-self-clause-last : goal.returns-then-self-clause-last
returns-then-self-clause-last g c = λ thread.
    last_beyond (beyond_of (told_in (path_reader g.K.KnownPath.set g.K.KnownPath.byte g.P.PathPremises.premises) c.args.self.now.inferred) c.args.self.now.taken) (g.F.Findings.shown c.args.self.now.found.now) thread c.args.address (c.writer-told.ensures.last thread)

pub returns-else-self-clause-last : goal.returns-else-self-clause-last
returns-else-self-clause-last g c = λ thread.
    last_beyond (beyond_of (told_in (path_reader g.K.KnownPath.set g.K.KnownPath.byte g.P.PathPremises.premises) c.args.self.now.inferred) c.args.self.now.taken) (g.F.Findings.shown c.args.self.now.found.now) thread c.args.address (c.writer-told.ensures.last thread)
