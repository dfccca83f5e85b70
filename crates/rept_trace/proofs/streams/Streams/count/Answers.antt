use Rattle.std.proofs.Common.{◌∙◌, sym, ap, length}
use Rattle.rept_trace.specs.Streams.{StreamFile}
use Rattle.rept_trace.proofs.StreamLemmas.{length-streams_in}
use Rattle.rept_trace.proofs.streams.Streams.count.Goals as goal

pub returns : goal.returns
returns c = sym (length-streams_in c.self.inside.count c.self.inside.rest.now) ∙ ap (λ (f : StreamFile). length f.streams) c.self.view_is
