use Rattle.rept_simlog.proofs.HartlogLemmas.Recording.{all_straight}
use Rattle.rept_simlog.proofs.hartlog.recorder.record_entries.Goals as goal

pub trace_of-requires-clause-straight : goal.trace_of-requires-clause-straight
trace_of-requires-clause-straight c = all_straight c.in-Ok.ensures.cut.logged c.in-Ok.stretches c.in-Ok.ensures.cut.cut
