use Rattle.std.proofs.Common.{◌≡◌, inl, inr, List, subst}
use Rattle.rept_trace.specs.declared.packet.Packet.{Packet}
use Rattle.rept_streams.specs.Slices.Lefts.{AreLeft}
use Rattle.rept_streams.specs.Slices.Raw.{streams_of}
use Rattle.rept_streams.specs.Slices.Ending.{begun}
use Rattle.rept_streams.proofs.SlicesLemmas.Ending.{begun_are_left}
use Rattle.rept_streams.proofs.SlicesLemmas.OneSurvey.{same_lists, held_or_refused}
use Rattle.rept_streams.proofs.SlicesLemmas.SurveyLemmas.{hold_each, are_all}
use Rattle.rept_streams.proofs.slices.ending.read_whole.Goals as goal

pub returns-in-Ok-clause-ok : goal.returns-in-Ok-clause-ok
returns-in-Ok-clause-ok c = λ lists h.
    let w = c.in-Ok.ensures.ok in
    let streams = streams_of c.args.streams.now in
    let same : w.0 ≡ lists = same_lists streams w.0 lists (hold_each 0 0 c.args.from streams w.0 c.in-Ok.windows.items w.1) h in
    let left = begun_are_left c.args.from streams w.0 c.in-Ok.windows.items (are_all c.args.from c.args.streams.now w.0 c.in-Ok.windows.items w.1 c.requires.few) in
    subst (λ (ls : List (List Packet)). AreLeft c.in-Ok.windows.items (begun c.args.from ls)) same left

pub returns-in-Err-clause-err : goal.returns-in-Err-clause-err
returns-in-Err-clause-err c =
    let held = c.requires.packets in
    elim c.in-Err.ensures.err [
      | inl none ↦ none
      | inr refused ↦ absurd (held_or_refused 0 (streams_of c.args.streams.now) held.0 refused.0 held.1 refused.1)
    ]
