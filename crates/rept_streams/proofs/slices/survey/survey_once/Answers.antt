use Rattle.std.proofs.Common.{◌∙◌, List, ap, arith, inr, refl, Some, None}
use Rattle.std.specs.List.{sum_by}
use Rattle.rept_streams.specs.Slices.Entries.{AreEntriesOf}
use Rattle.rept_streams.specs.Slices.Lefts.{AreLeft}
use Rattle.rept_streams.specs.Slices.Parts.{slices_told}
use Rattle.rept_streams.specs.Slices.Raw.{streams_of}
use Rattle.rept_streams.specs.Slices.Skipping.{windows, kept}
use Rattle.rept_streams.specs.Slices.Windows.{AreAll}
use Rattle.rept_streams.specs.declared.slices.reading.StreamWindow.{StreamWindow}
use Rattle.rept_streams.proofs.SlicesLemmas.WindowLemmas.{all_counted, skipped_is}
use Rattle.rept_streams.proofs.SlicesLemmas.SurveyLemmas.{hold_each, are_all, checks_found, checks_last}
use Rattle.rept_streams.proofs.slices.survey.survey_once.Goals as goal

pub refused_before-requires : goal.refused_before-requires
refused_before-requires c =
    let w = c.in_ok-windows.ensures.ok in
    let a : AreAll c.args.from (streams_of c.args.streams.now) w.0 c.deref.result.now = rw c.deref.ensures.value (are_all c.args.from c.args.streams.now w.0 c.in_ok-windows.windows.items w.1 c.requires) in
    (c.args.from, streams_of c.args.streams.now, w.0, a)

pub returns-in-Some-clause-err : goal.returns-in-Some-clause-err
returns-in-Some-clause-err c =
    let w = c.in_ok-windows.ensures.ok in
    let a : AreAll c.args.from (streams_of c.args.streams.now) w.0 c.deref.result.now = rw c.deref.ensures.value (are_all c.args.from c.args.streams.now w.0 c.in_ok-windows.windows.items w.1 c.requires) in
    inr (inr (w.0, hold_each 0 0 c.args.from (streams_of c.args.streams.now) w.0 c.in_ok-windows.windows.items w.1, checks_found c.args.from c.args.processes.now w.0 c.in-Some.fault (c.in-Some.ensures.refusal c.args.from (streams_of c.args.streams.now) w.0 a)))

pub tell_slices-requires-clause-left : goal.tell_slices-requires-clause-left
tell_slices-requires-clause-left c =
    let w = c.in_ok-windows.ensures.ok in
    let a : AreAll c.args.from (streams_of c.args.streams.now) w.0 c.deref.result.now = rw c.deref.ensures.value (are_all c.args.from c.args.streams.now w.0 c.in_ok-windows.windows.items w.1 c.requires) in
    let l = rw c.deref.ensures.value at (c.in_default.ensures.left c.args.from (streams_of c.args.streams.now) w.0 a refl) in
    (windows c.args.from w.0, rw c.deref-2.ensures.value l)

pub tell_slices-requires-clause-few : goal.tell_slices-requires-clause-few
tell_slices-requires-clause-few c =
    let w = c.in_ok-windows.ensures.ok in
    let counted = all_counted 0 0 c.args.from (streams_of c.args.streams.now) w.0 c.in_ok-windows.windows.items w.1 in
    let few = (are_all c.args.from c.args.streams.now w.0 c.in_ok-windows.windows.items w.1 c.requires).few in
    let seen = ap (λ (ws : List StreamWindow). sum_by (λ (v : StreamWindow). v.count) ws) c.deref-2.ensures.value in
    omega (arith, counted, few, seen)

pub returns-in-Some-refused_by_threads-clause-err : goal.returns-in-Some-refused_by_threads-clause-err
returns-in-Some-refused_by_threads-clause-err c =
    let w = c.in_ok-windows.ensures.ok in
    let a : AreAll c.args.from (streams_of c.args.streams.now) w.0 c.deref.result.now = rw c.deref.ensures.value (are_all c.args.from c.args.streams.now w.0 c.in_ok-windows.windows.items w.1 c.requires) in
    let l = rw c.deref.ensures.value at (c.in_default.ensures.left c.args.from (streams_of c.args.streams.now) w.0 a refl) in
    let seen : AreLeft c.deref-2.result.now (windows c.args.from w.0) = rw c.deref-2.ensures.value l in
    let t = c.in_ok-told.ensures.ok (windows c.args.from w.0) seen in
    let slices : AreEntriesOf c.deref-3.result.now (slices_told (kept c.args.from w.0)) = rw c.deref-3.ensures.value t.3 in
    inr (inr (
      w.0,
      hold_each 0 0 c.args.from (streams_of c.args.streams.now) w.0 c.in_ok-windows.windows.items w.1,
      checks_last c.args.from c.args.processes.now w.0 (Some c.in-Some-refused_by_threads.fault) (c.in_default.ensures.refusal c.args.from (streams_of c.args.streams.now) w.0 a) (c.in-Some-refused_by_threads.ensures (slices_told (kept c.args.from w.0)) slices),
    ))

pub returns-clause-ok : goal.returns-clause-ok
returns-clause-ok c =
    let w = c.in_ok-windows.ensures.ok in
    let a : AreAll c.args.from (streams_of c.args.streams.now) w.0 c.deref.result.now = rw c.deref.ensures.value (are_all c.args.from c.args.streams.now w.0 c.in_ok-windows.windows.items w.1 c.requires) in
    let l = rw c.deref.ensures.value at (c.in_default.ensures.left c.args.from (streams_of c.args.streams.now) w.0 a refl) in
    let seen : AreLeft c.deref-2.result.now (windows c.args.from w.0) = rw c.deref-2.ensures.value l in
    let t = c.in_ok-told.ensures.ok (windows c.args.from w.0) seen in
    let slices : AreEntriesOf c.deref-3.result.now (slices_told (kept c.args.from w.0)) = rw c.deref-3.ensures.value t.3 in
    let counted = all_counted 0 0 c.args.from (streams_of c.args.streams.now) w.0 c.in_ok-windows.windows.items w.1 in
    let seen_all = ap (λ (ws : List StreamWindow). sum_by (λ (v : StreamWindow). v.count) ws) c.deref-2.ensures.value in
    let packets = c.in_ok-told.ensures.packets in
    let skips = c.in_ok-told.ensures.skipped (windows c.args.from w.0) seen in (
      w.0,
      (hold_each 0 0 c.args.from (streams_of c.args.streams.now) w.0 c.in_ok-windows.windows.items w.1, checks_last c.args.from c.args.processes.now w.0 None (c.in_default.ensures.refusal c.args.from (streams_of c.args.streams.now) w.0 a) (c.in_default-refused_by_threads.ensures (slices_told (kept c.args.from w.0)) slices)),
      record {
        windows = t.0;
        time = t.1;
        several = t.2;
        slices = t.3;
        packets = packets ∙ seen_all ∙ counted;
        skipped = skipped_is c.args.from w.0 c.in_ok-told.told.skipped (sum_by (λ (v : StreamWindow). v.count) c.deref-2.result.now) skips (seen_all ∙ counted);
      },
    )
