use Rattle.std.proofs.Common.{refl}
use Rattle.rept_streams.specs.declared.slices.reading.StreamWindow.{StreamWindow}
use Rattle.rept_streams.proofs.SlicesLemmas.KeepLemmas.{is_kept}
use Rattle.rept_streams.proofs.slices.keeping.kept.Goals as goal

pub returns-clause-left : goal.returns-clause-left
returns-clause-left c = λ l is.
    let w = c.args.window.now in
    let new : StreamWindow = record { stream = w.stream; number = w.number; packets = w.packets; count = w.count; begin = c.kept_begin-begin.result } in
    is_kept c.args.time w l is new refl refl refl (c.kept_begin-begin.ensures l is)
