use Rattle.std.proofs.Common.{map, string_bytes, ap, ◌∙◌}
use Rattle.std.specs.Result.{result_map_both}
use Rattle.rept_ports.specs.Port.{move}
use Rattle.rept_debug.specs.Process.{process}
use Rattle.rept_debug.proofs.OpenLemmas.{opened}
use Rattle.rept_debug.proofs.process.open.Goals as goal

pub returns-in-Ok-session_words : goal.returns-in-Ok-session_words
returns-in-Ok-session_words g c =
    opened (process (result_map_both (λ v. map string_bytes v.items) (λ e. e) c.args.words) (move (g.H.FileStore.port c.args.file_store.now) (g.H.FileStore.port c.debug.new.file_store)) (move (g.S.Source.port c.args.input.now) (g.S.Source.port c.debug.new.input)) (move (g.K.Sink.port c.args.out.now) (g.K.Sink.port c.debug.new.out)) (move (g.E.Sink.port c.args.errors.now) (g.E.Sink.port c.debug.new.errors)))
    (map string_bytes c.in-Ok.words.items) (map string_bytes c.as_slice.result.now) c.debug.result (ap (result_map_both (λ v. map string_bytes v.items) (λ e. e)) c.in-Ok.is)
    (ap (map string_bytes) c.as_slice.ensures.value ∙ c.in-Ok-session_words.ensures) c.debug.ensures.debugged c.debug.ensures.refused
    c.debug.ensures.greeted c.debug.ensures.noticed
