use Rattle.rept_opening.specs.Words.Asked.{named_by}
use Rattle.rept_opening.specs.declared.refusal.FileKind.TheVariants.{Trace}
use Rattle.rept_opening.proofs.LoadLemmas.{trace_stops}
use Rattle.rept_opening.proofs.load.load_names.Goals as goal

pub returns-in-Err-load_file-2-clause-refused : goal.returns-in-Err-load_file-2-clause-refused
returns-in-Err-load_file-2-clause-refused g c = (
  Trace,
  trace_stops (g.H.FileStore.port c.args.file_store.now) (g.H.FileStore.port c.load_file.new.file_store) (g.H.FileStore.port c.load_file-2.new.file_store) (g.H.FileStore.port c.load_file-3.new.file_store) (named_by c.args.names) c.in-Ok.exe.items c.in-Ok-load_file.core.items c.in-Err-load_file-2.refusal
      c.in-Ok.ensures.loads.files c.in-Ok-load_file.ensures.loads.files c.in-Ok.ensures.loads.calm c.in-Ok-load_file.ensures.loads.calm
      c.in-Ok.ensures.loads.loads c.in-Ok-load_file.ensures.loads.loads c.in-Err-load_file-2.ensures.loads.loads
      c.in-Ok.ensures.within c.in-Ok.ensures.bytes c.in-Ok-load_file.ensures.within c.in-Ok-load_file.ensures.bytes c.in-Err-load_file-2.ensures.err,
)
