use Rattle.rept_opening.specs.Words.Asked.{core_named_by}
use Rattle.rept_opening.specs.declared.refusal.FileKind.TheVariants.{Trace}
use Rattle.rept_opening.proofs.LoadLemmas.{both_loaded, core_trace_stops}
use Rattle.rept_opening.proofs.load.load_core_names.Goals as goal

pub returns-in-Err-load_file-clause-refused : goal.returns-in-Err-load_file-clause-refused
returns-in-Err-load_file-clause-refused g c = (
  Trace,
  core_trace_stops (g.H.FileStore.port c.args.file_store.now) (g.H.FileStore.port c.load_file.new.file_store) (g.H.FileStore.port c.load_file-2.new.file_store) (core_named_by c.args.names) c.in-Ok.core.items c.in-Err-load_file.refusal
      c.in-Ok.ensures.loads.files c.in-Ok.ensures.loads.calm c.in-Ok.ensures.loads.loads c.in-Err-load_file.ensures.loads.loads
      c.in-Ok.ensures.within c.in-Ok.ensures.bytes c.in-Err-load_file.ensures.err,
)

pub returns-in-Ok-load_file-clause-both : goal.returns-in-Ok-load_file-clause-both
returns-in-Ok-load_file-clause-both g c =
    both_loaded (g.H.FileStore.port c.args.file_store.now) (g.H.FileStore.port c.load_file.new.file_store) (g.H.FileStore.port c.load_file-2.new.file_store) (core_named_by c.args.names) c.in-Ok.core.items c.in-Ok-load_file.trace.items
    c.in-Ok.ensures.loads.files c.in-Ok.ensures.loads.loads c.in-Ok-load_file.ensures.loads.loads c.in-Ok.ensures.within c.in-Ok.ensures.bytes c.in-Ok-load_file.ensures.within c.in-Ok-load_file.ensures.bytes
