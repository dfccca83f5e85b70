use Rattle.std.proofs.Common.{suc, ◌+◌, length, map, drop, ap, refl, sym, ◌∙◌, arith}
use Rattle.std.proofs.lemmas.Option.{slice_get_read}
use Rattle.std.specs.Option.{option_map}
use Rattle.rept_ports.specs.Causes.{next_count}
use Rattle.rept_maps.specs.Mapfiles.Kept.{kept_all}
use Rattle.rept_maps.proofs.MapfilesLemmas.Keeping.{calm_told, drop_get, kept_told, one_more}
use Rattle.rept_maps.proofs.mapfiles.load.load_within.Goals as goal

pub returns-in-Err-OutOfMemory-clause-failed : goal.returns-in-Err-OutOfMemory-clause-failed
returns-in-Err-OutOfMemory-clause-failed g c = (suc c.loop-place.place, omega (arith, c.loop-place-test.true), c.load_next.ensures.loads ∙ ap next_count c.loop-place.invariant.2)

pub loop-place-preserved : goal.loop-place-preserved
loop-place-preserved g c =
    let old = g.H.FileStore.port c.args.file_store.now in
    let mid = g.H.FileStore.port c.loop-place.file_store in
    let new = g.H.FileStore.port c.load_next.new.file_store in
    let names = map (λ n. n.now) c.args.names.now in
    let k = c.in-Ok.ensures.kept in
    let at = drop_get (λ n. n.now) c.args.names.now c.loop-place.place c.in-Some.name.now (sym (slice_get_read c.args.names.now (length c.args.names.now) c.loop-place.place c.in-Some.name.now refl c.in-Some.ensures.lookup.3.0 c.in-Some.ensures.lookup.1)) in (
      kept_told old.files mid.files (map (option_map (λ v. v.items)) c.loop-place.kept.items) _ c.loop-place.room c.in-Ok.size _ (drop c.loop-place.place names) (drop (c.loop-place.place + 1) names) _ k.0 (λ files. kept_all files c.args.most names)
          c.loop-place.invariant.1 k.1 k.2 c.min-limit.ensures at c.loop-place.invariant.0 k.3,
      c.load_next.ensures.files ∙ c.loop-place.invariant.1,
      c.load_next.ensures.loads ∙ ap next_count c.loop-place.invariant.2 ∙ one_more c.loop-place.place old.loads,
      omega (arith, c.load_next.ensures.later, c.loop-place.invariant.3),
      calm_told old.files mid.files old.faults mid.faults new.faults c.loop-place.invariant.1 c.loop-place.invariant.4 c.in-Ok.ensures.calm,
    )
