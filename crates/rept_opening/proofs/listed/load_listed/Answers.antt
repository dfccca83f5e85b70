use Rattle.std.proofs.Common.{◌≡◌, length, map, Ok, Err, inl, inr, refl, suc, sym, ap, ◌∙◌, arith}
use Rattle.std.specs.Option.{option_map}
use Rattle.rept_elf.specs.Image.{file_of}
use Rattle.rept_maps.specs.Views.{desc_of}
use Rattle.rept_maps.specs.Mapfiles.Kept.{StopsAtFile, asked_names, kept_all, loads_after, most_in_all}
use Rattle.rept_maps.specs.declared.mapfiles.load.LoadStop.TheVariants as stops
use Rattle.rept_ports.specs.Port.{move}
use Rattle.rept_opening.proofs.MappedLemmas.{count_is, err_at, list_at, list_only_at, named_at, over_files, same_count, within_names}
use Rattle.rept_opening.proofs.listed.load_listed.Goals as goal

-- the core file is no image
pub returns-in-Err-clause-stopped : goal.returns-in-Err-clause-stopped
returns-in-Err-clause-stopped g c = inl (inl (c.in-Err.fault, sym c.in-Err.ensures.fault, refl), refl)

pub returns-in-Err-clause-once : goal.returns-in-Err-clause-once
returns-in-Err-clause-once g c = same_count (g.H.FileStore.port c.args.file_store.now).files (g.H.FileStore.port c.args.file_store.now).faults

-- its list is refused
pub returns-in-Err-read-clause-stopped : goal.returns-in-Err-read-clause-stopped
returns-in-Err-read-clause-stopped g c =
    let fault = c.in-Err-read.fault in
    let is = c.in-Ok.ensures.image in
    inl (inr (fault, sym c.in-Ok.ensures.fault, list_at (file_of c.in-Ok.image) c.args.core.now (Err fault) is c.in-Err-read.ensures.said, list_only_at (file_of c.in-Ok.image) c.args.core.now (Err fault) is c.in-Err-read.ensures.only, refl), refl)

pub returns-in-Err-read-clause-once : goal.returns-in-Err-read-clause-once
returns-in-Err-read-clause-once g c = same_count (g.H.FileStore.port c.args.file_store.now).files (g.H.FileStore.port c.args.file_store.now).faults

-- no memory for the names
pub returns-in-Err-asked_names-clause-stopped : goal.returns-in-Err-asked_names-clause-stopped
returns-in-Err-asked_names-clause-stopped g c =
    let desc = desc_of c.in-Ok-read.maps in
    inr (refl, record { desc = desc; listed = list_at (file_of c.in-Ok.image) c.args.core.now (Ok desc) c.in-Ok.ensures.image c.in-Ok-read.ensures.said; count = 0; within = omega arith; loads = refl })

pub returns-in-Err-asked_names-clause-once : goal.returns-in-Err-asked_names-clause-once
returns-in-Err-asked_names-clause-once g c = same_count (g.H.FileStore.port c.args.file_store.now).files (g.H.FileStore.port c.args.file_store.now).faults

-- no memory for a file
pub returns-in-Err-OutOfMemory-clause-stopped : goal.returns-in-Err-OutOfMemory-clause-stopped
returns-in-Err-OutOfMemory-clause-stopped g c =
    let old = g.H.FileStore.port c.args.file_store.now in
    let new = g.H.FileStore.port c.load_names.new.file_store in
    let desc = desc_of c.in-Ok-read.maps in
    let count = count_is (λ n. n.now) c.in-Ok-asked_names.names.items (asked_names desc) c.in-Ok-asked_names.ensures in
    let stop = err_at c.load_names.result c.in-Err-OutOfMemory.field-0 stops.OutOfMemory (λ w. StopsAtFile (length c.as_slice.result.now) w (move old new)) c.in-Err-OutOfMemory.is c.in-Err-OutOfMemory.field-0-is c.load_names.ensures.failed in
    inr (
      refl,
      record {
        desc = desc;
        listed = list_at (file_of c.in-Ok.image) c.args.core.now (Ok desc) c.in-Ok.ensures.image c.in-Ok-read.ensures.said;
        count = stop.0;
        within = within_names stop.0 (length c.as_slice.result.now) (length (asked_names desc)) stop.1 (ap length c.as_slice.ensures.value ∙ count);
        loads = stop.2;
      },
    )

-- the load of a name failed
pub index-requires : goal.index-requires
index-requires g c =
    let old = g.H.FileStore.port c.args.file_store.now in
    let new = g.H.FileStore.port c.load_names.new.file_store in
    let stop = err_at c.load_names.result c.in-Err-Failed.field-0 (stops.Failed c.in-Err-Failed.place) (λ w. StopsAtFile (length c.as_slice.result.now) w (move old new)) c.in-Err-Failed.is c.in-Err-Failed.field-0-is c.load_names.ensures.failed in
    omega (arith, stop.0, ap length c.as_slice.ensures.value)

pub returns-in-Err-Failed-clause-stopped : goal.returns-in-Err-Failed-clause-stopped
returns-in-Err-Failed-clause-stopped g c =
    let old = g.H.FileStore.port c.args.file_store.now in
    let new = g.H.FileStore.port c.load_names.new.file_store in
    let desc = desc_of c.in-Ok-read.maps in
    let place = c.in-Err-Failed.place in
    let names = c.in-Ok-asked_names.names in
    let count = count_is (λ n. n.now) names.items (asked_names desc) c.in-Ok-asked_names.ensures in
    let stop = err_at c.load_names.result c.in-Err-Failed.field-0 (stops.Failed place) (λ w. StopsAtFile (length c.as_slice.result.now) w (move old new)) c.in-Err-Failed.is c.in-Err-Failed.field-0-is c.load_names.ensures.failed in
    let named = rw c.in-Err-Failed.field-0-is at c.index.ensures in
    record {
      accepted = sym c.in-Ok.ensures.fault;
      desc = desc;
      listed = list_at (file_of c.in-Ok.image) c.args.core.now (Ok desc) c.in-Ok.ensures.image c.in-Ok-read.ensures.said;
      place = place;
      within = within_names (suc place) (length c.as_slice.result.now) (length (asked_names desc)) stop.0 (ap length c.as_slice.ensures.value ∙ count);
      named = named_at (λ n. n.now) names.items (asked_names desc) place c.index.result.now c.in-Ok-asked_names.ensures (omega (arith, stop.0, ap length c.as_slice.ensures.value)) named;
      loads = stop.1;
      rose = stop.2;
    }

-- all were loaded
pub returns-clause-loaded : goal.returns-clause-loaded
returns-clause-loaded g c =
    let old = g.H.FileStore.port c.args.file_store.now in
    let desc = desc_of c.in-Ok-read.maps in
    let names = c.in-Ok-asked_names.names in
    let kept = c.in-Ok-load_names.kept in
    let asked = ap (map (λ n. n.now)) c.as_slice.ensures.value ∙ c.in-Ok-asked_names.ensures in
    let count = count_is (λ n. n.now) names.items (asked_names desc) c.in-Ok-asked_names.ensures in
    record {
      image = c.in-Ok.ensures.image;
      accepted = sym c.in-Ok.ensures.fault;
      listed = list_at (file_of c.in-Ok.image) c.args.core.now (Ok desc) c.in-Ok.ensures.image c.in-Ok-read.ensures.said;
      only = list_only_at (file_of c.in-Ok.image) c.args.core.now (Ok desc) c.in-Ok.ensures.image c.in-Ok-read.ensures.only;
      names = c.in-Ok-asked_names.ensures;
      kept = over_files old.files (λ files. map (option_map (λ v. v.items)) kept.items ≡ kept_all files most_in_all (map (λ n. n.now) c.as_slice.result.now)) (λ files. map (option_map (λ v. v.items)) kept.items ≡ kept_all files most_in_all (asked_names desc))
          (λ files held. held ∙ ap (kept_all files most_in_all) asked) c.in-Ok-load_names.ensures.kept;
      loads = c.in-Ok-load_names.ensures.loads ∙ ap (λ n. loads_after n old.loads) (ap length c.as_slice.ensures.value ∙ count);
    }
