use Rattle.std.proofs.Common.{◌≡◌, ◌≤◌, ◌++◌, map, drop}
use Rattle.std.specs.Prelude.{IfSome}
use Rattle.std.specs.Option.{option_map}
use Rattle.rept_maps.specs.Mapfiles.Kept.{kept_all, loads_after}
use Rattle.rept_maps.proofs.mapfiles.load.load_within.Given as goal

-- what was kept, and what is kept of the names that are left
abbrev pub invariant-loop-place : goal.invariant-loop-place
invariant-loop-place g l =
    IfSome (g.H.FileStore.port l.fn.file_store).files (λ files. map (option_map (λ v. v.items)) l.kept.items ++ kept_all files l.room (drop l.place (map (λ n. n.now) l.names)) ≡ kept_all files l.most (map (λ n. n.now) l.names))
    × ((g.H.FileStore.port l.file_store).files ≡ (g.H.FileStore.port l.fn.file_store).files)
    × ((g.H.FileStore.port l.file_store).loads ≡ loads_after l.place (g.H.FileStore.port l.fn.file_store).loads)
    × ((g.H.FileStore.port l.fn.file_store).faults ≤ (g.H.FileStore.port l.file_store).faults)
    × IfSome (g.H.FileStore.port l.fn.file_store).files (λ _. (g.H.FileStore.port l.file_store).faults ≡ (g.H.FileStore.port l.fn.file_store).faults)
