use Rattle.std.proofs.Common.{◌≡◌, ◌≤◌, [], ◌++◌, length, map, take}
use Rattle.rept_maps.specs.FileMap.{map_count, names}
use Rattle.rept_maps.specs.NamesLeft.{names_left}
use Rattle.rept_maps.specs.Views.{desc_of}
use Rattle.rept_maps.specs.Mapfiles.Kept.{distinct_from}
use Rattle.rept_maps.proofs.mapfiles.names.asked_names.Given as goal

-- the names that differ are those that were found, and what is found among the names that are left
abbrev pub invariant-loop-name : goal.invariant-loop-name
invariant-loop-name l =
    (distinct_from [] (take (map_count (desc_of l.maps)) (names (desc_of l.maps))) ≡ map (λ n. n.now) l.asked.items ++ distinct_from (map (λ n. n.now) l.asked.items) (names_left l.names))
    × (length l.asked.items ≤ 64)

abbrev pub decreases-loop-name : goal.decreases-loop-name
decreases-loop-name l = length (names_left l.names)
