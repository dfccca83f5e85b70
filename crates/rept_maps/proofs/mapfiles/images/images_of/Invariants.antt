use Rattle.std.proofs.Common.{◌≡◌, ◌+◌, ◌++◌, length, map}
use Rattle.std.specs.Option.{option_map}
use Rattle.rept_elf.specs.Image.{file_of}
use Rattle.rept_maps.specs.FileMap.{map_count}
use Rattle.rept_maps.specs.NamesLeft.{names_left}
use Rattle.rept_maps.specs.Views.{desc_of}
use Rattle.rept_maps.specs.Mapfiles.Kept.{image_at, names_of}
use Rattle.rept_maps.proofs.mapfiles.images.images_of.Given as goal

-- the images of the names so far, and those of the names that are left
abbrev pub invariant-loop-name : goal.invariant-loop-name
invariant-loop-name l =
    let image = image_at (map (λ n. n.now) l.names) (map (option_map (λ v. v.items)) l.kept) in
    (map (option_map file_of) l.images ++ map image (names_left l.left) ≡ map image (names_of (desc_of l.maps)))
    × (length l.images + length (names_left l.left) ≡ map_count (desc_of l.maps))

abbrev pub decreases-loop-name : goal.decreases-loop-name
decreases-loop-name l = length (names_left l.left)
