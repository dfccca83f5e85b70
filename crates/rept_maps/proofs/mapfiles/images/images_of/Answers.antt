use Rattle.std.proofs.Common.{map}
use Rattle.std.specs.Option.{option_map}
use Rattle.rept_elf.specs.Image.{file_of}
use Rattle.rept_maps.specs.NamesLeft.{names_left}
use Rattle.rept_maps.specs.Mapfiles.Kept.{image_at}
use Rattle.rept_maps.proofs.MapfilesLemmas.Distinct.{images_count, images_next}
use Rattle.rept_maps.proofs.mapfiles.images.images_of.Goals as goal

pub loop-name-preserved : goal.loop-name-preserved
loop-name-preserved c =
    let image = image_at (map (λ n. n.now) c.args.names.now) (map (option_map (λ v. v.items)) c.args.kept.now) in (
      images_next (option_map file_of) image c.loop-name.images c.add.new.self c.image_of-image.result (names_left c.loop-name.left) (names_left c.next.new.self) c.in-Some.name.now _ c.in_ok-add.ensures c.in-Some.ensures c.image_of-image.ensures c.loop-name.invariant.0,
      images_count c.loop-name.images c.add.new.self c.image_of-image.result (names_left c.loop-name.left) (names_left c.next.new.self) c.in-Some.name.now _ c.in_ok-add.ensures c.in-Some.ensures c.loop-name.invariant.1,
    )
