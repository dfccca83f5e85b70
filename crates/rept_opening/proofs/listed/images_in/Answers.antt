use Rattle.std.proofs.Common.{◌≡◌, IfSome, map, sym, ap, ◌∙◌}
use Rattle.std.proofs.lemmas.Result.{IfOk-weaker}
use Rattle.std.specs.Option.{option_map}
use Rattle.rept_elf.specs.Image.{file_of}
use Rattle.rept_maps.specs.Views.{desc_of}
use Rattle.rept_maps.specs.Mapped.Mapped.{mappings}
use Rattle.rept_maps.specs.Mapfiles.Kept.{asked_names, image_at, kept_all, most_in_all, names_of}
use Rattle.rept_opening.specs.Mapped.{mapped_files}
use Rattle.rept_opening.proofs.MappedLemmas.{over_files, program_is}
use Rattle.rept_opening.proofs.listed.images_in.Goals as goal

pub returns-clause-mapped : goal.returns-clause-mapped
returns-clause-mapped c = λ core file_store is.
    let desc = desc_of c.args.listed.now.maps in
    let names = map (λ n. n.now) c.as_slice.result.now in
    let kept = map (option_map (λ v. v.items)) c.as_slice-2.result.now in
    let asked = ap (map (λ n. n.now)) c.as_slice.ensures.value ∙ is.names in
    IfOk-weaker c.images_of.result (λ images. map (option_map file_of) images ≡ map (image_at names kept) (names_of desc)) (λ images. IfSome file_store.before.files (λ files. mappings desc images ≡ mapped_files files desc))
    (λ images same. over_files file_store.before.files (λ files. map (option_map (λ v. v.items)) c.args.listed.now.kept.items ≡ kept_all files most_in_all (asked_names desc)) (λ files. mappings desc images ≡ mapped_files files desc)
    (λ files held. program_is files desc names kept images asked (ap (map (option_map (λ v. v.items))) c.as_slice-2.ensures.value ∙ held ∙ ap (kept_all files most_in_all) (sym asked)) same) is.kept)
    c.images_of.ensures.images
