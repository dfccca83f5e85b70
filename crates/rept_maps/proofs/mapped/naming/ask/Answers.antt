use Rattle.std.proofs.Common.{◌≡◌, ◌<◌, arith, refl, ◌∙◌, ap, length, map, slice_get, get_or, Some, None}
use Rattle.std.specs.Option.{option_map}
use Rattle.std.proofs.lemmas.Option.{slice_get_read, slice_get-get_or}
use Rattle.rept_elf.specs.Image.{file_of}
use Rattle.rept_elf.specs.Symbols.{symbol_at, symbol_of}
use Rattle.rept_maps.specs.Mapped.Naming.{own_of}
use Rattle.rept_maps.specs.Mapped.Views.{asked_of}
use Rattle.rept_maps.specs.declared.mapped.naming.FunctionSearch.{FunctionSearch}
use Rattle.rept_maps.proofs.MappedLemmas.NamingLemmas.{as_many, one_asked}
use Rattle.rept_maps.proofs.mapped.naming.ask.Goals as goal

pub loop-i-preserved : goal.loop-i-preserved
loop-i-preserved c =
    let file = file_of c.args.image.now in
    let asked = c.args.asked.now in
    let named = c.in_ok-named.named.items in
    let i = c.loop-i.i in
    let are : map (option_map symbol_of) named ≡ map (symbol_at file) (map own_of (map asked_of asked)) =
    c.in_ok-named.ensures ∙ ap (map (symbol_at file)) (c.as_slice.ensures.value ∙ c.in_ok-owns.ensures) in
    let long = as_many file asked named are in
    let within : i < length named = omega (arith, long, c.loop-i-test.true) in
    let there : slice_get named i ≡ Some c.index.result.now = slice_get_read named (length named) i c.index.result.now refl within c.index.ensures in
    let d : FunctionSearch = record { home = None; found = None } in
    let at : slice_get asked i ≡ Some (get_or asked i d) = slice_get-get_or asked i d c.loop-i-test.true in
    ap (map asked_of) c.in_ok-push.ensures.items ∙ one_asked file c.args.mapping i asked c.loop-i.more.items named (get_or asked i d) c.or_named.result c.index.result.now are at there c.or_named.ensures c.loop-i.invariant
