use Rattle.std.proofs.Common.{◌≤◌, ◌∙◌, ap, arith, length, map}
use Rattle.std.proofs.lemmas.List.{take_all}
use Rattle.rept_elf.specs.SectionParts.{tables_of}
use Rattle.rept_elf.proofs.NamingLemmas.{name_of, named_all}
use Rattle.rept_elf.proofs.naming.symbols_in.Goals as goal

pub returns : goal.returns
returns c =
    let tables = tables_of c.args.tables.now in
    let items = c.deref-sought-items.result.now in
    let all : length items ≤ c.loop-sought.sought-index = omega (arith, c.loop-sought-test.false, c.deref-sought-items.ensures.len) in
    c.loop-sought.invariant ∙ ap (map (name_of tables.names)) (take_all c.loop-sought.sought-index items all) ∙ ap (map (name_of tables.names)) c.deref-sought-items.ensures.value
    ∙ named_all tables c.args.addresses.now c.in_ok-asked.asked.items c.in_ok-asked.ensures
