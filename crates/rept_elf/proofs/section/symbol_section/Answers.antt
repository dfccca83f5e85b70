use Rattle.std.proofs.Common.{◌≡◌, ◌∙◌, sym, true, false, rules}
use Rattle.rept_elf.specs.Sections.{sections, is_symbol_table}
use Rattle.rept_elf.specs.SectionParts.{section_of}
use Rattle.rept_elf.proofs.SymbolLemmas.{find_hit, find_miss}
use Rattle.rept_elf.proofs.section.symbol_section.Goals as goal

pub returns-then-section-eq-SHT_SYMTAB : goal.returns-then-section-eq-SHT_SYMTAB
returns-then-section-eq-SHT_SYMTAB c =
    let hit : is_symbol_table (section_of c.section_at-section.result) ≡ true = search rules in
    sym (c.loop-index.invariant ∙ find_hit is_symbol_table (sections c.args.bytes.now) c.loop-index.index (section_of c.section_at-section.result) c.section_at-section.ensures hit)

pub loop-index-preserved : goal.loop-index-preserved
loop-index-preserved c =
    let miss : is_symbol_table (section_of c.section_at-section.result) ≡ false = search rules in
    c.loop-index.invariant ∙ find_miss is_symbol_table (sections c.args.bytes.now) c.loop-index.index (section_of c.section_at-section.result) c.section_at-section.ensures miss
