use Rattle.std.proofs.Common.{◌≡◌, ◌∙◌, ◌≤◌, length, arith, rules}
use Rattle.rept_elf.specs.Sections.{e_shnum, section_offset}
use Rattle.rept_elf.proofs.SymbolLemmas.{all_sections}
use Rattle.rept_elf.proofs.section.section_count.Goals as goal

pub returns : goal.returns
returns c =
    let bytes = c.args.bytes.now in
    let count : c.from-count.result ≡ e_shnum bytes = search rules in
    let whole : section_offset bytes (e_shnum bytes) ≤ length bytes = omega (arith, c.if-word-count.false, c.word.ensures, count) in
    count ∙ all_sections bytes whole
