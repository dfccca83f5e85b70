use Rattle.std.proofs.Common.{◌∙◌, ◌+◌, ◌*◌, sym, ap, arith}
use Rattle.std.specs.Prelude.{Some}
use Rattle.rept_elf.specs.Sections.{section_from}
use Rattle.rept_elf.proofs.SymbolLemmas.{section_fits, slice_get-sections}
use Rattle.rept_elf.proofs.section.section_at.Goals as goal

pub section_from-requires : goal.section_from-requires
section_from-requires c = omega (arith, section_fits c.args.bytes.now c.args.index c.requires.index, c.word.ensures)

pub returns : goal.returns
returns c =
    let bytes = c.args.bytes.now in
    slice_get-sections bytes c.args.index c.requires.index
    ∙ ap Some (sym (c.section_from.ensures ∙ ap (λ offset. section_from bytes (offset + 40 * c.args.index)) c.word.ensures))
