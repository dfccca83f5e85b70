use Rattle.std.proofs.Common.{◌+◌, length, refl, subst}
use Rattle.std.proofs.lemmas.Option.{slice_get_read}
use Rattle.rept_extents.specs.declared.carry.lines.Lines.{Lines}
use Rattle.rept_extents.specs.Carry.Lines.{AreLines, IsIn}
use Rattle.rept_extents.proofs.CarryLemmas.Lining.{line_read}
use Rattle.rept_extents.proofs.carry.lines.Lines.line.Goals as goal

pub returns-in-Many : goal.returns-in-Many
returns-in-Many c = λ moments known few. line_read moments (moments.end + 1) c.args.number c.index.result.now c.in-Many.list.items (subst (λ (l : Lines). AreLines moments l) c.in-Many.is known) (slice_get_read c.in-Many.list.items (length c.in-Many.list.items) c.args.number c.index.result.now refl (subst (λ (l : Lines). IsIn l c.args.number) c.in-Many.is c.requires) c.index.ensures)

pub returns-in-One : goal.returns-in-One
returns-in-One c = λ moments known few. subst (λ (l : Lines). AreLines moments l) c.in-One.is known c.args.number few
