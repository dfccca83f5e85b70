use Rattle.rept_isa.specs.Numbers.{beside}
use Rattle.rept_relate.proofs.Remembering.{cleared_held}
use Rattle.rept_relate.proofs.storing.write_bytes.Goals as goal

pub returns-clause-keeps : goal.returns-clause-keeps
returns-clause-keeps c = λ value s t zero small others valued held.
    let p = c.in_ok-place.ensures.keeps value zero small valued in
    (p.0, cleared_held c.args.words.now.slots.items c.clear.new.slots.items c.in_ok-place.place c.args.width value s t (beside (value c.args.base) c.args.offset) c.clear.ensures.cleared p.1 others held, p.1)
