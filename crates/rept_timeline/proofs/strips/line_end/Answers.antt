use Rattle.std.proofs.Common.{arith}
use Rattle.rept_moments.specs.Several.{seen_of}
use Rattle.rept_timeline.proofs.strips.line_end.Goals as goal

pub returns-clause-from : goal.returns-clause-from
returns-clause-from c = (c.line.ensures (seen_of c.args.many.now).moments c.requires.lined.each c.requires.inside).to

pub returns-clause-inside : goal.returns-clause-inside
returns-clause-inside c = (c.line.ensures (seen_of c.args.many.now).moments c.requires.lined.each c.requires.inside).inside

pub returns-clause-joined : goal.returns-clause-joined
returns-clause-joined c =
    let its = c.line.ensures (seen_of c.args.many.now).moments c.requires.lined.each c.requires.inside in
    λ k low less. its.joined k (let from = its.from in omega (arith, from, low)) less

pub returns-clause-ends : goal.returns-clause-ends
returns-clause-ends c = (c.line.ensures (seen_of c.args.many.now).moments c.requires.lined.each c.requires.inside).ends
