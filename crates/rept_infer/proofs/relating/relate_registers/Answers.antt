use Rattle.rept_infer.proofs.relating.relate_registers.Goals as goal

pub returns-in-Err-tell-clause-impossible : goal.returns-in-Err-tell-clause-impossible
returns-in-Err-tell-clause-impossible c = λ empty is story e image run h. c.in-Err-tell.ensures.refuses story run e h (c.in-Ok.ensures.valued story run e image h)

pub returns-clause-keeps : goal.returns-clause-keeps
returns-clause-keeps c = λ story e image run h. c.in-Ok-tell.ensures.keeps story run e h (c.in-Ok.ensures.valued story run e image h)
