use Rattle.rept_analysis.proofs.analysis.Analysis.+carry_by_turns.Given as goal

abbrev pub decreases-carry_by_turns : goal.decreases-carry_by_turns
decreases-carry_by_turns g l = l.most
