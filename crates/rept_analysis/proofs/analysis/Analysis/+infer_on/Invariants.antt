use Rattle.rept_analysis.proofs.analysis.Analysis.+infer_on.Given as goal

abbrev pub decreases-infer_on : goal.decreases-infer_on
decreases-infer_on g l = l.most
