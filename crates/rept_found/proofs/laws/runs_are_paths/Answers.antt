use Rattle.rept_found.specs.Crash.{means}
use Rattle.rept_found.proofs.Alone.{alone_setting, alone_shown}
use Rattle.rept_found.proofs.laws.runs_are_paths.Goals as goal

pub returns-clause-setting : goal.returns-clause-setting
returns-clause-setting g c = λ crash C rows e some. alone_setting (means g.W.Partial.sets g.W.Transfer.moves g.R.RowRules.rules) rows crash C e some

pub returns-clause-shown : goal.returns-clause-shown
returns-clause-shown g c = λ crash C rows K scene e some. alone_shown (means g.W.Partial.sets g.W.Transfer.moves g.R.RowRules.rules) rows crash C K scene e some
