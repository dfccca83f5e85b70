-- The meaning that a request stands for.
use Rattle.rept_opening.specs.Words.Words.{CoreNames, Names, Meaning}
use Rattle.rept_opening.specs.Words.Words.Meaning.{Open, Maps, Made}
use Rattle.rept_opening.specs.declared.words.request.CoreNames.{CoreNames as CoreNamesOf}
use Rattle.rept_opening.specs.declared.words.request.FileNames.{FileNames}
use Rattle.rept_opening.specs.declared.words.request.Request.{Request}
use Rattle.rept_opening.specs.declared.words.request.Request.TheVariants as request

abbrev pub named_by : FileNames → Names
named_by names = record { exe = names.exe.now; core = names.core.now; trace = names.trace.now }

abbrev pub core_named_by : CoreNamesOf → CoreNames
core_named_by names = record { core = names.core.now; trace = names.trace.now }

abbrev pub asked_by : Request → Meaning
asked_by (request.Open domain names from) = Open domain (named_by names) from
asked_by (request.Maps d names from) = Maps d (core_named_by names) from
asked_by (request.Made seed steps) = Made seed steps
