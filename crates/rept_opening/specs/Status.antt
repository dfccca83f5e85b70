-- The number of a status, as the process ends with it.
use Rattle.std.specs.Prelude.{ℕ}
use Rattle.rept_opening.specs.declared.status.ExitStatus.{ExitStatus}
use Rattle.rept_opening.specs.declared.status.ExitStatus.TheVariants as ends

abbrev pub number_of_status : ExitStatus → ℕ
number_of_status ends.Ok = 0
number_of_status ends.Inconsistent = 1
number_of_status ends.Usage = 2
number_of_status ends.LoadFault = 3
number_of_status ends.NoFile = 4
number_of_status ends.TooLarge = 5
number_of_status ends.Executable = 6
number_of_status ends.Core = 7
number_of_status ends.Trace = 8
number_of_status ends.InputFault = 9
number_of_status ends.OutputFault = 10
number_of_status ends.OutOfMemory = 11
number_of_status ends.TooMuchInput = 12
