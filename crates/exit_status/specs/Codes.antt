-- The number of each exit status.
use Rattle.std.specs.Prelude.{ℕ}
use Rattle.exit_status.specs.declared.status.ExitStatus.{ExitStatus}
use Rattle.exit_status.specs.declared.status.ExitStatus.TheVariants.{Done, Failed, Usage, Refused, Fault, OutputFault, NoMemory, NotAScript, NotFound}

abbrev pub code_of : ExitStatus → ℕ
code_of Done = 0
code_of Failed = 1
code_of Usage = 2
code_of Refused = 3
code_of Fault = 4
code_of OutputFault = 5
code_of NoMemory = 6
code_of NotAScript = 7
code_of NotFound = 8
