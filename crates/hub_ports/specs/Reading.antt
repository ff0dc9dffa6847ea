-- Files that tell why one can't be read, as their callers see them.
use Rattle.hub_outside.specs.declared.adapters.files.StdFiles.{StdFiles}
use Rattle.hub_ports.specs.declared.reading.ToldFiles.{ToldFiles}

-- the files of the system that are read
abbrev pub files_in : {R E : Type 0} → ToldFiles R E → StdFiles R
files_in told = told.files
