-- A port of a folder as its callers see it.
use Rattle.std.specs.Prelude.{◌≡◌, ℕ, ◌+◌, ◌-◌, List, Option}
use Rattle.std.specs.Option.{option_map}
use Rattle.feed_port.specs.declared.port.PortAnswer.{PortAnswer}
use Rattle.feed_port.specs.declared.port.PortAnswer.TheVariants.{Message, TooLong, End, Failed}
use Rattle.feed_port.specs.declared.spool.SpoolPort.{SpoolPort}
use Rattle.feed_port.specs.Spools.{files_from, past_last}

abbrev pub spool_files : {F : Type 0} → SpoolPort F → F
spool_files port = port.files

abbrev pub spool_folder : {F : Type 0} → SpoolPort F → List ℕ
spool_folder port = port.path.folder

-- the number of the file that is read next
abbrev pub spool_number : {F : Type 0} → SpoolPort F → ℕ
spool_number port = port.number

-- the messages ahead of a spool that reads that number next
abbrev pub spool_ahead : List ℕ → ℕ → Option (List (List ℕ × List ℕ)) → Option (List (List ℕ))
spool_ahead folder number files =
    option_map (λ fs. files_from fs folder number (past_last - number)) files

-- a file that was there is done with; the end and a failure leave the number
abbrev pub NextNumber : PortAnswer → ℕ → ℕ → Type 0
NextNumber Message before after = after ≡ before + 1
NextNumber (TooLong n) before after = after ≡ before + 1
NextNumber End before after = after ≡ before
NextNumber Failed before after = after ≡ before
