-- What is heard of polls that fail.
use Rattle.std.specs.Prelude.{List, [], ◌∷◌, ◌++◌, Option, Some, None}
use Rattle.std.specs.Option.{option_map}
use Rattle.poll_port.specs.declared.faults.PollFault.{PollFault}

-- the faults that were heard of, where they are told, once this one was, if there was one
abbrev pub hears : Option PollFault → Option (List PollFault) → Option (List PollFault)
hears None heard = heard
hears (Some fault) heard = option_map (λ faults. faults ++ fault ∷ []) heard
