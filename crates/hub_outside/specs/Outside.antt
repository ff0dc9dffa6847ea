-- What a command sees of the outside.
use Rattle.std.specs.Prelude.{ℕ, List, Option}

-- the bytes that an input or an output tells, those that are left or those that were written, and
-- its count of faults
pub record Stream : Type 0 where
  pub told : Option (List ℕ)
  pub faults : ℕ

abbrev pub stream : Option (List ℕ) → ℕ → Stream
stream told faults = record { told = told; faults = faults }

-- the files that are told, each the pair of its path and its bytes, their count of faults, and the
-- path of the call that failed last, where it is told
pub record FileStore : Type 0 where
  pub told : Option (List (List ℕ × List ℕ))
  pub faults : ℕ
  pub fault : Option (List ℕ)

abbrev pub file_store : Option (List (List ℕ × List ℕ)) → ℕ → Option (List ℕ) → FileStore
file_store told faults fault = record { told = told; faults = faults; fault = fault }

-- all of it
pub record Outside : Type 0 where
  pub files : FileStore
  pub input : Stream
  pub output : Stream

abbrev pub outside : FileStore → Stream → Stream → Outside
outside files input output = record { files = files; input = input; output = output }
