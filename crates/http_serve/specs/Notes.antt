-- What is kept of the responses that were written.
use Rattle.std.specs.Prelude.{◌<◌, ℕ, List, ◌++◌, vec_len, vec_capacity}
use Rattle.http_serve.specs.declared.notes.Notes.{Notes}
use Rattle.http_serve.specs.Replies.{Reply, moments_of, numbers_of}

-- the numbers and the moments of responses
pub record Noted : Type 0 where
  pub numbers : List ℕ
  pub moments : List ℕ

-- those that are kept
abbrev pub noted_in : Notes → Noted
noted_in notes = record { numbers = notes.numbers.items; moments = notes.moments.items }

-- with those of some responses more
abbrev pub noted : Noted → List Reply → Noted
noted n replies = record {
  numbers = n.numbers ++ numbers_of replies;
  moments = n.moments ++ moments_of replies;
}

-- there is room for one more
pub record HasRoom (notes : Notes) : Type 0 where
  pub numbers : vec_len notes.numbers < vec_capacity notes.numbers
  pub moments : vec_len notes.moments < vec_capacity notes.moments
