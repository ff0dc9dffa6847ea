-- Where the end of a head may have come: behind an empty line that stands behind others.
use Rattle.std.specs.Prelude.{ℕ, Bool, true, false, ◌==◌, ◌||◌, if◌then◌else◌, List}
use Rattle.std.specs.List.{fold}
use Rattle.http_req.specs.declared.progress.Progress.{Progress}
use Rattle.http_req.specs.declared.progress.Progress.TheVariants.{BeforeHead, InLine, AtLineStart, MayHaveEnded}

-- where a head stands after one more byte
abbrev pub step : Progress → ℕ → Progress
step BeforeHead b = if (b == 13) || (b == 10) then BeforeHead else InLine
step InLine b = if b == 10 then AtLineStart else InLine
step AtLineStart b = if b == 10 then MayHaveEnded else (if b == 13 then AtLineStart else InLine)
step MayHaveEnded b = MayHaveEnded

-- where a head stands after these bytes
abbrev pub progress_of : List ℕ → Progress
progress_of bytes = fold step BeforeHead bytes

-- whether the head may have ended
abbrev pub has_ended : Progress → Bool
has_ended BeforeHead = false
has_ended InLine = false
has_ended AtLineStart = false
has_ended MayHaveEnded = true
