use Rattle.std.proofs.Common.{◌≡◌, drop}
use Rattle.std.specs.List.{fold}
use Rattle.http_req.specs.Progress.{step}
use Rattle.http_req.proofs.progress.Progress.after.Given as goal

-- the bytes that are left lead from here to where all do
abbrev pub invariant-loop-byte : goal.invariant-loop-byte
invariant-loop-byte l =
    fold step l.progress (drop l.byte-index l.bytes) ≡ fold step l.initial.progress l.bytes
