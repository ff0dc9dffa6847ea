-- What a feed holds that has an alert.
use Rattle.std.specs.Prelude.{List, Bool, filter, if◌then◌else◌}
use Rattle.std.specs.Cmp.Lexicographic.{slice_cmp}
use Rattle.std.specs.FinMap.{put}
use Rattle.std.specs.Option.{is_some}
use Rattle.std.specs.Ordering.{nat_cmp}
use Rattle.feed_defs.specs.declared.history.Stored.{Stored}
use Rattle.feed_defs.specs.History.{Change}

abbrev pub has_alert : Stored → Bool
has_alert stored = is_some stored.entity.alert

-- those of what a feed holds that have an alert, in their order
abbrev pub alerts_of : List Change → List Change
alerts_of entities = filter (λ change. has_alert change.1) entities

-- the alerts and what a table holds, where it has one
abbrev pub alerts_and : List Change → Stored → List Change
alerts_and alerts stored =
    if has_alert stored then put (slice_cmp nat_cmp) stored.entity.id stored alerts else alerts
