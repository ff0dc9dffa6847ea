-- A hub that stands for any.
use Rattle.std.specs.Prelude.{[]}
use Rattle.logbook.specs.Pages.{Book}
use Rattle.atomic_table.specs.Seated.{TableId}
use Rattle.sched_types.specs.Schedules.{Schedules}
use Rattle.hub_shared.specs.Seats.{Ties}

abbrev pub some_book : Book
some_book = record { number = 0; log_name = 0; cells_name = 0 }

abbrev pub some_table : TableId
some_table = record {
  words = 0;
  slots = 0;
  views_name = 0;
  atom = 0;
  block = 0;
  offset = 0;
  slot_names = [];
}

abbrev pub some_schedules : Schedules
some_schedules = record { plans = []; feeds = [] }

abbrev pub some_hub : Ties
some_hub = record { book = some_book; table = some_table; plans = some_schedules }
