-- Parts of a run.
use Rattle.std.specs.Prelude.{ℕ, ◌<◌, List, [], ◌++◌, codes}
use Rattle.std.specs.Fmt.{decimal}
use Rattle.std.specs.List.{All}
use Rattle.text_defs.specs.Cleaned.{line_feed}
use Rattle.hub_config_defs.specs.declared.conf.ScheduleConf.{ScheduleConf}
use Rattle.hub_gen_defs.specs.Messages.{Offered}
use Rattle.hub_gen_defs.specs.Network.{sample_name}
use Rattle.hub_gen_defs.specs.Run.{sample_conf}

-- how the timetable is loaded, as the schedule of a configuration
abbrev pub sample_schedule : ScheduleConf
sample_schedule = record {
  name = sample_name;
  folder = sample_name;
  zone = sample_conf.zone;
  first = sample_conf.first;
  days = sample_conf.days;
  prefix = [];
}

-- each goes to the first feed or to the second
abbrev pub AreOfTwoFeeds : List Offered → Type 0
AreOfTwoFeeds offers = All (λ offer. offer.feed < 2) offers

-- the line in two parts: what was offered, and what the boards show
abbrev pub offers_text : ℕ → ℕ → ℕ → ℕ → List ℕ
offers_text trips messages accepted refused =
    codes "trips " ++ decimal trips ++ codes " messages " ++ decimal messages
    ++ codes " accepted " ++ decimal accepted ++ codes " refused " ++ decimal refused

abbrev pub boards_text : List ℕ → ℕ → List ℕ → List ℕ
boards_text offers rows delays =
    offers ++ codes " rows " ++ decimal rows ++ codes " delays " ++ delays ++ line_feed
