-- Configurations of a few lines, computed by the definitions.
use Rattle.std.specs.Prelude.{◌≡◌, ℕ, List, [], ◌∷◌, ◌++◌, refl, codes, Result, Ok, Err}
use Rattle.hub_config_defs.specs.declared.conf.HubConf.{HubConf}
use Rattle.hub_config_defs.specs.declared.conf.PortKind.TheVariants as kind
use Rattle.hub_config_defs.specs.declared.conf.ScheduleConf.{ScheduleConf}
use Rattle.hub_config_defs.specs.declared.fault.ConfFault.{ConfFault}
use Rattle.hub_config_defs.specs.declared.fault.ConfFault.TheVariants as fault
use Rattle.hub_config_defs.specs.declared.fault.ConfWhy.{ConfWhy}
use Rattle.hub_config_defs.specs.declared.fault.ConfWhy.TheVariants.{Unknown, Missing, Bad, Twice, NoName}
use Rattle.hub_config_defs.specs.declared.fault.TableName.{TableName}
use Rattle.hub_config_defs.specs.declared.fault.TableName.TheVariants.{Top, Schedule, Feed}
use Rattle.hub_config_defs.specs.Conf.{conf_of}
use Rattle.hub_config_defs.specs.Lines.{line_of}
use Rattle.hub_config_defs.specs.Values.{host_of, path_of}
use Rattle.hub_config_defs.proofs.OnLiterals.{conf_on_literals}

-- the table of a schedule, with what else it has, and that of a feed
abbrev schedule : List ℕ → List ℕ
schedule more =
    codes "[[schedule]]\nfolder = \"f\"\nzone = \"UTC0\"\nfirst = \"20250329\"\ndays = 3\n" ++ more

abbrev named : List ℕ
named = codes "name = \"a\"\n"

abbrev feed : List ℕ → List ℕ
feed more = codes "[[feed]]\n" ++ more

-- of the first fault its kind of table, its row from 1 on, the key, and what is wrong
abbrev wrong : TableName → ℕ → List ℕ → ConfWhy → Result HubConf ConfFault
wrong table row key why = Err (fault.Bad table row key why)

abbrev first_schedule : ScheduleConf
first_schedule = record {
  name = codes "a";
  folder = codes "f";
  zone = codes "UTC0";
  first = 20250329;
  days = 3;
  prefix = [];
}

-- what stands for keys that are absent
defaults : conf_of (schedule named ++ feed (codes "name = \"b\"\nschedule = \"a\"\n"))
    ≡ Ok (record {
      readers = 2;
      listen = codes "127.0.0.1:8080";
      connections = 0;
      schedules = first_schedule ∷ [];
      feeds = record {
        name = codes "b";
        schedule = 0;
        kind = kind.Nothing;
        place = [];
        max_age = 0;
        every = 10;
        polls = 0;
        tries = 10;
      } ∷ [];
    })
unfolding conf_on_literals
defaults = refl

-- the ends of ranges, and a feed of the second schedule
most : conf_of (codes "readers = 64\nlisten = \"\"\nconnections = 1000000000\n"
    ++ (schedule named
    ++ (codes "[[schedule]]\nname = \"b_9\"\nfolder = \"\"\nzone = \"\"\nfirst = \"29991231\"\ndays = 400\nprefix = \"12345678901234567890123456789012\"\n"
    ++ feed (codes "name = \"a\"\nschedule = \"b_9\"\nkind = \"poll\"\nplace = \"h//x?y\"\nmax_age = 31622400\nevery = 86400\npolls = 1000000000\ntries = 1000\n"))))
    ≡ Ok (record {
      readers = 64;
      listen = [];
      connections = 1000000000;
      schedules = first_schedule ∷ record {
        name = codes "b_9";
        folder = [];
        zone = [];
        first = 29991231;
        days = 400;
        prefix = codes "12345678901234567890123456789012";
      } ∷ [];
      feeds = record {
        name = codes "a";
        schedule = 1;
        kind = kind.Poll;
        place = codes "h//x?y";
        max_age = 31622400;
        every = 86400;
        polls = 1000000000;
        tries = 1000;
      } ∷ [];
    })
unfolding conf_on_literals
most = refl

-- bytes that are no document; a document without a schedule
no_document : (conf_of (codes "readers") ≡ Err fault.Toml)
    × (conf_of (255 ∷ []) ≡ Err fault.Toml)
    × (conf_of [] ≡ wrong Top 0 (codes "schedule") Missing)
unfolding conf_on_literals
no_document = (refl, refl, refl)

-- names that no key has come first, by their bytes, and then keys by their order; a value of
-- another type, and numbers out of range
first_of_a_table : (conf_of (codes "zz = 1\nreaders = 0\nyy = 1\n" ++ schedule named) ≡ wrong Top 0 (codes "yy") Unknown)
    × (conf_of (codes "connections = -1\nlisten = 1\n" ++ schedule named) ≡ wrong Top 0 (codes "listen") Bad)
    × (conf_of (codes "readers = 65\n" ++ schedule named) ≡ wrong Top 0 (codes "readers") Bad)
    × (conf_of (codes "readers = \"2\"\n" ++ schedule named) ≡ wrong Top 0 (codes "readers") Bad)
    × (conf_of (codes "connections = 1000000001\n" ++ schedule named) ≡ wrong Top 0 (codes "connections") Bad)
    × (conf_of (codes "schedule = 1\n") ≡ wrong Top 0 (codes "schedule") Bad)
    × (conf_of (codes "schedule = []\n") ≡ wrong Top 0 (codes "schedule") Bad)
unfolding conf_on_literals
first_of_a_table = (refl, refl, refl, refl, refl, refl, refl)

-- of a schedule: a name of another form, one that comes again, a date that is none, a window that
-- is too long, and a prefix of 33 bytes
schedules_are_judged : (conf_of (schedule []) ≡ wrong Schedule 1 (codes "name") Missing)
    × (conf_of (schedule (codes "name = \"A\"\n")) ≡ wrong Schedule 1 (codes "name") Bad)
    × (conf_of (schedule named ++ schedule named) ≡ wrong Schedule 2 (codes "name") Twice)
    × (conf_of (codes "[[schedule]]\nname = \"a\"\nfolder = \"f\"\nzone = \"UTC0\"\nfirst = \"20250229\"\ndays = 3\n") ≡ wrong Schedule 1 (codes "first") Bad)
    × (conf_of (codes "[[schedule]]\nname = \"a\"\nfolder = \"f\"\nzone = \"UTC0\"\nfirst = \"20250329\"\ndays = 401\n") ≡ wrong Schedule 1 (codes "days") Bad)
    × (conf_of (schedule (named ++ codes "prefix = \"123456789012345678901234567890123\"\n")) ≡ wrong Schedule 1 (codes "prefix") Bad)
unfolding conf_on_literals
schedules_are_judged = (refl, refl, refl, refl, refl, refl)

-- of a feed: a schedule that is not there, another kind of port, a place that can't be polled, and
-- more tries than there may be; a fault of a schedule comes before one of a feed
feeds_are_judged : (conf_of (schedule named ++ feed (codes "name = \"b\"\nschedule = \"c\"\n")) ≡ wrong Feed 1 (codes "schedule") NoName)
    × (conf_of (schedule named ++ feed (codes "name = \"b\"\nschedule = \"a\"\nkind = \"file\"\n")) ≡ wrong Feed 1 (codes "kind") Bad)
    × (conf_of (schedule named ++ feed (codes "name = \"b\"\nschedule = \"a\"\nkind = \"poll\"\nplace = \"/feed\"\n")) ≡ wrong Feed 1 (codes "place") Bad)
    × (conf_of (schedule named ++ feed (codes "name = \"b\"\nschedule = \"a\"\ntries = 1001\n")) ≡ wrong Feed 1 (codes "tries") Bad)
    × (conf_of (schedule named ++ (feed (codes "name = \"b\"\nschedule = \"a\"\n") ++ feed (codes "name = \"b\"\nschedule = \"a\"\n"))) ≡ wrong Feed 2 (codes "name") Twice)
    × (conf_of (schedule [] ++ feed []) ≡ wrong Schedule 1 (codes "name") Missing)
unfolding conf_on_literals
feeds_are_judged = (refl, refl, refl, refl, refl, refl)

-- the line of a fault, in whose key a control character is a space
lines_are_told : (line_of (fault.Bad Schedule 12 (codes "na\nme") Unknown) ≡ codes "hub: config schedule 12 na me unknown")
    × (line_of fault.Toml ≡ codes "hub: config toml")
unfolding conf_on_literals
lines_are_told = (refl, refl)

-- the host and the path of a place: a `/` in front is of the host
places_are_cut : (host_of (codes "h:80/f/g") ≡ codes "h:80") × (path_of (codes "h:80/f/g") ≡ codes "/f/g")
    × (host_of (codes "//f") ≡ codes "/") × (path_of (codes "//f") ≡ codes "/f")
    × (path_of (codes "host") ≡ [])
unfolding conf_on_literals
places_are_cut = (refl, refl, refl, refl, refl)
