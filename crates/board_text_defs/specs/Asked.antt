-- The board that is asked for, as contracts see it.
use Rattle.board_text_defs.specs.Answers.{BoardAsked}
use Rattle.board_text_defs.specs.declared.asked.BoardAsked.{BoardAsked as AskedRead}

abbrev pub asked_seen : AskedRead → BoardAsked
asked_seen asked = record {
  schedule = asked.schedule.now;
  stop = asked.stop.now;
  at = asked.at;
  span = asked.span;
  limit = asked.limit;
  json = asked.json;
}
