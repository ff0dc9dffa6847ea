use Rattle.std.proofs.Common.{◌==◌, [], ◌∷◌, ◌++◌, Ok, Err, refl, ap, ◌∙◌}
use Rattle.http_serve.specs.declared.replying.Unwritten.TheVariants.{Cut, Starved}
use Rattle.http_defs.specs.Requests.{last_place}
use Rattle.http_serve.specs.Setting.{setting}
use Rattle.http_serve.specs.Replies.{none_begun}
use Rattle.http_serve.specs.Notes.{Noted, noted_in}
use Rattle.http_serve.proofs.Chains.{answers_none}
use Rattle.http_serve.proofs.Ends.{starved_at_rest}
use Rattle.http_serve.proofs.KeptViews.{look_one}
use Rattle.http_serve.proofs.OneReply.{looks_and_reads, kept_is, kept_or_not, view_answers, released, look_starved, response_starved, response_cut, response_whole}
use Rattle.http_serve.proofs.replying.reply.Goals as goal

pub respond-made-requires-clause-one_history : goal.respond-made-requires-clause-one_history
respond-made-requires-clause-one_history g c =
    look_one (g.O.Oracle.plans c.args.oracle.now) (g.O.Oracle.plans c.look.new.self) (g.O.Oracle.history c.args.oracle.now) (g.O.Oracle.history c.look.new.self)
    (g.O.Oracle.shown c.look.new.self) c.view.result.now c.args.kept.now c.in-Ok-look.ensures.looked.goes_on c.look.ensures.rising
    c.in-Ok-look.ensures.looked.found.1 c.view.ensures.view c.view.ensures.plans c.look.ensures.plans c.requires

pub returns-in_default-clause-replies : goal.returns-in_default-clause-replies
returns-in_default-clause-replies g c = (none_begun, starved_at_rest (g.O.Oracle.history c.args.oracle.now), answers_none c.args.place _, c.make_room.ensures.same)

pub returns-in_default-look-clause-replies : goal.returns-in_default-look-clause-replies
returns-in_default-look-clause-replies g c =
    let starved = look_starved c.args.place (g.K.Sink.written c.args.sink.now) (g.K.Sink.faults c.args.sink.now) (g.C.Clock.ahead c.args.clock.now)
    (g.O.Oracle.plans c.args.oracle.now) (g.O.Oracle.plans c.look.new.self) (g.O.Oracle.history c.args.oracle.now) (g.O.Oracle.history c.look.new.self)
    (g.O.Oracle.shown c.args.oracle.now) (g.O.Oracle.shown c.look.new.self) (g.O.Oracle.reads c.args.oracle.now) (g.O.Oracle.reads c.look.new.self)
    (g.O.Oracle.steady c.args.oracle.now) (g.O.Oracle.steady c.look.new.self) c.args.kept.now c.in_default-look.field-0
    c.in_default-look.ensures.looked c.look.ensures.plans c.look.ensures.steady
    in
    (starved.0, starved.1, starved.2, c.make_room.ensures.same)

pub returns-in_default-made-clause-replies : goal.returns-in_default-made-clause-replies
returns-in_default-made-clause-replies g c =
    let starved = response_starved c.args.place (setting (g.K.Sink.written c.args.sink.now) (g.K.Sink.faults c.args.sink.now) (g.C.Clock.ahead c.args.clock.now) (g.O.Oracle.plans c.args.oracle.now) (g.O.Oracle.history c.args.oracle.now) (g.O.Oracle.reads c.args.oracle.now) (g.O.Oracle.steady c.args.oracle.now) c.args.kept.now)
    (setting (g.K.Sink.written c.args.sink.now) (g.K.Sink.faults c.args.sink.now) (g.C.Clock.ahead c.now-moment.new.self) (g.O.Oracle.plans c.look.new.self) (g.O.Oracle.history c.look.new.self) (g.O.Oracle.reads c.look.new.self) (g.O.Oracle.steady c.look.new.self) c.respond-made.new.kept) c.in-Ok-look.number c.now-moment.result
    (looks_and_reads (g.K.Sink.written c.args.sink.now) (g.K.Sink.written c.args.sink.now) (g.K.Sink.faults c.args.sink.now) (g.K.Sink.faults c.args.sink.now)
    (g.C.Clock.ahead c.args.clock.now) (g.C.Clock.ahead c.now-moment.new.self) (g.O.Oracle.plans c.args.oracle.now) (g.O.Oracle.plans c.look.new.self)
    (g.O.Oracle.history c.args.oracle.now) (g.O.Oracle.history c.look.new.self) (g.O.Oracle.shown c.args.oracle.now) (g.O.Oracle.shown c.look.new.self)
    (g.O.Oracle.reads c.args.oracle.now) (g.O.Oracle.reads c.look.new.self) (g.O.Oracle.steady c.args.oracle.now) (g.O.Oracle.steady c.look.new.self) c.args.kept.now c.respond-made.new.kept
    c.in-Ok-look.number c.now-moment.result c.in-Ok-look.ensures.looked c.look.ensures.plans c.look.ensures.steady c.now-moment.ensures.reading c.now-moment.ensures.ahead)
    refl refl
    (kept_or_not (g.O.Oracle.plans c.args.oracle.now) (g.O.Oracle.history c.look.new.self) (g.O.Oracle.shown c.look.new.self) c.view.result.now
    c.in-Ok-look.number c.args.kept.now c.respond-made.new.kept c.in-Ok-look.ensures.looked.found.1 c.view.ensures.view (c.view.ensures.plans ∙ c.look.ensures.plans) c.in-Ok-look.ensures.looked.found.0 c.in_default-made.ensures.keeps)
    in
    released c.args.place (setting (g.K.Sink.written c.args.sink.now) (g.K.Sink.faults c.args.sink.now) (g.C.Clock.ahead c.args.clock.now) (g.O.Oracle.plans c.args.oracle.now) (g.O.Oracle.history c.args.oracle.now) (g.O.Oracle.reads c.args.oracle.now) (g.O.Oracle.steady c.args.oracle.now) c.args.kept.now)
    (g.K.Sink.written c.args.sink.now) (g.K.Sink.faults c.args.sink.now) (g.C.Clock.ahead c.now-moment.new.self) (g.O.Oracle.plans c.look.new.self) (g.O.Oracle.plans c.release.new.self)
    (g.O.Oracle.history c.look.new.self) (g.O.Oracle.history c.release.new.self) (g.O.Oracle.reads c.look.new.self) (g.O.Oracle.reads c.release.new.self)
    (g.O.Oracle.steady c.look.new.self) (g.O.Oracle.steady c.release.new.self) c.respond-made.new.kept c.args.item.now (noted_in c.args.notes.now) (noted_in c.make_room.new.self) (Err Starved)
    c.release.ensures.plans c.release.ensures.history c.release.ensures.reads c.release.ensures.steady
    (starved.0, starved.1, starved.2, c.make_room.ensures.same)

pub returns-in_default-write_all-clause-replies : goal.returns-in_default-write_all-clause-replies
returns-in_default-write_all-clause-replies g c =
    let cut = response_cut c.args.place (setting (g.K.Sink.written c.args.sink.now) (g.K.Sink.faults c.args.sink.now) (g.C.Clock.ahead c.args.clock.now) (g.O.Oracle.plans c.args.oracle.now) (g.O.Oracle.history c.args.oracle.now) (g.O.Oracle.reads c.args.oracle.now) (g.O.Oracle.steady c.args.oracle.now) c.args.kept.now)
    (setting (g.K.Sink.written c.write_all.new.out) (g.K.Sink.faults c.write_all.new.out) (g.C.Clock.ahead c.now-moment.new.self) (g.O.Oracle.plans c.look.new.self) (g.O.Oracle.history c.look.new.self) (g.O.Oracle.reads c.look.new.self) (g.O.Oracle.steady c.look.new.self) c.respond-made.new.kept) c.in-Ok-look.number c.now-moment.result c.args.item.now c.bytes_from.result.now
    (looks_and_reads (g.K.Sink.written c.args.sink.now) (g.K.Sink.written c.write_all.new.out) (g.K.Sink.faults c.args.sink.now) (g.K.Sink.faults c.write_all.new.out)
    (g.C.Clock.ahead c.args.clock.now) (g.C.Clock.ahead c.now-moment.new.self) (g.O.Oracle.plans c.args.oracle.now) (g.O.Oracle.plans c.look.new.self)
    (g.O.Oracle.history c.args.oracle.now) (g.O.Oracle.history c.look.new.self) (g.O.Oracle.shown c.args.oracle.now) (g.O.Oracle.shown c.look.new.self)
    (g.O.Oracle.reads c.args.oracle.now) (g.O.Oracle.reads c.look.new.self) (g.O.Oracle.steady c.args.oracle.now) (g.O.Oracle.steady c.look.new.self) c.args.kept.now c.respond-made.new.kept
    c.in-Ok-look.number c.now-moment.result c.in-Ok-look.ensures.looked c.look.ensures.plans c.look.ensures.steady c.now-moment.ensures.reading c.now-moment.ensures.ahead)
    (view_answers (g.O.Oracle.plans c.args.oracle.now) (g.O.Oracle.history c.look.new.self) (g.O.Oracle.shown c.look.new.self) c.view.result.now
    c.args.place c.now-moment.result c.in-Ok-look.number c.args.item.now (c.args.place == last_place) c.args.kept.now c.respond-made.new.kept c.bytes_from.result.now
    c.in-Ok-look.ensures.looked.found.1 c.view.ensures.view (c.view.ensures.plans ∙ c.look.ensures.plans) c.in-Ok-look.ensures.looked.found.0
    refl c.in-Ok-made.ensures.keeps (c.bytes_from.ensures ∙ c.in-Ok-made.ensures.made))
    c.in_default-write_all.ensures.bytes c.in_default-write_all.ensures.cause.1
    (kept_is (g.O.Oracle.plans c.args.oracle.now) (g.O.Oracle.history c.look.new.self) (g.O.Oracle.shown c.look.new.self) c.view.result.now
    c.in-Ok-look.number c.args.kept.now c.respond-made.new.kept c.in-Ok-look.ensures.looked.found.1 c.view.ensures.view (c.view.ensures.plans ∙ c.look.ensures.plans) c.in-Ok-look.ensures.looked.found.0 c.in-Ok-made.ensures.keeps)
    in
    released c.args.place (setting (g.K.Sink.written c.args.sink.now) (g.K.Sink.faults c.args.sink.now) (g.C.Clock.ahead c.args.clock.now) (g.O.Oracle.plans c.args.oracle.now) (g.O.Oracle.history c.args.oracle.now) (g.O.Oracle.reads c.args.oracle.now) (g.O.Oracle.steady c.args.oracle.now) c.args.kept.now)
    (g.K.Sink.written c.write_all.new.out) (g.K.Sink.faults c.write_all.new.out) (g.C.Clock.ahead c.now-moment.new.self) (g.O.Oracle.plans c.look.new.self) (g.O.Oracle.plans c.release.new.self)
    (g.O.Oracle.history c.look.new.self) (g.O.Oracle.history c.release.new.self) (g.O.Oracle.reads c.look.new.self) (g.O.Oracle.reads c.release.new.self)
    (g.O.Oracle.steady c.look.new.self) (g.O.Oracle.steady c.release.new.self) c.respond-made.new.kept c.args.item.now (noted_in c.args.notes.now) (noted_in c.make_room.new.self) (Err Cut)
    c.release.ensures.plans c.release.ensures.history c.release.ensures.reads c.release.ensures.steady
    (cut.0, cut.1, cut.2, c.make_room.ensures.same)

pub returns-clause-replies : goal.returns-clause-replies
returns-clause-replies g c =
    released c.args.place (setting (g.K.Sink.written c.args.sink.now) (g.K.Sink.faults c.args.sink.now) (g.C.Clock.ahead c.args.clock.now) (g.O.Oracle.plans c.args.oracle.now) (g.O.Oracle.history c.args.oracle.now) (g.O.Oracle.reads c.args.oracle.now) (g.O.Oracle.steady c.args.oracle.now) c.args.kept.now)
    (g.K.Sink.written c.write_all.new.out) (g.K.Sink.faults c.write_all.new.out) (g.C.Clock.ahead c.now-moment.new.self) (g.O.Oracle.plans c.look.new.self) (g.O.Oracle.plans c.release.new.self)
    (g.O.Oracle.history c.look.new.self) (g.O.Oracle.history c.release.new.self) (g.O.Oracle.reads c.look.new.self) (g.O.Oracle.reads c.release.new.self)
    (g.O.Oracle.steady c.look.new.self) (g.O.Oracle.steady c.release.new.self) c.respond-made.new.kept c.args.item.now (noted_in c.args.notes.now) (noted_in c.note.new.self) (Ok _)
    c.release.ensures.plans c.release.ensures.history c.release.ensures.reads c.release.ensures.steady
    (response_whole c.args.place (setting (g.K.Sink.written c.args.sink.now) (g.K.Sink.faults c.args.sink.now) (g.C.Clock.ahead c.args.clock.now) (g.O.Oracle.plans c.args.oracle.now) (g.O.Oracle.history c.args.oracle.now) (g.O.Oracle.reads c.args.oracle.now) (g.O.Oracle.steady c.args.oracle.now) c.args.kept.now)
    (setting (g.K.Sink.written c.write_all.new.out) (g.K.Sink.faults c.write_all.new.out) (g.C.Clock.ahead c.now-moment.new.self) (g.O.Oracle.plans c.look.new.self) (g.O.Oracle.history c.look.new.self) (g.O.Oracle.reads c.look.new.self) (g.O.Oracle.steady c.look.new.self) c.respond-made.new.kept) c.in-Ok-look.number c.now-moment.result c.args.item.now c.bytes_from.result.now
    (noted_in c.args.notes.now) (noted_in c.note.new.self)
    (looks_and_reads (g.K.Sink.written c.args.sink.now) (g.K.Sink.written c.write_all.new.out) (g.K.Sink.faults c.args.sink.now) (g.K.Sink.faults c.write_all.new.out)
    (g.C.Clock.ahead c.args.clock.now) (g.C.Clock.ahead c.now-moment.new.self) (g.O.Oracle.plans c.args.oracle.now) (g.O.Oracle.plans c.look.new.self)
    (g.O.Oracle.history c.args.oracle.now) (g.O.Oracle.history c.look.new.self) (g.O.Oracle.shown c.args.oracle.now) (g.O.Oracle.shown c.look.new.self)
    (g.O.Oracle.reads c.args.oracle.now) (g.O.Oracle.reads c.look.new.self) (g.O.Oracle.steady c.args.oracle.now) (g.O.Oracle.steady c.look.new.self) c.args.kept.now c.respond-made.new.kept
    c.in-Ok-look.number c.now-moment.result c.in-Ok-look.ensures.looked c.look.ensures.plans c.look.ensures.steady c.now-moment.ensures.reading c.now-moment.ensures.ahead)
    (view_answers (g.O.Oracle.plans c.args.oracle.now) (g.O.Oracle.history c.look.new.self) (g.O.Oracle.shown c.look.new.self) c.view.result.now
    c.args.place c.now-moment.result c.in-Ok-look.number c.args.item.now (c.args.place == last_place) c.args.kept.now c.respond-made.new.kept c.bytes_from.result.now
    c.in-Ok-look.ensures.looked.found.1 c.view.ensures.view (c.view.ensures.plans ∙ c.look.ensures.plans) c.in-Ok-look.ensures.looked.found.0
    refl c.in-Ok-made.ensures.keeps (c.bytes_from.ensures ∙ c.in-Ok-made.ensures.made))
    c.in-Ok-write_all.ensures.bytes c.in-Ok-write_all.ensures.cause
    (kept_is (g.O.Oracle.plans c.args.oracle.now) (g.O.Oracle.history c.look.new.self) (g.O.Oracle.shown c.look.new.self) c.view.result.now
    c.in-Ok-look.number c.args.kept.now c.respond-made.new.kept c.in-Ok-look.ensures.looked.found.1 c.view.ensures.view (c.view.ensures.plans ∙ c.look.ensures.plans) c.in-Ok-look.ensures.looked.found.0 c.in-Ok-made.ensures.keeps)
    (c.note.ensures ∙ ap (λ (n : Noted). record { numbers = n.numbers ++ c.in-Ok-look.number ∷ []; moments = n.moments ++ c.now-moment.result ∷ [] }) c.make_room.ensures.same))
