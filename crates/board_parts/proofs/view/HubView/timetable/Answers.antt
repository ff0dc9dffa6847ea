-- The timetable of that number.
use Rattle.std.proofs.Common.{Some, get_or, ap, sym, ◌∙◌}
use Rattle.std.specs.Option.{option_map}
use Rattle.std.proofs.lemmas.Option.{slice_get-get_or}
use Rattle.board_parts.proofs.view.HubView.timetable.Goals as goal

pub returns : goal.returns
returns c =
    let schedule = c.args.schedule in
    let none = c.index-plans-schedule.result in
    ap (option_map (λ named. named.plan))
    (slice_get-get_or c.args.self.now.plans.plans schedule none c.requires
    ∙ ap (λ plans. Some (get_or plans schedule none)) (sym (c.plans-2.ensures ∙ ap (λ s. s.plans) c.plans.ensures)))
