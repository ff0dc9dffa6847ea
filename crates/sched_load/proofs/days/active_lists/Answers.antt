use Rattle.std.proofs.Common.{◌∙◌, ℕ, ap, sym, refl, subst, length, map, arith, nat_cmp}
use Rattle.std.specs.Prelude.{filter, find, zip, bytes_eq, option_map}
use Rattle.std.specs.List.{range_with_len}
use Rattle.std.specs.FinMap.Entries.{find as find_at}
use Rattle.std.specs.declared.alloc.Global.{Global}
use Rattle.std.specs.declared.collections.BTreeMap.{BTreeMap}
use Rattle.std.proofs.lemmas.List.{map-append}
use Rattle.std.proofs.lemmas.Option.{slice_get-map, slice_get_read}
use Rattle.gtfs_rows.specs.declared.rows.CalendarRow.{CalendarRow}
use Rattle.text_defs.specs.Dates.{date_plus}
use Rattle.service_day.specs.declared.services.Exception.{Exception}
use Rattle.sched_load.specs.Days.{Flagged, active_by, runs_by}
use Rattle.sched_load.specs.Listed.{entries_of}
use Rattle.sched_load.proofs.BuildLemmas.{made_all, made_more}
use Rattle.sched_load.proofs.DayLemmas.{flagged_find, zip_get, zip_length}
use Rattle.sched_load.proofs.days.active_lists.Goals as goal

pub days_of-requires-clause-flags : goal.days_of-requires-clause-flags
days_of-requires-clause-flags c = subst Flagged (sym c.find-row.ensures) (flagged_find (λ row. bytes_eq row.service_id c.as_str.result.now) c.args.calendar.now c.requires.flags)

pub loop-number-preserved : goal.loop-number-preserved
loop-number-preserved c =
    let z = zip c.args.services.now (entries_of c.args.exceptions.now) in
    let at = zip_get c.args.services.now (entries_of c.args.exceptions.now) c.loop-number.number c.index-services-number.result c.index-exceptions-number.result.entries
    (slice_get_read c.args.services.now (length c.args.services.now) c.loop-number.number c.index-services-number.result refl c.loop-number-test.true c.index-services-number.is)
    (slice_get-map (λ (m : BTreeMap ℕ Exception Global). m.entries) c.args.exceptions.now c.loop-number.number ∙ ap (option_map (λ (m : BTreeMap ℕ Exception Global). m.entries)) (slice_get_read c.args.exceptions.now (length c.args.exceptions.now) c.loop-number.number c.index-exceptions-number.result refl (omega arith) c.index-exceptions-number.is)) in
    let row = c.find-row.ensures ∙ ap (λ id. find (λ (r : CalendarRow). bytes_eq r.service_id id) c.args.calendar.now) c.as_str.ensures in
    made_more (active_by c.args.calendar.now c.args.first c.args.days) z c.loop-number.number (c.index-services-number.result, c.index-exceptions-number.result.entries) c.in_ok-days_of.field-0.items (map (λ v. v.items) c.loop-number.lists.items) _ at
    (c.in_ok-days_of.ensures ∙ ap (λ o. filter (λ day. runs_by o (find_at nat_cmp (date_plus c.args.first day) c.index-exceptions-number.result.entries) (date_plus c.args.first day)) (range_with_len 0 c.args.days)) row)
    (ap (map (λ v. v.items)) c.in_ok-push.ensures.items ∙ map-append (λ v. v.items) c.loop-number.lists.items _) c.loop-number.invariant

pub returns : goal.returns
returns c =
    let l = zip_length c.args.services.now (entries_of c.args.exceptions.now) in
    made_all (active_by c.args.calendar.now c.args.first c.args.days) (zip c.args.services.now (entries_of c.args.exceptions.now)) c.loop-number.number (map (λ v. v.items) c.loop-number.lists.items) c.loop-number.invariant (omega (arith, l, c.loop-number-test.false))
