use Rattle.std.proofs.Common.{◌∙◌, ℕ, List, [], ap, sym, refl, length, arith}
use Rattle.std.proofs.lemmas.Option.{slice_get_read, none-some as none_some}
use Rattle.service_day.specs.declared.services.Exception.{Exception}
use Rattle.sched_load_defs.specs.declared.fault.File.TheVariants as file
use Rattle.sched_load_defs.specs.References.{refers_to_none}
use Rattle.sched_types.specs.Timetable.{number_of}
use Rattle.sched_load.specs.Listed.{entries_of}
use Rattle.row_tables.proofs.Faults.{judged_start}
use Rattle.sched_load.proofs.VisitLemmas.{no_groups}
use Rattle.sched_load.proofs.ServiceLemmas.{same_exception, exception_twin, exceptions_more}
use Rattle.sched_load.proofs.services.group_exceptions.Goals as goal

pub loop-place-init : goal.loop-place-init
loop-place-init c =
    let none : List (ℕ × Exception) = [] in
    record {
      judged = judged_start file.CalendarDates refers_to_none same_exception c.args.rows.now;
      groups = c.in_ok-exceptions.ensures ∙ no_groups c.args.services.now none;
    }

pub unreachable-requires : goal.unreachable-requires
unreachable-requires c =
    let rows = c.args.rows.now in
    let at = slice_get_read rows (length rows) c.loop-place.place c.index-rows-place.result refl c.loop-place-test.true c.index-rows-place.is in
    let told = ap (number_of (λ id. id) c.args.services.now) (sym c.as_str.ensures) ∙ sym c.service_number.ensures.value in
    let known = c.requires.known c.loop-place.place c.index-rows-place.result at in
    none_some known.0 (sym (told ∙ c.in_default.is) ∙ known.1)

pub overflow_cast-exception : goal.overflow_cast-exception
overflow_cast-exception c =
    let rows = c.args.rows.now in
    let at = slice_get_read rows (length rows) c.loop-place.place c.index-rows-place.result refl c.loop-place-test.true c.index-rows-place.is in
    omega (arith, c.requires.kinds c.loop-place.place c.index-rows-place.result at)

pub returns-then-not-branch : goal.returns-then-not-branch
returns-then-not-branch c =
    let rows = c.args.rows.now in
    let at = slice_get_read rows (length rows) c.loop-place.place c.index-rows-place.result refl c.loop-place-test.true c.index-rows-place.is in
    let told = ap (number_of (λ id. id) c.args.services.now) (sym c.as_str.ensures) ∙ sym c.service_number.ensures.value in
    rw c.row_number.ensures (exception_twin c.args.services.now c.requires.rise rows c.loop-place.place c.index-rows-place.result c.in-Some.service (entries_of c.loop-place.exceptions.items) (entries_of c.put_new.new.maps.items) c.in_ok-put_new.field-0 c.loop-place.invariant.judged at (told ∙ c.in-Some.is) c.loop-place.invariant.groups c.in_ok-put_new.ensures c.if-not-branch.true)

pub loop-place-preserved : goal.loop-place-preserved
loop-place-preserved c =
    let rows = c.args.rows.now in
    let at = slice_get_read rows (length rows) c.loop-place.place c.index-rows-place.result refl c.loop-place-test.true c.index-rows-place.is in
    let told = ap (number_of (λ id. id) c.args.services.now) (sym c.as_str.ensures) ∙ sym c.service_number.ensures.value in
    let more = exceptions_more c.args.services.now c.requires.rise rows c.loop-place.place c.index-rows-place.result c.in-Some.service (entries_of c.loop-place.exceptions.items) (entries_of c.put_new.new.maps.items) c.in_ok-put_new.field-0 c.loop-place.invariant.judged at (told ∙ c.in-Some.is) c.loop-place.invariant.groups c.in_ok-put_new.ensures c.if-not-branch.false in
    record { judged = more.0; groups = more.1 }
