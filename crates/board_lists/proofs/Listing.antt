-- The lists that are defined are made of those alerts that are active, and of what a schedule's feeds hold.
use Rattle.std.proofs.Common.{◌≡◌, ℕ, arith, Bool, true, false, ◌&&◌, cond, Option, Some, None, List, [], ◌∷◌, ◌++◌, length, map, refl, sym, ap, ◌∙◌, subst}
use Rattle.std.specs.Prelude.{Result, Ok, Err, IfOk, IsErrAnd, if◌then◌else◌, ◌==◌}
use Rattle.std.specs.List.{flat_map, filter_map, cons_option}
use Rattle.std.specs.Global.{Vec}
use Rattle.std.specs.Option.{is_some, option_map, option_and_then}
use Rattle.std.proofs.lemmas.Bool.Decides.{nat_tests}
use Rattle.std.proofs.lemmas.List.Elements.{filter_map-append}
use Rattle.rt_types.specs.declared.alert.Alert.{Alert}
use Rattle.feed_defs.specs.declared.history.Entry.{Entry}
use Rattle.feed_defs.specs.History.{Change}
use Rattle.sched_types.specs.Schedules.{Schedules}
use Rattle.sched_types.specs.Timetable.{Timetable, number_of}
use Rattle.board_defs.specs.declared.query.BoardQuery.{BoardQuery}
use Rattle.board_defs.specs.Choice.{updates_at}
use Rattle.board_defs.specs.Feeds.{HubFeed, HeldEntity, held_as, held_by, held_in, schedule_entities, schedule_feeds}
use Rattle.board_defs.specs.Fold.{FeedFold, fold_of}
use Rattle.board_defs.specs.Rows.{BoardRow, board, board_at, timetable_in}
use Rattle.board_defs.specs.Views.{HubKept, StandsFor, folds_of}
use Rattle.alert_defs.specs.declared.rows.AlertRow.{AlertRow}
use Rattle.alert_defs.specs.declared.rows.Unmatched.{Unmatched}
use Rattle.alert_defs.specs.Touching.{Touched}
use Rattle.alert_defs.specs.Alerts.{is_current, concerns, alert_row, row_of_alert, row_of_entity, alerts_at, alerts_beside, alerts, touched_as}
use Rattle.alert_defs.specs.Unmatched.{unmatched_in, unmatched_of, unmatched}
use Rattle.alert_select.specs.FeedAlerts.{alerts_of}
use Rattle.alert_select.specs.declared.subject.Subject.{Subject}
use Rattle.alert_select.specs.Subjects.{touched_by}
use Rattle.board_parts.specs.Walks.{walked_by, walked_in}
use Rattle.board_parts.proofs.Lists.{both_maps}
use Rattle.order.proofs.Lists.{filter_map_same}
use Rattle.board_core.specs.Answers.{AreOfBoard, AreSubjects}
use Rattle.board_core.specs.declared.fault.RowsFault.{RowsFault}
use Rattle.board_core.specs.declared.fault.RowsFault.TheVariants.{NoStop, NoMemory}
use Rattle.board_core.proofs.FirstRows.{if_ok_same, board_by}
use Rattle.board_lists.specs.Answers.{AreAlerts}
use Rattle.board_lists.specs.Active.{Active, active_if, active_in, row_if, rows_among}

-- ---- unmatched

pub unmatched_are : (schedules : Schedules) (folds : List FeedFold) (plan : ℕ) (t : Timetable) → timetable_in schedules plan ≡ Some t
    → flat_map (unmatched_in t) (schedule_entities plan schedules.feeds folds) ≡ unmatched schedules folds plan
unfolding unmatched
unmatched_are schedules folds plan t is = sym (ap (λ o. unmatched_of o schedules folds plan) is)

-- what is listed of what is kept is listed of the history that it stands for
pub unmatched_stand : (kept : HubKept) (plan : ℕ) {E X : Type 0} (r : Result X E) (f : X → List Unmatched) → IfOk r (λ all. f all ≡ unmatched kept.plans (folds_of kept) plan)
    → (h : List Entry) → StandsFor h kept → IfOk r (λ all. f all ≡ unmatched kept.plans (fold_of (length kept.plans.feeds) h) plan)
unmatched_stand kept plan r f is h stands = if_ok_same r f _ _ (ap (λ folds. unmatched kept.plans folds plan) stands.feeds) is

-- ---- active alerts

-- what has no alert gives none
module _ (at : ℕ) where
  of_feed : (one : HubFeed) (es : List Change) → filter_map (active_in at) (map (held_as one) (alerts_of es)) ≡ filter_map (active_in at) (map (held_as one) es)
  of_feed one [] = refl
  of_feed one (e ∷ es) = by_alert e.1.entity.alert refl (of_feed one es)
    where
      by_alert : (o : Option Alert) → e.1.entity.alert ≡ o → filter_map (active_in at) (map (held_as one) (alerts_of es)) ≡ filter_map (active_in at) (map (held_as one) es)
          → filter_map (active_in at) (map (held_as one) (cond (is_some o) (e ∷ alerts_of es) (alerts_of es))) ≡ filter_map (active_in at) (map (held_as one) (e ∷ es))
      by_alert None is rest = rest ∙ ap (λ o. cons_option (active_if at (held_as one e) o) (filter_map (active_in at) (map (held_as one) es))) (sym is)
      by_alert (Some alert) is rest = ap (cons_option (active_in at (held_as one e))) rest

  -- so the active alerts are among those that feeds keep
  pub of_feeds : (feeds : List HubFeed) → filter_map (active_in at) (walked_in true feeds) ≡ filter_map (active_in at) (held_in feeds)
  of_feeds [] = refl
  of_feeds (one ∷ feeds) =
      filter_map-append (active_in at) (walked_by true one) (walked_in true feeds)
      ∙ ap (λ xs. xs ++ filter_map (active_in at) (walked_in true feeds)) (of_feed one one.fold.entities)
      ∙ ap (λ xs. filter_map (active_in at) (held_by one) ++ xs) (of_feeds feeds)
      ∙ sym (filter_map-append (active_in at) (held_by one) (held_in feeds))

-- ---- rows of alerts

-- a row is that of an alert that is active
by_active : (t : Timetable) (at stop : ℕ) (rows : List Touched) (held : HeldEntity) (o : Option Alert) → row_of_alert t at stop rows held o ≡ option_and_then (row_if t stop rows) (active_if at held o)
by_active t at stop rows held None = refl
by_active t at stop rows held (Some alert) = by_test (is_current at held alert)
  where
    by_test : (b : Bool) → (if b && concerns t alert held.stored.stamp stop rows then Some (alert_row held alert) else None)
        ≡ option_and_then (row_if t stop rows) (if b then Some (record { held = held; alert = alert }) else None)
    by_test true = refl
    by_test false = refl

module _ (schedules : Schedules) (folds : List FeedFold) (query : BoardQuery) where
  -- the active alerts of the schedule's feeds
  abbrev pub all_active : List Active
  all_active = filter_map (active_in query.at) (schedule_entities query.plan schedules.feeds folds)

  module _ (t : Timetable) (stop : ℕ) (plan_is : timetable_in schedules query.plan ≡ Some t) (stop_is : Some stop ≡ number_of (λ row. row.id) t.stops query.stop) where
    -- what is listed beside a board
    alerts_are : (rows : List BoardRow) → board schedules folds query ≡ Some rows → alerts schedules folds query ≡ Some (rows_among t stop (map touched_as rows) all_active)
    unfolding alerts
    alerts_are rows board_is =
        let held = schedule_entities query.plan schedules.feeds folds in
        let touched = map touched_as rows in
        ap (option_and_then (alerts_beside (timetable_in schedules query.plan) schedules folds query)) board_is
        ∙ ap (λ o. alerts_beside o schedules folds query rows) plan_is
        ∙ ap (option_map (alerts_at t schedules folds query touched)) (sym stop_is)
        ∙ ap Some
        (filter_map_same (row_of_entity t query.at stop touched) (λ one. option_and_then (row_if t stop touched) (active_in query.at one)) held
        (λ one. by_active t query.at stop touched one one.stored.entity.alert)
        ∙ both_maps (row_if t stop touched) (active_in query.at) held)

    -- where no alert is active, none is listed
    pub none_active : (none : List AlertRow) → all_active ≡ [] → none ≡ [] → alerts schedules folds query ≡ Some none
    none_active none quiet is =
        let rows : List BoardRow = board_at t stop (updates_at query.plan query.at schedules.feeds folds) query in
        alerts_are rows (board_by schedules folds query t plan_is (Some stop) stop_is)
        ∙ ap (λ xs. Some (rows_among t stop (map touched_as rows) xs)) quiet
        ∙ ap Some (sym is)

    -- the alerts that are defined are the rows among those that are active, of what rows are about
    pub touching_are : (subjects slice : List Subject) (active found : List Active) (rows : List AlertRow) → AreOfBoard schedules folds query subjects → slice ≡ subjects → found ≡ active
        → active ≡ all_active → rows ≡ rows_among t stop (map touched_by slice) found → alerts schedules folds query ≡ Some rows
    touching_are subjects slice active found rows about same all are listed =
        alerts_are about.rows about.defined
        ∙ ap Some
        (ap (λ xs. rows_among t stop xs all_active) (sym about.touched)
        ∙ ap (λ xs. rows_among t stop (map touched_by xs) all_active) (sym same)
        ∙ ap (rows_among t stop (map touched_by slice)) (sym are ∙ sym all)
        ∙ sym listed)

  -- where there is no board, nothing is listed
  pub no_board : board schedules folds query ≡ None → alerts schedules folds query ≡ None
  unfolding alerts
  no_board none = ap (option_and_then (alerts_beside (timetable_in schedules query.plan) schedules folds query)) none

  -- a refusal of what rows are about is one of the list
  refused : (fault : RowsFault) → AreSubjects schedules folds query (Err fault) → AreAlerts schedules folds query (Err fault)
  refused NoStop none = no_board none
  refused NoMemory none = tt

  -- and so is what is passed on
  pub refused_too : (subjects : Result (Vec Subject) RowsFault) (fault : RowsFault) (result : Result (Vec AlertRow) RowsFault)
      → subjects ≡ Err fault → AreSubjects schedules folds query subjects → IsErrAnd result (λ x. x ≡ fault) → AreAlerts schedules folds query result
  refused_too subjects fault (Ok rows) was given passed = absurd passed
  refused_too subjects fault (Err other) was given passed =
      let P : RowsFault → Type 0 = λ x. AreAlerts schedules folds query (Err x) in
      let Q : Result (Vec Subject) RowsFault → Type 0 = λ x. AreSubjects schedules folds query x in
      subst P (sym passed) (refused fault (subst Q was given))

-- what is answered of what is kept is answered of the history that it stands for
pub alerts_stand : (kept : HubKept) (query : BoardQuery) (result : Result (Vec AlertRow) RowsFault) → AreAlerts kept.plans (folds_of kept) query result
    → (h : List Entry) → StandsFor h kept → AreAlerts kept.plans (fold_of (length kept.plans.feeds) h) query result
alerts_stand kept query result is h stands =
    let P : List FeedFold → Type 0 = λ folds. AreAlerts kept.plans folds query result in
    subst P stands.feeds is

-- the active alerts of what is kept
pub active_are : (kept : HubKept) (query : BoardQuery) (held : List HeldEntity) (active : List Active) → held ≡ walked_in true (schedule_feeds query.plan kept.plans.feeds (folds_of kept))
    → active ≡ filter_map (active_in query.at) held → active ≡ all_active kept.plans (folds_of kept) query
active_are kept query held active is are = are ∙ ap (filter_map (active_in query.at)) is ∙ of_feeds query.at (schedule_feeds query.plan kept.plans.feeds (folds_of kept))

-- a list that is said to be empty
zero_length : (n : ℕ) (b : Bool) → b ≡ (n == 0) → b ≡ true → n ≡ 0
zero_length n b is so = grind (arith, nat_tests)

pub emptied : {A : Type 0} (xs : List A) (b : Bool) → b ≡ (length xs == 0) → b ≡ true → xs ≡ []
emptied xs b is so = by_length xs (zero_length (length xs) b is so)
  where
    by_length : {A : Type 0} (xs : List A) → length xs ≡ 0 → xs ≡ []
    by_length [] h = refl
    by_length (x ∷ xs) h = absurd (omega arith)
