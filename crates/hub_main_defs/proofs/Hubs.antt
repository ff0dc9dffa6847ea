-- The schedules and feeds of a configuration are those that a hub may have.
use Rattle.std.proofs.Common.{◌≡◌, ◌∙◌, ℕ, zero, suc, ◌<◌, nat_lt, refl, sym, ap, subst, List, [], ◌∷◌, length, map, slice_get, true, Some, arith}
use Rattle.std.specs.List.{list_all}
use Rattle.std.specs.Option.{option_map}
use Rattle.std.proofs.lemmas.Bool.{and_parts}
use Rattle.std.proofs.lemmas.Bool.Decides.{nat_tests}
use Rattle.std.proofs.lemmas.List.{length-map}
use Rattle.std.proofs.lemmas.Option.{none-some, same_Some, slice_get-map}
use Rattle.sched_types.specs.declared.plans.NamedFeed.{NamedFeed}
use Rattle.sched_types.specs.declared.plans.NamedPlan.{NamedPlan}
use Rattle.sched_types.specs.Schedules.{AreSchedules}
use Rattle.hub_config_defs.specs.declared.conf.FeedConf.{FeedConf}
use Rattle.hub_config_defs.specs.declared.conf.HubConf.{HubConf}
use Rattle.hub_config_defs.specs.Right.{IsLegal, has_schedule_of}
use Rattle.hub_main_defs.specs.Hubs.{named_feed}

feed_names : (fs : List FeedConf) → map (λ f. f.name) (map named_feed fs) ≡ map (λ f. f.name) fs
feed_names [] = refl
feed_names (f ∷ fs) = ap (λ names. f.name ∷ names) (feed_names fs)

name_at : {A : Type 0} (name : A → List ℕ) (xs : List A) (i : ℕ) (x : A) → slice_get xs i ≡ Some x → slice_get (map name xs) i ≡ Some (name x)
name_at name xs i x h = slice_get-map name xs i ∙ ap (option_map name) h

-- what an item of a list of feeds says of its schedule
plan_below : (count : ℕ) (fs : List FeedConf) → list_all (has_schedule_of count) fs ≡ true → (i : ℕ) (feed : NamedFeed) → slice_get (map named_feed fs) i ≡ Some feed → feed.plan < count
plan_below count [] h i feed e = absurd (none-some feed e)
plan_below count (f ∷ fs) h zero feed e =
    let (here, more) = and_parts (nat_lt f.schedule count) (list_all (has_schedule_of count) fs) h in
    subst (λ x. x.plan < count) (same_Some (named_feed f) feed e) (grind (arith, nat_tests))
plan_below count (f ∷ fs) h (suc i) feed e =
    plan_below count fs (and_parts (nat_lt f.schedule count) (list_all (has_schedule_of count) fs) h).1 i feed e

-- timetables under the names of a configuration's schedules, with its feeds
pub schedules_named : (conf : HubConf) (plans : List NamedPlan) → IsLegal conf → map (λ p. p.name) plans ≡ map (λ s. s.name) conf.schedules
    → AreSchedules (record { plans = plans; feeds = map named_feed conf.feeds })
schedules_named conf plans legal same =
    let long : length plans ≡ length conf.schedules = sym (length-map plans (λ p. p.name)) ∙ ap length same ∙ length-map conf.schedules (λ s. s.name) in
    let plan_at = λ (i : ℕ) (p : NamedPlan) (h : slice_get plans i ≡ Some p). subst (λ names. slice_get names i ≡ Some p.name) same (name_at (λ p. p.name) plans i p h) in
    let feed_at = λ (i : ℕ) (f : NamedFeed) (h : slice_get (map named_feed conf.feeds) i ≡ Some f).
    subst (λ names. slice_get names i ≡ Some f.name) (feed_names conf.feeds) (name_at (λ f. f.name) (map named_feed conf.feeds) i f h) in
    record {
      few_plans = omega (arith, legal.few_schedules);
      few_feeds = omega (arith, legal.few_feeds, length-map conf.feeds named_feed);
      plan_named = λ i p h. legal.schedule_names.formed i p.name (plan_at i p h);
      feed_named = λ i f h. legal.feed_names.formed i f.name (feed_at i f h);
      plans_apart = λ i j p q h k e. legal.schedule_names.apart i j p.name (plan_at i p h) (plan_at j q k ∙ ap Some (sym e));
      feeds_apart = λ i j p q h k e. legal.feed_names.apart i j p.name (feed_at i p h) (feed_at j q k ∙ ap Some (sym e));
      plan_is = λ i f h. rw long (plan_below (length conf.schedules) conf.feeds legal.of_schedules i f h);
    }
