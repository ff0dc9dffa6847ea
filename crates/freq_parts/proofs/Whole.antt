-- The timetable with the trips that rows derive, from its parts.
use Rattle.std.proofs.Common.{◌≡◌, ℕ, ◌^◌, ◌<◌, not, List, [], ◌∷◌, length, map, filter, Result, Ok, Err, refl, sym, ap, subst, ◌∙◌, arith}
use Rattle.std.specs.List.{All, enumerate_from}
use Rattle.std.proofs.lemmas.Cmp.{nat_list_cmp_total}
use Rattle.std.proofs.lemmas.List.{append-nil, length-map}
use Rattle.std.proofs.lemmas.List.Elements.{All-filter}
use Rattle.answer_defs.specs.Defined.{IsCause}
use Rattle.std.proofs.lemmas.List.Sorted.{IsPermutation-refl}
use Rattle.freq_runs.specs.declared.rows.Derived.{Derived}
use Rattle.freq_runs.specs.declared.fault.DeriveFault.{DeriveFault}
use Rattle.freq_runs.specs.declared.fault.DeriveFault.TheVariants.{TooMany, Duplicate, NoMemory}
use Rattle.freq_runs.specs.Faults.{derived_trips, first_fault, cause_of}
use Rattle.freq_runs.specs.Trips.{IsPattern, IsRow}
use Rattle.gtfs_rows.specs.declared.rows.FrequencyRow.{FrequencyRow}
use Rattle.sched_types.specs.declared.rows.Trip.{Trip}
use Rattle.sched_types.specs.declared.rows.Place.{Place}
use Rattle.sched_types.specs.declared.rows.PlanPattern.{PlanPattern}
use Rattle.sched_types.specs.declared.rows.PlanDerived.{PlanDerived}
use Rattle.sched_types.specs.Timetable.{Timetable, IsTimetable, RisesById}
use Rattle.sched_load_defs.proofs.Listing.{listed-permutation}
use Rattle.sched_load_defs.specs.Numbers.{rows_by_key}
use Rattle.sched_load_defs.specs.Frequencies.{TimedTrip, id_of, timed_trips, is_named, patterns_in, other_trips, pattern_of, frequency_of, derived_of, all_trips, plan_pattern, plan_deriveds, with_derived, with_derived_or, with_frequencies}
use Rattle.freq_parts.specs.Conditions.{IsPlain, IsRowOf}
use Rattle.freq_parts.specs.Joined.{all_of, CanJoin, AreListed}
use Rattle.freq_parts.proofs.Zipped.{zip_first, zip_second}
use Rattle.freq_parts.proofs.Sorting.{text_same}
use Rattle.freq_parts.proofs.Derivation.{AreDerived, derived_so}
use Rattle.freq_parts.proofs.Fitting.{FitsIn, IsEarly, all_fit, all_early, timed_rise, are_patterns}
use Rattle.freq_parts.proofs.Joining.{rises_filter, few_filtered, length-timed, are_rows, can_join}
use Rattle.freq_parts.proofs.Sound.{made, with_trips}

-- what is derived, by the trips that are patterns
abbrev pub derived_by : List FrequencyRow → Timetable → Result (List Derived) DeriveFault
derived_by rows t =
    derived_trips (map pattern_of (filter (is_named rows) (timed_trips t))) (map (λ (trip : Trip). trip.id) t.trips)
    (map (frequency_of (filter (is_named rows) (timed_trips t))) (enumerate_from 0 rows))

pub with_fault : (rows : List FrequencyRow) (t : Timetable) (fault : DeriveFault) → derived_by rows t ≡ Err fault → with_frequencies rows t ≡ Err fault
unfolding with_frequencies derived_of patterns_in
with_fault rows t fault e = ap (with_derived_or rows t) e

pub with_value : (rows : List FrequencyRow) (t : Timetable) (derived : List Derived) → derived_by rows t ≡ Ok derived
    → with_frequencies rows t ≡ Ok (made t (all_of (filter (is_named rows) (timed_trips t)) (filter (λ timed. not (is_named rows timed)) (timed_trips t)) derived) (filter (is_named rows) (timed_trips t))
    (plan_deriveds (all_of (filter (is_named rows) (timed_trips t)) (filter (λ timed. not (is_named rows timed)) (timed_trips t)) derived) derived))
unfolding with_frequencies derived_of patterns_in other_trips all_trips with_derived
with_value rows t derived e = ap (with_derived_or rows t) e

-- ---- no rows

none_named : (xs : List TimedTrip) → filter (is_named []) xs ≡ []
none_named [] = refl
none_named (x ∷ xs) = none_named xs

all_other : (xs : List TimedTrip) → filter (λ timed. not (is_named [] timed)) xs ≡ xs
all_other [] = refl
all_other (x ∷ xs) = ap (λ ys. x ∷ ys) (all_other xs)

nothing : (patterns : List TimedTrip) (taken : List (List ℕ)) → derived_trips (map pattern_of patterns) taken (map (frequency_of patterns) (enumerate_from 0 [])) ≡ Ok []
unfolding first_fault
nothing patterns taken = refl

put : Timetable → List Trip → List (List Place) → List PlanPattern → List PlanDerived → Timetable
put t trips places patterns derived = record t { trips = trips; places = places; patterns = patterns; derived = derived }

put_same : (t : Timetable) (trips : List Trip) (places : List (List Place)) (patterns : List PlanPattern) (derived : List PlanDerived) → trips ≡ t.trips → places ≡ t.places → patterns ≡ t.patterns → derived ≡ t.derived
    → record t { trips = trips; places = places; patterns = patterns; derived = derived } ≡ t
unfolding put
put_same t trips places patterns derived a b c d =
    ap (λ x. put t x places patterns derived) a
    ∙ ap (λ x. put t t.trips x patterns derived) b
    ∙ ap (λ x. put t t.trips t.places x derived) c
    ∙ ap (λ x. put t t.trips t.places t.patterns x) d

none_listed : (all : List TimedTrip) → plan_deriveds all [] ≡ []
unfolding plan_deriveds rows_by_key
none_listed all = refl

pub no_rows : (t : Timetable) → IsPlain t → with_frequencies [] t ≡ Ok t
no_rows t plain =
    let sound = plain.timetable in
    let timed = timed_trips t in
    let patterns = filter (is_named []) timed in
    let others = filter (λ one. not (is_named [] one)) timed in
    let up = timed_rise t sound in
    let whole : all_of patterns others [] ≡ timed =
    ap (rows_by_key _ id_of) (append-nil others ∙ all_other timed)
    ∙ listed-permutation _ nat_list_cmp_total text_same id_of timed timed (IsPermutation-refl timed) (record { rise = up.rise }) in
    with_value [] t [] (nothing patterns (map (λ (trip : Trip). trip.id) t.trips))
    ∙ ap Ok (put_same t _ _ _ _
    (ap (map (λ (z : TimedTrip). z.0)) whole ∙ zip_first t.trips t.places sound.places_each)
    (ap (map (λ (z : TimedTrip). z.1)) whole ∙ zip_second t.trips t.places sound.places_each)
    (ap (map plan_pattern) (none_named timed) ∙ sym plain.no_patterns)
    (none_listed (all_of patterns others []) ∙ sym plain.no_derived))

-- ---- with rows

pub lists_are : (t : Timetable) (all patterns : List TimedTrip) (own : List PlanDerived) (trips : List Trip) (places : List (List Place)) (plan : List PlanPattern) (derived : List PlanDerived) → trips ≡ map (λ (z : TimedTrip). z.0) all → places ≡ map (λ (z : TimedTrip). z.1) all
    → plan ≡ map plan_pattern patterns → derived ≡ own → made t all patterns own ≡ record t { trips = trips; places = places; patterns = plan; derived = derived }
unfolding put
lists_are t all patterns own trips places plan derived a b c d =
    ap (λ x. put t x (map (λ (z : TimedTrip). z.1) all) (map plan_pattern patterns) own) (sym a)
    ∙ ap (λ x. put t trips x (map plan_pattern patterns) own) (sym b)
    ∙ ap (λ x. put t trips places x own) (sym c)
    ∙ ap (λ x. put t trips places plan x) (sym d)

-- the same fault, where there is one
pub same_fault : (rows : List FrequencyRow) (t : Timetable) (fault : DeriveFault) → IsCause (derived_by rows t) (cause_of fault) → IsCause (with_frequencies rows t) (cause_of fault)
same_fault rows t TooMany e = with_fault rows t TooMany e
same_fault rows t (Duplicate row) e = with_fault rows t (Duplicate row) e
same_fault rows t NoMemory e = tt

-- what is needed to derive trips
module _ (rows : List FrequencyRow) (t : Timetable) (plain : IsPlain t) (given : List TimedTrip) (is : given ≡ filter (is_named rows) (timed_trips t)) where
  pub few_given : length given < 2 ^ 32
  few_given = omega (arith, ap length is, few_filtered (is_named rows) (timed_trips t), length-timed t plain.timetable, plain.few_trips)

  pub given_rise : RisesById id_of given
  given_rise = subst (RisesById id_of) (sym is) (rises_filter (is_named rows) (timed_trips t) (timed_rise t plain.timetable))

  pub given_patterns : All IsPattern (map pattern_of given)
  given_patterns =
      subst (λ ps. All IsPattern (map pattern_of ps)) (sym is)
      (are_patterns t (filter (is_named rows) (timed_trips t)) (All-filter (is_named rows) (FitsIn t) (timed_trips t) (all_fit t plain.timetable))
      (All-filter (is_named rows) (λ (z : TimedTrip). IsEarly z.1) (timed_trips t) (all_early t plain)))

  module _ (named : All (IsRowOf t) rows) where
    pub given_rows : All (IsRow (length given)) (map (frequency_of given) (enumerate_from 0 rows))
    given_rows = subst (λ ps. All (IsRow (length ps)) (map (frequency_of ps) (enumerate_from 0 rows))) (sym is) (are_rows t rows plain.timetable named)

    -- what is true of the derived trips
    module _ (others : List TimedTrip) (derived : List Derived) (rest : others ≡ filter (λ z. not (is_named rows z)) (timed_trips t))
        (e : derived_trips (map pattern_of given) (map (λ (trip : Trip). trip.id) t.trips) (map (frequency_of given) (enumerate_from 0 rows)) ≡ Ok derived) where
      are : AreDerived (map pattern_of given) (map (λ (trip : Trip). trip.id) t.trips) derived
      are =
          derived_so (map pattern_of given) (map (λ (trip : Trip). trip.id) t.trips) (map (frequency_of given) (enumerate_from 0 rows)) derived
          (subst (λ n. All (IsRow n) (map (frequency_of given) (enumerate_from 0 rows))) (sym (length-map given pattern_of)) given_rows) e

      so : AreDerived (map pattern_of (filter (is_named rows) (timed_trips t))) (map (λ (trip : Trip). trip.id) t.trips) derived
      so = subst (λ ps. AreDerived (map pattern_of ps) (map (λ (trip : Trip). trip.id) t.trips) derived) is are

      pub joins : CanJoin given others derived
      joins =
          subst (λ ps. CanJoin ps others derived) (sym is)
          (subst (λ os. CanJoin (filter (is_named rows) (timed_trips t)) os derived) (sym rest)
          (can_join t (is_named rows) (λ z. not (is_named rows z)) derived plain so))

      pub value : with_frequencies rows t ≡ Ok (made t (all_of given others derived) given (plan_deriveds (all_of given others derived) derived))
      value =
          subst (λ ps. with_frequencies rows t ≡ Ok (made t (all_of ps others derived) ps (plan_deriveds (all_of ps others derived) derived))) (sym is)
          (subst (λ os. with_frequencies rows t ≡ Ok (made t (all_of (filter (is_named rows) (timed_trips t)) os derived) (filter (is_named rows) (timed_trips t)) (plan_deriveds (all_of (filter (is_named rows) (timed_trips t)) os derived) derived))) (sym rest)
          (with_value rows t derived (ap (λ ps. derived_trips (map pattern_of ps) (map (λ (trip : Trip). trip.id) t.trips) (map (frequency_of ps) (enumerate_from 0 rows))) (sym is) ∙ e)))

      pub sound : AreListed given others derived → IsTimetable (made t (all_of given others derived) given (plan_deriveds (all_of given others derived) derived))
      sound listed =
          subst (λ ps. IsTimetable (made t (all_of ps others derived) ps (plan_deriveds (all_of ps others derived) derived))) (sym is)
          (subst (λ os. IsTimetable (made t (all_of (filter (is_named rows) (timed_trips t)) os derived) (filter (is_named rows) (timed_trips t)) (plan_deriveds (all_of (filter (is_named rows) (timed_trips t)) os derived) derived))) (sym rest)
          (with_trips t (is_named rows) derived plain so
          (subst (λ os. AreListed (filter (is_named rows) (timed_trips t)) os derived) rest (subst (λ ps. AreListed ps others derived) is listed))))
