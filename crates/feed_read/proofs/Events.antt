-- An event whose fields are taken in one after another.
use Rattle.std.proofs.Common.{◌≡◌, ℕ, ℤ, List, [], ◌∷◌, ◌++◌, length, refl, sym, ◌∙◌, append-nil, true}
use Rattle.std.specs.Prelude.{Option, Some, None, Ok, filter_map}
use Rattle.std.specs.List.{last_or, cons_option}
use Rattle.std.specs.Option.{option_or}
use Rattle.std.proofs.lemmas.List.Elements.{filter_map-append}
use Rattle.pb_wire_defs.specs.Field.{Payload, Field}
use Rattle.pb_wire_defs.specs.Spelling.{AreBytes, HasFields}
use Rattle.pb_wire_defs.specs.Reading.{field_at, fields_of}
use Rattle.pb_wire_defs.proofs.Found.{fields_found}
use Rattle.pb_wire.proofs.Lists.{Progress}
use Rattle.pb_wire.proofs.Lists as lists
use Rattle.feed_defs.specs.Rows.{value_under, last_of, i32_in, i64_in, unknown_bytes_of, value}
use Rattle.feed_defs.specs.Table.{stop_time_event}
use Rattle.feed_defs.proofs.Legal.{last_or-append}
use Rattle.field_read.specs.Occurring.{told_fields}
use Rattle.field_read.proofs.Steps.{whole_told}
use Rattle.feed_read.proofs.Fields.{value_single}
use Rattle.feed_read.proofs.Noting.{others-known, others-nil}

last_more : {A : Type 0} (o : Option A) (xs : List A) → last_or None (xs ++ cons_option o []) ≡ option_or o (last_or None xs)
last_more None xs = rw append-nil refl
last_more (Some x) xs = last_or-append None xs x

-- what a field says counts before what those before it said
last_of-push : {A : Type 0} (says : Payload → Option A) (n : ℕ) (fields : List Field) (f : Field) → last_of says n (fields ++ f ∷ []) ≡ option_or (value_under says n f) (last_of says n fields)
unfolding last_of
last_of-push says n fields f = rw filter_map-append (last_more (value_under says n f) (filter_map (value_under says n) fields))

-- fields were taken in, all of them known, and with those of the rest they are the fields of the bytes
pub record TakesIn (bytes rest : List ℕ) (delay time uncertainty : Option ℤ) : Type 0 where
  pub done : List Field
  pub progress : Progress done rest bytes
  pub delay_is : delay ≡ last_of i32_in 1 done
  pub time_is : time ≡ last_of i64_in 2 done
  pub uncertainty_is : uncertainty ≡ last_of i32_in 3 done
  pub all_known : unknown_bytes_of stop_time_event.is_known done ≡ []

pub takes_first : (bytes : List ℕ) → TakesIn bytes bytes None None None
unfolding last_of
takes_first bytes = record {
  done = [];
  progress = lists.begins bytes;
  delay_is = refl;
  time_is = refl;
  uncertainty_is = refl;
  all_known = others-nil stop_time_event.is_known;
}

module _ (bytes rest : List ℕ) (delay time uncertainty : Option ℤ) (h : TakesIn bytes rest delay time uncertainty) where
  pub takes_more : (after : List ℕ) (f : Field) (d t u : Option ℤ) → field_at rest ≡ Ok (f, after) → stop_time_event.is_known f ≡ true → d ≡ option_or (value_under i32_in 1 f) delay → t ≡ option_or (value_under i64_in 2 f) time → u ≡ option_or (value_under i32_in 3 f) uncertainty → TakesIn bytes after d t u
  takes_more after f d t u found known e1 e2 e3 = record {
    done = h.done ++ f ∷ [];
    progress = lists.goes_on h.done rest bytes h.progress f after found;
    delay_is = e1 ∙ rw h.delay_is (sym (last_of-push i32_in 1 h.done f));
    time_is = e2 ∙ rw h.time_is (sym (last_of-push i64_in 2 h.done f));
    uncertainty_is = e3 ∙ rw h.uncertainty_is (sym (last_of-push i32_in 3 h.done f));
    all_known = others-known stop_time_event.is_known h.done f known ∙ h.all_known;
  }

  pub takes_end : (unknown : List ℕ) → AreBytes bytes → length rest ≡ 0 → unknown ≡ [] → value stop_time_event (bytes ∷ []) ≡ Ok (record { delay = delay; time = time; uncertainty = uncertainty; unknown = unknown })
  takes_end unknown fits none empty =
      let told : fields_of bytes ≡ Ok h.done = lists.ends h.done rest bytes h.progress none in
      let is : told_fields bytes ≡ h.done = (whole_told bytes h.done told).0 in
      let spelled : HasFields bytes (told_fields bytes) = rw is (fields_found bytes h.done fits told) in
      rw (value_single stop_time_event bytes spelled, is, h.delay_is, h.time_is, h.uncertainty_is, empty, h.all_known) refl
