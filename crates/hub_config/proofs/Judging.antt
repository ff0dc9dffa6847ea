-- The loops over the names of a table and over the keys.
use Rattle.std.proofs.Common.{◌≡◌, ℕ, ◌+◌, ◌<◌, ◌≤◌, List, [], ◌∷◌, length, get_or, drop, Bool, true, false, not, cond, Option, Some, None, option_map, ◌∙◌, String, Global, string_bytes, refl}
use Rattle.std.proofs.lemmas.List.{drop_more, drop_all}
use Rattle.std.specs.List.{find}
use Rattle.std.specs.Map.{keys_of}
use Rattle.std.specs.Option.{option_or}
use Rattle.toml.specs.Data.{Members}
use Rattle.toml.specs.View.{members_view}
use Rattle.toml.specs.declared.value.Value.{Value}
use Rattle.hub_config_defs.specs.declared.conf.ScheduleConf.{ScheduleConf}
use Rattle.hub_config_defs.specs.declared.conf.FeedConf.{FeedConf}
use Rattle.hub_config_defs.specs.declared.rule.Key.{Key}
use Rattle.hub_config_defs.specs.declared.fault.ConfWhy.{ConfWhy}
use Rattle.hub_config_defs.specs.Rules.{rule_of}
use Rattle.hub_config_defs.specs.Faults.{is_known, unknown_in, wrong_in, named_fault, key_fault}

either : (b : Bool) (name : String Global) (o : Option (String Global)) (p : Option (List ℕ)) → p ≡ option_map string_bytes o
    → cond b p (Some (string_bytes name)) ≡ option_map string_bytes (cond (not b) (Some name) o)
either true name o p e = e
either false name o p e = refl

-- the first name of a table that no key has is the first of its map's keys that none has
pub unknown_view : (keys : List Key) (es : List (String Global × Value))
    → unknown_in keys (members_view es) ≡ option_map string_bytes (find (λ name. not (is_known keys (string_bytes name))) (keys_of es))
unfolding unknown_in
unknown_view keys [] = refl
unknown_view keys (e ∷ es) = either (is_known keys (string_bytes e.0)) e.0 _ _ (unknown_view keys es)

-- what is wrong with the keys from an index on
pub wrong_more : (keys : List Key) (i : ℕ) (d : Key) (ms : Members) (ss : List ScheduleConf) (fs : List FeedConf) → i < length keys
    → wrong_in (drop i keys) ms ss fs ≡ option_or (named_fault (get_or keys i d) (key_fault (get_or keys i d) ms ss fs)) (wrong_in (drop (i + 1) keys) ms ss fs)
unfolding wrong_in
wrong_more keys i d ms ss fs h = rw (drop_more keys i d h)

pub wrong_here : (keys : List Key) (i : ℕ) (d : Key) (ms : Members) (ss : List ScheduleConf) (fs : List FeedConf) (why : ConfWhy) → i < length keys
    → key_fault (get_or keys i d) ms ss fs ≡ Some why → wrong_in (drop i keys) ms ss fs ≡ Some ((rule_of (get_or keys i d)).name, why)
wrong_here keys i d ms ss fs why h e = wrong_more keys i d ms ss fs h ∙ rw e

pub wrong_later : (keys : List Key) (i : ℕ) (d : Key) (ms : Members) (ss : List ScheduleConf) (fs : List FeedConf) → i < length keys
    → key_fault (get_or keys i d) ms ss fs ≡ None → wrong_in (drop i keys) ms ss fs ≡ wrong_in (drop (i + 1) keys) ms ss fs
wrong_later keys i d ms ss fs h e = wrong_more keys i d ms ss fs h ∙ rw e

pub wrong_none : (keys : List Key) (i : ℕ) (ms : Members) (ss : List ScheduleConf) (fs : List FeedConf) → length keys ≤ i → wrong_in (drop i keys) ms ss fs ≡ None
unfolding wrong_in
wrong_none keys i ms ss fs h = rw (drop_all i keys h)
