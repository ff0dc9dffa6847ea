-- A document's configuration from what its parts say.
use Rattle.std.proofs.Common.{◌≡◌, List, [], Some, None, Ok, Err, ◌∙◌}
use Rattle.std.proofs.lemmas.Bool.{cases_Bool}
use Rattle.std.proofs.lemmas.Str.{IsUtf8-from_is_utf8, is_utf8-from_IsUtf8}
use Rattle.std.proofs.Common.{ℕ, inl, inr}
use Rattle.std.specs.Str.{IsUtf8, is_utf8}
use Rattle.toml.specs.Data.{Members}
use Rattle.toml.specs.Parse.{parse_document}
use Rattle.hub_config_defs.specs.declared.conf.ScheduleConf.{ScheduleConf}
use Rattle.hub_config_defs.specs.declared.conf.FeedConf.{FeedConf}
use Rattle.hub_config_defs.specs.declared.fault.ConfFault.{ConfFault}
use Rattle.hub_config_defs.specs.declared.fault.ConfFault.TheVariants.{Toml, Bad, NoMemory}
use Rattle.hub_config_defs.specs.declared.fault.TableName.TheVariants.{Top}
use Rattle.hub_config_defs.specs.Conf.{conf_in, conf_of, feeds_in, hub_of, schedules_in, unless}
use Rattle.hub_config_defs.specs.Faults.{fault_in}
use Rattle.answer_defs.specs.Defined.{IsCause}
use Rattle.toml.specs.Errors.{IsMemory}
use Rattle.toml.specs.declared.de.Error.{Error}
use Rattle.hub_config.specs.Answer.{IsFaultOf, cause_of}
use Rattle.hub_config.proofs.Rows.{goes_on, stops, passes}

pub top_stops : (ms : Members) (e : ConfFault) → unless (fault_in Top 0 ms [] []) ms ≡ Err e → conf_in ms ≡ Err e
unfolding conf_in
top_stops ms e h = stops _ _ e h

pub schedules_stop : (ms : Members) → fault_in Top 0 ms [] [] ≡ None → (e : ConfFault) → schedules_in ms ≡ Err e → conf_in ms ≡ Err e
unfolding conf_in
schedules_stop ms top e h = goes_on _ _ ms (passes (fault_in Top 0 ms [] []) ms top) ∙ stops _ _ e h

pub feeds_stop : (ms : Members) (ss : List ScheduleConf) → fault_in Top 0 ms [] [] ≡ None → schedules_in ms ≡ Ok ss → (e : ConfFault) → feeds_in ms ss ≡ Err e → conf_in ms ≡ Err e
unfolding conf_in
feeds_stop ms ss top s e h = goes_on _ _ ms (passes (fault_in Top 0 ms [] []) ms top) ∙ goes_on _ _ ss s ∙ stops _ _ e h

pub conf_is : (ms : Members) (ss : List ScheduleConf) (fs : List FeedConf) → fault_in Top 0 ms [] [] ≡ None → schedules_in ms ≡ Ok ss → feeds_in ms ss ≡ Ok fs → conf_in ms ≡ Ok (hub_of ms ss fs)
unfolding conf_in
conf_is ms ss fs top s f = goes_on _ _ ms (passes (fault_in Top 0 ms [] []) ms top) ∙ goes_on _ _ ss s ∙ goes_on _ _ fs f

-- the bytes of a document, and bytes that are none
pub document_is : (bytes : List ℕ) (ms : Members) → IsUtf8 bytes → parse_document bytes ≡ Some ms → conf_of bytes ≡ conf_in ms
unfolding conf_of
document_is bytes ms utf8 e = rw (is_utf8-from_IsUtf8 bytes utf8, e)

pub no_document : (bytes : List ℕ) → (IsUtf8 bytes → parse_document bytes ≡ None) → conf_of bytes ≡ Err Toml
unfolding conf_of
no_document bytes refused =
    elim (cases_Bool (is_utf8 bytes)) [
      | inl utf8 ↦ rw (utf8, refused (IsUtf8-from_is_utf8 bytes utf8))
      | inr other ↦ rw other
    ]

-- what the reader of TOML refuses has no configuration, unless memory ran out
pub refuses_document : (bytes : List ℕ) (e : Error) (fault : ConfFault) → (¬ IsMemory e → IsUtf8 bytes → parse_document bytes ≡ None) → IsFaultOf e fault
    → IsCause (conf_of bytes) (cause_of fault)
refuses_document bytes e Toml refused other = no_document bytes (refused other)
refuses_document bytes e (Bad table row key why) refused h = absurd h
refuses_document bytes e NoMemory refused h = tt
