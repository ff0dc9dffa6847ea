use Rattle.std.proofs.Common.{refl, sym, ◌∙◌, arith, ap, rules, ◌≡◌, ◌<◌, ◌≤◌, ◌+◌, ◌-◌, ◌++◌, [], length, take, drop, append-nil, Some}
use Rattle.std.proofs.lemmas.Option.{slice_get_within}
use Rattle.hub_replay_defs.specs.Record.{act, payload_at, payload_waits, serving}
use Rattle.hub_replay_defs.specs.Lines.Head.{Message}
use Rattle.hub_replay.specs.declared.records.Step.TheVariants.{Whole}
use Rattle.hub_replay.specs.Records.{numbered_turn}
use Rattle.hub_replay.proofs.Doing.{acts_of_number, does_same}
use Rattle.hub_replay.proofs.Offering.{long_message, message_waits, offered_message, no_line_feed, no_payload_yet, not_line_feed, nothing_there}
use Rattle.hub_replay.proofs.records.do_message.Goals as goal

pub returns-then-size-gt-LONGEST_MESSAGE : goal.returns-then-size-gt-LONGEST_MESSAGE
returns-then-size-gt-LONGEST_MESSAGE c = (
  record { hub = refl; says = refl },
  λ later more. acts_of_number (serving later c.args.hub.now) c.args.bytes.now c.args.feed.now c.in-Some.feed c.args.size c.args.behind c.in-Some.ensures.1 more
      ∙ long_message (serving later c.args.hub.now) c.in-Some.feed c.args.size c.args.behind c.args.bytes.now more c.requires.within (omega arith),
  λ later more few. message_waits (serving later c.args.hub.now) c.args.feed.now c.in-Some.feed c.args.size c.args.behind c.args.bytes.now more c.in-Some.ensures.1 c.requires.within few,
)

pub slice_bounds-offer-end : goal.slice_bounds-offer-end
slice_bounds-offer-end c =
    let inside : c.args.behind + c.args.size < length c.args.bytes.now =
    slice_get_within c.args.bytes.now (c.args.behind + c.args.size) 10 (sym c.in-Some-eq10.ensures ∙ ap Some c.in-Some-eq10.field-0-test) in
    search rules

pub returns-in-Ok : goal.returns-in-Ok
returns-in-Ok c =
    let size : c.args.behind + c.args.size - c.args.behind ≡ c.args.size = omega arith in
    let head = Message c.args.feed.now c.args.size in
    does_same (λ later more. act (serving later c.args.hub.now) (Message c.args.feed.now c.args.size) (drop c.args.behind c.args.bytes.now ++ more))
    (λ later more. numbered_turn (serving later c.args.hub.now) c.in-Some.feed (payload_at c.args.size (drop c.args.behind c.args.bytes.now ++ more)))
    (λ later more. payload_waits (serving later c.args.hub.now) (Message c.args.feed.now c.args.size) (drop c.args.behind c.args.bytes.now ++ more))
    (λ later more. payload_waits (serving later c.args.hub.now) (Message c.args.feed.now c.args.size) (drop c.args.behind c.args.bytes.now ++ more))
    (λ later. acts_of_number (serving later c.args.hub.now) c.args.bytes.now c.args.feed.now c.in-Some.feed c.args.size c.args.behind c.in-Some.ensures.1) (λ later more. refl)
    (Whole (c.args.behind + c.args.size + 1)) c.args.hub.now c.offer.new.hub c.args.bytes.now c.args.said.now.items c.offer.new.said.items
    (offered_message c.args.hub.now c.offer.new.hub c.in-Some.feed c.args.size c.args.behind c.args.bytes.now _ c.args.said.now.items c.offer.new.said.items c.requires.within
    (sym c.in-Some-eq10.ensures ∙ ap Some c.in-Some-eq10.field-0-test) (ap (λ n. take n (drop c.args.behind c.args.bytes.now)) size) c.in-Ok.ensures.0 c.in-Ok.ensures.1)

pub returns-in-Some-byte_at : goal.returns-in-Some-byte_at
returns-in-Some-byte_at c = (
  refl,
  λ later more. acts_of_number (serving later c.args.hub.now) c.args.bytes.now c.args.feed.now c.in-Some.feed c.args.size c.args.behind c.in-Some.ensures.1 more
      ∙ no_line_feed (serving later c.args.hub.now) c.in-Some.feed c.args.size c.args.behind c.args.bytes.now more c.in-Some-byte_at.field-0 c.requires.within (sym c.in-Some-byte_at.ensures)
      (not_line_feed c.in-Some-byte_at.field-0 c.in-Some-byte_at.field-0-test.1),
)

pub returns-in-None : goal.returns-in-None
returns-in-None c =
    let past = nothing_there c.args.bytes.now (c.args.behind + c.args.size) (sym c.in-None.ensures) in
    let few : length (c.args.bytes.now ++ []) ≤ c.args.behind + c.args.size = rw (append-nil c.args.bytes.now) past in (
      record { hub = refl; says = refl },
      λ later. acts_of_number (serving later c.args.hub.now) c.args.bytes.now c.args.feed.now c.in-Some.feed c.args.size c.args.behind c.in-Some.ensures.1 []
          ∙ no_payload_yet (serving later c.args.hub.now) c.in-Some.feed c.args.size c.args.behind c.args.bytes.now past,
      λ later. message_waits (serving later c.args.hub.now) c.args.feed.now c.in-Some.feed c.args.size c.args.behind c.args.bytes.now [] c.in-Some.ensures.1 c.requires.within few,
    )
