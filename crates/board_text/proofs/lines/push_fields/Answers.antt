-- The first field, and behind it the others.
use Rattle.std.proofs.Common.{rules, sym, append-nil}
use Rattle.board_text.proofs.Tabs.{nothing_between, others_then}
use Rattle.board_text.proofs.lines.push_fields.Goals as goal

pub returns-in-None-clause-written : goal.returns-in-None-clause-written
returns-in-None-clause-written c = rw (nothing_between (λ field. field.now) c.args.fields.now c.in-None.ensures.cases) (sym (append-nil _))

pub returns-in_ok-push_field-in-Some-clause-written : goal.returns-in_ok-push_field-in-Some-clause-written
returns-in_ok-push_field-in-Some-clause-written c =
    others_then c.push_others.result (λ field. field.now) c.args.fields.now c.in-Some.first.now c.in-Some.others.now _ _ _ _
    (search rules) (search rules) c.in_ok-push_field-in-Some.ensures.written c.push_others.ensures.written
