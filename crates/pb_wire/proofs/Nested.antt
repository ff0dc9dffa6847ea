-- A reader's loop over the groups that are open: what is behind all of them.
use Rattle.std.proofs.Common.{◌≡◌, ℕ, zero, suc, ◌+◌, ◌-◌, ◌/◌, ◌%◌, ◌<◌, ◌≤◌, false, eqb, List, length, get_or, Result, Ok, Err, refl, sym, ap, subst, ◌∙◌, arith, set}
use Rattle.std.proofs.lemmas.Bool.{ne_eqb}
use Rattle.std.proofs.lemmas.List.{get_or-set_same, get_or-set_other}
use Rattle.std.proofs.Math.ListN.{length-set}
use Rattle.pb_wire_defs.specs.Field.{Payload, Fault, deepest_group}
use Rattle.pb_wire_defs.specs.Field.Fault.{BadGroup}
use Rattle.answer_defs.specs.Steps.{◌>>=◌}
use Rattle.pb_wire_defs.specs.Reading.{tag_at, payload_at, group_at}
use Rattle.answer_defs.proofs.Steps.{bind_given, bind_bind, bind_same}
use Rattle.pb_wire_defs.proofs.Groups.{payload_at-plain, group_at-no_tag, group_at-end, group_at-other_end, group_at-payload_ok, group_at-fault, group_at-group, group_at-too_deep}

-- where no group may be open, wire types but those of the other payloads begin none
pub plain_none : (wire_type : ℕ) (bytes : List ℕ) → (wire_type ≡ 0 → ⊥) → (wire_type ≡ 1 → ⊥) → (wire_type ≡ 2 → ⊥) → (wire_type ≡ 5 → ⊥) → payload_at (group_at 0) 0 wire_type bytes ≡ Err BadGroup
unfolding payload_at
plain_none wire_type bytes not_0 not_1 not_2 not_5 = grind (arith, ne_eqb, group_at-too_deep)

-- what is behind the groups that are open, of which the last began last
pub behind_open : List ℕ → ℕ → List ℕ → Result (List ℕ) Fault
behind_open numbers zero bytes = Ok bytes
behind_open numbers (suc depth) bytes = group_at (deepest_group - depth) (get_or numbers depth 0) bytes >>= behind_open numbers depth

-- so many groups are open, and what is behind them is what is told
pub record Nested (numbers : List ℕ) (depth : ℕ) (rest : List ℕ) (told : Result (List ℕ) Fault) : Type 0 where
  pub room : deepest_group ≤ length numbers
  pub deep : depth ≤ deepest_group
  pub whole : behind_open numbers depth rest ≡ told

-- a number behind those of the open groups makes no difference
behind_set : (numbers : List ℕ) (at n depth : ℕ) (bytes : List ℕ) → depth ≤ at → behind_open (set numbers at n) depth bytes ≡ behind_open numbers depth bytes
unfolding behind_open
behind_set numbers at n zero bytes le = refl
behind_set numbers at n (suc depth) bytes le =
    grind (arith, get_or, get_or-set_other, bind_same, behind_open, behind_set numbers at n depth)

pub begins : (numbers : List ℕ) (number : ℕ) (bytes : List ℕ) → deepest_group ≤ length numbers → get_or numbers 0 0 ≡ number → Nested numbers 1 bytes (group_at deepest_group number bytes)
unfolding behind_open
begins numbers number bytes room is = record {
  room = room;
  deep = omega arith;
  whole = rw is (bind_given (group_at deepest_group number bytes));
}

-- behind a group in front stand the groups that were open before it
within : (deeper d : ℕ) (numbers rest : List ℕ) (tag : ℕ) (after : List ℕ) → tag_at rest ≡ Ok (tag, after) → tag % 8 ≡ 3 → deepest_group - d ≡ suc deeper → (group_at deeper (tag / 8) after >>= behind_open numbers (suc d)) ≡ (group_at (suc deeper) (get_or numbers d 0) rest >>= behind_open numbers d)
unfolding behind_open
within deeper d numbers rest tag after tagged typed levels =
    let own : List ℕ → Result (List ℕ) Fault = λ r. group_at (suc deeper) (get_or numbers d 0) r in
    let opened : (group_at deeper (tag / 8) after >>= behind_open numbers (suc d)) ≡ (group_at deeper (tag / 8) after >>= λ r. own r >>= behind_open numbers d) = bind_same (group_at deeper (tag / 8) after) (behind_open numbers (suc d)) (λ r. own r >>= behind_open numbers d) (λ r. rw levels refl) in
    opened ∙ sym (bind_bind (group_at deeper (tag / 8) after) own (behind_open numbers d)) ∙ ap (λ (r : Result (List ℕ) Fault). r >>= behind_open numbers d) (sym (group_at-group deeper (get_or numbers d 0) rest (tag, after) tagged typed))

module _ (numbers : List ℕ) (depth : ℕ) (rest : List ℕ) (told : Result (List ℕ) Fault) (so_far : Nested numbers depth rest told) where
  -- no group is open any more
  pub ends : depth ≤ 0 → told ≡ Ok rest
  unfolding behind_open
  ends none =
      let done : depth ≡ 0 = omega arith in
      let whole : behind_open numbers 0 rest ≡ told = subst (λ (d : ℕ). behind_open numbers d rest ≡ told) done so_far.whole in
      sym whole

  -- what is behind the group that began last decides
  last_open : (d : ℕ) → depth ≡ suc d → (group_at (suc (deepest_group - suc d)) (get_or numbers d 0) rest >>= behind_open numbers d) ≡ told
  unfolding behind_open
  last_open d is = grind (arith, behind_open)

  -- no tag in front
  pub no_tag : (fault : Fault) → 0 < depth → tag_at rest ≡ Err fault → told ≡ Err fault
  no_tag fault some e = grind (arith, last_open (depth - 1) (omega arith), group_at-no_tag)

  module _ (tag : ℕ) (after : List ℕ) (some : 0 < depth) (tagged : tag_at rest ≡ Ok (tag, after)) where
    -- a group too many
    pub too_deep : tag % 8 ≡ 3 → depth ≡ deepest_group → told ≡ Err BadGroup
    too_deep typed full =
        let is : depth ≡ suc (depth - 1) = omega arith in
        let none : deepest_group - suc (depth - 1) ≡ 0 = omega arith in
        sym (last_open (depth - 1) is) ∙ rw (none, group_at-group 0 (get_or numbers (depth - 1) 0) rest (tag, after) tagged typed, group_at-too_deep (tag / 8) after) refl

    -- the end of another group
    pub other_end : tag % 8 ≡ 4 → (get_or numbers (depth - 1) 0 ≡ tag / 8 → ⊥) → told ≡ Err BadGroup
    other_end typed other =
        let is : depth ≡ suc (depth - 1) = omega arith in
        let differs : eqb (tag / 8) (get_or numbers (depth - 1) 0) ≡ false = ne_eqb _ _ (λ e. other (sym e)) in
        sym (last_open (depth - 1) is) ∙ rw (group_at-other_end (deepest_group - suc (depth - 1)) (get_or numbers (depth - 1) 0) rest (tag, after) tagged typed differs) refl

    -- the end of the group that began last
    pub closes : (less : ℕ) → tag % 8 ≡ 4 → get_or numbers (depth - 1) 0 ≡ tag / 8 → less ≡ depth - 1 → Nested numbers less after told
    closes less typed own less_is =
        let is : depth ≡ suc less = omega arith in
        let own_at : tag / 8 ≡ get_or numbers less 0 = rw less_is (sym own) in
        let behind : group_at (suc (deepest_group - suc less)) (get_or numbers less 0) rest ≡ Ok after = group_at-end (deepest_group - suc less) (get_or numbers less 0) rest (tag, after) tagged typed own_at in
        record {
          room = so_far.room;
          deep = omega (arith, so_far.deep);
          whole = sym (ap (λ (r : Result (List ℕ) Fault). r >>= behind_open numbers less) behind) ∙ last_open less is;
        }

    -- one group more
    pub opens : (more : ℕ) → tag % 8 ≡ 3 → depth < deepest_group → more ≡ depth + 1 → Nested (set numbers depth (tag / 8)) more after told
    unfolding behind_open
    opens more typed below more_is =
        let d = depth - 1 in
        let is : depth ≡ suc d = omega arith in
        let more_suc : more ≡ suc depth = omega arith in
        let levels : deepest_group - suc d ≡ suc (deepest_group - suc depth) = omega arith in
        let level : deepest_group - depth ≡ deepest_group - suc d = omega arith in
        let here : get_or (set numbers depth (tag / 8)) depth 0 ≡ tag / 8 = get_or-set_same numbers depth (tag / 8) 0 (omega (arith, so_far.room)) in
        let inner = group_at (deepest_group - suc d) (tag / 8) after in
        let same : (inner >>= behind_open (set numbers depth (tag / 8)) depth) ≡ (inner >>= behind_open numbers depth) = bind_same inner _ _ (λ r. behind_set numbers depth (tag / 8) depth r (omega arith)) in
        let opened : behind_open (set numbers depth (tag / 8)) more after ≡ (inner >>= behind_open (set numbers depth (tag / 8)) depth) = rw (more_suc, here, level) refl in
        let last_level : deepest_group - d ≡ suc (deepest_group - suc d) = omega arith in
        let onward : (inner >>= behind_open numbers (suc d)) ≡ (group_at (suc (deepest_group - suc d)) (get_or numbers d 0) rest >>= behind_open numbers d) = within (deepest_group - suc d) d numbers rest tag after tagged typed last_level in
        record {
          room = rw length-set so_far.room;
          deep = omega arith;
          whole = opened ∙ same ∙ ap (λ (n : ℕ). inner >>= behind_open numbers n) is ∙ onward ∙ last_open d is;
        }

    -- a payload that is no group and no end
    pub passes : (payload : Payload × List ℕ) → (tag % 8 ≡ 3 → ⊥) → (tag % 8 ≡ 4 → ⊥) → payload_at (group_at 0) 0 (tag % 8) after ≡ Ok payload → Nested numbers depth payload.1 told
    unfolding behind_open
    passes payload plain other e =
        let d = depth - 1 in
        let is : depth ≡ suc d = omega arith in
        let deeper = deepest_group - suc d in
        let carried : payload_at (group_at deeper) (tag / 8) (tag % 8) after ≡ Ok payload = payload_at-plain (group_at deeper) (group_at 0) (tag / 8) 0 (tag % 8) after (ne_eqb _ _ plain) ∙ e in
        let behind : group_at (suc deeper) (get_or numbers d 0) rest ≡ group_at (suc deeper) (get_or numbers d 0) payload.1 = group_at-payload_ok deeper (get_or numbers d 0) rest (tag, after) tagged payload (ne_eqb _ _ other) carried in
        let levels : deepest_group - d ≡ suc deeper = omega (arith, so_far.deep) in
        record {
          room = so_far.room;
          deep = so_far.deep;
          whole = ap (λ (n : ℕ). behind_open numbers n payload.1) is ∙ rw (levels, ← behind) (last_open d is);
        }

    -- no payload behind the tag
    pub fails : (fault : Fault) → (tag % 8 ≡ 3 → ⊥) → (tag % 8 ≡ 4 → ⊥) → payload_at (group_at 0) 0 (tag % 8) after ≡ Err fault → told ≡ Err fault
    fails fault plain other e =
        let d = depth - 1 in
        let is : depth ≡ suc d = omega arith in
        let deeper = deepest_group - suc d in
        let carried : payload_at (group_at deeper) (tag / 8) (tag % 8) after ≡ Err fault = payload_at-plain (group_at deeper) (group_at 0) (tag / 8) 0 (tag % 8) after (ne_eqb _ _ plain) ∙ e in
        let behind : group_at (suc deeper) (get_or numbers d 0) rest ≡ Err fault = group_at-fault deeper (get_or numbers d 0) rest (tag, after) tagged fault (ne_eqb _ _ other) carried in
        sym (last_open d is) ∙ rw behind refl
