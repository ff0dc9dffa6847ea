-- The state of the draws keeps in step with the entities.
use Rattle.std.proofs.Common.{◌≡◌, ◌∙◌, ℕ, suc, ◌+◌, ◌*◌, ◌%◌, refl, sym, ap, subst, List, [], ◌∷◌, ◌++◌, map, IfOk, Result, arith}
use Rattle.std.specs.List.{range_with_len}
use Rattle.std.proofs.lemmas.List.FromFn.{map-range_with_len_more}
use Rattle.std.specs.declared.alloc.AllocError.{AllocError}
use Rattle.rt_types.specs.declared.message.Entity.{Entity}
use Rattle.hub_gen_defs.specs.Draws.{draw, drawn_at, state_after, state_behind}
use Rattle.hub_gen_defs.specs.Messages.{entities_from, entity_by, entity_of}

-- at first nothing is drawn
pub none_drawn : (seed : ℕ) → seed ≡ state_after seed (2 * 0)
unfolding state_after
none_drawn seed = refl

one_drawn : (seed draws : ℕ) → state_behind (state_after seed draws) ≡ state_after seed (draws + 1)
unfolding state_after
one_drawn seed draws = let more : suc draws ≡ draws + 1 = omega arith in ap (state_after seed) more

-- an entity takes two draws
pub two_drawn : (seed entities state first second : ℕ) → state ≡ state_after seed (2 * entities) → first ≡ state_behind state → second ≡ state_behind first
    → second ≡ state_after seed (2 * (entities + 1))
two_drawn seed entities state first second at one two =
    let count : 2 * entities + 1 + 1 ≡ 2 * (entities + 1) = omega arith in
    let front : first ≡ state_after seed (2 * entities + 1) = one ∙ ap state_behind at ∙ one_drawn seed (2 * entities) in
    two ∙ ap state_behind front ∙ one_drawn seed (2 * entities + 1) ∙ ap (state_after seed) count

-- and is made of them
pub entity_drawn : (seed trips entities state first second r1 r2 : ℕ) (made : Result Entity AllocError)
    → state ≡ state_after seed (2 * entities) → first ≡ state_behind state → second ≡ state_behind first → r1 ≡ drawn_at first → r2 ≡ drawn_at second
    → IfOk made (λ entity. entity ≡ entity_by (r1 % trips) r2) → IfOk made (λ entity. entity ≡ entity_of seed trips entities)
entity_drawn seed trips entities state first second r1 r2 made at one two draws_trip draws_rest is =
    let front : first ≡ state_behind (state_after seed (2 * entities)) = one ∙ ap state_behind at in
    let back : second ≡ state_behind (state_after seed (2 * entities + 1)) = two ∙ ap state_behind (front ∙ one_drawn seed (2 * entities)) in
    let trip : r1 ≡ draw seed (2 * entities) = draws_trip ∙ ap drawn_at front in
    let rest : r2 ≡ draw seed (2 * entities + 1) = draws_rest ∙ ap drawn_at back in
    subst (λ b. IfOk made (λ entity. entity ≡ entity_by (draw seed (2 * entities) % trips) b)) rest
    (subst (λ a. IfOk made (λ entity. entity ≡ entity_by (a % trips) r2)) trip is)

-- so many entities from a number on were drawn, of the same sample
pub record Gave (seed trips first : ℕ) (seed' trips' given : ℕ) (entities : List Entity) (count : ℕ) : Type 0 where
  pub same_seed : seed' ≡ seed
  pub same_trips : trips' ≡ trips
  pub counted : given ≡ first + count
  pub are : entities ≡ entities_from seed trips first count

pub gave_none : (seed trips first : ℕ) (entities : List Entity) → entities ≡ [] → Gave seed trips first seed trips first entities 0
unfolding entities_from
gave_none seed trips first entities none = record { same_seed = refl; same_trips = refl; counted = omega arith; are = none }

pub gave_more : (seed trips first seed' trips' given : ℕ) (entities : List Entity) (count : ℕ) (entity : Entity) (more : List Entity) (seed'' trips'' given' : ℕ)
    → Gave seed trips first seed' trips' given entities count → entity ≡ entity_of seed' trips' given → seed'' ≡ seed' → trips'' ≡ trips' → given' ≡ given + 1
    → more ≡ entities ++ entity ∷ [] → Gave seed trips first seed'' trips'' given' more (count + 1)
unfolding entities_from
gave_more seed trips first seed' trips' given entities count entity more seed'' trips'' given' before is same_seed same_trips one appended =
    let at_seed : entity ≡ entity_of seed trips' given = subst (λ s. entity ≡ entity_of s trips' given) before.same_seed is in
    let at_trips : entity ≡ entity_of seed trips given = subst (λ t. entity ≡ entity_of seed t given) before.same_trips at_seed in
    let at : first + count ≡ given = sym before.counted in
    record {
      same_seed = same_seed ∙ before.same_seed;
      same_trips = same_trips ∙ before.same_trips;
      counted = let c = before.counted in omega (arith, c, one);
      are = appended ∙ ap (λ xs. xs ++ entity ∷ []) before.are ∙ ap (λ e. map (entity_of seed trips) (range_with_len first count) ++ e ∷ []) at_trips
          ∙ sym (map-range_with_len_more (entity_of seed trips) first count given at);
    }
