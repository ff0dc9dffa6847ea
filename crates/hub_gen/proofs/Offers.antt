-- Offers, message by message.
use Rattle.std.proofs.Common.{◌≡◌, ◌∙◌, ℕ, ◌+◌, ◌*◌, ◌<◌, sym, ap, subst, List, [], ◌∷◌, ◌++◌, map, arith}
use Rattle.std.specs.List.{range_with_len}
use Rattle.std.proofs.lemmas.List.FromFn.{map-range_with_len_more}
use Rattle.std.proofs.lemmas.List.Elements.{All-map}
use Rattle.hub_gen_defs.specs.Messages.{Offered, offer_of, offers_of}
use Rattle.hub_gen.specs.Steps.{AreOfTwoFeeds}

-- the first messages were made, of one sample, and all their entities drawn
pub record Made (seed trips : ℕ) (seed' trips' drawn : ℕ) (offers : List Offered) (count : ℕ) : Type 0 where
  pub same_seed : seed' ≡ seed
  pub same_trips : trips' ≡ trips
  pub counted : drawn ≡ 20 * count
  pub are : offers ≡ offers_of seed trips count

pub made_none : (seed trips seed' trips' drawn : ℕ) (offers : List Offered) → seed' ≡ seed → trips' ≡ trips → drawn ≡ 0 → offers ≡ [] → Made seed trips seed' trips' drawn offers 0
unfolding offers_of
made_none seed trips seed' trips' drawn offers same_seed same_trips zero none = record { same_seed = same_seed; same_trips = same_trips; counted = zero; are = none }

pub made_more : (seed trips seed' trips' drawn : ℕ) (offers : List Offered) (count : ℕ) (offer : Offered) (more : List Offered) (seed'' trips'' drawn' : ℕ)
    → Made seed trips seed' trips' drawn offers count → offer ≡ offer_of seed' trips' (count + 1) → seed'' ≡ seed' → trips'' ≡ trips' → drawn' ≡ 20 * (count + 1)
    → more ≡ offers ++ offer ∷ [] → Made seed trips seed'' trips'' drawn' more (count + 1)
unfolding offers_of
made_more seed trips seed' trips' drawn offers count offer more seed'' trips'' drawn' before is same_seed same_trips all appended =
    let at_seed : offer ≡ offer_of seed trips' (count + 1) = subst (λ s. offer ≡ offer_of s trips' (count + 1)) before.same_seed is in
    let at_trips : offer ≡ offer_of seed trips (count + 1) = subst (λ t. offer ≡ offer_of seed t (count + 1)) before.same_trips at_seed in
    let at : 1 + count ≡ count + 1 = omega arith in
    record {
      same_seed = same_seed ∙ before.same_seed;
      same_trips = same_trips ∙ before.same_trips;
      counted = all;
      are = appended ∙ ap (λ xs. xs ++ offer ∷ []) before.are ∙ ap (λ o. map (offer_of seed trips) (range_with_len 1 count) ++ o ∷ []) at_trips
          ∙ sym (map-range_with_len_more (offer_of seed trips) 1 count (count + 1) at);
    }

pub made_all : (seed trips seed' trips' drawn : ℕ) (offers : List Offered) (count messages : ℕ) → Made seed trips seed' trips' drawn offers count → count ≡ messages → offers ≡ offers_of seed trips messages
made_all seed trips seed' trips' drawn offers count messages made all = made.are ∙ ap (offers_of seed trips) all

-- each goes to one of the two feeds
pub of_two_feeds : (seed trips messages : ℕ) (offers : List Offered) → offers ≡ offers_of seed trips messages → AreOfTwoFeeds offers
unfolding offers_of
of_two_feeds seed trips messages offers is =
    subst AreOfTwoFeeds (sym is) (All-map (λ offer. offer.feed < 2) (offer_of seed trips) (range_with_len 1 messages) (λ k d within. omega arith))
