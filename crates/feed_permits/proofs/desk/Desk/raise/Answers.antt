-- The key is granted once more, vouches for it in a note, and the desk counts.
use Rattle.std.proofs.Common.{◌≡◌, ◌<◌, ◌+◌, ℕ, List, true, length, refl, sym, ap, ◌∙◌, subst, arith}
use Rattle.std.specs.Prelude.{slice_index, slice_set, nat_lt}
use Rattle.atomic_table.specs.Seated.{TableId}
use Rattle.atomic_table.specs.Table.Act.{keeps}
use Rattle.feed_permits.specs.declared.view.View.{View}
use Rattle.feed_permits.specs.Seen.{DeskSeen, KeySeen}
use Rattle.feed_permits.specs.Views.{with_low, grant_note, granted_once, only, counted}
use Rattle.feed_permits.proofs.Moves.{grants, vouches, notices, counts, raised, only_here}
use Rattle.feed_permits.proofs.desk.Desk.raise.Goals as goal

abbrev desk_seen : TableId → ℕ → List ℕ → DeskSeen
desk_seen table made counts = record { table = table; made = made; counts = counts }

pub fetch_add-requires : goal.fetch_add-requires
fetch_add-requires c =
    let few : c.key.inside.seat.me.0.granted < 253402300799 = subst (λ n. n < 253402300799) (sym (ap (λ k. k.granted) c.key.view_is)) c.requires.room in (
      ap (λ k. k.table) c.key.view_is ∙ c.requires.table ∙ sym (ap (λ d. d.table) c.self.view_is),
      omega (arith, c.self.invariant.words, c.key.invariant.small),
      λ s k size at room. (_, keeps, tt, grants s.words s.views _ _ _ c.key.invariant.grants c.key.invariant.numbered c.key.invariant.small few k at, refl),
    )

pub split_seat-note-requires : goal.split_seat-note-requires
split_seat-note-requires c =
    let granting : c.fetch_add.new.seat.me.0.grants ≡ true = ap (λ m. m.0.grants) c.fetch_add.ensures.2 ∙ c.key.invariant.grants in (
      c.fetch_add.ensures.0 ∙ ap (λ k. k.table) c.key.view_is ∙ c.requires.table ∙ sym (ap (λ d. d.table) c.self.view_is),
      omega (arith, c.self.invariant.words),
      λ s k at. vouches s.words s.views _ _ granting k at,
    )

pub join_seat-requires : goal.join_seat-requires
join_seat-requires c = (
  c.self.invariant.own,
  c.split_seat-note.ensures.3 ∙ c.fetch_add.ensures.0 ∙ ap (λ k. k.table) c.key.view_is ∙ c.requires.table ∙ sym (ap (λ d. d.table) c.self.view_is),
  ap (λ m. m.1) c.split_seat-note.ensures.4,
  omega (arith, c.self.invariant.words),
  λ s k at apart there. notices s.words s.views _ _ _ _ k at apart there,
)

pub load-requires : goal.load-requires
load-requires c =
    let within : c.key.inside.number < length c.join_seat.new.seat.me.0.counts = omega (arith, ap (λ m. length m.0.counts) c.join_seat.ensures.2, c.self.invariant.wide, c.key.invariant.small) in (
      c.join_seat.ensures.0 ∙ c.self.invariant.own,
      omega (arith, c.self.invariant.words, c.key.invariant.small),
      λ s k size at room. (_, keeps, tt, counts s.words s.views _ _ _ within k at, refl),
    )

pub returns-clause-desk : goal.returns-clause-desk
returns-clause-desk c =
    let old : View = c.self.inside.seat.me.0 in
    let key : View = c.key.inside.seat.me.0 in
    let n : ℕ = c.key.inside.number in
    let vouched : View = with_low old (grant_note (granted_once key)) in
    let joined : c.join_seat.new.seat.me.0 ≡ vouched =
    ap (λ m. m.0) c.join_seat.ensures.2
    ∙ ap (λ v. with_low old v) (ap (λ m. m.0) c.split_seat-note.ensures.4 ∙ ap (λ v. grant_note v) (ap (λ m. m.0) c.fetch_add.ensures.2)) in
    let level : slice_index old.counts n ≡ key.granted =
    ap (λ (d : DeskSeen). slice_index d.counts n) c.self.view_is
    ∙ ap (λ (k : KeySeen). slice_index c.args.self.now.counts k.number) c.key.view_is
    ∙ c.requires.level ∙ sym (ap (λ (k : KeySeen). k.granted) c.key.view_is) in
    let low : slice_index vouched.low n ≡ key.granted + 1 =
    ap (λ m. slice_index (only key.number (key.granted + 1)) m) (sym c.key.invariant.numbered) ∙ only_here key.number (key.granted + 1) in
    let now : c.load.new.seat.me.0 ≡ record vouched { counts = slice_set old.counts n (key.granted + 1) } =
    ap (λ m. m.0) c.load.ensures.2 ∙ ap (λ v. counted n v) joined ∙ raised n key.granted vouched (nat_lt (slice_index old.counts n) (slice_index vouched.low n)) refl level low in
    ap (λ (v : View). desk_seen c.self.inside.table.shared.table_id v.made v.counts) now
    ∙ ap (λ (d : DeskSeen). desk_seen d.table d.made (slice_set d.counts n (key.granted + 1))) c.self.view_is
    ∙ ap (λ (k : KeySeen). desk_seen c.args.self.now.table c.args.self.now.made (slice_set c.args.self.now.counts k.number (k.granted + 1))) c.key.view_is
