use Rattle.std.proofs.Common.{◌≡◌, sym, ap, ◌∙◌, arith, length, take, drop, ◌+◌, ◌≤◌}
use Rattle.std.proofs.lemmas.List.{with_items_is, length-take-le}
use Rattle.std.proofs.Common.{length-drop}
use Rattle.script_lines.proofs.Windows.{hand_read, hand_same, none_taken, none_remains}
use Rattle.script_lines.proofs.window.Window.read_piece.Goals as goal
use Rattle.script_lines.proofs.window.Window.read_piece.Goals.{then-self-room, else-self-room}

pub returns-in-Got-clause-refills : goal.returns-in-Got-clause-refills
returns-in-Got-clause-refills g c =
    let within : c.in-Got.count ≤ c.if-self-room.most = c.in-Got.ensures.within.1 in
    let allowed : c.if-self-room.most ≤ c.self.inside.allowed = elim c.if-self-room.branch [ then-self-room w ↦ omega arith | else-self-room w ↦ omega arith ] in
    let before = ap length c.deref_mut.ensures.value in
    let same : length c.self.inside.bytes.items ≡ c.self.inside.bytes.len = sym c.self.inside.bytes.ok.0 in
    let room : c.self.inside.end + c.if-self-room.most ≤ length c.self.inside.bytes.items = elim c.if-self-room.branch [ then-self-room w ↦ omega arith | else-self-room w ↦ omega arith ] in
    let long : length c.read_behind.new.bytes ≡ length c.self.inside.bytes.items = omega arith in
    let items = with_items_is c.self.inside.bytes c.read_behind.new.bytes (long ∙ same) in
    let enough : c.self.inside.end + c.in-Got.count ≤ length c.read_behind.new.bytes = omega arith in
    let behind = length-drop c.self.inside.end c.read_behind.new.bytes in
    let some : c.in-Got.count ≤ length (drop c.self.inside.end c.read_behind.new.bytes) = omega arith in
    let size = length-take-le c.in-Got.count (drop c.self.inside.end c.read_behind.new.bytes) some in
    let first : c.self.inside.start ≤ c.self.inside.end = c.self.invariant.0 in
    let old_end : c.self.inside.end ≤ length c.self.inside.bytes.items = omega arith in
    let allowed_is = ap (λ w. w.allowed) c.self.view_is in
    record {
      more = take c.in-Got.count (drop c.self.inside.end c.read_behind.new.bytes);
      some = omega (arith, c.in-Got.ensures.within.0);
      held = rw items (hand_read c.self.inside.bytes.items c.read_behind.new.bytes c.args.self.now.held c.self.inside.start c.self.inside.end c.in-Got.count
          (ap (λ w. w.held) c.self.view_is) first old_end enough (c.read_behind.ensures.front ∙ ap (take c.self.inside.end) c.deref_mut.ensures.value));
      allowed = omega arith;
      read = c.in-Got.ensures.bytes;
    }

pub returns-in-End-clause-refills : goal.returns-in-End-clause-refills
returns-in-End-clause-refills g c =
    let before = ap length c.deref_mut.ensures.value in
    let same : length c.self.inside.bytes.items ≡ c.self.inside.bytes.len = sym c.self.inside.bytes.ok.0 in
    let long : length c.read_behind.new.bytes ≡ length c.self.inside.bytes.items = omega arith in
    let items = with_items_is c.self.inside.bytes c.read_behind.new.bytes (long ∙ same) in (
      record {
        held = rw items (hand_same c.self.inside.bytes.items c.read_behind.new.bytes c.args.self.now.held c.self.inside.start c.self.inside.end
            (ap (λ w. w.held) c.self.view_is) c.self.invariant.0 (c.read_behind.ensures.front ∙ ap (take c.self.inside.end) c.deref_mut.ensures.value));
        allowed = ap (λ w. w.allowed) c.self.view_is;
        read = none_taken _ _ c.in-End.ensures.bytes.0;
      },
      none_remains _ _ c.in-End.ensures.bytes.1,
    )

pub returns-in-Failed-clause-refills : goal.returns-in-Failed-clause-refills
returns-in-Failed-clause-refills g c =
    let before = ap length c.deref_mut.ensures.value in
    let same : length c.self.inside.bytes.items ≡ c.self.inside.bytes.len = sym c.self.inside.bytes.ok.0 in
    let long : length c.read_behind.new.bytes ≡ length c.self.inside.bytes.items = omega arith in
    let items = with_items_is c.self.inside.bytes c.read_behind.new.bytes (long ∙ same) in
    record {
      held = rw items (hand_same c.self.inside.bytes.items c.read_behind.new.bytes c.args.self.now.held c.self.inside.start c.self.inside.end
          (ap (λ w. w.held) c.self.view_is) c.self.invariant.0 (c.read_behind.ensures.front ∙ ap (take c.self.inside.end) c.deref_mut.ensures.value));
      allowed = ap (λ w. w.allowed) c.self.view_is;
      read = none_taken _ _ c.in-Failed.ensures.bytes;
    }
