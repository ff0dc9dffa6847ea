use Rattle.std.proofs.Common.{◌≡◌, length, rules}
use Rattle.feed_read.proofs.Numbers.{set_last}
use Rattle.feed_read.proofs.nested.with_read.Goals as goal

pub returns : goal.returns
returns g c =
    let at : c.len-last.result ≡ length c.args.messages.items = search rules in
    record {
      message = c.read_into.new.message;
      read = c.in_ok-read_into.ensures;
      appended = set_last c.args.messages.items c.push.new.self.items _ _ c.len-last.result c.in_ok-push.ensures.items at;
    }
