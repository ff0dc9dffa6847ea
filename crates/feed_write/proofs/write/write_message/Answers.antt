-- What was put under an empty prefix is what the message is written as, and reads as the message.
use Rattle.std.proofs.Common.{◌<◌, ◌^◌, length, rules}
use Rattle.feed_write.proofs.Spelling.{written_plain, written_again}
use Rattle.feed_write.proofs.write.write_message.Goals as goal

pub returns-else-is_err-clause-written : goal.returns-else-is_err-clause-written
returns-else-is_err-clause-written c = written_plain c.put-answer.result c.args.message.now c.args.out.now.items c.put-answer.new.out.items c.put-answer.ensures.written

pub returns-else-is_err-clause-again : goal.returns-else-is_err-clause-again
returns-else-is_err-clause-again c = written_again c.put-answer.result c.args.message.now c.args.out.now.items c.put-answer.new.out.items (let small : length c.put-answer.new.out.items < 2 ^ 64 = search rules in small) (returns-else-is_err-clause-written c)
