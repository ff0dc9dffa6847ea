-- The message is the one that the contract names.
use Rattle.test_running.proofs.showing.put_message.Given as goal

abbrev pub ghost-put : goal.ghost-put
ghost-put g a = g.entry
