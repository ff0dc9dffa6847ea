-- The message is the one that was made.
use Rattle.test_running.proofs.showing.Shower.show_next.Given as goal

abbrev pub ghost-put_message : goal.ghost-put_message
ghost-put_message g a = record { feed = 0; message = a.message.now }
