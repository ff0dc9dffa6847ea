-- The message is the one that was judged.
use Rattle.hub_shared.proofs.locked.Locked.take_in.Given as goal

abbrev pub ghost-publish : goal.ghost-publish
ghost-publish g a = record { feed = a.feed; message = a.message.now.value }
