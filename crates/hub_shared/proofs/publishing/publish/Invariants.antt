-- The message is the one that the contract names.
use Rattle.hub_shared.proofs.publishing.publish.Given as goal

abbrev pub ghost-put : goal.ghost-put
ghost-put g a = g.entry
