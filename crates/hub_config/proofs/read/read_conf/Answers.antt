use Rattle.toml.specs.View.{table_view}
use Rattle.hub_config.proofs.Documents.{document_is, refuses_document}
use Rattle.hub_config.proofs.read.read_conf.Goals as goal

pub returns-in-Ok : goal.returns-in-Ok
returns-in-Ok c = rw (document_is c.args.bytes.now (table_view c.in-Ok.table) c.in-Ok.ensures.ok.0 c.in-Ok.ensures.ok.1) c.conf_in.ensures

pub returns-in-Err : goal.returns-in-Err
returns-in-Err c = refuses_document c.args.bytes.now c.in-Err.error c.fault_of.result c.in-Err.ensures.refused c.fault_of.ensures
