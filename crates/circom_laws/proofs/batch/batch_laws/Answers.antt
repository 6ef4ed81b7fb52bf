use Rattle.circom_gold.proofs.BatchLaws.{each_as_witness, status_of, written_batch}
use Rattle.circom_laws.proofs.batch.batch_laws.Goals as goal

pub returns-clause-status : goal.returns-clause-status
returns-clause-status c = status_of

pub returns-clause-written : goal.returns-clause-written
returns-clause-written c = written_batch

pub returns-clause-items : goal.returns-clause-items
returns-clause-items c = each_as_witness
