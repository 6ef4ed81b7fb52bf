use Rattle.circom_gold.proofs.OneReply.{one_reply}
use Rattle.circom_laws.proofs.laws.one_reply.Goals as goal

pub returns : goal.returns
returns c = one_reply
