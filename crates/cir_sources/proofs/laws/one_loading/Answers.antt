use Rattle.cir_sources.proofs.OneLoading.{one_answer}
use Rattle.cir_sources.proofs.laws.one_loading.Goals as goal

pub returns : goal.returns
returns c = λ files name library a b p q. one_answer files library name a b p q
