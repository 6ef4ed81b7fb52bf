use Rattle.cir_meaning.proofs.TermCount.{terms_are_of}
use Rattle.cir_meaning.proofs.laws.terms_are_counted.Goals as goal

pub returns : goal.returns
returns c = terms_are_of
