use Rattle.cir_lc.proofs.Forms.{form_value, naming_within}
use Rattle.cir_lc.proofs.laws.form_numbers.Goals as goal

pub returns : goal.returns
returns c = λ n ts w. form_value n ts (naming_within n ts w)
