use Rattle.std.proofs.Common.{refl}
use Rattle.cir_lc.proofs.Forms.{form_known}
use Rattle.cir_lc.proofs.laws.one_form.Goals as goal

pub returns : goal.returns
returns c = λ n ts h w. form_known n ts _ h w refl
