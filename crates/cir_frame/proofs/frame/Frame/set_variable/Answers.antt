use Rattle.std.proofs.Common.{refl}
use Rattle.std.proofs.lemmas.List.{map-set}
use Rattle.cir_arrays.specs.Shown.{datum_of}
use Rattle.cir_frame.proofs.frame.Frame.set_variable.Goals as goal

pub returns-then-n-len : goal.returns-then-n-len
returns-then-n-len c =
    λ k. rw (map-set datum_of c.args.self.now.variables.items c.args.n c.args.value) refl
