use Rattle.std.proofs.Common.{◌<◌, length, refl, arith}
use Rattle.std.proofs.lemmas.List.{map-set}
use Rattle.cir_meaning.specs.Arrays.{single}
use Rattle.cir_meaning.specs.Values.{Known}
use Rattle.cir_arrays.specs.Shown.{datum_of}
use Rattle.cir_frame.proofs.Numbered.{variable_is}
use Rattle.cir_frame.proofs.frame.Frame.forget_variable.Goals as goal

pub returns-then-n-len : goal.returns-then-n-len
returns-then-n-len c =
    let vs = c.args.self.now.variables.items in
    let h : c.args.n < length vs = omega (arith, c.len.ensures) in
    λ k. rw (
      map-set datum_of vs c.args.n c.forget.new.self,
      c.forget.ensures,
      variable_is vs c.args.n c.index_mut.result.now (single (Known 0)) h c.index_mut.ensures.value,
    ) refl
