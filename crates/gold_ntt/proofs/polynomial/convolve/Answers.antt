use Rattle.std.proofs.Common.{◌≡◌, ℕ, ◌^◌, length, arith}
use Rattle.gold_ntt.specs.Transform.{IsTransform}
use Rattle.gold_ntt.proofs.Interpolation.{convolved}
use Rattle.gold_ntt.proofs.polynomial.convolve.Goals as goal

pub returns : goal.returns
returns c = λ f g pad_f pad_g some_f some_g fits k low.
    let e : ℕ = c.requires.length.log in
    let size : length c.args.a.now ≡ 2 ^ e = c.requires.length.power in
    let same : length c.args.b.now ≡ 2 ^ e = omega arith in
    let whole : length c.multiply.new.a ≡ 2 ^ e = omega arith in
    let back : IsTransform e c.intt.new.a c.multiply.new.a = c.intt.ensures.undone e whole in
    convolved e (omega arith) c.args.a.now c.args.b.now c.ntt.new.a c.ntt-2.new.a c.multiply.new.a
    c.intt.new.a f g size same
    (c.ntt.ensures e size) (c.ntt-2.ensures e same) (λ j h. c.multiply.ensures j (omega arith))
    (omega arith) back
    (λ j h. c.intt.ensures.undoes e whole c.intt.new.a back j (omega arith)) pad_f pad_g some_f
    some_g fits k (omega arith)
