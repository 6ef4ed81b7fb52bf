use Rattle.std.proofs.Common.{◌≡◌, ℕ, ◌-◌, List, ◌++◌, ◌∙◌, ap, arith, take, replicate, zero}
use Rattle.std.proofs.Common.{vec_len}
use Rattle.gold_ntt.proofs.Evaluation.{padded_same}
use Rattle.gold_ntt.proofs.polynomial.padded.Goals as goal

pub returns-clause-same : goal.returns-clause-same
returns-clause-same c =
    let all : List ℕ = c.extend_from_slice.new.self.items in
    let copied : all ≡ c.args.coefs.now =
    c.in_ok-extend_from_slice.ensures.items
    ∙ ap (λ (y : List ℕ). y ++ c.args.coefs.now) c.in_ok-all.ensures.items in
    record {
      fits = omega (arith, c.resize.new.self.ok, c.in_ok-resize.ensures.len);
      coefficient = λ k.
          padded_same c.args.coefs.now c.resize.new.self.items c.args.size
          (c.args.size - vec_len c.extend_from_slice.new.self) k c.requires
          (c.in_ok-resize.ensures.items
          ∙ ap (λ (y : List ℕ). take c.args.size y
          ++ replicate (c.args.size - vec_len c.extend_from_slice.new.self) zero) copied);
    }
