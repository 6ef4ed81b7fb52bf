use Rattle.std.proofs.Common.{◌≡◌, true, rules, refl}
use Rattle.cir_resolve.specs.Answers.{state_of}
use Rattle.cir_resolve.proofs.resolving.function.Goals as goal

pub returns : goal.returns
unfolding state_of
returns c =
    let own : c.is_function.result ≡ true = search rules in
    rw (← c.as_slice.ensures, ← c.is_function.ensures, own, ← c.as_slice-2.ensures)
    (rw (← c.new-scopes.ensures, c.in_ok-whole_body.ensures) refl)
