use Rattle.std.proofs.Common.{◌≡◌, ℕ, ◌+◌, ◌<◌, true, false, List, ◌∷◌, length, drop, get_or}
use Rattle.std.proofs.Common.{Option, Some, refl, arith}
use Rattle.std.specs.Prelude.{bytes_eq}
use Rattle.std.proofs.lemmas.Grind.{common_steps}
use Rattle.cir_meaning.specs.Frame.{is_inner}
use Rattle.cir_frame.specs.declared.signal.SignalEntry.{SignalEntry}
use Rattle.cir_arrays.proofs.Lists.{at_read}
use Rattle.cir_make.proofs.ports.port.Goals as goal

pub returns-then-not-is_inner-clause-found : goal.returns-then-not-is_inner-clause-found
returns-then-not-is_inner-clause-found c =
    let signals : List (Option SignalEntry) = c.args.signals.now in
    let n : ℕ = c.loop-n.n in
    let e : SignalEntry = c.in-Some.entry in
    let h : n < length signals = c.loop-n-test.true in
    let is : Some e ≡ get_or signals n (Some e) = rw c.in-Some.is at c.index-signals-n.is in
    let here : drop n signals ≡ Some e ∷ drop (n + 1) signals =
    at_read (λ xs. xs) signals n (Some e) h is in
    let named : bytes_eq e.name c.args.name.now ≡ true = grind (arith, common_steps) in
    let outer : is_inner e.direction ≡ false = cc in
    rw (← c.loop-n.invariant, here, named, outer) refl
