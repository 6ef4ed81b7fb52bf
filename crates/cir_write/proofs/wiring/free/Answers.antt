use Rattle.std.proofs.Common.{ℕ, Bool, false, ◌++◌, Option, Some, subst, sym}
use Rattle.cir_steps.specs.Making.{freed_at}
use Rattle.cir_make.specs.Shows.{IsKept, keys_of}
use Rattle.cir_write.specs.Waiting.{IsReleased, WasMade}
use Rattle.cir_write.proofs.Freeing.{kept_freed}
use Rattle.cir_make.proofs.Leading.{on_ok}
use Rattle.cir_write.proofs.wiring.free.Goals as goal

pub returns : goal.returns
returns c = λ first made x steps parts was kept.
    let f = c.args.frame.now in
    let old = c.args.cells.now in
    let new = c.release.new.cells in
    let j = c.in-Some.j in
    let made_so : WasMade (keys_of made) (Some j) false x old =
    subst (λ (o : Option ℕ). WasMade (keys_of made) o false x old) c.in-Some.is
    (subst (λ (b : Bool). WasMade (keys_of made) c.args.part b x old) c.if-was_fed.false was) in
    on_ok c.release.result (IsReleased j old new)
    (IsKept first f new made x (steps ++ freed_at c.args.part c.args.was_fed x))
    (λ r. subst (λ (o : Option ℕ). IsKept first f new made x
    (steps ++ freed_at o c.args.was_fed x)) (sym c.in-Some.is)
    (subst (λ (b : Bool). IsKept first f new made x (steps ++ freed_at (Some j) b x))
    (sym c.if-was_fed.false)
    (kept_freed first f old new made x steps j parts (sym c.if-not-is_part_fed.ensures) made_so r
    kept))) c.release.ensures
