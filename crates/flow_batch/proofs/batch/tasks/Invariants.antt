use Rattle.std.proofs.Common.{◌≡◌, map, take}
use Rattle.flow_engine.specs.Task.{task}
use Rattle.flow_batch.proofs.batch.tasks.Given as goal

abbrev pub invariant-loop-start : goal.invariant-loop-start
invariant-loop-start l =
    l.tasks.items ≡ map (λ start. task l.flow start.items l.fuel) (take l.start-index l.starts)
