use Rattle.std.proofs.Common.{ℕ, Vec}
use Rattle.std.specs.declared.alloc.Global.{Global}
use Rattle.out_io.specs.Faults.{Rose}
use Rattle.circom_files.specs.Files.{bytes_in}
use Rattle.circom_files.specs.Steps.{HeldWith}
use Rattle.circom_files.proofs.Reading.{steps_later}
use Rattle.circom_files.proofs.inputs.bytes_after.Goals as goal

pub returns-clause-step : goal.returns-clause-step
returns-clause-step g c =
    steps_later (λ (v : Vec ℕ Global). v.items) (g.S.Store.may_hold c.bytes_in.new.store)
    (HeldWith (g.S.Store.may_hold c.bytes_in.new.store) c.args.first c.args.second)
    (λ files. bytes_in files c.args.name.now)
    (Rose (g.S.Store.faults c.args.store.now) (g.S.Store.faults c.bytes_in.new.store))
    (Rose (g.S.Store.faults c.args.store.now) (g.S.Store.faults c.bytes_in.new.store))
    c.bytes_in.result (λ files held. held.0) (λ rose. rose) c.bytes_in.ensures.step
