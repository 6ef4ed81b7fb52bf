use Rattle.std.proofs.Common.{refl}
use Rattle.out_io.specs.Faults.{Rose}
use Rattle.circom_files.specs.Shown.{shown}
use Rattle.circom_files.proofs.Given.{put_whole}
use Rattle.circom_files.proofs.writing.put_text.Goals as goal

pub returns-in-Ok-clause-puts : goal.returns-in-Ok-clause-puts
returns-in-Ok-clause-puts g c =
    put_whole (shown c.args.reply.now)
    (Rose (g.K.Sink.faults c.args.out.now) (g.K.Sink.faults c.put.new.self))
    c.args.reply.now.status c.as_slice.result.now (g.K.Sink.may_have c.args.out.now)
    (g.K.Sink.may_have c.put.new.self) c.as_slice.ensures refl c.in-Ok.ensures.appended
