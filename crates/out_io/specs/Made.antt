-- A call as the history keeps it.
use Rattle.out_io.specs.History.{Call, Read, Write, Put, found_of}
use Rattle.out_io.specs.declared.history.Made.{Made}
use Rattle.out_io.specs.declared.history.Made.TheVariants as made

abbrev pub call_of : Made → Call
call_of (made.Read name found) = Read name.now (found_of found.now)
call_of (made.Write name bytes done) = Write name.now bytes.now done.now
call_of (made.Put bytes done) = Put bytes.now done.now
