use Rattle.std.proofs.Common.{◌≡◌, string_bytes}
use Rattle.out_io.proofs.MapLemmas.{replaces}
use Rattle.out_io.proofs.memory.put_under.Goals as goal

pub returns-clause-ok : goal.returns-clause-ok
returns-clause-ok c =
    let key : string_bytes c.in_ok-key.key ≡ c.args.name.now = c.in_ok-key.ensures.ok in
    let bytes : c.in_ok-bytes.bytes.items ≡ c.args.bytes.now = c.in_ok-bytes.ensures.items in
    rw (← key, ← bytes)
    (replaces _ c.args.files.now c.insert.new.self _ c.in_ok-insert.ensures.updates)
