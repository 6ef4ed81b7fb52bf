-- The store and the sink in memory.
use Rattle.std.specs.Prelude.{ℕ, ◌+◌, ◌-◌, ◌^◌, ◌<◌, min, List, Contains, Vec, String}
use Rattle.std.specs.declared.alloc.Global.{Global}
use Rattle.std.specs.BTreeMap.{BTreeMap, get_by_text}
use Rattle.out_io.specs.Contents.{Contents, bytes_of}

-- what the map holds, by the bytes of its keys
abbrev pub files_of : BTreeMap (String Global) (Vec ℕ Global) → Contents
files_of files name = bytes_of (get_by_text files name)

-- this call's number stands in the list; the last number of the type is no call's
abbrev pub IsDue : List ℕ → ℕ → Type 0
IsDue fail calls = (calls < 2 ^ 32 - 1) × Contains fail calls

-- the number of the call after this one
abbrev pub next_call : ℕ → ℕ
next_call calls = min (calls + 1) (2 ^ 32 - 1)
