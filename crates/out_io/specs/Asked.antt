-- What was asked of a store between two moments, and what its answers say of what it holds.
use Rattle.std.specs.Prelude.{◌≡◌, ◌↔◌, ◌++◌, List, All, IfOk, ⊤}
use Rattle.out_io.specs.Contents.{Contents}
use Rattle.out_io.specs.History.{Call, Put, Read, Write}

-- the call is a reading
abbrev pub IsReading : Call → Type 0
IsReading (Read name found) = ⊤
IsReading (Write name bytes done) = ⊥
IsReading (Put bytes done) = ⊥

-- the files agree with the call: if it is a reading, it found what they hold under its name
abbrev pub Agrees : Contents → Call → Type 0
Agrees files (Read name found) = IfOk found (λ f. f ≡ files name)
Agrees files (Write name bytes done) = ⊤
Agrees files (Put bytes done) = ⊤

-- The store was only read. By the answers there may be these files after it exactly where there
-- might be before it, and each of these readings found what they hold.
pub record OnlyAsks (calls calls_after : List Call) (held held_after : Contents → Type 0) : Type 0
  where
    pub made : List Call
    pub added : calls_after ≡ made ++ calls
    pub readings : All IsReading made
    pub holds : (files : Contents) → held_after files ↔ (held files × All (Agrees files) made)
