-- Two graphs for tests, with their start values and answers
use Rattle.std.specs.Prelude.{[], ◌∷◌, Some, None}
use Rattle.flow_core.specs.Net.{Net}
use Rattle.flow_core.specs.Flow.{Flow, Refuses, Gives}

-- strand 0 gives 33 from cell 0, which starts with 3, and strand 1 gives 34 from that
abbrev pub chain : Net → Flow
chain n = record {
  net = n;
  start = Some 3 ∷ None ∷ None ∷ [];
  answers =
      Gives (33 ∷ []) ∷ Gives (34 ∷ []) ∷ [];
}

-- strand 0 refuses, and strand 1 gives 7
abbrev pub pair : Net → Flow
pair n = record { net = n; start = None ∷ None ∷ []; answers = Refuses ∷ Gives (7 ∷ []) ∷ [] }
