-- How many lists of start values a flow may be run on at once
use Rattle.std.specs.Prelude.{ℕ, ◌+◌, ◌*◌, ◌≤◌}
use Rattle.wit_flow.specs.Plan.{Plan}

-- each list has a board, which has a word for each cell and each strand, and up to 64 seats
abbrev pub size_each : Plan → ℕ
size_each p = p.graph.cells + p.graph.strands + 64

abbrev pub AreFew : Plan → ℕ → Type 0
AreFew p lists = lists * size_each p ≤ 33554432
