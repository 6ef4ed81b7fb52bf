use Rattle.std.proofs.Common.{List, ℕ, sym, ◌∙◌, ap, subst, [], arith}
use Rattle.atomic_table.specs.Table as table
use Rattle.flow_core.specs.Events.{opening}
use Rattle.flow_board.specs.Shows.{Shows}
use Rattle.flow_board.specs.Views.{first}
use Rattle.flow_board.specs.Rule.{Ruled}
use Rattle.flow_board.specs.Seats.{Stands}
use Rattle.flow_board.proofs.Makes.{opens_board, stands}
use Rattle.flow_board.proofs.board.Board.make.Goals as goal

pub of_words-requires : goal.of_words-requires
of_words-requires g c = let W : List ℕ
    → Type 0 = λ ws. Shows (g.A.Answers.flow c.args.answers)
    (opening (g.A.Answers.flow c.args.answers)) ws in
    let shows = subst W (sym c.as_slice.ensures.value) c.in_ok-words.ensures.shows in
    subst (λ y. Ruled (g.A.Answers.flow y)
    (table.opening c.as_slice.result.now [] (first (g.A.Answers.flow y))))
    (sym c.of-key.ensures)
    (opens_board (g.A.Answers.flow c.args.answers) c.args.graph.now c.as_slice.result.now
    c.requires.net c.facts.ensures.net c.requires.flow c.facts.ensures.strands
    c.in_ok-words.ensures.numbers shows)

pub invariant_of-board : goal.invariant_of-board
invariant_of-board g c = let h = c.in_ok-table.ensures in
    let W : List ℕ → Type 0 = λ ws. Shows (g.A.Answers.flow c.args.answers)
    (opening (g.A.Answers.flow c.args.answers)) ws in
    let shows = subst W (sym c.as_slice.ensures.value) c.in_ok-words.ensures.shows in
    let cells-is = ap (λ n. n.cells) c.graph.view_is in
    let strands-is = ap (λ n. n.strands) c.graph.view_is in
    let key-is = ap (λ k. k.value) h.5 ∙ c.of-key.ensures in
    subst (λ y. Stands (g.A.Answers.flow y) c.args.graph.now c.graph.inside.cells
    c.graph.inside.strands c.in_ok-table.table.shared.table_id) (sym key-is)
    (stands (g.A.Answers.flow c.args.answers) c.args.graph.now c.graph.inside.cells
    c.graph.inside.strands c.in_ok-table.table.shared.table_id c.as_slice.result.now
    c.requires.net c.facts.ensures.net c.requires.flow cells-is strands-is
    (let s = c.facts.ensures.cells in omega arith) (let s = c.facts.ensures.strands in
    omega arith) shows h.0 h.1)
