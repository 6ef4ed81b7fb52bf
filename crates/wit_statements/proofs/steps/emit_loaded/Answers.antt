use Rattle.std.proofs.Common.{◌≡◌, ◌∙◌, ℕ, List, [], ◌++◌, length, ap}
use Rattle.std.specs.Prelude.{map}
use Rattle.wit_code.specs.declared.code.Proc.{Proc}
use Rattle.wit_lower.specs.Homes as L
use Rattle.wit_lower.specs.Pieces as P
use Rattle.wit_lower.specs.Procedures.{params_at}
use Rattle.wit_lower.specs.Sources as R
use Rattle.wit_lower.specs.Tasks as T
use Rattle.wit_sourced.specs.Loaded.{sources_in}
use Rattle.wit_sourced.specs.Loads.{source_of}
use Rattle.wit_sourced.specs.Shown.{scope_of}
use Rattle.wit_emit.specs.Grounds.{ground_of}
use Rattle.wit_emit.proofs.Chained.{then_made}
use Rattle.wit_statements.specs.Asked.{task_of}
use Rattle.wit_statements.proofs.steps.emit_loaded.Goals as goal

abbrev framed : (slots : ℕ) → P.Code → Proc
framed slots body = record { params = 0; slots = slots; body = body }

pub returns-clause-code : goal.returns-clause-code
returns-clause-code c =
    let g = ground_of c.args.ground.now in
    let sources = sources_in g c.args.sources.now in
    let task = task_of c.args.task in
    let s = R.scope_of sources in
    let two = c.emit_task.new.code in
    let list : map source_of c.as_slice-list.result.now ≡ sources.list =
    ap (map source_of) c.as_slice-list.ensures in
    let shows : scope_of c.args.sources.now.named.now.scope ≡ s =
    c.args.sources.now.named.now.shown in
    let reads : c.in_ok-reads.reads.cells ≡ R.cells_read sources.list =
    c.in_ok-reads.ensures ∙ ap R.cells_read list in
    let loads = λ (cells : List ℕ) (x : L.Scope) (xs : List R.Source).
    R.sources_code cells x.homes xs in
    let first = loads (R.cells_read sources.list) s sources.list in
    let one : c.emit_sources.new.code ≡ [] ++ first =
    (rw (c.new-code.ensures, reads) at c.in_ok-emit_sources.ensures)
    ∙ ap (λ (x : L.Scope). loads (R.cells_read sources.list) x
    (map source_of c.as_slice-list.result.now)) shows
    ∙ ap (λ (xs : List R.Source). loads (R.cells_read sources.list) s xs) list in
    let body : two ≡ T.step_body g sources task =
    then_made [] c.emit_sources.new.code two first (λ p. T.task_code g s p task) one
    (c.in_ok-emit_task.ensures ∙ ap (λ (x : L.Scope). c.emit_sources.new.code
    ++ T.task_code g x (length c.emit_sources.new.code) task) shows) in
    ap (λ (n : ℕ). framed n two)
    (rw (c.as_slice.ensures.value, c.as_slice-2.ensures) at c.in_ok-slots.ensures)
    ∙ ap (λ (b : P.Code). framed (P.most_named (params_at g.keys) b) b) body

pub returns-clause-reads : goal.returns-clause-reads
returns-clause-reads c =
    c.into_cells.ensures ∙ c.in_ok-reads.ensures
    ∙ ap (λ xs. R.cells_read (map source_of xs)) c.as_slice-list.ensures
