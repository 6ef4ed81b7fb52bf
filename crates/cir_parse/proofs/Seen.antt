-- Lists of trees whose names lose their meanings.
use Rattle.std.proofs.Common.{◌≡◌, List, [], ◌∷◌, map, refl, ap, Result, Ok, Err}
use Rattle.cir_ast.specs.declared.marked.File.{File as CodeFile}
use Rattle.cir_ast.specs.declared.marked.Statement.{Statement as CodeStatement}
use Rattle.cir_ast.specs.Tree.{then_more, as_statements, bare_statement}
use Rattle.cir_ast.specs.Plain.{plain_statements}
use Rattle.cir_expression.specs.Front.{Tokens}
use Rattle.cir_parse.specs.declared.fault.ParseFault.{ParseFault}
use Rattle.cir_parse.specs.Answers.{seen_statement}
use Rattle.cir_parse.specs.Contract.{Parses, ParsesMarked}
use Rattle.cir_parse.proofs.Plainly.{file_same}

all_seen : {S N : Type 0} (list : List (CodeStatement S N))
    → plain_statements (as_statements (map bare_statement list))
    ≡ as_statements (map seen_statement list)
all_seen [] = refl
all_seen (s ∷ ss) = ap (then_more (seen_statement s)) (all_seen ss)

pub seen_statements : {S N : Type 0} (list items : List (CodeStatement S N)) → list ≡ items
    → plain_statements (as_statements (map bare_statement list))
    ≡ as_statements (map seen_statement items)
seen_statements list items same = rw same (all_seen items)

-- where nothing is marked
pub parses : (mark : Tokens → Unit {0}) (tokens : Tokens)
    (r : Result (CodeFile (Unit {0}) (Unit {0})) ParseFault) → ParsesMarked mark tokens r
    → Parses tokens r
parses mark tokens (Ok file) h = (h.0, rw file_same at h.1)
parses mark tokens (Err why) h = h
