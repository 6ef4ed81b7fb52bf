use Rattle.wit_sourced.proofs.Left.{behind_same}
use Rattle.wit_statements.proofs.statements.emit_first.Goals as goal

pub returns-in_ok-emit_variables-in-Vars-clause-code :
    goal.returns-in_ok-emit_variables-in-Vars-clause-code
returns-in_ok-emit_variables-in-Vars-clause-code c =
    rw c.in-Vars.is (rw c.as_slice.ensures at c.in_ok-emit_variables-in-Vars.ensures.code)

pub returns-in_ok-emit_variables-in-Vars-clause-scope :
    goal.returns-in_ok-emit_variables-in-Vars-clause-scope
returns-in_ok-emit_variables-in-Vars-clause-scope c =
    rw c.in-Vars.is (rw c.as_slice.ensures at c.in_ok-emit_variables-in-Vars.ensures.scope)

pub returns-in_ok-emit_assign-in-Assign-clause-code :
    goal.returns-in_ok-emit_assign-in-Assign-clause-code
returns-in_ok-emit_assign-in-Assign-clause-code c =
    rw c.in-Assign.is c.in_ok-emit_assign-in-Assign.ensures

pub returns-in_ok-emit_assign-in-Assign-clause-scope :
    goal.returns-in_ok-emit_assign-in-Assign-clause-scope
returns-in_ok-emit_assign-in-Assign-clause-scope c =
    rw c.in-Assign.is (behind_same c.args.scope.now)
