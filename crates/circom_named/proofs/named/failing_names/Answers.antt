use Rattle.std.proofs.Common.{◌∙◌, ap, sym}
use Rattle.std.proofs.lemmas.Result.{IfOk-weaker}
use Rattle.iden_files.specs.File.{File}
use Rattle.circom_named.proofs.Wired.{below_in, fails_at, fails_nowhere}
use Rattle.circom_named.proofs.named.failing_names.Goals as goal

pub names_of-requires-clause-below : goal.names_of-requires-clause-below
names_of-requires-clause-below c =
    below_in c.args.file.now c.file.inside.wires c.constraints.result.now
    c.in-ConstraintFails.index c.in-Some.constraint.now c.constraints.ensures.file
    (sym (ap (λ (f : File). f.wires) c.file.view_is)) c.constraints.ensures.constraints
    c.in-Some.ensures.lookup.0 c.in-Some.ensures.lookup.1

pub returns-in-Some : goal.returns-in-Some
returns-in-Some c =
    let there =
    fails_at c.args.file.now c.file.inside.wires c.constraints.result.now
    c.in-ConstraintFails.index c.in-Some.constraint.now c.args.lines.now
    (sym (ap (λ (f : File). f.wires) c.file.view_is)) c.constraints.ensures.constraints
    c.in-Some.ensures.lookup.0 c.in-Some.ensures.lookup.1 in
    rw c.in-ConstraintFails.is
    (IfOk-weaker c.names_of.result _ _ (λ names same. same ∙ there) c.names_of.ensures)

pub returns-in-None : goal.returns-in-None
returns-in-None c =
    rw c.in-ConstraintFails.is
    (c.new.ensures.items
    ∙ fails_nowhere c.args.file.now c.constraints.result.now c.in-ConstraintFails.index
    c.args.lines.now c.constraints.ensures.constraints c.in-None.ensures.lookup.0)
