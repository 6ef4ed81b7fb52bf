use Rattle.std.proofs.Common.{◌∙◌, ◌+◌, [], ◌∷◌, ◌++◌, length, ap}
use Rattle.std.specs.Prelude.{None}
use Rattle.wit_code.specs.declared.code.Op.TheVariants as op
use Rattle.gold_field.specs.declared.operators.Op2.TheVariants as op2
use Rattle.cir_ast.specs.declared.operators.Binary.TheVariants as binary
use Rattle.cir_ast.specs.Tree.{Number, Parentheses, Place, bare, place_accessors}
use Rattle.cir_meaning.specs.Operators as O
use Rattle.wit_lower.specs.Pieces as P
use Rattle.wit_lower.specs.Values as V
use Rattle.wit_emit.specs.Emitted.{right_code}
use Rattle.wit_statements.specs.Parts as E
use Rattle.wit_sourced.specs.Shown.{scope_of}
use Rattle.wit_emit.specs.Grounds.{ground_of}
use Rattle.wit_emit.proofs.Chained.{then_made}
use Rattle.wit_statements.proofs.Made.{changed_made}
use Rattle.wit_emit.proofs.Trees.{code_compound}
use Rattle.wit_statements.proofs.assigning.emit_assign.Goals as goal

pub returns-in_ok-emit_write-in-Set : goal.returns-in_ok-emit_write-in-Set
returns-in_ok-emit_write-in-Set c =
    let g = ground_of c.args.ground.now in
    let s = scope_of c.args.scope.now in
    let old = c.args.code.now in
    let e = bare c.in-Set.e in
    let p = c.in-Set.place in
    rw c.in-Set.is (then_made old c.emit.new.code c.emit_write.new.code
    (V.expr_code g s.homes s.top (length old) e)
    (λ n. E.write_behind g s n (V.size_of g s.homes e) p.meant (place_accessors p))
    c.in_ok-emit-in-Set.ensures
    (rw c.in_ok-size_of-in-Set.ensures at c.in_ok-emit_write-in-Set.ensures))

pub returns-in_ok-emit_write-in-Compound : goal.returns-in_ok-emit_write-in-Compound
returns-in_ok-emit_write-in-Compound c =
    let g = ground_of c.args.ground.now in
    let s = scope_of c.args.scope.now in
    let old = c.args.code.now in
    let e = bare c.in-Compound.e in
    let p = c.in-Compound.place in
    let o = c.compound_operator.result in
    let both = O.compound_of c.in-Compound.op in
    let value = Place p.name p.meant (place_accessors p) in
    rw c.in-Compound.is (changed_made g s old c.emit_right.new.code
    c.emit_write-in-Compound.new.code p.name p.meant (place_accessors p) both (Parentheses e)
    (then_made old c.emit_read.new.code c.emit_right.new.code
    (V.expr_code g s.homes s.top (length old) value)
    (λ n. right_code g s.homes s.top n None (O.Strict o) e) c.in_ok-emit_read-in-Compound.ensures
    c.in_ok-emit_right-in-Compound.ensures
    ∙ ap (λ (k : P.Code). old ++ k)
    (code_compound g s.homes s.top (length old) both o value e c.compound_operator.ensures))
    c.in_ok-emit_write-in-Compound.ensures)

pub returns-in_ok-emit_write-in-Increment : goal.returns-in_ok-emit_write-in-Increment
returns-in_ok-emit_write-in-Increment c =
    let g = ground_of c.args.ground.now in
    let s = scope_of c.args.scope.now in
    let old = c.args.code.now in
    let p = c.in-Increment.place in
    let value = Place p.name p.meant (place_accessors p) in
    rw c.in-Increment.is (changed_made g s old c.emit_one.new.code
    c.emit_write-in-Increment.new.code p.name p.meant (place_accessors p) binary.Add (Number 1)
    (then_made old c.emit_read-in-Increment.new.code c.emit_one.new.code
    (V.expr_code g s.homes s.top (length old) value)
    (λ n. op.Const (s.top + 1) 1 ∷ op.Bin op2.Add s.top s.top (s.top + 1) ∷ [])
    c.in_ok-emit_read-in-Increment.ensures c.in_ok-emit_one-in-Increment.ensures)
    c.in_ok-emit_write-in-Increment.ensures)

pub returns-in_ok-emit_write-in-Decrement : goal.returns-in_ok-emit_write-in-Decrement
returns-in_ok-emit_write-in-Decrement c =
    let g = ground_of c.args.ground.now in
    let s = scope_of c.args.scope.now in
    let old = c.args.code.now in
    let p = c.in-Decrement.place in
    let value = Place p.name p.meant (place_accessors p) in
    rw c.in-Decrement.is (changed_made g s old c.emit_one-in-Decrement.new.code
    c.emit_write-in-Decrement.new.code p.name p.meant (place_accessors p) binary.Sub (Number 1)
    (then_made old c.emit_read-in-Decrement.new.code c.emit_one-in-Decrement.new.code
    (V.expr_code g s.homes s.top (length old) value)
    (λ n. op.Const (s.top + 1) 1 ∷ op.Bin op2.Sub s.top s.top (s.top + 1) ∷ [])
    c.in_ok-emit_read-in-Decrement.ensures c.in_ok-emit_one-in-Decrement.ensures)
    c.in_ok-emit_write-in-Decrement.ensures)
