-- Statements that are assignments, and others.
use Rattle.std.proofs.Common.{◌≡◌, [], Some, ap, sym}
use Rattle.cir_ast.specs.declared.program.Meant.{Meant}
use Rattle.cir_ast.specs.declared.program.Spot.{Spot}
use Rattle.cir_ast.specs.Tree.{Assign, Vars, Signals, Declared, Created, Assigned, Constrain, Right}
use Rattle.cir_ast.specs.Tree.{TargetLeft, TargetRight, Alone, Statement, Block, If, IfElse, While}
use Rattle.cir_ast.specs.Tree.{For, Return, Assert, Log, Ended}
use Rattle.wit_sources.specs.Statements.{assign_in}

pub record IsAssign (a : Statement Spot Meant) (x : Assign Meant) : Type 0 where
  pub spot : Spot
  pub is : a ≡ Ended spot (Assigned x)

pub assign_is : (a : Statement Spot Meant) (x : Assign Meant) → Some x ≡ assign_in a → IsAssign a x
assign_is (Ended spot (Assigned y)) x e =
    let same : x ≡ y = cc in
    record { spot = spot; is = ap (λ z. Ended spot (Assigned z)) (sym same) }
assign_is (Ended spot (Vars vs)) x e = cc
assign_is (Ended spot (Signals direction ds)) x e = cc
assign_is (Ended spot (Declared cs)) x e = cc
assign_is (Ended spot (Created name m y)) x e = cc
assign_is (Ended spot (Constrain y f)) x e = cc
assign_is (Ended spot (Right y arrow name m accessors)) x e = cc
assign_is (Ended spot (TargetLeft t arrow y)) x e = cc
assign_is (Ended spot (TargetRight y arrow t)) x e = cc
assign_is (Ended spot (Alone parallel name m arguments inputs)) x e = cc
assign_is (Block spot ss) x e = cc
assign_is (If spot t y) x e = cc
assign_is (IfElse spot t y z) x e = cc
assign_is (While spot t y) x e = cc
assign_is (For spot first_spot f t step_spot step body) x e = cc
assign_is (Return spot y) x e = cc
assign_is (Assert spot y) x e = cc
assign_is (Log spot arguments) x e = cc
