-- What assigns to a place is that assignment.
use Rattle.std.proofs.Common.{◌≡◌, Some}
use Rattle.cir_ast.specs.declared.program.Meant.{Meant}
use Rattle.cir_ast.specs.Tree.{Assign, Set, Compound, Left, Increment, Decrement}
use Rattle.cir_texts.specs.Shown.{set_in}

pub set_is : (x y : Assign Meant) → Some y ≡ set_in x → x ≡ y
set_is (Set name m accessors e) y is = cc
set_is (Compound name m accessors op e) y is = cc
set_is (Left name m accessors arrow e) y is = cc
set_is (Increment name m accessors) y is = cc
set_is (Decrement name m accessors) y is = cc
