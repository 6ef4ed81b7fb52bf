-- A program as plain data: without the pointers that the program's own trees have.
use Rattle.std.specs.Prelude.{ℕ, List, map, Bool}
use Rattle.cir_ast.specs.declared.program.Spot.{Spot}
use Rattle.cir_ast.specs.declared.program.Meant.{Meant}
use Rattle.cir_ast.specs.declared.program.Template.{Template as CodeTemplate}
use Rattle.cir_ast.specs.declared.program.Function.{Function as CodeFunction}
use Rattle.cir_ast.specs.declared.program.Main.{Main as CodeMain}
use Rattle.cir_ast.specs.declared.program.Program.{Program as CodeProgram}
use Rattle.cir_ast.specs.Tree.{Exprs, Statements, bare_exprs, bare_block}

-- file is the place of its file in the program's list
pub record Template : Type 0 where
  pub file : ℕ
  pub spot : Spot
  pub parallel : Bool
  pub name : List ℕ
  pub parameters : List (List ℕ)
  pub variables : ℕ
  pub signals : ℕ
  pub components : ℕ
  pub body : Statements Spot Meant

pub record Function : Type 0 where
  pub file : ℕ
  pub spot : Spot
  pub name : List ℕ
  pub parameters : List (List ℕ)
  pub variables : ℕ
  pub body : Statements Spot Meant

pub record Main : Type 0 where
  pub file : ℕ
  pub spot : Spot
  pub public_names : List (List ℕ)
  pub template : List ℕ
  pub meant : Meant
  pub arguments : Exprs Meant

pub record Program : Type 0 where
  pub files : List (List ℕ)
  pub templates : List Template
  pub functions : List Function
  pub mains : List Main

-- what the program's own trees stand for
abbrev pub bare_template : CodeTemplate → Template
bare_template t =
    record {
      file = t.file;
      spot = t.spot;
      parallel = t.parallel;
      name = t.name;
      parameters = t.parameters;
      variables = t.variables;
      signals = t.signals;
      components = t.components;
      body = bare_block t.body;
    }

abbrev pub bare_function : CodeFunction → Function
bare_function f =
    record {
      file = f.file;
      spot = f.spot;
      name = f.name;
      parameters = f.parameters;
      variables = f.variables;
      body = bare_block f.body;
    }

abbrev pub bare_main : CodeMain → Main
bare_main m =
    record {
      file = m.file;
      spot = m.spot;
      public_names = m.public;
      template = m.template;
      meant = m.meant;
      arguments = bare_exprs m.arguments;
    }

abbrev pub bare_program : CodeProgram → Program
bare_program p =
    record {
      files = p.files;
      templates = map bare_template p.templates;
      functions = map bare_function p.functions;
      mains = map bare_main p.mains;
    }
