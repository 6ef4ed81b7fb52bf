-- The signals of a program's circuit can be named.
use Rattle.std.proofs.Common.{◌≡◌, ℕ, List, Ok, Err, sym, ap, subst}
use Rattle.cir_ast.specs.Program.{Program}
use Rattle.cir_lexer.specs.Spelling.{is_identifier}
use Rattle.cir_meaning.specs.Tried.{Tried}
use Rattle.cir_meaning.specs.Compile as M
use Rattle.cir_inst.specs.declared.circuit.Circuit.{Circuit}
use Rattle.cir_inst.specs.Compiled.{Instantiates}
use Rattle.cir_row_names.specs.Rows.{IsNamedProgram}
use Rattle.cir_signal_names.proofs.Table.{all_named}
use Rattle.sym_file.specs.Table.{CanAllBeNamed}

shown_ok : (p : Program) (t : Tried M.Circuit) (m : M.Circuit) → M.shown p t ≡ Ok m
    → t ≡ Ok m
shown_ok p (Ok c) m e = let same : c ≡ m = cc in ap (λ (x : M.Circuit). Ok x) same
shown_ok p (Err r) m e = cc

pub circuit_named : (p : Program) (c : Circuit) → IsNamedProgram is_identifier p
    → Instantiates p (Ok c) → CanAllBeNamed c.signals c.instances
circuit_named p c named i =
    subst (λ (paths : List (List ℕ)). CanAllBeNamed c.signals paths) (sym i.2.instances)
    (all_named p i.0 c.signals named (shown_ok p (M.compiled p) i.0 i.1) i.2.names)
