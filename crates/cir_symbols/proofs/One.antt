-- A source has one list of lines at a level, with the wires of the file that it is compiled to.
use Rattle.std.proofs.Common.{◌≡◌, ℕ, ◌+◌, ◌∙◌, List, [], ◌∷◌, ap, subst, sym}
use Rattle.std.specs.List.{AllByRecursion}
use Rattle.out_io.specs.Contents.{Contents}
use Rattle.iden_files.specs.File.{File}
use Rattle.cir_ast.specs.Program.{Program}
use Rattle.cir_inst.specs.declared.circuit.Circuit.{Circuit}
use Rattle.cir_inst.proofs.OneCircuit.{one_instance}
use Rattle.cir_loaded_names.proofs.Loaded.{loaded}
use Rattle.cir_names.proofs.OneLoading.{one_program}
use Rattle.cir_names.specs.Loading.{IsLoaded}
use Rattle.cir_compile.specs.Compiled.{IsCompiled, Task}
use Rattle.cir_compile.proofs.OneFile.{one_file}
use Rattle.cir_values.specs.declared.signals.Signals.{Signals}
use Rattle.sym_file.specs.declared.line.SymLine.{SymLine}
use Rattle.sym_file.specs.Table.{AreLinesFrom, AreLinesOf, wire_among}
use Rattle.sym_file.proofs.Table.{one_answer}
use Rattle.cir_symbols.specs.Symbols.{AreNamesOf, AreSymbolsOf, HasWireOf}
use Rattle.cir_symbols.proofs.Named.{circuit_named}

-- the wires of lines
have_wires : (signals : Signals) (instances : List (List ℕ)) (kept : List ℕ) (n : ℕ)
    (lines : List SymLine) → AreLinesFrom signals instances kept n lines
    → AllByRecursion (HasWireOf kept) lines
have_wires signals instances kept n [] h = tt
have_wires signals instances kept n (line ∷ lines) h = (
  h.0.wire_is ∙ ap (wire_among kept) (sym h.0.label),
  have_wires signals instances kept (n + 1) lines h.1,
)

module _ (files : Contents) (task : Task) where
  -- the file that the named program is compiled to
  pub compiled_as : (p : Program) (lines : List SymLine)
      → IsLoaded files task.name task.library p → (x : AreSymbolsOf p task.level lines)
      → IsCompiled files task x.file
  compiled_as p lines l x = record { program = p; loaded = l; written = x.written }

  one_list : (p : Program) (xs ys : List SymLine) → IsLoaded files task.name task.library p
      → AreSymbolsOf p task.level xs → AreSymbolsOf p task.level ys → xs ≡ ys
  one_list p xs ys l x y =
      let c : Circuit = x.written.circuit in
      let d : Circuit = y.written.circuit in
      let same : c ≡ d = one_instance p c d x.written.instantiated y.written.instantiated in
      let file : x.file ≡ y.file =
      one_file files task x.file y.file (compiled_as p xs l x) (compiled_as p ys l y) in
      let first : AreLinesOf d.signals d.instances x.file.labels xs =
      subst (λ (k : Circuit). AreLinesOf k.signals k.instances x.file.labels xs) same x.are in
      one_answer d.signals d.instances y.file.labels
      (circuit_named p d (loaded files task.name task.library p l) y.written.instantiated)
      xs ys
      (subst (λ (f : File). AreLinesOf d.signals d.instances f.labels xs) file first) y.are

  pub one_naming : (xs ys : List SymLine) → AreNamesOf files task xs → AreNamesOf files task ys
      → xs ≡ ys
  one_naming xs ys x y =
      let same : x.program ≡ y.program =
      one_program files task.name task.library x.program y.program x.loaded y.loaded in
      one_list y.program xs ys y.loaded
      (subst (λ (p : Program). AreSymbolsOf p task.level xs) same x.are) y.are

  pub wires_of_file : (f : File) (lines : List SymLine) → IsCompiled files task f
      → AreNamesOf files task lines → AllByRecursion (HasWireOf f.labels) lines
  wires_of_file f lines w x =
      let file : x.are.file ≡ f =
      one_file files task x.are.file f (compiled_as x.program lines x.loaded x.are) w in
      let c : Circuit = x.are.written.circuit in
      subst (λ (g : File). AllByRecursion (HasWireOf g.labels) lines) file
      (have_wires c.signals c.instances x.are.file.labels 1 lines x.are.are.are)
