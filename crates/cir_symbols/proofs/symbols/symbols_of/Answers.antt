use Rattle.std.proofs.Common.{subst}
use Rattle.cir_ast.specs.Program.{bare_program}
use Rattle.cir_inst.specs.declared.circuit.Circuit.{Circuit}
use Rattle.cir_inst.proofs.OneCircuit.{one_instance}
use Rattle.cir_loaded_names.proofs.Loaded.{of_sources as names_of}
use Rattle.cir_scope.proofs.Loaded.{of_sources}
use Rattle.sym_file.specs.Table.{AreLinesOf}
use Rattle.cir_symbols.proofs.Kept.{kept_labels}
use Rattle.cir_symbols.proofs.Named.{circuit_named}
use Rattle.cir_symbols.proofs.symbols.symbols_of.Goals as goal

pub instantiate-requires-clause-free : goal.instantiate-requires-clause-free
instantiate-requires-clause-free c = (of_sources _ c.requires.theirs).0.functions

pub written-requires-clause-named : goal.written-requires-clause-named
written-requires-clause-named c =
    circuit_named (bare_program c.args.program.now) c.in_ok-circuit.circuit
    (names_of _ c.requires.theirs) c.in_ok-circuit.ensures.meaning

pub written-requires-clause-kept : goal.written-requires-clause-kept
written-requires-clause-kept c =
    kept_labels (bare_program c.args.program.now) c.args.level c.in_ok-file.file
    c.in_ok-circuit.circuit c.in_ok-file.ensures.writes c.in_ok-circuit.ensures.meaning

pub returns : goal.returns
returns c =
    let w = c.in_ok-symbols.ensures in
    let made = c.in_ok-file.ensures.writes in
    let same =
    one_instance (bare_program c.args.program.now) c.in_ok-circuit.circuit made.circuit
    c.in_ok-circuit.ensures.meaning made.instantiated in
    record {
      lines = w.lines;
      are = record {
        file = c.in_ok-file.file;
        written = made;
        are = subst (λ (k : Circuit). AreLinesOf k.signals k.instances
            c.in_ok-file.file.labels w.lines) same w.are;
      };
      text = w.text;
    }
