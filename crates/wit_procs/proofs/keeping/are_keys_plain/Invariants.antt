use Rattle.std.proofs.Common.{◌≡◌, drop, map}
use Rattle.std.specs.List.{list_all}
use Rattle.cir_ast.specs.Program.{bare_program}
use Rattle.cir_rules.specs.Shown.{made_of}
use Rattle.wit_procs.specs.Rules.{is_key_plain}
use Rattle.wit_procs.proofs.keeping.are_keys_plain.Given as goal

abbrev pub invariant-loop-key : goal.invariant-loop-key
invariant-loop-key l =
    list_all (is_key_plain (bare_program l.program)) (map made_of (drop l.key-index l.keys))
    ≡ list_all (is_key_plain (bare_program l.program)) (map made_of l.keys)
