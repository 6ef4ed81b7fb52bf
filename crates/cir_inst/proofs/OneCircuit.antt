-- A meaning has one circuit, so a program has one, or one refusal.
use Rattle.std.proofs.Common.{◌≡◌, ◌+◌, List, [], ◌∷◌, map, length, Ok, Err, refl, sym, ap, subst}
use Rattle.std.proofs.Common.{◌∙◌}
use Rattle.cir_ast.specs.Program.{Program}
use Rattle.cir_ast.specs.declared.refusal.Refusal.{Refusal}
use Rattle.cir_values.specs.declared.signals.SignalName.{SignalName}
use Rattle.cir_values.specs.declared.signals.InputShape.{InputShape}
use Rattle.cir_meaning.specs.Compile as M
use Rattle.cir_meaning.specs.Compile.{meaning}
use Rattle.cir_meaning.proofs.OneSource.{one_source}
use Rattle.cir_inst.specs.declared.circuit.Circuit.{Circuit}
use Rattle.cir_inst.specs.declared.circuit.InstFault.TheVariants.{Refused}
use Rattle.cir_inst.specs.Table.{name_of, shape_of}
use Rattle.cir_inst.specs.Compiled.{IsCircuitOf, Instantiates}

abbrev name_back : M.SignalName → SignalName
name_back n = record { instance = n.instance; base = n.base; place = n.place }

abbrev shape_back : M.InputShape → InputShape
shape_back i = record { name = i.name; first = i.first; count = i.count }

names_back : (ns : List SignalName) → map name_back (map name_of ns) ≡ ns
names_back [] = refl
names_back (n ∷ ns) = ap (λ (xs : List SignalName). n ∷ xs) (names_back ns)

shapes_back : (is : List InputShape) → map shape_back (map shape_of is) ≡ is
shapes_back [] = refl
shapes_back (i ∷ is) = ap (λ (xs : List InputShape). i ∷ xs) (shapes_back is)

one_circuit : (m : M.Circuit) (c d : Circuit) → IsCircuitOf m c → IsCircuitOf m d → c ≡ d
one_circuit m c d x y =
    let names : c.signals.names ≡ d.signals.names =
    sym (names_back c.signals.names)
    ∙ ap (λ (ns : List M.SignalName). map name_back ns) (x.names ∙ sym y.names)
    ∙ names_back d.signals.names in
    let inputs : c.signals.inputs ≡ d.signals.inputs =
    sym (shapes_back c.signals.inputs)
    ∙ ap (λ (is : List M.InputShape). map shape_back is) (x.inputs ∙ sym y.inputs)
    ∙ shapes_back d.signals.inputs in
    let outputs = x.outputs ∙ sym y.outputs in
    let public_inputs = x.public_inputs ∙ sym y.public_inputs in
    let private_inputs = x.private_inputs ∙ sym y.private_inputs in
    let instances = x.instances ∙ sym y.instances in
    let constraints =
    one_source (1 + length m.names) m.equations c.constraints d.constraints x.source y.source in
    λ i. record {
      signals = record {
        names = names i;
        outputs = outputs i;
        public_inputs = public_inputs i;
        private_inputs = private_inputs i;
        inputs = inputs i;
      };
      constraints = constraints i;
      instances = instances i;
    }

pub one_instance : (p : Program) (c d : Circuit) → Instantiates p (Ok c) → Instantiates p (Ok d)
    → c ≡ d
one_instance p c d (m, e, x) (n, f, y) =
    let same : m ≡ n = cc in
    one_circuit n c d (subst (λ (k : M.Circuit). IsCircuitOf k c) same x) y

pub one_instance_refusal : (p : Program) (r s : Refusal) → Instantiates p (Err (Refused r))
    → Instantiates p (Err (Refused s)) → r ≡ s
one_instance_refusal p r s e f = cc

pub instance_or_refusal : (p : Program) (c : Circuit) (r : Refusal) → Instantiates p (Ok c)
    → Instantiates p (Err (Refused r)) → ⊥
instance_or_refusal p c r (m, e, x) f = cc
