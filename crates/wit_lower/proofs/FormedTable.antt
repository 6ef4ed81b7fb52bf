-- Procedures are well formed, and a step's code with them.
use Rattle.std.proofs.Common.{◌≡◌, ℕ, zero, suc, ◌+◌, ◌<◌, ◌≤◌, List, [], ◌∷◌, ◌++◌, length, get_or}
use Rattle.std.proofs.Common.{Some, refl, sym, ap, subst, ◌∙◌, arith}
use Rattle.std.specs.Prelude.{slice_get}
use Rattle.std.proofs.lemmas.Option.{slice_get-get_or, slice_get_within}
use Rattle.wit_code.specs.declared.code.Op.{Op}
use Rattle.wit_code.specs.declared.code.Op.TheVariants as op
use Rattle.wit_code.specs.declared.code.Proc.{Proc}
use Rattle.wit_code.specs.declared.code.Stands.{Stands}
use Rattle.wit_code.specs.declared.code.Stands.TheVariants.{InStep, InProc}
use Rattle.wit_code.specs.Code.{Names, MayJump, MayCall, IsCode, AreProcs, IsWellFormed}
use Rattle.cir_ast.specs.Program.{Program}
use Rattle.cir_meaning.specs.Costs.{Made}
use Rattle.wit_lower.specs.Homes.{Scope}
use Rattle.wit_lower.specs.Pieces.{Code, named, most_named}
use Rattle.wit_lower.specs.Statements.{statements_code}
use Rattle.wit_lower.specs.Procedures.{arguments_scope, no_scope, function_ground, params_at}
use Rattle.wit_lower.specs.Procedures.{IsLowered, HasProcedure, IsTable}
use Rattle.wit_lower.specs.Sources.{Sources, cells_read}
use Rattle.wit_lower.specs.Tasks.{Task, step_ground, step_code}
use Rattle.wit_lower.specs.Steps.{StepFits}
use Rattle.wit_lower.proofs.Does.{has_itself}
use Rattle.wit_lower.proofs.Depth.{named_most, keys_front, params_is, body_is}
use Rattle.wit_lower.proofs.Formed.{KeyAt, Asks, Formed}
use Rattle.wit_lower.proofs.FormedStatements.{statements_formed, step_formed}

formed_at : (keys : List Made) (stands : Stands) (body : List Op) (p : ℕ) (code : Code) (i : ℕ)
    (o : Op) → Formed keys stands body p code → slice_get code i ≡ Some o
    → Asks keys stands o × MayJump body (p + i) o
formed_at keys stands body p [] i o f e = cc
formed_at keys stands body p (x ∷ xs) zero o (f, fs) e =
    let same : x ≡ o = cc in
    let z : p ≡ p + 0 = omega arith in
    subst (λ q. Asks keys stands o × MayJump body q o) z
    (subst (λ y. Asks keys stands y × MayJump body p y) same f)
formed_at keys stands body p (x ∷ xs) (suc i) o (f, fs) e =
    let on : p + 1 + i ≡ p + suc i = omega arith in
    subst (λ q. Asks keys stands o × MayJump body q o) on
    (formed_at keys stands body (p + 1) xs i o fs e)

module _ (program : Program) (keys later : List Made) (procs : List Proc)
    (table : IsTable program (keys ++ later) procs) where
  may_call : (f first slots : ℕ) → KeyAt keys f → first + params_at keys f ≤ slots
      → MayCall procs slots f first
  may_call f first slots k le =
      let has : HasProcedure program (keys ++ later) procs f k.key =
      table.each f k.key (keys_front keys later f k.key k.there) in
      let same : params_at keys f ≡ has.code.params =
      params_is keys f k.key k.there ∙ sym has.lowered.params in
      record { callee = has.code; there = has.there; params = omega (arith, le, same) }

  names_are : (stands : Stands) (slots : ℕ) (o : Op) → Asks keys stands o
      → named (params_at keys) o ≤ slots → Names procs stands slots o
  names_are stands slots (op.Const d v) a h = (omega (arith, h), a)
  names_are stands slots (op.Move d s) a h = (omega (arith, h), omega (arith, h))
  names_are stands slots (op.Read d i) a h = (omega (arith, h), a)
  names_are stands slots (op.Un o d s) a h = (omega (arith, h), omega (arith, h))
  names_are stands slots (op.Bin o d s t) a h =
      (omega (arith, h), omega (arith, h), omega (arith, h))
  names_are stands slots (op.Bound s n) a h = omega (arith, h)
  names_are stands slots (op.Load d base s) a h = (omega (arith, h), omega (arith, h))
  names_are stands slots (op.Store base s t) a h = (omega (arith, h), omega (arith, h))
  names_are stands slots (op.Jump to) a h = tt
  names_are stands slots (op.JumpZero s to) a h = omega (arith, h)
  names_are stands slots op.Turn a h = tt
  names_are stands slots (op.Call f first d) a h =
      (omega (arith, h), may_call f first slots a (omega (arith, h)))
  names_are stands slots (op.Return s) a h = (omega (arith, h), a)
  names_are stands slots (op.Check s t) a h = (omega (arith, h), omega (arith, h), a)
  names_are stands slots (op.Assert s) a h = omega (arith, h)
  names_are stands slots (op.Write s) a h = (omega (arith, h), a)

  code_is : (stands : Stands) (code : Proc) → code.params ≤ code.slots
      → Formed keys stands code.body 0 code.body
      → most_named (params_at keys) code.body ≤ code.slots → IsCode procs stands code
  code_is stands code params formed wide = record {
    params = params;
    each = λ place o e.
        let x : Asks keys stands o × MayJump code.body (0 + place) o =
        formed_at keys stands code.body 0 code.body place o formed e in
        let z : 0 + place ≡ place = omega arith in
        let few : named (params_at keys) o ≤ most_named (params_at keys) code.body =
        named_most (params_at keys) code.body place o e in
        record {
          names = names_are stands code.slots o x.0 (omega (arith, few, wide));
          jumps = subst (λ i. MayJump code.body i o) z x.1;
        };
  }

-- a procedure
lowered_is : (program : Program) (keys : List Made) (procs : List Proc)
    → IsTable program keys procs → (key : Made) (code : Proc) → IsLowered program keys key code
    → IsCode procs InProc code
lowered_is program keys procs table key code l =
    code_is program l.then_keys l.later procs (subst (λ ks. IsTable program ks procs) l.front table)
    InProc code (omega (arith, l.slots))
    (subst (λ b. Formed l.then_keys InProc b 0 b) (sym is_body)
    (statements_formed InProc body (function_ground l.then_keys) (λ n. n < l.function.variables)
    (Unit {0}) (λ e. tt) l.function.body scope 0 l.fits (has_itself [] body)))
    (omega (arith, l.slots))
  where
    scope : Scope
    scope = arguments_scope 0 key.shapes no_scope

    body : Code
    body = statements_code (function_ground l.then_keys) scope 0 l.function.body

    is_body : code.body ≡ body
    is_body =
        l.body ∙
        ap (λ ss. statements_code (function_ground l.then_keys) scope 0 ss)
        (body_is program key.function l.function l.there)

procs_are : (program : Program) (keys : List Made) (procs : List Proc)
    → IsTable program keys procs → AreProcs procs
procs_are program keys procs table f callee e =
    subst (IsCode procs InProc) same (lowered_is program keys procs table key has.code has.lowered)
  where
    none : Made
    none = record { function = 0; shapes = [] }

    key : Made
    key = get_or keys f none

    has : HasProcedure program keys procs f key
    has = table.each f key (slice_get-get_or keys f none
        (omega (arith, table.count, slice_get_within procs f callee e)))

    same : has.code ≡ callee
    same = let one : Some has.code ≡ Some callee = sym has.there ∙ e in cc

-- a step that fits is well formed, over every table that begins with its keys
pub step_is : (program : Program) (keys : List Made) (sources : Sources) (variables : ℕ)
    (task : Task) → StepFits keys sources variables task → (later : List Made) (procs : List Proc)
    → IsTable program (keys ++ later) procs
    → IsWellFormed procs (length (cells_read sources.list))
    (step_code (step_ground keys sources task) sources task)
step_is program keys sources variables task fits later procs table = record {
  no_params = refl;
  own = code_is program keys later procs table (InStep (length (cells_read sources.list)))
      (step_code (step_ground keys sources task) sources task) (omega arith)
      (step_formed (step_ground keys sources task) (λ n. n < variables) sources task fits.list
      fits.fits) (omega arith);
  called = procs_are program (keys ++ later) procs table;
}
