-- What `witness` and `generate` find is one.
use Rattle.std.proofs.Common.{◌≡◌, ◌∙◌, ℕ, inl, inr, List, [], ◌∷◌, map, Option}
use Rattle.std.proofs.Common.{Some, None, Result}
use Rattle.std.proofs.Common.{Ok, Err, refl, ap, ap₂, sym, subst, if◌then◌else◌, ◌==◌}
use Rattle.std.proofs.Common.{slice_index}
use Rattle.out_io.specs.Contents.{Contents}
use Rattle.iden_files.specs.File.{File}
use Rattle.cir_ast.specs.Program.{Program}
use Rattle.cir_compile.specs.Compiled.{IsCompiled}
use Rattle.cir_compile.proofs.OneFile.{one_file}
use Rattle.cir_names.proofs.OneLoading.{one_program}
use Rattle.cir_inst.specs.Table.{shape_of}
use Rattle.cir_meaning.specs.Compile.{Circuit, compiled}
use Rattle.cir_meaning.specs.Run.{Stopped}
use Rattle.cir_meaning.specs.RunBodies.{Ending, ran}
use Rattle.cir_values.specs.declared.signals.InputShape.{InputShape}
use Rattle.wit_code.specs.Table.{stop_number}
use Rattle.wit_code.specs.declared.code.Stop.{Stop}
use Rattle.wit_code.specs.declared.code.Stop.TheVariants.{ConstraintFails, AssertFails, ZeroDivisor}
use Rattle.wit_code.specs.declared.code.Stop.TheVariants.{IndexOut, FuelSpent, TooDeep, OutOfMemory}
use Rattle.circom_lines.specs.Generated.{generated_input}
use Rattle.circom_words.specs.Words.{Options}
use Rattle.circom_lines.specs.declared.answer.Refusal.{Refusal}
use Rattle.circom_files.specs.Running.{input_in}
use Rattle.circom_files.specs.declared.outcome.Halt.{Halt}
use Rattle.circom_files.specs.declared.outcome.Ran.{Ran}
use Rattle.circom_files.specs.declared.outcome.Ran.TheVariants.{Ended, Halted}
use Rattle.circom_files.specs.declared.outcome.Generated.{Generated}
use Rattle.circom_files.specs.declared.outcome.Generated.TheVariants as made
use Rattle.circom_gold.specs.Compile.{CompilesTo, task_of}
use Rattle.circom_gold.specs.Witness.{IsSource, GivesInput, RunsTo, HaltsBy, IsRunOf, IsWitnessed}
use Rattle.circom_gold.specs.Witness.{IsInputRefused, Witnesses, IsGeneratedRun, IsGenerated}
use Rattle.circom_gold.specs.Witness.{Generates, generated_files, generated_name, generated_options}
use Rattle.circom_gold.specs.Witness.{values_by_wire, place_of}
use Rattle.circom_gold.proofs.OneCompiled.{one_compiled}

-- one answer
pub ok_same : {A E : Type 0} (r : Result A E) (a b : A) → r ≡ Ok a → r ≡ Ok b → a ≡ b
ok_same r a b x y = let both : Ok a ≡ Ok b = sym x ∙ y in cc

pub err_same : {A E : Type 0} (r : Result A E) (a b : E) → r ≡ Err a → r ≡ Err b → a ≡ b
err_same r a b x y = let both : Err a ≡ Err b = sym x ∙ y in cc

pub ok_or_err : {A E : Type 0} (r : Result A E) (a : A) (b : E) → r ≡ Ok a → r ≡ Err b → ⊥
ok_or_err r a b x y = let both : Ok a ≡ Err b = sym x ∙ y in cc

-- one list of inputs has these shapes
one_inputs : (xs ys : List InputShape) → map shape_of xs ≡ map shape_of ys → xs ≡ ys
one_inputs [] [] e = refl
one_inputs [] (y ∷ ys) e = cc
one_inputs (x ∷ xs) [] e = cc
one_inputs (x ∷ xs) (y ∷ ys) e =
    let head : shape_of x ≡ shape_of y = cc in
    let tail : map shape_of xs ≡ map shape_of ys = cc in
    let same : x ≡ y =
    λ i. record { name = (head i).name; first = (head i).first; count = (head i).count } in
    ap₂ (λ (z : InputShape) (zs : List InputShape). z ∷ zs) same (one_inputs xs ys tail)

one_list : (xs ys : List ℕ) → map Some xs ≡ map Some ys → xs ≡ ys
one_list [] [] e = refl
one_list [] (y ∷ ys) e = cc
one_list (x ∷ xs) [] e = cc
one_list (x ∷ xs) (y ∷ ys) e =
    let head : x ≡ y = cc in
    let tail : map Some xs ≡ map Some ys = cc in
    ap₂ (λ (z : ℕ) (zs : List ℕ). z ∷ zs) head (one_list xs ys tail)

-- the stop of this number
abbrev stop_of : Option ℕ → Stop
stop_of None = OutOfMemory
stop_of (Some n) =
    if n == 1 then ConstraintFails else (if n == 2 then AssertFails
    else (if n == 3 then ZeroDivisor else (if n == 4 then IndexOut
    else (if n == 5 then FuelSpent else TooDeep))))

stop_back : (s : Stop) → stop_of (stop_number s) ≡ s
stop_back ConstraintFails = refl
stop_back AssertFails = refl
stop_back ZeroDivisor = refl
stop_back IndexOut = refl
stop_back FuelSpent = refl
stop_back TooDeep = refl
stop_back OutOfMemory = refl

one_stop : (a b : Stop) → stop_number a ≡ stop_number b → a ≡ b
one_stop a b e = sym (stop_back a) ∙ ap stop_of e ∙ stop_back b

module _ (files : Contents) (source : List ℕ) (options : Options) where
  pub compiled_as : (p : Program) (f : File) → IsSource files source options p f
      → IsCompiled files (task_of source options) f
  compiled_as p f x = record { program = p; loaded = x.loaded; written = x.written }

  pub one_source : (p q : Program) (f g : File) → IsSource files source options p f
      → IsSource files source options q g → p ≡ q
  one_source p q f g x y = one_program files source options.folder p q x.loaded y.loaded

  pub one_source_file : (p q : Program) (f g : File) → IsSource files source options p f
      → IsSource files source options q g → f ≡ g
  one_source_file p q f g x y =
      one_file files (task_of source options) f g (compiled_as p f x) (compiled_as q g y)

  pub one_refused_source : (r s : Refusal) → CompilesTo files source options (Err r)
      → CompilesTo files source options (Err s) → r ≡ s
  one_refused_source r s x y =
      err_same (Err r) r s refl (one_compiled files source options (Err r) (Err s) x y)

  pub source_or_refused : (p : Program) (f : File) (r : Refusal) → IsSource files source options p f
      → CompilesTo files source options (Err r) → ⊥
  source_or_refused p f r x y =
      let same : Ok f ≡ Err r =
      one_compiled files source options (Ok f) (Err r) (compiled_as p f x) y in
      cc

pub one_given : (files : Contents) (input : List ℕ) (p q : Program)
    (x y : Result (List ℕ) Refusal) → p ≡ q → GivesInput files input p x
    → GivesInput files input q y → x ≡ y
one_given files input p q x y same a b =
    let meaning : a.has.meaning ≡ b.has.meaning =
    ok_same (compiled q) a.has.meaning b.has.meaning (sym (ap compiled same) ∙ a.has.compiles)
    b.has.compiles in
    let shapes : map shape_of a.inputs ≡ map shape_of b.inputs =
    a.has.are ∙ ap (λ (c : Circuit). c.inputs) meaning ∙ sym b.has.are in
    sym a.reads ∙ ap (input_in files input) (one_inputs a.inputs b.inputs shapes) ∙ b.reads

module _ (p : Program) (fuel : ℕ) (inputs : List ℕ) where
  one_numbers : (ns ms : List ℕ) (log lines : List (List ℕ)) → RunsTo p fuel inputs ns log
      → RunsTo p fuel inputs ms lines → (ns ≡ ms) × (log ≡ lines)
  one_numbers ns ms log lines x y =
      let one : Ending = record { values = map Some ns; log = log } in
      let other : Ending = record { values = map Some ms; log = lines } in
      let whole : one ≡ other = ok_same (ran p fuel inputs) one other x y in
      (one_list ns ms (ap (λ (e : Ending). e.values) whole), ap (λ (e : Ending). e.log) whole)

  one_halt : (a b : Halt) → HaltsBy p fuel inputs a → HaltsBy p fuel inputs b → a ≡ b
  one_halt a b x y =
      let whole : Stopped x.number x.at a.log ≡ Stopped y.number y.at b.log =
      err_same (ran p fuel inputs) (Stopped x.number x.at a.log) (Stopped y.number y.at b.log)
      x.runs y.runs in
      let number : x.number ≡ y.number = cc in
      let at : x.at ≡ y.at = cc in
      let log : a.log ≡ b.log = cc in
      let stop : a.stop ≡ b.stop =
      one_stop a.stop b.stop (x.stop ∙ ap (λ (n : ℕ). Some n) number ∙ sym y.stop) in
      let place : a.place ≡ b.place = x.place ∙ ap (place_of p) at ∙ sym y.place in
      λ i. record { stop = stop i; place = place i; log = log i }

  ended_or_halted : (ns : List ℕ) (log : List (List ℕ)) (h : Halt) → RunsTo p fuel inputs ns log
      → HaltsBy p fuel inputs h → ⊥
  ended_or_halted ns log h x y =
      ok_or_err (ran p fuel inputs) (record { values = map Some ns; log = log })
      (Stopped y.number y.at h.log) x y.runs

  pub one_run : (f : File) (a b : Ran) → IsRunOf p f fuel inputs a → IsRunOf p f fuel inputs b
      → a ≡ b
  one_run f (Ended vs log) (Ended ws lines) (ns, x, e) (ms, y, k) =
      let both = one_numbers ns ms log lines x y in
      ap₂ Ended (e ∙ ap (values_by_wire f) both.0 ∙ sym k) both.1
  one_run f (Ended vs log) (Halted h) (ns, x, e) y = absurd (ended_or_halted ns log h x y)
  one_run f (Halted h) (Ended ws lines) x (ms, y, k) = absurd (ended_or_halted ms lines h y x)
  one_run f (Halted g) (Halted h) x y = ap Halted (one_halt g h x y)

  pub one_generated_run : (f : File) (a b : Generated) → IsGeneratedRun p f fuel inputs a
      → IsGeneratedRun p f fuel inputs b → a ≡ b
  one_generated_run f (made.Ended w c o log) (made.Ended v d u lines)
      (ns, x, e1, e2, e3, _) (ms, y, k1, k2, k3, _) =
      let both = one_numbers ns ms log lines x y in
      let wires : w ≡ v = e1 ∙ sym k1 in
      let constraints : c ≡ d = e2 ∙ sym k2 in
      let out : o ≡ u = e3 ∙ ap (λ (l : List ℕ). slice_index l 1) both.0 ∙ sym k3 in
      λ i. made.Ended (wires i) (constraints i) (out i) (both.1 i)
  one_generated_run f (made.Ended w c o log) (made.Halted h) (ns, x, e1, e2, e3, _) y =
      absurd (ended_or_halted ns log h x y)
  one_generated_run f (made.Halted h) (made.Ended v d u lines) x (ms, y, k1, k2, k3, _) =
      absurd (ended_or_halted ms lines h y x)
  one_generated_run f (made.Halted g) (made.Halted h) x y = ap made.Halted (one_halt g h x y)

module _ (files : Contents) (source input : List ℕ) (options : Options) (fuel : ℕ) where
  pub one_witnessed : (a b : Ran) → IsWitnessed files source input options fuel a
      → IsWitnessed files source input options fuel b → a ≡ b
  one_witnessed a b x y =
      let program = one_source files source options x.program y.program x.file y.file
      x.compiled y.compiled in
      let file = one_source_file files source options x.program y.program x.file y.file
      x.compiled y.compiled in
      let given : Ok (1 ∷ x.inputs) ≡ Ok (1 ∷ y.inputs) =
      one_given files input x.program y.program (Ok (1 ∷ x.inputs)) (Ok (1 ∷ y.inputs)) program
      x.given y.given in
      let inputs : x.inputs ≡ y.inputs = cc in
      one_run y.program fuel y.inputs y.file a b
      (subst (λ (l : List ℕ). IsRunOf y.program y.file fuel l a) inputs
      (subst (λ (f : File). IsRunOf y.program f fuel x.inputs a) file
      (subst (λ (p : Program). IsRunOf p x.file fuel x.inputs a) program x.run))) y.run

  one_refused_input : (r s : Refusal) → IsInputRefused files source input options r
      → IsInputRefused files source input options s → r ≡ s
  one_refused_input r s x y =
      let program = one_source files source options x.program y.program x.file y.file
      x.compiled y.compiled in
      let given : Err r ≡ Err s =
      one_given files input x.program y.program (Err r) (Err s) program x.given y.given in
      cc

  witnessed_or_refused : (a : Ran) (r : Refusal) → IsWitnessed files source input options fuel a
      → IsInputRefused files source input options r → ⊥
  witnessed_or_refused a r x y =
      let program = one_source files source options x.program y.program x.file y.file
      x.compiled y.compiled in
      let given : Ok (1 ∷ x.inputs) ≡ Err r =
      one_given files input x.program y.program (Ok (1 ∷ x.inputs)) (Err r) program x.given
      y.given in
      cc

  pub one_witness : (x y : Result Ran Refusal) → Witnesses files source input options fuel x
      → Witnesses files source input options fuel y → x ≡ y
  one_witness (Ok a) (Ok b) x y = ap Ok (one_witnessed a b x y)
  one_witness (Ok a) (Err s) x (inl y) =
      absurd (source_or_refused files source options x.program x.file s x.compiled y)
  one_witness (Ok a) (Err s) x (inr y) = absurd (witnessed_or_refused a s x y)
  one_witness (Err r) (Ok b) (inl x) y =
      absurd (source_or_refused files source options y.program y.file r y.compiled x)
  one_witness (Err r) (Ok b) (inr x) y = absurd (witnessed_or_refused b r y x)
  one_witness (Err r) (Err s) (inl x) (inl y) =
      ap Err (one_refused_source files source options r s x y)
  one_witness (Err r) (Err s) (inl x) (inr y) =
      absurd (source_or_refused files source options y.program y.file r y.compiled x)
  one_witness (Err r) (Err s) (inr x) (inl y) =
      absurd (source_or_refused files source options x.program x.file s x.compiled y)
  one_witness (Err r) (Err s) (inr x) (inr y) = ap Err (one_refused_input r s x y)

module _ (seed size fuel : ℕ) where
  one_made : (a b : Generated) → IsGenerated seed size fuel a → IsGenerated seed size fuel b
      → a ≡ b
  one_made a b x y =
      let program = one_source (generated_files size) generated_name generated_options x.program
      y.program x.file y.file x.compiled y.compiled in
      let file = one_source_file (generated_files size) generated_name generated_options x.program
      y.program x.file y.file x.compiled y.compiled in
      one_generated_run y.program fuel (generated_input seed) y.file a b
      (subst (λ (f : File). IsGeneratedRun y.program f fuel (generated_input seed) a) file
      (subst (λ (p : Program). IsGeneratedRun p x.file fuel (generated_input seed) a) program
      x.run)) y.run

  pub one_generated : (x y : Result Generated Refusal) → Generates seed size fuel x
      → Generates seed size fuel y → x ≡ y
  one_generated (Ok a) (Ok b) x y = ap Ok (one_made a b x y)
  one_generated (Ok a) (Err s) x y =
      absurd (source_or_refused (generated_files size) generated_name generated_options x.program
      x.file s x.compiled y)
  one_generated (Err r) (Ok b) x y =
      absurd (source_or_refused (generated_files size) generated_name generated_options y.program
      y.file r y.compiled x)
  one_generated (Err r) (Err s) x y =
      ap Err
      (one_refused_source (generated_files size) generated_name generated_options r s x y)
