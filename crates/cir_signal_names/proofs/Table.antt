-- A circuit's signals can be named.
use Rattle.std.proofs.Common.{◌≡◌, ◌≢◌, ℕ, zero, suc, ◌-◌, ◌*◌, ◌+◌}
use Rattle.std.proofs.Common.{◌<◌, ◌≤◌, ◌^◌, List, [], ◌∷◌}
use Rattle.std.proofs.Common.{◌++◌, length, map, get_or, Some, Result, Ok, Err, refl, sym, ap}
use Rattle.std.proofs.Common.{◌∙◌}
use Rattle.std.proofs.Common.{subst, arith, slice_get, ◌⊎◌, inl, inr}
use Rattle.std.specs.List.{AllByRecursion}
use Rattle.std.proofs.lemmas.Bool.{cases_lt}
use Rattle.std.proofs.lemmas.List.Elements.{All-from_recursion}
use Rattle.std.proofs.lemmas.Option.{slice_get-get_or}
use Rattle.std.proofs.lemmas.Str.{IsUtf8-from_ascii}
use Rattle.std.proofs.Math.Nat.{mul-le-mul_left, mul-le-mul_right}
use Rattle.text_lines.specs.Lines.{HasNo}
use Rattle.cir_ast.specs.Program.{Program}
use Rattle.cir_lexer.specs.Spelling.{is_identifier}
use Rattle.cir_meaning.specs.Places.{elements, brackets}
use Rattle.cir_meaning.specs.Compile as M
use Rattle.cir_values.specs.declared.signals.SignalName.{SignalName}
use Rattle.cir_values.specs.Names.{AreWords}
use Rattle.cir_values.specs.declared.signals.Signals.{Signals}
use Rattle.cir_row_names.specs.Rows.{IsLineByte, IsLineText, IsNamedProgram, IsNamedSignal}
use Rattle.cir_row_names.specs.Rows.{IsNamedCircuit}
use Rattle.cir_row_names.proofs.Texts.{line_append, brackets_line}
use Rattle.cir_row_names.proofs.Circuits.{compiled_named}
use Rattle.sym_file.specs.Table.{IsInLine, CanBeNamed, CanAllBeNamed}
use Rattle.cir_signal_names.specs.Table.{entry_of}
use Rattle.cir_loaded_names.proofs.Identifiers.{identifier_line, identifier_plain}

-- text of one line
ascii : (xs : List ℕ) → IsLineText xs → (i : ℕ) → get_or xs i 0 < 128
ascii [] h i = omega arith
ascii (x ∷ xs) h zero = h.0.0
ascii (x ∷ xs) h (suc i) = ascii xs h.1 i

feeds : (xs : List ℕ) → IsLineText xs → AllByRecursion (λ b. b ≢ 10) xs
feeds [] h = tt
feeds (x ∷ xs) h = (h.0.1, feeds xs h.1)

in_line : (xs : List ℕ) → IsLineText xs → IsInLine xs
in_line xs h = record {
  utf8 = IsUtf8-from_ascii xs (ascii xs h);
  one_line = All-from_recursion (λ b. b ≢ 10) xs (feeds xs h);
}

-- dimensions of an array with elements, and few of them
positive : (d e : ℕ) → 0 < d * e → 0 < e
positive d e h = cases (cases_lt 0 e)
  where
    cases : (0 < e) ⊎ (e ≤ 0) → 0 < e
    cases (inl some) = some
    cases (inr none) =
        let zero_e : e ≡ 0 = omega arith in
        let nothing : d * e ≡ 0 = ap (λ (n : ℕ). d * n) zero_e ∙ omega arith in
        absurd (omega (arith, nothing))

factor : (d e : ℕ) → 0 < d * e → e ≤ d * e
factor d e h = cases (cases_lt 0 d)
  where
    cases : (0 < d) ⊎ (d ≤ 0) → e ≤ d * e
    cases (inl some) =
        let one : 1 * e ≤ d * e = mul-le-mul_right e some in omega (arith, one)
    cases (inr none) =
        let zero_d : d ≡ 0 = omega arith in
        let nothing : d * e ≡ 0 = ap (λ (n : ℕ). n * e) zero_d ∙ omega arith in
        absurd (omega (arith, nothing))

words : (dims : List ℕ) → 0 < elements dims → elements dims ≤ 1048575 → AreWords dims
words [] some few = tt
words (d ∷ ds) some few =
    let e : ℕ = elements ds in
    let rest : 0 < e = positive d e some in
    let whole : d * 1 ≤ d * e = mul-le-mul_left d rest in
    (omega (arith, whole, few), words ds rest (omega (arith, factor d e some, few)))

-- an entry of the table
item_at : {A : Type 0} (P : A → Type 0) (xs : List A) (n : ℕ) (x : A) → AllByRecursion P xs
    → slice_get xs n ≡ Some x → P x
item_at P [] n x h e = cc
item_at P (y ∷ ys) zero x h e = let same : y ≡ x = cc in subst P same h.0
item_at P (y ∷ ys) (suc n) x h e = item_at P ys n x h.1 e

mapped_at : {A B : Type 0} (f : A → B) (xs : List A) (n : ℕ) (x : A)
    → slice_get xs n ≡ Some x
    → slice_get (map f xs) n ≡ Some (f x)
mapped_at f [] n x e = cc
mapped_at f (y ∷ ys) zero x e = let same : y ≡ x = cc in ap (λ z. Some (f z)) same
mapped_at f (y ∷ ys) (suc n) x e = mapped_at f ys n x e

module _ (m : M.Circuit) (signals : Signals) (same : map entry_of signals.names ≡ m.names)
  where
    named_at : IsNamedCircuit is_identifier m → (n : ℕ) (entry : SignalName)
        → slice_get signals.names n ≡ Some entry
        → IsNamedSignal is_identifier (length m.instances) (entry_of entry)
    named_at named n entry there =
        item_at (IsNamedSignal is_identifier (length m.instances)) m.names n (entry_of entry)
        named.signals
        (subst (λ (ns : List M.SignalName). slice_get ns n ≡ Some (entry_of entry)) same
        (mapped_at entry_of signals.names n entry there))

    can_be_named : IsNamedCircuit is_identifier m → (n : ℕ) (entry : SignalName) → 0 < n
        → slice_get signals.names (n - 1) ≡ Some entry → CanBeNamed signals m.instances n
    can_be_named named n entry first there =
        let h : IsNamedSignal is_identifier (length m.instances) (entry_of entry) =
        named_at named (n - 1) entry there in
        let path : List ℕ = get_or m.instances entry.instance [] in
        let here : slice_get m.instances entry.instance ≡ Some path =
        slice_get-get_or m.instances entry.instance [] h.instance in record {
          name = record {
            first = first;
            entry = entry;
            there = there;
            named = record {
              declared = h.declared;
              dims = h.dims;
              base = record {
                spelled = h.base;
                plain = identifier_plain h.declared h.name;
                small = words h.dims (omega (arith, h.inside)) h.few;
              };
              inside = h.inside;
            };
          };
          path = path;
          instance = here;
          base_fits =
              subst IsInLine (sym h.base) (in_line (h.declared ++ brackets h.dims)
              (line_append h.declared (brackets h.dims) (identifier_line h.declared h.name)
              (brackets_line h.dims)));
          path_fits =
              in_line path (item_at IsLineText m.instances entry.instance path named.paths here);
        }

    all_in : IsNamedCircuit is_identifier m → CanAllBeNamed signals m.instances
    all_in named n first within =
        let d : SignalName = record { instance = 0; base = []; place = 0 } in
        let there : slice_get signals.names (n - 1) ≡ Some (get_or signals.names (n - 1) d) =
        slice_get-get_or signals.names (n - 1) d (omega (arith, first, within)) in
        can_be_named named n (get_or signals.names (n - 1) d) first there

pub all_named : (p : Program) (m : M.Circuit) (signals : Signals)
    → IsNamedProgram is_identifier p → M.compiled p ≡ Ok m
    → map entry_of signals.names ≡ m.names → CanAllBeNamed signals m.instances
all_named p m signals named is same =
    all_in m signals same (compiled_named is_identifier identifier_line p m named is)
