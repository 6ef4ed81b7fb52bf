-- Where the inputs of main are as many as its template has, each has its number.
use Rattle.std.proofs.Common.{◌≡◌, ℕ, zero, suc, ◌+◌, ◌*◌, ◌-◌, ◌/◌, ◌%◌, ◌≤◌, ◌<◌, Bool, true}
use Rattle.std.proofs.Common.{false, cond, List, [], ◌∷◌, length, Option, Some, None, is_some, refl}
use Rattle.std.proofs.Common.{sym, ap, subst, ◌∙◌, slice_get, arith, mod-eq_of_lt}
use Rattle.std.specs.Prelude.{◌^◌, bytes_eq}
use Rattle.std.specs.List.{list_any}
use native.Mathlib.Nat.{add-mul-div_left, add-mul-mod_self_left, div-eq_of_lt}
use Rattle.cir_ast.specs.declared.operators.Direction.{Direction}
use Rattle.cir_ast.specs.declared.operators.Direction.TheVariants.{Inner, Input, Output}
use Rattle.cir_meaning.specs.Frame.{SignalEntry, Signals, PublicInputs, PrivateInputs, Sizes}
use Rattle.cir_meaning.specs.Frame.{Context, entry_at, is_input, before_group, size_in}
use Rattle.cir_meaning.specs.Compile.{main_group, before, final_number}
use Rattle.cir_meaning.specs.RunBodies.{input_wires}
use Rattle.cir_meaning.proofs.SignalDeclarations.{IsShape}
use Rattle.cir_meaning.proofs.Holds.{get_less}
use Rattle.cir_meaning.proofs.MainPlaces.{Place}

get_some : {A : Type 0} (xs : List A) (i : ℕ) → i < length xs → is_some (slice_get xs i) ≡ true
get_some [] i h = absurd (omega arith)
get_some (x ∷ xs) zero h = refl
get_some (x ∷ xs) (suc i) h = get_some xs i (omega arith)

-- numbers of a group
digit : (size i a : ℕ) → i < size → ((i + size * a) / size ≡ a) × ((i + size * a) % size ≡ i)
digit size i a less = (
  omega (arith, add-mul-div_left i a {y = size} (omega arith), div-eq_of_lt less),
  add-mul-mod_self_left i size a ∙ mod-eq_of_lt less,
)

pub final_at : (size i a : ℕ) (s : Sizes) (n : ℕ) → i < size → n ≡ suc (i + size * a)
    → final_number size s n ≡ 1 + (before s a + i)
final_at size i a s n less e =
    ap (final_number size s) e
    ∙ ap (λ (d : ℕ). 1 + (before s d + (i + size * a) % size)) (digit size i a less).0
    ∙ ap (λ (d : ℕ). 1 + (before s a + d)) (digit size i a less).1

-- the number of one input
abbrev wire_of : ℕ → Sizes → List ℕ → ℕ → Option SignalEntry → Option ℕ
wire_of size sizes inputs k None = None
wire_of size sizes inputs k (Some e) =
    cond (is_input e.direction) (slice_get inputs (final_number size sizes (e.first + k) -
    (1 + sizes.outputs))) None

wire_is : (size : ℕ) (sizes : Sizes) (inputs : List ℕ) (signals : Signals) (n k : ℕ)
    → input_wires size sizes inputs signals n k
    ≡ wire_of size sizes inputs k (entry_at signals n)
wire_is size sizes inputs signals n k = refl

module _ (k : Context) (size : ℕ) (publics : List (List ℕ)) (sizes : Sizes) (inputs : List ℕ)
    (sized : k.group_size ≡ size) (grouped : k.group ≡ main_group publics)
    (small : size ≤ 2 ^ 64 - 1) (few : length inputs < size)
    (count : length inputs ≡ sizes.public_inputs + sizes.private_inputs) where
  -- an input's number among the inputs
  abbrev index : SignalEntry → ℕ → ℕ
  index e p = final_number size sizes (e.first + p) - (1 + sizes.outputs)

  public_index : (e : SignalEntry) (p : ℕ) → p < length e.written
      → (1 + before_group size PublicInputs ≤ e.first)
      × (e.first + length e.written ≤ 1 + before_group size PublicInputs + sizes.public_inputs)
      → index e p < length inputs
  public_index e p less place =
      let low : 1 + size ≤ e.first = place.0 in
      let high : e.first + length e.written ≤ 1 + size + sizes.public_inputs = place.1 in
      let i : ℕ = e.first + p - (1 + size) in
      let in_group : i < size = omega arith in
      let number : e.first + p ≡ suc (i + size * 1) = omega arith in
      let final : final_number size sizes (e.first + p) ≡ 1 + (sizes.outputs + i) =
      final_at size i 1 sizes (e.first + p) in_group number in
      omega arith

  private_index : (e : SignalEntry) (p : ℕ) → p < length e.written
      → (1 + before_group size PrivateInputs ≤ e.first)
      × (e.first + length e.written ≤ 1 + before_group size PrivateInputs + sizes.private_inputs)
      → index e p < length inputs
  private_index e p less place =
      let low : 1 + 2 * size ≤ e.first = place.0 in
      let high : e.first + length e.written ≤ 1 + 2 * size + sizes.private_inputs = place.1 in
      let i : ℕ = e.first + p - (1 + 2 * size) in
      let in_group : i < size = omega arith in
      let number : e.first + p ≡ suc (i + size * 2) = omega arith in
      let final : final_number size sizes (e.first + p)
      ≡ 1 + (sizes.outputs + sizes.public_inputs + i) =
      final_at size i 2 sizes (e.first + p) in_group number in
      omega arith

  input_index : (e : SignalEntry) (p : ℕ) → is_input e.direction ≡ true → p < length e.written
      → Place k sizes e → index e p < length inputs
  input_index e p input less place = by_direction e.direction refl input
    where
      its : (d : Direction) → e.direction ≡ d
          → size_in (main_group publics d e.name) sizes < 2 ^ 64 - 1
          → (1 + before_group size (main_group publics d e.name) ≤ e.first)
          × (e.first + length e.written ≤ 1 + before_group size (main_group publics d e.name)
          + size_in (main_group publics d e.name) sizes)
      its d is =
          subst (λ x. size_in (main_group publics x e.name) sizes < 2 ^ 64 - 1
          → (1 + before_group size (main_group publics x e.name) ≤ e.first)
          × (e.first + length e.written ≤ 1 + before_group size (main_group publics x e.name)
          + size_in (main_group publics x e.name) sizes)) is
          (subst (λ n. size_in (main_group publics e.direction e.name) sizes < 2 ^ 64 - 1
          → (1 + before_group n (main_group publics e.direction e.name) ≤ e.first)
          × (e.first + length e.written
          ≤ 1 + before_group n (main_group publics e.direction e.name)
          + size_in (main_group publics e.direction e.name) sizes)) sized
          (subst (λ g. size_in (g e.direction e.name) sizes < 2 ^ 64 - 1
          → (1 + before_group k.group_size (g e.direction e.name) ≤ e.first)
          × (e.first + length e.written ≤ 1 + before_group k.group_size (g e.direction e.name)
          + size_in (g e.direction e.name) sizes)) grouped place))

      by_name : (b : Bool)
          → (size_in (cond b PublicInputs PrivateInputs) sizes < 2 ^ 64 - 1
          → (1 + before_group size (cond b PublicInputs PrivateInputs) ≤ e.first)
          × (e.first + length e.written
          ≤ 1 + before_group size (cond b PublicInputs PrivateInputs)
          + size_in (cond b PublicInputs PrivateInputs) sizes)) → index e p < length inputs
      by_name true h = public_index e p less (h (omega arith))
      by_name false h = private_index e p less (h (omega arith))

      by_direction : (d : Direction) → e.direction ≡ d → is_input d ≡ true
          → index e p < length inputs
      by_direction Inner is i = cc
      by_direction Output is i = cc
      by_direction Input is i =
          by_name (list_any (λ n. bytes_eq n e.name) publics) (its Input is)

  pub inputs_shape : (signals : Signals) (n : ℕ) (e : SignalEntry) → entry_at signals n ≡ Some e
      → Place k sizes e → IsShape (input_wires size sizes inputs signals) n e
  inputs_shape signals n e there place p b at =
      ap is_some (wire_is size sizes inputs signals n p)
      ∙ ap (λ o. is_some (wire_of size sizes inputs p o)) there
      ∙ by_input (is_input e.direction) refl
    where
      by_input : (i : Bool) → is_input e.direction ≡ i
          → is_some (cond (is_input e.direction) (slice_get inputs (index e p)) None)
          ≡ is_input e.direction
      by_input true i =
          subst (λ c. is_some (cond c (slice_get inputs (index e p)) None) ≡ c) (sym i)
          (get_some inputs (index e p)
          (input_index e p i (get_less e.written p b at) place))
      by_input false i =
          subst (λ c. is_some (cond c (slice_get inputs (index e p)) None) ≡ c) (sym i) refl
