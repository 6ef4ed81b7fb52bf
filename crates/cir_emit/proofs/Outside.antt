-- What a step tells of the dimensions of arrays of components: which indices are outside.
use Rattle.std.proofs.Common.{◌≡◌, ℕ, ◌<◌, Bool, true, false, cond, List, [], ◌∷◌, length, map}
use Rattle.std.proofs.Common.{Option, Some, None, Result, Err, refl, sym, ap, ap₂, subst, ◌∙◌}
use Rattle.std.proofs.Common.{arith}
use Rattle.std.specs.Prelude.{◌&&◌, nat_lt, slice_get, slice_index, not}
use Rattle.std.proofs.lemmas.Bool.{and_parts, ltb-true, ltb-false}
use Rattle.cir_ast.specs.declared.program.Meant.TheVariants as meant
use Rattle.cir_meaning.specs.Tried.{Where}
use Rattle.cir_meaning.specs.Places.{is_inside, places_of, all_known}
use Rattle.cir_meaning.specs.Arrays.{Shaped}
use Rattle.cir_meaning.specs.Costs.{Cost}
use Rattle.cir_meaning.specs.Frame.{SignalEntry, Part, ComponentEntry, State, Context, entry_at}
use Rattle.cir_meaning.specs.Frame.{is_inner}
use Rattle.cir_meaning.specs.Reading.{find_signal}
use Rattle.cir_meaning.specs.RunValues.{index_out}
use Rattle.cir_meaning.specs.Run.{Wires, RunPart, found_port, port_of, part_signal}
use Rattle.cir_meaning.specs.Run.{component_signal}
use Rattle.cir_steps.specs.Step.{Work, LogPart}
use Rattle.cir_steps.specs.Emission.{Emission, step_of}
use Rattle.wit_lower.specs.Fits.{IsElement}
use Rattle.wit_lower.specs.Homes.{Ground, Named}
use Rattle.cir_emit.specs.Sourced.{AreSized}
use Rattle.cir_emit.proofs.Reached.{known_again}

-- dimensions are the same that have the same indices inside, where there are some
abbrev SameInside : (a b : List ℕ) → Type 0
SameInside a b = (is : List ℕ) → is_inside a (map Some is) ≡ is_inside b (map Some is)

not_below : (n : ℕ) → nat_lt n n ≡ true → ⊥
not_below n e = let less : n < n = ltb-true n n e in omega (arith, less)

and_true : (b : Bool) → (b && true) ≡ b
and_true true = refl
and_true false = refl

first_same : (c d : ℕ) (a b : List ℕ) → SameInside (c ∷ a) (d ∷ b) → c ≡ d
first_same c d a b h = at (nat_lt c d) refl (nat_lt d c) refl
  where
    tested : (i : ℕ) → nat_lt i c ≡ nat_lt i d
    tested i = sym (and_true (nat_lt i c)) ∙ h (i ∷ []) ∙ and_true (nat_lt i d)

    at : (s : Bool) → nat_lt c d ≡ s → (t : Bool) → nat_lt d c ≡ t → c ≡ d
    at true es t et = absurd (not_below c (tested c ∙ es))
    at false es true et = absurd (not_below d (sym (tested d) ∙ et))
    at false es false et = omega (arith, ltb-false c d es, ltb-false d c et)

pub dims_same : (a b : List ℕ) → SameInside a b → (is : List ℕ) → length is ≡ length a
    → is_inside a (map Some is) ≡ true → a ≡ b
dims_same [] [] h is full inside = refl
dims_same [] (d ∷ b) h is full inside =
    absurd (not_below d (sym (and_true (nat_lt d d)) ∙ sym (h (d ∷ []))))
dims_same (c ∷ a) b h [] full inside = cc
dims_same (c ∷ a) [] h (i ∷ is) full inside =
    absurd (not_below c (sym (and_true (nat_lt c c)) ∙ h (c ∷ [])))
dims_same (c ∷ a) (d ∷ b) h (i ∷ is) full inside =
    let two : (nat_lt i c ≡ true) × (is_inside a (map Some is) ≡ true) =
    and_parts (nat_lt i c) _ inside in
    let same : c ≡ d = first_same c d a b h in
    let rest : SameInside a b = λ js.
    sym (ap (λ t. t && is_inside a (map Some js)) two.0) ∙ h (i ∷ js) ∙
    ap (λ e. nat_lt i e && is_inside b (map Some js)) (sym same) ∙
    ap (λ t. t && is_inside b (map Some js)) two.0 in
    ap₂ (λ x xs. x ∷ xs) same (dims_same a b rest is (omega (arith, full)) two.1)

-- the signal of a part is never outside
found_never : (wires : Wires) (o : Option (ℕ × SignalEntry))
    → found_port wires o ≡ Err index_out → ⊥
found_never wires None e = cc
found_never wires (Some x) e = cc

port_never : (name : List ℕ) (p : Option Part) (r : Option RunPart)
    → port_of name p r ≡ Err index_out → ⊥
port_never name (Some p) (Some r) e =
    found_never r.ports (find_signal (λ e. not (is_inner e.direction)) name 0 p.signals) e
port_never name (Some p) None e = cc
port_never name None r e = cc

part_never : (s : State) (parts : List RunPart) (name : List ℕ) (o : Option ℕ)
    → part_signal s parts name o ≡ Err index_out → ⊥
part_never s parts name None e = cc
part_never s parts name (Some j) e =
    port_never name (slice_get s.frame.parts j) (slice_get parts j) e

pub sized_agree : (k : Context) (w : Where) (cost : Cost) (work : Work) (targets : List ℕ)
    (line : Option (List LogPart)) (x : Emission) (s : State) (components : ℕ → List ℕ)
    → AreSized (step_of k w s cost work targets line x) components → (n : ℕ) (c : ComponentEntry)
    → entry_at s.frame.components n ≡ Some c → (is : List ℕ)
    → is_inside (components n) (map Some is) ≡ is_inside c.dims (map Some is)
sized_agree k w cost work targets line x s components h n c e is =
    at (is_inside (components n) (map Some is)) refl (is_inside c.dims (map Some is)) refl
  where
    signal : Bool → Result (Shaped (Option ℕ)) ℕ
    signal b =
        cond b (part_signal s x.cells.parts []
        (entry_at c.parts (slice_index (places_of c.dims (map Some is)) 0))) (Err index_out)

    told : (b : Bool) → is_inside c.dims (map Some is) ≡ b
        → component_signal s x.cells.parts (entry_at s.frame.components n) is [] ≡ signal b
    told b eb = ap (λ o. component_signal s x.cells.parts o is []) e ∙ ap signal eb

    at : (a : Bool) → is_inside (components n) (map Some is) ≡ a → (b : Bool)
        → is_inside c.dims (map Some is) ≡ b
        → is_inside (components n) (map Some is) ≡ is_inside c.dims (map Some is)
    at true ea true eb = ea ∙ sym eb
    at false ea false eb = ea ∙ sym eb
    at false ea true eb =
        absurd (part_never s x.cells.parts []
        (entry_at c.parts (slice_index (places_of c.dims (map Some is)) 0))
        (sym (told true eb) ∙ h.outside n is [] ea))
    at true ea false eb = h.inside n is [] (told false eb) ∙ sym eb

-- known indices of an element, one for each dimension where they are inside
pub element_told : (g : Ground) (n : ℕ) (ks : List (Option ℕ)) (is : List ℕ) → ks ≡ map Some is
    → (is_inside (g.components n) (map Some is) ≡ true → length is ≡ length (g.components n))
    → IsElement g (Named (meant.Component n)) ks
element_told g n ks is ks_are full known known_is inside =
    let both : Some known ≡ Some is = sym known_is ∙ ap all_known ks_are ∙ known_again is in
    let same_is : known ≡ is = cc in
    subst (λ js. length js ≡ length (g.components n)) (sym same_is)
    (full (subst (λ js. is_inside (g.components n) (map Some js) ≡ true) same_is inside))
