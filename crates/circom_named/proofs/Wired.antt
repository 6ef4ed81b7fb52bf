-- Names of the wires of a constraint, and of what was read of a witness and of lines.
use Rattle.std.proofs.Common.{◌≡◌, ◌∙◌, ◌==◌, ◌||◌, ℕ, zero, suc, ◌+◌}
use Rattle.std.proofs.Common.{◌-◌, ◌<◌, ◌≤◌, ◌≢◌}
use Rattle.std.proofs.Common.{Bool, true, false, List, [], ◌∷◌, ◌++◌, length, drop}
use Rattle.std.proofs.Common.{get_or}
use Rattle.std.proofs.Common.{set, replicate}
use Rattle.std.proofs.Common.{All, find, nat_lt, slice_get, if◌then◌else◌, Option, Some, None}
use Rattle.std.proofs.Common.{refl, ap, sym, subst, arith}
use Rattle.std.proofs.lemmas.List.{append-nil, drop_more, length-replicate}
use Rattle.std.proofs.lemmas.Option.{slice_get-get_or, slice_get_past}
use Rattle.std.proofs.lemmas.Bool.{ltb-true}
use Rattle.std.proofs.lemmas.Bool.Decides.{Decides-eqb, nat_tests}
use Rattle.std.proofs.lemmas.List.Elements.{All-get_or}
use Rattle.std.proofs.lemmas.Grind.{common_steps}
use Rattle.std.specs.Option.{option_and_then, option_map_or}
use Rattle.gold_field.specs.declared.form.Term.{Term}
use Rattle.gold_field.specs.declared.form.Constraint.{Constraint}
use Rattle.gold_field.specs.Form.{ConstraintBelow}
use Rattle.iden_files.specs.File.{File, IsFile}
use Rattle.sym_file.specs.declared.line.SymLine.{SymLine}
use Rattle.circom_lines.specs.declared.answer.Verdict.TheVariants.{ConstraintFails}
use Rattle.circom_named.specs.Named.{failing_names, is_of, names_of, occurs}
use Rattle.circom_named.specs.Named.{stands_in, wires_to}

pub any_default : {X : Type 0} (xs : List X) (i : ℕ) (d e : X) → i < length xs
    → get_or xs i d ≡ get_or xs i e
any_default (x ∷ xs) zero d e inside = refl
any_default (x ∷ xs) (suc i) d e inside = any_default xs i d e (omega (arith, inside))
any_default [] i d e inside = absurd (omega (arith, inside))

-- ---- the first line of a wire

abbrev empty : SymLine
empty = record { label = 0; wire = None; instance = 0; name = [] }

-- the place of the wire's first line among those from here on
abbrev pub IsFirst : List SymLine → (from wire : ℕ) → Option ℕ → Type 0
IsFirst lines from wire place =
    find (is_of wire) (drop from lines) ≡ option_and_then (slice_get lines) place

first_by : (lines left : List SymLine) (line : SymLine) (place wire : ℕ) (b : Bool)
    (before : Option ℕ) → slice_get lines place ≡ Some line
    → find (is_of wire) left ≡ option_and_then (slice_get lines) before
    → (if b then Some line else find (is_of wire) left)
    ≡ option_and_then (slice_get lines) (if b then Some place else before)
first_by lines left line place wire true before here later = sym here
first_by lines left line place wire false before here later = later

pub one_more : (lines : List SymLine) (place wire : ℕ) (before after : Option ℕ)
    → place < length lines
    → after ≡ (if is_of wire (get_or lines place empty) then Some place else before)
    → IsFirst lines (place + 1) wire before → IsFirst lines place wire after
one_more lines place wire before after inside noted later =
    let line : SymLine = get_or lines place empty in
    ap (find (is_of wire)) (drop_more lines place empty inside)
    ∙ first_by lines (drop (place + 1) lines) line place wire (is_of wire line) before
    (slice_get-get_or lines place empty inside) later
    ∙ ap (option_and_then (slice_get lines)) (sym noted)

-- the place of the first line of each wire
pub record AreFirst (lines : List SymLine) (from wires : ℕ) (first : List (Option ℕ))
    : Type 0 where
  pub count : length first ≡ wires
  pub within : from ≤ length lines
  pub each : (wire : ℕ) → wire < wires → IsFirst lines from wire (get_or first wire None)

pub none_first : (lines : List SymLine) (wires : ℕ) (first : List (Option ℕ))
    → first ≡ replicate wires None → AreFirst lines (length lines) wires first
none_first lines wires first is = record {
  count = ap length is ∙ length-replicate wires None;
  within = omega arith;
  each = λ wire inside.
      let none : get_or first wire None ≡ None = grind (arith, common_steps, is) in
      let past : drop (length lines) lines ≡ [] = grind (arith, common_steps) in
      ap (find (is_of wire)) past
      ∙ ap (option_and_then (slice_get lines)) (sym none);
}

-- what is noted of one more line
pub more_first : (lines : List SymLine) (place wires : ℕ) (default : SymLine)
    (before after : List (Option ℕ)) → 0 < place → AreFirst lines place wires before
    → length after ≡ length before
    → ((wire : ℕ) → wire < length before → get_or after wire None
    ≡ (if is_of wire (get_or lines (place - 1) default) then Some (place - 1)
    else get_or before wire None))
    → AreFirst lines (place - 1) wires after
more_first lines place wires default before after some f count noted = record {
  count = count ∙ f.count;
  within = omega (arith, f.within);
  each = λ wire inside.
      let there : place - 1 < length lines = omega (arith, f.within, some) in
      let back : place ≡ place - 1 + 1 = omega (arith, some) in
      one_more lines (place - 1) wire (get_or before wire None) (get_or after wire None) there
      (noted wire (omega (arith, inside, f.count))
      ∙ ap (λ (l : SymLine). if is_of wire l then Some (place - 1) else get_or before wire None)
      (any_default lines (place - 1) default empty there))
      (subst (λ (from : ℕ). IsFirst lines from wire (get_or before wire None)) back
      (f.each wire inside));
}

pub all_first : (lines : List SymLine) (place wires : ℕ) (first : List (Option ℕ))
    → AreFirst lines place wires first → place ≤ 0
    → (wire : ℕ) → wire < wires → find (is_of wire) lines
    ≡ option_and_then (slice_get lines) (get_or first wire None)
all_first lines place wires first f end wire inside =
    let zeroth : place ≡ 0 = omega (arith, end) in
    subst (λ (from : ℕ). IsFirst lines from wire (get_or first wire None)) zeroth
    (f.each wire inside)

-- ---- what terms mark

pub record Marks (marks start : List Bool) (left all : List Term) : Type 0 where
  pub count : length marks ≡ length start
  pub each : (wire : ℕ) → wire < length start
      → (get_or marks wire false || stands_in wire left)
      ≡ (get_or start wire false || stands_in wire all)

pub set_mark : (marks : List Bool) (place wire : ℕ) → place < length marks
    → get_or (set marks place true) wire false
    ≡ (if place == wire then true else get_or marks wire false)
set_mark marks place wire inside = by (place == wire) refl
  where
    by : (b : Bool) → (place == wire) ≡ b → get_or (set marks place true) wire false
        ≡ (if b then true else get_or marks wire false)
    by true e =
        let same : place ≡ wire = (Decides-eqb place wire).0 e in grind (arith, common_steps)
    by false e =
        let differ : place ≢ wire = λ same. no e ((Decides-eqb place wire).1 same) in
        grind (arith, common_steps)
      where
        no : {x : Bool} → x ≡ false → x ≡ true → ⊥
        no p q = cc

by_term : (b m rest : Bool) → ((if b then true else m) || rest) ≡ (m || (b || rest))
by_term true true rest = refl
by_term true false rest = refl
by_term false m rest = refl

pub one_mark : (terms : List Term) (i wire : ℕ) (d : Term) (m n : Bool) → i < length terms
    → n ≡ (if (get_or terms i d).signal == wire then true else m)
    → (n || stands_in wire (drop (i + 1) terms)) ≡ (m || stands_in wire (drop i terms))
one_mark terms i wire d m n inside is =
    ap (λ (x : Bool). x || stands_in wire (drop (i + 1) terms)) is
    ∙ by_term ((get_or terms i d).signal == wire) m (stands_in wire (drop (i + 1) terms))
    ∙ ap (λ (ts : List Term). m || stands_in wire ts) (sym (drop_more terms i d inside))

-- ---- the wires that occur

-- those below the next that are marked
pub record AreFound (k : Constraint) (wires next : ℕ) (marks : List Bool) (found : List ℕ)
    : Type 0 where
  pub some : 1 ≤ next
  pub last : next - 1 ≤ wires - 1
  pub are : found ≡ wires_to (next - 1) k
  pub below : All (λ (w : ℕ). w < wires) found

pub one_wire : (k : Constraint) (wire : ℕ) (b : Bool) (found : List ℕ) → 1 ≤ wire
    → b ≡ occurs wire k → found ≡ wires_to (wire - 1) k
    → found ++ (if b then wire ∷ [] else []) ≡ wires_to wire k
one_wire k zero b found some is same = absurd (omega (arith, some))
one_wire k (suc n) b found some is same =
    let before : suc n - 1 ≡ n = omega arith in
    ap (λ (x : Bool). found ++ (if x then suc n ∷ [] else [])) is
    ∙ ap (λ (xs : List ℕ). xs ++ (if occurs (suc n) k then suc n ∷ [] else []))
    (same ∙ ap (λ (m : ℕ). wires_to m k) before)

pub found_more : (k : Constraint) (wires next : ℕ) (marks : List Bool) (found after : List ℕ)
    (b : Bool) → AreFound k wires next marks found → next < wires → b ≡ occurs next k
    → after ≡ found ++ (if b then next ∷ [] else [])
    → AreFound k wires (next + 1) marks after
found_more k wires next marks found after b f inside is more =
    let back : next + 1 - 1 ≡ next = omega arith in
    record {
      some = omega arith;
      last = omega (arith, inside);
      are = more ∙ one_wire k next b found f.some is f.are
          ∙ ap (λ (m : ℕ). wires_to m k) (sym back);
      below = subst (All (λ (w : ℕ). w < wires)) (sym more) (added b);
    }
  where
    added : (b : Bool) → All (λ (w : ℕ). w < wires) (found ++ (if b then next ∷ [] else []))
    added true = grind (arith, common_steps, f.below, inside)
    added false = subst (All (λ (w : ℕ). w < wires)) (sym (append-nil found)) f.below

pub found_all : (k : Constraint) (wires next : ℕ) (marks : List Bool) (found : List ℕ)
    → AreFound k wires next marks found → wires ≤ next → found ≡ wires_to (wires - 1) k
found_all k wires next marks found f end =
    let same : next - 1 ≡ wires - 1 = omega (arith, f.last, end) in
    f.are ∙ ap (λ (m : ℕ). wires_to m k) same

-- three lists of terms mark what occurs in the constraint
pub occurs_marked : (k : Constraint) (wire : ℕ) (a b c : List Term) (m0 m1 m2 m3 : Bool)
    → m0 ≡ false → a ≡ k.a → b ≡ k.b → c ≡ k.c → m1 ≡ (m0 || stands_in wire a)
    → m2 ≡ (m1 || stands_in wire b) → m3 ≡ (m2 || stands_in wire c) → m3 ≡ occurs wire k
occurs_marked k wire a b c m0 m1 m2 m3 none ia ib ic e1 e2 e3 =
    let first : m1 ≡ stands_in wire k.a =
    e1 ∙ ap (λ (m : Bool). m || stands_in wire a) none ∙ ap (stands_in wire) ia in
    let second : m2 ≡ (stands_in wire k.a || stands_in wire k.b) =
    e2 ∙ (λ i. first i || stands_in wire (ib i)) in
    e3 ∙ (λ i. second i || stands_in wire (ic i)) ∙ or_assoc (stands_in wire k.a) _ _
  where
    or_assoc : (x y z : Bool) → ((x || y) || z) ≡ (x || y || z)
    or_assoc true y z = refl
    or_assoc false y z = refl

-- ---- the constraint that fails

pub below_in : (f : File) (n : ℕ) (ks : List Constraint) (p : ℕ) (k : Constraint) → IsFile f
    → f.wires ≡ n → ks ≡ f.constraints → true ≡ nat_lt p (length ks)
    → k ≡ get_or ks p k → ConstraintBelow n k
below_in f n ks p k file wires same inside is =
    let below : All (ConstraintBelow n) ks =
    subst (λ (m : ℕ). All (ConstraintBelow m) ks) wires
    (subst (All (ConstraintBelow f.wires)) (sym same) file.wired) in
    subst (ConstraintBelow n) (sym is)
    (All-get_or (ConstraintBelow n) ks p k (ltb-true p (length ks) (sym inside)) below)

there : (ks : List Constraint) (p : ℕ) (k : Constraint) → true ≡ nat_lt p (length ks)
    → k ≡ get_or ks p k → slice_get ks p ≡ Some k
there ks p k inside is =
    slice_get-get_or ks p k (ltb-true p (length ks) (sym inside)) ∙ ap Some (sym is)

pub fails_at : (f : File) (n : ℕ) (ks : List Constraint) (p : ℕ) (k : Constraint)
    (lines : List SymLine) → f.wires ≡ n → ks ≡ f.constraints
    → true ≡ nat_lt p (length ks) → k ≡ get_or ks p k → names_of lines n k ≡ failing_names f lines (ConstraintFails p)
fails_at f n ks p k lines wires same inside is =
    ap (λ (m : ℕ). names_of lines m k) (sym wires)
    ∙ ap (λ (o : Option Constraint). option_map_or (names_of lines f.wires) o [])
    (sym (there ks p k inside is))
    ∙ ap (λ (cs : List Constraint).
    option_map_or (names_of lines f.wires) (slice_get cs p) []) same

pub fails_nowhere : (f : File) (ks : List Constraint) (p : ℕ) (lines : List SymLine)
    → ks ≡ f.constraints → false ≡ nat_lt p (length ks)
    → [] ≡ failing_names f lines (ConstraintFails p)
fails_nowhere f ks p lines same outside =
    let far : length ks ≤ p = grind (arith, nat_tests) in
    ap (λ (o : Option Constraint). option_map_or (names_of lines f.wires) o [])
    (sym (slice_get_past ks p far))
    ∙ ap (λ (cs : List Constraint).
    option_map_or (names_of lines f.wires) (slice_get cs p) []) same
