-- What new cells and losses of variables keep, where a condition isn't known.
use Rattle.std.proofs.Common.{◌≡◌, ◌≢◌, ◌⊎◌, inl, inr, ◌∙◌, ℕ, ◌+◌, ◌<◌, ◌≤◌, ◌==◌, Bool, true}
use Rattle.std.proofs.Common.{false, List, [], ◌∷◌, ◌++◌, map, length, drop, Some, None, get_or}
use Rattle.std.proofs.Common.{slice_get, set, ap, sym, refl, subst, arith}
use Rattle.std.specs.Prelude.{◌||◌}
use Rattle.std.specs.List.{list_any}
use Rattle.std.specs.declared.vec.Vec.{Vec}
use Rattle.std.specs.declared.alloc.Global.{Global}
use Rattle.std.proofs.lemmas.Bool.{ne_eqb}
use Rattle.std.proofs.lemmas.List.{at_drop_more, drop_all}
use Rattle.std.proofs.lemmas.Option.{slice_get-get_or, slice_get_past}
use Rattle.cir_ast.specs.declared.program.Spot.{Spot}
use Rattle.cir_ast.specs.declared.program.Meant.{Meant}
use Rattle.cir_ast.specs.Tree.{Statement}
use Rattle.cir_meaning.specs.Arrays.{Datum, is_known}
use Rattle.cir_meaning.specs.Costs.{Made as Key}
use Rattle.cir_meaning.specs.Frame.{Part, State}
use Rattle.cir_meaning.specs.Unknown.{declares, outer_assigned}
use Rattle.cir_meaning.specs.Values.{Value}
use Rattle.cir_meaning.proofs.PartWrites.{get_other, same_or_not}
use Rattle.cir_meaning.proofs.Writing.{get_set}
use Rattle.cir_arrays.specs.Shown.{datum_of}
use Rattle.cir_frame.specs.Shown.{part_of}
use Rattle.cir_frame.specs.declared.frame.Frame.{Frame}
use Rattle.cir_steps.specs.Emission.{Emission, known_in}
use Rattle.cir_steps.specs.Making.{count_of, new_variables, wanted_of}
use Rattle.cir_steps.specs.Step as S
use Rattle.cir_steps.specs.Step.{Step, listed, put_sources}
use Rattle.cir_make.specs.declared.cells.Cells.{Cells}
use Rattle.cir_make.specs.declared.cells.VariableCells.{VariableCells}
use Rattle.cir_make.specs.declared.whole.Made.{Made}
use Rattle.cir_make.specs.Cells.{source_by}
use Rattle.cir_make.specs.Steps.{elements_of}
use Rattle.cir_make.specs.declared.make.Elements.{Elements}
use Rattle.cir_make.specs.Shows.{AreSourced, AreWaiting, IsKept, keys_of, source_in}
use Rattle.cir_write.proofs.NewCells.{listed_other, listed_put}
use Rattle.cir_body.specs.Renewed.{AreLost, AreRenewed, IsRenewed, cells_from}
use Rattle.cir_body.specs.Undone.{left_behind}
use Rattle.cir_body.proofs.Scanning.{touched_in}
use Rattle.cir_body.proofs.Undoing.{Differ}

-- ---- new cells
none_of : (a b : Bool) → a ≡ false → b ≡ false → (a || b) ≡ false
none_of true b e h = cc
none_of false b e h = h

-- a variable has new cells, or those that it had
renewed_at : (es : List S.Elements) (first : ℕ) (old new : List VariableCells)
    (xs : List (List S.Source)) (n : ℕ) (v : VariableCells) → AreRenewed es first old new
    → slice_get new n ≡ Some v
    → (map source_by v.sources.items ≡ listed (new_variables es first xs) n)
    ⊎ ((list_any (λ (e : S.Elements). e.variable == n) es ≡ false) × (slice_get old n ≡ Some v)
    × (listed (new_variables es first xs) n ≡ listed xs n))
renewed_at [] first old new xs n v h there =
    inr (refl, ap (λ (l : List VariableCells). slice_get l n) (sym h) ∙ there, refl)
renewed_at (e ∷ es) first old new xs n v h there =
    at (renewed_at es (first + e.count) h.0 new next n v h.2 there) (same_or_not e.variable n)
  where
    cells : List S.Source
    cells = cells_from first e.count

    next : List (List S.Source)
    next = put_sources e.variable cells xs

    at : (map source_by v.sources.items ≡ listed (new_variables es (first + e.count) next) n)
        ⊎ ((list_any (λ (e : S.Elements). e.variable == n) es ≡ false)
        × (slice_get h.0 n ≡ Some v)
        × (listed (new_variables es (first + e.count) next) n ≡ listed next n))
        → (e.variable ≡ n) ⊎ (e.variable ≢ n)
        → (map source_by v.sources.items ≡ listed (new_variables es (first + e.count) next) n)
        ⊎ ((list_any (λ (e : S.Elements). e.variable == n) (e ∷ es) ≡ false)
        × (slice_get old n ≡ Some v)
        × (listed (new_variables es (first + e.count) next) n ≡ listed xs n))
    at (inl is) same = inl is
    at (inr o) (inl same) =
        inl (h.1.itself v (ap (slice_get h.0) same ∙ o.1)
        ∙ sym (o.2 ∙ ap (listed next) (sym same) ∙ listed_put e.variable cells xs))
    at (inr o) (inr ne) =
        inr (
          none_of (e.variable == n) (list_any (λ (e : S.Elements). e.variable == n) es)
              (ne_eqb e.variable n ne) o.0,
          sym (h.1.others n (λ s. ne (sym s))) ∙ o.1,
          o.2 ∙ listed_other e.variable n cells xs (λ s. ne (sym s)),
        )

wanted_has : (ns : List ℕ) (s : State) (n : ℕ)
    → list_any (λ (e : S.Elements). e.variable == n) (wanted_of ns s)
    ≡ list_any (λ m. m == n) ns
wanted_has [] s n = refl
wanted_has (m ∷ ns) s n = ap (λ (b : Bool). (m == n) || b) (wanted_has ns s n)

any_none : (test : ℕ → Bool) (ns ms : List ℕ) → list_any test ns ≡ false
    → list_any test ms ≡ false → list_any test (ns ++ ms) ≡ false
any_none test [] ms h g = g
any_none test (n ∷ ns) ms h g = at (test n) h (λ e. any_none test ns ms e g)
  where
    at : (b : Bool) → (b || list_any test ns) ≡ false
        → (list_any test ns ≡ false → list_any test (ns ++ ms) ≡ false)
        → (b || list_any test (ns ++ ms)) ≡ false
    at true e go = cc
    at false e go = go e

sourced : (ds es : List Datum) (xs : List (List S.Source)) (old mid new : List VariableCells)
    (ns ms : List ℕ) (s : State) (first : ℕ) → Differ (ns ++ ms) ds es
    → AreRenewed (wanted_of ns s) first old mid → AreLost ms mid new → AreSourced ds xs old
    → AreSourced es (new_variables (wanted_of ns s) first xs) new
sourced ds es xs old mid new ns ms s first differ renewed lost h = record { each = each }
  where
    each : (n : ℕ) (d : Datum) (v : VariableCells) → slice_get es n ≡ Some d
        → slice_get new n ≡ Some v → v.is_lost ≡ false → (k : ℕ) (u : Value)
        → slice_get d.items k ≡ Some u → is_known u ≡ false
        → source_in (listed (new_variables (wanted_of ns s) first xs) n) k
        ≡ source_in (map source_by v.sources.items) k
    each n d v there at_v found k u element unknown =
        at (renewed_at (wanted_of ns s) first old mid xs n v renewed kept.1)
      where
        kept : (list_any (λ m. m == n) ms ≡ false) × (slice_get mid n ≡ Some v)
        kept = lost n v at_v found

        at : (map source_by v.sources.items
            ≡ listed (new_variables (wanted_of ns s) first xs) n)
            ⊎ ((list_any (λ (e : S.Elements). e.variable == n) (wanted_of ns s) ≡ false)
            × (slice_get old n ≡ Some v)
            × (listed (new_variables (wanted_of ns s) first xs) n ≡ listed xs n))
            → source_in (listed (new_variables (wanted_of ns s) first xs) n) k
            ≡ source_in (map source_by v.sources.items) k
        at (inl is) = ap (λ (l : List S.Source). source_in l k) (sym is)
        at (inr o) =
            let out : list_any (λ m. m == n) ns ≡ false = sym (wanted_has ns s n) ∙ o.0 in
            ap (λ (l : List S.Source). source_in l k) o.2
            ∙ h.each n d v (sym (differ.others n (any_none (λ m. m == n) ns ms out kept.0)) ∙ there)
            o.1 found k u element unknown

pub kept_left : (p : List Key) (f g : Frame) (c : Cells) (mid : List VariableCells)
    (vs : Vec VariableCells Global) (made : Made) (next : ℕ) (x : Emission) (steps : List Step)
    (a : Statement Spot Meant) (s : State)
    → Differ (touched_in a) (map datum_of f.variables.items) (map datum_of g.variables.items)
    → map part_of g.parts.items ≡ map part_of f.parts.items
    → AreRenewed (wanted_of (outer_assigned a) (known_in x)) made.next c.variables.items mid
    → AreLost (declares a) mid vs.items
    → next ≡ made.next + count_of (wanted_of (outer_assigned a) (known_in x))
    → IsKept p f c made x steps
    → IsKept p g record c { variables = vs } record made { next = next } (left_behind a s x) steps
kept_left p f g c mid vs made next x steps a s differ parts renewed lost is h = record {
  next = ap (λ (i : ℕ). i + count_of wanted) h.next ∙ sym is;
  own = h.own;
  parts = h.parts;
  sources = subst (λ (i : ℕ). AreSourced (map datum_of g.variables.items)
      (new_variables wanted i x.sources) vs.items) (sym h.next)
      (sourced (map datum_of f.variables.items) (map datum_of g.variables.items) x.sources
      c.variables.items mid vs.items (outer_assigned a) (declares a) (known_in x) made.next differ
      renewed lost h.sources);
  waiting = subst (λ (ps : List Part). AreWaiting (keys_of made) x.bodies ps c.parts.items)
      (sym parts) h.waiting;
  steps_made = h.steps_made;
  later = h.later;
  keys = h.keys;
}
  where
    wanted : List S.Elements
    wanted = wanted_of (outer_assigned a) (known_in x)

-- ---- in the code's loops
pub elements_at : (xs : List Elements) (i : ℕ) → i < length xs
    → map elements_of (drop i xs)
    ≡ elements_of (get_or xs i record { variable = 0; count = 0 })
    ∷ map elements_of (drop (i + 1) xs)
elements_at xs i h = at_drop_more (map elements_of) xs i record { variable = 0; count = 0 } h

pub elements_end : (xs : List Elements) (i : ℕ) → length xs ≤ i
    → map elements_of (drop i xs) ≡ []
elements_end xs i h = ap (map elements_of) (drop_all i xs h)

pub elements_more : (xs : List Elements) (x : Elements) (ys : List S.Elements)
    → map elements_of (xs ++ x ∷ []) ++ ys ≡ map elements_of xs ++ (elements_of x ∷ ys)
elements_more [] x ys = refl
elements_more (z ∷ xs) x ys =
    ap (λ (l : List S.Elements). elements_of z ∷ l) (elements_more xs x ys)

-- what was put is there
pub set_there : (vs : List VariableCells) (n : ℕ) (u v w : VariableCells) → n < length vs
    → u ≡ get_or vs n u → slice_get (set vs n v) n ≡ Some w → v ≡ w
set_there vs n u v w h is there =
    let old : slice_get vs n ≡ Some u =
    slice_get-get_or vs n u h ∙ ap (λ (x : VariableCells). Some x) (sym is) in
    let now : Some v ≡ Some w = sym (get_set vs n u v old) ∙ there in cc

pub none_there : (vs : List VariableCells) (n : ℕ) (w : VariableCells) → (n < length vs → ⊥)
    → slice_get vs n ≡ Some w → ⊥
none_there vs n w h there =
    let none : Some w ≡ None = sym there ∙ slice_get_past vs n (omega (arith, h)) in cc

pub has_new : (e : S.Elements) (first : ℕ) (vs : List VariableCells) (u v : VariableCells)
    → e.variable < length vs → u ≡ get_or vs e.variable u
    → map source_by v.sources.items ≡ cells_from first e.count
    → IsRenewed e first vs (set vs e.variable v)
has_new e first vs u v h is put = record {
  others = λ m ne. get_other vs e.variable m v (λ s. ne (sym s));
  itself = λ w there.
      ap (λ (z : VariableCells). map source_by z.sources.items)
      (sym (set_there vs e.variable u v w h is there)) ∙ put;
}

pub none_new : (e : S.Elements) (first : ℕ) (vs : List VariableCells)
    → (e.variable < length vs → ⊥) → IsRenewed e first vs vs
none_new e first vs h = record {
  others = λ m ne. refl;
  itself = λ w there. absurd (none_there vs e.variable w h there);
}

pub lost_more : (n : ℕ) (ns : List ℕ) (old mid new : List VariableCells)
    → ((m : ℕ) → m ≢ n → slice_get mid m ≡ slice_get old m)
    → ((v : VariableCells) → slice_get mid n ≡ Some v → v.is_lost ≡ true)
    → AreLost ns mid new → AreLost (n ∷ ns) old new
lost_more n ns old mid new others itself h = λ m v there found.
    let rest = h m v there found in
    at m v found rest (same_or_not n m)
  where
    at : (m : ℕ) (v : VariableCells) → v.is_lost ≡ false
        → (list_any (λ j. j == m) ns ≡ false) × (slice_get mid m ≡ Some v)
        → (n ≡ m) ⊎ (n ≢ m)
        → (list_any (λ j. j == m) (n ∷ ns) ≡ false) × (slice_get old m ≡ Some v)
    at m v found rest (inl same) =
        let no : true ≡ false =
        sym (itself v (ap (slice_get mid) same ∙ rest.1)) ∙ found in absurd (cc)
    at m v found rest (inr ne) = (
      none_of (n == m) (list_any (λ j. j == m) ns) (ne_eqb n m ne) rest.0,
      sym (others m (λ s. ne (sym s))) ∙ rest.1,
    )
