-- Components whose steps wait, as their inputs are written.
use Rattle.std.proofs.Common.{◌≡◌, ◌∙◌, ℕ, zero, suc, Bool, true, false, List, [], ◌∷◌, ◌++◌}
use Rattle.std.proofs.Common.{Option, Some, None, Ok, refl, sym, ap, subst, slice_get, slice_set}
use Rattle.std.specs.Prelude.{⊤}
use Rattle.std.proofs.lemmas.List.{append-nil}
use Rattle.cir_ast.specs.declared.operators.Arrow.{Arrow}
use Rattle.cir_lc.specs.Number.{Assignment}
use Rattle.cir_meaning.specs.Tried.{Where}
use Rattle.cir_meaning.specs.Source.{Equation}
use Rattle.cir_meaning.specs.Costs.{Made as Key}
use Rattle.cir_meaning.specs.Frame.{Context, Frame, Part, SignalEntry, Signals, State, entry_at}
use Rattle.cir_meaning.specs.Frame.{is_fed}
use Rattle.cir_meaning.specs.Run.{RunPart}
use Rattle.cir_meaning.specs.Values.{Value, Known, Linear, Quadratic, Opaque}
use Rattle.cir_meaning.specs.Writing.{Target, part_signals, signals_of, with_part_signals}
use Rattle.cir_meaning.specs.Writing.{with_signals, write_elements}
use Rattle.cir_meaning.proofs.Good.{good_is}
use Rattle.cir_meaning.proofs.Same.{Rows}
use Rattle.cir_meaning.proofs.SignalWrites.{Wrote, elements_wrote, shapes_itself, wrote}
use Rattle.cir_steps.specs.Step.{Step}
use Rattle.wit_circuit.specs.declared.columns.MadeStep.{MadeStep}
use Rattle.cir_make.specs.declared.cells.PartCells.{PartCells}
use Rattle.cir_make.specs.Cells.{AreMade, wires_by}
use Rattle.cir_make.specs.Housed.{AreHomes}
use Rattle.cir_make.specs.Shows.{AreWaiting, HavePorts, SameWires}

-- ---- steps
pub made_behind : (keys : List Key) (ss bs : List Step) (ms cs : List MadeStep)
    → AreMade keys ss ms → AreMade keys bs cs → AreMade keys (ss ++ bs) (ms ++ cs)
made_behind keys [] bs [] cs h g = g
made_behind keys [] bs (m ∷ ms) cs h g = absurd h
made_behind keys (s ∷ ss) bs [] cs h g = absurd h
made_behind keys (s ∷ ss) bs (m ∷ ms) cs h g = (h.0, made_behind keys ss bs ms cs h.1 g)

-- ---- a component
pub record WaitsAt (keys : List Key) (bs : List (List Step)) (ds : List Part) (j : ℕ)
    (c : PartCells) : Type 0 where
  pub steps : List Step
  pub at_steps : slice_get bs j ≡ Some steps
  pub part : Part
  pub at_part : slice_get ds j ≡ Some part
  pub made : is_fed part.signals ≡ false → AreMade keys steps c.steps.items

pub waiting_at : (keys : List Key) (bs : List (List Step)) (ds : List Part) (cs : List PartCells)
    (j : ℕ) (c : PartCells) → AreWaiting keys bs ds cs → slice_get cs j ≡ Some c
    → WaitsAt keys bs ds j c
waiting_at keys [] [] [] j c h there = cc
waiting_at keys [] [] (x ∷ cs) j c h there = absurd h
waiting_at keys [] (d ∷ ds) [] j c h there = absurd h
waiting_at keys [] (d ∷ ds) (x ∷ cs) j c h there = absurd h
waiting_at keys (b ∷ bs) [] [] j c h there = absurd h
waiting_at keys (b ∷ bs) [] (x ∷ cs) j c h there = absurd h
waiting_at keys (b ∷ bs) (d ∷ ds) [] j c h there = absurd h
waiting_at keys (b ∷ bs) (d ∷ ds) (x ∷ cs) zero c h there = record {
  steps = b;
  at_steps = refl;
  part = d;
  at_part = refl;
  made = let same : x ≡ c = cc in
      subst (λ (y : PartCells). is_fed d.signals ≡ false → AreMade keys b y.steps.items) same h.0;
}
waiting_at keys (b ∷ bs) (d ∷ ds) (x ∷ cs) (suc j) c h there =
    let rest = waiting_at keys bs ds cs j c h.1 there in record {
      steps = rest.steps;
      at_steps = rest.at_steps;
      part = rest.part;
      at_part = rest.at_part;
      made = rest.made;
    }

-- where it is fed nothing is said of its cells
pub waiting_put : (keys : List Key) (bs : List (List Step)) (ds : List Part) (cs : List PartCells)
    (j : ℕ) (d : Part) (c : PartCells) → AreWaiting keys bs ds cs → slice_get ds j ≡ Some d
    → is_fed d.signals ≡ true → AreWaiting keys bs ds (slice_set cs j c)
waiting_put keys [] [] [] j d c h there fed = tt
waiting_put keys [] [] (x ∷ cs) j d c h there fed = absurd h
waiting_put keys [] (e ∷ ds) [] j d c h there fed = absurd h
waiting_put keys [] (e ∷ ds) (x ∷ cs) j d c h there fed = absurd h
waiting_put keys (b ∷ bs) [] [] j d c h there fed = absurd h
waiting_put keys (b ∷ bs) [] (x ∷ cs) j d c h there fed = absurd h
waiting_put keys (b ∷ bs) (e ∷ ds) [] j d c h there fed = absurd h
waiting_put keys (b ∷ bs) (e ∷ ds) (x ∷ cs) zero d c h there fed =
    let same : e ≡ d = cc in (
      λ no. let both : true ≡ false = sym fed ∙ ap (λ (p : Part). is_fed p.signals) (sym same)
          ∙ no in absurd (cc),
      h.1,
    )
waiting_put keys (b ∷ bs) (e ∷ ds) (x ∷ cs) (suc j) d c h there fed =
    (h.0, waiting_put keys bs ds cs j d c h.1 there fed)

pub ports_put : (rs : List RunPart) (cs : List PartCells) (j : ℕ) (c left : PartCells)
    → HavePorts rs cs → slice_get cs j ≡ Some c → left.ports ≡ c.ports → left.inside ≡ c.inside
    → HavePorts rs (slice_set cs j left)
ports_put [] [] j c left h there same homes = tt
ports_put [] (x ∷ cs) j c left h there same homes = absurd h
ports_put (r ∷ rs) [] j c left h there same homes = absurd h
ports_put (r ∷ rs) (x ∷ cs) zero c left h there same homes =
    let is : x ≡ c = cc in (
      subst (λ z. SameWires r.ports (wires_by z.items))
          (ap (λ (y : PartCells). y.ports) is ∙ sym same) h.0,
      subst (λ z. AreHomes r.inside z.items)
          (ap (λ (y : PartCells). y.inside) is ∙ sym homes) h.1,
      h.2,
    )
ports_put (r ∷ rs) (x ∷ cs) (suc j) c left h there same homes =
    (h.0, h.1, ports_put rs cs j c left h.2 there same homes)

-- ---- what writes leave of components
abbrev pub PartsWritten : List Part → List Part → Type 0
PartsWritten [] [] = ⊤
PartsWritten [] (e ∷ es) = ⊥
PartsWritten (d ∷ ds) [] = ⊥
PartsWritten (d ∷ ds) (e ∷ es) =
    (is_fed d.signals ≡ true → is_fed e.signals ≡ true) × PartsWritten ds es

parts_itself : (ds : List Part) → PartsWritten ds ds
parts_itself [] = tt
parts_itself (d ∷ ds) = ((λ e. e), parts_itself ds)

parts_put : (ds : List Part) (j : ℕ) (d e : Part) → slice_get ds j ≡ Some d
    → (is_fed d.signals ≡ true → is_fed e.signals ≡ true) → PartsWritten ds (slice_set ds j e)
parts_put [] j d e there h = cc
parts_put (x ∷ ds) zero d e there h =
    let same : x ≡ d = cc in
    ((λ b. h (ap (λ (p : Part). is_fed p.signals) (sym same) ∙ b)), parts_itself ds)
parts_put (x ∷ ds) (suc j) d e there h = ((λ b. b), parts_put ds j d e there h)

not_fed : (d e : Part) → (is_fed d.signals ≡ true → is_fed e.signals ≡ true)
    → is_fed e.signals ≡ false → is_fed d.signals ≡ false
not_fed d e h unfed = at (is_fed d.signals) refl
  where
    at : (b : Bool) → is_fed d.signals ≡ b → is_fed d.signals ≡ false
    at false is = is
    at true is = let both : true ≡ false = sym (h is) ∙ unfed in absurd (cc)

pub waiting_written : (keys : List Key) (bs : List (List Step)) (ds es : List Part)
    (cs : List PartCells) → PartsWritten ds es → AreWaiting keys bs ds cs
    → AreWaiting keys bs es cs
waiting_written keys [] [] [] [] w h = tt
waiting_written keys [] [] [] (c ∷ cs) w h = absurd h
waiting_written keys (b ∷ bs) [] [] [] w h = absurd h
waiting_written keys (b ∷ bs) [] [] (c ∷ cs) w h = absurd h
waiting_written keys bs [] (e ∷ es) cs w h = absurd w
waiting_written keys bs (d ∷ ds) [] cs w h = absurd w
waiting_written keys [] (d ∷ ds) (e ∷ es) [] w h = absurd h
waiting_written keys [] (d ∷ ds) (e ∷ es) (c ∷ cs) w h = absurd h
waiting_written keys (b ∷ bs) (d ∷ ds) (e ∷ es) [] w h = absurd h
waiting_written keys (b ∷ bs) (d ∷ ds) (e ∷ es) (c ∷ cs) w h =
    ((λ no. h.0 (not_fed d e w.0 no)), waiting_written keys bs ds es cs w.1 h.1)

-- ---- the writes themselves
Never : Assignment → Type 0
Never v = ⊥

numbers_of : List Value → List ℕ
numbers_of [] = []
numbers_of (Known k ∷ vs) = k ∷ numbers_of vs
numbers_of (Linear f ∷ vs) = 0 ∷ numbers_of vs
numbers_of (Quadratic a b c ∷ vs) = 0 ∷ numbers_of vs
numbers_of (Opaque ∷ vs) = 0 ∷ numbers_of vs

rows_never : (vs : List Value) → Rows Never vs (numbers_of vs)
unfolding numbers_of Never
rows_never [] = tt
rows_never (Known k ∷ vs) = (refl, rows_never vs)
rows_never (Linear f ∷ vs) = ((λ v no. absurd no), rows_never vs)
rows_never (Quadratic a b c ∷ vs) = ((λ v no. absurd no), rows_never vs)
rows_never (Opaque ∷ vs) = (tt, rows_never vs)

written_variables : (part : Option ℕ) (xs : Signals) (f : Frame)
    → (with_signals part xs f).variables ≡ f.variables
written_variables None xs f = refl
written_variables (Some j) xs f = at (slice_get f.parts j)
  where
    at : (o : Option Part) → (with_part_signals j xs o f).variables ≡ f.variables
    at None = refl
    at (Some p) = refl

written_parts : (part : Option ℕ) (xs : Signals) (f : Frame)
    → (is_fed (signals_of part f) ≡ true → is_fed xs ≡ true)
    → PartsWritten f.parts (with_signals part xs f).parts
written_parts None xs f h = parts_itself f.parts
written_parts (Some j) xs f h = at (slice_get f.parts j) refl
  where
    at : (o : Option Part) → slice_get f.parts j ≡ o
        → PartsWritten f.parts (with_part_signals j xs o f).parts
    at None is = parts_itself f.parts
    at (Some p) is =
        parts_put f.parts j p (record p { signals = xs }) is
        (λ b. h (ap (λ (o : Option Part). is_fed (part_signals o)) is ∙ b))

set_same : {A : Type 0} (xs : List A) (j : ℕ) (x : A) → slice_get xs j ≡ Some x
    → slice_set xs j x ≡ xs
set_same {A = A} [] j x h = refl
set_same {A = A} (y ∷ xs) zero x h = let same : y ≡ x = cc in ap (λ (z : A). z ∷ xs) (sym same)
set_same {A = A} (y ∷ xs) (suc j) x h = ap (λ (l : List A). y ∷ l) (set_same xs j x h)

same_frame : (part : Option ℕ) (f : Frame) → with_signals part (signals_of part f) f ≡ f
same_frame None f = refl
same_frame (Some j) f = at (slice_get f.parts j) refl
  where
    at : (o : Option Part) → slice_get f.parts j ≡ o
        → with_part_signals j (part_signals o) o f ≡ f
    at None is = refl
    at (Some p) is = ap (λ (ps : List Part). record f { parts = ps }) (set_same f.parts j p is)

nothing_wrote : (part : Option ℕ) (s : State)
    → s ≡ wrote s part (signals_of part s.frame) [] s.frame.added s.world.counts
nothing_wrote part s =
    ap (λ (f : Frame). whole f s.world.equations) (sym (same_frame part s.frame))
    ∙ ap (λ (es : List Equation). whole (with_signals part (signals_of part s.frame) s.frame) es)
    (sym (append-nil s.world.equations))
  where
    whole : Frame → List Equation → State
    whole f es = record {
      frame = record f { added = s.frame.added };
      world = record (s.world) { equations = es };
    }

pub record LeavesParts (s t : State) : Type 0 where
  pub variables : t.frame.variables ≡ s.frame.variables
  pub parts : PartsWritten s.frame.parts t.frame.parts

pub elements_leave : (k : Context) (w : Where) (arrow : Arrow) (t : Target) (e : SignalEntry)
    (places : List ℕ) (vs : List Value) (s u : State)
    → entry_at (signals_of t.part s.frame) t.number ≡ Some e
    → write_elements k w arrow t places vs s ≡ Ok u → LeavesParts s u
unfolding Never
elements_leave k w arrow t e places vs s u there is =
    let h : Wrote Never t s u =
    good_is (Wrote Never t s) (write_elements k w arrow t places vs s) u is
    (elements_wrote Never Never (λ v no. no) k w arrow t s e.first firsts places vs
    (numbers_of vs) s (λ v no. absurd no) (rows_never vs) start) in record {
      variables = ap (λ (z : State). z.frame.variables) h.is
          ∙ written_variables t.part h.signals s.frame;
      parts = subst (λ (ps : List Part). PartsWritten s.frame.parts ps)
          (sym (ap (λ (z : State). z.frame.parts) h.is))
          (written_parts t.part h.signals s.frame h.fed);
    }
  where
    firsts : (d : SignalEntry) → entry_at (signals_of t.part s.frame) t.number ≡ Some d
        → d.first ≡ e.first
    firsts d at =
        let both : Some d ≡ Some e = sym at ∙ there in
        let same : d ≡ e = cc in ap (λ (x : SignalEntry). x.first) same

    start : Wrote Never t s s
    start = record {
      signals = signals_of t.part s.frame;
      equations = [];
      added = s.frame.added;
      counts = s.world.counts;
      is = nothing_wrote t.part s;
      now = refl;
      shapes = shapes_itself (signals_of t.part s.frame);
      shapes_back = shapes_itself (signals_of t.part s.frame);
      fed = λ b. b;
      holds = λ v no. tt;
    }
