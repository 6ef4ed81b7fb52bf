-- Where elements that aren't known have their numbers from, as variables change.
use Rattle.std.proofs.Common.{◌≡◌, ◌≢◌, ◌⊎◌, inl, inr, ℕ, zero, suc, Bool, true, false, cond, List}
use Rattle.std.proofs.Common.{[], ◌∷◌, map, Some, sym, ap, subst, ◌∙◌, replicate, slice_get}
use Rattle.std.proofs.Common.{slice_set}
use Rattle.std.specs.declared.vec.Vec.{Vec}
use Rattle.std.specs.declared.alloc.Global.{Global}
use Rattle.cir_meaning.specs.Arrays.{Datum, filled, is_known}
use Rattle.cir_meaning.specs.Costs.{Made as Key}
use Rattle.cir_meaning.specs.Frame.{Part}
use Rattle.cir_meaning.specs.Limits.{is_too_large}
use Rattle.cir_meaning.specs.Places.{elements}
use Rattle.cir_meaning.specs.Values.{Value, Known}
use Rattle.cir_meaning.proofs.PartWrites.{get_other, same_or_not}
use Rattle.cir_frame.specs.declared.frame.Frame.{Frame}
use Rattle.cir_steps.specs.Emission.{Emission}
use Rattle.cir_steps.specs.Step as S
use Rattle.cir_steps.specs.Step.{Step, listed}
use Rattle.cir_make.specs.declared.cells.Cells.{Cells}
use Rattle.cir_make.specs.declared.cells.VariableCells.{VariableCells}
use Rattle.cir_make.specs.declared.whole.Made.{Made}
use Rattle.cir_write.specs.Declarations.{IsDeclared}
use Rattle.cir_make.specs.Cells.{source_by}
use Rattle.cir_make.specs.Shows.{AreSourced, AreWaiting, IsKept, keys_of, source_in}

-- what stands where it was put
pub set_is : {A : Type 0} (xs : List A) (n : ℕ) (x y : A) → slice_get (slice_set xs n x) n ≡ Some y
    → y ≡ x
set_is [] n x y h = cc
set_is (a ∷ xs) zero x y h = cc
set_is (a ∷ xs) (suc n) x y h = set_is xs n x y h

replicate_is : {A : Type 0} (count : ℕ) (a u : A) (k : ℕ)
    → slice_get (replicate count a) k ≡ Some u → u ≡ a
replicate_is zero a u k h = cc
replicate_is (suc count) a u zero h = cc
replicate_is (suc count) a u (suc k) h = replicate_is count a u k h

filled_is : (dims : List ℕ) (v u : Value) (k : ℕ) → slice_get (filled dims v).items k ≡ Some u
    → u ≡ v
filled_is dims v u k h = at (is_too_large dims) h
  where
    at : (b : Bool) → slice_get (cond b [] (replicate (elements dims) v)) k ≡ Some u → u ≡ v
    at true e = cc
    at false e = replicate_is (elements dims) v u k e

-- a variable that is declared has elements that are known
declared_sourced : (ds es : List Datum) (xs : List (List S.Source)) (vs ws : List VariableCells)
    (n : ℕ) (dims : List ℕ) → es ≡ slice_set ds n (filled dims (Known 0))
    → ((m : ℕ) → m ≢ n → slice_get ws m ≡ slice_get vs m)
    → AreSourced ds xs vs → AreSourced es xs ws
declared_sourced ds es xs vs ws n dims is others h = record { each = each }
  where
    each : (m : ℕ) (d : Datum) (v : VariableCells) → slice_get es m ≡ Some d
        → slice_get ws m ≡ Some v → v.is_lost ≡ false → (k : ℕ) (u : Value)
        → slice_get d.items k ≡ Some u → is_known u ≡ false
        → source_in (listed xs m) k ≡ source_in (map source_by v.sources.items) k
    each m d v there cells lost k u element unknown = at (same_or_not m n)
      where
        at : (m ≡ n) ⊎ (m ≢ n)
            → source_in (listed xs m) k ≡ source_in (map source_by v.sources.items) k
        at (inl same) =
            let put : slice_get (slice_set ds n (filled dims (Known 0))) n ≡ Some d =
            ap (λ (l : List Datum). slice_get l n) (sym is)
            ∙ ap (slice_get es) (sym same) ∙ there in
            let zeros : d ≡ filled dims (Known 0) =
            set_is ds n (filled dims (Known 0)) d put in
            let zero_at : u ≡ Known 0 =
            filled_is dims (Known 0) u k
            (ap (λ (e : Datum). slice_get e.items k) (sym zeros) ∙ element) in
            let no : true ≡ false = ap is_known (sym zero_at) ∙ unknown in absurd (cc)
        at (inr ne) =
            h.each m d v
            (sym (ap (λ (l : List Datum). slice_get l m) is
            ∙ get_other ds n m (filled dims (Known 0)) (λ e. ne (sym e))) ∙ there)
            (sym (others m ne) ∙ cells) lost k u element unknown

pub kept_declared : (p : List Key) (f g : Frame) (c : Cells) (vs : Vec VariableCells Global)
    (made : Made) (x : Emission) (steps : List Step) (n : ℕ) → IsDeclared f g n
    → ((m : ℕ) → m ≢ n → slice_get vs.items m ≡ slice_get c.variables.items m)
    → IsKept p f c made x steps → IsKept p g record c { variables = vs } made x steps
kept_declared p f g c vs made x steps n is others h = record {
  next = h.next;
  own = h.own;
  parts = h.parts;
  sources = declared_sourced _ _ x.sources c.variables.items vs.items n is.dims is.variables others
      h.sources;
  waiting = subst (λ (ps : List Part). AreWaiting (keys_of made) x.bodies ps c.parts.items)
      (sym is.parts) h.waiting;
  steps_made = h.steps_made;
  later = h.later;
  keys = h.keys;
}
