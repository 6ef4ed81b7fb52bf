-- What a condition that isn't known leaves changes variables alone that it assigns or declares, and
-- neither signals nor components.
use Rattle.std.proofs.Common.{◌≡◌, ◌∙◌, ℕ, ◌==◌, Bool, true, false, List, [], ◌∷◌, ◌++◌}
use Rattle.std.proofs.Common.{Option, Ok, ap, sym, refl, subst}
use Rattle.std.specs.Prelude.{◌||◌, ⊤, slice_set}
use Rattle.std.specs.List.{list_any}
use Rattle.std.proofs.lemmas.Bool.{eq-eqb}
use Rattle.cir_ast.specs.declared.program.Spot.{Spot}
use Rattle.cir_ast.specs.declared.program.Meant.{Meant}
use Rattle.cir_ast.specs.Tree.{Statement}
use Rattle.cir_meaning.specs.Arrays.{Datum, filled, forgotten}
use Rattle.cir_meaning.specs.Values.{Opaque}
use Rattle.cir_meaning.specs.Frame.{Context, Frame, State, at, variable_at}
use Rattle.cir_meaning.specs.Unknown.{Fault, declares, outer_assigned}
use Rattle.cir_meaning.specs.Scan.{forget, forget_one, scan, undecided}
use Rattle.cir_meaning.proofs.Good.{good_any, good_is, good_weaker}
use Rattle.cir_meaning.proofs.Likes.{Like}
use Rattle.cir_meaning.proofs.PartWrites.{get_other, set_count}
use Rattle.cir_meaning.proofs.ScanStarts.{Contains}
use Rattle.cir_meaning.proofs.Scans.{AllMay, any_right, any_left, scan_kept}
use Rattle.cir_meaning.proofs.UndecidedReal.{scanned}
use Rattle.cir_meaning.proofs.ValueKeepings.{Valued, value_keeps}
use Rattle.cir_body.proofs.Undoing.{Differ}

module _ (f : Frame) (ns : List ℕ) where
  abbrev pub Moved : State → Type 0
  Moved s =
      Differ ns f.variables s.frame.variables × (s.frame.signals ≡ f.signals)
      × (s.frame.parts ≡ f.parts)

  put_differs : (n : ℕ) (d : Datum) (ds : List Datum) → Contains n ns
      → Differ ns f.variables ds → Differ ns f.variables (slice_set ds n d)
  put_differs n d ds among h = record {
    count = set_count ds n d ∙ h.count;
    others = λ m out.
        get_other ds n m d (λ e.
        let no : true ≡ false =
        sym among ∙ ap (λ (i : ℕ). list_any (λ j. j == i) ns) e ∙ out in cc)
        ∙ h.others m out;
  }

  like_moved : (s t : State) → Like s t → Moved s → Moved t
  like_moved s t l h = (
    subst (λ (ds : List Datum). Differ ns f.variables ds) (sym l.0) h.0,
    l.1 ∙ h.1,
    l.3 ∙ h.2,
  )

  values_moved : (k : Context) → Valued k Moved true
  values_moved k w want e s h =
      value_keeps Moved k (λ dims t g. g) (λ w n ds t g.
      good_weaker (λ x. ⊤) (λ x. Moved (record t { world = x.1 })) (k.call w n ds t.world)
      (good_any (k.call w n ds t.world)) (λ x u. g)) w true want e s h

  forget_moved : (ms : List ℕ) (s : State) → AllMay (λ n. Contains n ns) ms → Moved s
      → Moved (forget ms s)
  forget_moved [] s may h = h
  forget_moved (m ∷ ms) s may h =
      forget_moved ms (forget_one m s) (λ n e. may n (behind n (m == n) e)) (
        put_differs m (forgotten (variable_at s.frame m)) s.frame.variables
            (may m (itself (m == m) (eq-eqb m m refl))) h.0,
        h.1,
        h.2,
      )
    where
      behind : (n : ℕ) (b : Bool) → list_any (λ j. j == n) ms ≡ true
          → (b || list_any (λ j. j == n) ms) ≡ true
      behind n true e = refl
      behind n false e = e

      itself : (b : Bool) → b ≡ true → (b || list_any (λ j. j == m) ms) ≡ true
      itself true e = refl
      itself false e = cc

-- both
abbrev pub touched_in : Statement Spot Meant → List ℕ
touched_in a = outer_assigned a ++ declares a

pub undecided_moves : (k : Context) (spot : Spot) (fault : Option Fault) (a : Statement Spot Meant)
    (s t : State) → undecided k spot fault a s ≡ Ok t → Moved s.frame (touched_in a) t
undecided_moves k spot fault a s t h =
    let its = scanned k spot fault a s t h in
    like_moved s.frame ns its.after t its.like
    (good_is (Moved s.frame ns) (scan k (at k spot) a (forget (outer_assigned a) s)) its.after
    its.scans
    (scan_kept k (Moved s.frame ns) (values_moved s.frame ns k) (λ n. Contains n ns)
    (λ n dims u among g. (
      put_differs s.frame ns n (filled dims Opaque) u.frame.variables among g.0,
      g.1,
      g.2,
    ))
    (at k spot) a (λ n e. any_right (λ m. m == n) (outer_assigned a) (declares a) e)
    (forget (outer_assigned a) s)
    (forget_moved s.frame ns (outer_assigned a) s
    (λ n e. any_left (λ m. m == n) (outer_assigned a) (declares a) e)
    (record { count = refl; others = λ n out. refl }, refl, refl))))
  where
    ns : List ℕ
    ns = touched_in a
