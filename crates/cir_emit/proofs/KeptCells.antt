-- What an undecided statement keeps of the variables that it may assign.
use Rattle.std.proofs.Common.{◌≡◌, ◌⊎◌, inl, inr, ℕ, true, List, [], ◌∷◌, ◌++◌, flat_map, Option}
use Rattle.std.proofs.Common.{Some, None, refl, sym, ap, ◌∙◌, Bool, false, cond}
use Rattle.std.specs.Prelude.{filter, not, ◌==◌}
use Rattle.std.specs.List.{AllByRecursion, list_any}
use Rattle.cir_ast.specs.declared.program.Spot.{Spot}
use Rattle.cir_ast.specs.declared.program.Meant.{Meant}
use Rattle.cir_ast.specs.Tree.{Statement, Vars, Assigned, Signals, Declared, Created, Constrain}
use Rattle.cir_ast.specs.Tree.{Right, TargetLeft, TargetRight, Alone, Block, If, IfElse, While, For}
use Rattle.cir_ast.specs.Tree.{Return, Assert, Log, Ended}
use Rattle.cir_meaning.specs.Frame.{State}
use Rattle.cir_meaning.specs.Places.{places_of}
use Rattle.cir_meaning.specs.Unknown.{writes, declares, outer_assigned}
use Rattle.cir_meaning.specs.Writing.{plain}
use Rattle.cir_meaning.proofs.Rows.{all_append}
use Rattle.cir_steps.specs.Making.{wanted_of}
use Rattle.wit_lower.specs.Homes.{Variable, Home, Homes, Ground, find}
use Rattle.wit_lower.specs.Known.{changes}
use Rattle.wit_lower.specs.Tasks.{Element}
use Rattle.wit_lower.proofs.Listed.{In, in_front, in_back, in_one}
use Rattle.cir_emit.specs.Reads.{Reading, part_of, targets_kept, kept, is_written}
use Rattle.cir_emit.specs.Tasks.{elements_at, all_elements}
use Rattle.cir_emit.proofs.Forgotten.{in_rising, in_filter, in_either}
use Rattle.cir_emit.proofs.Lists.{all_through, all_of}
use Rattle.cir_emit.proofs.Values.{reading}

module _ (P : Reading → Type 0) where
  kept_append : (xs ys : List Element) → AllByRecursion P (targets_kept xs)
      → AllByRecursion P (targets_kept ys) → AllByRecursion P (targets_kept (xs ++ ys))
  kept_append [] ys h g = g
  kept_append (x ∷ xs) ys h g = (h.0, kept_append xs ys h.1 g)

  kept_filtered : (test : Element → Bool) (xs : List Element) → AllByRecursion P (targets_kept xs)
      → AllByRecursion P (targets_kept (filter test xs))
  kept_filtered test [] h = tt
  kept_filtered test (x ∷ xs) h = by (test x) (kept_filtered test xs h.1)
    where
      by : (b : Bool) → AllByRecursion P (targets_kept (filter test xs))
          → AllByRecursion P (targets_kept (cond b (x ∷ filter test xs) (filter test xs)))
      by true g = (h.0, g)
      by false g = g

  elements_told : (n : ℕ) (places : List ℕ) → ((p : ℕ) → P (reading (Variable n) p))
      → AllByRecursion P (targets_kept (elements_at n places))
  elements_told n [] f = tt
  elements_told n (p ∷ places) f = (f p, elements_told n places f)

  targets_told : (s : State) (ns : List ℕ)
      → ((n : ℕ) → In n ns → (p : ℕ) → P (reading (Variable n) p))
      → AllByRecursion P (targets_kept (all_elements (wanted_of ns s)))
  targets_told s [] f = tt
  targets_told s (n ∷ ns) f =
      kept_append (elements_at n _) (all_elements (wanted_of ns s))
      (elements_told n _ (f n (in_front n (n ∷ []) ns (in_one n))))
      (targets_told s ns (λ m i. f m (in_back m (n ∷ []) ns i)))

  parts_told : (homes : Homes) (ns : List ℕ)
      → ((n : ℕ) (h : Home) → In n ns → find (Variable n) homes ≡ Some h → (p : ℕ)
      → P (reading (Variable n) p))
      → AllByRecursion P (flat_map (λ n. part_of (Variable n) (find (Variable n) homes) []) ns)
  parts_told homes [] f = tt
  parts_told homes (n ∷ ns) f =
      all_append P (part_of (Variable n) (find (Variable n) homes) []) _
      (at (find (Variable n) homes) refl)
      (parts_told homes ns (λ m h i. f m h (in_back m (n ∷ []) ns i)))
    where
      at : (o : Option Home) → find (Variable n) homes ≡ o
          → AllByRecursion P (part_of (Variable n) o [])
      at None e = tt
      at (Some h) e =
          let told : (p : ℕ) → P (reading (Variable n) p) =
          f n h (in_front n (n ∷ []) ns (in_one n)) e in
          all_through P (reading (Variable n)) (places_of h.dims [])
          (all_of (λ p. P (reading (Variable n) p)) (places_of h.dims []) told)

  abbrev parts_of_all : Homes → List ℕ → List Reading
  parts_of_all homes ns = flat_map (λ n. part_of (Variable n) (find (Variable n) homes) []) ns

  both_kept : (homes : Homes) (ns : List ℕ) (targets : List Element)
      → AllByRecursion P (parts_of_all homes ns) → AllByRecursion P (targets_kept targets)
      → AllByRecursion P (parts_of_all homes ns ++ targets_kept targets)
  both_kept homes ns targets h l =
      all_append P (parts_of_all homes ns) (targets_kept targets) h l

  either_kept : (g : Ground) (homes : Homes) (a : Statement Spot Meant) (targets : List Element)
      → AllByRecursion P (flat_map (λ n. part_of (Variable n) (find (Variable n) homes) [])
      (writes a ++ declares a))
      → AllByRecursion P (targets_kept targets) → AllByRecursion P (kept g homes a targets)
  either_kept g homes (Ended spot (Assigned x)) targets h l =
      kept_filtered (λ t. not (is_written g homes (plain x) t)) targets l
  either_kept g homes (Ended spot (Vars vs)) targets h l =
      both_kept homes (changes (Ended spot (Vars vs))) targets h l
  either_kept g homes (Ended spot (Signals d ds)) targets h l =
      both_kept homes (changes (Ended spot (Signals d ds))) targets h l
  either_kept g homes (Ended spot (Declared cs)) targets h l =
      both_kept homes (changes (Ended spot (Declared cs))) targets h l
  either_kept g homes (Ended spot (Created name m e)) targets h l =
      both_kept homes (changes (Ended spot (Created name m e))) targets h l
  either_kept g homes (Ended spot (Constrain x y)) targets h l =
      both_kept homes (changes (Ended spot (Constrain x y))) targets h l
  either_kept g homes (Ended spot (Right e arrow name m accessors)) targets h l =
      both_kept homes (changes (Ended spot (Right e arrow name m accessors))) targets h l
  either_kept g homes (Ended spot (TargetLeft x arrow y)) targets h l =
      both_kept homes (changes (Ended spot (TargetLeft x arrow y))) targets h l
  either_kept g homes (Ended spot (TargetRight y arrow x)) targets h l =
      both_kept homes (changes (Ended spot (TargetRight y arrow x))) targets h l
  either_kept g homes (Ended spot (Alone parallel name m arguments inputs)) targets h l =
      both_kept homes (changes (Ended spot (Alone parallel name m arguments inputs))) targets h l
  either_kept g homes (Block spot ss) targets h l =
      both_kept homes (changes (Block spot ss)) targets h l
  either_kept g homes (If spot c a) targets h l =
      both_kept homes (changes (If spot c a)) targets h l
  either_kept g homes (IfElse spot c a b) targets h l =
      both_kept homes (changes (IfElse spot c a b)) targets h l
  either_kept g homes (While spot c a) targets h l =
      both_kept homes (changes (While spot c a)) targets h l
  either_kept g homes (For spot first_spot f c step_spot a body) targets h l =
      both_kept homes (changes (For spot first_spot f c step_spot a body)) targets h l
  either_kept g homes (Return spot e) targets h l =
      both_kept homes (changes (Return spot e)) targets h l
  either_kept g homes (Assert spot e) targets h l =
      both_kept homes (changes (Assert spot e)) targets h l
  either_kept g homes (Log spot arguments) targets h l =
      both_kept homes (changes (Log spot arguments)) targets h l

  -- what is right of the elements of outer variables that it may assign is right of what it keeps
  pub kept_told : (g : Ground) (homes : Homes) (a : Statement Spot Meant) (s : State)
      → ((n : ℕ) → In n (declares a) → find (Variable n) homes ≡ None)
      → ((n : ℕ) → In n (outer_assigned a) → (h : Home) × (find (Variable n) homes ≡ Some h))
      → ((n p : ℕ) (h : Home) → find (Variable n) homes ≡ Some h → In n (outer_assigned a)
      → P (reading (Variable n) p))
      → AllByRecursion P (kept g homes a (all_elements (wanted_of (outer_assigned a) s)))
  kept_told g homes a s fresh has told =
      either_kept g homes a (all_elements (wanted_of (outer_assigned a) s))
      (parts_told homes (writes a ++ declares a) (λ n h i found p. told n p h found
      (outer n h found (in_either n (writes a) (declares a) i))))
      (targets_told s (outer_assigned a) (λ n i p. told n p (has n i).0 (has n i).1 i))
    where
      homeless : {A : Type 0} (n : ℕ) (h : Home) → find (Variable n) homes ≡ Some h
          → In n (declares a) → A
      homeless n h found i = let there : None ≡ Some h = sym (fresh n i) ∙ found in cc

      outer : (n : ℕ) (h : Home) → find (Variable n) homes ≡ Some h
          → In n (writes a) ⊎ In n (declares a) → In n (outer_assigned a)
      outer n h found (inr i) = homeless n h found i
      outer n h found (inl i) = at (list_any (λ m. m == n) (declares a)) refl
        where
          at : (b : Bool) → list_any (λ m. m == n) (declares a) ≡ b → In n (outer_assigned a)
          at true e = homeless n h found e
          at false e =
              in_rising n _ (in_filter (λ m. not (list_any (λ j. j == m) (declares a))) n (writes a)
              i (ap not e))
