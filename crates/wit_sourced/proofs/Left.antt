-- What can be named behind a statement, and what is left of it behind its block.
use Rattle.std.proofs.Common.{◌≡◌, ◌∙◌, ℕ, ◌≤◌, List, [], ◌∷◌, ◌++◌, length, take, ap, sym, refl}
use Rattle.std.proofs.Common.{arith}
use Rattle.std.proofs.lemmas.List.{length-take, take_all, take-take, take_at}
use Rattle.wit_lower.specs.Homes as L
use Rattle.wit_sourced.specs.declared.homes.Placed.{Placed}
use Rattle.wit_sourced.specs.declared.homes.Scope.{Scope}
use Rattle.wit_sourced.specs.Shown.{placed_of, homes_above, homes_of, scope_of}
use Rattle.wit_sourced.specs.Behind.{IsBehind, IsLeft}

pub newest : (homes : L.Homes) (ps : List Placed) (p : Placed)
    → homes_above homes (ps ++ p ∷ []) ≡ placed_of p ∷ homes_above homes ps
newest homes [] p = refl
newest homes (x ∷ ps) p = newest (placed_of x ∷ homes) ps p

abbrev made : List Placed → ℕ → L.Scope
made ps top = record { homes = homes_of ps; top = top }

-- one more home
pub placed : (s t : Scope) (p : Placed) (top : ℕ) → t.homes.items ≡ s.homes.items ++ p ∷ []
    → t.top ≡ top
    → IsBehind s t record { homes = placed_of p ∷ homes_of s.homes.items; top = top }
placed s t p top more up = record {
  shows = ap (λ (ps : List Placed). made ps t.top) more
      ∙ ap (λ (hs : L.Homes). record { homes = hs; top = t.top })
      (newest [] s.homes.items p)
      ∙ ap (λ (n : ℕ). record { homes = placed_of p ∷ homes_of s.homes.items; top = n }) up;
  begins = ap (take (length s.homes.items)) more
      ∙ take_at s.homes.items (p ∷ []) (length s.homes.items) refl;
}

pub begins_then : (a b c : List Placed) → take (length a) b ≡ a → take (length b) c ≡ b
    → take (length a) c ≡ a
begins_then a b c first second =
    let short : length a ≤ length b = omega (arith, ap length first, length-take (length a) b) in
    sym (take-take (length a) (length b) c short) ∙ ap (take (length a)) second ∙ first

pub behind_same : (s : Scope) → IsBehind s s (scope_of s)
behind_same s = record {
  shows = refl;
  begins = take_all (length s.homes.items) s.homes.items (omega arith);
}

pub shows_left : (a b : Scope) → IsLeft a b → scope_of b ≡ scope_of a
shows_left a b left =
    ap (λ (ps : List Placed). made ps b.top) left.homes
    ∙ ap (λ (n : ℕ). made a.homes.items n) left.top

pub behind_left : (a b : Scope) → IsLeft a b → IsBehind a b (scope_of a)
behind_left a b left = record {
  shows = shows_left a b left;
  begins = ap (take (length a.homes.items)) left.homes
      ∙ take_all (length a.homes.items) a.homes.items (omega arith);
}

pub left_then : (a b c : Scope) → IsLeft a b → IsLeft b c → IsLeft a c
left_then a b c first second = record {
  homes = second.homes ∙ first.homes;
  top = second.top ∙ first.top;
}

-- what was declared in between is dropped
pub dropped : (a b c : Scope) → take (length a.homes.items) b.homes.items ≡ a.homes.items
    → c.homes.items ≡ take (length a.homes.items) b.homes.items → c.top ≡ a.top → IsLeft a c
dropped a b c begins cut top = record { homes = cut ∙ begins; top = top }
