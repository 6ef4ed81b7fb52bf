use Rattle.std.proofs.Common.{◌≡◌, ◌∙◌, ◌+◌, ◌-◌, ◌<◌, ◌≤◌, ℕ, List, ◌∷◌, [], ◌++◌, length, take}
use Rattle.std.proofs.Common.{get_or, ap, subst, sym, arith}
use Rattle.std.specs.Prelude.{if◌then◌else◌, Some}
use Rattle.std.proofs.lemmas.List.{get_or_default, take_more}
use Rattle.wit_lower.specs.Homes as L
use Rattle.wit_sourced.specs.declared.homes.Placed.{Placed}
use Rattle.wit_sourced.specs.Ends.{end_of}
use Rattle.wit_sourced.specs.Order.{key_cmp}
use Rattle.wit_sourced.specs.Shown.{home_of, homes_of, sought_name}
use Rattle.wit_sourced.proofs.Finding.{find_cut, find_newest}
use Rattle.wit_sourced.proofs.homes.Scope.find.Goals as goal

looked : (x : L.Name) (ps : List Placed) (n : ℕ) (p : Placed) → 0 < n → n ≤ length ps
    → p ≡ get_or ps (n - 1) p
    → L.find x (homes_of (take n ps)) ≡ (if L.same_name x (sought_name p.name)
    then Some (home_of p.home) else L.find x (homes_of (take (n - 1) ps)))
looked x ps n p some within is =
    let one : n ≡ (n - 1) + 1 = omega (arith, some) in
    let below : n - 1 < length ps = omega (arith, some, within) in
    ap (λ m. L.find x (homes_of (take m ps))) one
    ∙ ap (λ l. L.find x (homes_of l)) (take_more ps (n - 1) p below
    ∙ ap (λ q. take (n - 1) ps ++ q ∷ []) (sym is))
    ∙ find_newest x (take (n - 1) ps) p

pub loop-left-init : goal.loop-left-init
loop-left-init c =
    let self = c.args.self.now in
    let ps = self.homes.items in
    let size : length c.as_slice-homes.result.now ≡ length ps =
    ap length c.as_slice-homes.ensures.value in
    record {
      within = omega (arith, c.min-left.ensures, size);
      found = find_cut (sought_name c.args.sought) self.ends ps c.of.result c.min-left.result
          self.ended (c.of.ensures ∙ ap (end_of key_cmp self.ends) c.key.ensures)
          (omega (arith, c.min-left.ensures, size));
    }

pub returns-then-is : goal.returns-then-is
returns-then-is c =
    let x = sought_name c.args.sought in
    let ps = c.args.self.now.homes.items in
    let p = c.index-homes-left.result in
    let q = c.index-homes-left-then-is.result in
    let n = c.loop-left.left in
    let inv = c.loop-left.invariant in
    let value = c.as_slice-homes.ensures.value in
    let is : p ≡ get_or ps (n - 1) p =
    subst (λ l. p ≡ get_or l (n - 1) p) value c.index-homes-left.is in
    let below : n - 1 < length ps = omega (arith, c.loop-left-test.true, inv.within) in
    ap (λ l. Some (home_of (get_or l (n - 1) q).home)) value
    ∙ ap (λ (r : Placed). Some (home_of r.home)) (get_or_default ps (n - 1) q p below ∙ sym is)
    ∙ sym (ap (λ b. if b then Some (home_of p.home) else L.find x (homes_of (take (n - 1) ps)))
    (ap (λ (r : Placed). L.same_name x (sought_name r.name)) c.index-homes-left.is
    ∙ sym c.is.ensures ∙ c.if-is.true))
    ∙ sym (looked x ps n p (omega (arith, c.loop-left-test.true)) inv.within is)
    ∙ inv.found

pub loop-left-preserved : goal.loop-left-preserved
loop-left-preserved c =
    let x = sought_name c.args.sought in
    let ps = c.args.self.now.homes.items in
    let p = c.index-homes-left.result in
    let n = c.loop-left.left in
    let inv = c.loop-left.invariant in
    let is : p ≡ get_or ps (n - 1) p =
    subst (λ l. p ≡ get_or l (n - 1) p) c.as_slice-homes.ensures.value c.index-homes-left.is in
    record {
      within = omega (arith, inv.within);
      found =
          sym (ap (λ b. if b then Some (home_of p.home) else L.find x (homes_of (take (n - 1) ps)))
          (ap (λ (r : Placed). L.same_name x (sought_name r.name)) c.index-homes-left.is
          ∙ sym c.is.ensures ∙ c.if-is.false))
          ∙ sym (looked x ps n p (omega (arith, c.loop-left-test.true)) inv.within is)
          ∙ inv.found;
    }
