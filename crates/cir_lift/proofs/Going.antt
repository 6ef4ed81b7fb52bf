-- A list is lifted item by item.
use Rattle.std.proofs.Common.{◌≡◌, ◌∙◌, ℕ, ◌++◌, ap, sym, append_assoc}
use Rattle.std.specs.Prelude.{map}
use Rattle.std.proofs.lemmas.List.{append-nil}
use Rattle.cir_ast.specs.Tree.{bare_simple}
use Rattle.cir_ast.specs.Program.{Program, bare_program}
use Rattle.cir_meaning.specs.Anonymous.{Lifted, same, then_lift}
use Rattle.cir_lift.specs.declared.values.Lifter.{Lifter}
use Rattle.cir_lift.specs.Lifts.{Lifts}

-- what the items to come lift to completes the whole; `behind` puts the items so far before them
pub record Going {R W : Type 0} (old s : Lifter) (behind : R → W) (rest : Lifted R)
    (whole : Lifted W) : Type 0 where
  pub value : behind rest.value ≡ whole.value
  pub before : map bare_simple s.before.items ++ rest.before
      ≡ map bare_simple old.before.items ++ whole.before
  pub next : rest.next ≡ whole.next
  pub program : s.program.now ≡ old.program.now
  pub first : s.first ≡ old.first

-- an item, and behind it the others
abbrev pub item_then : {X R S : Type 0} → Lifted X → (ℕ → Lifted S) → (X → S → R) → Lifted R
item_then l go make = then_lift l (λ x n1. then_lift (go n1) (λ xs n2. same (make x xs) n2))

pub going_more : {A X R S W : Type 0} (f : A → X) (old s s1 : Lifter) (behind : R → W)
    (behind1 : S → W) (step : Program → ℕ → ℕ → Lifted X) (go : ℕ → Lifted S) (make : X → S → R)
    (whole : Lifted W) (x : A)
    → Going old s behind
    (item_then (step (bare_program old.program.now) old.first s.next) go make) whole
    → Lifts f s s1 (step (bare_program s.program.now) s.first s.next) x
    → ((r : S) → behind1 r ≡ behind (make (f x) r))
    → Going old s1 behind1 (go s1.next) whole
going_more f old s s1 behind behind1 step go make whole x k h is =
    let l : Lifted _ = step (bare_program old.program.now) old.first s.next in
    let moved : step (bare_program s.program.now) s.first s.next ≡ l =
    ap (λ p. step (bare_program p) s.first s.next) k.program
    ∙ ap (λ n. step (bare_program old.program.now) n s.next) k.first in
    let next : s1.next ≡ l.next = h.next ∙ ap (λ (q : Lifted _). q.next) moved in
    let value : f x ≡ l.value = h.value ∙ ap (λ (q : Lifted _). q.value) moved in
    let before : map bare_simple s1.before.items ≡ map bare_simple s.before.items ++ l.before =
    h.before
    ∙ ap (λ (q : Lifted _). map bare_simple s.before.items ++ q.before) moved in
    record {
      value =
          is (go s1.next).value
          ∙ ap (λ v. behind (make v (go s1.next).value)) value
          ∙ ap (λ n. behind (make l.value (go n).value)) next
          ∙ k.value;
      before =
          ap (λ b. b ++ (go s1.next).before) before
          ∙ append_assoc (map bare_simple s.before.items) l.before (go s1.next).before
          ∙ ap (λ n. map bare_simple s.before.items ++ (l.before ++ (go n).before)) next
          ∙ sym (ap (λ b. map bare_simple s.before.items ++ (l.before ++ b))
          (append-nil (go l.next).before))
          ∙ k.before;
      next = ap (λ n. (go n).next) next ∙ k.next;
      program = h.program ∙ k.program;
      first = h.first ∙ k.first;
    }

pub going_ends : {A R W : Type 0} (f : A → W) (old s : Lifter) (behind : R → W) (r : R)
    (whole : Lifted W) (y : A) → Going old s behind (same r s.next) whole → f y ≡ behind r
    → Lifts f old s whole y
going_ends f old s behind r whole y k is = record {
  value = is ∙ k.value;
  before = sym (append-nil (map bare_simple s.before.items)) ∙ k.before;
  next = k.next;
  program = k.program;
  first = k.first;
}
