-- What is written of signals has numbers: marks and numbers are put together, and no number that is
-- there is lost.
use Rattle.std.proofs.Common.{◌≡◌, ◌≢◌, ◌⊎◌, inl, inr, ℕ, zero, suc, Bool, true, false, ◌&&◌, cond}
use Rattle.std.proofs.Common.{nat_eq, List, [], ◌∷◌, Some, None, is_some, slice_get, slice_set}
use Rattle.std.proofs.Common.{refl, sym, ap, subst, ◌∙◌, arith}
use Rattle.std.proofs.lemmas.Bool.{eq-eqb, ne_eqb, eqb-true}
use Rattle.cir_ast.specs.declared.operators.Direction.{Direction}
use Rattle.cir_meaning.specs.Frame.{SignalEntry, Signals, put_at, entry_at}
use Rattle.cir_meaning.specs.Writing.{marked}
use Rattle.cir_meaning.specs.Run.{Wires, put_wire}

-- of the signals that a test takes, what is written has a number, and nothing else
abbrev pub MarksOf : (Direction → Bool) → Signals → Wires → Type 0
MarksOf test signals wires =
    (n : ℕ) (e : SignalEntry) → entry_at signals n ≡ Some e → test e.direction ≡ true
    → (p : ℕ) (b : Bool) → slice_get e.written p ≡ Some b → is_some (wires n p) ≡ b

-- numbers that are there stay
abbrev pub KeepsWires : Wires → Wires → Type 0
KeepsWires old new = (n p x : ℕ) → old n p ≡ Some x → new n p ≡ Some x

suc_ne : (n m : ℕ) → n ≢ m → suc n ≢ suc m
suc_ne n m h e = h (omega arith)

pub put_entry : (n m : ℕ) (a e : SignalEntry) (xs : Signals) → entry_at (put_at n a xs) m ≡ Some e
    → ((n ≡ m) × (a ≡ e)) ⊎ ((n ≢ m) × (entry_at xs m ≡ Some e))
put_entry zero zero a e [] h = inl (refl, (let s : Some a ≡ Some e = h in cc))
put_entry zero (suc m) a e [] h = cc
put_entry zero zero a e (x ∷ xs) h = inl (refl, (let s : Some a ≡ Some e = h in cc))
put_entry zero (suc m) a e (x ∷ xs) h =
    inr ((λ no. absurd (let z : 0 ≡ suc m = no in omega arith)), h)
put_entry (suc n) zero a e [] h = cc
put_entry (suc n) (suc m) a e [] h = behind (put_entry n m a e [] h)
  where
    behind : ((n ≡ m) × (a ≡ e)) ⊎ ((n ≢ m) × (entry_at [] m ≡ Some e))
        → ((suc n ≡ suc m) × (a ≡ e)) ⊎ ((suc n ≢ suc m) × (entry_at [] (suc m) ≡ Some e))
    behind (inl i) = inl (ap (λ (b : ℕ). suc b) i.0, i.1)
    behind (inr i) = inr (suc_ne n m i.0, i.1)
put_entry (suc n) zero a e (x ∷ xs) h =
    inr ((λ no. absurd (let z : suc n ≡ 0 = no in omega arith)), h)
put_entry (suc n) (suc m) a e (x ∷ xs) h = behind (put_entry n m a e xs h)
  where
    behind : ((n ≡ m) × (a ≡ e)) ⊎ ((n ≢ m) × (entry_at xs m ≡ Some e))
        → ((suc n ≡ suc m) × (a ≡ e)) ⊎ ((suc n ≢ suc m) × (entry_at (x ∷ xs) (suc m) ≡ Some e))
    behind (inl i) = inl (ap (λ (b : ℕ). suc b) i.0, i.1)
    behind (inr i) = inr (suc_ne n m i.0, i.1)

pub set_at : {A : Type 0} (xs : List A) (k p : ℕ) (a b : A)
    → slice_get (slice_set xs k a) p ≡ Some b
    → ((k ≡ p) × (a ≡ b)) ⊎ ((k ≢ p) × (slice_get xs p ≡ Some b))
set_at [] k p a b h = cc
set_at (x ∷ xs) zero zero a b h = inl (refl, (let s : Some a ≡ Some b = h in cc))
set_at (x ∷ xs) zero (suc p) a b h = inr ((λ no. absurd (let z : 0 ≡ suc p = no in omega arith)), h)
set_at (x ∷ xs) (suc k) zero a b h = inr ((λ no. absurd (let z : suc k ≡ 0 = no in omega arith)), h)
set_at (x ∷ xs) (suc k) (suc p) a b h = behind (set_at xs k p a b h)
  where
    behind : ((k ≡ p) × (a ≡ b)) ⊎ ((k ≢ p) × (slice_get xs p ≡ Some b))
        → ((suc k ≡ suc p) × (a ≡ b)) ⊎ ((suc k ≢ suc p) × (slice_get (x ∷ xs) (suc p) ≡ Some b))
    behind (inl i) = inl (ap (λ (c : ℕ). suc c) i.0, i.1)
    behind (inr i) = inr (suc_ne k p i.0, i.1)

-- a wire that is put
pub wire_new : (n place value m k : ℕ) (wires : Wires) → n ≡ m → place ≡ k
    → put_wire n place value wires m k ≡ Some value
wire_new n place value m k wires e f =
    ap (λ (b : Bool). cond (b && nat_eq place k) (Some value) (wires m k)) (eq-eqb n m e) ∙ ap
    (λ (b : Bool). cond b (Some value) (wires m k)) (eq-eqb place k f)

pub wire_row : (n place value m k : ℕ) (wires : Wires) → n ≢ m
    → put_wire n place value wires m k ≡ wires m k
wire_row n place value m k wires e =
    ap (λ (b : Bool). cond (b && nat_eq place k) (Some value) (wires m k)) (ne_eqb n m e)

wire_place : (n place value m k : ℕ) (wires : Wires) → place ≢ k
    → put_wire n place value wires m k ≡ wires m k
wire_place n place value m k wires e =
    ap (λ (b : Bool). cond (nat_eq n m && b) (Some value) (wires m k)) (ne_eqb place k e) ∙ at
    (nat_eq n m)
  where
    at : (b : Bool) → cond (b && false) (Some value) (wires m k) ≡ wires m k
    at true = refl
    at false = refl

-- one more mark with its number
module _ (test : Direction → Bool) (n place value : ℕ) (e : SignalEntry) (signals : Signals)
    (wires : Wires) (there : entry_at signals n ≡ Some e)
    (marks : MarksOf test signals wires) where
  pub mark_wire : MarksOf test (put_at n (marked e place) signals) (put_wire n place value wires)
  mark_wire m d there' t p b at = by_entry (put_entry n m (marked e place) d signals there')
    where
      by_place : (n ≡ m) → (slice_get (slice_set e.written place true) p ≡ Some b)
          → (test e.direction ≡ true)
          → ((place ≡ p) × (true ≡ b)) ⊎ ((place ≢ p) × (slice_get e.written p ≡ Some b)) → is_some
          (put_wire n place value wires m p) ≡ b
      by_place em g u (inl i) = ap is_some (wire_new n place value m p wires em i.0) ∙ i.1
      by_place em g u (inr i) =
          ap is_some (wire_place n place value m p wires i.0) ∙ subst (λ a. is_some (wires a p) ≡ b)
          em (marks n e there u p b i.1)

      by_entry : ((n ≡ m) × (marked e place ≡ d)) ⊎ ((n ≢ m) × (entry_at signals m ≡ Some d))
          → is_some (put_wire n place value wires m p) ≡ b
      by_entry (inl i) =
          let g : slice_get (slice_set e.written place true) p ≡ Some b = subst
          (λ a. slice_get a.written p ≡ Some b) (sym i.1) at in
          by_place i.0 g (subst (λ a. test a.direction ≡ true) (sym i.1) t)
          (set_at e.written place p true b g)
      by_entry (inr i) = ap is_some (wire_row n place value m p wires i.0) ∙ marks m d i.1 t p b at

-- what isn't written has no number, so none is lost
pub keeps_put : (n place value : ℕ) (wires : Wires) → wires n place ≡ None
    → KeepsWires wires (put_wire n place value wires)
keeps_put n place value wires none m p x e = at (nat_eq n m) (nat_eq place p) refl refl
  where
    at : (b c : Bool) → nat_eq n m ≡ b → nat_eq place p ≡ c
        → cond (nat_eq n m && nat_eq place p) (Some value) (wires m p) ≡ Some x
    at true true f g =
        let same_row : n ≡ m = eqb-true n m f in
        let same_place : place ≡ p = eqb-true place p g in
        let no : wires m p ≡ None = subst (λ a. wires m a ≡ None) same_place
        (subst (λ a. wires a place ≡ None) same_row none) in
        cc
    at true false f g =
        ap (λ (a : Bool). cond (nat_eq n m && a) (Some value) (wires m p)) g ∙ ap
        (λ (a : Bool). cond (a && false) (Some value) (wires m p)) f ∙ e
    at false c f g = ap (λ (a : Bool). cond (a && nat_eq place p) (Some value) (wires m p)) f ∙ e
