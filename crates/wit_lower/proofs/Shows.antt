-- A frame shows what names mean: each home has the elements of its variable or signal.
use Rattle.std.proofs.Common.{◌≡◌, ℕ, zero, suc, ◌+◌, ◌<◌, ◌≤◌, Bool, true, false, cond, List, []}
use Rattle.std.proofs.Common.{◌∷◌, length, map, Option, Some, None, Result, Ok, Err, refl, sym, ap}
use Rattle.std.proofs.Common.{ap₂, subst, ◌∙◌, arith, inl, inr, ◌⊎◌}
use Rattle.std.specs.Prelude.{slice_index}
use Rattle.cir_ast.specs.declared.program.Meant.{Meant}
use Rattle.cir_ast.specs.Tree.{Expr}
use Rattle.cir_meaning.specs.Tried.{next}
use Rattle.cir_meaning.specs.Places.{is_inside, numbers_from}
use Rattle.cir_meaning.specs.Arrays.{Shaped}
use Rattle.cir_meaning.specs.Limits.{is_too_large}
use Rattle.cir_meaning.specs.RunValues.{Numbers, Environment, Store, stored, number_in, the_number}
use Rattle.cir_meaning.specs.RunValues.{option_at, all_there, index_out}
use Rattle.wit_lower.specs.Homes.{Name, Variable, Signal, Port, same_name, Home, Homes, Ground}
use Rattle.wit_lower.specs.Homes.{find, slots_of, offset, row}
use Rattle.wit_lower.specs.Fits.{AreLaid}
use Rattle.wit_lower.proofs.Frames.{Below, row_below, row_index, row_length}

-- the elements that are there stand in a row
pub record Carries (d : Shaped (Option ℕ)) (dims items : List ℕ) : Type 0 where
  pub dims' : d.dims ≡ dims
  pub each : (k n : ℕ) → k < length items → option_at d.items k ≡ Some n
      → slice_index items k ≡ n

abbrev pub CarriesSome : Option (Shaped (Option ℕ)) → (dims items : List ℕ) → Type 0
CarriesSome None dims items = Unit {0}
CarriesSome (Some d) dims items = Carries d dims items

abbrev pub CarriesFound : Result (Shaped (Option ℕ)) ℕ → (dims items : List ℕ) → Type 0
CarriesFound (Ok d) dims items = Carries d dims items
CarriesFound (Err x) dims items = x ≡ 0

abbrev pub Held : (components : ℕ → List ℕ) → Environment → Store → Name → (dims items : List ℕ)
    → Type 0
Held components env store (Variable n) dims items =
    stored store n ≡ record { dims = dims; items = items }
Held components env store (Signal n) dims items = CarriesSome (env.signal n) dims items
Held components env store (Port n j name) dims items =
    (indices : List ℕ) → is_inside (components n) (map Some indices) ≡ true
    → offset (components n) indices ≡ j
    → CarriesFound (env.part n indices name) dims items

-- numbers that are known are those of the meaning
abbrev pub KnownAt : Ground → Environment → Store → Type 0
KnownAt g env store =
    (e : Expr Meant) (n u : ℕ) (x : Numbers × ℕ) → g.known e ≡ Some n
    → number_in env store e u ≡ Ok x → the_number x.0 ≡ n

pub record Shows (g : Ground) (env : Environment) (homes : Homes) (store : Store)
    (f : List ℕ) : Type 0 where
  pub each : (x : Name) (h : Home) → find x homes ≡ Some h
      → Held g.components env store x h.dims (row f h.base (slots_of h.dims))
  pub outside : (n : ℕ) (indices name : List ℕ)
      → is_inside (g.components n) (map Some indices) ≡ false
      → env.part n indices name ≡ Err index_out
  pub known : KnownAt g env store
  pub called : (e : Expr Meant) → env.known e ≡ g.called e

-- where homes lie
pub record Lies (top : ℕ) (h : Home) : Type 0 where
  pub below : h.base + slots_of h.dims ≤ top
  pub fits : is_too_large h.dims ≡ false

pub lies : (homes : Homes) (top : ℕ) (x : Name) (h : Home) → AreLaid homes top
    → find x homes ≡ Some h → Lies top h
lies [] top x h l e = cc
lies (p ∷ ps) top x h (a, b, l) e =
    at (λ r. lies ps p.home.base x h l r) (same_name x p.name) e
  where
    at : (find x ps ≡ Some h → Lies p.home.base h) → (t : Bool)
        → cond t (Some p.home) (find x ps) ≡ Some h → Lies top h
    at earlier true e =
        let same : p.home ≡ h = cc in
        subst (Lies top) same record { below = a; fits = b }
    at earlier false e =
        let r : Lies p.home.base h = earlier e in
        record { below = omega (arith, a, r.below); fits = r.fits }

pub shows_below : (g : Ground) (env : Environment) (homes : Homes) (store : Store) (top : ℕ)
    (f f' : List ℕ) → AreLaid homes top → Below top f f' → Shows g env homes store f
    → Shows g env homes store f'
shows_below g env homes store top f f' l b s = record {
  each = λ x h e. subst (Held g.components env store x h.dims)
      (sym (row_below top f f' h.base (slots_of h.dims) b (lies homes top x h l e).below))
      (s.each x h e);
  outside = s.outside;
  known = s.known;
  called = s.called;
}

-- a part of it, where all its elements are there
pub all_there_is : (d : Shaped (Option ℕ)) (dims : List ℕ) (f : List ℕ) (a n o m : ℕ)
    → Carries d dims (row f a n) → o + m ≤ n
    → (all_there (map (option_at d.items) (numbers_from o m)) ≡ Ok (row f (a + o) m))
    ⊎ (all_there (map (option_at d.items) (numbers_from o m)) ≡ Err 0)
all_there_is d dims f a n o zero c le = inl refl
all_there_is d dims f a n o (suc m) c le =
    at (option_at d.items o) refl (all_there_is d dims f a n (o + 1) m c (omega (arith, le)))
  where
    rest : Result (List ℕ) ℕ
    rest = all_there (map (option_at d.items) (numbers_from (o + 1) m))

    on : a + (o + 1) ≡ a + o + 1
    on = omega arith

    at : (x : Option ℕ) → option_at d.items o ≡ x
        → (rest ≡ Ok (row f (a + (o + 1)) m)) ⊎ (rest ≡ Err 0)
        → (all_there (x ∷ map (option_at d.items) (numbers_from (o + 1) m))
        ≡ Ok (slice_index f (a + o) ∷ row f (a + o + 1) m))
        ⊎ (all_there (x ∷ map (option_at d.items) (numbers_from (o + 1) m)) ≡ Err 0)
    at None e r = inr refl
    at (Some v) e (inr r) = inr (ap (λ t. next t (λ ns. Ok (v ∷ ns))) r)
    at (Some v) e (inl r) =
        let there : slice_index f (a + o) ≡ v =
        sym (row_index f a n o (omega (arith, le))) ∙
        c.each o v (omega (arith, le, row_length f a n)) e in
        inl (ap (λ t. next t (λ ns. Ok (v ∷ ns))) r ∙
        ap₂ (λ y ys. Ok (y ∷ ys)) (sym there) (ap (λ b. row f b m) on))
