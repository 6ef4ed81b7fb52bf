-- A scan leaves each variable as it is, or opaque in all its elements, and changes nothing else but
-- what is counted.
use Rattle.std.proofs.Common.{◌≡◌, ◌⊎◌, inr, ℕ, zero, suc, true, List, [], ◌∷◌, refl, sym, ap}
use Rattle.std.proofs.Common.{subst, ◌∙◌, slice_get, slice_set, unwrap_or}
use Rattle.std.specs.Prelude.{⊤}
use Rattle.std.specs.List.{AllByRecursion}
use Rattle.cir_ast.specs.declared.program.Spot.{Spot}
use Rattle.cir_ast.specs.declared.program.Meant.{Meant}
use Rattle.cir_ast.specs.Tree.{Statement}
use Rattle.cir_meaning.specs.Tried.{Where}
use Rattle.cir_meaning.specs.Limits.{is_too_large}
use Rattle.cir_meaning.specs.Places.{elements}
use Rattle.cir_meaning.specs.Arrays.{Datum, single, filled}
use Rattle.cir_meaning.specs.Values.{Known, Opaque}
use Rattle.cir_meaning.specs.Frame.{World, State, Context}
use Rattle.cir_meaning.specs.Unknown.{declares}
use Rattle.cir_meaning.specs.Scan.{scan_declared, scan}
use Rattle.cir_meaning.proofs.Good.{OnGood, either}
use Rattle.cir_meaning.proofs.Likes.{CallKeeps, Like}
use Rattle.cir_meaning.proofs.Rows.{all_replicate}
use Rattle.cir_meaning.proofs.Scans.{may_any, like_valued, scan_kept}

abbrev pub IsOpaque : Datum → Type 0
IsOpaque d = AllByRecursion (λ v. v ≡ Opaque) d.items

-- as it was, or opaque
abbrev pub Faded : (List Datum) → State → Type 0
Faded before s =
    (n : ℕ) → (unwrap_or (slice_get s.frame.variables n) (single (Known 0)) ≡ unwrap_or
    (slice_get before n) (single (Known 0)))
    ⊎ IsOpaque (unwrap_or (slice_get s.frame.variables n) (single (Known 0)))

pub opaque_filled : (dims : List ℕ) → IsOpaque (filled dims Opaque)
opaque_filled dims =
    either (AllByRecursion (λ v. v ≡ Opaque)) (is_too_large dims) [] _ tt
    (all_replicate (λ v. v ≡ Opaque) (elements dims) Opaque refl)

-- where one variable becomes opaque
set_faded : (vs before : List Datum) (n m : ℕ) (d : Datum) → IsOpaque d
    → ((unwrap_or (slice_get vs m) (single (Known 0)) ≡ unwrap_or (slice_get before m)
    (single (Known 0))) ⊎ IsOpaque (unwrap_or (slice_get vs m) (single (Known 0))))
    → (unwrap_or (slice_get (slice_set vs n d) m) (single (Known 0)) ≡ unwrap_or
    (slice_get before m) (single (Known 0)))
    ⊎ IsOpaque (unwrap_or (slice_get (slice_set vs n d) m) (single (Known 0)))
set_faded [] before n m d h f = f
set_faded (v ∷ vs) before zero zero d h f = inr h
set_faded (v ∷ vs) before zero (suc m) d h f = f
set_faded (v ∷ vs) before (suc n) zero d h f = f
set_faded (v ∷ vs) [] (suc n) (suc m) d h f = set_faded vs [] n m d h f
set_faded (v ∷ vs) (b ∷ bs) (suc n) (suc m) d h f = set_faded vs bs n m d h f

-- a scan leaves each variable as it is, or opaque
faded_like : (before : List Datum) (f s : State) → Like f s → Faded before f → Faded before s
faded_like before f s l h =
    subst (λ vs. (n : ℕ) → (unwrap_or (slice_get vs n) (single (Known 0)) ≡ unwrap_or
    (slice_get before n) (single (Known 0)))
    ⊎ IsOpaque (unwrap_or (slice_get vs n) (single (Known 0)))) (sym l.0) h

faded_declared : (before : List Datum) (n : ℕ) (dims : List ℕ) (s : State) → Faded before s
    → Faded before (scan_declared n dims s)
faded_declared before n dims s h = λ m.
    set_faded s.frame.variables before n m (filled dims Opaque) (opaque_filled dims) (h m)

pub scan_faded : (before : List Datum) (k : Context) (keeps : CallKeeps k.call) (w : Where)
    (a : Statement Spot Meant) (s : State) → Faded before s
    → OnGood (Faded before) (scan k w a s)
scan_faded before k keeps w a s h =
    scan_kept k (Faded before) (like_valued k keeps (Faded before) (faded_like before) true)
    (λ n. ⊤) (λ n dims t m. faded_declared before n dims t) w a (may_any (declares a)) s h

-- and nothing else is new but what is counted
abbrev pub Rest : State → State → Type 0
Rest f s = (s.frame.signals ≡ f.frame.signals) × (s.frame.components ≡ f.frame.components)
    × (s.frame.parts ≡ f.frame.parts)
    × (s.world ≡ record (f.world) { counts = s.world.counts })

pub rest_like : (f s t : State) → Like s t → Rest f s → Rest f t
rest_like f s t l h = (
  l.1 ∙ h.0,
  l.2 ∙ h.1,
  l.3 ∙ h.2,
  l.4 ∙ ap (λ (v : World). record v { counts = t.world.counts }) h.3,
)

pub scan_rest : (f : State) (k : Context) (keeps : CallKeeps k.call) (w : Where)
    (a : Statement Spot Meant) (s : State) → Rest f s → OnGood (Rest f) (scan k w a s)
scan_rest f k keeps w a s h =
    scan_kept k (Rest f) (like_valued k keeps (Rest f) (rest_like f) true) (λ n. ⊤)
    (λ n dims t m g. g) w a (may_any (declares a)) s h
