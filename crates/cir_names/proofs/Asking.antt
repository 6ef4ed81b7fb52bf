-- Files that loading doesn't ask for have no part in it.
use Rattle.std.proofs.Common.{◌≡◌, ◌≢◌, ◌∙◌, ℕ, Bool, true, false, List, [], ◌∷◌, ◌++◌, Option}
use Rattle.std.proofs.Common.{None, Some, refl, ap, inl, inr}
use Rattle.std.specs.Prelude.{All, if◌then◌else◌, is_some}
use Rattle.std.specs.Str.{is_utf8}
use Rattle.std.proofs.lemmas.List.Elements.{All-head, All-tail, All-append}
use Rattle.out_io.specs.Contents.{Contents}
use Rattle.cir_ast.specs.Program.{Program}
use Rattle.cir_sources.specs.Includes.{Source, IsSource, beside, bytes_at, in_library}
use Rattle.cir_sources.specs.Includes.{if_held, included_name, includes_of, is_loaded}
use Rattle.cir_sources.specs.Includes.{sites_to_follow, follow, left_after}
use Rattle.cir_sources.specs.Loading.{AreAll}
use Rattle.cir_sources.specs.declared.source.Site.{Site}
use Rattle.cir_names.specs.Asking.{IsSoughtAs, HasNoPart, IsUnasked}
use Rattle.cir_names.specs.Loading.{IsLoaded}

-- the first choice, where there is one, else the second
chosen : (own : List ℕ) (b : Option (List ℕ)) (x y : Option (List ℕ)) → (b ≡ None → x ≡ y)
    → (if is_some b then Some own else x) ≡ (if is_some b then Some own else y)
chosen own None x y same = same refl
chosen own (Some b) x y same = refl

module _ (files after : Contents) (library : Option (List ℕ)) (name : List ℕ)
    (others : (other : List ℕ) → other ≢ name → after other ≡ files other) where
  abbrev Unsought : Site → Type 0
  Unsought site = ¬ IsSoughtAs files library name site

  same_bytes : (other : List ℕ) → other ≢ name → bytes_at after other ≡ bytes_at files other
  same_bytes other differ =
      ap (λ found. if is_utf8 other then found else None) (others other differ)

  same_held : (found : Option (List ℕ)) → ((n : List ℕ) → found ≡ Some n → n ≢ name)
      → if_held after found ≡ if_held files found
  same_held None differ = refl
  same_held (Some n) differ =
      ap (λ b. if is_some b then Some n else None) (same_bytes n (differ n refl))

  -- an include that isn't looked for under the name has the same file
  same_included : (site : Site) → Unsought site
      → included_name after library site ≡ included_name files library site
  same_included site unsought =
      ap (λ b. if is_some b then Some (beside site) else if_held after (in_library library site))
      (same_bytes (beside site) (λ e. unsought (inl e)))
      ∙ chosen (beside site) (bytes_at files (beside site)) _ _ (λ none.
      same_held (in_library library site) (λ n found e. unsought (inr (none, found ∙ ap Some e))))

  same_sites : (loaded : List (List ℕ)) (sites : List Site) → All Unsought sites
      → sites_to_follow after library loaded sites ≡ sites_to_follow files library loaded sites
  same_sites loaded [] all = refl
  same_sites loaded (site ∷ sites) all =
      ap (λ n. if is_loaded loaded n then sites_to_follow after library loaded sites
      else site ∷ sites) (same_included site (All-head Unsought site sites all))
      ∙ ap (λ rest. if is_loaded loaded (included_name files library site) then rest
      else site ∷ sites) (same_sites loaded sites (All-tail Unsought site sites all))

  either : (b : Bool) (first second : List Site) → All Unsought first → All Unsought second
      → All Unsought (if b then first else second)
  either true first second one other = one
  either false first second one other = other

  -- what is left of them isn't looked for under the name either
  sites_left : (loaded : List (List ℕ)) (sites : List Site) → All Unsought sites
      → All Unsought (sites_to_follow files library loaded sites)
  sites_left loaded [] all = all
  sites_left loaded (site ∷ sites) all =
      either (is_loaded loaded (included_name files library site))
      (sites_to_follow files library loaded sites) (site ∷ sites)
      (sites_left loaded sites (All-tail Unsought site sites all)) all

  same_follow : (own : List ℕ) (sites : List Site) (go going : List Site → Option (List Site))
      → All Unsought sites → ((rest : List Site) → All Unsought rest → go rest ≡ going rest)
      → follow after library own sites go ≡ follow files library own sites going
  same_follow own [] go going all same = refl
  same_follow own (site ∷ sites) go going all same =
      ap (λ n. if is_loaded (own ∷ []) n then go sites else None)
      (same_included site (All-head Unsought site sites all))
      ∙ ap (λ rest. if is_loaded (own ∷ []) (included_name files library site) then rest else None)
      (same sites (All-tail Unsought site sites all))

  -- the same sources lead on from the same includes
  same_left : (loaded : List (List ℕ)) (sites : List Site) (new : List Source)
      → All Unsought sites → All (HasNoPart files library name) new
      → left_after after library loaded sites new ≡ left_after files library loaded sites new
  same_left loaded sites [] all parts = ap Some (same_sites loaded sites all)
  same_left loaded sites (s ∷ ss) all parts =
      ap (λ left. follow after library s.name left (λ rest.
      left_after after library (loaded ++ s.name ∷ []) (includes_of s ++ rest) ss))
      (same_sites loaded sites all)
      ∙ same_follow s.name (sites_to_follow files library loaded sites) _ _
      (sites_left loaded sites all) (λ rest unsought.
      same_left (loaded ++ s.name ∷ []) (includes_of s ++ rest) ss
      (All-append Unsought (includes_of s) rest
      (All-head (HasNoPart files library name) s ss parts).includes unsought)
      (All-tail (HasNoPart files library name) s ss parts))

  same_source : (s : Source) → HasNoPart files library name s → IsSource files s
      → IsSource after s
  same_source s part source = record {
    bytes = source.bytes;
    there = same_bytes s.name part.other ∙ source.there;
    read = source.read;
  }

  same_sources : (ss : List Source) → All (HasNoPart files library name) ss
      → All (IsSource files) ss → All (IsSource after) ss
  same_sources ss parts sources = λ k d less. same_source _ (parts k d less) (sources k d less)

  same_all : (source : List ℕ) (sources : List Source) → All (HasNoPart files library name) sources
      → AreAll files source library sources → AreAll after source library sources
  same_all source sources parts all =
      let both = rw all.parts at parts in
      let first = All-head (HasNoPart files library name) all.first all.more both in
      let more = All-tail (HasNoPart files library name) all.first all.more both in
      record {
        first = all.first;
        more = all.more;
        parts = all.parts;
        reached = record {
          named = all.reached.named;
          source = same_source all.first first all.reached.source;
          sources = same_sources all.more more all.reached.sources;
          few = all.reached.few;
          sites = same_left _ _ all.more first.includes more ∙ all.reached.sites;
        };
      }

  pub loaded_again : (source : List ℕ) (p : Program) → IsLoaded files source library p
      → IsUnasked files source library name → IsLoaded after source library p
  loaded_again source p loaded unasked = record {
    sources = loaded.sources;
    all = same_all source loaded.sources (unasked loaded.sources loaded.all) loaded.all;
    theirs = loaded.theirs;
  }
