-- How far the loading has come, from the first file on.
use Rattle.std.proofs.Common.{◌≡◌, ℕ, ◌<◌, ◌≤◌, true, false, List, []}
use Rattle.std.proofs.Common.{◌∷◌, ◌++◌}
use Rattle.std.proofs.Common.{length, reverse, refl, sym, ap, ◌∙◌, subst, cond, arith, Option}
use Rattle.std.proofs.Common.{None}
use Rattle.std.proofs.Common.{Some, Vec, String, string_bytes, Ok, inl, inr}
use Rattle.std.specs.Prelude.{All}
use Rattle.std.specs.Str.{IsUtf8, bytes_eq}
use Rattle.std.proofs.lemmas.Bool.{or_cases}
use Rattle.std.proofs.lemmas.List.{append-nil, append_assoc, length-append, length-map, map-append}
use Rattle.std.proofs.lemmas.List.{reverse-append}
use Rattle.std.proofs.lemmas.List.Elements.{All-nil, All-head, All-tail, All-push, All-pop}
use Rattle.std.proofs.lemmas.List.Elements.{All-cons}
use Rattle.std.proofs.lemmas.List.Folds.{list_any-append}
use Rattle.std.proofs.lemmas.Slice.Eq.{bytes_eq-Decides}
use Rattle.out_io.specs.Faults.{Rose}
use Rattle.out_io.specs.Held.{OfAll}
use Rattle.out_io.proofs.Rising.{rose_on}
use Rattle.cir_sources.specs.declared.search.Target.TheVariants.{Loaded, Absent, Found}
use Rattle.cir_sources.specs.declared.fault.LoadFault.TheVariants as fault
use Rattle.cir_sources.specs.Includes.{Contents, Site, IsRead, IsSource, Source, included_name}
use Rattle.cir_sources.specs.Includes.{is_among}
use Rattle.cir_sources.specs.Includes.{is_loaded, left_after, seen}
use Rattle.cir_sources.specs.Faults.{Refusal, IsFault, IsStop, most_files}
use Rattle.cir_sources.specs.Loading.{Global, CodeSource, LoadFault, AreAll, AreReached, AreSources}
use Rattle.cir_sources.specs.Loading.{IsAnswer, IsDecoded, NotLoaded, Refused}
use Rattle.cir_sources.specs.Steps.{IsThere, BTreeSet, contains_text, Target, Loading, Adds}
use Rattle.cir_sources.specs.Steps.{AreHeld, AreMissing, Decodes, FindsTarget, Fits, IsBegun}
use Rattle.cir_sources.specs.Steps.{IsLoading, Learns, Refuses, Targets, all_of, left_of}
use Rattle.cir_sources.specs.Steps.{names_of}
use Rattle.cir_sources.proofs.Searching.{Reads, held_there, learns_found}

-- ---- the includes that are left

-- an include whose file is loaded changes nothing
left_skips : (files : Contents) (library : Option (List ℕ)) (loaded : List (List ℕ))
    (site : Site)
    (sites : List Site) (new : List Source)
    → is_loaded loaded (included_name files library site) ≡ true
    → left_after files library loaded
    (site ∷ sites) new ≡ left_after files library loaded sites new
left_skips files library loaded site sites [] e = rw e
left_skips files library loaded site sites (s ∷ ss) e = rw e

-- ---- the names of sources

-- a name among those of sources is one's
pub among_source : (files : Contents) (all : List Source) (q : List ℕ)
    → All (IsSource files) all
    → is_among (names_of all) q ≡ true → (s : Source) × IsSource files s × (s.name ≡ q)
among_source files [] q sources e = cc
among_source files (s ∷ ss) q sources e =
    elim (or_cases (bytes_eq s.name q) (is_among (names_of ss) q) e) [
      | inl here ↦ (s, All-head (IsSource files) s ss sources, (bytes_eq-Decides s.name q).0 here)
      | inr later ↦ among_source files ss q (All-tail (IsSource files) s ss sources) later
    ]

-- the names with one more
names_more : (old : BTreeSet (String Global)) (all : List Source) (s : Source) (q : List ℕ)
    → contains_text old q ≡ is_among (names_of all) q
    → cond (bytes_eq s.name q) true (contains_text old q) ≡ is_among
    (names_of (all ++ s ∷ [])) q
names_more old all s q are =
    rw (are, map-append (λ (s : Source). s.name) all (s ∷ []))
    (rw (list_any-append (λ n. bytes_eq n q) (names_of all) (s.name ∷ [])) (grind arith))

-- the name of a source has a source's bytes
pub among_read : (files : Contents) (all : List Source) → All (IsSource files) all
    → (other : List ℕ) → IsUtf8 other → is_among (names_of all) other ≡ true
    → (s : Source) × (bytes : List ℕ) × (files other ≡ Some bytes) × IsRead bytes s.tree
among_read files all sources other utf8 is =
    let x = among_source files all other sources is in
    (x.0, x.1.bytes, held_there files other x.1.bytes (rw x.2 at x.1.there), x.1.read)

-- the file that was found is a source
knows_more : {held : Contents → Type 0} (missing : BTreeSet (String Global))
    (all : List Source) (s : Source) (found : String Global) (bytes : Vec ℕ Global)
    → s.name ≡ string_bytes found → IsRead bytes.items s.tree
    → OfAll held (Fits all missing (Found found bytes))
    → OfAll held (Fits (all ++ s ∷ []) missing Loaded)
knows_more missing all s found bytes named read knows = λ files may.
    let fits = knows files may in record {
      sources = All-push (IsSource files) all s fits.sources
          record { bytes = bytes.items; there = rw named fits.there; read = read };
      missing = fits.missing;
      there = tt;
    }

-- ---- the loading, where these includes are left

module _ {held : Contents → Type 0} {name : List ℕ} {library : Option (List ℕ)}
    {names missing : BTreeSet (String Global)} {all : List Source} {left : List Site}
    (loading : IsLoading held name library names missing all left) where
  pub names_held : (files : Contents) → All (IsSource files) all → AreHeld files names
  names_held files sources q e =
      let x = among_source files all q sources (sym (loading.begun.names_are q) ∙ e) in
      (x.1.bytes, rw x.2 at x.1.there)

  reached : (files : Contents) (rest : List Site) → All (IsSource files) all
      → AreMissing files missing → left_after files library (names_of all) left [] ≡ Some rest
      → AreReached files name library loading.begun.first loading.begun.more rest
  reached files rest sources are e =
      let both : All (IsSource files) (loading.begun.first ∷ loading.begun.more) =
      rw loading.begun.parts at sources in record {
        named = loading.begun.named;
        source = All-head (IsSource files) loading.begun.first loading.begun.more both;
        sources = All-tail (IsSource files) loading.begun.first loading.begun.more both;
        few = omega (arith, ap length loading.begun.parts, loading.begun.few);
        sites = rw (← append-nil loading.begun.more) (loading.leads files sources are [] ∙ e);
      }

-- no include is left
module _ {held : Contents → Type 0} {name : List ℕ} {library : Option (List ℕ)}
    {names missing : BTreeSet (String Global)} {all : List Source}
    (loading : IsLoading held name library names missing all []) where
  all_reached : (files : Contents) → All (IsSource files) all → AreMissing files missing
      → AreAll files name library all
  all_reached files sources are = record {
    first = loading.begun.first;
    more = loading.begun.more;
    parts = loading.begun.parts;
    reached = reached loading files [] sources are refl;
  }

  pub ends : OfAll held
      (λ files. AreAll files name library all × AreMissing files missing)
  ends = λ files may.
      let fits = loading.knows files may in
      (all_reached files fits.sources fits.missing, fits.missing)

  pub are_sources : AreSources all
  are_sources = record {
    some = omega (arith, ap length loading.begun.parts);
    few = loading.begun.few;
    read = loading.begun.read;
  }

-- ---- the first file

module _ {held : Contents → Type 0} {name : List ℕ} (library : Option (List ℕ))
    (failed : Type 0) where
  -- a refusal for such a cause
  loads_refused : (P : Refusal → Type 0) (e : LoadFault)
      → ((r : Refusal) → P r → OfAll held (λ files. IsAnswer files name library (Refused r)))
      → Refuses P e → NotLoaded held name library failed e
  loads_refused P (fault.Refused r) on h = on r h
  loads_refused P fault.OutOfMemory on h = h
  loads_refused P _ on h = absurd h

  -- it has a fault
  pub first_bad : {before : Contents → Type 0} (bytes : Vec ℕ Global) (e : LoadFault)
      → Reads before held name (Some bytes)
      → Refuses (IsFault name bytes.items) e → NotLoaded held name library failed e
  first_bad bytes e reads =
      loads_refused (IsFault name bytes.items) e (λ r bad files may.
      inl record { bytes = bytes.items; there = sym (reads.found files may); fault = bad })

-- a store that failed later failed
pub ends_on : (held : Contents → Type 0) (name : List ℕ) (library : Option (List ℕ))
    (first before now : ℕ) (e : LoadFault) → first ≤ before
    → NotLoaded held name library (Rose before now) e
    → NotLoaded held name library (Rose first now) e
ends_on held name library first before now fault.Missing le h = h
ends_on held name library first before now (fault.Refused r) le h = h
ends_on held name library first before now fault.Fault le h = rose_on first before now le h
ends_on held name library first before now fault.OutOfMemory le h = h

-- it is loaded
pub first_loads : {before held : Contents → Type 0} {name text : List ℕ}
    {library : Option (List ℕ)}
    (found : String Global) (bytes : Vec ℕ Global) (source : CodeSource) (start loading : Loading)
    → IsUtf8 name → string_bytes found ≡ name → text ≡ name
    → Reads before held name (Some bytes)
    → Decodes text bytes.items (Ok source) → Adds start (seen source) loading
    → start.sources.items ≡ [] → start.pending.items ≡ []
    → ((q : List ℕ) → contains_text start.names q ≡ false)
    → ((q : List ℕ) → contains_text start.missing q ≡ false)
    → IsLoading held name library loading.names loading.missing (all_of loading)
    (left_of loading)
first_loads {name = name} found bytes source start loading utf8 is same reads
    decodes adds no_sources no_left no_names no_missing =
    rw (adds.sources, adds.left, adds.missing, no_sources, no_left) record {
      begun = record {
        first = seen source;
        more = [];
        parts = refl;
        named = named;
        few = omega arith;
        read = All-cons IsDecoded (seen source) [] (bytes.items, decodes.1) (All-nil IsDecoded);
        names_are = λ q. adds.names q ∙ names_more start.names [] (seen source) q (no_names q);
      };
      knows = knows_more _ [] (seen source) found bytes (named ∙ sym is) decodes.1
          ((learns_found start.missing found bytes utf8 is reads).knows []
          (λ files may. nothing files));
      leads = λ files sources are new. rw (named, append-nil);
    }
  where
    named : source.name ≡ name
    named = decodes.0 ∙ same

    nothing : (files : Contents) → Fits [] start.missing Loaded files
    nothing files = record {
      sources = All-nil (IsSource files);
      missing = λ q e. cc (no_missing q);
      there = tt;
    }

-- ---- an include is followed

-- the name that was found, if one was
abbrev chosen_as : Target → Option (List ℕ)
chosen_as (Found name bytes) = Some (string_bytes name)
chosen_as _ = None

-- the last one that is left comes first
pub on_top : {held : Contents → Type 0} {name : List ℕ} {library : Option (List ℕ)}
    {names missing : BTreeSet (String Global)} {all : List Source} {left : List Site}
    (rest : List Site) (site : Site) → left ≡ rest ++ site ∷ []
    → IsLoading held name library names missing all (reverse left)
    → IsLoading held name library names missing all (site ∷ reverse rest)
on_top rest site last loading = rw (last, reverse-append rest (site ∷ [])) at loading

module _ {before after : Contents → Type 0} {name : List ℕ} {library : Option (List ℕ)}
    {site : Site} {missing : BTreeSet (String Global)} {target : Target} (old : Loading)
    (learns : Learns before after old.missing missing target)
    (finds : FindsTarget old.names missing library site target)
    (loading : IsLoading before name library old.names old.missing (all_of old)
    (site ∷ left_of old)) where
  abbrev begun : IsBegun name old.names (all_of old)
  begun = loading.begun

  knows : OfAll after (Fits (all_of old) missing target)
  knows = learns.knows (all_of old) loading.knows

  count : length (all_of old) ≡ length old.sources.items
  count = length-map old.sources.items seen

  targets : (files : Contents) → All (IsSource files) (all_of old) → AreMissing files missing
      → Targets files old.names library site target
  targets files sources =
      finds files (names_held loading files sources)

  -- what it names, where that isn't loaded
  fresh : (files : Contents) (t : Target) → target ≡ t → ¬ (t ≡ Loaded)
      → Fits (all_of old) missing t files → (included_name files library site ≡ chosen_as t)
      × (is_loaded (names_of (all_of old)) (included_name files library site) ≡ false)
  fresh files Loaded is new fits = absurd (new refl)
  fresh files Absent is new fits =
      let none : included_name files library site ≡ None =
      rw is at (targets files fits.sources fits.missing) in
      (none, rw none)
  fresh files (Found found bytes) is new fits =
      let t = rw is at (targets files fits.sources fits.missing) in
      let here : included_name files library site ≡ Some (string_bytes found) =
      t.1 bytes.items fits.there
      in (here, rw here (sym (begun.names_are (string_bytes found)) ∙ t.0))

  -- it can't be followed
  pub stops : (failed : Type 0) (P : Refusal → Type 0) (e : LoadFault) (t : Target)
      → target ≡ t
      → ¬ (t ≡ Loaded) → ((r : Refusal) → P r → (files : Contents) → IsThere files t
      → included_name files library site ≡ chosen_as t
      → IsStop files library (length old.sources.items) site r)
      → Refuses P e → NotLoaded after name library failed e
  stops failed P e t is new why =
      loads_refused _ _ P e (λ r p files may.
      let fits = rw is at (knows files may) in
      let f = fresh files t is new fits in inr record {
        first = begun.first;
        more = begun.more;
        site = site;
        rest = left_of old;
        reached = reached loading files (site ∷ left_of old) fits.sources
            (learns.more files fits.missing) (rw f.1);
        stop = subst (λ n. IsStop files library n site r)
            (omega (arith, count, ap length begun.parts)) (why r p files fits.there f.0);
      })

  -- it is loaded already
  pub skips : target ≡ Loaded
      → IsLoading after name library old.names missing (all_of old) (left_of old)
  skips is = record {
    begun = begun;
    knows = rw is at knows;
    leads = λ files sources are new.
        let t = rw is at (targets files sources are) in
        loading.leads files sources (learns.more files are) new
        ∙ left_skips files library (names_of (all_of old)) site (left_of old) new
        (rw (t.1) (sym (begun.names_are t.0) ∙ t.2));
  }

  -- it is another file, which is loaded
  pub loads : (found : String Global) (bytes : Vec ℕ Global) (text : List ℕ)
      (source : CodeSource)
      (new : Loading) → target ≡ Found found bytes
      → length old.sources.items < most_files → text ≡ string_bytes found
      → Decodes text bytes.items (Ok source)
      → Adds (record old { missing = missing }) (seen source) new
      → IsLoading after name library new.names new.missing (all_of new) (left_of new)
  loads found bytes text source new is few same decodes adds =
      rw (adds.sources, adds.left, adds.missing) record {
        begun = record {
          first = begun.first;
          more = begun.more ++ seen source ∷ [];
          parts = ap (λ l. l ++ seen source ∷ []) begun.parts;
          named = begun.named;
          few = omega (arith, length-append (all_of old) (seen source ∷ []), count, few);
          read = All-push IsDecoded (all_of old) (seen source) begun.read (bytes.items, decodes.1);
          names_are = λ q. adds.names q
              ∙ names_more old.names (all_of old) (seen source) q (begun.names_are q);
        };
        knows = knows_more _ (all_of old) (seen source) found bytes named decodes.1
            (rw is at knows);
        leads = λ files sources are n.
            let both : All (IsSource files) (all_of old) × IsSource files (seen source) =
            All-pop (IsSource files) (all_of old ++ seen source ∷ []) (all_of old)
            (Some (seen source)) refl sources in
            let t = rw is at (targets files both.0 are) in
            let here : included_name files library site ≡ Some source.name =
            t.1 both.1.bytes (rw (← named) both.1.there) ∙ ap Some (sym named) in
            let unloaded
            : is_loaded (names_of (all_of old)) (included_name files library site) ≡ false =
            rw (here, named) (sym (begun.names_are (string_bytes found)) ∙ t.0) in
            let on = loading.leads files both.0 (learns.more files are) (seen source ∷ n) in
            rw (append_assoc begun.more (seen source ∷ []) n, on, unloaded, here)
            (rw (
              (bytes_eq-Decides source.name source.name).1 refl,
              map-append (λ (s : Source). s.name) (all_of old) (seen source ∷ []),
            ));
      }
    where
      named : source.name ≡ string_bytes found
      named = decodes.0 ∙ same
