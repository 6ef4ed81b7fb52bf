-- Which file an include names.
use Rattle.std.proofs.Common.{◌≡◌, ℕ, true, List, sym, ap, refl, ◌∙◌, cond}
use Rattle.std.proofs.Common.{Option, None}
use Rattle.std.proofs.Common.{Some, Vec, String, string_bytes}
use Rattle.std.specs.Str.{IsUtf8, bytes_eq, is_utf8}
use Rattle.std.proofs.lemmas.Bool.{cond_both, false_from_ne_true}
use Rattle.std.proofs.lemmas.Slice.Eq.{bytes_eq-Decides}
use Rattle.std.proofs.lemmas.Str.{is_utf8-from_IsUtf8, IsUtf8-from_is_utf8}
use Rattle.out_io.specs.Contents.{bytes_of}
use Rattle.cir_sources.specs.declared.search.Target.TheVariants.{Loaded, Absent, Found}
use Rattle.cir_sources.specs.Includes.{Contents, Site, included_name, bytes_at}
use Rattle.cir_sources.specs.Loading.{Global}
use Rattle.cir_sources.specs.Steps.{BTreeSet, contains_text, Target, AreHeld, Learns, Looks}
use Rattle.cir_sources.specs.Steps.{Targets}

pub held_at : (files : Contents) (name : List ℕ) → IsUtf8 name
    → bytes_at files name ≡ files name
held_at files name text = ap (λ b. cond b (files name) None) (is_utf8-from_IsUtf8 name text)

-- what is held is there
pub held_there : (files : Contents) (name bytes : List ℕ) → bytes_at files name ≡ Some bytes
    → files name ≡ Some bytes
held_there files name bytes =
    cond_both (is_utf8 name) (files name) None
    (λ o. o ≡ Some bytes → files name ≡ Some bytes)
    (λ _ e. e) (λ _ e. cc)

-- a name that isn't UTF-8 has no file
pub no_text : (files : Contents) (name : List ℕ) → ¬ IsUtf8 name
    → bytes_at files name ≡ None
no_text files name isnt =
    ap (λ b. cond b (files name) None)
    (false_from_ne_true (is_utf8 name) (λ e. isnt (IsUtf8-from_is_utf8 name e)))

-- nor has one that isn't there
pub none_held : (files : Contents) (name : List ℕ) → files name ≡ None
    → bytes_at files name ≡ None
none_held files name none =
    cond_both (is_utf8 name) (files name) None (λ o. o ≡ None) (λ _. none) (λ _. refl)

-- what a reading found is what there may be, and there may be no more than before
pub record Reads (before after : Contents → Type 0) (name : List ℕ)
    (answer : Option (Vec ℕ Global)) : Type 0 where
  pub still : (files : Contents) → after files → before files
  pub found : (files : Contents) → after files → bytes_of answer ≡ files name

module _ {before after : Contents → Type 0} {text : List ℕ}
    (old : BTreeSet (String Global)) where
  -- there is no file of the name, which is put among those that are missing
  pub learns_missing : (new : BTreeSet (String Global))
      → ((q : List ℕ) → contains_text new q ≡ cond (bytes_eq text q) true
      (contains_text old q))
      → Reads before after text None → Learns before after old new Absent
  learns_missing new now reads = record {
    more = λ files are q e. are q
        (now q ∙ cond_both (bytes_eq text q) true (contains_text old q) (λ b. b ≡ true)
        (λ _. refl)
        (λ _. e));
    knows = λ all knows files may.
        let fits = knows files (reads.still files may) in record {
          sources = fits.sources;
          missing = λ q e. cond_both (bytes_eq text q) true (contains_text old q)
              (λ b. b ≡ true → bytes_at files q ≡ None)
              (λ same _. none_held files q
              (ap files (sym ((bytes_eq-Decides text q).0 same)) ∙ sym (reads.found files may)))
              (λ _. fits.missing q) (sym (now q) ∙ e);
          there = tt;
        };
  }

  -- there is a file of the name
  pub learns_found : (found : String Global) (bytes : Vec ℕ Global) → IsUtf8 text
      → string_bytes found ≡ text → Reads before after text (Some bytes)
      → Learns before after old old (Found found bytes)
  learns_found found bytes utf8 is reads = record {
    more = λ files are. are;
    knows = λ all knows files may.
        let fits = knows files (reads.still files may) in record {
          sources = fits.sources;
          missing = fits.missing;
          there = rw is (held_at files text utf8 ∙ sym (reads.found files may));
        };
  }

-- what was looked up is what the include names, where it names that name if it has a file
pub looked : (files : Contents) (names : BTreeSet (String Global)) (library : Option (List ℕ))
    (site : Site) (name : List ℕ) (target : Target)
    → ((b : List ℕ) → bytes_at files name ≡ Some b
    → included_name files library site ≡ Some name)
    → (bytes_at files name ≡ None → included_name files library site ≡ None)
    → AreHeld files names → Looks files names name target
    → Targets files names library site target
looked files names library site name Loaded some none are looks =
    (name, some (are name looks).0 (are name looks).1, looks)
looked files names library site name Absent some none are looks = none looks
looked files names library site name (Found found bytes) some none are looks = (
  rw looks.0 looks.1,
  λ b there. rw looks.0 (some b (rw looks.0 at there)),
)
