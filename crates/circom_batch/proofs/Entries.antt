-- Entries of lines, while lists of numbers are added.
use Rattle.std.proofs.Common.{◌≡◌, ℕ, zero, suc, ◌+◌, ◌≤◌, ◌<◌, List, []}
use Rattle.std.proofs.Common.{◌∷◌, ◌++◌, length}
use Rattle.std.proofs.Common.{Ok, Err, All, Vec, Global, ap, arith, slice_get, subst}
use Rattle.std.proofs.Common.{subst₂, sym, get_or, take}
use Rattle.std.specs.Prelude.{IsSomeAnd}
use Rattle.std.specs.List.{AllZip}
use Rattle.std.proofs.lemmas.List.{append-nil, length-append, take_more}
use Rattle.std.proofs.lemmas.List.Elements.{All-append, All-cons, All-nil}
use Rattle.std.proofs.lemmas.Slice.Zip.{all_zipped_more}
use Rattle.cir_values.specs.declared.signals.InputShape.{InputShape}
use Rattle.wit_input.specs.Input.{input_of}
use Rattle.circom_lines.specs.Lines.{refusal_line}
use Rattle.circom_lines.specs.declared.answer.Refusal.{Refusal}
use Rattle.circom_files.specs.Running.{accepted_input}
use Rattle.circom_files.specs.Steps.{Gets}
use Rattle.circom_files.specs.declared.stop.Stop.{Stop}
use Rattle.circom_batch.specs.Inputs.{IsEntry, IsInput, IsLineOf, IsTaken}
use Rattle.circom_batch.specs.Items.{without_feed}
use Rattle.circom_batch.specs.declared.inputs.Entry.{Entry}
use Rattle.circom_batch.specs.declared.inputs.Entry.TheVariants.{Start, Refused}

-- what stands at a place stands there still
there : {A : Type 0} (P : A → Type 0) (xs more : List A) (k : ℕ)
    → IsSomeAnd (slice_get xs k) P → IsSomeAnd (slice_get (xs ++ more) k) P
there P [] more k h = absurd h
there P (x ∷ xs) more zero h = h
there P (x ∷ xs) more (suc k) h = there P xs more k h

last : {A : Type 0} (P : A → Type 0) (xs : List A) (x : A) → P x
    → IsSomeAnd (slice_get (xs ++ x ∷ []) (length xs)) P
last P [] x h = h
last P (y ∷ xs) x h = last P xs x h

module _ (inputs : List InputShape) where
  abbrev Accepts : List ℕ → Vec ℕ Global → Type 0
  Accepts line start = accepted_input inputs (input_of line inputs) ≡ Ok start.items

  pub taken_start : (before : List (Vec ℕ Global)) (line : List ℕ) (start : Vec ℕ Global)
      (after : List (Vec ℕ Global)) (place : ℕ) → after ≡ before ++ start ∷ []
      → place ≡ length before → Accepts line start
      → IsTaken inputs before line after (Start place)
  taken_start before line start after place behind at accepts = record {
    more = start ∷ [];
    behind = behind;
    one = omega arith;
    inputs_each = All-cons (λ (s : Vec ℕ Global). IsInput inputs s.items) start []
        (line, accepts) (All-nil (λ (s : Vec ℕ Global). IsInput inputs s.items));
    taken = subst₂ (λ (ss : List (Vec ℕ Global)) (k : ℕ). IsSomeAnd (slice_get ss k)
        (Accepts line)) (sym behind) (sym at) (last (Accepts line) before start accepts);
  }

  taken_refused : (before : List (Vec ℕ Global)) (line : List ℕ) (refusal : Refusal)
      (text : List ℕ) → accepted_input inputs (input_of line inputs) ≡ Err refusal
      → text ≡ without_feed (refusal_line refusal)
      → IsTaken inputs before line before (Refused text)
  taken_refused before line refusal text refuses is = record {
    more = [];
    behind = sym (append-nil before);
    one = omega arith;
    inputs_each = All-nil (λ (s : Vec ℕ Global). IsInput inputs s.items);
    taken = (refusal, refuses, is);
  }

  pub taken_line : (before : List (Vec ℕ Global)) (line : List ℕ) (stop : Stop)
      (text : List ℕ)
      → Gets (λ (v : Vec ℕ Global). v.items) (accepted_input inputs (input_of line inputs))
      (Err stop) → IsLineOf stop text → IsTaken inputs before line before (Refused text)
  taken_line before line stop text gets (refusal, is, are) =
      taken_refused before line refusal text
      (subst (λ (s : Stop). Gets (λ (v : Vec ℕ Global). v.items)
      (accepted_input inputs (input_of line inputs)) (Err s)) is gets) are

  entry_still : (starts more : List (Vec ℕ Global)) (line : List ℕ) (entry : Entry)
      → IsEntry inputs starts line entry → IsEntry inputs (starts ++ more) line entry
  entry_still starts more line (Start place) h = there (Accepts line) starts more place h
  entry_still starts more line (Refused text) h = h

  module _ {A : Type 0} (text : A → List ℕ) where
    abbrev pub Give : List (Vec ℕ Global) → List A → List Entry → Type 0
    Give starts lines entries =
        AllZip (λ (line : A) (entry : Entry). IsEntry inputs starts (text line) entry) lines
        entries

    entries_still : (starts more : List (Vec ℕ Global)) (lines : List A) (entries : List Entry)
        → Give starts lines entries → Give (starts ++ more) lines entries
    entries_still starts more [] [] h = tt
    entries_still starts more [] (e ∷ es) h = absurd h
    entries_still starts more (l ∷ ls) [] h = absurd h
    entries_still starts more (l ∷ ls) (e ∷ es) h =
        (entry_still starts more (text l) e h.0, entries_still starts more ls es h.1)

    -- one more line
    pub entries_more : (starts after : List (Vec ℕ Global)) (lines : List A)
        (entries : List Entry) (i : ℕ) (d : A) (entry : Entry) → i < length lines
        → Give starts (take i lines) entries
        → IsTaken inputs starts (text (get_or lines i d)) after entry
        → Give after (take (i + 1) lines) (entries ++ entry ∷ [])
    entries_more starts after lines entries i d entry near h t =
        subst (λ (ls : List A). Give after ls (entries ++ entry ∷ []))
        (sym (take_more lines i d near))
        (all_zipped_more (λ (l : A) (e : Entry). IsEntry inputs after (text l) e) (take i lines)
        entries (get_or lines i d) entry
        (subst (λ (ss : List (Vec ℕ Global)). Give ss (take i lines) entries) (sym t.behind)
        (entries_still starts t.more (take i lines) entries h)) t.taken)

  pub inputs_more : (starts after : List (Vec ℕ Global)) (line : List ℕ) (entry : Entry)
      → All (λ s. IsInput inputs s.items) starts → IsTaken inputs starts line after entry
      → All (λ s. IsInput inputs s.items) after
  inputs_more starts after line entry h t =
      subst (λ (ss : List (Vec ℕ Global)). All (λ s. IsInput inputs s.items) ss) (sym t.behind)
      (All-append (λ (s : Vec ℕ Global). IsInput inputs s.items) starts t.more h t.inputs_each)

  pub few_more : (starts after : List (Vec ℕ Global)) (line : List ℕ) (entry : Entry) (n : ℕ)
      → length starts ≤ n → IsTaken inputs starts line after entry → length after ≤ n + 1
  few_more starts after line entry n few t =
      let long : length after ≡ length (starts ++ t.more) = ap length t.behind in
      let one = t.one in
      omega (arith, length-append starts t.more)
