-- What the replies to `batch` mean, and that each item is that of `witness` on its line.
use Rattle.std.proofs.Common.{◌≡◌, ◌∙◌, ◌↔◌, ℕ, zero, suc, List, [], ◌∷◌}
use Rattle.std.proofs.Common.{All, Option, Some, None}
use Rattle.std.proofs.Common.{Result, Ok, Err, refl, ap, arith, slice_get, subst, sym, inr}
use Rattle.std.specs.Prelude.{IsSomeAnd}
use Rattle.std.specs.List.{AllZip}
use Rattle.std.proofs.lemmas.List.Elements.{All-cons, All-nil}
use Rattle.binary_format.specs.Reading.{◌>>=◌}
use Rattle.text_lines.specs.Lines.{lines_of}
use Rattle.out_io.specs.Contents.{Contents}
use Rattle.iden_files.specs.File.{File}
use Rattle.cir_ast.specs.Program.{Program}
use Rattle.cir_compile.specs.Compiled.{IsWritten}
use Rattle.cir_meaning.specs.Scoped.{IsResolved}
use Rattle.cir_simplify.specs.declared.types.Level.{Level}
use Rattle.wit_input.specs.Input.{input_of}
use Rattle.circom_words.specs.Words.{Options}
use Rattle.circom_lines.specs.RunLines.{log_text, stop_line}
use Rattle.circom_lines.specs.Lines.{refusal_line}
use Rattle.circom_lines.specs.declared.answer.Refusal.{Refusal}
use Rattle.circom_files.specs.Files.{bytes_in}
use Rattle.circom_files.specs.Reply.{Reply, Says, said}
use Rattle.circom_files.specs.Running.{accepted_input, witnessed}
use Rattle.circom_files.specs.declared.outcome.Ran.{Ran}
use Rattle.circom_files.specs.declared.outcome.Ran.TheVariants.{Ended, Halted}
use Rattle.circom_batch.specs.Items.{batch_bytes}
use Rattle.circom_batch.specs.declared.item.Item.{Item}
use Rattle.circom_gold.specs.Batch.{Batches, GivesLine, HasBatch, HasValues, IsBatchOf, IsBatched}
use Rattle.circom_gold.specs.Batch.{IsItem, RunsOn, SaysItem, batched, item_of}
use Rattle.circom_gold.specs.Compile.{LoadsAgain}
use Rattle.circom_gold.specs.Witness.{GivesInput, IsSource, Witnesses}
use Rattle.circom_gold.proofs.Batching.{alone, as_given}
use Rattle.circom_gold.proofs.OneBatch.{one_batch}
use Rattle.circom_gold.proofs.OneRun.{one_witness}
use Rattle.circom_gold.proofs.Sourcing.{input_is}
use Rattle.circom_gold.proofs.WitnessLaws.{resolved_in, run_read, run_satisfied}

-- the file of values of a line is read as values that satisfy the file of constraints
module _ (level : Level) (p : Program) (f : File) (resolved : IsResolved p)
    (written : IsWritten p level f) (fuel : ℕ) where
  has_values : (line : List ℕ) (item : Item) → IsItem p f fuel line item → HasValues f item
  has_values line item (Ok (Ended values log), (inputs, g, run), is) =
      subst (HasValues f) (sym is) (
        values,
        run_read (alone line) [] level p f resolved written fuel inputs
            (as_given line p (Ok (1 ∷ inputs)) g) values log run,
        run_satisfied (alone line) [] level p f resolved written fuel inputs
            (as_given line p (Ok (1 ∷ inputs)) g) values log run,
      )
  has_values line item (Ok (Halted h), on, is) = subst (HasValues f) (sym is) tt
  has_values line item (Err refusal, on, is) = subst (HasValues f) (sym is) tt

  all_have : (lines : List (List ℕ)) (items : List Item) → AllZip (IsItem p f fuel) lines items
      → All (HasValues f) items
  all_have [] [] h = All-nil (HasValues f)
  all_have [] (i ∷ items) h = absurd h
  all_have (l ∷ ls) [] h = absurd h
  all_have (l ∷ ls) (i ∷ items) h =
      All-cons (HasValues f) i items (has_values l i h.0) (all_have ls items h.1)

module _ (files : Contents) (source inputs out : List ℕ) (options : Options) (fuel : ℕ) where
  abbrev Answered : Reply → Type 0
  Answered r = Says (batched out) (λ found. Batches files source inputs options fuel found) r

  pub is_batch : (items : List Item) → IsBatched files source inputs options fuel items
      → IsBatchOf files source inputs options fuel (batch_bytes items)
  is_batch items b = record {
    items = items;
    found = b;
    spelled = refl;
    satisfied = all_have options.level b.program b.file
        (resolved_in files source options b.program b.file b.compiled) b.compiled.written fuel
        (lines_of b.text) items b.each;
  }

  one_answer : (items : List Item) (r : Reply) → Answered r
      → IsBatched files source inputs options fuel items → r ≡ batched out items
  one_answer items r (other, x, e) y =
      e ∙ ap (said (batched out))
      (one_batch files source inputs options fuel other (Ok items) x y)

  -- a reply with the status 0 to what was found
  ended : (found : Result (List Item) Refusal) → Batches files source inputs options fuel found
      → (said (batched out) found).status ≡ 0 → HasBatch files source inputs options fuel
  ended (Ok items) x e = record { items = items; found = x }
  ended (Err refusal) x e = let bad : 1 ≡ 0 = e in absurd (omega (arith, bad))

  pub status_of : (r : Reply) → Answered r
      → (r.status ≡ 0) ↔ HasBatch files source inputs options fuel
  status_of r (found, x, e) = (
    λ done. ended found x (sym (ap (λ (s : Reply). s.status) e) ∙ done),
    λ has. ap (λ (s : Reply). s.status) (one_answer has.items r (found, x, e) has.found),
  )

  -- the reply that says so writes them
  pub written_batch : (r : Reply) → Answered r → r.status ≡ 0
      → (bytes : List ℕ) × (r.file ≡ Some (record { name = out; bytes = bytes }))
      × IsBatchOf files source inputs options fuel bytes
  written_batch r answered done =
      let has = (status_of r answered).0 done in (
        batch_bytes has.items,
        ap (λ (s : Reply). s.file) (one_answer has.items r answered has.found),
        is_batch has.items has.found,
      )

-- ---- `witness` on a line

bytes_read : (given : Contents) (input line : List ℕ) → given input ≡ Some line
    → bytes_in given input ≡ Ok line
bytes_read given input line there = ap (λ (o : Option (List ℕ)). bytes_in (λ n. o) input) there

module _ (given : Contents) (source input out line : List ℕ) (options : Options) (fuel : ℕ)
    (p : Program) (f : File) (compiled : IsSource given source options p f)
    (there : given input ≡ Some line) where
  as_input : (found : Result (List ℕ) Refusal) → GivesLine line p found
      → GivesInput given input p found
  as_input found g = record {
    inputs = g.inputs;
    has = g.has;
    reads =
        input_is given input g.inputs
        ∙ ap (λ (b : Result (List ℕ) Refusal). b >>= λ bytes.
        accepted_input g.inputs (input_of bytes g.inputs)) (bytes_read given input line there)
        ∙ g.reads;
  }

  as_witness : (found : Result Ran Refusal) → RunsOn p f fuel line found
      → Witnesses given source input options fuel found
  as_witness (Ok r) (inputs, g, run) = record {
    program = p;
    file = f;
    compiled = compiled;
    inputs = inputs;
    given = as_input (Ok (1 ∷ inputs)) g;
    run = run;
  }
  as_witness (Err refusal) g = inr record {
    program = p;
    file = f;
    compiled = compiled;
    given = as_input (Err refusal) g;
  }

  says : (found : Result Ran Refusal) → SaysItem out (said (witnessed out) found) (item_of found)
  says (Ok (Ended values log)) = (refl, refl)
  says (Ok (Halted h)) = (refl, refl, (log_text h.log, stop_line h.stop h.place, refl, refl))
  says (Err refusal) = (refl, refl, ([], refusal_line refusal, refl, refl))

  says_item : (item : Item) (r : Reply) → IsItem p f fuel line item
      → Says (witnessed out) (λ found. Witnesses given source input options fuel found) r
      → SaysItem out r item
  says_item item r (found, on, is) (other, x, e) =
      let same : r ≡ said (witnessed out) found =
      e ∙ ap (said (witnessed out))
      (one_witness given source input options fuel other found x (as_witness found on)) in
      subst (λ (s : Reply). SaysItem out s item) (sym same)
      (subst (SaysItem out (said (witnessed out) found)) (sym is) (says found))

-- the item at a place is that of the line at the place
module _ (P : List ℕ → Item → Type 0) where
  item_at : (lines : List (List ℕ)) (items : List Item) (i : ℕ) (line : List ℕ)
      → AllZip P lines items → slice_get lines i ≡ Some line
      → IsSomeAnd (slice_get items i) (P line)
  item_at [] items i line h is = cc
  item_at (l ∷ ls) [] i line h is = absurd h
  item_at (l ∷ ls) (x ∷ items) zero line h is =
      let same : l ≡ line = cc in subst (λ (t : List ℕ). P t x) same h.0
  item_at (l ∷ ls) (x ∷ items) (suc i) line h is = item_at ls items i line h.1 is

some_weaker : {A : Type 0} (P Q : A → Type 0) (o : Option A) → ((x : A) → P x → Q x)
    → IsSomeAnd o P → IsSomeAnd o Q
some_weaker P Q (Some x) f h = f x h
some_weaker P Q None f h = absurd h

pub each_as_witness : (files given : Contents) (source inputs input out : List ℕ)
    (options : Options) (fuel : ℕ) (items : List Item)
    (b : IsBatched files source inputs options fuel items) → LoadsAgain files given source options
    → (i : ℕ) (line : List ℕ) → slice_get (lines_of b.text) i ≡ Some line
    → given input ≡ Some line → (r : Reply)
    → Says (witnessed out) (λ found. Witnesses given source input options fuel found) r
    → IsSomeAnd (slice_get items i) (SaysItem out r)
each_as_witness files given source inputs input out options fuel items b again i line at there r
    answered =
    let compiled : IsSource given source options b.program b.file =
    record {
      loaded = again b.program b.compiled.loaded;
      written = b.compiled.written;
    } in
    some_weaker (IsItem b.program b.file fuel line) (SaysItem out r) (slice_get items i)
    (λ item is. says_item given source input out line options fuel b.program b.file compiled there
    item r is answered)
    (item_at (IsItem b.program b.file fuel) (lines_of b.text) items i line b.each at)
