-- What `batch` finds is one.
use Rattle.std.proofs.Common.{◌≡◌, ◌∙◌, ℕ, ◌*◌, ◌+◌, inl}
use Rattle.std.proofs.Common.{inr, List, [], ◌∷◌, length}
use Rattle.std.proofs.Common.{Result, Ok, Err, refl, ap, ap₂, arith, subst, sym}
use Rattle.std.specs.List.{AllZip}
use Rattle.text_lines.specs.Lines.{lines_of}
use Rattle.out_io.specs.Contents.{Contents}
use Rattle.iden_files.specs.File.{File}
use Rattle.cir_ast.specs.Program.{Program}
use Rattle.cir_steps.specs.Circuit.{Circuit, circuit_of}
use Rattle.circom_words.specs.Words.{Options}
use Rattle.circom_lines.specs.declared.answer.Refusal.{Refusal}
use Rattle.circom_lines.specs.declared.answer.Refusal.TheVariants.{LargeBatch}
use Rattle.circom_files.specs.Files.{bytes_in}
use Rattle.circom_files.specs.declared.outcome.Ran.{Ran}
use Rattle.circom_batch.specs.declared.item.Item.{Item}
use Rattle.circom_gold.specs.Batch.{Batches, Counts, GivesLine, IsBatched, IsItem}
use Rattle.circom_gold.specs.Batch.{IsUnbatched, RunsOn, item_of}
use Rattle.circom_gold.specs.Witness.{IsRunOf}
use Rattle.circom_gold.proofs.Batching.{alone, as_given}
use Rattle.circom_gold.proofs.OneRun.{err_same, ok_or_err, ok_same, one_given, one_refused_source}
use Rattle.circom_gold.proofs.OneRun.{one_run, one_source, one_source_file, source_or_refused}

module _ (p : Program) (f : File) (fuel : ℕ) (line : List ℕ) where
  abbrev same_given : (x y : Result (List ℕ) Refusal) → GivesLine line p x
      → GivesLine line p y → x ≡ y
  same_given x y a b =
      one_given (alone line) [] p p x y refl (as_given line p x a) (as_given line p y b)

  one_found : (x y : Result Ran Refusal) → RunsOn p f fuel line x → RunsOn p f fuel line y
      → x ≡ y
  one_found (Ok r) (Ok s) (ns, a, run) (ms, b, other) =
      let given : Ok (1 ∷ ns) ≡ Ok (1 ∷ ms) =
      same_given (Ok (1 ∷ ns)) (Ok (1 ∷ ms)) a b in
      let numbers : ns ≡ ms = cc in
      ap Ok (one_run p fuel ms f r s (subst (λ (l : List ℕ). IsRunOf p f fuel l r) numbers run)
      other)
  one_found (Ok r) (Err s) (ns, a, run) b =
      let given : Ok (1 ∷ ns) ≡ Err s = same_given (Ok (1 ∷ ns)) (Err s) a b in cc
  one_found (Err r) (Ok s) a (ms, b, run) =
      let given : Err r ≡ Ok (1 ∷ ms) = same_given (Err r) (Ok (1 ∷ ms)) a b in cc
  one_found (Err r) (Err s) a b =
      let given : Err r ≡ Err s = same_given (Err r) (Err s) a b in
      let same : r ≡ s = cc in ap (λ (x : Refusal). Err x) same

  pub one_item : (a b : Item) → IsItem p f fuel line a → IsItem p f fuel line b → a ≡ b
  one_item a b x y = x.2 ∙ ap item_of (one_found x.0 y.0 x.1 y.1) ∙ sym y.2

one_items : (p : Program) (f : File) (fuel : ℕ) (lines : List (List ℕ)) (xs ys : List Item)
    → AllZip (IsItem p f fuel) lines xs → AllZip (IsItem p f fuel) lines ys → xs ≡ ys
one_items p f fuel [] [] [] a b = refl
one_items p f fuel [] (x ∷ xs) ys a b = absurd a
one_items p f fuel [] [] (y ∷ ys) a b = absurd b
one_items p f fuel (l ∷ ls) [] ys a b = absurd a
one_items p f fuel (l ∷ ls) (x ∷ xs) [] a b = absurd b
one_items p f fuel (l ∷ ls) (x ∷ xs) (y ∷ ys) a b =
    ap₂ (λ (z : Item) (zs : List Item). z ∷ zs) (one_item p f fuel l x y a.0 b.0)
    (one_items p f fuel ls xs ys a.1 b.1)

one_size : (p : Program) (lines a b : ℕ) → Counts p lines a → Counts p lines b → a ≡ b
one_size p lines a b x y =
    x.counted
    ∙ ap (λ (c : Circuit). lines * (c.cells + length c.steps + 64))
    (ok_same (circuit_of p) x.circuit y.circuit x.emitted y.emitted)
    ∙ sym y.counted

module _ (files : Contents) (source inputs : List ℕ) (options : Options) (fuel : ℕ) where
  one_text : (a b : List ℕ) → bytes_in files inputs ≡ Ok a → bytes_in files inputs ≡ Ok b
      → a ≡ b
  one_text a b x y = ok_same (bytes_in files inputs) a b x y

  -- the sizes of lines of two readings
  one_size_in : (p q : Program) (a b : List ℕ) (m n : ℕ) → p ≡ q → a ≡ b
      → Counts p (length (lines_of a)) m → Counts q (length (lines_of b)) n → m ≡ n
  one_size_in p q a b m n same text x y =
      one_size q (length (lines_of b)) m n
      (subst (λ (r : Program). Counts r (length (lines_of b)) m) same
      (subst (λ (t : List ℕ). Counts p (length (lines_of t)) m) text x)) y

  one_batched : (xs ys : List Item) → IsBatched files source inputs options fuel xs
      → IsBatched files source inputs options fuel ys → xs ≡ ys
  one_batched xs ys x y =
      let program = one_source files source options x.program y.program x.file y.file
      x.compiled y.compiled in
      let file = one_source_file files source options x.program y.program x.file y.file
      x.compiled y.compiled in
      let text = one_text x.text y.text x.read y.read in
      one_items y.program y.file fuel (lines_of y.text) xs ys
      (subst (λ (t : List ℕ). AllZip (IsItem y.program y.file fuel) (lines_of t) xs) text
      (subst (λ (f : File). AllZip (IsItem y.program f fuel) (lines_of x.text) xs) file
      (subst (λ (p : Program). AllZip (IsItem p x.file fuel) (lines_of x.text) xs) program
      x.each))) y.each

  batched_or_not : (xs : List Item) (r : Refusal)
      → IsBatched files source inputs options fuel xs
      → IsUnbatched files source inputs options r → ⊥
  batched_or_not xs r x y = elim y.why [
    | inl none ↦ ok_or_err (bytes_in files inputs) x.text r x.read none
    | inr large ↦
        let size = one_size_in x.program y.program x.text large.text x.size large.size
        (one_source files source options x.program y.program x.file y.file x.compiled y.compiled)
        (one_text x.text large.text x.read large.read) x.counts large.counts in
        let few = x.few in
        let many = large.many in
        omega arith
  ]

  one_unbatched : (r s : Refusal) → IsUnbatched files source inputs options r
      → IsUnbatched files source inputs options s → r ≡ s
  one_unbatched r s x y = elim x.why [
    | inl none ↦ elim y.why [
      | inl other ↦ err_same (bytes_in files inputs) r s none other
      | inr large ↦ absurd (ok_or_err (bytes_in files inputs) large.text r large.read none)
    ]
    | inr large ↦ elim y.why [
      | inl none ↦ absurd (ok_or_err (bytes_in files inputs) large.text s large.read none)
      | inr other ↦
          large.is
          ∙ ap LargeBatch (one_size_in x.program y.program large.text other.text large.size
          other.size
          (one_source files source options x.program y.program x.file y.file x.compiled y.compiled)
          (one_text large.text other.text large.read other.read) large.counts other.counts)
          ∙ sym other.is
    ]
  ]

  pub one_batch : (x y : Result (List Item) Refusal) → Batches files source inputs options fuel x
      → Batches files source inputs options fuel y → x ≡ y
  one_batch (Ok a) (Ok b) x y = ap Ok (one_batched a b x y)
  one_batch (Ok a) (Err s) x (inl y) =
      absurd (source_or_refused files source options x.program x.file s x.compiled y)
  one_batch (Ok a) (Err s) x (inr y) = absurd (batched_or_not a s x y)
  one_batch (Err r) (Ok b) (inl x) y =
      absurd (source_or_refused files source options y.program y.file r y.compiled x)
  one_batch (Err r) (Ok b) (inr x) y = absurd (batched_or_not b r y x)
  one_batch (Err r) (Err s) (inl x) (inl y) =
      ap Err (one_refused_source files source options r s x y)
  one_batch (Err r) (Err s) (inl x) (inr y) =
      absurd (source_or_refused files source options y.program y.file r y.compiled x)
  one_batch (Err r) (Err s) (inr x) (inl y) =
      absurd (source_or_refused files source options x.program x.file s x.compiled y)
  one_batch (Err r) (Err s) (inr x) (inr y) = ap Err (one_unbatched r s x y)
