-- A source compiles to one file, or has one refusal.
use Rattle.std.proofs.Common.{◌≡◌, ◌∙◌, ℕ, List, Result, Ok, Err, None, inl, inr, ap}
use Rattle.std.proofs.Common.{sym}
use Rattle.out_io.specs.Contents.{Contents}
use Rattle.iden_files.specs.File.{File}
use Rattle.cir_ast.specs.declared.refusal.Refusal.{Refusal as SourceRefusal}
use Rattle.cir_compile.specs.Compiled.{IsRefused}
use Rattle.cir_compile.proofs.OneFile.{compiled_or_refused, one_file, one_refusal}
use Rattle.cir_compile.proofs.OneFile.{there_or_compiled, there_or_refused}
use Rattle.circom_words.specs.Words.{Options}
use Rattle.circom_lines.specs.declared.answer.Refusal.{Refusal}
use Rattle.circom_lines.specs.declared.answer.Refusal.TheVariants.{NoSuchFile, BadSource}
use Rattle.circom_gold.specs.Compile.{CompilesTo, IsUncompiled, task_of}

module _ (files : Contents) (source : List ℕ) (options : Options) where
  pub compiled_and_not : (f : File) (r : Refusal) → CompilesTo files source options (Ok f)
      → IsUncompiled files source options r → ⊥
  compiled_and_not f r a (inl none) =
      there_or_compiled files (task_of source options) f none.1 a
  compiled_and_not f r a (inr refused) =
      compiled_or_refused files (task_of source options) f refused.0 a refused.2

  there_and_refused : (r s : Refusal) → (r ≡ NoSuchFile source) × (files source ≡ None)
      → (x : SourceRefusal) × (s ≡ BadSource x)
      × IsRefused files (task_of source options) x → ⊥
  there_and_refused r s none refused =
      there_or_refused files (task_of source options) refused.0 none.1 refused.2

  pub one_uncompiled : (r s : Refusal) → IsUncompiled files source options r
      → IsUncompiled files source options s → r ≡ s
  one_uncompiled r s (inl a) (inl b) = a.0 ∙ sym b.0
  one_uncompiled r s (inl a) (inr b) = absurd (there_and_refused r s a b)
  one_uncompiled r s (inr a) (inl b) = absurd (there_and_refused s r b a)
  one_uncompiled r s (inr a) (inr b) =
      a.1
      ∙ ap (λ (x : SourceRefusal). BadSource x)
      (one_refusal files (task_of source options) a.0 b.0 a.2 b.2)
      ∙ sym b.1

  pub one_compiled : (x y : Result File Refusal) → CompilesTo files source options x
      → CompilesTo files source options y → x ≡ y
  one_compiled (Ok f) (Ok g) a b = ap Ok (one_file files (task_of source options) f g a b)
  one_compiled (Ok f) (Err r) a b = absurd (compiled_and_not f r a b)
  one_compiled (Err r) (Ok g) a b = absurd (compiled_and_not g r b a)
  one_compiled (Err r) (Err s) a b =
      ap (λ (x : Refusal). Err x) (one_uncompiled r s a b)
