-- What a reply to `compile` means.
use Rattle.std.proofs.Common.{◌≡◌, ◌↔◌, ℕ, List, Some, Result, Ok, Err, ap, arith}
use Rattle.std.proofs.Common.{refl}
use Rattle.out_io.specs.Contents.{Contents}
use Rattle.iden_files.specs.File.{File}
use Rattle.cir_compile.specs.Compiled.{IsCompiled}
use Rattle.circom_files.specs.Reply.{Reply, said}
use Rattle.circom_words.specs.Words.{Options, compile}
use Rattle.circom_lines.specs.declared.answer.Refusal.{Refusal}
use Rattle.circom_gold.specs.Compile.{CompilesTo, task_of}
use Rattle.circom_gold.specs.Reply.{Answers, constraints_written}
use Rattle.circom_gold.proofs.OneReply.{one_reply}

pub reply_of : (files : Contents) (source out : List ℕ) (options : Options) (r : Reply)
    (found : Result File Refusal) → Answers files (Some (compile source out options)) r
    → CompilesTo files source options found → r ≡ said (constraints_written out) found
reply_of files source out options r found answers is =
    one_reply files (Some (compile source out options)) r
    (said (constraints_written out) found) answers
    (found, is, refl)

pub status_of : (files : Contents) (source out : List ℕ) (options : Options) (r : Reply)
    → Answers files (Some (compile source out options)) r
    → (r.status ≡ 0) ↔ ((f : File) × IsCompiled files (task_of source options) f)
status_of files source out options r answers = (
  compiles answers.0 answers.1 answers.2,
  λ found. ap (λ (s : Reply). s.status)
      (reply_of files source out options r (Ok found.0) answers found.1),
)
  where
    compiles : (found : Result File Refusal) → CompilesTo files source options found
        → r ≡ said (constraints_written out) found → r.status ≡ 0
        → (f : File) × IsCompiled files (task_of source options) f
    compiles (Ok f) is same zero = (f, is)
    compiles (Err refusal) is same zero =
        let one : r.status ≡ 1 = ap (λ (s : Reply). s.status) same in absurd (omega arith)
