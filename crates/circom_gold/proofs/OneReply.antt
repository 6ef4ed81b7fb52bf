-- The files decide the reply.
use Rattle.std.proofs.Common.{◌≡◌, ◌∙◌, ℕ, List, Option, Some, None, Result, ap, inl}
use Rattle.std.proofs.Common.{inr, subst, sym}
use Rattle.out_io.specs.Contents.{Contents}
use Rattle.circom_words.specs.Words.{Command, check, check_named, compile, witness, prove}
use Rattle.circom_words.specs.Words.{public, audit, name_signals, batch, confirm, determine}
use Rattle.circom_words.specs.Words.{generate}
use Rattle.circom_lines.specs.declared.answer.Refusal.{Refusal}
use Rattle.cir_determined.specs.declared.rule.Answer.{Answer}
use Rattle.circom_files.proofs.Certified.{one_confirm, one_search, shown_written}
use Rattle.circom_files.proofs.Once.{one_outcome, one_audit}
use Rattle.circom_files.specs.Check.{check_of}
use Rattle.circom_files.specs.Determining.{Confirms, Searches}
use Rattle.circom_named.specs.Named.{check_named_of}
use Rattle.circom_files.specs.Proving.{Audits, Proves, public_of}
use Rattle.circom_files.specs.Reply.{Reply, Says, audited, checked, checked_by_name, confirmed}
use Rattle.circom_files.specs.Reply.{determined, proved, published, said}
use Rattle.circom_files.specs.Running.{witnessed, generated}
use Rattle.circom_gold.specs.Batch.{Batches, batched}
use Rattle.circom_gold.specs.Compile.{CompilesTo}
use Rattle.circom_gold.specs.Witness.{Witnesses, Generates}
use Rattle.circom_gold.proofs.OneBatch.{one_batch}
use Rattle.circom_gold.proofs.OneCompiled.{one_compiled}
use Rattle.circom_gold.specs.Symbols.{NamesTo, names_written}
use Rattle.circom_gold.proofs.SymbolLines.{one_named}
use Rattle.circom_gold.proofs.OneRun.{one_witness, one_generated}
use Rattle.circom_gold.specs.Reply.{Answers, AreAlike, AreOne, constraints_written}

-- what is said is one where what is found is one
one_said : {X : Type 0} (reply : X → Reply) (Finds : Result X Refusal → Type 0) (a b : Reply)
    → ((x y : Result X Refusal) → Finds x → Finds y → x ≡ y) → Says reply Finds a
    → Says reply Finds b → a ≡ b
one_said reply Finds a b one p q =
    p.2 ∙ ap (λ (x : Result _ Refusal). said reply x) (one p.0 q.0 p.1 q.1) ∙ sym q.2

-- what `determine` finds is one but for the rules
module _ (files : Contents) (r1cs out : List ℕ) where
  same_reply : (a b : Reply) → a ≡ b → AreAlike files r1cs out a b
  same_reply a b e = record {
    status = ap (λ (x : Reply). x.status) e;
    text = ap (λ (x : Reply). x.text) e;
    file = inl (ap (λ (x : Reply). x.file) e);
  }

  alike : (a b : Reply) (x y : Result Answer Refusal) → Searches files r1cs x
      → Searches files r1cs y → a ≡ said (determined out) x → b ≡ said (determined out) y
      → AreAlike files r1cs out a b
  alike a b x y p q e f = elim (one_search files r1cs x y p q) [
    | inl same ↦ same_reply a b (e ∙ ap (said (determined out)) same ∙ sym f)
    | inr shown ↦
        let d = e ∙ ap (said (determined out)) shown.2 in
        let g = f ∙ ap (said (determined out)) shown.3 in
        record {
          status = ap (λ (r : Reply). r.status) d ∙ sym (ap (λ (r : Reply). r.status) g);
          text = ap (λ (r : Reply). r.text) d ∙ sym (ap (λ (r : Reply). r.text) g);
          file = inr (
            shown_written files r1cs out shown.0 a
                (subst (Searches files r1cs) shown.2 p) d,
            shown_written files r1cs out shown.1 b
                (subst (Searches files r1cs) shown.3 q) g,
          );
        }
  ]

pub one_reply : (files : Contents) (command : Option Command) (a b : Reply)
    → Answers files command a → Answers files command b → AreOne command files a b
one_reply files None a b p q = p ∙ sym q
one_reply files (Some (check r1cs wtns)) a b p q =
    one_said checked (λ found. check_of files r1cs wtns ≡ found) a b
    (λ x y e f. sym e ∙ f) p q
one_reply files (Some (check_named r1cs wtns names)) a b p q =
    one_said checked_by_name (λ found. check_named_of files r1cs wtns names ≡ found) a b
    (λ x y e f. sym e ∙ f) p q
one_reply files (Some (compile source out options)) a b p q =
    one_said (constraints_written out) (λ found. CompilesTo files source options found) a b
    (one_compiled files source options) p q
one_reply files (Some (witness source input out options running)) a b p q =
    one_said (witnessed out)
    (λ found. Witnesses files source input options running.fuel found) a b
    (one_witness files source input options running.fuel) p q
one_reply files (Some (generate seed size running)) a b p q =
    one_said (generated size) (λ found. Generates seed size running.fuel found) a b
    (one_generated seed size running.fuel) p q
one_reply files (Some (prove r1cs wtns out options)) a b p q =
    one_said (proved out) (λ found. Proves files r1cs wtns options found) a b
    (one_outcome files r1cs wtns options) p q
one_reply files (Some (public r1cs wtns out)) a b p q =
    one_said (published out) (λ found. public_of files r1cs wtns ≡ found) a b
    (λ x y e f. sym e ∙ f) p q
one_reply files (Some (audit r1cs publics proof)) a b p q =
    one_said audited (λ found. Audits files r1cs publics proof found) a b
    (one_audit files r1cs publics proof) p q
one_reply files (Some (name_signals source out options)) a b p q =
    one_said (names_written out) (λ found. NamesTo files source options found) a b
    (one_named files source options) p q
one_reply files (Some (batch source inputs out options running)) a b p q =
    one_said (batched out)
    (λ found. Batches files source inputs options running.fuel found) a b
    (one_batch files source inputs options running.fuel) p q
one_reply files (Some (determine r1cs out)) a b p q =
    alike files r1cs out a b p.0 q.0 p.1 q.1 p.2 q.2
one_reply files (Some (confirm r1cs certificate)) a b p q =
    one_said confirmed (λ found. Confirms files r1cs certificate found) a b
    (one_confirm files r1cs certificate) p q
