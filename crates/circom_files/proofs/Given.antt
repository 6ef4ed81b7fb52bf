-- What is put whole is a front of itself.
use Rattle.std.proofs.Common.{◌≡◌, ◌∙◌, ◌++◌, ℕ, List, length, Ok, ap}
use Rattle.std.proofs.Common.{inl, sym}
use Rattle.std.proofs.Math.Seq.{take-length}
use Rattle.out_io.specs.History.{Appended}
use Rattle.circom_files.specs.Given.{IsFront, Puts}
use Rattle.out_io.specs.Held.{Becomes}
use Rattle.circom_files.specs.Reply.{Reply}

front_of_all : (bytes before text : List ℕ) → text ≡ before ++ bytes
    → IsFront bytes before text
front_of_all bytes before text is =
    (length bytes, is ∙ ap (λ (xs : List ℕ). before ++ xs) (sym (take-length bytes)))

pub put_whole : (r : Reply) (failed : Type 0) (status : ℕ) (bytes : List ℕ)
    (before now : List ℕ → Type 0) → bytes ≡ r.text → status ≡ r.status
    → Becomes (Appended (Ok tt) bytes) before now
    → Becomes (Puts r failed (Ok status)) before now
put_whole r failed status bytes before now same is appended = λ text may.
    let a = appended text may in
    let put : text ≡ a.0 ++ r.text = a.2.ok ∙ ap (λ (b : List ℕ). a.0 ++ b) same in
    (a.0, a.1, record { whole = inl (is, put); front = front_of_all r.text a.0 text put })
