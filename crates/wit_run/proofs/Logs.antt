-- The log lines of the steps before one are those of the code's lines with a smaller number.
use Rattle.std.proofs.Common.{◌≡◌, ◌≤◌, ℕ, zero, suc, ◌+◌, ◌<◌, List, [], ◌∷◌, ◌++◌, map, take}
use Rattle.std.proofs.Common.{length, get_or, Option, Some, None, Bool, cond, nat_lt, refl, sym}
use Rattle.std.proofs.Common.{◌∙◌, ap, arith}
use Rattle.std.specs.List.{filter}
use Rattle.std.proofs.lemmas.Bool.{lt-ltb, le-ltb, ne_eqb}
use Rattle.std.proofs.lemmas.List.{append-nil, append_assoc, map_more, map-append, take_more}
use Rattle.std.proofs.lemmas.List.{length-map, length-take-le}
use Rattle.std.proofs.lemmas.List.Elements.{filter-append}
use Rattle.cir_meaning.specs.RunBodies.{log_line}
use Rattle.cir_steps.specs.Step.{Step, LogPart as Part, Text, Logged}
use Rattle.cir_steps.specs.RunSteps.{with_line, part_text as text_of}
use Rattle.wit_flow.specs.Cells.{Cells}
use Rattle.wit_circuit.specs.declared.code.LogLine.{LogLine}
use Rattle.wit_circuit.specs.declared.code.LogPart.{LogPart}
use Rattle.wit_circuit.specs.Ending.{lines_of}
use Rattle.wit_circuit.specs.Whole.{part_of, line_of, log_of, logs_from}
use Rattle.wit_run.specs.Lines.{behind_space, part_text, line_text, lines_before}

parts_same : (cells : Cells) (parts : List Part)
    → map (part_text cells) (map part_of parts) ≡ map (text_of cells) parts
parts_same cells [] = refl
parts_same cells (Text text ∷ rest) = ap (λ ts. text ∷ ts) (parts_same cells rest)
parts_same cells (Logged c ∷ rest) =
    ap (λ ts. text_of cells (Logged c) ∷ ts) (parts_same cells rest)

abbrev before : ℕ → List LogLine → List LogLine
before m logs = filter (λ (l : LogLine). nat_lt l.step m) logs

abbrev made : ℕ → List Part → LogLine
made n parts = record { step = n; parts = map part_of parts }

-- lines of later steps
none_with : (m n : ℕ) → m ≤ n → (line : Option (List Part)) (logs : List LogLine)
    → before m logs ≡ [] → before m (log_of n (line_of line) logs) ≡ []
none_with m n far None logs e = e
none_with m n far (Some parts) logs e =
    ap (λ (b : Bool). cond b (made n parts ∷ before m logs) (before m logs)) (le-ltb n m far) ∙ e

none : (m n : ℕ) → m ≤ n → (ss : List Step) → before m (logs_from n ss) ≡ []
none m n far [] = refl
none m n far (s ∷ ss) =
    none_with m n far s.line (logs_from (n + 1) ss) (none m (n + 1) (omega arith) ss)

-- one more line
more : (cells : Cells) (m n : ℕ) → n < m → (line : Option (List Part)) (logs : List LogLine)
    (log : List (List ℕ)) → with_line cells line log ++ lines_before m cells logs
    ≡ log ++ lines_before m cells (log_of n (line_of line) logs)
more cells m n near None logs log = refl
more cells m n near (Some parts) logs log =
    let rest = lines_before m cells logs in
    append_assoc log (log_line (map (text_of cells) parts) ∷ []) rest
    ∙ ap (λ t. log ++ (log_line t ∷ rest)) (sym (parts_same cells parts))
    ∙ ap (λ (b : Bool). log ++ map (λ (l : LogLine). line_text cells l.parts)
    (cond b (made n parts ∷ before m logs) (before m logs))) (sym (lt-ltb n m near))

pub lines_are : (cells : Cells) (ss : List Step) (n k : ℕ) (log : List (List ℕ))
    → lines_of cells (take k ss) log ≡ log ++ lines_before (n + k) cells (logs_from n ss)
lines_are cells [] n zero log = sym (append-nil log)
lines_are cells [] n (suc k) log = sym (append-nil log)
lines_are cells (s ∷ ss) n zero log =
    sym (append-nil log)
    ∙ ap (λ ls. log ++ map (λ (l : LogLine). line_text cells l.parts) ls)
    (sym (none (n + 0) n (omega arith) (s ∷ ss)))
lines_are cells (s ∷ ss) n (suc k) log =
    lines_are cells ss (n + 1) k (with_line cells s.line log)
    ∙ ap (λ m. with_line cells s.line log ++ lines_before m cells (logs_from (n + 1) ss)) next
    ∙ more cells (n + suc k) n (omega arith) s.line (logs_from (n + 1) ss) log
  where
    next : n + 1 + k ≡ n + suc k
    next = omega arith

-- a part more, and a line more
line_push : (ws : List (List ℕ)) (w : List ℕ)
    → log_line (ws ++ w ∷ []) ≡ log_line ws ++ behind_space (length ws) w
line_push [] w = refl
line_push (v ∷ []) w = refl
line_push (v ∷ (u ∷ us)) w =
    ap (λ t. v ++ (32 ∷ t)) (line_push (u ∷ us) w)
    ∙ ap (λ t. v ++ (32 ∷ (log_line (u ∷ us) ++ t))) (spaced (length us))
    ∙ sym (append_assoc v (32 ∷ log_line (u ∷ us)) (32 ∷ w))
    ∙ ap (λ t. (v ++ (32 ∷ log_line (u ∷ us))) ++ t) (sym (spaced (suc (length us))))
  where
    spaced : (n : ℕ) → behind_space (suc n) w ≡ 32 ∷ w
    spaced n = ap (λ (b : Bool). cond b w (32 ∷ w))
        (ne_eqb (suc n) 0 (λ e. absurd (omega (arith, e))))

pub line_more : (cells : Cells) (parts : List LogPart) (i : ℕ) (part : LogPart) → i < length parts
    → part ≡ get_or parts i part → line_text cells (take (i + 1) parts)
    ≡ line_text cells (take i parts) ++ behind_space i (part_text cells part)
line_more cells parts i part near is =
    let text = part_text cells in
    ap log_line (map_more text parts i part near)
    ∙ line_push (map text (take i parts)) (text (get_or parts i part))
    ∙ (λ j. line_text cells (take i parts) ++ behind_space (wide j) (text (is' j)))
  where
    wide : length (map (part_text cells) (take i parts)) ≡ i
    wide = length-map (take i parts) (part_text cells)
        ∙ length-take-le i parts (omega arith)

    is' : get_or parts i part ≡ part
    is' = sym is

pub lines_more : (step : ℕ) (cells : Cells) (logs : List LogLine) (i : ℕ) (log : LogLine)
    → i < length logs → log ≡ get_or logs i log → lines_before step cells (take (i + 1) logs)
    ≡ lines_before step cells (take i logs) ++ lines_before step cells (log ∷ [])
lines_more step cells logs i log near is =
    let text : LogLine → List ℕ = λ l. line_text cells l.parts in
    ap (lines_before step cells) (take_more logs i log near)
    ∙ ap (λ l. lines_before step cells (take i logs ++ l ∷ [])) (sym is)
    ∙ ap (map text) (filter-append (λ (l : LogLine). nat_lt l.step step) (take i logs) (log ∷ []))
    ∙ map-append text (before step (take i logs)) (before step (log ∷ []))
