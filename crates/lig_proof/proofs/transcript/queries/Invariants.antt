use Rattle.std.proofs.Common.{◌≡◌, ◌*◌, ◌%◌, map}
use Rattle.std.specs.List.{range_with_len}
use Rattle.rand_chacha.specs.ChaCha.{ChaCha, key_of}
use Rattle.lig_proof.specs.Transcript.{second_key, key_word}
use Rattle.lig_proof.proofs.transcript.queries.Given as goal

-- one word has been drawn for each column so far
abbrev pub invariant-loop : goal.invariant-loop
invariant-loop l =
    (◌≡◌ {A = ChaCha} l.words
    (record { key = key_of (second_key l.first l.polys); stream = 0; word_pos = l.counter }))
    × (l.opened.items ≡ map (λ q. key_word (second_key l.first l.polys) q % (8 * l.params.l))
    (range_with_len 0 l.counter))
