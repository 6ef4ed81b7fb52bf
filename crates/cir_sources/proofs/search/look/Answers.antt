use Rattle.std.proofs.Common.{string_bytes, subst, sym}
use Rattle.std.specs.Str.{IsUtf8}
use Rattle.std.proofs.lemmas.Map.Text.{btree_set_updates_text}
use Rattle.out_io.proofs.Asking.{read_once}
use Rattle.cir_sources.proofs.Searching.{learns_found, learns_missing, no_text}
use Rattle.cir_sources.proofs.search.look.Goals as goal

pub returns-in_default-clause-looks : goal.returns-in_default-clause-looks
returns-in_default-clause-looks g c =
    λ files missing. no_text files c.args.name.now c.in_default.ensures.cases.0

pub returns-in_ok-insert-in-None-clause-learns : goal.returns-in_ok-insert-in-None-clause-learns
returns-in_ok-insert-in-None-clause-learns g c =
    learns_missing c.args.missing.now c.insert.new.self
    (rw c.in_ok-name-in-None.ensures.ok at (btree_set_updates_text
    (string_bytes c.in_ok-name-in-None.name) c.args.missing.now c.insert.new.self _
    c.in_ok-insert-in-None.ensures.updates))
    record {
      still = c.read.ensures.still;
      found = rw c.in-None.is at c.in_ok-read.ensures.there;
    }

pub returns-in_ok-name-in-Some-clause-learns : goal.returns-in_ok-name-in-Some-clause-learns
returns-in_ok-name-in-Some-clause-learns g c =
    learns_found c.args.missing.now c.in_ok-name-in-Some.name c.in-Some.bytes
    (subst IsUtf8 (sym c.in-Ok.ensures.cases.0) c.in-Ok.ensures.cases.1)
    c.in_ok-name-in-Some.ensures.ok
    record {
      still = c.read.ensures.still;
      found = rw c.in-Some.is at c.in_ok-read.ensures.there;
    }

pub returns-in_err-read-clause-asked : goal.returns-in_err-read-clause-asked
returns-in_err-read-clause-asked g c =
    read_once _ c.read.result c.read.ensures.asked c.read.ensures.there c.read.ensures.still
    c.read.ensures.again

pub returns-in_err-name-in-None-clause-asked : goal.returns-in_err-name-in-None-clause-asked
returns-in_err-name-in-None-clause-asked g c =
    read_once _ c.read.result c.read.ensures.asked c.read.ensures.there c.read.ensures.still
    c.read.ensures.again

pub returns-in_err-insert-in-None-clause-asked : goal.returns-in_err-insert-in-None-clause-asked
returns-in_err-insert-in-None-clause-asked g c =
    read_once _ c.read.result c.read.ensures.asked c.read.ensures.there c.read.ensures.still
    c.read.ensures.again

pub returns-in_err-name-in-Some-clause-asked : goal.returns-in_err-name-in-Some-clause-asked
returns-in_err-name-in-Some-clause-asked g c =
    read_once _ c.read.result c.read.ensures.asked c.read.ensures.there c.read.ensures.still
    c.read.ensures.again

pub returns-in_ok-insert-in-None-clause-asked : goal.returns-in_ok-insert-in-None-clause-asked
returns-in_ok-insert-in-None-clause-asked g c =
    read_once _ c.read.result c.read.ensures.asked c.read.ensures.there c.read.ensures.still
    c.read.ensures.again

pub returns-in_ok-name-in-Some-clause-asked : goal.returns-in_ok-name-in-Some-clause-asked
returns-in_ok-name-in-Some-clause-asked g c =
    read_once _ c.read.result c.read.ensures.asked c.read.ensures.there c.read.ensures.still
    c.read.ensures.again
