use Rattle.std.proofs.Common.{◌≡◌, [], ◌∷◌, ap, arith, length, refl, string_bytes}
use Rattle.std.proofs.lemmas.List.{length-append, length-map}
use Rattle.std.proofs.lemmas.Result.{err_from_is_err_and}
use Rattle.cir_sources.specs.declared.search.Target.TheVariants.{Absent, Found}
use Rattle.cir_sources.specs.Includes.{seen}
use Rattle.cir_sources.specs.Faults.{most_files, IsFault, Absent as NoFile, Full, Fault}
use Rattle.cir_sources.specs.Steps.{all_of}
use Rattle.cir_sources.proofs.Steps.{skips, stops, loads}
use Rattle.cir_sources.proofs.loading.Loading.follow.Goals as goal

pub returns-in-Loaded-clause-follows : goal.returns-in-Loaded-clause-follows
returns-in-Loaded-clause-follows g c = λ name loading.
    skips c.args.self.now c.in_ok-search.ensures.learns c.in_ok-search.ensures.targets loading
    c.in-Loaded.is

pub returns-in-Absent-clause-follows : goal.returns-in-Absent-clause-follows
returns-in-Absent-clause-follows g c = λ name loading.
    stops c.args.self.now c.in_ok-search.ensures.learns c.in_ok-search.ensures.targets loading _ _
    c.refusal.result Absent c.in-Absent.is (λ e. cc)
    (λ r p files there is. rw p (rw c.as_slice-file.ensures (NoFile is))) c.refusal.ensures

pub returns-then-len-ge-MAX_FILES-clause-follows : goal.returns-then-len-ge-MAX_FILES-clause-follows
returns-then-len-ge-MAX_FILES-clause-follows g c = λ name loading.
    let count = length-map c.args.self.now.sources.items seen in
    let full : length c.args.self.now.sources.items ≡ most_files =
    omega (arith, loading.begun.few, c.if-len-ge-MAX_FILES.true, c.len.ensures, count) in
    stops c.args.self.now c.in_ok-search.ensures.learns c.in_ok-search.ensures.targets loading _ _
    c.refusal-then-len-ge-MAX_FILES.result (Found c.in-Found.name c.in-Found.bytes) c.in-Found.is
    (λ e. cc) (λ r p files there is. rw p
    (rw (c.as_slice-file-then-len-ge-MAX_FILES.ensures, full)
    (Full (string_bytes c.in-Found.name) is refl)))
    c.refusal-then-len-ge-MAX_FILES.ensures

pub returns-in_err-source-in-Found-clause-follows :
    goal.returns-in_err-source-in-Found-clause-follows
returns-in_err-source-in-Found-clause-follows g c = λ name loading.
    let p = err_from_is_err_and c.from_residual-in_err-source-in-Found.result
    c.from_residual-in_err-source-in-Found.ensures.1 in
    rw (p.1, p.2)
    (stops c.args.self.now c.in_ok-search.ensures.learns c.in_ok-search.ensures.targets loading _
    (IsFault (string_bytes c.in-Found.name) c.in-Found.bytes.items)
    c.in_err-source-in-Found.field-0.0 (Found c.in-Found.name c.in-Found.bytes) c.in-Found.is
    (λ e. cc) (λ r bad files there is. Fault (string_bytes c.in-Found.name) c.in-Found.bytes.items r
    is (omega (arith, c.if-len-ge-MAX_FILES.false, c.len.ensures)) there bad)
    (rw c.as_bytes.ensures.value at c.in_err-source-in-Found.ensures))

pub returns-in_ok-add-in-Found-clause-follows : goal.returns-in_ok-add-in-Found-clause-follows
returns-in_ok-add-in-Found-clause-follows g c = λ name loading.
    loads c.args.self.now c.in_ok-search.ensures.learns c.in_ok-search.ensures.targets loading
    c.in-Found.name c.in-Found.bytes c.as_bytes.result.now c.in_ok-source-in-Found.source
    c.add.new.self c.in-Found.is (omega (arith, c.if-len-ge-MAX_FILES.false, c.len.ensures))
    c.as_bytes.ensures.value c.in_ok-source-in-Found.ensures c.in_ok-add-in-Found.ensures

pub returns-in_ok-add-in-Found-clause-less : goal.returns-in_ok-add-in-Found-clause-less
returns-in_ok-add-in-Found-clause-less g c =
    let more = ap length c.in_ok-add-in-Found.ensures.sources in
    let sum = length-append (all_of c.args.self.now) (seen c.in_ok-source-in-Found.source ∷ []) in
    let old = length-map c.args.self.now.sources.items seen in
    let new = length-map c.add.new.self.sources.items seen in
    let small = c.add.new.self.pending.small in
    omega (arith, c.if-len-ge-MAX_FILES.false, c.len.ensures, more, sum, old, new, small)
