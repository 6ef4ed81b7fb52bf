-- The lines of a circuit's signals: wires, names, and that they can be written.
use Rattle.std.proofs.Common.{◌≡◌, ◌≢◌, ℕ, zero, suc, ◌+◌, ◌*◌, ◌-◌}
use Rattle.std.proofs.Common.{◌/◌, ◌%◌, ◌<◌, ◌≤◌, ◌^◌, Bool, true, false}
use Rattle.std.proofs.Common.{cond, List, [], ◌∷◌, ◌++◌, length, take, get_or, Option}
use Rattle.std.proofs.Common.{Some, None}
use Rattle.std.proofs.Common.{Ok, refl, sym, ap, ◌∙◌, subst, arith, append_assoc, ltb, eqb}
use Rattle.std.proofs.Common.{decimal, ◌⊎◌, inl, inr}
use Rattle.std.specs.Prelude.{codes, slice_get, map, All, AllPairs}
use Rattle.std.specs.Int.{IsInRange}
use Rattle.std.specs.List.{position_or_len, flat_map}
use Rattle.std.specs.List.Sorted.{IsStrictlyIncreasing}
use Rattle.std.specs.Str.{IsUtf8}
use Rattle.std.proofs.lemmas.Bool.{cond-true, cond-false, lt-ltb, le-ltb, ne_eqb, eq-eqb, cases_lt}
use Rattle.std.proofs.lemmas.Bool.{cases_order}
use Rattle.std.proofs.lemmas.Fmt.{IsAscii-decimal}
use Rattle.std.proofs.lemmas.List.{append-nil, length-append, take_at, get_or_at, map-append}
use Rattle.std.proofs.lemmas.List.Concat.{flat_map-append}
use Rattle.std.proofs.lemmas.List.Elements.{All-nil, All-cons, All-append, All-head, All-tail}
use Rattle.std.proofs.lemmas.List.Elements.{All-take, All-push}
use Rattle.std.proofs.lemmas.List.Kept.{AllPairs-from_increasing}
use Rattle.std.proofs.lemmas.List.Sums.{position_or_len_is}
use Rattle.std.proofs.lemmas.Nat.{div_below}
use Rattle.std.proofs.lemmas.Option.{slice_get_within, get_or_from_slice_get}
use Rattle.std.proofs.lemmas.Str.{IsUtf8-append, IsUtf8-take, IsUtf8-from_ascii, IsUtf8-nil}
use Rattle.std.proofs.lemmas.Str.{IsCharBoundary-before_ascii}
use Rattle.text_lines.specs.Lines.{text_of, HasNo}
use Rattle.text_lines.proofs.Numerals.{digits_have_no}
use Rattle.cir_values.specs.declared.signals.Signals.{Signals}
use Rattle.cir_values.specs.declared.signals.SignalName.{SignalName}
use Rattle.cir_values.specs.Names.{brackets, AreWords, IsBase, HasName, IsNameOf}
use Rattle.cir_values.specs.Places.{elements, counted_on, place_of}
use Rattle.sym_file.specs.declared.line.SymLine.{SymLine}
use Rattle.sym_file.specs.Line.{line_of, symbols_text, symbols_of, IsNarrow, IsNarrowLine}
use Rattle.sym_file.specs.Line.{IsWritten}
use Rattle.sym_file.specs.Table.{IsInLine, CanBeNamed, CanAllBeNamed, AreKept, wire_among, IsLineOf}
use Rattle.sym_file.specs.Table.{AreLinesFrom, AreLinesOf, HasWritten, IsTextOf, IsSplit}
use Rattle.sym_file.proofs.Lines.{symbols_again}

-- wires
pub wire_found : (kept : List ℕ) (place n : ℕ) → place < length kept
    → get_or kept place 0 ≡ n
    → IsSplit kept place n → wire_among kept n ≡ Some place
wire_found kept place n within here split =
    let first : position_or_len (λ s. eqb s n) kept ≡ place =
    position_or_len_is (λ s. eqb s n) kept place 0 (omega arith)
    (λ k low. ne_eqb (get_or kept k 0) n (λ e. omega (arith, e, split.below k low)))
    (λ _. eq-eqb (get_or kept place 0) n here) in
    ap (λ (k : ℕ). cond (ltb k (length kept)) (Some k) None) first
    ∙ cond-true _ _ _ (lt-ltb place (length kept) within)

far : (kept : List ℕ) (i j : ℕ) → IsStrictlyIncreasing kept → i < j → j < length kept
    → get_or kept i 0 < get_or kept j 0
far kept i j rise low within = AllPairs-from_increasing kept rise i j 0 low within

not_kept : (kept : List ℕ) (place n k : ℕ) → IsStrictlyIncreasing kept
    → IsSplit kept place n
    → (place < length kept → get_or kept place 0 ≢ n) → k < length kept
    → get_or kept k 0 ≢ n
not_kept kept place n k rise split other within = cases (cases_lt k place) (cases_lt place k)
  where
    cases : (k < place) ⊎ (place ≤ k) → (place < k) ⊎ (k ≤ place)
        → get_or kept k 0 ≢ n
    cases (inl low) more = λ e. omega (arith, e, split.below k low)
    cases (inr high) (inl above) =
        let l : get_or kept place 0 < get_or kept k 0 = far kept place k rise above within in
        λ e. omega (arith, e, l, split.above place (omega arith) (omega arith))
    cases (inr high) (inr same) =
        let e : k ≡ place = omega arith in
        subst (λ (j : ℕ). get_or kept j 0 ≢ n) (sym e) (other (omega arith))

pub wire_missing : (kept : List ℕ) (place n : ℕ) → IsStrictlyIncreasing kept
    → IsSplit kept place n → (place < length kept → get_or kept place 0 ≢ n)
    → wire_among kept n ≡ None
wire_missing kept place n rise split other =
    let all : position_or_len (λ s. eqb s n) kept ≡ length kept =
    position_or_len_is (λ s. eqb s n) kept (length kept) 0 (omega arith)
    (λ k low. ne_eqb (get_or kept k 0) n (not_kept kept place n k rise split other low))
    (λ l. absurd (omega arith)) in
    ap (λ (k : ℕ). cond (ltb k (length kept)) (Some k) None) all
    ∙ cond-false _ _ _ (le-ltb (length kept) (length kept) (omega arith))

pub split_behind : (kept : List ℕ) (place n : ℕ) → IsStrictlyIncreasing kept
    → place < length kept
    → get_or kept place 0 ≡ n → IsSplit kept place n → IsSplit kept (place + 1) (n + 1)
split_behind kept place n rise within here split = record {
  below = λ k low. below k (cases_lt k place) low;
  above = λ k high inside.
      omega (arith, here, far kept place k rise (omega arith) inside);
}
  where
    below : (k : ℕ) → (k < place) ⊎ (place ≤ k) → k < place + 1
        → get_or kept k 0 < n + 1
    below k (inl low) l = omega (arith, split.below k low)
    below k (inr high) l =
        let e : k ≡ place = omega arith in
        omega (arith, here, ap (λ (j : ℕ). get_or kept j 0) e)

pub split_same : (kept : List ℕ) (place n : ℕ) → IsStrictlyIncreasing kept
    → IsSplit kept place n → (place < length kept → get_or kept place 0 ≢ n)
    → IsSplit kept place (n + 1)
split_same kept place n rise split other = record {
  below = λ k low. omega (arith, split.below k low);
  above = λ k high inside.
      omega (arith, split.above k high inside, not_kept kept place n k rise split other inside);
}

pub split_first : (signals : Signals) (kept : List ℕ) → AreKept signals kept
    → IsSplit kept 1 1
split_first signals kept h = record {
  below = λ k low. below k low;
  above = λ k high inside. omega (arith, far kept 0 k h.rise (omega arith) inside);
}
  where
    first : get_or kept 0 0 ≡ 0
    first = get_or_from_slice_get kept 0 0 0 h.one

    below : (k : ℕ) → k < 1 → get_or kept k 0 < 1
    below k low =
        let e : k ≡ 0 = omega arith in
        omega (arith, first, ap (λ (j : ℕ). get_or kept j 0) e)

-- a line
pub line_added : (old label wire instance name s1 s2 s3 s4 s5 s6 s7 s8 : List ℕ)
    → s1 ≡ old ++ label → s2 ≡ s1 ++ 44 ∷ [] → s3 ≡ s2 ++ wire
    → s4 ≡ s3 ++ 44 ∷ []
    → s5 ≡ s4 ++ instance → s6 ≡ s5 ++ 44 ∷ [] → s7 ≡ s6 ++ name
    → s8 ≡ s7 ++ 10 ∷ []
    → s8 ≡ old ++ ((label ++ 44 ∷ (wire ++ 44 ∷ (instance ++ 44 ∷ name))) ++ 10 ∷ [])
line_added old label wire instance name s1 s2 s3 s4 s5 s6 s7 s8 h1 h2 h3 h4 h5 h6 h7 h8 =
    h8 ∙ rw (h7, h6, h5, h4, h3, h2, h1) (simp append_assoc)

-- a place has its indices
abbrev index_of : List ℕ → ℕ → List ℕ
index_of [] place = []
index_of (d ∷ ds) place = place / elements ds ∷ index_of ds (place % elements ds)

some_elements : (d e place : ℕ) → place < d * e → 0 < e
some_elements d e place h = cases (cases_lt 0 e)
  where
    cases : (0 < e) ⊎ (e ≤ 0) → 0 < e
    cases (inl some) = some
    cases (inr none) =
        let zero : e ≡ 0 = omega arith in
        let none_at_all : d * e ≡ 0 = ap (λ (n : ℕ). d * n) zero ∙ omega arith in
        absurd (omega (arith, none_at_all))

placed : (dims : List ℕ) (place : ℕ) → place < elements dims
    → place_of dims (index_of dims place) ≡ Some place
placed [] place h = let zero : 0 ≡ place = omega arith in ap Some zero
placed (d ∷ ds) place h =
    let e : ℕ = elements ds in
    let some : 0 < e = some_elements d e place h in
    let row : place / e < d = div_below place e d some h in
    let rest : place % e < e = omega arith in
    let parts : place / e * e + place % e ≡ place = omega arith in
    cond-true _ _ _ (lt-ltb (place / e) d row)
    ∙ (ap (counted_on (place / e * e)) (placed ds (place % e) rest) ∙ ap Some parts)

-- the name of a signal, among its indices
pub local_is : (signals : Signals) (n : ℕ) (h : HasName signals n) (entry : SignalName)
    (local : List ℕ) → slice_get signals.names (n - 1) ≡ Some entry → IsNameOf entry local
    → local ≡ h.named.declared ++ brackets (index_of h.named.dims h.entry.place)
local_is signals n h entry local there named =
    let some : Some h.entry ≡ Some entry = sym h.there ∙ there in
    let same : h.entry ≡ entry = cc in
    let of_entry : IsNameOf h.entry local = subst (λ (e : SignalName). IsNameOf e local) (sym same)
    named in
    of_entry h.named.declared h.named.dims (index_of h.named.dims h.entry.place) h.named.base
    (placed h.named.dims h.entry.place h.named.inside)

-- text of one line
whole_line : (front rest : List ℕ) → IsInLine front → IsInLine rest
    → IsInLine (front ++ rest)
whole_line front rest f r = record {
  utf8 = IsUtf8-append front rest f.utf8 r.utf8;
  one_line = All-append (λ b. b ≢ 10) front rest f.one_line r.one_line;
}

one_byte : (b : ℕ) → b < 128 → b ≢ 10 → IsInLine (b ∷ [])
one_byte b small apart = record {
  utf8 = IsUtf8-from_ascii (b ∷ []) ascii;
  one_line = All-cons (λ c. c ≢ 10) b [] apart (All-nil (λ c. c ≢ 10));
}
  where
    ascii : (i : ℕ) → get_or (b ∷ []) i 0 < 128
    ascii zero = small
    ascii (suc i) = omega arith

nothing_at_all : IsInLine []
nothing_at_all = record { utf8 = IsUtf8-nil; one_line = All-nil (λ b. b ≢ 10) }

numeral : (n : ℕ) → n < 2 ^ 32 → IsInLine (decimal n)
numeral n small = record {
  utf8 = IsUtf8-from_ascii (decimal n) (IsAscii-decimal n (omega arith));
  one_line = digits_have_no 10 n (λ (r : IsInRange 48 57 10). omega (arith, r.0)) (omega arith);
}

in_brackets : (ns : List ℕ) → AreWords ns → IsInLine (brackets ns)
in_brackets [] h = nothing_at_all
in_brackets (n ∷ ns) h =
    whole_line (91 ∷ []) (decimal n ++ 93 ∷ brackets ns)
    (one_byte 91 (omega arith) (λ e. omega (arith, e)))
    (whole_line (decimal n) (93 ∷ brackets ns) (numeral n h.0)
    (whole_line (93 ∷ []) (brackets ns) (one_byte 93 (omega arith) (λ e. omega (arith, e)))
    (in_brackets ns h.1)))

indices_are_words : (dims : List ℕ) (place : ℕ) → AreWords dims → place < elements dims
    → AreWords (index_of dims place)
indices_are_words [] place w h = tt
indices_are_words (d ∷ ds) place w h =
    let e : ℕ = elements ds in
    let some : 0 < e = some_elements d e place h in
    let row : place / e < d = div_below place e d some h in
    (omega (arith, row, w.0), indices_are_words ds (place % e) w.1 (omega arith))

-- the front of a base
front_of : (declared dims : List ℕ) → IsUtf8 (declared ++ brackets dims) → IsUtf8 declared
front_of declared [] h = subst IsUtf8 (append-nil declared) h
front_of declared (d ∷ ds) h =
    let rest : List ℕ = decimal d ++ 93 ∷ brackets ds in
    let all : List ℕ = declared ++ 91 ∷ rest in
    let byte : get_or all (length declared) 0 ≡ 91 =
    get_or_at declared 91 rest 0 (length declared) refl in
    let cut : IsUtf8 (take (length declared) all) =
    IsUtf8-take all (length declared) h (IsCharBoundary-before_ascii all (length declared)
    (omega (arith, length-append declared (91 ∷ rest))) (omega (arith, byte))) in
    subst IsUtf8 (take_at declared (91 ∷ rest) (length declared) refl) cut

declared_fits : (declared dims base : List ℕ) → IsBase declared dims base → IsInLine base
    → IsInLine declared
declared_fits declared dims base b h =
    let whole : IsInLine (declared ++ brackets dims) = subst IsInLine b.spelled h in record {
      utf8 = front_of declared dims whole.utf8;
      one_line = subst (HasNo 10) (take_at declared (brackets dims) (length declared) refl)
          (All-take (λ b. b ≢ 10) (length declared) (declared ++ brackets dims) whole.one_line);
    }

-- a line that can be written
path_is : (instances : List (List ℕ)) (i j : ℕ) (p q : List ℕ) → i ≡ j
    → slice_get instances i ≡ Some p → slice_get instances j ≡ Some q → p ≡ q
path_is instances i j p q e a b =
    let some : Some p ≡ Some q = sym a ∙ (ap (slice_get instances) e ∙ b) in
    let same : p ≡ q = cc in same

entry_is : (signals : Signals) (n : ℕ) (a b : SignalName)
    → slice_get signals.names (n - 1) ≡ Some a → slice_get signals.names (n - 1) ≡ Some b
    → a ≡ b
entry_is signals n a b p q =
    let some : Some a ≡ Some b = sym p ∙ q in
    let same : a ≡ b = cc in same

-- what is the name of the signal
abbrev full : (signals : Signals) (instances : List (List ℕ)) (n : ℕ)
    → CanBeNamed signals instances n → List ℕ
full signals instances n c =
    c.path ++ (46 ∷ (c.name.named.declared
    ++ brackets (index_of c.name.named.dims c.name.entry.place)))

full_is : (signals : Signals) (instances : List (List ℕ)) (n : ℕ) (wire : Option ℕ)
    (line : SymLine) (c : CanBeNamed signals instances n) → IsLineOf signals instances n wire line
    → line.name ≡ full signals instances n c
full_is signals instances n wire line c is =
    let same : is.entry ≡ c.name.entry = entry_is signals n is.entry c.name.entry is.there
    c.name.there in
    let path : is.path ≡ c.path =
    path_is instances is.entry.instance c.name.entry.instance is.path c.path
    (ap (λ (e : SignalName). e.instance) same) is.instance_there c.instance in
    let local : is.local ≡ c.name.named.declared
    ++ brackets (index_of c.name.named.dims c.name.entry.place) =
    local_is signals n c.name is.entry is.local is.there (is.named is.entry is.there) in
    is.name ∙ (ap (λ (p : List ℕ). p ++ (46 ∷ is.local)) path
    ∙ ap (λ (l : List ℕ). c.path ++ (46 ∷ l)) local)

full_fits : (signals : Signals) (instances : List (List ℕ)) (n : ℕ)
    (c : CanBeNamed signals instances n) → IsInLine (full signals instances n c)
full_fits signals instances n c =
    let h = c.name.named in
    let index : List ℕ = index_of h.dims c.name.entry.place in
    whole_line c.path (46 ∷ (h.declared ++ brackets index)) c.path_fits
    (whole_line (46 ∷ []) (h.declared ++ brackets index)
    (one_byte 46 (omega arith) (λ e. omega (arith, e)))
    (whole_line h.declared (brackets index)
    (declared_fits h.declared h.dims c.name.entry.base h.base c.base_fits)
    (in_brackets index (indices_are_words h.dims c.name.entry.place h.base.small h.inside))))

line_written : (signals : Signals) (instances : List (List ℕ)) (n : ℕ) (wire : Option ℕ)
    (line : SymLine) → CanBeNamed signals instances n → IsLineOf signals instances n wire line
    → IsNarrowLine line → IsWritten line
line_written signals instances n wire line c is narrow =
    let name : line.name ≡ full signals instances n c = full_is signals instances n wire line c is
    in
    let fits : IsInLine line.name =
    subst IsInLine (sym name) (full_fits signals instances n c) in record {
      narrow = narrow;
      some = omega (arith, ap length is.name, length-append is.path (46 ∷ is.local));
      utf8 = fits.utf8;
      one_line = fits.one_line;
    }

same_line : (signals : Signals) (instances : List (List ℕ)) (n : ℕ) (wire : Option ℕ)
    (a b : SymLine) → CanBeNamed signals instances n → IsLineOf signals instances n wire a
    → IsLineOf signals instances n wire b → a ≡ b
same_line signals instances n wire a b c x y =
    let entries : x.entry ≡ y.entry = entry_is signals n x.entry y.entry x.there y.there in
    let label : a.label ≡ b.label = x.label ∙ sym y.label in
    let wires : a.wire ≡ b.wire = x.wire_is ∙ sym y.wire_is in
    let instance : a.instance ≡ b.instance =
    x.instance ∙ (ap (λ (e : SignalName). e.instance) entries ∙ sym y.instance) in
    let name : a.name ≡ b.name =
    full_is signals instances n wire a c x ∙ sym (full_is signals instances n wire b c y) in
    λ i. record { label = label i; wire = wires i; instance = instance i; name = name i }

-- all lines
module _ (signals : Signals) (instances : List (List ℕ)) (kept : List ℕ) where
  pub lines_more : (n : ℕ) (lines : List SymLine) (line : SymLine)
      → AreLinesFrom signals instances kept n lines
      → IsLineOf signals instances (n + length lines) (wire_among kept (n + length lines)) line
      → AreLinesFrom signals instances kept n (lines ++ line ∷ [])
  lines_more n [] line h is =
      let e : n + 0 ≡ n = omega arith in
      (subst (λ (m : ℕ). IsLineOf signals instances m (wire_among kept m) line) e is, tt)
  lines_more n (x ∷ xs) line h is =
      let e : n + length (x ∷ xs) ≡ n + 1 + length xs = omega arith in (
        h.0,
        lines_more (n + 1) xs line h.1
            (subst (λ (m : ℕ). IsLineOf signals instances m (wire_among kept m) line) e is),
      )

  abbrev NamedFrom : (n count : ℕ) → Type 0
  NamedFrom n count = (m : ℕ) → n ≤ m → m < n + count → CanBeNamed signals instances m

  all_written : (n : ℕ) (lines : List SymLine) → AreLinesFrom signals instances kept n lines
      → All IsNarrowLine lines → NamedFrom n (length lines) → All IsWritten lines
  all_written n [] h narrow c = All-nil IsWritten
  all_written n (x ∷ xs) h narrow c =
      All-cons IsWritten x xs
      (line_written signals instances n (wire_among kept n) x (c n (omega arith) (omega arith)) h.0
      (All-head IsNarrowLine x xs narrow))
      (all_written (n + 1) xs h.1 (All-tail IsNarrowLine x xs narrow)
      (λ m low high. c m (omega arith) (omega arith)))

  all_same : (n : ℕ) (as' bs : List SymLine) → length as' ≡ length bs
      → AreLinesFrom signals instances kept n as' → AreLinesFrom signals instances kept n bs
      → NamedFrom n (length as') → as' ≡ bs
  all_same n [] [] e h k c = refl
  all_same n [] (y ∷ ys) e h k c = absurd (omega (arith, e))
  all_same n (x ∷ xs) [] e h k c = absurd (omega (arith, e))
  all_same n (x ∷ xs) (y ∷ ys) e h k c =
      let first : x ≡ y = same_line signals instances n (wire_among kept n) x y
      (c n (omega arith) (omega arith)) h.0 k.0 in
      let rest : xs ≡ ys = all_same (n + 1) xs ys (omega (arith, e)) h.1 k.1
      (λ m low high. c m (omega arith) (omega arith)) in
      ap (λ (l : SymLine). l ∷ xs) first ∙ ap (λ (ls : List SymLine). y ∷ ls) rest

  from_all : CanAllBeNamed signals instances → (count : ℕ) → count ≡ length signals.names
      → NamedFrom 1 count
  from_all named count e m low high = named m (omega arith) (omega (arith, high, e))

  pub one_answer : CanAllBeNamed signals instances → (as' bs : List SymLine)
      → AreLinesOf signals instances kept as' → AreLinesOf signals instances kept bs
      → as' ≡ bs
  one_answer named as' bs a b =
      all_same 1 as' bs (a.many ∙ sym b.many) a.are b.are (from_all named (length as') a.many)

  pub text_first : HasWritten signals instances kept 0 []
  text_first = record {
    lines = [];
    many = refl;
    are = tt;
    narrow = All-nil IsNarrowLine;
    text_is = refl;
  }

  pub text_more : (count : ℕ) (text after : List ℕ) (line : SymLine)
      → HasWritten signals instances kept count text
      → IsLineOf signals instances (count + 1) (wire_among kept (count + 1)) line
      → IsNarrowLine line → after ≡ text ++ (line_of line ++ 10 ∷ [])
      → HasWritten signals instances kept (count + 1) after
  text_more count text after line h is narrow e =
      let front : List (List ℕ) = map line_of h.lines in
      let feed : List ℕ → List ℕ = λ l. l ++ 10 ∷ [] in
      let number : count + 1 ≡ 1 + length h.lines = omega (arith, h.many) in
      let one : flat_map feed (line_of line ∷ []) ≡ feed (line_of line) =
      append-nil (feed (line_of line)) in
      let both : flat_map feed (front ++ line_of line ∷ [])
      ≡ flat_map feed front ++ flat_map feed (line_of line ∷ []) =
      flat_map-append feed front (line_of line ∷ []) in
      let all : symbols_text (h.lines ++ line ∷ [])
      ≡ symbols_text h.lines ++ (line_of line ++ 10 ∷ []) =
      ap text_of (map-append line_of h.lines (line ∷ []))
      ∙ (both ∙ ap (λ (l : List ℕ). flat_map feed front ++ l) one) in record {
        lines = h.lines ++ line ∷ [];
        many = length-append h.lines (line ∷ []) ∙ omega (arith, h.many);
        are = lines_more 1 h.lines line h.are
            (subst (λ (m : ℕ). IsLineOf signals instances m (wire_among kept m) line) number is);
        narrow = All-push IsNarrowLine h.lines line h.narrow narrow;
        text_is =
            e ∙ (ap (λ (l : List ℕ). l ++ (line_of line ++ 10 ∷ [])) h.text_is ∙ sym all);
      }

  pub text_done : (text : List ℕ)
      → HasWritten signals instances kept (length signals.names) text
      → IsTextOf signals instances kept text
  text_done text h = record {
    lines = h.lines;
    are = record { many = h.many; are = h.are };
    text_is = h.text_is;
  }

  pub text_back : CanAllBeNamed signals instances → length signals.names ≤ 16777216
      → (text : List ℕ) → HasWritten signals instances kept (length signals.names) text
      → (lines : List SymLine) → AreLinesOf signals instances kept lines
      → symbols_of text ≡ Ok lines
  text_back named few text h lines are =
      let same : h.lines ≡ lines =
      one_answer named h.lines lines record { many = h.many; are = h.are } are in
      let written : All IsWritten h.lines =
      all_written 1 h.lines h.are h.narrow (from_all named (length h.lines) h.many) in
      ap symbols_of h.text_is
      ∙ (symbols_again h.lines written (omega (arith, h.many, few)) ∙ ap Ok same)
