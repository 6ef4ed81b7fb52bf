-- Over the same files a name has one answer.
use Rattle.std.proofs.Common.{◌≡◌, ℕ, ◌+◌, ◌<◌, ◌≤◌, Bool, true, false, cond, List, [], ◌∷◌, ◌++◌}
use Rattle.std.proofs.Common.{length, Option, None, Some, Result, Ok, Err, refl, sym, ap, subst}
use Rattle.std.proofs.Common.{◌∙◌, arith, ◌⊎◌, inl, inr}
use Rattle.std.specs.Prelude.{All, ◌||◌}
use Rattle.std.specs.Str.{bytes_eq}
use Rattle.std.proofs.lemmas.List.Elements.{All-head, All-tail}
use Rattle.std.proofs.lemmas.Slice.Eq.{bytes_eq-Decides}
use Rattle.cir_lexer.specs.declared.fault.LexFault.{LexFault}
use Rattle.cir_lexer.specs.declared.fault.LexFault.TheVariants as lex
use Rattle.cir_lexer.specs.Reading.{IsReading}
use Rattle.cir_lexer.proofs.Unique.{reading_same}
use Rattle.cir_ast.specs.declared.refusal.Form.{Form}
use Rattle.cir_ast.specs.declared.refusal.Form.TheVariants.{Version}
use Rattle.cir_ast.specs.declared.refusal.Kind.TheVariants.{Lexical, NotInProfile, Syntax}
use Rattle.cir_ast.specs.Spot.{spot_at, refusal_at}
use Rattle.cir_expression.specs.Answers.{kinds}
use Rattle.cir_parse.specs.Marks.{spot_before}
use Rattle.cir_parse.proofs.Files.{same_marked, unread_no_tree, one_first_unread}
use Rattle.cir_sources.specs.Places.{Token, Spot, spots_of, spot_of, most_bytes}
use Rattle.cir_sources.specs.Includes.{Contents, PlainFile, Site, Source, IsFile, IsRead, IsSource}
use Rattle.cir_sources.specs.Includes.{other_version, includes_of, included_name, is_loaded}
use Rattle.cir_sources.specs.Includes.{sites_to_follow}
use Rattle.cir_sources.specs.Includes.{follow, left_after}
use Rattle.cir_sources.specs.Faults.{Refusal, IsUnfit, LeftOut, NoTree, OtherVersion, IsFault, Long}
use Rattle.cir_sources.specs.Faults.{NoTokens, Unfit, IsStop, Absent, Full, Fault, most_files}
use Rattle.cir_sources.specs.Loading.{AreReached, AreAll, IsFirstFault, IsIncludeFault, Answer}
use Rattle.cir_sources.specs.Loading.{Sources, NoFile, Refused, IsAnswer}
use Rattle.cir_sources.proofs.Searching.{held_there}

-- ---- what bytes mean is one

same_tree : (tokens : List Token) (spots : List Spot) (f g : PlainFile Spot) → IsFile tokens spots f
    → IsFile tokens spots g → f ≡ g
same_tree tokens spots f g p q =
    sym p.places
    ∙ same_marked Spot Spot Spot (spot_before spots) f g p.is_tree.shaped q.is_tree.shaped
    (p.is_tree.prints ∙ sym q.is_tree.prints)
    ∙ q.places

same_read : (bytes : List ℕ) (f g : PlainFile Spot) → IsRead bytes f → IsRead bytes g → f ≡ g
same_read bytes f g p q =
    let both = reading_same bytes (Ok p.tokens) (Ok q.tokens) p.reading q.reading in
    let same : p.tokens ≡ q.tokens = cc in
    same_tree q.tokens (spots_of bytes q.tokens) f g (rw same at p.file) q.file

same_file : (files : Contents) (s t : Source) → s.name ≡ t.name → IsSource files s
    → IsSource files t → s ≡ t
same_file files s t names p q =
    let bytes : p.bytes ≡ q.bytes = cc (p.there, q.there, names) in
    let trees : s.tree ≡ t.tree = same_read q.bytes s.tree t.tree (rw bytes at p.read) q.read in
    λ i. record { name = names i; tree = trees i }

-- ---- a fault is one

-- tokens of a file are only refused for its version
version_only : (name : List ℕ) (tokens : List Token) (spots : List Spot) (tree : PlainFile Spot)
    (r : Refusal) → IsFile tokens spots tree → IsUnfit name tokens spots r
    → (spot : Spot) × (other_version tree ≡ Some spot)
    × (r ≡ refusal_at name (NotInProfile Version) spot)
version_only name tokens spots tree r file (LeftOut m f h) = cc (file.whole, h)
version_only name tokens spots tree r file (NoTree m h l u) =
    absurd (unread_no_tree Spot Spot (kinds tokens) m tree u file.is_tree)
version_only name tokens spots tree r file (OtherVersion other spot is v) =
    (spot, ap other_version (same_tree tokens spots tree other file is) ∙ v, refl)

unfit_same : (name : List ℕ) (tokens : List Token) (spots : List Spot) (r q : Refusal)
    → IsUnfit name tokens spots r → IsUnfit name tokens spots q → r ≡ q
unfit_same name tokens spots r q (LeftOut m f h) (LeftOut n g k) =
    let same : (m, f) ≡ (n, g) = cc (h, k) in
    ap (λ (x : ℕ × Form). refusal_at name (NotInProfile x.1) (spot_of spots x.0)) same
unfit_same name tokens spots r q (LeftOut m f h) (NoTree n k l u) = cc (h, k)
unfit_same name tokens spots r q (NoTree m h l u) (LeftOut n g k) = cc (h, k)
unfit_same name tokens spots r q (NoTree m h l u) (NoTree n k x v) =
    ap (λ n. refusal_at name Syntax (spot_of spots n))
    (one_first_unread Spot (kinds tokens) m n u v)
unfit_same name tokens spots r q (OtherVersion tree spot is v) other =
    let f = version_only name tokens spots tree q is other in
    let same : spot ≡ f.0 = cc (v, f.1) in
    ap (λ (s : Spot). refusal_at name (NotInProfile Version) s) same ∙ sym f.2
unfit_same name tokens spots r q other (OtherVersion tree spot is v) =
    let f = version_only name tokens spots tree r is other in
    let same : f.0 ≡ spot = cc (v, f.1) in
    f.2 ∙ ap (λ (s : Spot). refusal_at name (NotInProfile Version) s) same

-- what a reading of the bytes says of a fault
abbrev ByReading : List ℕ → List ℕ → Refusal → Result (List Token) LexFault → Type 0
ByReading name bytes r (Ok tokens) = IsUnfit name tokens (spots_of bytes tokens) r
ByReading name bytes r (Err (lex.At cause offset)) =
    r ≡ refusal_at name (Lexical cause) (spot_at bytes offset)
ByReading name bytes r (Err lex.OutOfMemory) = ⊥

by_reading : (name bytes : List ℕ) (r : Refusal) (x : Result (List Token) LexFault)
    → length bytes ≤ most_bytes → IsReading bytes x → IsFault name bytes r
    → ByReading name bytes r x
by_reading name bytes r x short reading (Long a) = absurd (omega (arith, a, short))
by_reading name bytes r x short reading (NoTokens c o a u) =
    subst (ByReading name bytes r) (reading_same bytes (Err (lex.At c o)) x u reading) refl
by_reading name bytes r x short reading (Unfit t q a u v) =
    subst (ByReading name bytes r) (reading_same bytes (Ok t) x u reading) v

fault_same : (name bytes : List ℕ) (r q : Refusal) → IsFault name bytes r → IsFault name bytes q
    → r ≡ q
fault_same name bytes r q (Long a) (Long b) = refl
fault_same name bytes r q (Long a) (NoTokens d o b g) = absurd (omega (arith, a, b))
fault_same name bytes r q (Long a) (Unfit t p b g u) = absurd (omega (arith, a, b))
fault_same name bytes r q (NoTokens c o a u) other =
    sym (by_reading name bytes q (Err (lex.At c o)) a u other)
fault_same name bytes r q (Unfit t p a u v) other =
    unfit_same name t (spots_of bytes t) r q v (by_reading name bytes q (Ok t) a u other)

-- a source has no fault
faultless : (name bytes : List ℕ) (tree : PlainFile Spot) (r : Refusal) → IsRead bytes tree
    → IsFault name bytes r → ⊥
faultless name bytes tree r p fault =
    let f = version_only name p.tokens (spots_of bytes p.tokens) tree r p.file
    (by_reading name bytes r (Ok p.tokens) p.short p.reading fault) in cc (f.1, p.version)

module _ (files : Contents) (library : Option (List ℕ)) where
  -- ---- an include that can't be followed

  stop_same : (count : ℕ) (site : Site) (r q : Refusal) → IsStop files library count site r
      → IsStop files library count site q → r ≡ q
  stop_same count site r q (Absent h) (Absent k) = refl
  stop_same count site r q (Absent h) (Full n k l) = cc (h, k)
  stop_same count site r q (Absent h) (Fault n b s k l m f) = cc (h, k)
  stop_same count site r q (Full m h g) (Absent k) = cc (h, k)
  stop_same count site r q (Full m h g) (Full n k l) = refl
  stop_same count site r q (Full m h g) (Fault n b s k l o f) = absurd (omega (arith, g, l))
  stop_same count site r q (Fault m a s h g i e) (Absent k) = cc (h, k)
  stop_same count site r q (Fault m a s h g i e) (Full n k l) = absurd (omega (arith, g, l))
  stop_same count site r q (Fault m a s h g i e) (Fault n b t k l o f) =
      let names : m ≡ n = cc (h, k) in
      let bytes : a ≡ b = cc (names, i, o) in
      fault_same m a r q e (rw (names, bytes) f)

  -- an include that names a source can be followed while there are fewer files than there may be
  no_stop : (count : ℕ) (site : Site) (r : Refusal) (s : Source) → IsStop files library count site r
      → included_name files library site ≡ Some s.name → count < most_files
      → IsSource files s → ⊥
  no_stop count site r s (Absent h) is few source = cc (h, is)
  no_stop count site r s (Full m h g) is few source = omega (arith, g, few)
  no_stop count site r s (Fault m a q h g i e) is few source =
      let names : m ≡ s.name = cc (h, is) in
      let bytes : a ≡ source.bytes = cc (names, i, source.there) in
      faultless m a s.tree r (rw bytes source.read) e

  -- ---- from one source to the next

  -- where this file is followed, the first include names it
  followed : (name : List ℕ) (sites left : List Site) (go : List Site → Option (List Site))
      → follow files library name sites go ≡ Some left
      → (site : Site) × (rest : List Site) × (sites ≡ site ∷ rest)
      × (included_name files library site ≡ Some name) × (go rest ≡ Some left)
  followed name [] left go h = cc
  followed name (site ∷ rest) left go h =
      let x = named_by (included_name files library site) h in (site, rest, refl, x.0, x.1)
    where
      by_test : (n : List ℕ) (b : Bool) → bytes_eq name n ≡ b
          → cond (b || false) (go rest) None ≡ Some left
          → (Some n ≡ Some name) × (go rest ≡ Some left)
      by_test n true e k = (ap Some (sym ((bytes_eq-Decides name n).0 e)), k)
      by_test n false e k = cc

      named_by : (o : Option (List ℕ)) → cond (is_loaded (name ∷ []) o) (go rest) None ≡ Some left
          → (o ≡ Some name) × (go rest ≡ Some left)
      named_by None k = cc
      named_by (Some n) k = by_test n (bytes_eq name n) refl k

  -- no source can follow where these includes are left
  abbrev IsEnd : List Site → Type 0
  IsEnd left = (site : Site) (rest : List Site) (s : Source) → left ≡ site ∷ rest
      → included_name files library site ≡ Some s.name → IsSource files s → ⊥

  no_further : (sites l m : List Site) (s : Source) (go : List Site → Option (List Site))
      → Some sites ≡ Some l → follow files library s.name sites go ≡ Some m → IsSource files s
      → IsEnd l → ⊥
  no_further sites l m s go h k source end =
      let f = followed s.name sites m go k in
      let here : l ≡ sites = cc in
      end f.0 f.1 s (here ∙ f.2) f.3 source

  -- lists of sources that lead on from the same includes are one, if the shorter one is at an end
  one_way : (loaded : List (List ℕ)) (sites : List Site) (ss ts : List Source) (l m : List Site)
      → left_after files library loaded sites ss ≡ Some l
      → left_after files library loaded sites ts ≡ Some m → All (IsSource files) ss
      → All (IsSource files) ts → (length ss < length ts → IsEnd l)
      → (length ts < length ss → IsEnd m) → (ss ≡ ts) × (l ≡ m)
  one_way loaded sites [] [] l m h k ps qs x y = (refl, cc)
  one_way loaded sites [] (t ∷ ts) l m h k ps qs x y =
      absurd (no_further (sites_to_follow files library loaded sites) l m t _ h k
      (All-head (IsSource files) t ts qs) (x (omega arith)))
  one_way loaded sites (s ∷ ss) [] l m h k ps qs x y =
      absurd (no_further (sites_to_follow files library loaded sites) m l s _ k h
      (All-head (IsSource files) s ss ps) (y (omega arith)))
  one_way loaded sites (s ∷ ss) (t ∷ ts) l m h k ps qs x y =
      let f = followed s.name (sites_to_follow files library loaded sites) l _ h in
      let g = followed t.name (sites_to_follow files library loaded sites) m _ k in
      let both : f.0 ∷ f.1 ≡ g.0 ∷ g.1 = sym f.2 ∙ g.2 in
      let names : s.name ≡ t.name = cc (both, f.3, g.3) in
      let rest : f.1 ≡ g.1 = cc both in
      let same : s ≡ t =
      same_file files s t names (All-head (IsSource files) s ss ps)
      (All-head (IsSource files) t ts qs) in
      let later = one_way (loaded ++ s.name ∷ []) (includes_of s ++ f.1) ss ts l m f.4
      (rw rest (rw same g.4)) (All-tail (IsSource files) s ss ps)
      (All-tail (IsSource files) t ts qs) (λ less. x (omega (arith, less)))
      (λ less. y (omega (arith, less))) in
      (ap (λ x. x ∷ ss) same ∙ ap (λ xs. t ∷ xs) later.0, later.1)

  -- ---- the answer

  module _ (name : List ℕ) where
    -- what is reached is one, where no more sources can follow
    same_reached : {f g : Source} {more others : List Source} {l m : List Site}
        → AreReached files name library f more l → AreReached files name library g others m
        → (1 + length more < most_files → IsEnd l) → (1 + length others < most_files → IsEnd m)
        → (f ≡ g) × (more ≡ others) × (l ≡ m)
    same_reached {f = f} {g = g} {more = more} {others = others} {l = l} {m = m} p q x y =
        let same : f ≡ g = same_file files f g (p.named ∙ sym q.named) p.source q.source in
        let e = one_way (name ∷ []) (includes_of f) more others l m p.sites (rw same q.sites)
        p.sources q.sources (λ less. x (omega (arith, less, q.few)))
        (λ less. y (omega (arith, less, p.few))) in
        (same, e.0, e.1)

    at_all : (count : ℕ) → count < most_files → IsEnd []
    at_all count few site rest s e is source = cc

    at_stop : (r : Refusal) (x : IsIncludeFault files name library r)
        → 1 + length x.more < most_files → IsEnd (x.site ∷ x.rest)
    at_stop r x few site rest s e is source =
        let same : x.site ≡ site = cc in
        no_stop (1 + length x.more) x.site r s x.stop (rw same is) few source

    -- the bytes of the first source are the file's
    first_there : {f : Source} {more : List Source} {l : List Site}
        (p : AreReached files name library f more l) → files name ≡ Some p.source.bytes
    first_there p = held_there files name p.source.bytes (rw p.named at p.source.there)

    first_or_reached : {f : Source} {more : List Source} {l : List Site} (r : Refusal)
        → IsFirstFault files name r → AreReached files name library f more l → ⊥
    first_or_reached {f = f} r x p =
        let bytes : x.bytes ≡ p.source.bytes = cc (x.there, first_there p) in
        faultless name x.bytes f.tree r (rw bytes p.source.read) x.fault

    pub one_list : (a b : List Source) → AreAll files name library a → AreAll files name library b
        → a ≡ b
    one_list a b p q =
        let e = same_reached p.reached q.reached (at_all _) (at_all _) in
        cc (p.parts, q.parts, e.0, e.1)

    pub one_refusal : (r q : Refusal) → IsFirstFault files name r
        ⊎ IsIncludeFault files name library r → IsFirstFault files name q
        ⊎ IsIncludeFault files name library q → r ≡ q
    one_refusal r q (inl x) (inl y) =
        let bytes : x.bytes ≡ y.bytes = cc (x.there, y.there) in
        fault_same name x.bytes r q x.fault (rw bytes y.fault)
    one_refusal r q (inl x) (inr y) = absurd (first_or_reached r x y.reached)
    one_refusal r q (inr x) (inl y) = absurd (first_or_reached q y x.reached)
    one_refusal r q (inr x) (inr y) =
        let e = same_reached x.reached y.reached (at_stop r x) (at_stop q y) in
        let site : x.site ≡ y.site = cc e.2 in
        stop_same (1 + length x.more) x.site r q x.stop (rw (site, e.1) y.stop)

    pub all_or_refused : (a : List Source) (r : Refusal) → AreAll files name library a
        → IsFirstFault files name r ⊎ IsIncludeFault files name library r → ⊥
    all_or_refused a r p (inl x) = first_or_reached r x p.reached
    all_or_refused a r p (inr x) =
        let e = same_reached p.reached x.reached (at_all _) (at_stop r x) in cc e.2

    pub there_or_all : (a : List Source) → files name ≡ None → AreAll files name library a → ⊥
    there_or_all a none p = cc (none, first_there p.reached)

    pub there_or_refused : (r : Refusal) → files name ≡ None → IsFirstFault files name r
        ⊎ IsIncludeFault files name library r → ⊥
    there_or_refused r none (inl x) = cc (none, x.there)
    there_or_refused r none (inr x) = cc (none, first_there x.reached)

    pub one_answer : (a b : Answer) → IsAnswer files name library a → IsAnswer files name library b
        → a ≡ b
    one_answer (Sources a) (Sources b) p q = ap Sources (one_list a b p q)
    one_answer (Sources a) NoFile p q = absurd (there_or_all a q p)
    one_answer (Sources a) (Refused r) p q = absurd (all_or_refused a r p q)
    one_answer NoFile (Sources b) p q = absurd (there_or_all b p q)
    one_answer NoFile NoFile p q = refl
    one_answer NoFile (Refused r) p q = absurd (there_or_refused r p q)
    one_answer (Refused r) (Sources b) p q = absurd (all_or_refused b r q p)
    one_answer (Refused r) NoFile p q = absurd (there_or_refused r q p)
    one_answer (Refused r) (Refused s) p q = ap Refused (one_refusal r s p q)
